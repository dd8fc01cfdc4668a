pub mod BoundLemmas
pub mod FoldLaws
