-- What the proofs of one stream give, as it is used here.
use Rattle.std.proofs.Common.{◌≡◌, ℕ, ap, ◌∙◌, List}
use Rattle.otel_model_stream.specs.Folds.{Aggregate}
use Rattle.otel_model_stream.specs.Events.{Event, Kind}
use Rattle.otel_model_stream.specs.Machine.{begin, run, points}
use Rattle.otel_model_stream.specs.Windows.{opening, window, points_of}
use Rattle.otel_model_stream.proofs.Whole.{run_is, same_points}
pub use Rattle.otel_model_stream.proofs.Whole.{places_are, counted_are}
pub use Rattle.otel_model_stream.proofs.Conserved.{delta_total, cumulative_total, few_are}

pub points_of_run : (σ : Aggregate) (kind : Kind) (limit : ℕ) (es : List Event) → points kind (run σ kind limit (begin σ) es) ≡ points_of σ kind limit (window kind limit opening es)
points_of_run σ kind limit es = ap (points kind) (run_is σ kind limit es) ∙ same_points σ kind limit (window kind limit opening es)
