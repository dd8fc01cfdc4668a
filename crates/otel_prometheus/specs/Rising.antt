-- Labels that stand as their attributes do, since the names of both rise.
use Rattle.std.specs.Prelude.{ℕ, ◌+◌, ◌&&◌, List, [], ◌∷◌, ◌++◌, Bool, true, cond, Option, Some, None, take, drop, codes, flat_map}
use Rattle.std.specs.Cmp.Lexicographic.{slice_cmp}
use Rattle.std.specs.Ordering.{nat_cmp, is_lt}
use Rattle.otel_common.specs.declared.attributes.KeyValue.{KeyValue}
use Rattle.otel_prometheus.specs.Names.{name_of}
use Rattle.otel_prometheus.specs.Samples.{Pair, escaped, is_label_byte, label_text}
use Rattle.otel_prometheus.specs.Labels.{own_name}
use Rattle.otel_prometheus.specs.Values.{value_text}

-- the name of the label of an attribute
abbrev pub name_in : Bool → KeyValue → List ℕ
name_in has_bounds a = own_name has_bounds (name_of is_label_byte a.key)

-- whether each name is greater than the one before it
abbrev pub rises : List ℕ → List (List ℕ) → Bool
rises before [] = true
rises before (n ∷ ns) = is_lt (slice_cmp nat_cmp before n) && rises n ns

-- how many names, from the front, are less than those of the labels of a scope, which all begin with `otel_scope_`
abbrev pub count_below : List (List ℕ) → ℕ
count_below [] = 0
count_below (n ∷ ns) = cond (is_lt (slice_cmp nat_cmp n (codes "otel_scope_"))) (1 + count_below ns) 0

-- this count, if these names rise, and the others do behind those of a scope: the byte behind `_` is the grave accent
abbrev pub place_at : ℕ → List (List ℕ) → Option ℕ
place_at count names = cond (rises [] (take count names) && rises (codes "otel_scope`") (drop count names)) (Some count) None

-- how many names come before those of the labels of a scope, if all rise around these
abbrev pub place_of_scope : List (List ℕ) → Option ℕ
place_of_scope names = place_at (count_below names) names

-- each label behind a comma
abbrev pub comma_texts : List Pair → List ℕ
comma_texts ls = flat_map (λ l. 44 ∷ label_text l) ls

-- labels of these names, with the values of attributes
abbrev pub named : List (List ℕ) → List KeyValue → List Pair
named [] ps = []
named (n ∷ ns) [] = []
named (n ∷ ns) (a ∷ ps) = (n, value_text a.value) ∷ named ns ps

-- what stands in front of the value of a label of this name, behind a comma
abbrev pub value_front : List ℕ → List ℕ
value_front name = 44 ∷ (name ++ 61 ∷ 34 ∷ [])

-- a label, of which this is what stands in front of its value; nothing if the value is empty
abbrev pub front_text : List ℕ → List ℕ → List ℕ
front_text front [] = []
front_text front (b ∷ bs) = front ++ (escaped (b ∷ bs) ++ 34 ∷ [])

-- labels, of which these are what stands in front of their values, with the values of attributes
abbrev pub front_texts : List (List ℕ) → List KeyValue → List ℕ
front_texts [] ps = []
front_texts (f ∷ fs) [] = []
front_texts (f ∷ fs) (a ∷ ps) = front_text f (value_text a.value) ++ front_texts fs ps
