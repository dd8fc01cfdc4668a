-- What stands for a text is a name.
use Rattle.std.proofs.Common.{◌≡◌, ℕ, Bool, true, false, cond, not, List, [], ◌∷◌, ◌++◌, refl, sym, subst, ◌∙◌, ◌||◌, ◌==◌, ◌<◌, ⊎_elim, arith}
use Rattle.std.specs.Prelude.{Result, Ok, Err, IfOk}
use Rattle.std.specs.Char.{is_ascii_digit}
use Rattle.std.proofs.lemmas.Bool.{cases_Bool, true≢false}
use Rattle.otel_prometheus.specs.Samples.{AreAll, IsLabelName, IsMetricName, is_letter, is_label_byte, is_metric_byte}
use Rattle.otel_prometheus.specs.Names.{test_of, is_gap, name_byte, name_bytes, name_of}

-- what may stand in a name is ASCII
pub small : (is_metric : Bool) (b : ℕ) → test_of is_metric b ≡ true → b < 128
small true b h = grind arith
small false b h = grind arith

no_gap : (x y : Bool) → (not x || y) ≡ false → x ≡ true
no_gap true y e = refl
no_gap false y e = absurd (true≢false e)

left : (x y : Bool) → (x || y) ≡ true → y ≡ false → x ≡ true
left true y e f = refl
left false y e f = absurd (true≢false (sym e ∙ f))

left_or_third : (x y z : Bool) → ((x || y) || z) ≡ true → y ≡ false → (x || z) ≡ true
left_or_third true y z e f = refl
left_or_third false true z e f = absurd (true≢false f)
left_or_third false false z e f = e

AreAll-append : (test : ℕ → Bool) (a b : List ℕ) → AreAll test a → AreAll test b → AreAll test (a ++ b)
AreAll-append test [] b h k = k
AreAll-append test (x ∷ a) b h k = (h.0, AreAll-append test a b h.1 k)

gap_bytes : (test : ℕ → Bool) (after : Bool) → test 95 ≡ true → AreAll test (cond after [] (95 ∷ []))
gap_bytes test true u = tt
gap_bytes test false u = (u, tt)

byte_passes : (test : ℕ → Bool) (after : Bool) (b : ℕ) → test 95 ≡ true → AreAll test (name_byte test after b)
byte_passes test after b u =
    ⊎_elim
    (λ e. subst (λ t. AreAll test (cond t (cond after [] (95 ∷ [])) (b ∷ []))) (sym e) (gap_bytes test after u))
    (λ e. subst (λ t. AreAll test (cond t (cond after [] (95 ∷ [])) (b ∷ []))) (sym e) (no_gap (test b) (b == 95) e, tt))
    (cases_Bool (is_gap test b))

bytes_pass : (test : ℕ → Bool) (after : Bool) (text : List ℕ) → test 95 ≡ true → AreAll test (name_bytes test after text)
bytes_pass test after [] u = tt
bytes_pass test after (b ∷ bs) u = AreAll-append test (name_byte test after b) (name_bytes test (is_gap test b) bs) (byte_passes test after b u) (bytes_pass test (is_gap test b) bs u)

-- what begins a text that doesn't begin with a digit
label_front : (b : ℕ) (bs : List ℕ) → is_ascii_digit b ≡ false → IsLabelName (name_bytes is_label_byte false (b ∷ bs))
label_front b bs d =
    ⊎_elim
    (λ e. subst (λ t. IsLabelName (cond t (95 ∷ []) (b ∷ []) ++ name_bytes is_label_byte t bs)) (sym e) (refl, bytes_pass is_label_byte true bs refl))
    (λ e. subst (λ t. IsLabelName (cond t (95 ∷ []) (b ∷ []) ++ name_bytes is_label_byte t bs)) (sym e)
    (left (is_letter b) (is_ascii_digit b) (no_gap (is_label_byte b) (b == 95) e) d, bytes_pass is_label_byte false bs refl))
    (cases_Bool (is_gap is_label_byte b))

metric_front : (b : ℕ) (bs : List ℕ) → is_ascii_digit b ≡ false → IsMetricName (name_bytes is_metric_byte false (b ∷ bs))
metric_front b bs d =
    ⊎_elim
    (λ e. subst (λ t. IsMetricName (cond t (95 ∷ []) (b ∷ []) ++ name_bytes is_metric_byte t bs)) (sym e) (refl, bytes_pass is_metric_byte true bs refl))
    (λ e. subst (λ t. IsMetricName (cond t (95 ∷ []) (b ∷ []) ++ name_bytes is_metric_byte t bs)) (sym e)
    (left_or_third (is_letter b) (is_ascii_digit b) (b == 58) (no_gap (is_metric_byte b) (b == 95) e) d, bytes_pass is_metric_byte false bs refl))
    (cases_Bool (is_gap is_metric_byte b))

pub label_name : (text : List ℕ) → IsLabelName (name_of is_label_byte text)
label_name [] = (refl, tt)
label_name (b ∷ bs) =
    ⊎_elim
    (λ e. subst (λ t. IsLabelName (cond t (95 ∷ name_bytes is_label_byte false (b ∷ bs)) (name_bytes is_label_byte false (b ∷ bs)))) (sym e) (refl, bytes_pass is_label_byte false (b ∷ bs) refl))
    (λ e. subst (λ t. IsLabelName (cond t (95 ∷ name_bytes is_label_byte false (b ∷ bs)) (name_bytes is_label_byte false (b ∷ bs)))) (sym e) (label_front b bs e))
    (cases_Bool (is_ascii_digit b))

pub metric_name : (text : List ℕ) → IsMetricName (name_of is_metric_byte text)
metric_name [] = (refl, tt)
metric_name (b ∷ bs) =
    ⊎_elim
    (λ e. subst (λ t. IsMetricName (cond t (95 ∷ name_bytes is_metric_byte false (b ∷ bs)) (name_bytes is_metric_byte false (b ∷ bs)))) (sym e) (refl, bytes_pass is_metric_byte false (b ∷ bs) refl))
    (λ e. subst (λ t. IsMetricName (cond t (95 ∷ name_bytes is_metric_byte false (b ∷ bs)) (name_bytes is_metric_byte false (b ∷ bs)))) (sym e) (metric_front b bs e))
    (cases_Bool (is_ascii_digit b))

-- the same of what a function returns
pub label_name_of : {A E : Type 0} (r : Result A E) (view : A → List ℕ) (text : List ℕ) → IfOk r (λ a. view a ≡ name_of is_label_byte text) → IfOk r (λ a. IsLabelName (view a))
label_name_of (Ok a) view text h = subst IsLabelName (sym h) (label_name text)
label_name_of (Err e) view text h = h

pub metric_name_of : {A E : Type 0} (r : Result A E) (view : A → List ℕ) (text : List ℕ) → IfOk r (λ a. view a ≡ name_of is_metric_byte text) → IfOk r (λ a. IsMetricName (view a))
metric_name_of (Ok a) view text h = subst IsMetricName (sym h) (metric_name text)
metric_name_of (Err e) view text h = h
