-- Buckets that are left.
use Rattle.std.proofs.Common.{◌≡◌, ℕ, ◌+◌, ◌%◌, ◌^◌, ℤ, List, [], ◌∷◌, ◌++◌, length, codes, refl, sym, ap, ◌∙◌, append_assoc, append-nil, arith}
use Rattle.otel_prometheus.specs.Samples.{Pair, line_text}
use Rattle.otel_prometheus.specs.declared.text.formats.Format.{Format}
use Rattle.otel_prometheus.specs.Points.{bound_text, bucket, meets_next, sample_unless, buckets}
use Rattle.otel_prometheus.specs.Series.{samples_text}
use Rattle.otel_prometheus.proofs.SeriesLemmas.{samples_text_append}

-- without counts there are no buckets
no_counts : (f : Format) (n : List ℕ) (ls : List Pair) (before : ℕ) (bounds : List ℤ) → samples_text (buckets f n ls before bounds []) ≡ []
no_counts f n ls before [] = refl
no_counts f n ls before (b ∷ bounds) = refl

pub none_left : (f : Format) (n : List ℕ) (ls : List Pair) (before : ℕ) (bounds : List ℤ) (left out : List ℕ) → length left ≡ 0 → out ++ samples_text (buckets f n ls before bounds left) ≡ out
none_left f n ls before bounds [] out e = ap (λ t. out ++ t) (no_counts f n ls before bounds) ∙ append-nil out
none_left f n ls before bounds (x ∷ left) out e = absurd (omega (arith, e))

pub one_less : (f : Format) (n : List ℕ) (ls : List Pair) (before : ℕ) (left following : List ℤ) (bound : ℤ) (count : ℕ) (counts rest out newer : List ℕ)
    → left ≡ bound ∷ following → counts ≡ count ∷ rest → newer ≡ out ++ samples_text (sample_unless (meets_next bound following) (bucket n ls (bound_text f bound) ((before + count) % 2 ^ 64)))
    → newer ++ samples_text (buckets f n ls ((before + count) % 2 ^ 64) following rest) ≡ out ++ samples_text (buckets f n ls before left counts)
one_less f n ls before left following bound count counts rest out newer h e k =
    let own = sample_unless (meets_next bound following) (bucket n ls (bound_text f bound) ((before + count) % 2 ^ 64)) in
    let others = buckets f n ls ((before + count) % 2 ^ 64) following rest in
    ap (λ t. t ++ samples_text others) k
    ∙ (append_assoc out (samples_text own) (samples_text others)
    ∙ (ap (λ t. out ++ t) (sym (samples_text_append own others))
    ∙ (λ i. out ++ samples_text (buckets f n ls before (sym h i) (sym e i)))))

-- ======== the front of buckets ========
-- what ends where a bound belongs
pub front_opened : (named labels text opened front : List ℕ) → opened ++ ((codes "le" ++ (61 ∷ 34 ∷ (text ++ 34 ∷ []))) ++ 125 ∷ []) ≡ named ++ labels → front ≡ opened ++ codes "le=\""
    → front ++ (text ++ 34 ∷ 125 ∷ []) ≡ named ++ labels
front_opened named labels text opened front e f =
    ap (λ t. t ++ (text ++ 34 ∷ 125 ∷ [])) f
    ∙ (append_assoc opened (codes "le=\"") (text ++ 34 ∷ 125 ∷ [])
    ∙ (ap (λ t. opened ++ 108 ∷ 101 ∷ 61 ∷ 34 ∷ t) (sym (append_assoc text (34 ∷ []) (125 ∷ []))) ∙ e))

-- the front, the bound and what follows it are a line
pub bucket_pushed : (old front text named labels digits first second new : List ℕ) → front ++ (text ++ 34 ∷ 125 ∷ []) ≡ named ++ labels → first ≡ old ++ front → second ≡ first ++ text
    → new ≡ second ++ 34 ∷ 125 ∷ 32 ∷ (digits ++ 10 ∷ []) → new ≡ old ++ line_text named labels digits
bucket_pushed old front text named labels digits first second new e f g h =
    let rest : List ℕ = 32 ∷ (digits ++ 10 ∷ []) in
    let left : ((old ++ front) ++ text) ++ 34 ∷ 125 ∷ rest ≡ old ++ ((front ++ (text ++ 34 ∷ 125 ∷ [])) ++ rest) = simp append_assoc in
    let right : (named ++ labels) ++ rest ≡ named ++ (labels ++ rest) = append_assoc named labels rest in
    h ∙ (ap (λ t. t ++ 34 ∷ 125 ∷ rest) (g ∙ ap (λ t. t ++ text) f) ∙ (left ∙ ap (λ t. old ++ t) (ap (λ t. t ++ rest) e ∙ right)))
