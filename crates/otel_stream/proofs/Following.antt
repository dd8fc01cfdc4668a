-- Following a pattern along a text.
use Rattle.std.specs.Prelude.{◌≡◌, ◌≢◌, ℕ, suc, ◌+◌, ◌<◌, ◌≤◌, ◌==◌, ◌&&◌, ◌||◌, Bool, true, false, List, [], ◌∷◌, ◌⊎◌, length, drop, get_or}
use Rattle.std.proofs.Common.{refl, ap, ◌∙◌, inl, inr, subst, arith, add-one, drop-cons}
use Rattle.std.proofs.Math.ListN.{drop_of_length-le}
use Rattle.std.proofs.lemmas.Bool.{eq-eqb, ne_eqb}
use Rattle.otel_stream.specs.Selectors.{some_end, byte_and, matches}

or_false : (a b : Bool) → (a || b) ≡ false → (a ≡ false) × (b ≡ false)
or_false false b h = (refl, h)
or_false true b h = (h, cc)

both : (a b : Bool) → a ≡ false → b ≡ false → (a || b) ≡ false
both a b p q = rw (p, q) refl

and_false : (a b : Bool) → b ≡ false → (a && b) ≡ false
and_false true b h = h
and_false false b h = refl

-- what fits no end of a text fits none behind a byte, either
behind : (any : Bool) (sign : ℕ) (fits : List ℕ → Bool) (byte : ℕ) (text : List ℕ) → some_end fits text ≡ false → some_end (byte_and any sign fits) (byte ∷ text) ≡ false
behind any sign fits byte [] h = both _ _ (and_false (any || sign == byte) (fits []) h) refl
behind any sign fits byte (next ∷ text) h =
    let parts : (fits (next ∷ text) ≡ false) × (some_end fits text ≡ false) = or_false (fits (next ∷ text)) (some_end fits text) h in
    both _ _ (and_false (any || sign == byte) (fits (next ∷ text)) parts.0) (behind any sign fits next text parts.1)

-- an end of an end is an end
pub end_of_end : (fits : List ℕ → Bool) (text : List ℕ) → some_end fits text ≡ false → some_end (some_end fits) text ≡ false
end_of_end fits [] h = h
end_of_end fits (byte ∷ text) h =
    let parts : (fits (byte ∷ text) ≡ false) × (some_end fits text ≡ false) = or_false (fits (byte ∷ text)) (some_end fits text) h in
    both _ _ h (end_of_end fits text parts.1)

pub whole_is_end : (fits : List ℕ → Bool) (text : List ℕ) → fits text ≡ true → some_end fits text ≡ true
whole_is_end fits [] h = h
whole_is_end fits (byte ∷ text) h = rw h refl

pub no_end : (fits : List ℕ → Bool) (text : List ℕ) → some_end fits text ≡ false → fits text ≡ false
no_end fits [] h = h
no_end fits (byte ∷ text) h = (or_false (fits (byte ∷ text)) (some_end fits text) h).0

-- the rest of a text stands to the rest of a pattern as the whole text to the whole pattern
pub record Reached (pattern text rest left : List ℕ) : Type 0 where
  pub same : matches pattern text ≡ matches rest left
  pub ends : some_end (matches rest) left ≡ false → some_end (matches pattern) text ≡ false

same_or_false : (a b c : Bool) → (a ≡ true → b ≡ true) → (a ≡ c) → (c ≡ false → b ≡ false) → b ≡ c
same_or_false a b true f e g = f e
same_or_false a b false f e g = g refl

-- at a `*`
pub at_star : (pattern text rest left : List ℕ) → Reached pattern text (42 ∷ rest) left → (matches pattern text ≡ some_end (matches rest) left) × (some_end (matches pattern) text ≡ some_end (matches rest) left)
at_star pattern text rest left r =
    (r.same, same_or_false (matches pattern text) (some_end (matches pattern) text) (some_end (matches rest) left) (whole_is_end (matches pattern) text) r.same (λ h. r.ends (end_of_end (matches rest) left h)))

-- at another sign
no_star : (sign : ℕ) (rest left : List ℕ) → (sign == 42) ≡ false → matches (sign ∷ rest) left ≡ byte_and (sign == 63) sign (matches rest) left
no_star sign rest left h = rw h refl

no_star_ends : (sign : ℕ) (rest left : List ℕ) → (sign == 42) ≡ false → some_end (matches (sign ∷ rest)) left ≡ some_end (byte_and (sign == 63) sign (matches rest)) left
no_star_ends sign rest left h =
    let e : matches (sign ∷ rest) ≡ byte_and (sign == 63) sign (matches rest) = λ i text. no_star sign rest text h i in
    ap (λ (f : List ℕ → Bool). some_end f left) e

any_or_this : (sign byte : ℕ) → (sign ≡ 63) ⊎ (sign ≡ byte) → ((sign == 63) || (sign == byte)) ≡ true
any_or_this sign byte (inl h) = let e : (sign == 63) ≡ true = eq-eqb sign 63 h in rw e refl
any_or_this sign byte (inr h) = let e : (sign == byte) ≡ true = eq-eqb sign byte h in rw e (elim (sign == 63) as (λ a. (a || true) ≡ true) [ true ↦ refl | false ↦ refl ])

pub at_byte : (pattern text rest left : List ℕ) (sign byte : ℕ) → Reached pattern text (sign ∷ rest) (byte ∷ left) → sign ≢ 42 → (sign ≡ 63) ⊎ (sign ≡ byte) → Reached pattern text rest left
at_byte pattern text rest left sign byte r h k = record {
  same = r.same ∙ (no_star sign rest (byte ∷ left) (ne_eqb sign 42 h) ∙ ap (λ b. b && matches rest left) (any_or_this sign byte k));
  ends = λ e. r.ends (no_star_ends sign rest (byte ∷ left) (ne_eqb sign 42 h) ∙ behind (sign == 63) sign (matches rest) byte left e);
}

cons_at : (l : List ℕ) (at : ℕ) → at < length l → drop at l ≡ get_or l at 0 ∷ drop (at + 1) l
cons_at l at h = rw add-one (drop-cons l at 0 h)

-- the same at a place of both
reached_at : (pattern text : List ℕ) (at : ℕ) → at < length pattern → Reached pattern text (drop at pattern) (drop at text) → Reached pattern text (get_or pattern at 0 ∷ drop (at + 1) pattern) (drop at text)
reached_at pattern text at h r = subst (λ (rest : List ℕ). Reached pattern text rest (drop at text)) (cons_at pattern at h) r

both_at : (pattern text : List ℕ) (at : ℕ) → at < length pattern → at < length text → Reached pattern text (drop at pattern) (drop at text) → Reached pattern text (get_or pattern at 0 ∷ drop (at + 1) pattern) (get_or text at 0 ∷ drop (at + 1) text)
both_at pattern text at h k r = subst (λ (left : List ℕ). Reached pattern text (get_or pattern at 0 ∷ drop (at + 1) pattern) left) (cons_at text at k) (reached_at pattern text at h r)

pub ends_at_star : (pattern text : List ℕ) (at place : ℕ) → at < length pattern → get_or pattern at 0 ≡ 42 → Reached pattern text (drop at pattern) (drop at text) → at ≡ place → some_end (matches pattern) text ≡ some_end (matches (drop (place + 1) pattern)) (drop place text)
ends_at_star pattern text at place h k r e =
    subst (λ (p : ℕ). some_end (matches pattern) text ≡ some_end (matches (drop (p + 1) pattern)) (drop p text)) e
    (at_star pattern text (drop (at + 1) pattern) (drop at text) (subst (λ (sign : ℕ). Reached pattern text (sign ∷ drop (at + 1) pattern) (drop at text)) k (reached_at pattern text at h r))).1

pub next_place : (pattern text : List ℕ) (at : ℕ) → at < length pattern → at ≤ length text → at ≢ length text → get_or pattern at 0 ≢ 42 → (get_or pattern at 0 ≡ 63) ⊎ (get_or pattern at 0 ≡ get_or text at 0) → Reached pattern text (drop at pattern) (drop at text) → (at + 1 ≤ length text) × Reached pattern text (drop (at + 1) pattern) (drop (at + 1) text)
next_place pattern text at h k m n o r =
    let lt : at < length text = omega arith in
    (omega arith, at_byte pattern text (drop (at + 1) pattern) (drop (at + 1) text) (get_or pattern at 0) (get_or text at 0) (both_at pattern text at h lt r) n o)

pub ended : (pattern text : List ℕ) (at : ℕ) → length pattern ≤ at → at < length text → Reached pattern text (drop at pattern) (drop at text) → matches pattern text ≡ false
ended pattern text at h k r =
    let e : drop at pattern ≡ [] = drop_of_length-le pattern h in
    let f : drop at text ≡ get_or text at 0 ∷ drop (suc at) text = drop-cons text at 0 k in
    r.same ∙ rw (e, f) refl
