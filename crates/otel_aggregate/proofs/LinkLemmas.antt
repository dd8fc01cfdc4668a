-- Where handles lead, and that they lead there still.
use Rattle.std.proofs.Common.{◌≡◌, ℕ, Bool, true, false, cond, List, [], ◌∷◌, Some, refl, sym, ap, subst, ◌∙◌, nat_eq, arith}
use Rattle.std.specs.Prelude.{◌==◌}
use Rattle.std.specs.List.{AllByRecursion}
use Rattle.std.specs.Map.{lookup, remove_entry}
use Rattle.std.specs.Option.{option_map}
use Rattle.std.proofs.lemmas.Bool.{cond_both}
use Rattle.std.proofs.lemmas.Bool.Decides.{nat_tests}
use Rattle.otel_model_stream.specs.Sets.{AttributeSet}
use Rattle.otel_model_stream.specs.Entries.{Entry}
use Rattle.otel_model_stream.specs.Events.{Handles, held_by, without}
use Rattle.otel_aggregate.specs.value_map.Numbers.{Numbers, number_of, set_named, is_placed, KeepNumbers, KeepLeft, AreNamed}
use Rattle.otel_aggregate.proofs.All.{all-each, all-found}
use Rattle.otel_aggregate.specs.Links.{Link, handle_of, handles_of, IsLinked}

-- ======== at other numbers ========
-- the entry has the number still
abbrev pub IsLinkedStill : Numbers → Numbers → Link → Type 0
IsLinkedStill old new p = number_of (set_named p.1 old) new ≡ Some p.1

pub still-left : (left : List Entry) (old new : Numbers) → KeepLeft left old new → (ps : List Link) → AllByRecursion (IsLinked old) ps
    → AllByRecursion (λ (q : ℕ × AttributeSet). is_placed q.1 left ≡ true) (handles_of old ps) → AllByRecursion (IsLinkedStill old new) ps
still-left left old new keep [] h placed = tt
still-left left old new keep (p ∷ ps) h placed = (keep (set_named p.1 old) p.1 h.0 placed.0, still-left left old new keep ps h.1 placed.1)

handles-still : (old new : Numbers) → AreNamed new → (ps : List Link) → AllByRecursion (IsLinkedStill old new) ps → handles_of new ps ≡ handles_of old ps
handles-still old new named [] h = refl
handles-still old new named (p ∷ ps) h = λ i. (p.0, named (set_named p.1 old) p.1 h.0 i) ∷ handles-still old new named ps h.1 i

-- handles lead to entries, and to the same sets as before
abbrev pub LeadStill : Numbers → Numbers → List Link → Type 0
LeadStill old new ps = AllByRecursion (IsLinked new) ps × (handles_of new ps ≡ handles_of old ps)

pub lead-still : (old new : Numbers) → AreNamed new → (ps : List Link) → AllByRecursion (IsLinkedStill old new) ps → LeadStill old new ps
lead-still old new named ps h = (all-each (IsLinkedStill old new) (IsLinked new) (λ p q. ap (λ (s : AttributeSet). number_of s new) (named (set_named p.1 old) p.1 q) ∙ q) ps h, handles-still old new named ps h)

pub lead-kept : (old new : Numbers) → KeepNumbers old new → AreNamed new → (ps : List Link) → AllByRecursion (IsLinked old) ps → LeadStill old new ps
lead-kept old new keep named ps linked = lead-still old new named ps (all-each (IsLinked old) (IsLinkedStill old new) (λ p. keep (set_named p.1 old) p.1) ps linked)

pub lead-same : (old new : Numbers) → new ≡ old → (ps : List Link) → AllByRecursion (IsLinked old) ps → LeadStill old new ps
lead-same old new same ps linked = (subst (λ (ns : Numbers). AllByRecursion (IsLinked ns) ps) (sym same) linked, ap (λ ns. handles_of ns ps) same)

-- ======== one handle ========
test-flip : (a b : ℕ) → (a == b) ≡ nat_eq b a
test-flip a b = grind (arith, nat_tests)

-- the set of a handle is that of its number
pub held-linked : (ns : Numbers) (h : ℕ) (ps : List Link) → held_by h (handles_of ns ps) ≡ option_map (λ n. set_named n ns) (lookup (nat_eq h) ps)
held-linked ns h [] = refl
held-linked ns h (p ∷ ps) = ap (λ b. cond b (Some (set_named p.1 ns)) (held_by h (handles_of ns ps))) (test-flip p.0 h) ∙ by (nat_eq h p.0) (held-linked ns h ps)
  where
    by : (b : Bool) → held_by h (handles_of ns ps) ≡ option_map (λ n. set_named n ns) (lookup (nat_eq h) ps)
        → cond b (Some (set_named p.1 ns)) (held_by h (handles_of ns ps)) ≡ option_map (λ n. set_named n ns) (cond b (Some p.1) (lookup (nat_eq h) ps))
    by true ih = refl
    by false ih = ih

-- a handle that is found leads to an entry
pub found-linked : (ns : Numbers) (h n : ℕ) (ps : List Link) → AllByRecursion (IsLinked ns) ps → lookup (nat_eq h) ps ≡ Some n → number_of (set_named n ns) ns ≡ Some n
found-linked ns h n ps l e = (all-found (IsLinked ns) (nat_eq h) ps n e l).2

-- ======== a handle more, and one less ========
pub linked-without : (ns : Numbers) (h : ℕ) (ps : List Link) → AllByRecursion (IsLinked ns) ps → AllByRecursion (IsLinked ns) (remove_entry (nat_eq h) ps)
linked-without ns h [] l = tt
linked-without ns h (p ∷ ps) l = cond_both (nat_eq h p.0) ps (p ∷ remove_entry (nat_eq h) ps) (AllByRecursion (IsLinked ns)) (λ q. l.1) (λ q. (l.0, linked-without ns h ps l.1))

pub handles-without : (ns : Numbers) (h : ℕ) (ps : List Link) → handles_of ns (remove_entry (nat_eq h) ps) ≡ without h (handles_of ns ps)
handles-without ns h [] = refl
handles-without ns h (p ∷ ps) = by (nat_eq h p.0) (handles-without ns h ps) ∙ ap (λ b. cond b (handles_of ns ps) (handle_of ns p ∷ without h (handles_of ns ps))) (sym (test-flip p.0 h))
  where
    by : (b : Bool) → handles_of ns (remove_entry (nat_eq h) ps) ≡ without h (handles_of ns ps)
        → handles_of ns (cond b ps (p ∷ remove_entry (nat_eq h) ps)) ≡ cond b (handles_of ns ps) (handle_of ns p ∷ without h (handles_of ns ps))
    by true ih = refl
    by false ih = ap (λ (hs : Handles). handle_of ns p ∷ hs) ih
