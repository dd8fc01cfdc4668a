-- What a record is to do, in a map.
use Rattle.std.proofs.Common.{◌≡◌, Bool, true, false, cond, not, ◌||◌, ◌&&◌, List, [], ◌∷◌, Option, Some, None, is_some, ℕ, refl, sym, ap, subst, ◌∙◌, true≢false}
use Rattle.std.specs.Map.{lookup, keys_of}
use Rattle.std.specs.Prelude.{IfOk, IsTrue, Result, Ok, Err}
use Rattle.std.specs.Set.{is_member}
use Rattle.std.proofs.lemmas.Bool.{and_right, or_parts}
use Rattle.std.proofs.lemmas.Map.Made.{is_some-lookup}
use Rattle.otel_common.specs.Canonical.{canon}
use Rattle.otel_common.specs.Equality.{set_eq}
use Rattle.otel_common.specs.declared.attributes.KeyValue.{KeyValue}
use Rattle.otel_common.specs.declared.faults.Fault.{Fault}
use Rattle.otel_common.proofs.CanonLaws.{canon-canon}
use Rattle.otel_model_stream.specs.Sets.{AttributeSet, none_set, over_set}
use Rattle.otel_model_stream.specs.Entries.{Entry, has}
use Rattle.otel_aggregate.specs.value_map.Keyed.{Slotted, IsNew, IsSpelling}
use Rattle.otel_aggregate.specs.value_map.Numbers.{number_of, set_named, named_in, is_placed, AreNumbered, IsNumberOf}
use Rattle.otel_aggregate.specs.value_map.Contents.{IsPlan, IsPlanPast, IsSound, IsReady, is_there, leads, list_of, used_by}
use Rattle.otel_aggregate.specs.declared.value_map.pending.Pending.{Pending}
use Rattle.otel_aggregate.specs.declared.value_map.pending.Pending.TheVariants.{Nothing, At, New, Several}
use Rattle.otel_aggregate.proofs.value_map.CanonicalSets.{canon-nil, canon-over, some-canon}
use Rattle.otel_aggregate.proofs.value_map.KeyedLemmas.{same_set, same_number}

-- a set without an entry uses its own if it gets one
used-new : (few : Bool) (s : AttributeSet) (es : List Entry) → set_eq s none_set ≡ false → has s es ≡ false → used_by few s es ≡ cond few s over_set
used-new few s es some away = rw (some, away) refl

-- past the limit no list is added
unadmitted : (t : Slotted) (l : List KeyValue) → cond ((not (set_eq (canon l) none_set) && (not (has (canon l) t.table.entries) && false)) && not (set_eq (canon l) l)) (l ∷ []) [] ≡ []
unadmitted t l = ap (λ b. cond (b && not (set_eq (canon l) l)) (l ∷ []) []) (and_right _ _ (and_right _ false refl))

-- one without attributes
pub plan-empty : (t : Slotted) (few : Bool) (l : List KeyValue) → set_eq l none_set ≡ true → IsPlan t few l (At t.numbers.none)
plan-empty t few l e =
    let is : l ≡ [] = same_set l none_set e in
    let bare : canon l ≡ [] = ap canon is ∙ canon-nil in
    let named : set_named t.numbers.none t.numbers ≡ none_set = ap (λ b. cond b none_set (named_in t.numbers.none t.numbers.sets)) (same_number t.numbers.none) in
    record {
      pending = ap (λ s. s ∷ []) named ∙ ap (λ s. used_by few s t.table.entries ∷ []) (sym bare);
      spelling = sym (ap (λ s. cond ((not (set_eq s none_set) && (not (has s t.table.entries) && few)) && not (set_eq s l)) (l ∷ []) []) bare);
      sound = λ room ready. (ap (λ s. number_of s t.numbers) named, ap (λ s. set_eq s none_set || has s t.table.entries) named);
    }

-- none of the three
or-none : (a b c : Bool) → (a || (b || c)) ≡ false → (a ≡ false) × (b ≡ false) × (c ≡ false)
or-none a b c e = let some = or_parts a (b || c) e in let others = or_parts b c some.1 in (some.0, others.0, others.1)

lacking : (o : Option ℕ) → is_some o ≡ false → o ≡ None
lacking None e = refl
lacking (Some n) e = absurd (true≢false e)

-- a list that leads to no entry is not the set of one
unlisted : (t : Slotted) (l : List KeyValue) → leads l t ≡ false → has l t.table.entries ≡ false
unlisted t l unled = (or-none (set_eq l none_set) (is_member set_eq (keys_of t.aliases) l) (has l t.table.entries) unled).2

-- so a canonical one is the set of none
pub own-away : (t : Slotted) (l : List KeyValue) → leads l t ≡ false → set_eq (canon l) l ≡ true → has (canon l) t.table.entries ≡ false
own-away t l unled own = ap (λ (s : AttributeSet). has s t.table.entries) (same_set (canon l) l own) ∙ unlisted t l unled

-- and has no number
pub unnumbered : (t : Slotted) (l : List KeyValue) → leads l t ≡ false → AreNumbered t.table.entries t.numbers → lookup (set_eq l) t.numbers.sets ≡ None
unnumbered t l unled numbered =
    let apart = or-none (set_eq l none_set) (is_member set_eq (keys_of t.aliases) l) (has l t.table.entries) unled in
    lacking (lookup (set_eq l) t.numbers.sets)
    (ap (λ b. is_some (cond b (Some t.numbers.none) (lookup (set_eq l) t.numbers.sets))) (sym apart.0)
    ∙ numbered l
    ∙ ap (λ b. b || has l t.table.entries) apart.0
    ∙ apart.2)

module _ (t : Slotted) (l : List KeyValue) (unled : leads l t ≡ false) (away : has (canon l) t.table.entries ≡ false) where
  apart : (set_eq l none_set ≡ false) × (is_member set_eq (keys_of t.aliases) l ≡ false) × (has l t.table.entries ≡ false)
  apart = or-none (set_eq l none_set) (is_member set_eq (keys_of t.aliases) l) (has l t.table.entries) unled

  bare : set_eq (canon l) none_set ≡ false
  bare = some-canon l apart.0

  -- its entry is there only past the limit, with the overflow entry
  pub past-there : (few : Bool) → few ≡ false → is_there few (canon l) t.table.entries ≡ has over_set t.table.entries
  past-there few past = λ i. bare i || (away i || (not (past i) && has over_set t.table.entries))

  pub none-there : (few : Bool) → few ≡ true → is_there few (canon l) t.table.entries ≡ false
  none-there few below = λ i. bare i || (away i || (not (below i) && has over_set t.table.entries))

  -- past the limit, with the overflow entry
  pub plan-over : (n : ℕ) → IsNumberOf over_set n t.numbers → has over_set t.table.entries ≡ true → IsPlan t false l (At n)
  plan-over n at there = record {
    pending = ap (λ s. s ∷ []) (at.named ∙ sym (used-new false (canon l) t.table.entries bare away));
    spelling = sym (unadmitted t l);
    sound = λ room ready. (ap (λ s. number_of s t.numbers) at.named ∙ at.number, ap (λ s. is_placed s t.table.entries) at.named ∙ there);
  }

  -- and where that is still to be made
  pub plan-over_new : (set : AttributeSet) → set ≡ over_set → lookup (set_eq over_set) t.numbers.sets ≡ None → has over_set t.table.entries ≡ false → IsPlan t false l (New set None)
  plan-over_new set is absent gone = record {
    pending = ap (λ s. s ∷ []) (is ∙ sym (used-new false (canon l) t.table.entries bare away));
    spelling = sym (unadmitted t l);
    sound = λ room ready. subst (λ s. IsReady t false room s None) (sym is) (record { new = record { absent = absent; canonical = canon-over; some = refl }; absent = gone; spelling = tt; past = λ e. refl; ready = ready });
  }

  module _ (absent : lookup (set_eq (canon l)) t.numbers.sets ≡ None) where
    unaliased : lookup (set_eq l) t.aliases ≡ None
    unaliased = lacking (lookup (set_eq l) t.aliases) (is_some-lookup (set_eq l) t.aliases ∙ apart.1)

    new : IsNew t.numbers.sets (canon l)
    new = record { absent = absent; canonical = canon-canon l; some = bare }

    spelled : (b : Bool) → set_eq (canon l) l ≡ b → (o : Option (List KeyValue)) → o ≡ cond b None (Some l) → IsSpelling t.aliases (canon l) o
    spelled true q o e = subst (IsSpelling t.aliases (canon l)) (sym e) tt
    spelled false q o e = subst (IsSpelling t.aliases (canon l)) (sym e) (refl, unaliased)

    listed : (b : Bool) (o : Option (List KeyValue)) → o ≡ cond b None (Some l) → list_of o ≡ cond (not b) (l ∷ []) []
    listed true o e = ap list_of e
    listed false o e = ap list_of e

    -- below the limit
    pub plan-admitted : (set : AttributeSet) (o : Option (List KeyValue)) → set ≡ canon l → o ≡ cond (set_eq (canon l) l) None (Some l) → IsPlan t true l (New set o)
    plan-admitted set o is e = record {
      pending = ap (λ s. s ∷ []) (is ∙ sym (used-new true (canon l) t.table.entries bare away));
      spelling = listed (set_eq (canon l) l) o e ∙ (λ i. cond ((not (sym bare i) && (not (sym away i) && true)) && not (set_eq (canon l) l)) (l ∷ []) []);
      sound = λ room ready. subst (λ s. IsReady t true room s o) (sym is) (record { new = new; absent = away; spelling = spelled (set_eq (canon l) l) refl o e; past = λ f. absurd (true≢false f); ready = ready });
    }

-- what is planned past the limit is a plan for a list whose set has no entry
pub past-planned : (t : Slotted) (few : Bool) (l : List KeyValue) (r : Result Pending Fault) → few ≡ false → leads l t ≡ false → has (canon l) t.table.entries ≡ false → IfOk r (IsPlanPast t) → IfOk r (IsPlan t few l)
past-planned t few l (Ok p) past unled away plan = subst (λ b. IsPlan t b l p) (sym past) (plan l unled away)
past-planned t few l (Err e) past unled away plan = tt

-- it can be carried out with room for a new set, and doesn't depend on the room of the table itself
pub sound-planned : (t n : Slotted) (few room : Bool) (p : Pending) → n.table ≡ t.table → n.numbers ≡ t.numbers → n.aliases ≡ t.aliases → ((set : AttributeSet) (list : Option (List KeyValue)) → p ≡ New set list → IsTrue room)
    → ((room : Bool) → IsTrue room → IsSound t few room p) → IsSound n few room p
sound-planned t n few room p table numbers aliases ready sound =
    anew p ready (subst (λ (x : Slotted). (room : Bool) → IsTrue room → IsSound x few room p) (λ i. record { table = sym table i; numbers = sym numbers i; aliases = sym aliases i; room = t.room }) sound)
  where
    anew : (p : Pending) → ((set : AttributeSet) (list : Option (List KeyValue)) → p ≡ New set list → IsTrue room) → ((room : Bool) → IsTrue room → IsSound (record n { room = t.room }) few room p) → IsSound n few room p
    anew Nothing r s = tt
    anew (At k) r s = s true refl
    anew (Several ks) r s = s true refl
    anew (New set list) r s = let one = s room (r set list refl) in record { new = one.new; absent = one.absent; spelling = one.spelling; past = one.past; ready = one.ready }
