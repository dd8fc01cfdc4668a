-- Streams and their drafts.
use Rattle.std.proofs.Common.{◌≡◌, ℕ, zero, suc, ◌+◌, ◌<◌, true, List, [], ◌∷◌, ◌++◌, length, take, drop, set, get_or, replicate, Option, Some, None, option_map, slice_get, Result, refl, sym, ◌∙◌, ap, subst, arith}
use Rattle.std.specs.Prelude.{All, IfSome, OnOk, OnErr}
use Rattle.std.proofs.lemmas.Bool.{cond-false, cond-true, cond_both}
use Rattle.std.proofs.lemmas.List.Sums.{fold_more}
use Rattle.otel_common.specs.declared.attributes.KeyValue.{KeyValue}
use Rattle.otel_data.specs.declared.numbers.NumberValue.{NumberValue}
use Rattle.otel_stream.specs.declared.observation.Observed.{Observed}
use Rattle.otel_aggregate.specs.Any.{DraftContents, amount_of}
use Rattle.otel_model.specs.Calls.{is_observable, or_else}
use Rattle.otel_model.specs.Machine.{changed_at}
use Rattle.otel_model.specs.Sent.{set_for}
use Rattle.opentelemetry_sdk.specs.pipeline.Observations.{AreDraftsOf, IsDraftOf, IsObservable, draft_of, drafted, drafted_all, observed_all, observed_in, observing_numbers}
use Rattle.opentelemetry_sdk.specs.pipeline.Pipelines.{AreNumbers, all_without_pending, changed_each}
use Rattle.opentelemetry_sdk.specs.pipeline.Streams.{StreamContents, contents_after_record, takes, with_record, without_pending}
use Rattle.opentelemetry_sdk.proofs.pipeline.Outcomes.{either}
use Rattle.opentelemetry_sdk.proofs.pipeline.Records.{fed-numbers}
use Rattle.opentelemetry_sdk.proofs.pipeline.Writes.{length-seen, seen-each}

abbrev Drafts : Type 0
Drafts = List (Option DraftContents)

-- the draft, if there is one, can change places with the stream
abbrev pub Fits : Option DraftContents → StreamContents → Type 0
Fits o k = IfSome o (λ d. IsDraftOf d k.stream.demand)

-- ======== one stream ========
-- what changes places with a draft can change places again
pub drafted-back : (o p : Option DraftContents) (k m : StreamContents) → p ≡ option_map (λ _. draft_of k) o → without_pending m ≡ drafted o k → drafted p m ≡ without_pending k
drafted-back o p k m is e = ap (λ q. drafted q m) is ∙ ap (drafted (option_map (λ _. draft_of k) o)) e ∙ by o
  where
    by : (o : Option DraftContents) → drafted (option_map (λ _. draft_of k) o) (drafted o k) ≡ without_pending k
    by None = refl
    by (Some d) = refl

own-fits : (k : StreamContents) → is_observable k.stream.demand.identity.kind ≡ true → IsDraftOf (draft_of k) k.stream.demand
own-fits k seen = record { number = refl; form = refl; observable = seen }

pub fits-back : (o p : Option DraftContents) (k m : StreamContents) → p ≡ option_map (λ _. draft_of k) o → without_pending m ≡ drafted o k → Fits o k → Fits p m
fits-back o p k m is e all =
    subst (λ x. IfSome p (λ d. IsDraftOf d x)) (sym (ap (λ (h : StreamContents). h.stream.demand) e)) (subst (λ q. Fits q k) (sym is) (by o all))
  where
    by : (o : Option DraftContents) → Fits o k → Fits (option_map (λ _. draft_of k) o) k
    by None all = tt
    by (Some d) all = own-fits k all.observable

-- a draft with what the stream had
pub fits-kept : (o : Option DraftContents) (k m : StreamContents) → o ≡ Some (draft_of k) → drafted (Some (draft_of k)) m ≡ without_pending k → is_observable k.stream.demand.identity.kind ≡ true → Fits o m
fits-kept o k m is rest seen = subst (λ q. Fits q m) (sym is) (subst (IsDraftOf (draft_of k)) (sym (ap (λ (h : StreamContents). h.stream.demand) rest)) (own-fits k seen))

-- ======== an observation ========
module _ (value : NumberValue) (l : List KeyValue) where
  abbrev taken : StreamContents → StreamContents
  taken k = with_record (set_for k.stream.demand l) (amount_of value) k

  abbrev observed : StreamContents → StreamContents
  observed k = contents_after_record value l k

  -- where k entered its draft and took the observation in, or was refused, k has not changed but for what its draft has
  pub drafted-rest : {T E : Type 0} (r : Result T E) (o : Option DraftContents) (k s m : StreamContents) → without_pending s ≡ drafted o k → OnOk r (m ≡ observed s) → OnErr r (without_pending m ≡ without_pending s) → drafted (Some (draft_of k)) m ≡ without_pending k
  drafted-rest r o k s m e =
      either r
      (λ ok. ap (drafted (Some (draft_of k))) ok
      ∙ cond_both (takes value s) (taken s) s (λ (x : StreamContents). drafted (Some (draft_of k)) x ≡ drafted (Some (draft_of k)) s) (λ _. refl) (λ _. refl)
      ∙ ap (drafted (Some (draft_of k))) e)
      (λ err. ap (drafted (Some (draft_of k))) (err ∙ e))

  pub observed-settled : (k : StreamContents) → without_pending (observed k) ≡ observed (without_pending k)
  observed-settled k = cond_both (takes value k) (taken k) k (λ (x : StreamContents). without_pending x ≡ observed (without_pending k))
      (λ t. sym (cond-true (takes value k) (taken (without_pending k)) (without_pending k) t))
      (λ f. sym (cond-false (takes value k) (taken (without_pending k)) (without_pending k) f))

-- one observation more
pub observed-more : (feeds : List (List ℕ)) (os : List Observed) (i : ℕ) (o : Observed) (ns : List ℕ) (old mid new : List StreamContents) → i < length os → o ≡ get_or os i o → ns ≡ observing_numbers feeds o
    → mid ≡ all_without_pending (observed_all feeds (take i os) old) → new ≡ changed_each (contents_after_record o.value o.attributes) ns mid
    → new ≡ all_without_pending (observed_all feeds (take (i + 1) os) old)
observed-more feeds os i o ns old mid new h at fed before made =
    let so_far : List StreamContents = observed_all feeds (take i os) old in
    made
    ∙ ap (changed_each (contents_after_record o.value o.attributes) ns) before
    ∙ sym (seen-each without_pending (contents_after_record o.value o.attributes) (contents_after_record o.value o.attributes) (observed-settled o.value o.attributes) ns so_far)
    ∙ ap (λ l. all_without_pending (changed_each (contents_after_record o.value o.attributes) l so_far)) fed
    ∙ ap (λ p. all_without_pending (observed_in feeds so_far p)) at
    ∙ ap all_without_pending (sym (fold_more (observed_in feeds) old os i o h))

pub observable-same : (a b : List StreamContents) (n : ℕ) → all_without_pending a ≡ all_without_pending b → IsObservable a n → IsObservable b n
observable-same a [] n e is k at = absurd (cc)
observable-same [] (m ∷ b) n e is k at = absurd (cc)
observable-same (h ∷ a) (m ∷ b) zero e is k at =
    let same : without_pending h ≡ without_pending k = cc in
    ap (λ (x : StreamContents). is_observable x.stream.demand.identity.kind) (sym same) ∙ is h refl
observable-same (h ∷ a) (m ∷ b) (suc n) e is k at = let rest : all_without_pending a ≡ all_without_pending b = cc in observable-same a b n rest is k at

-- ======== streams ========
pub none-drafted : (n : ℕ) (ks : List StreamContents) → drafted_all (replicate n None) ks ≡ all_without_pending ks
none-drafted (suc n) (k ∷ ks) = ap (λ l. without_pending k ∷ l) (none-drafted n ks)
none-drafted n ks = refl

pub none-fits : (n : ℕ) (ks : List StreamContents) → n ≡ length ks → AreDraftsOf (replicate n None) ks
none-fits zero ks e = tt
none-fits (suc n) [] e = absurd (omega arith)
none-fits (suc n) (k ∷ ks) e = (tt, none-fits n ks (omega arith))

-- a stream that an instrument feeds
pub fed-inside : (old now : List StreamContents) (feeds : List (List ℕ)) (instrument i : ℕ) (ns : List ℕ) → All (AreNumbers old) feeds → ns ≡ or_else (slice_get feeds instrument) [] → i < length ns → all_without_pending now ≡ all_without_pending old → get_or ns i 0 < length now
fed-inside old now feeds instrument i ns numbers fed h same =
    omega (arith, subst (AreNumbers old) (sym fed) (fed-numbers old feeds instrument numbers) i 0 h, length-seen without_pending without_pending now old same)

pub drafts-few : (ds : Drafts) (ks : List StreamContents) (n : ℕ) → n < length ds → AreDraftsOf ds ks → n < length ks
drafts-few [] ks n h all = absurd (omega arith)
drafts-few (d ∷ ds) [] n h all = absurd all
drafts-few (d ∷ ds) (k ∷ ks) zero h all = omega arith
drafts-few (d ∷ ds) (k ∷ ks) (suc n) h all = let more = drafts-few ds ks n (omega arith) all.1 in omega arith

pub fits-at : (ds : Drafts) (ks : List StreamContents) (n : ℕ) (o : Option DraftContents) (k : StreamContents) → n < length ds → o ≡ get_or ds n o → k ≡ get_or ks n k → AreDraftsOf ds ks → Fits o k
fits-at [] ks n o k h at is all = absurd (omega arith)
fits-at (d ∷ ds) [] n o k h at is all = absurd all
fits-at (d ∷ ds) (m ∷ ks) zero o k h at is all = subst (λ p. Fits p k) (sym at) (subst (Fits d) (sym is) all.0)
fits-at (d ∷ ds) (m ∷ ks) (suc n) o k h at is all = fits-at ds ks n o k (omega arith) at is all.1

-- a stream and its draft are written
pub fits-set : (ds : Drafts) (ks : List StreamContents) (n : ℕ) (o : Option DraftContents) (k : StreamContents) → Fits o k → AreDraftsOf ds ks → AreDraftsOf (set ds n o) (set ks n k)
fits-set [] ks n o k is all = tt
fits-set (d ∷ ds) [] n o k is all = absurd all
fits-set (d ∷ ds) (m ∷ ks) zero o k is all = (is, all.1)
fits-set (d ∷ ds) (m ∷ ks) (suc n) o k is all = (all.0, fits-set ds ks n o k is all.1)

pub drafted-set : (f : StreamContents → StreamContents) (ds : Drafts) (ks : List StreamContents) (n : ℕ) (o p : Option DraftContents) (k m : StreamContents) → n < length ds → n < length ks → o ≡ get_or ds n o → k ≡ get_or ks n k → drafted p m ≡ f (drafted o k)
    → drafted_all (set ds n p) (set ks n m) ≡ changed_at n f (drafted_all ds ks)
drafted-set f (d ∷ ds) (x ∷ ks) zero o p k m h g at is e = ap (λ z. z ∷ drafted_all ds ks) (e ∙ λ i. f (drafted (at i) (is i)))
drafted-set f (d ∷ ds) (x ∷ ks) (suc n) o p k m h g at is e = ap (λ zs. drafted d x ∷ zs) (drafted-set f ds ks n o p k m (omega arith) (omega arith) at is e)
drafted-set f ds ks n o p k m h g at is e = absurd (omega arith)

-- ======== one stream more changes places ========
pub left-more : (ds : Drafts) (ks : List StreamContents) (n : ℕ) (o p : Option DraftContents) (k m : StreamContents) → n < length ds → n < length ks → o ≡ get_or ds n o → k ≡ get_or ks n k → without_pending m ≡ drafted o k
    → drafted_all (replicate (suc n) None ++ drop (suc n) (set ds n p)) (set ks n m) ≡ drafted_all (replicate n None ++ drop n ds) ks
left-more (d ∷ ds) (x ∷ ks) zero o p k m h g at is e = ap (λ z. z ∷ drafted_all ds ks) (e ∙ λ i. drafted (at i) (is i))
left-more (d ∷ ds) (x ∷ ks) (suc n) o p k m h g at is e = ap (λ zs. without_pending x ∷ zs) (left-more ds ks n o p k m (omega arith) (omega arith) at is e)
left-more ds ks n o p k m h g at is e = absurd (omega arith)

pub back-more : (ds : Drafts) (ks : List StreamContents) (n : ℕ) (p : Option DraftContents) (k m : StreamContents) → n < length ds → n < length ks → k ≡ get_or ks n k → drafted p m ≡ without_pending k
    → drafted_all (take (suc n) (set ds n p)) (set ks n m) ≡ drafted_all (take n ds) ks
back-more (d ∷ ds) (x ∷ ks) zero p k m h g is e = ap (λ z. z ∷ all_without_pending ks) (e ∙ ap without_pending is)
back-more (d ∷ ds) (x ∷ ks) (suc n) p k m h g is e = ap (λ zs. drafted d x ∷ zs) (back-more ds ks n p k m (omega arith) (omega arith) is e)
back-more ds ks n p k m h g is e = absurd (omega arith)
