-- What meets demands, one after another.
use Rattle.std.proofs.Common.{◌≡◌, ℕ, zero, suc, ◌<◌, Bool, true, false, cond, not, ◌||◌, List, [], ◌∷◌, ◌++◌, map, filter, fold, length, Some, None, slice_get, refl, sym, ◌∙◌, ap, subst, arith, append_assoc, true≢false, is_some, take, All}
use Rattle.std.proofs.Math.Bool.{or-false, or-true, or_assoc, or_comm}
use Rattle.std.proofs.lemmas.Bool.{cond_both, or_parts}
use Rattle.std.proofs.lemmas.Grind.{common_steps}
use Rattle.std.proofs.lemmas.Map.Views.{any-filter_same}
use Rattle.std.proofs.lemmas.Option.{get_or_from_slice_get, slice_get-get_or, slice_get_within}
use Rattle.std.specs.List.{list_any, IsDistinct, AllByRecursion}
use Rattle.std.proofs.lemmas.List.{append-nil, get_or_append_left, get_or_push, map-append, length-append, length_push}
use Rattle.std.proofs.lemmas.List.Elements.{All-push, filter-append}
use Rattle.std.proofs.lemmas.List.Sums.{fold-append}
use Rattle.otel_model_stream.specs.Totals.{has_number}
use Rattle.otel_model.specs.Demands as model
use Rattle.otel_model.specs.Demands.{Identity, Demand, ReaderAnswers, identity_eq}
use Rattle.otel_model.specs.State.{ReaderPart}
use Rattle.otel_model.specs.Machine as machine
use Rattle.otel_model.proofs.Alike.{fate_stays}
use Rattle.otel_model.proofs.Feeding.{or_right}
use Rattle.otel_model.proofs.Gather.{identity_eq_true, identity_eq_self, known-append}
use Rattle.otel_model.proofs.Single.{get_map, some_is}
use Rattle.opentelemetry_sdk.specs.pipeline.Pipelines.{Piped, AreFedOnce, AreMet, AreNumbers, IsLonger, IsMetBy, part_of, part_by, identity_at, named_identities, identity_of, fates_of, is_streamed, model_streams, some_stream, stream_identities, stream_number, fed_once}
use Rattle.opentelemetry_sdk.specs.pipeline.Streams.{StreamContents, new_contents}
use Rattle.opentelemetry_sdk.proofs.pipeline.Builds.{found, known, fate-at}
use Rattle.opentelemetry_sdk.proofs.pipeline.Identities.{are_apart}
use Rattle.opentelemetry_sdk.proofs.pipeline.Once.{once-push}
use Rattle.opentelemetry_sdk.proofs.pipeline.Records.{HaveStreams, identity_at-is, numbers-named, named-has}

-- ======== identities, each once ========
abbrev pub ids : List Demand → List Identity
ids ds = map (λ (d : Demand). d.identity) ds

abbrev has : List Identity → Identity → Bool
has xs x = model.has_identity xs x

-- who has one that is the same has it
has-same : (xs : List Identity) (x y : Identity) → identity_eq y x ≡ true → has xs y ≡ has xs x
has-same xs x y e = ap (has xs) (identity_eq_true y x e)

-- one identity more
each-push : (seen xs : List Identity) (x : Identity) → model.each_once seen (xs ++ x ∷ []) ≡ model.each_once seen xs ++ cond (has seen x || has xs x) [] (x ∷ [])
each-push seen [] x = ap (λ b. cond b [] (x ∷ [])) (sym (or-false (has seen x)))
each-push seen (y ∷ xs) x = by (has seen y) (identity_eq y x) refl refl (λ s. each-push s xs x)
  where
    by : (b e : Bool) → has seen y ≡ b → identity_eq y x ≡ e → ((s : List Identity) → model.each_once s (xs ++ x ∷ []) ≡ model.each_once s xs ++ cond (has s x || has xs x) [] (x ∷ []))
        → cond b (model.each_once seen (xs ++ x ∷ [])) (y ∷ model.each_once (y ∷ seen) (xs ++ x ∷ []))
        ≡ cond b (model.each_once seen xs) (y ∷ model.each_once (y ∷ seen) xs) ++ cond (has seen x || (e || has xs x)) [] (x ∷ [])
    by true true h q rest = rest seen ∙ ap (λ c. model.each_once seen xs ++ cond c [] (x ∷ [])) (ap (λ c. c || has xs x) (sym (has-same seen x y q) ∙ h) ∙ sym (or-true (has seen x)))
    by true false h q rest = rest seen
    by false e h q rest = ap (λ l. y ∷ l) (rest (y ∷ seen) ∙ ap (λ c. model.each_once (y ∷ seen) xs ++ cond c [] (x ∷ [])) ((λ i. or_comm (q i) (has seen x) i || has xs x) ∙ or_assoc (has seen x) e (has xs x)))

-- what is fed, with one demand more
fed-push : (q : Identity → Bool) (ds : List Demand) (d : Demand) → model.fed_identities q (ds ++ d ∷ []) ≡ model.fed_identities q ds ++ cond (q d.identity || has (ids ds) d.identity) [] (d.identity ∷ [])
fed-push q ds d =
    ap (λ xs. filter (λ x. not (q x)) (model.each_once [] xs)) (map-append (λ (d : Demand). d.identity) ds (d ∷ []))
    ∙ (ap (filter (λ x. not (q x))) (each-push [] (ids ds) d.identity)
    ∙ (filter-append (λ x. not (q x)) (model.each_once [] (ids ds)) (cond (has (ids ds) d.identity) [] (d.identity ∷ []))
    ∙ ap (λ l. model.fed_identities q ds ++ l) (by (has (ids ds) d.identity) (q d.identity) refl)))
  where
    by : (b c : Bool) → q d.identity ≡ c → filter (λ x. not (q x)) (cond b [] (d.identity ∷ [])) ≡ cond (c || b) [] (d.identity ∷ [])
    by true true e = refl
    by true false e = refl
    by false true e = rw e refl
    by false false e = rw e refl

each-has : (seen xs : List Identity) (x : Identity) → (has (model.each_once seen xs) x || has seen x) ≡ (has xs x || has seen x)
each-has seen [] x = refl
each-has seen (y ∷ xs) x = by (has seen y) (identity_eq y x) refl refl (λ s. each-has s xs x)
  where
    by : (b e : Bool) → has seen y ≡ b → identity_eq y x ≡ e → ((s : List Identity) → (has (model.each_once s xs) x || has s x) ≡ (has xs x || has s x))
        → (has (cond b (model.each_once seen xs) (y ∷ model.each_once (y ∷ seen) xs)) x || has seen x) ≡ ((identity_eq y x || has xs x) || has seen x)
    by true true h q rest = rw (sym (has-same seen x y q) ∙ h, or-true, or-true)
    by true false h q rest = rw q (rest seen)
    by false e h q rest = let more = rest (y ∷ seen) in grind (arith, common_steps, more)

-- an identity that is not dropped is fed exactly if it is demanded
fed-has : (q : Identity → Bool) (ds : List Demand) (x : Identity) → q x ≡ false → has (model.fed_identities q ds) x ≡ has (ids ds) x
fed-has q ds x kept =
    any-filter_same (λ y. identity_eq y x) (λ y. not (q y)) true (λ y e. ap (λ z. not (q z)) (identity_eq_true y x e) ∙ ap not kept) (model.each_once [] (ids ds))
    ∙ (sym (or-false (has (model.each_once [] (ids ds)) x)) ∙ (each-has [] (ids ds) x ∙ or-false (has (ids ds) x)))

-- what passes a test is kept once, whether it is tested before or after
once-passed : (p : Identity → Bool) (seen also xs : List Identity) → ((y : Identity) → p y ≡ true → has seen y ≡ has also y) → filter p (model.each_once seen xs) ≡ model.each_once also (filter p xs)
once-passed p seen also [] same = refl
once-passed p seen also (y ∷ xs) same = by (has seen y) (p y) refl refl (λ s t. once-passed p s t xs)
  where
    other : (z : Identity) → p y ≡ false → p z ≡ true → (b : Bool) → identity_eq y z ≡ b → (b || has seen z) ≡ has also z
    other z k q true e = absurd (true≢false (sym q ∙ ap p (sym (identity_eq_true y z e)) ∙ k))
    other z k q false e = same z q

    by : (b c : Bool) → has seen y ≡ b → p y ≡ c → ((s t : List Identity) → ((y : Identity) → p y ≡ true → has s y ≡ has t y) → filter p (model.each_once s xs) ≡ model.each_once t (filter p xs))
        → filter p (cond b (model.each_once seen xs) (y ∷ model.each_once (y ∷ seen) xs)) ≡ model.each_once also (cond c (y ∷ filter p xs) (filter p xs))
    by true true h k rest = rw (← same y k, h) (rest seen also same)
    by false true h k rest = rw (← same y k, h, k) (ap (λ l. y ∷ l) (rest (y ∷ seen) (y ∷ also) (λ z q. ap (λ b. identity_eq y z || b) (same z q))))
    by true false h k rest = rest seen also same
    by false false h k rest = rw k (rest (y ∷ seen) also (λ z q. other z k q (identity_eq y z) refl))

fed-is : (q : Identity → Bool) (ds : List Demand) → model.fed_identities q ds ≡ model.each_once [] (filter (λ y. not (q y)) (ids ds))
fed-is q ds = once-passed (λ y. not (q y)) [] [] (ids ds) (λ y e. refl)

-- two that drop the same of what is demanded
fed-same : (p q : Identity → Bool) (ds : List Demand) → ((y : Identity) → has (ids ds) y ≡ true → p y ≡ q y) → model.fed_identities p ds ≡ model.fed_identities q ds
fed-same p q ds same = fed-is p ds ∙ (ap (model.each_once []) (kept (ids ds) same) ∙ sym (fed-is q ds))
  where
    kept : (xs : List Identity) → ((y : Identity) → has xs y ≡ true → p y ≡ q y) → filter (λ y. not (p y)) xs ≡ filter (λ y. not (q y)) xs
    kept [] same = refl
    kept (y ∷ xs) same =
        let rest = kept xs (λ z h. same z (or_right (identity_eq y z) (has xs z) h)) in
        λ i. cond (not (same y (ap (λ b. b || has xs y) (identity_eq_self y)) i)) (y ∷ rest i) (rest i)

-- something is fed exactly if something that is demanded doesn't drop
pub fed-some : (q : Identity → Bool) (ds : List Demand) → some_stream (model.fed_identities q ds) ≡ list_any (λ (d : Demand). not (q d.identity)) ds
fed-some q ds = ap some_stream (fed-is q ds) ∙ (first (filter (λ y. not (q y)) (ids ds)) ∙ any ds)
  where
    first : (xs : List Identity) → some_stream (model.each_once [] xs) ≡ some_stream xs
    first [] = refl
    first (x ∷ xs) = refl

    any : (ds : List Demand) → some_stream (filter (λ y. not (q y)) (ids ds)) ≡ list_any (λ (d : Demand). not (q d.identity)) ds
    any [] = refl
    any (d ∷ ds) = cond_both (not (q d.identity)) (d.identity ∷ filter (λ y. not (q y)) (ids ds)) (filter (λ y. not (q y)) (ids ds)) (λ (xs : List Identity). some_stream xs ≡ list_any (λ (d : Demand). not (q d.identity)) (d ∷ ds))
        (λ t i. sym t i || list_any (λ (d : Demand). not (q d.identity)) ds)
        (λ f. any ds ∙ λ i. sym f i || list_any (λ (d : Demand). not (q d.identity)) ds)

-- ======== the table of fates ========
-- what is known once these demands are entered
enter-known : (fs : List Demand) (d : Demand) (y : Identity) → model.is_known (machine.enter fs d) y ≡ (model.is_known fs y || identity_eq d.identity y)
enter-known fs d y = cond_both (model.is_known fs d.identity) fs (fs ++ d ∷ []) (λ l. model.is_known l y ≡ (model.is_known fs y || identity_eq d.identity y))
    (λ t. within (model.is_known fs y) (identity_eq d.identity y) (λ e. ap (model.is_known fs) (sym (identity_eq_true d.identity y e)) ∙ t))
    (λ _. known-append fs (d ∷ []) y ∙ ap (λ b. model.is_known fs y || b) (or-false (identity_eq d.identity y)))
  where
    within : (k e : Bool) → (e ≡ true → k ≡ true) → k ≡ (k || e)
    within k true f = f refl ∙ sym (or-true k)
    within k false f = sym (or-false k)

entered-known : (fs ds : List Demand) (y : Identity) → model.is_known (fold machine.enter fs ds) y ≡ (model.is_known fs y || has (ids ds) y)
entered-known fs [] y = sym (or-false (model.is_known fs y))
entered-known fs (d ∷ ds) y =
    entered-known (machine.enter fs d) ds y
    ∙ (ap (λ b. b || has (ids ds) y) (enter-known fs d y) ∙ or_assoc (model.is_known fs y) (identity_eq d.identity y) (has (ids ds) y))

-- ======== parts ========
-- the fates of a part after demands
pub demanded-fates : (now : ℕ) (p : ReaderPart) (ds : List Demand) → (fold (machine.part_after_demand now) p ds).fates ≡ fold machine.enter p.fates ds
demanded-fates now p [] = refl
demanded-fates now p (d ∷ ds) = demanded-fates now (machine.part_after_demand now p d) ds

-- ======== longer lists of streams ========
get-append : (ks ms : List StreamContents) (n : ℕ) (m : StreamContents) → slice_get ks n ≡ Some m → slice_get (ks ++ ms) n ≡ Some m
get-append ks ms n m e =
    let within : n < length ks = slice_get_within ks n m e in
    slice_get-get_or (ks ++ ms) n m (omega (arith, within, length-append {A = StreamContents})) ∙ ap (λ k. Some k) (get_or_append_left ks ms m n within ∙ get_or_from_slice_get ks n m m e)

-- the streams there keep their numbers
named-front : (ks ms : List StreamContents) (ns : List ℕ) → HaveStreams ns ks → named_identities (ks ++ ms) ns ≡ named_identities ks ns
named-front ks ms [] all = refl
named-front ks ms (n ∷ ns) all =
    λ i. (identity_at-is (ks ++ ms) n (all.0.0) (get-append ks ms n (all.0.0) all.0.1) ∙ sym (identity_at-is ks n (all.0.0) all.0.1)) i ++ named-front ks ms ns all.1 i

named-push : (ks : List StreamContents) (ns : List ℕ) (n : ℕ) (k : StreamContents) → slice_get ks n ≡ Some k → named_identities ks (ns ++ n ∷ []) ≡ named_identities ks ns ++ identity_of k ∷ []
named-push ks [] n k e = ap (λ xs. xs ++ []) (identity_at-is ks n k e)
named-push ks (m ∷ ns) n k e = ap (λ xs. identity_at ks m ++ xs) (named-push ks ns n k e) ∙ sym (append_assoc (identity_at ks m) (named_identities ks ns) (identity_of k ∷ []))

all_named-front : (ks ms : List StreamContents) (feeds : List (List ℕ)) → All (AreNumbers ks) feeds → map (named_identities (ks ++ ms)) feeds ≡ map (named_identities ks) feeds
all_named-front ks ms [] all = refl
all_named-front ks ms (ns ∷ feeds) all = λ i. named-front ks ms ns (numbers-named ks ns (all 0 ns (omega arith))) i ∷ all_named-front ks ms feeds (λ j d h. all (suc j) d (omega arith)) i

streamed-push : (ks : List StreamContents) (k : StreamContents) → model_streams (ks ++ k ∷ []) ≡ model_streams ks ++ cond (model.is_drop k.stream.demand.aggregation) [] (k.stream ∷ [])
streamed-push ks k =
    ap (map (λ (h : StreamContents). h.stream)) (filter-append is_streamed ks (k ∷ []))
    ∙ map-append (λ (h : StreamContents). h.stream) (filter is_streamed ks) (filter is_streamed (k ∷ []))
    ∙ ap (λ ss. model_streams ks ++ ss) (by (model.is_drop k.stream.demand.aggregation))
  where
    by : (b : Bool) → map (λ (h : StreamContents). h.stream) (cond (not b) (k ∷ []) []) ≡ cond b [] (k.stream ∷ [])
    by true = refl
    by false = refl

-- ======== one demand more ========
-- a part after a demand whose identity is known or not
abbrev demanded : ℕ → ReaderPart → Demand → Bool → ReaderPart
demanded now q d b = record q { fates = cond b q.fates (q.fates ++ d ∷ []); streams = cond b q.streams (q.streams ++ cond (model.is_drop d.aggregation) [] (machine.new_stream now d ∷ [])) }

-- one that isn't makes a stream
demanded-new : (now : ℕ) (answers : ReaderAnswers) (ks : List StreamContents) (feeds : List (List ℕ)) (d : Demand) (resets : Bool) → All (AreNumbers ks) feeds → model.is_known (fates_of ks) d.identity ≡ false
    → part_by answers (ks ++ new_contents resets d now ∷ []) feeds ≡ machine.part_after_demand now (part_by answers ks feeds) d
demanded-new now answers ks feeds d resets numbers e =
    (λ i. record {
      answers = answers;
      fates = map-append (λ (k : StreamContents). k.stream.demand) ks (new_contents resets d now ∷ []) i;
      streams = streamed-push ks (new_contents resets d now) i;
      feeds = all_named-front ks (new_contents resets d now ∷ []) feeds numbers i;
    })
    ∙ ap (demanded now (part_by answers ks feeds) d) (sym e)

-- nothing more
pub longer-refl : (p : Piped) → IsLonger p p
longer-refl p = record { added = []; fed = []; answers = refl; streams = sym (append-nil p.streams); feeds = sym (append-nil p.feeds) }

pub longer-trans : (a b c : Piped) → IsLonger a b → IsLonger b c → IsLonger a c
longer-trans a b c p q = record {
  added = p.added ++ q.added;
  fed = p.fed ++ q.fed;
  answers = q.answers ∙ p.answers;
  streams = q.streams ∙ (ap (λ l. l ++ q.added) p.streams ∙ append_assoc a.streams p.added q.added);
  feeds = q.feeds ∙ (ap (λ l. l ++ q.fed) p.feeds ∙ append_assoc a.feeds p.fed q.fed);
}

-- the demand of an identity that has a stream
pub met-known : (now : ℕ) (d : Demand) (p : Piped) (n : ℕ) → stream_number d.identity (stream_identities p.streams) ≡ Some n → IsMetBy now d p p n
met-known now d p n e = record {
  longer = longer-refl p;
  part = ap (demanded now (part_of p) d) (sym (known d.identity p.streams ∙ ap is_some e));
  hash_seed = refl;
  at = found d.identity p.streams n e;
}

-- and of one that has none
pub met-new : (now : ℕ) (d : Demand) (resets : Bool) (p : Piped) → stream_number d.identity (stream_identities p.streams) ≡ None → All (AreNumbers p.streams) p.feeds
    → IsMetBy now d p (record { answers = p.answers; streams = p.streams ++ new_contents resets d now ∷ []; feeds = p.feeds; hash_seed = p.hash_seed }) (length p.streams)
met-new now d resets p e numbers = record {
  longer = record { added = fresh ∷ []; fed = []; answers = refl; streams = refl; feeds = sym (append-nil p.feeds) };
  part = demanded-new now p.answers p.streams p.feeds d resets numbers unknown;
  hash_seed = refl;
  at = get_map identity_of (p.streams ++ fresh ∷ []) (length p.streams) fresh (slice_get-get_or (p.streams ++ fresh ∷ []) (length p.streams) fresh (omega (arith, length_push p.streams fresh)) ∙ ap (λ k. Some k) (get_or_push p.streams fresh fresh (length p.streams) refl));
}
  where
    fresh : StreamContents
    fresh = new_contents resets d now

    unknown : model.is_known (fates_of p.streams) d.identity ≡ false
    unknown = known d.identity p.streams ∙ ap is_some e

-- ======== the demands of an instrument ========
pub met-none : (now : ℕ) (p : Piped) → AreMet now [] p p []
met-none now p = record { part = refl; hash_seed = refl; numbers = λ j n h. absurd (omega arith); once = tt; named = refl }

-- one demand more
module _ (now : ℕ) (ds : List Demand) (d : Demand) (first old new : Piped) (n : ℕ) (feeds : List ℕ) (was : AreMet now ds first old feeds) (by : IsMetBy now d old new n) (k : StreamContents) (at : slice_get new.streams n ≡ Some k) where
  abbrev dropped : Identity → Bool
  dropped = model.is_dropped (fates_of new.streams)

  abbrev fed : List Identity
  fed = model.fed_identities dropped ds

  -- what was demanded is known, and keeps its fate
  same-fate : (y : Identity) → has (ids ds) y ≡ true → model.is_dropped (fates_of old.streams) y ≡ dropped y
  same-fate y h =
      let is_known : model.is_known (fates_of old.streams) y ≡ true =
      ap (λ (p : ReaderPart). model.is_known p.fates y) was.part
      ∙ (ap (λ fs. model.is_known fs y) (demanded-fates now (part_of first) ds)
      ∙ (entered-known (fates_of first.streams) ds y ∙ or_right (model.is_known (fates_of first.streams) y) (has (ids ds) y) h)) in
      sym (ap (λ ks. model.is_dropped (fates_of ks) y) by.longer.streams
      ∙ (ap (λ fs. model.is_dropped fs y) (map-append (λ (k : StreamContents). k.stream.demand) old.streams by.longer.added)
      ∙ ap model.is_drop_fate (fate_stays (fates_of old.streams) (fates_of by.longer.added) y is_known)))

  numbers-more : AreNumbers new.streams feeds
  numbers-more j m h = let q = was.numbers j m h in omega (arith, ap length by.longer.streams, length-append {A = StreamContents})

  named-old : named_identities new.streams feeds ≡ fed
  named-old =
      ap (λ ks. named_identities ks feeds) by.longer.streams
      ∙ (named-front old.streams by.longer.added feeds (numbers-named old.streams feeds was.numbers)
      ∙ (was.named ∙ fed-same (model.is_dropped (fates_of old.streams)) dropped ds same-fate))

  is : identity_of k ≡ d.identity
  is = some_is _ _ (sym (get_map identity_of new.streams n k at) ∙ by.at)

  module _ (apart : IsDistinct identity_eq (stream_identities new.streams)) where
    -- the number is fed already exactly if the identity is demanded already
    same : dropped d.identity ≡ false → has_number n feeds ≡ has (ids ds) d.identity
    same undropped =
        sym (named-has new.streams (are_apart new.streams apart) feeds (numbers-named new.streams feeds numbers-more) n k at)
        ∙ (ap (has (named_identities new.streams feeds)) is
        ∙ (ap (λ xs. has xs d.identity) named-old ∙ fed-has dropped ds d.identity undropped))

    more : (c h : Bool) → c ≡ h → named_identities new.streams (cond c feeds (feeds ++ n ∷ [])) ≡ fed ++ cond h [] (d.identity ∷ [])
    more true true q = named-old ∙ sym (append-nil fed)
    more false false q = named-push new.streams feeds n k at ∙ λ i. named-old i ++ is i ∷ []
    more true false q = absurd (true≢false q)
    more false true q = absurd (true≢false (sym q))

    named : (b : Bool) → dropped d.identity ≡ b → named_identities new.streams (fed_once b n feeds) ≡ fed ++ cond (dropped d.identity || has (ids ds) d.identity) [] (d.identity ∷ [])
    named true t = named-old ∙ (sym (append-nil fed) ∙ ap (λ b. fed ++ cond (b || has (ids ds) d.identity) [] (d.identity ∷ [])) (sym t))
    named false t = more (has_number n feeds) (has (ids ds) d.identity) (same t) ∙ ap (λ b. fed ++ cond (b || has (ids ds) d.identity) [] (d.identity ∷ [])) (sym t)

    pub met-more : (all : List ℕ) → all ≡ fed_once (model.is_drop k.stream.demand.aggregation) n feeds → AreMet now (ds ++ d ∷ []) first new all
    met-more all e = let drops : Bool = model.is_drop k.stream.demand.aggregation in subst (AreMet now (ds ++ d ∷ []) first new) (sym e) (record {
      part = by.part ∙ (ap (λ p. machine.part_after_demand now p d) was.part ∙ sym (fold-append (machine.part_after_demand now) (part_of first) ds (d ∷ [])));
      hash_seed = by.hash_seed ∙ was.hash_seed;
      numbers = cond_both (drops || has_number n feeds) feeds (feeds ++ n ∷ []) (AreNumbers new.streams) (λ _. numbers-more) (λ _. All-push (λ n. n < length new.streams) feeds n numbers-more (slice_get_within new.streams n k at));
      once = cond_both (drops || has_number n feeds) feeds (feeds ++ n ∷ []) AreFedOnce (λ _. was.once) (λ e. once-push feeds n was.once (or_parts drops (has_number n feeds) e).1);
      named = named drops (ap dropped (sym is) ∙ fate-at new.streams n k apart at) ∙ sym (fed-push dropped ds d);
    })

-- ======== a build ========
-- with the new instrument it is what the machine makes of the demands
pub met-built : (now : ℕ) (ds : List Demand) (old new : Piped) (ns : List ℕ) → AreMet now ds old new ns → part_by new.answers new.streams (new.feeds ++ ns ∷ []) ≡ machine.with_feeds ds (fold (machine.part_after_demand now) (part_of old) ds)
met-built now ds old new ns met =
    (λ i. record { answers = new.answers; fates = fates_of new.streams; streams = model_streams new.streams; feeds = (map-append (named_identities new.streams) new.feeds (ns ∷ []) ∙ λ j. map (named_identities new.streams) new.feeds ++ met.named j ∷ []) i })
    ∙ ap (machine.with_feeds ds) met.part

-- ======== a build that is undone ========
-- what holds of all elements holds of the first
pub each-taken : {X : Type 0} (P : X → Type 0) (n : ℕ) (xs : List X) → AllByRecursion P xs → AllByRecursion P (take n xs)
each-taken P zero xs all = tt
each-taken P (suc n) [] all = tt
each-taken P (suc n) (x ∷ xs) all = (all.0, each-taken P n xs all.1)
