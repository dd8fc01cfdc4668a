-- What a sending leaves, from how many bytes were written and how many of them are whole lines.
use Rattle.std.proofs.Common.{◌≡◌, ℕ, ◌≤◌, ◌≢◌, List, ◌++◌, length, take, drop, Option, nat_lt, sym, ap, ◌∙◌, subst, arith, append_assoc, take-append-drop}
use Rattle.std.proofs.lemmas.Grind.{common_steps}
use Rattle.std.proofs.lemmas.List.{drop-append-le}
use lib.Seq.{take-take}
use Rattle.std.specs.List.{All}
use Rattle.std.specs.Io.KnownBytes.{Appends}
use Rattle.std.proofs.KnownBytes.{Appends-trans}
use Rattle.otel_export.specs.Outboxes.{Unsent, AreLines, Sends, close_of}

-- the bytes behind the first `whole` are those that are written of them, and the rest
left : (bytes : List ℕ) (whole written : ℕ) → whole ≤ written → written ≤ length bytes → drop whole bytes ≡ drop whole (take written bytes) ++ drop written bytes
left bytes whole written order fits =
    ap (drop whole) (sym (take-append-drop written bytes)) ∙ drop-append-le whole (take written bytes) (drop written bytes) (grind (arith, common_steps))

first : (bytes : List ℕ) (whole written : ℕ) → whole ≤ written → take whole (take written bytes) ≡ take whole bytes
first bytes whole written order = take-take whole written bytes order

shorter : (bytes shown : List ℕ) (whole written : ℕ) → shown ≡ take written bytes → whole ≤ length shown → whole ≤ written
shorter bytes shown whole written part most = grind (arith, common_steps)

sends_of : (old new : Unsent) (before middle after : Option (List ℕ)) (whole written : ℕ)
    → whole ≤ written → written ≤ length old.waiting
    → AreLines (take whole (take written old.waiting)) → All (λ byte. byte ≢ 10) (drop whole (take written old.waiting))
    → Appends before middle (close_of old) → Appends middle after (take written old.waiting)
    → new.waiting ≡ drop whole old.waiting → new.is_cut ≡ nat_lt whole written
    → Sends old new before after
sends_of old new before middle after whole written order fits lines rest closed sent waits cut =
    let w : List ℕ = old.waiting in
    record {
      handed = take whole (take written w);
      part = drop whole (take written w);
      ordered = sym (ap (λ l. take whole (take written w) ++ l) waits ∙ ap (λ l. l ++ drop whole w) (first w whole written order) ∙ take-append-drop whole w);
      whole = lines;
      begun = (drop written w, waits ∙ left w whole written order fits);
      unfinished = rest;
      cut = (λ told. grind (arith, common_steps, told), λ some. grind (arith, common_steps, some));
      written = subst (Appends before after) (ap (λ l. close_of old ++ l) (sym (take-append-drop whole (take written w))) ∙ sym (append_assoc (close_of old) (take whole (take written w)) (drop whole (take written w)))) (Appends-trans before middle after (close_of old) (take written w) closed sent);
    }

-- the same of `bytes` and `shown`, which are what waits and what is written of it
pub sends_from : (old new : Unsent) (before middle after : Option (List ℕ)) (whole written : ℕ) (bytes shown : List ℕ)
    → bytes ≡ old.waiting → shown ≡ take written old.waiting → whole ≤ length shown → written ≤ length bytes
    → AreLines (take whole shown) → All (λ byte. byte ≢ 10) (drop whole shown)
    → Appends before middle (close_of old) → Appends middle after (take written bytes)
    → new.waiting ≡ drop whole old.waiting → new.is_cut ≡ nat_lt whole written
    → Sends old new before after
sends_from old new before middle after whole written bytes shown same part most fits lines rest closed sent waits cut =
    let Whole : List ℕ → Type 0 = λ s. AreLines (take whole s) in
    let Rest : List ℕ → Type 0 = λ s. All (λ byte. byte ≢ 10) (drop whole s) in
    let Sent : List ℕ → Type 0 = λ s. Appends middle after (take written s) in
    let Within : List ℕ → Type 0 = λ s. written ≤ length s in
    let within = subst Within same fits in
    sends_of old new before middle after whole written (shorter old.waiting shown whole written part most) within
    (subst Whole part lines) (subst Rest part rest) closed (subst Sent same sent) waits cut
