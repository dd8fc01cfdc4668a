-- What is read off the point that is found.
use Rattle.std.specs.Prelude.{◌≡◌, Bool, List, Some}
use Rattle.std.proofs.Common.{ap, ◌∙◌}
use Rattle.std.specs.List.{find}
use Rattle.std.specs.Option.{option_map}

pub read_off : {A B : Type 0} (f : A → B) (test : A → Bool) (xs ys : List A) (x : A) (b : B) → b ≡ f x → Some x ≡ find test xs → xs ≡ ys → Some b ≡ option_map f (find test ys)
read_off f test xs ys x b e k h = rw e (ap (option_map f) (k ∙ ap (find test) h))
