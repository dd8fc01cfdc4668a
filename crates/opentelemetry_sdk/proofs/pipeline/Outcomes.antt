-- What holds where a call succeeds, and where it is refused.
use Rattle.std.specs.Prelude.{Result, Ok, Err, IfOk, OnOk, OnErr}

-- of what succeeded two things hold, and so a third
pub IfOk-both : {T E : Type 0} (r : Result T E) {P Q R : T → Type 0} → ((x : T) → P x → Q x → R x) → IfOk r P → IfOk r Q → IfOk r R
IfOk-both (Ok x) f p q = f x p q
IfOk-both (Err e) f p q = p

-- what holds whether it succeeded or was refused
pub either : {T E : Type 0} (r : Result T E) {P Q R : Type 0} → (P → R) → (Q → R) → OnOk r P → OnErr r Q → R
either (Ok x) f g p q = f p
either (Err e) f g p q = g q
