-- Objects in boxes.
use Rattle.std.specs.Prelude.{◌≡◌}
use Rattle.std.specs.declared.dyn_box.DynBox.{DynBox}

-- the second box holds an object of the same type as the first box's, and P holds of it
abbrev pub Becomes : {V Z : Type 0} {H : V → Type 0} → (before after : DynBox V Z H) → (H before.vtable → Type 0) → Type 0
Becomes {V} {Z} {H} before after P =
    (object : H before.vtable) × (◌≡◌ {A = (v : V) × H v} (before.vtable, object) (after.vtable, after.value)) × P object
