-- Values that are handed on as boxed objects.
use Rattle.std.proofs.Common.{◌≡◌, refl, sym, subst}

-- what holds of every value of one type holds of an object that is known to be of that type
pub at_entry : {V : Type 0} {H : V → Type 0} (P : (v : V) → H v → Type 0) (u v : V) (object : H v) → v ≡ u → ((a : H u) → P u a) → P v object
at_entry {V} {H} P u v object same each =
    let Q : V → Type 0 = λ w. (a : H w) → P w a in
    subst Q (sym same) each object

-- a call that makes of the object q, which is p, another one at which R holds makes that of p
pub becomes_at : {V : Type 0} {H : V → Type 0} {A : Type 0} (R : (v : V) → H v → H v → A → Type 0) (p q : (v : V) × H v) (b : H q.0) (answer : A) → q ≡ p → R q.0 q.1 b answer → (x : H p.0) × (◌≡◌ {A = (v : V) × H v} (p.0, x) (q.0, b)) × R p.0 p.1 x answer
becomes_at {V} {H} R p q b answer e h =
    let P : ((v : V) × H v) → Type 0 = λ s. (x : H s.0) × (◌≡◌ {A = (v : V) × H v} (s.0, x) (q.0, b)) × R s.0 s.1 x answer in
    subst P e (b, refl, h)

-- what a call keeps of the object q, which is p, it keeps of p
pub kept_at : {V : Type 0} {H : V → Type 0} {T : Type 0} (F : (v : V) → H v → T) (p q : (v : V) × H v) (b : H q.0) → q ≡ p → F q.0 b ≡ F q.0 q.1 → F q.0 b ≡ F p.0 p.1
kept_at {V} {H} F p q b e h =
    let P : ((v : V) × H v) → Type 0 = λ s. F q.0 b ≡ F s.0 s.1 in
    subst P e h

-- what holds of the object q holds of p, which is q
pub carried_at : {V : Type 0} {H : V → Type 0} (P : (v : V) → H v → Type 0) (p q : (v : V) × H v) → q ≡ p → P q.0 q.1 → P p.0 p.1
carried_at {V} {H} P p q e h =
    let Q : ((v : V) × H v) → Type 0 = λ s. P s.0 s.1 in
    subst Q e h
