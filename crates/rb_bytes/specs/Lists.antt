-- Lists that gain the members of a set.
use Rattle.std.specs.Prelude.{◌⊎◌, ◌↔◌, List, Contains}

-- The members of `new` are those of `old` and the x with `Is x`.
abbrev pub Gains : {A : Type 0} → List A → List A → (A → Type 0) → Type 0
Gains {A} old new Is = (x : A) → Contains new x ↔ (Contains old x ⊎ Is x)
