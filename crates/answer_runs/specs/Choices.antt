-- Options: the least of some places, and values that are only present if others are absent.
use Rattle.std.specs.Prelude.{ℕ, nat_le, if◌then◌else◌, List, [], ◌∷◌, Option, Some, None}

abbrev pub first_of : {X : Type 0} → List X → Option X
first_of [] = None
first_of (x ∷ xs) = Some x

-- The lower of two places, either of which may be missing.
abbrev pub lower : Option ℕ → Option ℕ → Option ℕ
lower None y = y
lower (Some n) None = Some n
lower (Some n) (Some m) = if nat_le n m then Some n else Some m

-- The least of some places, if there are any.
abbrev pub least : List ℕ → Option ℕ
least [] = None
least (n ∷ ns) = lower (Some n) (least ns)

-- The list, unless it is empty.
abbrev pub unless_empty : {X : Type 0} → List X → Option (List X)
unless_empty [] = None
unless_empty (x ∷ xs) = Some (x ∷ xs)

-- The value, unless one of the places is present.
abbrev pub unless_any : {X : Type 0} → List (Option ℕ) → X → Option X
unless_any [] x = Some x
unless_any (None ∷ places) x = unless_any places x
unless_any (Some place ∷ places) x = None
