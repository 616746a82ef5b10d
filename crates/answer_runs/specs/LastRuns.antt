-- The last of some runs.
use Rattle.std.specs.Prelude.{◌≡◌, ◌+◌, ◌==◌, ℕ, Bool, false, List, [], ◌∷◌, Option, Some}
use Rattle.answer_runs.specs.declared.run.Run.{Run}

-- The last run, if there is one, has the property `P`.
abbrev pub IfLast : {A : Type 0} → (Run A → Type 0) → List (Run A) → Type 0
IfLast P [] = Unit {0}
IfLast P (r ∷ []) = P r
IfLast P (r ∷ (s ∷ rs)) = IfLast P (s ∷ rs)

-- The last run, if there is one, has this answer.
abbrev pub IsAnswer : {A : Type 0} → Option A → List (Run A) → Type 0
IsAnswer answer runs = IfLast (λ r. answer ≡ Some r.answer) runs

-- There is a last run, and it ends at address `a`.
abbrev pub ends_at : {A : Type 0} → ℕ → List (Run A) → Bool
ends_at a [] = false
ends_at a (r ∷ []) = r.start + r.len == a
ends_at a (r ∷ (s ∷ rs)) = ends_at a (s ∷ rs)

-- The runs with n more bytes in the last one.
abbrev pub lengthened : {A : Type 0} → ℕ → List (Run A) → List (Run A)
lengthened n [] = []
lengthened n (r ∷ []) = record { start = r.start; len = r.len + n; answer = r.answer } ∷ []
lengthened n (r ∷ (s ∷ rs)) = r ∷ lengthened n (s ∷ rs)
