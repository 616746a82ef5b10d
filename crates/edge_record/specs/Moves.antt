-- The moves of a run, from pc to pc.
use Rattle.std.specs.Prelude.{ℕ, suc, List, [], ◌∷◌, ◌++◌, Option}
use Rattle.rv_code.specs.machine.Machine.{Event, Outcome, Going}

-- the pc before a step, and the one after it
abbrev pub Move : Type 0
Move = ℕ × ℕ

-- `step` relates a state to the outcome of a step from it, and `pc_of` is the pc of a state.
module _ {S C : Type 0} (step : S → Outcome S C → Type 0) (pc_of : S → ℕ) (s : S) where
  -- the first n steps from s go on, make these moves, and lead to a state
  pub data Moves : ℕ → List Move → S → Type 0 where
    starts : Moves 0 [] s
    more : {n : ℕ} {moves : List Move} {t u : S} (e : Option Event) → Moves n moves t → step t (Going u e)
        → Moves (suc n) (moves ++ (pc_of t, pc_of u) ∷ []) u
