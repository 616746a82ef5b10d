-- Values by file name: contents, room or counts of faults.
use Rattle.std.specs.Prelude.{◌≡◌, ◌≢◌, ◌≤◌, ℕ, List}

-- No name has another value than before.
pub record Unchanged {A : Type 0} (old new : List ℕ → A) : Type 0 where
  pub each : (name : List ℕ) → new name ≡ old name

-- No name except `but` has another value than before.
pub record UnchangedBut {A : Type 0} (but : List ℕ) (old new : List ℕ → A) : Type 0 where
  pub others : (name : List ℕ) → name ≢ but → new name ≡ old name

-- No count of a name fell.
pub record NeverFalls (old new : List ℕ → ℕ) : Type 0 where
  pub each : (name : List ℕ) → old name ≤ new name
