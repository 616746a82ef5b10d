-- The runs of new code in each of which a location list has the same expressions in force.
use Rattle.std.specs.Prelude.{◌≡◌, ◌+◌, ◌<◌, ◌==◌, ℕ, Bool, true, false, List, [], All, Option, Some, None, length}
use Rattle.std.specs.Prelude.{option_and_then, slice_get}
use Rattle.std.specs.Global.{Vec}
use Rattle.std.specs.List.{list_any}
use Rattle.std.specs.List.Sorted.{IsStrictlyIncreasing}
use Rattle.std.specs.Option.{option_or}
use Rattle.answer_runs.specs.declared.run.Run.{Run}
use Rattle.answer_runs.specs.AnswerRuns.{answer_over, run_at, said_runs, IsWithin, AreLongest}
use Rattle.answer_runs.specs.Choices.{unless_empty}
use Rattle.cover_lists.specs.declared.kept_list.KeptList.{KeptList}
use Rattle.cover_lists.specs.KeptLists.{items_in, number_says}

abbrev pub said : Vec (Vec ℕ) → List (List ℕ)
said v = items_in v.items

-- The answer of the list with a number at an address, if it has one.
abbrev pub list_answer : List KeptList → ℕ → ℕ → Option (List (List ℕ))
list_answer lists n a = unless_empty (number_says lists n a)

abbrev pub runs_of : Option (Vec (Run (Vec (Vec ℕ)))) → List (Run (List (List ℕ)))
runs_of None = []
runs_of (Some v) = said_runs said v.items

-- The runs of the list with a number.
abbrev pub said_in : List (Vec (Run (Vec (Vec ℕ)))) → ℕ → List (Run (List (List ℕ)))
said_in runs n = runs_of (slice_get runs n)

-- Longest runs with one more stretch, if there is an answer.
pub record IsExtended {A : Type 0} (start len : ℕ) (answer : Option A) (old new : List (Run A)) : Type 0 where
  pub within : IsWithin 0 new (start + len)
  pub longest : AreLongest new
  pub answers : (p : ℕ) → run_at new p
      ≡ option_or (run_at old p) (option_and_then (λ x. answer_over start len x p) answer)

-- The longest runs of the list with a number, by one old address for each stretch of new code.
pub record IsListRuns (lists : List KeptList) (n : ℕ) (stretches : List (Run ℕ)) (end : ℕ)
    (runs : List (Run (List (List ℕ)))) :
    Type 0 where
  pub within : IsWithin 0 runs end
  pub longest : AreLongest runs
  pub answers : (p : ℕ) → run_at runs p ≡ option_and_then (list_answer lists n) (run_at stretches p)

-- The number is in the list.
abbrev pub is_among : List ℕ → ℕ → Bool
is_among ns n = list_any (λ m. m == n) ns

-- The numbers of lists, ascending. No other list has an answer at the address.
pub record AreCandidates (lists : List KeptList) (a : ℕ) (numbers : List ℕ) : Type 0 where
  pub rising : IsStrictlyIncreasing numbers
  pub within : All (λ n. n < length lists) numbers
  pub others : (n : ℕ) → is_among numbers n ≡ false → list_answer lists n a ≡ None

abbrev pub IsExtendedIf : Bool → (start len : ℕ) → Option (List (List ℕ)) → (old new : List (Run (List (List ℕ)))) →
    Type 0
IsExtendedIf true start len answer old new = IsExtended start len answer old new
IsExtendedIf false start len answer old new = new ≡ old

-- The runs of the lists with these numbers got one more stretch, and no other list's did.
pub record AreExtended (lists : List KeptList) (a : ℕ) (numbers : List ℕ) (start len : ℕ)
    (old new : List (Vec (Run (Vec (Vec ℕ))))) : Type 0 where
  pub count : length new ≡ length old
  pub each : (n : ℕ) → IsExtendedIf (is_among numbers n) start len (list_answer lists n a) (said_in old n)
      (said_in new n)
