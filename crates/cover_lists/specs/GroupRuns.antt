-- The runs of new code whose owners are in a group of ranges.
use Rattle.std.specs.Prelude.{◌≡◌, ◌<◌, ◌+◌, ◌==◌, ℕ, Bool, true, false, List, [], ◌∷◌, All, nat_le, if◌then◌else◌}
use Rattle.std.specs.Prelude.{Option, Some, None, option_and_then, slice_get, length, map, filter}
use Rattle.std.specs.Global.{Vec}
use Rattle.std.specs.List.{list_any}
use Rattle.std.specs.Option.{option_or}
use Rattle.answer_runs.specs.declared.run.Run.{Run}
use Rattle.answer_runs.specs.AnswerRuns.{answer_over, run_at, IsWithin, AreLongest}
use Rattle.answer_runs.specs.LastRuns.{IsAnswer, ends_at}
use Rattle.cover_lists.specs.declared.cover_tree.Cover.{Cover}
use Rattle.cover_lists.specs.CoverTree.{holds}
use Rattle.cover_lists.specs.Groups.{group_holds}

abbrev pub list_of : Option (Vec (Run Bool)) → List (Run Bool)
list_of None = []
list_of (Some v) = v.items

-- The runs of a group.
abbrev pub runs_in : List (Vec (Run Bool)) → ℕ → List (Run Bool)
runs_in lists group = list_of (slice_get lists group)

-- Longest runs of bytes with answer `true`, below an address.
pub record AreHeld (end : ℕ) (runs : List (Run Bool)) : Type 0 where
  pub within : IsWithin 0 runs end
  pub longest : AreLongest runs
  pub last : IsAnswer (Some true) runs

-- Runs with one more stretch, which is at their end.
pub record IsStretched (start len : ℕ) (old new : List (Run Bool)) : Type 0 where
  pub held : AreHeld (start + len) new
  pub ends : ends_at (start + len) new ≡ true
  pub answers : (p : ℕ) → run_at new p ≡ option_or (run_at old p) (answer_over start len true p)

abbrev pub IsStretchedIf : Bool → ℕ → ℕ → List (Run Bool) → List (Run Bool) → Type 0
IsStretchedIf true start len old new = IsStretched start len old new
IsStretchedIf false start len old new = new ≡ old

-- The groups with these numbers got one more stretch, and no other group did.
pub record AreStretched (groups : List ℕ) (start len : ℕ) (old new : List (Vec (Run Bool))) : Type 0 where
  pub count : length new ≡ length old
  pub each : (g : ℕ) → g < length old →
      IsStretchedIf (list_any (λ h. h == g) groups) start len (runs_in old g) (runs_in new g)

-- The groups whose ranges contain an address.
abbrev pub holders : List Cover → ℕ → List ℕ
holders covers a = map (λ (c : Cover). c.group) (filter (holds a) covers)

abbrev pub if_held : Bool → Option Bool
if_held b = if b then Some true else None

-- `true` at the addresses in the group.
abbrev pub held_by : List Cover → ℕ → ℕ → Option Bool
held_by covers g a = if_held (group_holds covers g a)

-- The end of runs that begin at or after an address.
abbrev pub runs_end : {A : Type 0} → ℕ → List (Run A) → ℕ
runs_end lo [] = lo
runs_end lo (r ∷ rs) = runs_end (r.start + r.len) rs

-- The runs of a group, by one old address for each stretch of new code.
pub record IsGroupRuns (covers : List Cover) (g : ℕ) (stretches : List (Run ℕ)) (held : List (Run Bool)) : Type 0 where
  pub are : AreHeld (runs_end 0 stretches) held
  pub answers : (p : ℕ) → run_at held p ≡ option_and_then (held_by covers g) (run_at stretches p)

-- Two addresses with the same bounds at or below them are in the same groups.
abbrev pub AreApart : List ℕ → List Cover → Type 0
AreApart bounds covers = (a b : ℕ) → All (λ x. nat_le x a ≡ nat_le x b) bounds → (g : ℕ) →
    group_holds covers g a ≡ group_holds covers g b
