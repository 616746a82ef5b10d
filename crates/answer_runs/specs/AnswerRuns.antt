-- Runs: ranges of new code for which a table has the same answer at each byte.
use Rattle.std.specs.Prelude.{◌≡◌, ◌≢◌, ◌+◌, ◌^◌, ◌<◌, ◌≤◌, ◌&&◌, All, map, ℕ, nat_le, nat_lt, if◌then◌else◌, List, []}
use Rattle.std.specs.Prelude.{◌∷◌, Option, Some, None, option_and_then}
use Rattle.addr_map.specs.declared.span.Span.{Span}
use Rattle.addr_map.specs.Spans.{owner}
use Rattle.answer_runs.specs.declared.run.Run.{Run}
use Rattle.std.specs.Option.{option_or}

-- The answer at each byte of a range.
abbrev pub answer_over : {A : Type 0} → ℕ → ℕ → A → ℕ → Option A
answer_over start len answer p = if nat_le start p && nat_lt p (start + len) then Some answer else None

abbrev pub answer_in : {A : Type 0} → Run A → ℕ → Option A
answer_in r p = answer_over r.start r.len r.answer p

-- The answer of the run that contains a byte.
abbrev pub run_at : {A : Type 0} → List (Run A) → ℕ → Option A
run_at [] p = None
run_at (r ∷ rs) p = option_or (answer_in r p) (run_at rs p)

-- The runs ascend, don't overlap, aren't empty, and are between two addresses.
abbrev pub IsWithin : {A : Type 0} → ℕ → List (Run A) → ℕ → Type 0
IsWithin lo [] hi = lo ≤ hi
IsWithin lo (r ∷ rs) hi = (lo ≤ r.start) × (0 < r.len) × IsWithin (r.start + r.len) rs hi

-- The same runs, with a function applied to their answers.
abbrev pub said_runs : {A M : Type 0} → (A → M) → List (Run A) → List (Run M)
said_runs said runs = map (λ r. record { start = r.start; len = r.len; answer = said r.answer }) runs

-- The answer of a table of the old code at the owner of a byte of the new code.
abbrev pub carried : {A : Type 0} → (ℕ → Option A) → List Span → ℕ → Option A
carried at spans p = option_and_then at (owner spans p)

-- Adjacent runs have different answers.
abbrev pub AreLongest : {A : Type 0} → List (Run A) → Type 0
AreLongest [] = Unit {0}
AreLongest (r ∷ []) = Unit {0}
AreLongest (r ∷ (s ∷ rs)) = (r.start + r.len ≡ s.start → r.answer ≢ s.answer) × AreLongest (s ∷ rs)

-- The maximal runs of some answers. They are unique.
pub record AreRunsOf {A : Type 0} (answers : ℕ → Option A) (runs : List (Run A)) : Type 0 where
  pub end : ℕ
  pub within : IsWithin 0 runs end
  pub answered : (p : ℕ) → run_at runs p ≡ answers p
  pub longest : AreLongest runs

-- All bytes of new code are below 2^64 - 1.
abbrev pub AreLow : List Span → Type 0
AreLow spans = All (λ s. s.out + s.len < 2 ^ 64) spans
