-- Rules of registers as the entries of a map.
use Rattle.std.specs.Prelude.{ℕ, ◌+◌, ◌≤◌, [], ◌∷◌}
use Rattle.cfi_rows.specs.declared.row.Rule.{Rule}
use Rattle.cfi_rows.specs.FrameRows.{Rules}

-- an entry whose value is seen as a rule
abbrev pub valued : {X : Type 0} → (X → Rule) → ℕ × X → ℕ × Rule
valued f e = (e.0, f e.1)

-- rules that ascend by register, from one on
abbrev pub Ascend : ℕ → Rules → Type 0
Ascend low [] = Unit {0}
Ascend low (x ∷ xs) = (low ≤ x.0) × Ascend (x.0 + 1) xs
