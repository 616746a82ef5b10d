-- What fits the fields of a written frame table.
use Rattle.std.specs.Prelude.{◌≡◌, ℕ, ◌+◌, ◌-◌, ◌*◌, ◌++◌, ◌^◌, ◌<◌, ◌≤◌, List, [], ◌∷◌, All, length, take, drop}
use Rattle.std.specs.Prelude.{FitsSigned, Some, slice_get, IsSome}
use Rattle.std.specs.Int.{w64}
use Rattle.addr_map.specs.declared.span.Span.{Span}
use Rattle.answer_runs.specs.declared.run.Run.{Run}
use Rattle.answer_runs.specs.AnswerRuns.{run_at}
use Rattle.cfi_rows.specs.declared.row.Cfa.{Cfa}
use Rattle.cfi_rows.specs.declared.row.Cfa.TheVariants.{Reg, Expr}
use Rattle.cfi_rows.specs.declared.row.Rule.{Rule}
use Rattle.cfi_rows.specs.declared.row.Rule.TheVariants as rule
use Rattle.cfi_rows.specs.FrameRows.{RowValue, Rules}
use Rattle.cfi_rows.specs.RuleEntries.{Ascend}
use Rattle.frame_rewrite.specs.declared.cie_key.CieKey.{CieKey}
use Rattle.frame_rewrite.specs.declared.form.Form.{Form}
use Rattle.frame_rewrite.specs.declared.form.Form.TheVariants.{Debug, Loaded}
use Rattle.frame_rewrite.specs.FrameAnswers.{FrameAnswer}
use Rattle.frame_rewrite.specs.SpelledFrames.{key_of, key_index, fde_body, more_count, start_of, last_end, cie_size}
use Rattle.frame_rewrite.specs.SpelledFrames.{is_debug, spelled_entries, table_entries, end_mark}

abbrev pub CfaFits : Cfa → Type 0
CfaFits (Reg r n) = (r < 2 ^ 64) × FitsSigned w64 n
CfaFits (Expr b) = length b < 2 ^ 64

abbrev pub RuleFits : Rule → Type 0
RuleFits rule.Undefined = Unit {0}
RuleFits rule.Same = Unit {0}
RuleFits (rule.Offset n) = FitsSigned w64 n
RuleFits (rule.ValOffset n) = FitsSigned w64 n
RuleFits (rule.Reg q) = q < 2 ^ 64
RuleFits (rule.Expr b) = length b < 2 ^ 64
RuleFits (rule.ValExpr b) = length b < 2 ^ 64

-- the registers ascend, from one on
abbrev pub RulesFit : ℕ → Rules → Type 0
RulesFit least [] = Unit {0}
RulesFit least (x ∷ xs) = (least ≤ x.0) × (x.0 < 2 ^ 64) × RuleFits x.1 × RulesFit (x.0 + 1) xs

pub record RowFits (row : RowValue) : Type 0 where
  pub cfa : CfaFits row.cfa
  pub rules : RulesFit 0 row.rules

pub record KeyFits (k : CieKey) : Type 0 where
  pub ra : k.ra < 256
  pub handler : k.handler < 2 ^ 64

-- the rules of the row that a run answers ascend by register
abbrev pub RunAscends : Run FrameAnswer → Type 0
RunAscends r = Ascend 0 r.answer.row.rules

-- its return register has one byte
abbrev pub RunReturns : Run FrameAnswer → Type 0
RunReturns r = r.answer.ra < 256

-- each run begins at the start of the one before or later, from an address on
abbrev pub IsAbove : ℕ → List (Run FrameAnswer) → Type 0
IsAbove at [] = Unit {0}
IsAbove at (r ∷ rs) = (at ≤ r.start) × IsAbove r.start rs

-- each run begins less than 2 ^ 32 after the one before
abbrev pub Near : ℕ → List (Run FrameAnswer) → Type 0
Near at [] = Unit {0}
Near at (r ∷ rs) = (r.start - at < 2 ^ 32) × Near r.start rs

-- The start and the size of a range at an offset fit four bytes, and so does the distance to the start.
abbrev pub RangeFits : Form → (place start size : ℕ) → Type 0
RangeFits Debug place start size = Unit {0}
RangeFits (Loaded at) place start size = (at + place + 8 < 2 ^ 31) × (start < 2 ^ 31) × (size < 2 ^ 31)

-- an entry at an offset: its fields fit, and its CIE is the one that its answers need
pub record Writes (form : Form) (spans : List Span) (keys : List CieKey) (place : ℕ) (r : Run FrameAnswer)
    (more : List (Run FrameAnswer)) : Type 0 where
  pub low : place + 4 < 2 ^ 32
  pub size : length (fde_body form place spans r more) + 4 < 0xffffffff
  pub key : slice_get keys (key_index spans keys r) ≡ Some (key_of spans r.answer)
  pub range : RangeFits form place (start_of spans r) (last_end (r.start + r.len) more - start_of spans r)
  pub table : r.answer.table < 2 ^ 64
  pub row : RowFits r.answer.row
  pub rows : All (λ (q : Run FrameAnswer). RowFits q.answer.row) more
  pub near : Near (start_of spans r) more

unfoldable pub WritesAll : Form → List Span → List CieKey → ℕ → ℕ → List (Run FrameAnswer) → Type 0
WritesAll form spans keys n place [] = Unit {0}
WritesAll form spans keys ℕ.zero place (r ∷ rs) = Unit {0}
WritesAll form spans keys (ℕ.suc n) place (r ∷ rs) =
    Writes form spans keys place r (take (more_count r rs) rs)
    × WritesAll form spans keys n (place + 8 + length (fde_body form place spans r (take (more_count r rs) rs)))
    (drop (more_count r rs) rs)

-- Before the run the range of its entry holds only bytes of other runs.
pub record IsReached (spans : List Span) (runs : List (Run FrameAnswer)) (r : Run FrameAnswer) : Type 0 where
  pub before : start_of spans r ≤ r.start
  pub filled : (p : ℕ) → start_of spans r ≤ p → p < r.start + r.len → IsSome (run_at runs p)

-- a run ends before the last address
abbrev pub EndFits : Run FrameAnswer → Type 0
EndFits r = r.start + r.len < 2 ^ 64

-- a table that was written of runs, with a CIE for each of some kinds of frames
pub record IsSpelled (form : Form) (spans : List Span) (keys : List CieKey) (runs : List (Run FrameAnswer))
    (bytes : List ℕ) : Type 0 where
  pub writes : WritesAll form spans keys (length runs) (cie_size * length keys) runs
  pub bytes_are : bytes ≡ spelled_entries (table_entries form spans keys runs) ++ end_mark (is_debug form)
