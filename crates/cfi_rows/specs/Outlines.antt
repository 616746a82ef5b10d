-- What of the states of a frame program decides whether an instruction is malformed: the rules of registers don't.
use Rattle.std.specs.Prelude.{ℕ, ◌+◌, ◌^◌, Bool, true, false, nat_lt, nat_le, cond, List, [], ◌∷◌, map, reverse, Option}
use Rattle.std.specs.Prelude.{Some, None, option_map, option_and_then}
use Rattle.cfi_rows.specs.declared.outline.FrameKind.{FrameKind}
use Rattle.cfi_rows.specs.declared.outline.FrameKind.TheVariants.{Nothing, Register, Expression}
use Rattle.cfi_rows.specs.declared.outline.Outline.{Outline as Kept}
use Rattle.cfi_rows.specs.declared.row.Cfa.{Cfa}
use Rattle.cfi_rows.specs.declared.row.Cfa.TheVariants.{Reg, Expr}
use Rattle.cfi_rows.specs.declared.instruction.Instruction.{Instruction}
use Rattle.cfi_rows.specs.declared.instruction.Instruction.TheVariants.{Advance, SetLoc, DefCfa, DefCfaRegister}
use Rattle.cfi_rows.specs.declared.instruction.Instruction.TheVariants.{DefCfaOffset, SetRule, Restore, RememberState}
use Rattle.cfi_rows.specs.declared.instruction.Instruction.TheVariants.{RestoreState, Nop}
use Rattle.cfi_rows.specs.FrameRows.{Known, State, ends_row}

pub record Outline : Type 0 where
  pub location : ℕ
  pub frame : FrameKind
  pub saved : List FrameKind

abbrev pub kind_of_cfa : Cfa → FrameKind
kind_of_cfa (Reg r offset) = Register
kind_of_cfa (Expr b) = Expression

abbrev pub kind_of : Option Cfa → FrameKind
kind_of None = Nothing
kind_of (Some cfa) = kind_of_cfa cfa

abbrev pub outline_of : State → Outline
outline_of s =
    record { location = s.location; frame = kind_of s.known.cfa; saved = map (λ (k : Known). kind_of k.cfa) s.saved }

-- as kept by the code, with the state remembered last at the end
abbrev pub kept_outline : Kept → Outline
kept_outline o = record { location = o.location; frame = o.frame; saved = reverse o.saved.items }

abbrev pub moved_outline : ℕ → Outline → Option Outline
moved_outline a o = cond (nat_lt a (2 ^ 64)) (Some (record { location = a; frame = o.frame; saved = o.saved })) None

abbrev pub went_to : ℕ → Outline → Option Outline
went_to a o = cond (nat_le o.location a) (moved_outline a o) None

abbrev pub remembered : Outline → Outline
remembered o = record { location = o.location; frame = o.frame; saved = o.frame ∷ o.saved }

abbrev pub with_frame : Outline → FrameKind → Outline
with_frame o k = record { location = o.location; frame = k; saved = o.saved }

abbrev pub if_register : FrameKind → Outline → Option Outline
if_register Register o = Some o
if_register Nothing o = None
if_register Expression o = None

abbrev pub taken_back : Outline → List FrameKind → Option Outline
taken_back o [] = None
taken_back o (k ∷ ks) = Some (record { location = o.location; frame = k; saved = ks })

abbrev pub outline_step : Instruction → Outline → Option Outline
outline_step (Advance n) o = moved_outline (o.location + n) o
outline_step (SetLoc a) o = went_to a o
outline_step (DefCfa cfa) o = Some (with_frame o (kind_of_cfa cfa))
outline_step (DefCfaRegister r) o = if_register o.frame o
outline_step (DefCfaOffset n) o = if_register o.frame o
outline_step (SetRule r rule) o = Some o
outline_step (Restore r) o = Some o
outline_step RememberState o = Some (remembered o)
outline_step RestoreState o = taken_back o o.saved
outline_step Nop o = Some o

-- after all of some instructions
abbrev pub outline_after : List Instruction → Outline → Option Outline
outline_after [] o = Some o
outline_after (i ∷ is) o = option_and_then (outline_after is) (outline_step i o)

abbrev pub frame_after : List Instruction → Option FrameKind
frame_after is = option_map (λ o. o.frame) (outline_after is (record { location = 0; frame = Nothing; saved = [] }))

abbrev pub has_rule : FrameKind → Bool
has_rule Nothing = false
has_rule Register = true
has_rule Expression = true

-- a row ends, which must have a frame address rule
abbrev pub counted : Bool → FrameKind → Option ℕ → Option ℕ
counted true k more = cond (has_rule k) (option_map (λ n. n + 1) more) None
counted false k more = more

-- the number of rows from a state on
abbrev pub outline_rows : List Instruction → Outline → Option ℕ
outline_rows [] o = cond (has_rule o.frame) (Some 1) None
outline_rows (i ∷ is) o = counted (ends_row i) o.frame (option_and_then (outline_rows is) (outline_step i o))
