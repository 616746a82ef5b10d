-- The new code of a program.
use Rattle.std.specs.Prelude.{ℕ, List, []}
use Rattle.rv_code.specs.declared.layout.Form.{Form}
use Rattle.addr_map.specs.declared.span.Span.{Span}
use Rattle.addr_map.specs.MapText.{AreInLineOrder}
use Rattle.addr_map.specs.Spans.{new}
use Rattle.branch_fixup.specs.Forms.{AreForms}
use Rattle.branch_fixup.specs.Strips.{pieces_of, spans_of, strips_of}
use Rattle.code_emit.specs.Bytes.{Adds}
use Rattle.code_emit.specs.NewInsts.{made_from}
use Rattle.program.specs.Program.{Program}
use Rattle.program.specs.Room.{new_start}

-- The new code has the blocks in `order`, each in one of `forms`, from the start of the new area on. The spans are of
-- the blocks' instructions in these forms, and `code` has exactly the bytes of these instructions.
pub record IsLaidOutBy (x : Program) (order : List ℕ) (spans : List Span) (code : List ℕ) : Type 0 where
  pub forms : List Form
  pub are_forms : AreForms (strips_of x.code.funcs x.blocks order) (new_start x) forms
  pub spans_are : AreInLineOrder (spans_of (strips_of x.code.funcs x.blocks order) (new_start x) forms) spans
  pub made : Adds [] code (made_from (new spans) (new_start x)
      (pieces_of (strips_of x.code.funcs x.blocks order) forms))
