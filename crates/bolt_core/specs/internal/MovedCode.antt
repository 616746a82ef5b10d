-- The new code of blocks in an order, and the map to it.
use Rattle.std.specs.Prelude.{◌≡◌, ◌+◌, ◌≤◌, ℕ, List, [], All, length, map, sum_by}
use Rattle.rv_code.specs.declared.cell.CodeCell.{CodeCell}
use Rattle.rv_code.specs.declared.layout.Emitted.{Emitted}
use Rattle.rv_code.specs.declared.layout.Form.{Form}
use Rattle.rv_code.specs.declared.placed.Block.{Block}
use Rattle.rv_code.specs.declared.placed.Func.{Func}
use Rattle.rv_code.specs.layout.Flow.{insts_of}
use Rattle.rv_code.specs.layout.WorstSizes.{worst_size_of_block}
use Rattle.addr_map.specs.declared.span.Span.{Span}
use Rattle.addr_map.specs.Spans.{IsStretch, new}
use Rattle.move_law.specs.FaithfulRewrite.{GoesOn, KeepsInst}
use Rattle.move_law.specs.Rewrite.{Goes, Rewrite}
use Rattle.branch_fixup.specs.Forms.{AreMap, new_code_end}
use Rattle.branch_fixup.specs.Strips.{pieces_of, strips_of}
use Rattle.code_emit.specs.Bytes.{Adds}
use Rattle.code_emit.specs.Inputs.{AreMapped}
use Rattle.code_emit.specs.NewInsts.{made_from}
use Rattle.code_emit.specs.Output.{Puts, new_cell}

-- in each rewrite that has this code at the map's addresses, the instructions are kept, and control goes on from them
-- to what followed
abbrev pub KeepsAll : List Func → List Span → Emitted → ℕ → Type 0
KeepsAll funcs spans emitted base =
    (r : Rewrite) → Puts r funcs spans base emitted.code.items →
    All (KeepsInst r (Goes r.output)) (insts_of funcs) × All (GoesOn r (Goes r.output)) (insts_of funcs)

pub record IsMovedCode (funcs : List Func) (cells : List CodeCell) (blocks : List Block) (order : List ℕ) (base : ℕ)
    (spans : List Span) (emitted : Emitted) : Type 0 where
  pub forms : List Form
  pub mapped : AreMapped (strips_of funcs blocks order) forms base spans
  pub is_map : AreMap funcs blocks spans
  pub length_is : base + length emitted.code.items ≡ new_code_end (strips_of funcs blocks order) base forms
  pub stretch : IsStretch spans base (base + length emitted.code.items)
  pub fits : length emitted.code.items ≤ sum_by (worst_size_of_block funcs) blocks
  pub made : Adds [] emitted.code.items (made_from (new spans) base (pieces_of (strips_of funcs blocks order) forms))
  pub keeps : KeepsAll funcs spans emitted base
  pub cells_are : emitted.cells.items ≡ map (new_cell (new spans)) cells
