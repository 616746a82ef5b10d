use Rattle.std.proofs.Common.{◌≡◌, ◌∙◌, ◌≤◌, ◌++◌, ℕ, List, arith, sym, ap, subst, All, length, take, drop}
use Rattle.std.specs.Prelude.{IsTrue}
use Rattle.rv_code.specs.declared.layout.Form.{Form}
use Rattle.rv_code.specs.declared.cell.CodeCell.{CodeCell}
use Rattle.rv_code.specs.declared.placed.Role.{Role}
use Rattle.rv_code.specs.layout.Blocks.{AreBlocks}
use Rattle.rv_code.specs.layout.ProgramCode.{is_code_address, IsNamed, program_code}
use Rattle.addr_map.specs.declared.span.Span.{Span}
use Rattle.addr_map.specs.Spans.{IsMap, IsStretch}
use Rattle.branch_fixup.specs.Forms.{AreForms, new_code_end}
use Rattle.branch_fixup.specs.Pieces.{end_from}
use Rattle.branch_fixup.specs.Strips.{pieces_of, spans_of, strips_of}
use Rattle.branch_fixup.proofs.Made.{AreFound, IsGiven, are_found, start_given, block_ends_given}
use Rattle.branch_fixup.proofs.Map.{is_stretch}
use Rattle.branch_fixup.proofs.fixup.forms.Goals.{In_ok-block_ends, In_ok-grow}
use Rattle.branch_fixup.proofs.fixup.forms.Goals as goal

given : (c : In_ok-block_ends) → IsGiven c.args.funcs.now c.args.blocks.now c.args.plan.now.order.items c.args.base
given c =
    let q = c.requires in
    record { laid = q.laid; direct = q.direct; blocks_of = q.blocks; perm = q.order; near = q.near; even = q.even; some = q.some }

-- the grown forms, also in the vector that is passed on
found : (c : In_ok-grow) → IsGiven c.args.funcs.now c.args.blocks.now c.args.plan.now.order.items c.args.base →
    AreFound c.args.funcs.now c.args.blocks.now c.args.plan.now.order.items c.args.base c.grow.new.forms
    (take c.in_ok-block_ends.forms.len (c.grow.new.forms ++ drop (length c.grow.new.forms) c.in_ok-block_ends.forms.items))
found c g =
    let as_many = c.in_ok-block_ends.ensures.forms in
    are_found c.args.funcs.now c.args.blocks.now c.args.plan.now.order.items c.args.base g c.as_slice-order.result.now
    c.in_ok-block_ends.block_ends.items c.deref.result.now c.in_ok-block_ends.forms.items c.deref_mut.result.now c.grow.new.forms
    c.in_ok-block_ends.forms.len c.as_slice-order.ensures.value c.deref.ensures.value c.deref_mut.ensures.value
    c.in_ok-block_ends.ensures c.in_ok-grow.ensures.sound c.in_ok-grow.ensures.same c.in_ok-grow.ensures.enough (omega (arith, as_many))

pub grow-requires : goal.grow-requires
grow-requires c =
    let funcs = c.args.funcs.now in
    let blocks = c.args.blocks.now in
    let order = c.args.plan.now.order.items in
    let base = c.args.base in
    let g = given (goal.at.grow-requires c).In_ok-block_ends in
    record {
      block_ends = block_ends_given funcs blocks order base g c.as_slice-order.result.now c.in_ok-block_ends.block_ends.items
          c.deref.result.now
          c.in_ok-block_ends.forms.items c.as_slice-order.ensures.value c.deref.ensures.value c.in_ok-block_ends.ensures;
      sound = start_given funcs blocks order base g c.as_slice-order.result.now c.in_ok-block_ends.block_ends.items
          c.deref.result.now
          c.in_ok-block_ends.forms.items c.deref_mut.result.now c.as_slice-order.ensures.value c.deref.ensures.value
          c.deref_mut.ensures.value c.in_ok-block_ends.ensures;
    }

pub spans-requires-clause-low : goal.spans-requires-clause-low
spans-requires-clause-low c =
    let strips = strips_of c.args.funcs.now c.args.blocks.now in
    let order = c.args.plan.now.order.items in
    let base = c.args.base in
    let fs = c.grow.new.forms in
    let at = goal.at.spans-requires-clause-low c in
    let grown = found at.In_ok-grow (given at.In_ok-block_ends) in
    let d : c.deref-2.result.now ≡ fs = c.deref-2.ensures.value ∙ grown.same in
    let end : end_from base (pieces_of (strips c.as_slice-order.result.now) c.deref-2.result.now) ≡ new_code_end (strips order) base fs =
    ap (λ (o : List ℕ). end_from base (pieces_of (strips o) c.deref-2.result.now)) c.as_slice-order.ensures.value
    ∙ ap (λ (l : List Form). end_from base (pieces_of (strips order) l)) d in
    let within = grown.made.room in
    let low = c.requires.room in
    omega (arith, end, within, low)

pub returns : goal.returns
returns c =
    let funcs = c.args.funcs.now in
    let blocks = c.args.blocks.now in
    let order = c.args.plan.now.order.items in
    let base = c.args.base in
    let fs = c.grow.new.forms in
    let at = goal.at.returns c in
    let grown = found at.In_ok-grow (given at.In_ok-block_ends) in
    let m = grown.made in
    let e = grown.same in
    let d : c.deref-2.result.now ≡ fs = c.deref-2.ensures.value ∙ e in
    let s : c.in_ok-spans.spans.items ≡ spans_of (strips_of funcs blocks order) base fs =
    c.in_ok-spans.ensures ∙ ap (λ (o : List ℕ). spans_of (strips_of funcs blocks o) base c.deref-2.result.now)
    c.as_slice-order.ensures.value ∙ ap (λ (l : List Form). spans_of (strips_of funcs blocks order) base l) d in
    let end = ap (new_code_end (strips_of funcs blocks order) base) e in
    let within = m.room in
    record {
      forms = subst (λ (l : List Form). AreForms (strips_of funcs blocks order) base l) (sym e) m.forms;
      spans = s ∙ ap (spans_of (strips_of funcs blocks order) base) (sym e);
      map = subst (λ (l : List Span). (roles : List (ℕ × Role)) (cells : List CodeCell) (entry : ℕ) →
          AreBlocks (program_code funcs roles cells entry) blocks → IsMap (λ a. IsTrue (is_code_address funcs a))
          (IsNamed (program_code funcs roles cells entry)) l) (sym s) m.map;
      stretch = subst (λ (l : List Form).
          IsStretch c.in_ok-spans.spans.items base (new_code_end (strips_of funcs blocks order) base l)) (sym e)
          (subst (λ (l : List Span). IsStretch l base (new_code_end (strips_of funcs blocks order) base fs)) (sym s)
          (is_stretch base (pieces_of (strips_of funcs blocks order) fs)));
      room = omega (arith, end, within);
      short = subst (λ (l : List Span). All (λ s. s.len ≤ 12) l) (sym s) m.short;
    }
