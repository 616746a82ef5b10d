use Rattle.std.proofs.Common.{◌≡◌, ◌∙◌, ap, subst, sym, ℕ, ◌+◌, ◌≤◌, List, [], arith, length, map}
use Rattle.std.specs.Prelude.{All, IsTrue, sum_by}
use Rattle.rv_code.specs.declared.cell.CodeCell.{CodeCell}
use Rattle.rv_code.specs.declared.layout.Form.{Form}
use Rattle.rv_code.specs.layout.FunctionLists.{address_end}
use Rattle.rv_code.specs.layout.ProgramCode.{IsNamed, is_code_address, program_code}
use Rattle.rv_code.specs.layout.WorstSizes.{worst_size_of_block}
use Rattle.addr_map.specs.declared.span.Span.{Span}
use Rattle.addr_map.specs.MapText.{AreInLineOrder}
use Rattle.addr_map.specs.Spans.{IsStretch, new}
use Rattle.branch_fixup.specs.Forms.{new_code_end}
use Rattle.branch_fixup.specs.Strips.{Strip, pieces_of, strips_of}
use Rattle.code_emit.specs.Bytes.{Adds}
use Rattle.code_emit.specs.Inputs.{AreMapped, IsLowCell}
use Rattle.code_emit.specs.NewInsts.{made_from}
use Rattle.code_emit.specs.Output.{new_cell}
use Rattle.bolt_core.proofs.Maps.{map_in_order, stretch_in_order}
use Rattle.bolt_core.proofs.rewriting.moved_code.Goals as goal

pub new-requires-clause-once : goal.new-requires-clause-once
new-requires-clause-once c =
    (c.in_ok-forms.ensures.map c.requires.blocks.roles c.requires.blocks.cells c.requires.blocks.entry c.requires.blocks.are).once

pub new-requires-clause-disjoint : goal.new-requires-clause-disjoint
new-requires-clause-disjoint c =
    (c.in_ok-forms.ensures.map c.requires.blocks.roles c.requires.blocks.cells c.requires.blocks.entry
    c.requires.blocks.are).disjoint

low_end : (end start sum limit : ℕ) → end ≤ start + sum → start + sum ≤ limit → end ≤ limit
low_end end start sum limit upto low = omega (arith, upto, low)

fits_sum : (n end start sum : ℕ) → start + n ≡ end → end ≤ start + sum → n ≤ sum
fits_sum n end start sum is upto = omega (arith, is, upto)

pub emit-requires-clause-direct : goal.emit-requires-clause-direct
emit-requires-clause-direct c = c.requires.direct.lead

pub emit-requires-clause-cells : goal.emit-requires-clause-cells
emit-requires-clause-cells c =
    subst (λ (cs : List CodeCell). All IsLowCell cs) (sym c.deref-2.ensures.value) c.requires.cells

pub returns : goal.returns
returns c =
    let ss : List Strip = strips_of c.args.funcs.now c.args.blocks.now c.args.plan.now.order.items in
    let start : ℕ = c.args.start in
    let fs : List Form = c.in_ok-forms.forms.items in
    let sum : ℕ = sum_by (worst_size_of_block c.args.funcs.now) c.args.blocks.now in
    let mapped : AreMapped ss fs start c.in_ok-map.map = record {
      forms = c.in_ok-forms.ensures.forms;
      map_is = subst (λ (spans : List Span). AreInLineOrder spans c.in_ok-map.map) c.in_ok-forms.ensures.spans
          c.in_ok-map.ensures;
      even = c.requires.even;
      low = low_end (new_code_end ss start fs) start sum address_end c.in_ok-forms.ensures.room c.requires.room;
    } in
    let seen : AreMapped ss c.deref.result.now start c.in_ok-map.map =
    subst (λ (gs : List Form). AreMapped ss gs start c.in_ok-map.map) (sym c.deref.ensures.value) mapped in
    let n : ℕ = length c.in_ok-emitted.emitted.code.items in
    let length_is : start + n ≡ new_code_end ss start fs =
    c.in_ok-emitted.ensures.length start seen ∙ ap (λ (gs : List Form). new_code_end ss start gs) c.deref.ensures.value in
    record {
      forms = fs;
      mapped = mapped;
      is_map = λ roles cells entry are.
          map_in_order (λ a. IsTrue (is_code_address c.args.funcs.now a))
          (IsNamed (program_code c.args.funcs.now roles cells entry))
          c.in_ok-forms.spans.items c.in_ok-map.map c.in_ok-map.ensures (c.in_ok-forms.ensures.map roles cells entry are);
      length_is = length_is;
      stretch =
          stretch_in_order c.in_ok-forms.spans.items c.in_ok-map.map start (start + n) c.in_ok-map.ensures
          (subst (λ (end : ℕ). IsStretch c.in_ok-forms.spans.items start end) (sym length_is) c.in_ok-forms.ensures.stretch);
      fits = fits_sum n (new_code_end ss start fs) start sum length_is c.in_ok-forms.ensures.room;
      made =
          subst (λ (gs : List Form). Adds [] c.in_ok-emitted.emitted.code.items
          (made_from (new c.in_ok-map.map) start (pieces_of ss gs))) c.deref.ensures.value
          (c.in_ok-emitted.ensures.made start seen);
      keeps = λ r puts. (c.in_ok-emitted.ensures.insts start seen r puts, c.in_ok-emitted.ensures.goes_on start seen r puts);
      cells_are =
          c.in_ok-emitted.ensures.cells ∙ ap (λ (cs : List CodeCell). map (new_cell (new c.in_ok-map.map)) cs)
          c.deref-2.ensures.value;
    }
