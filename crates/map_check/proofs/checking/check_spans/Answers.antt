use Rattle.std.proofs.Common.{IsPermutation, refl, subst, sym}
use Rattle.rv_code.specs.layout.ProgramCode.{program_code}
use Rattle.elf_image.specs.memory.Executables.{executable_read}
use Rattle.move_law.specs.Rewrite.{Rewrite}
use Rattle.map_check.specs.declared.clause.Clause.TheVariants as clause
use Rattle.map_check.proofs.Judgements.{checked, first_false, holds_one, holds_two, map_lowest, map_valid}
use Rattle.map_check.proofs.checking.check_spans.Goals as goal

pub returns-in-Some : goal.returns-in-Some
returns-in-Some c =
    let r : Rewrite = record {
      input = c.args.input.now;
      code = program_code c.args.funcs.now c.args.refs.now.roles.items c.args.refs.now.cells.items c.args.input.now.entry;
      tight = c.args.tight;
      output = executable_read c.args.output.now;
      spans = c.args.spans.items;
    } in
    let sorted = subst (IsPermutation c.args.spans.items) (sym c.deref.ensures.value) c.sort_by_input.ensures.same in
    first_false r 1 clause.MapSpan c.in-Some.a refl (holds_one r)
    (map_lowest c.args.funcs.now c.args.refs.now.roles.items c.deref-2.result.now c.args.refs.now.cells.items c.deref-3.result.now
    c.args.input.now.entry c.deref-2.ensures.value c.deref-3.ensures.value c.args.spans.items _ _ c.in-Some.is
    (c.in_ok-bad.ensures.lowest c.args.spans.items sorted))

pub returns : goal.returns
returns c =
    let r : Rewrite = record {
      input = c.args.input.now;
      code = program_code c.args.funcs.now c.args.refs.now.roles.items c.args.refs.now.cells.items c.args.input.now.entry;
      tight = c.args.tight;
      output = executable_read c.args.output.now;
      spans = c.args.spans.items;
    } in
    let sorted = subst (IsPermutation c.args.spans.items) (sym c.deref.ensures.value) c.sort_by_input.ensures.same in
    let table = subst (IsPermutation c.args.spans.items) (sym c.deref-in-None.ensures.value) c.sort_by_input.ensures.same in
    let map = map_valid c.args.funcs.now c.args.refs.now.roles.items c.deref-2.result.now c.args.refs.now.cells.items
    c.deref-3.result.now c.args.input.now.entry c.deref-2.ensures.value c.deref-3.ensures.value c.args.spans.items _ c.in-None.is
    (c.in_ok-bad.ensures.map c.args.spans.items sorted) in
    let lowest = map_lowest c.args.funcs.now c.args.refs.now.roles.items c.deref-2.result.now c.args.refs.now.cells.items
    c.deref-3.result.now c.args.input.now.entry c.deref-2.ensures.value c.deref-3.ensures.value c.args.spans.items _ _ c.in-None.is
    (c.in_ok-bad.ensures.lowest c.args.spans.items sorted) in
    c.check_code.ensures r (checked r c.args.output.now c.deref-in-None.result.now refl table map)
    (record { input_is = refl; code_is = refl; tight_is = refl }) map (holds_two r lowest)
