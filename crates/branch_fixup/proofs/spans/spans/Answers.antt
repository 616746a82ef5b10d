use Rattle.std.proofs.Common.{◌≡◌, ◌∙◌, ◌+◌, ◌++◌, ℕ, List, take, get_or, arith, sym, ap}
use Rattle.rv_code.specs.declared.layout.Form.TheVariants as form
use Rattle.rv_code.specs.layout.ProgramCode.{ProgramCode, program_code}
use Rattle.addr_map.specs.declared.span.Span.{Span}
use Rattle.branch_fixup.specs.BlockInsts.{seen}
use Rattle.branch_fixup.specs.Pieces.{laid_from, end_from}
use Rattle.branch_fixup.specs.Strips.{strips_of, pieces_of, pieces_of_strip}
use Rattle.branch_fixup.proofs.Appended.{end_append, laid_append, pieces_more, pieces_part, pieces_all}
use Rattle.rv_code.proofs.lists.Follows.{some_length}
use Rattle.branch_fixup.proofs.Holders.{last_there}
use Rattle.branch_fixup.proofs.Planned.{planned, planned_length, strip_length}
use Rattle.branch_fixup.proofs.spans.spans.Goals as goal

pub put_block-requires-clause-low : goal.put_block-requires-clause-low
put_block-requires-clause-low c =
    let ss = strips_of c.args.funcs.now c.args.blocks.now c.args.order.now in
    let fs = c.args.forms.now in
    let k = c.loop-k.k in
    let s = seen c.planned-block.result in
    let at = c.loop-k.invariant.1 in
    let more : end_from c.args.base (pieces_of (take (k + 1) ss) (take (k + 1) fs)) ≡ end_from c.loop-k.at
    (pieces_of_strip s (get_or fs k form.Plain)) =
    ap (end_from c.args.base) (pieces_more ss fs k s c.planned-block.ensures (omega arith))
    ∙ end_append c.args.base (pieces_of (take k ss) (take k fs)) (pieces_of_strip s (get_or fs k form.Plain))
    ∙ ap (λ (a : ℕ). end_from a (pieces_of_strip s (get_or fs k form.Plain))) (sym at) in
    let part = pieces_part c.args.base ss fs (k + 1) in
    let low = c.requires.low in
    omega (arith, more, part, low)

pub put_block-requires-clause-short : goal.put_block-requires-clause-short
put_block-requires-clause-short c =
    let are = c.requires.blocks in
    let code : ProgramCode = program_code c.args.funcs.now are.roles are.cells are.entry in
    let s = seen c.planned-block.result in
    let plan = planned code c.args.blocks.now are.are c.args.order.now c.requires.order c.loop-k.k s c.planned-block.ensures in
    (some_length s.last (strip_length code plan.b s c.requires.laid plan.of s.last (last_there s))).1

pub loop-k-preserved : goal.loop-k-preserved
loop-k-preserved c =
    let ss = strips_of c.args.funcs.now c.args.blocks.now c.args.order.now in
    let fs = c.args.forms.now in
    let k = c.loop-k.k in
    let s = seen c.planned-block.result in
    let more = pieces_more ss fs k s c.planned-block.ensures (omega arith) in (
      c.in_ok-at.ensures.spans
          ∙ ap (λ (l : List Span). l ++ laid_from c.loop-k.at (pieces_of_strip s (get_or fs k form.Plain))) c.loop-k.invariant.0
          ∙ ap (λ (a : ℕ). laid_from c.args.base (pieces_of (take k ss) (take k fs)) ++ laid_from a
          (pieces_of_strip s (get_or fs k form.Plain))) c.loop-k.invariant.1
          ∙ sym (laid_append c.args.base (pieces_of (take k ss) (take k fs)) (pieces_of_strip s (get_or fs k form.Plain)))
          ∙ ap (laid_from c.args.base) (sym more),
      c.in_ok-at.ensures.end
          ∙ ap (λ (a : ℕ). end_from a (pieces_of_strip s (get_or fs k form.Plain))) c.loop-k.invariant.1
          ∙ sym (end_append c.args.base (pieces_of (take k ss) (take k fs)) (pieces_of_strip s (get_or fs k form.Plain)))
          ∙ ap (end_from c.args.base) (sym more),
    )

pub returns : goal.returns
returns c =
    let are = c.requires.blocks in
    let ss = strips_of c.args.funcs.now c.args.blocks.now c.args.order.now in
    let len = planned_length (program_code c.args.funcs.now are.roles are.cells are.entry) c.args.blocks.now are.are
    c.args.order.now c.requires.order in
    c.loop-k.invariant.0 ∙ ap (laid_from c.args.base) (pieces_all ss c.args.forms.now c.loop-k.k (omega (arith, len))
    (omega arith))
