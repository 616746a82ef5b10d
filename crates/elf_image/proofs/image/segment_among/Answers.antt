use Rattle.std.proofs.Common.{sym, ◌∙◌, ◌-◌, arith}
use Rattle.elf_image.proofs.LoadLemmas.{segment_of-none_below, segment_of-last, segment_of-none_last}
use Rattle.elf_image.proofs.image.segment_among.Goals as goal

pub returns-then-above-eq0-clause-first : goal.returns-then-above-eq0-clause-first
returns-then-above-eq0-clause-first c =
    sym (segment_of-none_below c.args.loads.now c.args.address
    (λ k d within. c.count_up_to-above.ensures.above k d (omega arith) within))

pub returns-then-loads-clause-first : goal.returns-then-loads-clause-first
returns-then-loads-clause-first c =
    let some = c.if-above-eq0.false in
    let bound = c.count_up_to-above.ensures.bound in
    sym (segment_of-last c.args.loads.now c.args.address (c.count_up_to-above.result - 1) _ c.requires.once (omega arith)
    (sym c.loads.ensures ∙ c.if-loads.true))

pub returns-else-loads-clause-first : goal.returns-else-loads-clause-first
returns-else-loads-clause-first c =
    let some = c.if-above-eq0.false in
    let bound = c.count_up_to-above.ensures.bound in
    sym
    (segment_of-none_last c.args.loads.now c.args.address
    (c.count_up_to-above.result - 1) _ c.requires.once c.requires.loaded c.requires.rising
    (omega arith) (c.count_up_to-above.ensures.below _ _ (omega arith))
    (λ k e later within. c.count_up_to-above.ensures.above k e (omega arith) within)
    (sym c.loads.ensures ∙ c.if-loads.false))
