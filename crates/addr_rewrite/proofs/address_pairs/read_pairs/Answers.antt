use Rattle.std.proofs.Common.{◌∙◌, sym, ap, Ok, List}
use Rattle.std.proofs.lemmas.List.{append-nil}
use Rattle.std.proofs.lemmas.Result.{err_from_is_err_and}
use Rattle.answer_runs.specs.declared.range.Range.{Range}
use Rattle.addr_rewrite.proofs.PairSteps.{all_pairs, front_pairs, pairs_end, pairs_more, pairs_trouble, with_pairs}
use Rattle.addr_rewrite.proofs.address_pairs.read_pairs.Goals as goal

pub pairs-init : goal.pairs-init
pairs-init c =
    ap (λ (rs : List Range). with_pairs rs (all_pairs c.args.cursor.now.left)) c.new-ranges.ensures.items
    ∙ front_pairs (all_pairs c.args.cursor.now.left)

pub returns-in_err-range-clause-trouble : goal.returns-in_err-range-clause-trouble
returns-in_err-range-clause-trouble c =
    let p = err_from_is_err_and c.from_residual.result c.from_residual.ensures.1 in
    rw (p.1, p.2) (sym c.pairs.invariant
    ∙ pairs_trouble c.pairs.ranges.items c.pairs.cursor.left c.in_err-range.field-0.0 c.in_err-range.ensures.trouble)

pub pairs-preserved : goal.pairs-preserved
pairs-preserved c =
    let read = rw c.in-Some.is at c.in_ok-range.ensures.read in
    ap (λ (l : List Range). with_pairs l (all_pairs c.next_pair.new.cursor.left)) c.in_ok-push-in-Some.ensures.items
    ∙ pairs_more c.pairs.ranges.items c.in-Some.range c.pairs.cursor.left c.next_pair.new.cursor.left read ∙ c.pairs.invariant

pub returns-in-None-clause-read : goal.returns-in-None-clause-read
returns-in-None-clause-read c =
    let read = rw c.in-None.is at c.in_ok-range.ensures.read in
    sym c.pairs.invariant ∙ pairs_end c.pairs.ranges.items c.pairs.cursor.left c.next_pair.new.cursor.left read
    ∙ ap (λ (l : List Range). Ok l) (append-nil c.pairs.ranges.items)
