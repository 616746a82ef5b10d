use Rattle.std.proofs.Common.{sym, ap, subst, List}
use Rattle.edge_profile.specs.declared.lines.Lines.{Lines}
use Rattle.edge_profile.specs.PairCounts.{Counted}
use Rattle.edge_profile.proofs.Saying.{SaysTo, says_none, says_more, says_nothing, says_all, says_few}
use Rattle.edge_profile.proofs.reading.said_in.Goals as goal

pub loop-line-init : goal.loop-line-init
loop-line-init c =
    says_none c.args.names.now c.args.funcs.now c.args.text.now c.into_iter-line-iterator.result.left.now
    c.new-counted.result.items
    (ap (λ (l : Lines). l.left.now) c.into_iter-line-iterator.ensures.into_iter_gives) c.new-counted.ensures.items

pub loop-line-preserved : goal.loop-line-preserved
loop-line-preserved c =
    says_nothing c.args.names.now c.args.funcs.now c.args.text.now c.loop-line.line-iterator.left.now
    c.next.new.self.left.now c.in-Some.line.now
    c.loop-line.counted.items c.loop-line.ignored c.in-Some.ensures.steps c.loop-line.invariant c.in-None-counted_by.ensures

pub loop-line-preserved-in-Continue-1 : goal.loop-line-preserved-in-Continue-1
loop-line-preserved-in-Continue-1 c =
    subst (λ (counted : List Counted).
    SaysTo c.args.names.now c.args.funcs.now c.args.text.now c.next.new.self.left.now counted c.loop-line.ignored)
    (sym c.in_ok-push-in-Some-counted_by.ensures.items)
    (says_more c.args.names.now c.args.funcs.now c.args.text.now c.loop-line.line-iterator.left.now
    c.next.new.self.left.now c.in-Some.line.now
    c.loop-line.counted.items c.loop-line.ignored c.in-Some.ensures.steps c.loop-line.invariant c.in-Some-counted_by.pair
    c.in-Some-counted_by.ensures)

pub returns-clause-all : goal.returns-clause-all
returns-clause-all c = λ symbols are.
    says_all c.args.names.now c.args.funcs.now c.args.text.now c.loop-line.line-iterator.left.now _ c.in-None.ensures.steps.0
    c.loop-line.invariant symbols are

pub returns-clause-few : goal.returns-clause-few
returns-clause-few c =
    says_few c.args.names.now c.args.funcs.now c.args.text.now c.loop-line.line-iterator.left.now c.loop-line.counted.items
    c.loop-line.ignored c.loop-line.invariant
