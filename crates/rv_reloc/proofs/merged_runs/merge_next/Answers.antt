use Rattle.std.proofs.Common.{◌∷◌}
use Rattle.std.proofs.lemmas.List.Elements.{All-head, All-tail}
use Rattle.std.proofs.lemmas.Result.{on_ok_weaker}
use Rattle.rv_reloc.specs.EntryRuns.{IsWholeRun}
use Rattle.rv_reloc.proofs.CommonRuns.{first-merged, swapped-merged, swapped-whole}
use Rattle.rv_reloc.proofs.merged_runs.merge_next.Goals as goal

pub returns-then-comes_first-clause-thinned : goal.returns-then-comes_first-clause-thinned
returns-then-comes_first-clause-thinned c =
    rw (c.in-Some.ensures.items, c.in-Some-pop_front.ensures.items) c.merge_first.ensures.thinned

pub returns-then-comes_first-clause-whole : goal.returns-then-comes_first-clause-whole
returns-then-comes_first-clause-whole c =
    rw (c.in-Some.ensures.items, c.in-Some-pop_front.ensures.items) c.merge_first.ensures.whole

pub returns-else-comes_first-clause-thinned : goal.returns-else-comes_first-clause-thinned
returns-else-comes_first-clause-thinned c =
    let made = c.merge_first-else-comes_first.new in
    rw (c.in-Some.ensures.items, c.in-Some-pop_front.ensures.items) (on_ok_weaker c.merge_first-else-comes_first.result
    (λ is file. swapped-merged file c.args.done.now.items made.done.items (c.in-Some.run' ∷ c.pop_front.new.self.items)
    (c.in-Some-pop_front.next ∷ c.pop_front-in-Some.new.self.items) made.right.items made.left.items (is file))
    c.merge_first-else-comes_first.ensures.thinned)

pub returns-else-comes_first-clause-whole : goal.returns-else-comes_first-clause-whole
returns-else-comes_first-clause-whole c =
    rw (c.in-Some.ensures.items, c.in-Some-pop_front.ensures.items) (on_ok_weaker c.merge_first-else-comes_first.result
    (λ is size are. swapped-whole size _ _ _ (is size (swapped-whole size _ _ _ are))) c.merge_first-else-comes_first.ensures.whole)

pub returns-in-None-pop_front-clause-thinned : goal.returns-in-None-pop_front-clause-thinned
returns-in-None-pop_front-clause-thinned c =
    rw (c.in-Some.ensures.items, c.in-None-pop_front.ensures.items) (on_ok_weaker c.push_last.result
    (λ is file. first-merged file c.in-Some.run' c.args.done.now.items c.push_last.new.runs.items c.pop_front.new.self.items
    c.pop_front-in-Some.new.self.items (is file)) c.push_last.ensures.entries)

pub returns-in-None-pop_front-clause-whole : goal.returns-in-None-pop_front-clause-whole
returns-in-None-pop_front-clause-whole c =
    rw (c.in-Some.ensures.items, c.in-None-pop_front.ensures.items) (on_ok_weaker c.push_last.result
    (λ is size are. record {
      done_are = is size (All-head (IsWholeRun size) _ _ are.left_are) are.done_are;
      left_are = All-tail (IsWholeRun size) _ _ are.left_are;
      right_are = are.right_are;
    })
    c.push_last.ensures.whole)

pub returns-in-Some-pop_front-2-clause-thinned : goal.returns-in-Some-pop_front-2-clause-thinned
returns-in-Some-pop_front-2-clause-thinned c =
    let next = c.in-Some-pop_front-2.next in
    let done = c.push_last-in-Some-pop_front-2.new.runs.items in
    let left = c.pop_front.new.self.items in
    let right = c.pop_front-in-None.new.self.items in
    rw (c.in-None.ensures.items, c.in-Some-pop_front-2.ensures.items) (on_ok_weaker c.push_last-in-Some-pop_front-2.result
    (λ is file. swapped-merged file c.args.done.now.items done left (next ∷ right) left right
    (first-merged file next c.args.done.now.items done right left (is file))) c.push_last-in-Some-pop_front-2.ensures.entries)

pub returns-in-Some-pop_front-2-clause-whole : goal.returns-in-Some-pop_front-2-clause-whole
returns-in-Some-pop_front-2-clause-whole c =
    rw (c.in-None.ensures.items, c.in-Some-pop_front-2.ensures.items) (on_ok_weaker c.push_last-in-Some-pop_front-2.result
    (λ is size are. record {
      done_are = is size (All-head (IsWholeRun size) _ _ are.right_are) are.done_are;
      left_are = are.left_are;
      right_are = All-tail (IsWholeRun size) _ _ are.right_are;
    })
    c.push_last-in-Some-pop_front-2.ensures.whole)
