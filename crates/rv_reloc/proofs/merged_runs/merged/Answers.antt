use Rattle.std.proofs.Common.{sym, subst, List, All, ◌++◌, arith, rules, ◌≡◌, length, ◌+◌, ◌≤◌}
use Rattle.std.proofs.lemmas.List.Elements.{All-nil}
use Rattle.rv_reloc.specs.declared.entry_run.EntryRun.{EntryRun}
use Rattle.rv_reloc.specs.EntryRuns.{entries, all_entries, IsWholeRun}
use Rattle.rv_reloc.proofs.CommonRuns.{merge-begin, merge-end}
use Rattle.rv_reloc.proofs.Thinning.{thinned-trans}
use Rattle.rv_reloc.proofs.merged_runs.merged.Goals as goal

pub loop-step-init : goal.loop-step-init
loop-step-init c = record {
  thinned = λ file. merge-begin file c.new-done.result.items c.args.left.items c.args.right.items c.new-done.ensures.items;
  whole = λ size left right. record {
    done_are = subst (λ (runs : List EntryRun). All (IsWholeRun size) runs) (sym c.new-done.ensures.items) (All-nil (IsWholeRun size));
    left_are = left;
    right_are = right;
  };
  fewer = omega arith;
}

pub loop-step-preserved : goal.loop-step-preserved
loop-step-preserved c = record {
  thinned = λ file. thinned-trans (entries file c.args.left.items ++ entries file c.args.right.items)
      (all_entries file c.loop-step.done.items c.loop-step.left.items c.loop-step.right.items)
      (all_entries file c.merge_next.new.done.items c.merge_next.new.left.items c.merge_next.new.right.items)
      (c.loop-step.invariant.thinned file) (c.in_ok-merge_next.ensures.thinned file);
  whole = λ size left right. c.in_ok-merge_next.ensures.whole size (c.loop-step.invariant.whole size left right);
  fewer = omega (arith, c.loop-step.invariant.fewer, c.in_ok-merge_next.ensures.fewer);
}

pub returns-clause-thinned : goal.returns-clause-thinned
returns-clause-thinned c =
    let left : c.len.result ≡ length c.args.left.items = search rules in
    let right : c.len-2.result ≡ length c.args.right.items = search rules in
    let none : length c.loop-step.left.items + length c.loop-step.right.items ≤ 0 =
    omega (arith, c.loop-step.invariant.fewer, c.loop-step-test.false, left, right) in
    λ file. merge-end file (entries file c.args.left.items ++ entries file c.args.right.items) c.loop-step.done.items
    c.loop-step.left.items c.loop-step.right.items none (c.loop-step.invariant.thinned file)

pub returns-clause-whole : goal.returns-clause-whole
returns-clause-whole c = λ size left right. let are = c.loop-step.invariant.whole size left right in are.done_are
