use Rattle.std.proofs.Common.{◌≤◌, rules, arith}
use Rattle.std.proofs.lemmas.List.Elements.{All-head, All-tail}
use Rattle.rv_reloc.specs.EntryRuns.{IsWholeRun}
use Rattle.rv_reloc.proofs.CommonRuns.{common-merged, whole-common, whole-part}
use Rattle.rv_reloc.proofs.merged_runs.merge_common.Goals as goal

pub returns-clause-thinned : goal.returns-clause-thinned
returns-clause-thinned c =
    let run = c.args.run.now in
    let next = c.args.next.now in
    let within : next.first ≤ c.min-end.result = search rules in
    let to : c.min-end.result ≤ run.end = search rules in
    let to' : c.min-end.result ≤ next.end = search rules in
    λ file. common-merged file run next c.part.result c.common.result c.part-2.result c.part-3.result c.min-end.result
    c.part.ensures c.common.ensures c.part-2.ensures c.part-3.ensures c.requires.phase c.requires.from within to to'
    (run.starts, run.ends) (next.starts, next.ends) c.args.done.now.items c.push_last.new.runs.items c.push_last-2.new.runs.items
    c.args.left.now.items c.push_first.new.runs.items c.args.right.now.items c.push_first-2.new.runs.items
    (c.in_ok-push_last.ensures.entries file) (c.in_ok-push_last-2.ensures.entries file)
    (c.in_ok-push_first.ensures.entries file) (c.in_ok-push_first-2.ensures.entries file)

pub returns-clause-whole : goal.returns-clause-whole
returns-clause-whole c =
    let run = c.args.run.now in
    let next = c.args.next.now in
    let from : next.first ≤ run.end = search rules in
    let to : c.min-end.result ≤ run.end = search rules in
    λ size are.
    let run_is = All-head (IsWholeRun size) run c.args.left.now.items are.left_are in
    let next_is = All-head (IsWholeRun size) next c.args.right.now.items are.right_are in
    record {
      done_are = c.in_ok-push_last-2.ensures.whole size (whole-common size run next c.common.result _ _ c.common.ensures to run_is)
          (c.in_ok-push_last.ensures.whole size (whole-part size run c.part.result _ _ c.part.ensures from run_is) are.done_are);
      left_are = c.in_ok-push_first.ensures.whole size
          (whole-part size run c.part-2.result _ _ c.part-2.ensures (omega arith) run_is)
          (All-tail (IsWholeRun size) run c.args.left.now.items are.left_are);
      right_are = c.in_ok-push_first-2.ensures.whole size
          (whole-part size next c.part-3.result _ _ c.part-3.ensures (omega arith) next_is)
          (All-tail (IsWholeRun size) next c.args.right.now.items are.right_are);
    }
