use Rattle.std.proofs.Common.{◌≡◌, ◌++◌, List, rules, subst, sym, All}
use Rattle.std.proofs.lemmas.List.Elements.{All-take, All-drop}
use Rattle.std.proofs.lemmas.Result.{IfOk-weaker}
use Rattle.rv_reloc.specs.declared.entry_run.EntryRun.{EntryRun}
use Rattle.rv_reloc.specs.EntryRuns.{IsWholeRun}
use Rattle.rv_reloc.proofs.CommonRuns.{merge-parts}
use Rattle.rv_reloc.proofs.merged_runs.+merged_runs.Goals as goal

pub returns-clause-thinned : goal.returns-clause-thinned
returns-clause-thinned n c =
    let runs = c.args.runs.now in
    let first = c.split_at.result.0.now in
    let rest = c.split_at.result.1.now in
    let parts : runs ≡ first ++ rest = search rules in
    IfOk-weaker c.merged.result _ _ (λ merged both file.
    merge-parts file runs first rest c.in_ok-left.left.items c.in_ok-right.right.items merged.items parts
    (c.in_ok-left.ensures.thinned file) (c.in_ok-right.ensures.thinned file) (both file)) c.merged.ensures.thinned

pub returns-clause-whole : goal.returns-clause-whole
returns-clause-whole n c =
    IfOk-weaker c.merged.result _ _ (λ merged both size all.
    let front = subst (λ (runs : List EntryRun). All (IsWholeRun size) runs) (sym c.split_at.ensures.front)
    (All-take (IsWholeRun size) _ _ all) in
    let back = subst (λ (runs : List EntryRun). All (IsWholeRun size) runs) (sym c.split_at.ensures.back)
    (All-drop (IsWholeRun size) _ _ all) in
    both size (c.in_ok-left.ensures.whole size front) (c.in_ok-right.ensures.whole size back)) c.merged.ensures.whole
