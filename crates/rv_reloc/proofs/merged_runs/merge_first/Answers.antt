use Rattle.std.proofs.Common.{sym, subst, List, ◌∷◌, []}
use Rattle.std.specs.List.{All}
use Rattle.std.proofs.lemmas.List.Elements.{All-append, All-cons, All-head, All-nil, All-tail}
use Rattle.rv_reloc.specs.declared.entry_run.EntryRun.{EntryRun}
use Rattle.rv_reloc.specs.EntryRuns.{all_entries, IsWholeRun}
use Rattle.rv_reloc.specs.Thinned.{IsThinned}
use Rattle.rv_reloc.proofs.CommonRuns.{first-merged}
use Rattle.rv_reloc.proofs.EntrySpans.{run-last}
use Rattle.rv_reloc.proofs.merged_runs.merge_first.Goals as goal

pub returns-clause-thinned : goal.returns-clause-thinned
returns-clause-thinned c = λ file.
    subst (λ (right : List EntryRun). IsThinned
    (all_entries file c.args.done.now.items (c.args.run.now ∷ c.args.left.now.items) (c.args.next.now ∷ c.args.right.now.items))
    (all_entries file c.push_back.new.self.items c.args.left.now.items right)) (sym c.in_ok-push_front.ensures.items)
    (first-merged file c.args.run.now c.args.done.now.items c.push_back.new.self.items c.args.left.now.items
    (c.args.next.now ∷ c.args.right.now.items)
    (run-last file c.args.done.now.items c.push_back.new.self.items c.args.run.now c.in_ok-push_back.ensures.items))

pub returns-clause-whole : goal.returns-clause-whole
returns-clause-whole c = λ size are. record {
  done_are = subst (λ (runs : List EntryRun). All (IsWholeRun size) runs) (sym c.in_ok-push_back.ensures.items)
      (All-append (IsWholeRun size) c.args.done.now.items (c.args.run.now ∷ []) are.done_are
      (All-cons (IsWholeRun size) c.args.run.now []
      (All-head (IsWholeRun size) c.args.run.now c.args.left.now.items are.left_are) (All-nil (IsWholeRun size))));
  left_are = All-tail (IsWholeRun size) c.args.run.now c.args.left.now.items are.left_are;
  right_are = subst (λ (runs : List EntryRun). All (IsWholeRun size) runs) (sym c.in_ok-push_front.ensures.items) are.right_are;
}
