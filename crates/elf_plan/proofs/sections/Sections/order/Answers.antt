use Rattle.std.proofs.Common.{◌≡◌, ◌∙◌, sym, subst, arith, rules, ◌+◌, [], ◌∷◌, ◌++◌, Some, None, AllPairs, length}
use Rattle.elf_plan.specs.WrittenSections.{is_written_by}
use Rattle.rv_code.specs.layout.Lists.{IsPairBefore}
use Rattle.elf_plan.proofs.SectionOrder.{ListsBelow, lists_all, lists_push, lists_skip}
use Rattle.elf_plan.proofs.sections.Sections.order.Goals as goal
use Rattle.elf_plan.proofs.sections.Sections.order.Goals.{in-Some+in_ok-push, in_default}

pub loop-i-preserved : goal.loop-i-preserved
loop-i-preserved c = λ segments area shift keeps.
    let sections = c.args.self.now.elf.now.sections.items in
    let test = is_written_by c.args.self.now segments area shift in
    let i = c.loop-i.i in
    let before = c.loop-i.order.items in
    let was : ListsBelow sections test i before = c.loop-i.invariant segments area shift keeps in
    let is = c.written_at.ensures segments area shift keeps in
    elim c.match-written_at.branch [
      | in-Some+in_ok-push w ↦
          let at = w.in-Some.offset in
          let found : c.written_at.result ≡ Some at = search rules in
          let more : c.match-written_at.order.items ≡ before ++ (at, i) ∷ [] = search rules in
          subst (ListsBelow sections test (i + 1)) (sym more) (lists_push sections test i at before (sym is ∙ found) was)
      | in_default w ↦
          let none : c.written_at.result ≡ None = search rules in
          let same : c.match-written_at.order.items ≡ before = search rules in
          subst (ListsBelow sections test (i + 1)) (sym same) (lists_skip sections test i before (sym is ∙ none) was)
    ]

pub returns : goal.returns
returns c = λ segments area shift keeps.
    let sections = c.args.self.now.elf.now.sections.items in
    let size : c.len-i-end.result ≡ length sections = search rules in
    let upto = c.loop-i-test.false in
    lists_all sections (is_written_by c.args.self.now segments area shift) c.loop-i.i c.loop-i.order.items _ (omega arith)
    (c.loop-i.invariant segments area shift keeps) c.sort_unstable.ensures.permutation
    (subst (AllPairs IsPairBefore) c.deref.ensures.value (c.are_ascending.ensures c.if-not-are_ascending.false))
