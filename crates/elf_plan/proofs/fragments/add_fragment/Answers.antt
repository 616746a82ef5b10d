use Rattle.std.proofs.Common.{◌≡◌, subst, sym, rules, List, [], ◌∷◌, ◌++◌}
use Rattle.elf_plan.specs.declared.fragments.Fragment.{Fragment}
use Rattle.elf_plan.specs.FragmentLists.{Grows}
use Rattle.elf_plan.proofs.FragmentLists.{grows-added, grows-joined}
use Rattle.elf_plan.proofs.fragments.add_fragment.Goals as goal
use Rattle.elf_plan.proofs.fragments.add_fragment.Goals.{else-last-fragment-via-then-last-fragment+else-last-fragment-2}
use Rattle.elf_plan.proofs.fragments.add_fragment.Goals.{else-last-fragment-via-else-last-fragment}

pub returns-then-last-fragment-2 : goal.returns-then-last-fragment-2
returns-then-last-fragment-2 c =
    let front = c.pop.new.self.items in
    let last = c.in-Some.last in
    let fragment = c.args.fragment in
    let old : c.args.fragments.now.items ≡ front ++ last ∷ [] = search rules in
    let new : c.push-then-last-fragment-2.new.self.items ≡ front ++ (record last { end = fragment.end }) ∷ [] = search rules in
    subst (λ (xs : List Fragment). Grows xs fragment c.push-then-last-fragment-2.new.self.items) (sym old)
    (subst (λ (ys : List Fragment). Grows (front ++ last ∷ []) fragment ys) (sym new)
    (grows-joined front last fragment c.requires c.if-last-fragment.true c.if-last-fragment-2.true))

pub returns : goal.returns
returns c =
    let front = c.pop.new.self.items in
    let last = c.in-Some.last in
    let fragment = c.args.fragment in
    let old : c.args.fragments.now.items ≡ front ++ last ∷ [] = search rules in
    let new : c.push-3.new.self.items ≡ (front ++ last ∷ []) ++ fragment ∷ [] = search rules in
    subst (λ (xs : List Fragment). Grows xs fragment c.push-3.new.self.items) (sym old)
    (subst (λ (ys : List Fragment). Grows (front ++ last ∷ []) fragment ys) (sym new)
    (grows-added front last fragment c.requires c.if-fragment-last.false (λ one meets.
    elim c.else-last-fragment.branch [
      | else-last-fragment-via-then-last-fragment+else-last-fragment-2 w ↦ w.if-last-fragment-2.false meets
      | else-last-fragment-via-else-last-fragment w ↦ w.if-last-fragment.false one
    ])))
