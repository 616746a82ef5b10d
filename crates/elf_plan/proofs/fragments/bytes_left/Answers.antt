use Rattle.std.proofs.Common.{◌≡◌, ◌<◌, ◌+◌, ◌-◌, ◌∙◌, ap, arith, length, get_or}
use Rattle.std.proofs.lemmas.List.Elements.{Contains-get_or}
use Rattle.elf_plan.specs.declared.fragments.Fragment.{Fragment}
use Rattle.elf_plan.proofs.FragmentLists.{only-fragment, fragment-left, fragment-none}
use Rattle.elf_plan.proofs.fragments.bytes_left.Goals as goal
use Rattle.elf_plan.proofs.fragments.bytes_left.Goals.{else-fragment-func-via-then-fragment-func+else-address-fragment}
use Rattle.elf_plan.proofs.fragments.bytes_left.Goals.{else-fragment-func-via-else-fragment-func}

abbrev no_fragment : Fragment
no_fragment = record { start = 0; end = 0; func = 0 }

pub returns-then-address-fragment : goal.returns-then-address-fragment
returns-then-address-fragment c = λ funcs spans are.
    let fragments = c.args.fragments.now in
    let n = c.count_fragments_up_to-above.result - 1 in
    let bound = c.count_fragments_up_to-above.ensures.bound in
    let some = c.if-above-eq0.false in
    let within : n < length fragments = omega arith in
    fragment-left funcs spans fragments (get_or fragments n no_fragment) c.args.func c.args.address are
    (Contains-get_or fragments n no_fragment within) c.if-fragment-func.true
    (c.count_fragments_up_to-above.ensures.below are.sorted n no_fragment (omega arith)) c.if-address-fragment.true

pub returns-else-fragment-func : goal.returns-else-fragment-func
returns-else-fragment-func c = λ funcs spans are.
    let fragments = c.args.fragments.now in
    let above = c.count_fragments_up_to-above.result in
    let n = above - 1 in
    let bound = c.count_fragments_up_to-above.ensures.bound in
    let some = c.if-above-eq0.false in
    let within : n < length fragments = omega arith in
    let more : n + 1 ≡ above = omega arith in
    fragment-none funcs spans fragments c.args.func c.args.address are (λ r there is low high.
    let same : get_or fragments n no_fragment ≡ r =
    only-fragment fragments c.args.address n no_fragment are.sorted within
    (λ k d from inside. c.count_fragments_up_to-above.ensures.above are.sorted k d (omega arith) inside)
    (c.count_fragments_up_to-above.ensures.below are.sorted n no_fragment (omega arith)) r there low high in
    let end : (get_or fragments n no_fragment).end ≡ r.end = ap (λ (x : Fragment). x.end) same in
    let func : (get_or fragments n no_fragment).func ≡ r.func = ap (λ (x : Fragment). x.func) same in
    elim c.else-fragment-func.branch [
      | else-fragment-func-via-then-fragment-func+else-address-fragment w ↦
          let past = w.if-address-fragment.false in absurd (omega arith)
      | else-fragment-func-via-else-fragment-func w ↦ absurd (w.if-fragment-func.false (func ∙ is))
    ])
