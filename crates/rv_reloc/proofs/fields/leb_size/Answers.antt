use Rattle.std.proofs.Common.{◌≡◌, ◌<◌, ◌≤◌, ◌+◌, ◌-◌, ◌⊎◌, inl, inr, ⊎_elim, subst, Option, arith}
use Rattle.std.proofs.lemmas.Bool.{cases_lt}
use Rattle.rv_reloc.specs.declared.tails.LebRest.{LebRest}
use Rattle.rv_reloc.specs.Tails.{TailAt}
use Rattle.rv_reloc.proofs.Lebs.{size-beyond}
use Rattle.rv_reloc.proofs.fields.leb_size.Goals as goal

pub returns-else-tail-end : goal.returns-else-tail-end
returns-else-tail-end c =
    let place = c.args.relocation.now.place in
    let section = c.args.relocation.now.section.now in
    let n = section.addr + section.size - place in
    let at = subst (λ (o : Option LebRest). TailAt c.args.elf.now place o) c.in_ok-tail.was c.tail_at.ensures in
    let short : (n ≡ 0) ⊎ (place + n < c.in_ok-tail.tail.end) =
    ⊎_elim (λ (low : section.addr + section.size < place). inl (omega arith))
    (λ (high : place ≤ section.addr + section.size). inr (omega arith)) (cases_lt (section.addr + section.size) place) in
    size-beyond c.args.elf.now place n c.in_ok-tail.tail at short
