use Rattle.std.proofs.Common.{◌≡◌, ◌∙◌, sym, subst, ℤ, IsTrue, ◌↔◌, true, false, Some, None, rules, FitsSigned, refl}
use Rattle.std.specs.Int.{w128}
use Rattle.std.proofs.lemmas.Int.{to_z-of_z}
use Rattle.elf_code.specs.Cells.{IsCodeLabel}
use Rattle.rv_reloc.specs.Labels.{width_of}
use Rattle.rv_reloc.specs.Records.{seen}
use Rattle.rv_reloc.proofs.DifferenceCases.{paired-none, unpaired-found}
use Rattle.rv_reloc.proofs.differences.is_unpaired.Goals as goal

pub returns-then-is_paired : goal.returns-then-is_paired
returns-then-is_paired c =
    let w = width_of c.in-Some.width in
    paired-none c.args.elf.now (seen c.args.relocation.now) w
    (λ v is. let e : Some w ≡ Some v = (c.in-Some.ensures v).1 is in cc) (c.is_paired.ensures.0 c.if-is_paired.true)

pub returns-else-is_paired : goal.returns-else-is_paired
returns-else-is_paired c =
    let elf = c.args.elf.now in
    let w = width_of c.in-Some.width in
    let fits : FitsSigned w128 c.label.result = search rules in
    let code = subst (λ (z : ℤ). IsTrue c.is_code_label.result ↔ IsCodeLabel elf z)
    (to_z-of_z w128 c.label.result fits ∙ c.label.ensures.label) c.is_code_label.ensures in
    unpaired-found elf (seen c.args.relocation.now) w c.is_code_label.result ((c.in-Some.ensures w).0 refl)
    (λ paired. let e : false ≡ true = sym c.if-is_paired.false ∙ c.is_paired.ensures.1 paired in absurd (cc)) code

pub returns-in-None : goal.returns-in-None
returns-in-None c = (
  λ wrong. let e : false ≡ true = wrong in absurd (cc),
  λ alone. let e : None ≡ Some alone.width = (c.in-None.ensures alone.width).1 alone.width_is in absurd (cc),
)
