use Rattle.std.proofs.Common.{◌≡◌, ◌≤◌, subst, List, [], All, length, arith}
use Rattle.std.proofs.lemmas.Bool.{leb-true}
use Rattle.elf_image.specs.declared.symbol.Symbol.{Symbol}
use Rattle.elf_plan.specs.NameWeight.{name_weight}
use Rattle.sample_gen.proofs.NameWeights.{names_light}
use Rattle.sample_gen.proofs.weight_check.has_light_names.Goals as goal

pub returns : goal.returns
returns c = λ light.
    let elf = c.args.elf.now in
    let funcs = c.args.funcs.now in
    let weight : c.in_ok-weight.weight ≡ name_weight elf funcs [] = c.in_ok-weight.ensures in
    let within : c.in_ok-weight.weight ≤ 1000000000 = leb-true _ _ light in
    names_light elf funcs
    (subst (λ (symbols : List Symbol). All (λ (s : Symbol). length s.name.now ≤ 1000) symbols) c.deref.ensures.value
    (c.are_short.ensures c.if-not-are_short.false)) (omega (arith, c.if-funcs-gt-MOST_FUNCTIONS.false)) (omega (arith, weight, within))
