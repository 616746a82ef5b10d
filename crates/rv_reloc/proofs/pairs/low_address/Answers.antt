use Rattle.std.proofs.Common.{◌∙◌, sym, subst, FitsSigned, rules}
use Rattle.std.specs.Int.{w128}
use Rattle.std.proofs.lemmas.Int.{to_z-of_z}
use Rattle.elf_code.specs.ReferenceFaults.{IsAddress}
use Rattle.rv_reloc.specs.Pairs.{IsTargetOf}
use Rattle.rv_reloc.proofs.Only.{some-only}
use Rattle.rb_bytes.proofs.Options.{same_some, not_found}
use Rattle.rv_reloc.proofs.pairs.low_address.Goals as goal

pub returns-clause-is : goal.returns-clause-is
returns-clause-is c =
    let fits : FitsSigned w128 c.in_ok-number.number = search rules in
    some-only c.address_of.result
    (λ t same. subst (IsTargetOf c.args.elf.now c.args.low.now)
    (sym (same ∙ to_z-of_z w128 _ fits)) c.in_ok-number.ensures.is) c.address_of.ensures.there

pub returns-clause-each : goal.returns-clause-each
returns-clause-each c = λ z is address.
    let fits : FitsSigned w128 c.in_ok-number.number = search rules in
    c.address_of.ensures.exact.1
    (subst IsAddress (sym (to_z-of_z w128 _ fits ∙ same_some _ _ _ c.in_ok-number.was (c.low_target.ensures.only z is))) address)

pub returns-clause-once : goal.returns-clause-once
returns-clause-once c = λ z is.
    let fits : FitsSigned w128 c.in_ok-number.number = search rules in
    some-only c.address_of.result
    (λ t same. sym
    (same ∙ to_z-of_z w128 _ fits ∙ same_some _ _ _ c.in_ok-number.was (c.low_target.ensures.only z is))) c.address_of.ensures.there

pub returns-in_err-number-clause-each : goal.returns-in_err-number-clause-each
returns-in_err-number-clause-each c = λ z is address. absurd (not_found _ _ c.in_err-number.was (c.low_target.ensures.only z is))
