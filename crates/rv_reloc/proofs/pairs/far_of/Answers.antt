use Rattle.std.proofs.Common.{◌≡◌, ◌∙◌, sym, ap, subst, refl, false, true, Some, FitsSigned, rules}
use Rattle.std.specs.Int.{w128}
use Rattle.std.proofs.lemmas.Int.{to_z-of_z}
use Rattle.elf_code.specs.ReferenceFaults.{IsAddress}
use Rattle.rb_bytes.proofs.Options.{same_some, not_found}
use Rattle.rv_reloc.proofs.pairs.far_of.Goals as goal

pub returns-clause-is : goal.returns-clause-is
returns-clause-is c =
    let fits : FitsSigned w128 c.in_ok-number.number = search rules in
    record {
      here = refl;
      number = c.in_ok-number.number;
      makes = c.in_ok-number.ensures.is;
      unfit = λ address.
          let some = c.address_of.ensures.exact.1 (subst IsAddress (sym (to_z-of_z w128 _ fits)) address) in
          let e : false ≡ true = sym c.if-is_some.false ∙ c.is_some.ensures ∙ some in
          cc;
    }

pub returns-clause-only : goal.returns-clause-only
returns-clause-only c = λ a is. ap Some is.here

pub returns-then-is_some-clause-only : goal.returns-then-is_some-clause-only
returns-then-is_some-clause-only c = λ a is.
    let fits : FitsSigned w128 c.in_ok-number.number = search rules in
    let same = to_z-of_z w128 _ fits ∙ same_some _ _ _ c.in_ok-number.was (c.low_target.ensures.only is.number is.makes) in
    absurd (is.unfit (subst IsAddress same (c.address_of.ensures.exact.0 (sym c.is_some.ensures ∙ c.if-is_some.true))))

pub returns-in_err-number-clause-only : goal.returns-in_err-number-clause-only
returns-in_err-number-clause-only c = λ a is. absurd (not_found _ _ c.in_err-number.was (c.low_target.ensures.only is.number is.makes))
