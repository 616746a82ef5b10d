use Rattle.std.proofs.Common.{◌∙◌, ap, rules, to_z-of_z, FitsSigned, w64, ℤ, ◌*ℤ◌}
use Rattle.std.specs.Int.{int_wrap}
use Rattle.cfi_rows.proofs.factors.Factors.unsigned_offset.Goals as goal

pub returns : goal.returns
returns c =
    let f : FitsSigned w64 c.signed_offset.result = search rules in
    let g : FitsSigned w64 c.cast_signed.result = search rules in
    to_z-of_z f ∙ c.signed_offset.ensures
    ∙ ap (λ (z : ℤ). int_wrap w64 (z *ℤ c.args.self.now.«data»)) (to_z-of_z g ∙ c.cast_signed.ensures)
