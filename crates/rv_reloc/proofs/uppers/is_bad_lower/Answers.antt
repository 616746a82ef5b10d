use Rattle.std.proofs.Common.{◌∙◌, sym}
use Rattle.rv_reloc.specs.Records.{seen}
use Rattle.rv_reloc.proofs.UpperFaults.{bad-is_lo, bad-low, bad-no_low}
use Rattle.rb_bytes.proofs.Options.{not_found}
use Rattle.rv_reloc.proofs.uppers.is_bad_lower.Goals as goal

pub returns-in-Some : goal.returns-in-Some
returns-in-Some c =
    let low = c.in-Some.ensures.is in
    bad-low c.args.elf.now (seen c.args.relocation.now) c.in-Some.low c.is_upper.result low.is_low low c.is_upper.ensures

pub returns-in-None : goal.returns-in-None
returns-in-None c = (
  λ is. bad-no_low c.args.elf.now (seen c.args.relocation.now) (sym c.is_pcrel_lo.ensures ∙ is)
      (λ l low. not_found _ _ c.in-None.is (c.low_of.ensures.only l low)),
  λ bad. c.is_pcrel_lo.ensures ∙ bad-is_lo c.args.elf.now (seen c.args.relocation.now) bad,
)
