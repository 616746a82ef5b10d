use Rattle.std.proofs.Common.{◌≡◌, ◌∙◌, sym, refl, false, true}
use Rattle.rv_reloc.specs.Records.{seen}
use Rattle.rv_reloc.proofs.CallFaults.{bad-none, bad-some, bad-is_call}
use Rattle.rb_bytes.proofs.Options.{same_some, not_found}
use Rattle.rv_reloc.proofs.calls.is_bad_call.Goals as goal

pub returns-then-not-is_call_pair : goal.returns-then-not-is_call_pair
returns-then-not-is_call_pair c = (
  λ is. let e : false ≡ true = is in absurd (cc),
  λ bad. let is = bad-is_call c.args.elf.now (seen c.args.relocation.now) bad in let e = c.is_call_pair.ensures in let no =
      c.if-not-is_call_pair.true in absurd (cc),
)

pub returns-in-Some : goal.returns-in-Some
returns-in-Some c =
    bad-some c.args.elf.now (seen c.args.relocation.now) c.in-Some.call c.fits.result c.requires.counts
    (sym c.is_call_pair.ensures ∙ c.if-not-is_call_pair.false) c.in-Some.ensures.there
    (λ d is. same_some _ _ _ c.in-Some.is (c.call_at.ensures.only d is))
    c.fits.ensures

pub returns-in-None : goal.returns-in-None
returns-in-None c = (
  λ _. bad-none c.args.elf.now (seen c.args.relocation.now) (sym c.is_call_pair.ensures ∙ c.if-not-is_call_pair.false)
      (λ d is. not_found _ _ c.in-None.is (c.call_at.ensures.only d is)),
  λ _. refl,
)
