use Rattle.std.proofs.Common.{◌≡◌, false, true}
use Rattle.rv_reloc.specs.Records.{seen}
use Rattle.rv_reloc.proofs.Absolutes.{has-absolute, absolute-part, absolute-full}
use Rattle.rb_bytes.proofs.Options.{same_some, not_found}
use Rattle.rv_reloc.proofs.absolute.has_absolute.Goals as goal

pub returns-in-Some : goal.returns-in-Some
returns-in-Some c = (
  λ is. has-absolute c.args.elf.now
      (seen c.args.relocation.now) c.args.target c.in-Some.inst c.requires.kind c.in-Some.ensures.there
      (c.has_part.ensures.0 is),
  λ has. c.has_part.ensures.1
      (absolute-part c.args.elf.now (seen c.args.relocation.now) c.args.target c.in-Some.inst
      (λ i full. same_some _ _ _ c.in-Some.is (c.full_at.ensures.only i full)) has),
)

pub returns-in-None : goal.returns-in-None
returns-in-None c = (
  λ is. let e : false ≡ true = is in absurd (cc),
  λ has. absurd
      (let (i, full) = absolute-full c.args.elf.now (seen c.args.relocation.now) c.args.target has in
      not_found _ _ c.in-None.is (c.full_at.ensures.only i full)),
)
