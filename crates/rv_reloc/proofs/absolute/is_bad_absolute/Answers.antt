use Rattle.std.proofs.Common.{◌≡◌, ◌∙◌, sym, false, true}
use Rattle.rv_reloc.specs.Records.{seen}
use Rattle.rv_reloc.proofs.Absolutes.{kind_absolute, bad-absolute}
use Rattle.rb_bytes.proofs.Options.{same_some, not_found}
use Rattle.rv_reloc.proofs.absolute.is_bad_absolute.Goals as goal

pub has_absolute-requires-clause-kind : goal.has_absolute-requires-clause-kind
has_absolute-requires-clause-kind c = sym c.is_absolute.ensures ∙ c.if-not-is_absolute.false

pub returns-then-not-is_absolute : goal.returns-then-not-is_absolute
returns-then-not-is_absolute c = (
  λ is. let e : false ≡ true = is in absurd (cc),
  λ bad. let is = kind_absolute c.args.relocation.now.kind bad.absolute in let e = c.is_absolute.ensures in let no =
      c.if-not-is_absolute.true in absurd (cc),
)

pub returns-in-Some : goal.returns-in-Some
returns-in-Some c =
    bad-absolute c.args.elf.now (seen c.args.relocation.now) c.in-Some.target c.has_absolute.result
    (sym c.is_absolute.ensures ∙ c.if-not-is_absolute.false) c.in-Some.ensures.there
    (λ t part. same_some _ _ _ c.in-Some.is (c.absolute_target.ensures.only t part))
    c.has_absolute.ensures

pub returns-in-None : goal.returns-in-None
returns-in-None c = (
  λ is. let e : false ≡ true = is in absurd (cc),
  λ bad. absurd (not_found _ _ c.in-None.is (c.absolute_target.ensures.only bad.target bad.part)),
)
