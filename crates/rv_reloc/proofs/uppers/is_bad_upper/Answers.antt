use Rattle.std.proofs.Common.{◌≡◌, ◌∙◌, sym, refl, false, true}
use Rattle.rv_reloc.specs.Records.{seen}
use Rattle.rv_reloc.proofs.UpperFaults.{bad-is_hi, bad-no_auipc, bad-auipc}
use Rattle.rb_bytes.proofs.Options.{not_found}
use Rattle.rv_reloc.proofs.uppers.is_bad_upper.Goals as goal

pub is_named-requires : goal.is_named-requires
is_named-requires c = c.requires.named.ascending

pub returns-then-not-is_pcrel_hi : goal.returns-then-not-is_pcrel_hi
returns-then-not-is_pcrel_hi c = (
  λ is. let e : false ≡ true = is in absurd (cc),
  λ bad. let is = bad-is_hi c.args.elf.now (seen c.args.relocation.now) bad in let e = c.is_pcrel_hi.ensures in let no =
      c.if-not-is_pcrel_hi.true in absurd (cc),
)

pub returns-in-Some : goal.returns-in-Some
returns-in-Some c =
    bad-auipc c.args.elf.now (seen c.args.relocation.now) c.args.named.now c.is_named.result c.requires.named
    (sym c.is_pcrel_hi.ensures ∙ c.if-not-is_pcrel_hi.false) (_, _, c.in-Some.ensures.there) c.is_named.ensures

pub returns-in-None : goal.returns-in-None
returns-in-None c = (
  λ _. bad-no_auipc c.args.elf.now (seen c.args.relocation.now) (sym c.is_pcrel_hi.ensures ∙ c.if-not-is_pcrel_hi.false)
      (λ (rd, imm, full). not_found _ _ c.in-None.is (c.auipc_at.ensures.only rd imm full)),
  λ _. refl,
)
