use Rattle.std.proofs.Common.{◌≡◌, ◌∙◌, sym, false, true}
use Rattle.rv_reloc.specs.Records.{seen}
use Rattle.rv_reloc.proofs.FarLists.{far-makes}
use Rattle.rv_reloc.proofs.pairs.is_far.Goals as goal

pub is_named-requires : goal.is_named-requires
is_named-requires c = c.requires.far.ascending

pub returns-then-not-is_pcrel_hi : goal.returns-then-not-is_pcrel_hi
returns-then-not-is_pcrel_hi c = (
  λ is. let e : false ≡ true = is in absurd (cc),
  λ makes. let is = makes.makes.is_hi in let e = c.is_pcrel_hi.ensures in let f = c.if-not-is_pcrel_hi.true in absurd (cc),
)

pub returns : goal.returns
returns c =
    let tells = far-makes c.args.elf.now c.args.far.now (seen c.args.relocation.now) c.requires.far c.requires.counts
    (sym c.is_pcrel_hi.ensures ∙ c.if-not-is_pcrel_hi.false) in
    (λ is. tells.0 (c.is_named.ensures.0 is), λ makes. c.is_named.ensures.1 (tells.1 makes))
