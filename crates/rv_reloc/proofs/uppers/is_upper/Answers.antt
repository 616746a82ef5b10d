use Rattle.std.proofs.Common.{◌≡◌, subst, false, true, Bool, ◌↔◌, IsTrue}
use Rattle.elf_code.specs.Relocations.{HasRelocation, is_pcrel_hi}
use Rattle.rv_reloc.proofs.UpperFaults.{upper-auipc}
use Rattle.rb_bytes.proofs.Options.{not_found}
use Rattle.rv_reloc.proofs.uppers.is_upper.Goals as goal

pub has_upper-upper-requires : goal.has_upper-upper-requires
has_upper-upper-requires c = c.requires.records.ordered

pub has_call-call-requires : goal.has_call-call-requires
has_call-call-requires c = c.requires.records.ordered

pub returns-then-upper : goal.returns-then-upper
returns-then-upper c =
    upper-auipc c.args.elf.now c.args.address true c.has_call-call.result (_, _, c.in-Some.ensures.there)
    (subst
    (λ (b : Bool). IsTrue b ↔ HasRelocation c.args.elf.now (λ r. IsTrue (is_pcrel_hi r.kind)) c.args.address) c.if-upper.true
    (c.has_upper-upper.ensures c.args.elf.now c.requires.records))
    (c.has_call-call.ensures c.args.elf.now c.requires.records)

pub returns-else-upper : goal.returns-else-upper
returns-else-upper c = (
  λ is. let f = c.if-upper.false in absurd (cc),
  λ upper. (c.has_upper-upper.ensures c.args.elf.now c.requires.records).1 upper.upper,
)

pub returns-in-None : goal.returns-in-None
returns-in-None c = (
  λ is. let e : false ≡ true = is in absurd (cc),
  λ upper. absurd (let (rd, imm, full) = upper.auipc in not_found _ _ c.in-None.is (c.auipc_at.ensures.only rd imm full)),
)
