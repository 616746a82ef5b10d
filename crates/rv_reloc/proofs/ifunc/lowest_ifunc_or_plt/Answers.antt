use Rattle.std.proofs.Common.{◌≡◌, ◌≢◌, ◌%◌, subst, List}
use Rattle.elf_image.specs.declared.section.Section.{Section}
use Rattle.elf_image.specs.declared.symbol.Symbol.{Symbol}
use Rattle.elf_image.specs.declared.relocation.TheConstants.{R_RISCV_IRELATIVE}
use Rattle.elf_image.specs.declared.symbol.TheConstants.{STT_GNU_IFUNC}
use Rattle.elf_code.specs.Relocations.{Relocation}
use Rattle.elf_image.specs.faults.LowestPlace.{IsLowest}
use Rattle.elf_code.specs.ReferenceFaults.{IsStubs}
use Rattle.rv_reloc.specs.Places.{IsPlaceOf}
use Rattle.rv_reloc.proofs.Faulty.{lowest-relocation}
use Rattle.rv_reloc.proofs.Selecting.{IsLowest-selecting}
use Rattle.rv_reloc.proofs.ifunc.lowest_ifunc_or_plt.Goals as goal

pub returns : goal.returns
returns c =
    let symbols =
    subst (λ (xs : List Symbol). IsLowest
    (IsPlaceOf (λ (s : Symbol). s.value)
    (λ s. s.info % 16 ≡ STT_GNU_IFUNC) xs) c.lowest_ifunc-symbol.result) c.deref.ensures.value c.lowest_ifunc-symbol.ensures in
    let sections =
    subst (λ (xs : List Section). IsLowest
    (IsPlaceOf (λ (s : Section). s.addr)
    (λ s. IsStubs s × (s.size ≢ 0)) xs) c.lowest_stubs-section.result) c.deref-2.ensures.value c.lowest_stubs-section.ensures in
    IsLowest-selecting c.args.elf.now _ _ _ _ _ c.lower-lowest.ensures c.lower.ensures symbols sections
    (lowest-relocation c.args.elf.now c.args.records.now
    (λ (r : Relocation). r.kind ≡ R_RISCV_IRELATIVE) _ c.requires (λ s r _ _ is. is) c.lowest_irelative-relocation.ensures)
