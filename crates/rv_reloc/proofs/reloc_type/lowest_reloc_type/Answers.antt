use Rattle.std.proofs.Common.{◌≡◌, ◌∙◌, sym, Bool, true, false, refl, not, IsFalse, IsTrue, length, arith, ◌↔◌}
use Rattle.std.proofs.lemmas.List.{get_or_default}
use Rattle.elf_code.specs.Relocations.{Relocation, is_supported}
use Rattle.rv_reloc.proofs.Faulty.{lowest-relocation}
use Rattle.rv_reloc.proofs.Places.{IsPlaceOf-begin, IsPlaceOf-next, IsPlaceOf-all}
use Rattle.rv_reloc.proofs.reloc_type.lowest_reloc_type.Goals as goal

not_so : (a b : Bool) → a ≡ b → IsTrue (not a) ↔ IsFalse b
not_so true b same = (λ wrong. let no : false ≡ true = wrong in cc, λ is. let no : true ≡ false = same ∙ is in cc)
not_so false b same = (λ _. sym same, λ _. refl)

pub loop-record-init : goal.loop-record-init
loop-record-init c = IsPlaceOf-begin _ _

pub loop-record-preserved : goal.loop-record-preserved
loop-record-preserved c =
    IsPlaceOf-next _ _ c.args.records.now c.loop-record.record-index _ _ _ _ _ _ c.loop-record-test.true
    (get_or_default _ _ _ _ c.loop-record-test.true) c.lower-lowest.ensures c.loop-record.invariant c.place_if.ensures refl
    (not_so _ _ c.is_supported.ensures)

pub returns : goal.returns
returns c = λ elf are.
    let all : c.loop-record.record-index ≡ length c.args.records.now = omega arith in
    lowest-relocation elf c.args.records.now (λ (r : Relocation). IsFalse (is_supported r.kind)) _ are (λ s r _ _ is. is)
    (IsPlaceOf-all _ _ _ _ _ all c.loop-record.invariant)
