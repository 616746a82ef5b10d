use Rattle.std.proofs.Common.{◌≡◌, sym, refl, length, arith}
use Rattle.std.proofs.lemmas.List.{get_or_default}
use Rattle.elf_code.specs.ReferenceFaults.{IsNarrow}
use Rattle.rv_reloc.proofs.Alike.{narrow-for}
use Rattle.rv_reloc.proofs.Faulty.{lowest-relocation}
use Rattle.rv_reloc.proofs.Kept.{counts}
use Rattle.rv_reloc.proofs.Places.{IsPlaceOf-begin, IsPlaceOf-next, IsPlaceOf-all}
use Rattle.rv_reloc.proofs.differences.lowest_narrow.Goals as goal

pub loop-index-init : goal.loop-index-init
loop-index-init c = λ tabled are. IsPlaceOf-begin _ _

pub is_narrow-narrow-requires-clause-listed : goal.is_narrow-narrow-requires-clause-listed
is_narrow-narrow-requires-clause-listed c =
    counts c.args.elf.now c.args.records.now _ c.requires.records
    (c.loop-index.index, c.loop-index-test.true, sym (get_or_default _ _ _ _ c.loop-index-test.true))

pub loop-index-preserved : goal.loop-index-preserved
loop-index-preserved c = λ tabled are.
    IsPlaceOf-next _ _ c.args.records.now c.loop-index.index _ _ _ _ _ _ c.loop-index-test.true
    (get_or_default _ _ _ _ c.loop-index-test.true) c.lower-lowest.ensures
    (c.loop-index.invariant tabled are) c.place_if.ensures refl (c.is_narrow-narrow.ensures tabled are)

pub returns : goal.returns
returns c = λ tabled are.
    let all : c.loop-index.index ≡ length c.args.records.now = omega arith in
    lowest-relocation c.args.elf.now c.args.records.now (IsNarrow c.args.elf.now tabled) _ c.requires.records
    (λ s r _ counts is. narrow-for c.args.elf.now s r counts tabled is)
    (IsPlaceOf-all _ _ _ _ _ all (c.loop-index.invariant tabled are))
