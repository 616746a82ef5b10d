use Rattle.std.proofs.Common.{arith, ap}
use Rattle.std.proofs.lemmas.List.{get_or_default}
use Rattle.rv_reloc.specs.declared.lows.Low.{Low}
use Rattle.rv_reloc.specs.Lows.{DiffersFromNext}
use Rattle.elf_image.proofs.LowestPlaces.{IsLowest-next, IsLowest-place}
use Rattle.rv_reloc.proofs.Differing.{DifferingPlace, no_low, IsLowest-two, IsLowest-mismatch}
use Rattle.rv_reloc.proofs.low_mismatch.lowest_low_mismatch.Goals as goal

pub loop-index-preserved : goal.loop-index-preserved
loop-index-preserved c =
    let lows = c.args.lows.now in
    let index = c.loop-index.index in
    let place = ap (λ (l : Low). l.hi) (get_or_default lows index _ no_low c.loop-index-test.true) in
    IsLowest-next (DifferingPlace lows) index _ _ _ c.lower-lowest.ensures c.loop-index.invariant
    (IsLowest-place (DiffersFromNext lows index) _ _ _ _ c.place_if.ensures place c.differs_from_next.ensures)

pub returns : goal.returns
returns c = λ elf are.
    IsLowest-mismatch elf c.args.lows.now _ are
    (IsLowest-two c.args.lows.now c.loop-index.index _ c.requires (omega arith) c.loop-index.invariant)
