use Rattle.std.proofs.Common.{take}
use Rattle.elf_image.specs.faults.LowestPlace.{IsLowest}
use Rattle.rv_reloc.specs.BadEntries.{NamesBadEntry}
use Rattle.rv_reloc.specs.Places.{IsPlaceOf}
use Rattle.rv_reloc.proofs.bad_entries.lowest_bad_entry.Given as goal

abbrev pub invariant-loop-low : goal.invariant-loop-low
invariant-loop-low l = IsLowest (IsPlaceOf (λ x. x.hi) (NamesBadEntry l.elf) (take l.low-index l.lows)) l.lowest
