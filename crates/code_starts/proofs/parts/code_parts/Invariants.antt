use Rattle.std.proofs.Common.{slice_index}
use Rattle.rv_code.specs.layout.Lists.{ListsAll}
use Rattle.code_starts.specs.Parts.{Precedes}
use Rattle.code_starts.proofs.Cuts.{IsPartUpTo}
use Rattle.code_starts.proofs.parts.code_parts.Given as goal

abbrev pub invariant-loop-index : goal.invariant-loop-index
invariant-loop-index l = ListsAll (IsPartUpTo l.elf (slice_index l.cuts.items l.index)) Precedes l.parts.items
