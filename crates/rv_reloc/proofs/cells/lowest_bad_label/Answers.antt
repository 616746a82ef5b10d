use Rattle.std.proofs.Common.{ℕ, List, Option, Some, None, IfNone}
use Rattle.std.specs.List.{All}
use Rattle.elf_image.specs.faults.LowestPlace.{IsLowest}
use Rattle.rv_reloc.specs.Cells.{HasBadContent, HasAddresses}
use Rattle.rv_reloc.specs.Places.{IsPlaceOf}
use Rattle.rv_reloc.specs.declared.sweep.Candidate.{Candidate}
use Rattle.rv_reloc.proofs.CellLists.{bad-label, none-bad}
use Rattle.rv_reloc.proofs.cells.lowest_bad_label.Goals as goal

pub returns-clause-lowest : goal.returns-clause-lowest
returns-clause-lowest c =
    λ elf tabled are. bad-label elf tabled c.args.counted.now c.lowest_bad_field.result are c.lowest_bad_field.ensures

by : (counted : List Candidate) (lowest : Option ℕ) → IsLowest (IsPlaceOf (λ f. f.place) HasBadContent counted) lowest →
    IfNone lowest (All HasAddresses counted)
by counted None is = none-bad counted is
by counted (Some p) is = tt

pub returns-clause-none : goal.returns-clause-none
returns-clause-none c = by c.args.counted.now c.lowest_bad_field.result c.lowest_bad_field.ensures
