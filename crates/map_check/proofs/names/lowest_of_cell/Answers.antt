use Rattle.std.proofs.Common.{sym, subst, IsTrue}
use Rattle.rv_code.specs.declared.cell.CellKind.{CellKind}
use Rattle.rv_code.specs.layout.ProgramCode.{KindNames}
use Rattle.elf_image.specs.faults.LowestPlace.{IsLowest}
use Rattle.map_check.specs.internal.EmptySpans.{is_empty_at}
use Rattle.map_check.proofs.NamedSpans.{two_names}
use Rattle.map_check.proofs.names.lowest_of_cell.Goals as goal

pub returns-in-Diff : goal.returns-in-Diff
returns-in-Diff c =
    subst (λ (k : CellKind). IsLowest (λ a. KindNames k a × IsTrue (is_empty_at c.args.sorted.now a)) c.lower.result)
    (sym c.in-Diff.is)
    (two_names c.args.sorted.now _ _ _ _ _ c.lower.ensures c.empty_at-first.ensures c.empty_at-second.ensures)
