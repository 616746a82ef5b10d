use Rattle.std.proofs.Common.{arith}
use Rattle.elf_image.proofs.LowestPlaces.{IsLowest-lower}
use Rattle.elf_image.proofs.TruncatedPlaces.{IsLowest-beyond}
use Rattle.elf_image.proofs.ReadableFiles.{lowest-readable}
use Rattle.elf_image.proofs.faults.truncated.lowest_truncated.Goals as goal

pub returns-clause-lowest : goal.returns-clause-lowest
returns-clause-lowest c =
    IsLowest-beyond c.args.file.now _ (omega arith)
    (
    IsLowest-lower _ _ _ c.lower.ensures
    (IsLowest-lower _ _ _ c.lower-fields.ensures c.lowest_bad_field.ensures c.lowest_truncated_table.ensures)
    (IsLowest-lower _ _ _ c.lower-tables.ensures c.lowest_truncated_by_segments.ensures c.lowest_truncated_by_sections.ensures)
    )

pub returns-clause-readable : goal.returns-clause-readable
returns-clause-readable c = lowest-readable c.args.file.now _ (returns-clause-lowest c)
