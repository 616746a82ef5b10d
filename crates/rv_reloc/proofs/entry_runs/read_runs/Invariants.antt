use Rattle.std.proofs.Common.{◌≡◌, length, take}
use Rattle.std.specs.List.{flat_map, All}
use Rattle.elf_code.specs.Relocations.{entries_of}
use Rattle.rv_reloc.specs.EntryRuns.{entries, IsWholeRun}
use Rattle.rv_reloc.proofs.entry_runs.read_runs.Given as goal

abbrev pub invariant-loop-table : goal.invariant-loop-table
invariant-loop-table l = record {
  all : entries l.elf.file.now l.runs.items ≡ flat_map (entries_of l.elf) (take l.table-index l.elf.sections.items);
  whole : All (IsWholeRun (length l.elf.file.now)) l.runs.items;
}
