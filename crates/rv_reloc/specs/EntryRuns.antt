-- Runs of consecutive relocation entries. The entry with number k is at file offset `phase` + 24 k.
use Rattle.std.specs.Prelude.{◌≡◌, ◌≤◌, ℕ, ◌+◌, ◌-◌, ◌*◌, List, ◌++◌, All, map}
use Rattle.std.specs.List.{range_with_len, flat_map}
use Rattle.elf_image.specs.declared.section.Section.{Section}
use Rattle.elf_image.specs.declared.relocation.TheConstants.{RELA_SIZE}
use Rattle.elf_code.specs.Relocations.{Relocation, relocation_at}
use Rattle.rv_reloc.specs.declared.entry_run.EntryRun.{EntryRun}
use Rattle.rv_reloc.specs.AppliesTo.{sections_of, joined}

abbrev pub entry : List ℕ → ℕ → Section → ℕ → Relocation
entry file phase section k = relocation_at file section (phase + RELA_SIZE * k)

-- The relocations of a run for one section.
abbrev pub numbered : List ℕ → EntryRun → Section → List Relocation
numbered file run section = map (entry file run.phase section) (range_with_len run.first (run.end - run.first))

abbrev pub run_entries : List ℕ → EntryRun → List Relocation
run_entries file run = flat_map (numbered file run) (sections_of run.applies_to)

abbrev pub entries : List ℕ → List EntryRun → List Relocation
entries file runs = flat_map (run_entries file) runs

-- All entries of the run are in a file of `size` bytes.
abbrev pub IsWholeRun : ℕ → EntryRun → Type 0
IsWholeRun size run = run.phase + RELA_SIZE * run.end ≤ size

-- `part` has the entries of `run` from number `first` to before `end`.
pub record IsPart (run : EntryRun) (first end : ℕ) (part : EntryRun) : Type 0 where
  pub sections_are : sections_of part.applies_to ≡ sections_of run.applies_to
  pub phase_is : part.phase ≡ run.phase
  pub first_is : part.first ≡ first
  pub end_is : part.end ≡ end

-- `common` has the shared entries of two runs, from number `first` to before `end`.
pub record IsCommon (run other : EntryRun) (first end : ℕ) (common : EntryRun) : Type 0 where
  pub sections_are : sections_of common.applies_to ≡ joined run.applies_to other.applies_to
  pub phase_is : common.phase ≡ run.phase
  pub first_is : common.first ≡ first
  pub end_is : common.end ≡ end

-- Two lists of runs that are merged: the merged runs so far, and the rest of both lists.

abbrev pub all_entries : List ℕ → List EntryRun → List EntryRun → List EntryRun → List Relocation
all_entries file done left right = entries file done ++ (entries file left ++ entries file right)

pub record AreWholeRuns (size : ℕ) (done left right : List EntryRun) : Type 0 where
  pub done_are : All (IsWholeRun size) done
  pub left_are : All (IsWholeRun size) left
  pub right_are : All (IsWholeRun size) right
