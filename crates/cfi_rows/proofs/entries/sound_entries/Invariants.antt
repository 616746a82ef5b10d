use Rattle.std.proofs.Common.{◌≡◌, ◌≤◌, drop}
use Rattle.cfi_rows.specs.Entries.{frames_from}
use Rattle.cfi_rows.specs.KeptTables.{said, joined}
use Rattle.cfi_rows.proofs.entries.sound_entries.Given as goal

abbrev pub invariant-loop-entry : goal.invariant-loop-entry
invariant-loop-entry l =
    (said (frames_from l.fn.debug l.fn.address l.fn.entries l.fn.broken l.fn.entries) ≡
    joined l.listed.cies l.listed.list.items
    (said (frames_from l.fn.debug l.fn.address l.fn.entries l.fn.broken (drop l.entry-index l.fn.entries))))
    × (l.listed.cies ≤ l.entry-index)
