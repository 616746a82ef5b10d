use Rattle.std.proofs.lemmas.Result.{err_from_is_err_and}
use Rattle.elf_image.specs.declared.elf.Elf.{Elf}
use Rattle.cfi_rows.specs.Frames.{eh_frames, debug_frames}
use Rattle.table_set.proofs.ElfReading.{all_free, all_refused}
use Rattle.table_set.proofs.ReadTables.{no_bad}
use Rattle.table_set.proofs.one_address.read_all_at.Goals as goal

pub returns-in_err-debug-clause-fault : goal.returns-in_err-debug-clause-fault
returns-in_err-debug-clause-fault c =
    let elf : Elf = c.args.elf.now in
    let p = err_from_is_err_and c.from_residual-in_err-debug.result c.from_residual-in_err-debug.ensures.1 in
    rw (p.1, p.2) (all_refused elf (no_bad (eh_frames elf) c.in_ok-eh.ensures.reads.1)
    (no_bad (debug_frames elf) c.in_ok-df.ensures.reads.1)
    c.in_err-debug.field-0.0 c.in_err-debug.ensures.fault)

pub returns-clause-sound : goal.returns-clause-sound
returns-clause-sound c =
    let elf : Elf = c.args.elf.now in
    all_free elf (no_bad (eh_frames elf) c.in_ok-eh.ensures.reads.1) (no_bad (debug_frames elf) c.in_ok-df.ensures.reads.1)
    c.in_ok-debug.ensures.sound
