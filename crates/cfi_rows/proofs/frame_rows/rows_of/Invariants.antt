use Rattle.std.proofs.Common.{◌≡◌, map, take}
use Rattle.std.specs.Rc.{rc_value}
use Rattle.cfi_rows.specs.Entries.{Fde, frames}
use Rattle.cfi_rows.specs.FramePrograms.{section_in, AreRead}
use Rattle.cfi_rows.proofs.frame_rows.rows_of.Given as goal

abbrev pub invariant-loop-fde : goal.invariant-loop-fde
invariant-loop-fde l = record {
  read : AreRead rc_value l.debug (section_in l.held) l.cies;
  rows : l.all.items ≡ map (λ (f : Fde). f.rows) (take l.fde-index (frames l.debug l.held.address l.held.bytes.now).list);
}
