use Rattle.cfi_rows.specs.Entries.{frames}
use Rattle.cfi_rows.specs.FramePrograms.{section_in}
use Rattle.cfi_rows.proofs.Failures.{malformed_so}
use Rattle.cfi_rows.proofs.FrameLookups.{rows-more, rows-all, is-found}
use Rattle.cfi_rows.proofs.StandingEntries.{entry-found}
use Rattle.cfi_rows.proofs.frame_rows.rows_of.Goals as goal

pub loop-fde-preserved : goal.loop-fde-preserved
loop-fde-preserved c =
    let t = section_in c.args.held.now in
    let read = c.loop-fde.invariant.read in
    record {
      read = c.in-Ok.ensures.read read;
      rows = rows-more c.args.debug t (frames c.args.debug t.address t.bytes).list c.args.list.now
          c.loop-fde.fde-index _ c.in-Ok.rows c.loop-fde.all.items c.push.new.self.items c.loop-fde-test.true c.requires
          (entry-found c.args.debug t) (c.in-Ok.ensures.rows read) c.loop-fde.invariant.rows c.in_ok-push-in-Ok.ensures.items;
    }

pub returns : goal.returns
returns c =
    let t = section_in c.args.held.now in
    rows-all (frames c.args.debug t.address t.bytes).list c.args.list.now c.loop-fde.fde-index c.loop-fde.all.items c.loop-fde-test.false
    c.requires c.loop-fde.invariant.rows

pub unreachable-requires : goal.unreachable-requires
unreachable-requires c =
    let t = section_in c.args.held.now in
    is-found c.args.debug t (frames c.args.debug t.address t.bytes).list c.args.list.now c.loop-fde.fde-index _ c.loop-fde-test.true
    c.requires (entry-found c.args.debug t)
    ((malformed_so c.in-Err-Malformed.field-0 c.in-Err-Malformed.field-0-is c.in-Err-Malformed.ensures.err) c.loop-fde.invariant.read)
