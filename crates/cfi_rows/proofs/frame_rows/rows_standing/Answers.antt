use Rattle.cfi_rows.proofs.FrameLookups.{rows-run, no-rows}
use Rattle.cfi_rows.proofs.frame_rows.rows_standing.Goals as goal

pub returns-clause-rows : goal.returns-clause-rows
returns-clause-rows c = rows-run _ c.run.result _ c.in_ok-program.program c.run.ensures.rows c.in_ok-program.ensures.program

pub returns-clause-err : goal.returns-clause-err
returns-clause-err c = no-rows _ c.run.result _ c.in_ok-program.program c.run.ensures.err c.in_ok-program.ensures.program
