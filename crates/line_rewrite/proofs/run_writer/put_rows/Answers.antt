use Rattle.std.proofs.Common.{arith}
use Rattle.std.proofs.lemmas.Grind.{common_steps}
use Rattle.line_rewrite.proofs.RunSteps.{written_next, after_next, fits_next, fits_all}
use Rattle.line_rewrite.proofs.run_writer.put_rows.Goals as goal

pub loop-row-preserved : goal.loop-row-preserved
loop-row-preserved c =
    let a = c.args.address in
    let i = c.loop-row.row-index in
    let rows = c.args.rows.now in
    let row = c.at_address-row.result in
    record {
      written = written_next a i rows _ row c.loop-row-test.true c.at_address-row.ensures c.loop-row.out.items c.put_row.new.out.items _
          c.loop-row.present
          c.after_row-present.result c.in_ok-put_row.ensures.written c.after_row-present.ensures c.loop-row.invariant.written;
      after = after_next a i rows _ row c.loop-row-test.true c.at_address-row.ensures c.loop-row.present c.after_row-present.result _
          c.after_row-present.ensures
          c.loop-row.invariant.after;
      fits = fits_next a i rows _ row c.loop-row-test.true c.at_address-row.ensures c.loop-row.invariant.fits c.put_row.ensures.fits;
    }

pub returns-clause-fits : goal.returns-clause-fits
returns-clause-fits c = fits_all c.args.address c.loop-row.row-index c.args.rows.now c.loop-row-test.false c.loop-row.invariant.fits

pub returns-clause-written : goal.returns-clause-written
returns-clause-written c = grind (arith, common_steps)

pub returns-clause-after : goal.returns-clause-after
returns-clause-after c = grind (arith, common_steps)
