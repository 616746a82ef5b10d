use Rattle.std.proofs.Common.{subst}
use Rattle.std.proofs.lemmas.List.Elements.{All-more}
use Rattle.frame_rewrite.proofs.Appends.{other-more, all-taken}
use Rattle.frame_rewrite.proofs.EntrySteps.{EntryFits, rules-fit}
use Rattle.frame_rewrite.proofs.spelling.put_rules.Goals as goal

pub loop-register-preserved : goal.loop-register-preserved
loop-register-preserved c =
    let is = c.loop-register-item.is in
    record {
      spelled = other-more c.args.old.now c.args.new.now c.loop-register.register-index c.loop-register-item.result _
          c.loop-register.out.items c.put_other.new.out.items _ c.loop-register-test.true is c.in_ok-put_other.ensures.spelled
          c.loop-register.invariant.spelled;
      fits = All-more EntryFits c.args.new.now c.loop-register.register-index c.loop-register-item.result c.loop-register-test.true
          c.loop-register.invariant.fits (subst EntryFits is (c.put_other.ensures.register, c.put_other.ensures.fits));
    }

pub returns-clause-fits : goal.returns-clause-fits
returns-clause-fits c =
    rules-fit 0 c.args.new.now c.requires.new (all-taken EntryFits c.args.new.now c.loop-register.register-index
    c.loop-register-test.false
    c.loop-register.invariant.fits)
