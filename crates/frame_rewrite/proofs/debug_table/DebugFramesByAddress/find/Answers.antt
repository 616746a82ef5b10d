use Rattle.std.proofs.Common.{false, refl}
use Rattle.cfi_rows.specs.ReadFrames.{read_as}
use Rattle.frame_rewrite.specs.FrameAnswers.{is_never_marked}
use Rattle.frame_rewrite.proofs.ToldEntries.{answered-alike}
use Rattle.frame_rewrite.proofs.debug_table.DebugFramesByAddress.find.Goals as goal

pub returns-in_default-clause-last : goal.returns-in_default-clause-last
returns-in_default-clause-last c = λ x from to.
    answered-alike is_never_marked (λ f. false) (read_as c.args.self.now.frames).list x c.args.a (λ f. refl)
    (c.in_ok-told.ensures.last x from to)

pub returns-clause-last : goal.returns-clause-last
returns-clause-last c = λ x from to.
    answered-alike is_never_marked (λ f. false) (read_as c.args.self.now.frames).list x c.args.a (λ f. refl)
    (c.in_ok-told.ensures.last x from to)
