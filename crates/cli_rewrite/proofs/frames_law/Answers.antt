use Rattle.cli_rewrite.proofs.FramesLaw.{law}
use Rattle.cli_rewrite.proofs.frames_law.Goals as goal

pub returns : goal.returns
returns c = law
