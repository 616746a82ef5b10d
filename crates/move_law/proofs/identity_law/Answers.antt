use Rattle.move_law.proofs.identity.Identity.{identity_law as law}
use Rattle.move_law.proofs.identity_law.Goals as goal

pub returns : goal.returns
returns c = law
