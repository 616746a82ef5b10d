use Rattle.block_layout.proofs.UniqueParts.{parts_law as law}
use Rattle.block_layout.proofs.parts_law.Goals as goal

pub returns : goal.returns
returns c = law
