use Rattle.block_layout.proofs.UniqueLinks.{links_law as law}
use Rattle.block_layout.proofs.links_law.Goals as goal

pub returns : goal.returns
returns c = law
