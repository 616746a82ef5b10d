use Rattle.edge_text.proofs.LineSums.{split_law}
use Rattle.edge_text.proofs.split_law.Goals as goal

pub returns : goal.returns
returns c = split_law
