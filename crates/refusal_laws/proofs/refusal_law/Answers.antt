use Rattle.refusal_laws.proofs.Refusals.{refusal_law}
use Rattle.refusal_laws.proofs.refusal_law.Goals as goal

pub returns : goal.returns
returns c = refusal_law c.parts_law.ensures
