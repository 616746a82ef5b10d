use Rattle.map_check.proofs.Verdicts.{one_verdict}
use Rattle.map_check.proofs.clause.verdict_law.Goals as goal

pub returns : goal.returns
returns c = one_verdict
