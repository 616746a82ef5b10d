use Rattle.line_rewrite.proofs.Lookups.{row_some, row_none}
use Rattle.line_rewrite.proofs.lookup.row_at.Goals as goal

pub returns-in-Some : goal.returns-in-Some
returns-in-Some c = row_some c.args.kept.now c.args.rows c.args.state c.in-Some.kept.now c.in-Some.ensures.lookup.0
    c.in-Some.ensures.lookup.1

pub returns-in-None : goal.returns-in-None
returns-in-None c = row_none c.args.kept.now c.args.rows c.args.state c.in-None.ensures.lookup.3
