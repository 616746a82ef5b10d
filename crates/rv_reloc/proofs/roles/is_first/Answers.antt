use Rattle.rv_reloc.proofs.FirstRoles.{first_if}
use Rattle.rv_reloc.proofs.roles.is_first.Goals as goal

pub returns-else-index-eq0 : goal.returns-else-index-eq0
returns-else-index-eq0 c = first_if c.args.claims.now c.args.index _ c.requires.order c.requires.index c.if-index-eq0.false
