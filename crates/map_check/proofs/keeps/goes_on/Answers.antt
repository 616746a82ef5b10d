use Rattle.std.proofs.Common.{sym, ◌∙◌}
use Rattle.map_check.proofs.KeptRows.{plain_goes, branch_goes, on_goes}
use Rattle.map_check.proofs.keeps.goes_on.Goals as goal

pub returns-then-is_plain_jump : goal.returns-then-is_plain_jump
returns-then-is_plain_jump c = λ r ch nx.
    plain_goes r c.args.output.now c.args.table.now ch c.args.p.now (sym c.is_plain_jump.ensures ∙ c.if-is_plain_jump.true)

pub returns-then-is_branch : goal.returns-then-is_branch
returns-then-is_branch c = λ r ch nx.
    branch_goes r c.args.output.now c.args.table.now ch c.args.p.now (sym c.is_branch.ensures ∙ c.if-is_branch.true)

pub returns : goal.returns
returns c = λ r ch nx.
    on_goes r c.args.output.now c.args.table.now ch c.args.p.now c.new_of-start.result c.width_at.result c.gets_to.result
    (sym c.is_plain_jump.ensures ∙ c.if-is_plain_jump.false) (sym c.is_branch.ensures ∙ c.if-is_branch.false)
    c.new_of-start.ensures c.width_at.ensures (c.gets_to.ensures r c.args.p.now ch nx)
