use Rattle.std.proofs.Common.{ℕ, arith}
use Rattle.std.proofs.lemmas.Bool.{ltb-true}
use Rattle.rv_code.specs.declared.placed.Role.{Role}
use Rattle.rv_code.specs.declared.placed.Role.TheVariants.{Plain}
use Rattle.rb_lanes.proofs.Walked.{first_below}
use Rattle.func_find.proofs.inst_lists.are_below.Goals as goal

pub returns-clause-below : goal.returns-clause-below
returns-clause-below c = λ is.
    first_below (λ (r : ℕ × Role). r.0) c.args.roles.now c.requires c.args.count c.args.address (0, Plain)
    (omega (arith, c.if-count-eq0.false))
    c.if-count-roles.false (ltb-true _ _ is)
