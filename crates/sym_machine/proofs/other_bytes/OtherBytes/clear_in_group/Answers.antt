use Rattle.std.proofs.Common.{◌≡◌, ◌∙◌, sym, false}
use Rattle.sym_machine.specs.internal.OtherBytes.{has_group}
use Rattle.sym_machine.proofs.Groups.{cleared_nothing, no_group}
use Rattle.sym_machine.proofs.other_bytes.OtherBytes.clear_in_group.Goals as goal

pub returns-else-has_group : goal.returns-else-has_group
returns-else-has_group c =
    let none : has_group c.args.self.now c.args.from ≡ false = sym c.has_group.ensures ∙ c.if-has_group.false in
    cleared_nothing c.args.self.now c.args.from c.args.to
    (λ q from to. no_group c.args.self.now c.args.from q none (c.requires.within q from to))
