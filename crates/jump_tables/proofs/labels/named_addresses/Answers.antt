use Rattle.std.specs.Prelude.{Any}
use Rattle.std.proofs.lemmas.List.Kept.{AllPairs-from_increasing}
use Rattle.rv_code.specs.layout.ProgramCode.{CellNames}
use Rattle.jump_tables.proofs.Collected.{all_gained}
use Rattle.jump_tables.proofs.labels.named_addresses.Goals as goal

pub returns-clause-ascending : goal.returns-clause-ascending
returns-clause-ascending c = AllPairs-from_increasing _ c.make_ascending.ensures.ascending

pub returns-clause-members : goal.returns-clause-members
returns-clause-members c =
    all_gained (λ a. Any (λ x. CellNames x a) c.args.cells.now) c.new-named.result.items _ _ c.new-named.ensures.items
    c.in_ok-push_cells.ensures
    c.make_ascending.ensures.same
