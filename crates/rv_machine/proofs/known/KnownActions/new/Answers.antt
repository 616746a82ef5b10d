use Rattle.std.proofs.Common.{◌≡◌}
use Rattle.std.specs.Prelude.{replicate}
use Rattle.rv_machine.specs.KnownInsts.{IsKnown}
use Rattle.rv_machine.proofs.KnownEntries.{known_entries}
use Rattle.rv_machine.proofs.known.KnownActions.new.Goals as goal

pub returns-in-Ok : goal.returns-in-Ok
returns-in-Ok c =
    let is : c.in-Ok.entries.items ≡ replicate 16384 c.in-Some.nop = c.in-Ok.ensures.items_if_clones_equal (λ y same. same) in
    let nop : IsKnown c.in-Some.nop = rw (c.in-Some.ensures.half, c.in-Some.ensures.next) c.in-Some.ensures.known in
    record { at = known_entries c.in-Ok.entries.items 16384 c.in-Some.nop is nop }
