use Rattle.std.proofs.Common.{◌≡◌, refl, None}
use Rattle.std.specs.Prelude.{replicate}
use Rattle.sym_machine.specs.declared.known.KnownInst.{KnownInst}
use Rattle.sym_machine.specs.internal.KnownInsts.{IsKnown}
use Rattle.sym_machine.proofs.KnownEntries.{known_entries}
use Rattle.sym_machine.proofs.known.KnownInsts.new.Goals as goal

pub returns-in-Ok : goal.returns-in-Ok
returns-in-Ok c = λ funcs.
    let nothing : KnownInst = record { address = 1; found = None } in
    let is : c.in-Ok.entries.items ≡ replicate 8192 nothing = c.in-Ok.ensures.items_if_clones_equal (λ y same. same) in
    let none : IsKnown funcs nothing = refl in
    record { at = known_entries funcs c.in-Ok.entries.items 8192 nothing is none }
