use Rattle.std.proofs.Common.{◌≡◌, ◌∙◌, ◌/◌, sym, Some, None, refl, rules}
use Rattle.rv_memory.specs.PageIndex.{place_of}
use Rattle.sym_machine.proofs.Groups.{byte_set}
use Rattle.sym_machine.proofs.other_bytes.OtherBytes.put.Goals as goal

pub returns-in-Some-clause-written : goal.returns-in-Some-clause-written
returns-in-Some-clause-written c = λ q.
    let p = c.args.self.now in
    let found : place_of p.index (c.args.address / 8) ≡ Some c.in-Some.place = sym c.place.ensures ∙ c.in-Some.is in
    byte_set p _ c.args.address c.in-Some.place (Some c.args.byte) found refl q

pub returns-in_default-clause-written : goal.returns-in_default-clause-written
returns-in_default-clause-written c =
    let none : place_of c.args.self.now.index (c.args.address / 8) ≡ None = search rules in
    absurd (let some = rw none at c.requires in cc)
