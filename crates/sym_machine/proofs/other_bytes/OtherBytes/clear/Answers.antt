use Rattle.std.proofs.Common.{◌≡◌, ◌∙◌, ◌/◌, sym, Some, None, refl, rules}
use Rattle.rv_memory.specs.PageIndex.{place_of}
use Rattle.sym_machine.proofs.Groups.{byte_set, byte_unset}
use Rattle.sym_machine.proofs.other_bytes.OtherBytes.clear.Goals as goal

pub returns-in-Some : goal.returns-in-Some
returns-in-Some c = λ q.
    let p = c.args.self.now in
    let found : place_of p.index (c.args.address / 8) ≡ Some c.in-Some.place = sym c.place.ensures ∙ c.in-Some.is in
    byte_set p _ c.args.address c.in-Some.place None found refl q

pub returns-in_default : goal.returns-in_default
returns-in_default c = λ q.
    let none : place_of c.args.self.now.index (c.args.address / 8) ≡ None = search rules in
    byte_unset c.args.self.now c.args.address none q
