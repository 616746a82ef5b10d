use Rattle.std.proofs.Common.{◌<◌, ◌∙◌, sym, arith, false, length}
use Rattle.std.proofs.lemmas.List.{get_or_default}
use Rattle.code_starts.proofs.AddressSets.{in-list, in-mark}
use Rattle.code_starts.proofs.address_set.AddressSet.has.Goals as goal

pub returns-in-Some : goal.returns-in-Some
returns-in-Some c =
    let set = c.args.self.now in
    let ok = set.marks.ok.0 in
    let place = c.in-Some.ensures.is in
    let within : c.in-Some.place < length set.marks.items = let long = c.len.ensures in let below = place.1 in omega arith in
    in-mark set.low c.in-Some.place set.marks.items set.others.items c.args.address c.index.result.now place.0 within
    (sym (c.index.ensures ∙ get_or_default set.marks.items c.in-Some.place c.index.result.now false within))

pub returns-in-None : goal.returns-in-None
returns-in-None c =
    let set = c.args.self.now in
    let ok = set.marks.ok.0 in
    in-list set.low set.marks.items set.others.items c.args.address c.is_listed.result
    (λ low. let none = c.in-None.ensures.none low in let long = c.len.ensures in omega arith)
    (rw c.deref.ensures.value at c.is_listed.ensures)
