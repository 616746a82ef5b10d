use Rattle.std.proofs.Common.{arith}
use Rattle.code_starts.proofs.AddressSets.{in-listed, in-marked}
use Rattle.code_starts.proofs.address_set.put.Goals as goal

pub returns-in-Some : goal.returns-in-Some
returns-in-Some c =
    let ok = c.args.marks.now.ok.0 in
    let place = c.in-Some.ensures.is in
    in-marked c.args.low c.in-Some.place c.args.marks.now.items c.args.others.now.items c.args.address place.0
    (let long = c.len.ensures in let within = place.1 in omega arith)

pub returns-in_ok-push-in-None : goal.returns-in_ok-push-in-None
returns-in_ok-push-in-None c =
    let ok = c.args.marks.now.ok.0 in
    in-listed c.args.low c.args.marks.now.items c.args.others.now.items c.push.new.self.items c.args.address
    (λ low. let none = c.in-None.ensures.none low in let long = c.len.ensures in omega arith) c.in_ok-push-in-None.ensures.items
