use Rattle.std.proofs.Common.{◌∙◌, ap, sym}
use Rattle.std.specs.Prelude.{is_some}
use Rattle.list_units.proofs.LocationFacts.{read_none, read_list}
use Rattle.list_units.proofs.ReadListFacts.{listed_again, listed_new}
use Rattle.list_units.proofs.unit_locations.number_at.Goals as goal

pub returns-in-Some-clause-read : goal.returns-in-Some-clause-read
returns-in-Some-clause-read c = λ s u r k.
    (read_none s u c.args.lists.now.items c.args.known.now k, k c.args.at c.in-Some.number (sym c.known_number.ensures ∙ c.in-Some.is))

pub returns-in-Some-clause-listed : goal.returns-in-Some-clause-listed
returns-in-Some-clause-listed c = λ s u offsets first r x.
    listed_again s u offsets first c.args.lists.now.items c.args.known.now c.args.at
    (ap is_some (sym c.known_number.ensures ∙ c.in-Some.is)) x

pub returns-clause-read : goal.returns-clause-read
returns-clause-read c = λ s u r k. let p = c.in_ok-number.ensures.read s u r in (
  read_list s u c.args.lists.now.items c.read_number.new.lists.items c.args.known.now c.insert.new.self c.args.at c.in_ok-number.number k
      p.0 p.1
      (λ q. c.in_ok-insert.ensures.updates.0 q),
  p.1,
)

pub returns-clause-listed : goal.returns-clause-listed
returns-clause-listed c = λ s u offsets first r x.
    listed_new s u offsets first c.args.lists.now.items c.read_number.new.lists.items c.args.known.now c.insert.new.self c.args.at
    c.in_ok-number.number (sym c.known_number.ensures ∙ c.in_default.is) (λ q. c.in_ok-insert.ensures.updates.0 q)
    (c.in_ok-number.ensures.says s u r) x
