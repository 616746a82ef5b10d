use Rattle.std.proofs.Common.{◌≡◌, ◌∙◌, ◌++◌, Option, Some, None, ap, sym, subst}
use Rattle.std.specs.Prelude.{option_and_then}
use Rattle.std.specs.Option.{option_copied}
use Rattle.dw_unit.specs.declared.entry.Attr.{Attr}
use Rattle.dw_unit.specs.CompUnits.{attr}
use Rattle.cover_lists.specs.KeptLists.{IsNumberOf}
use Rattle.list_units.specs.Listing.{list_named}
use Rattle.list_units.specs.ReadLists.{offsets_in}
use Rattle.list_units.specs.UnitLocations.{number_in}
use Rattle.list_units.proofs.ListingFacts.{unnumbered}
use Rattle.list_units.proofs.LocationFacts.{read_none, attr_named, named_some, named_none}
use Rattle.list_units.proofs.ReadListFacts.{found_formed, named_among}
use Rattle.list_units.proofs.unit_locations.named_source.Goals as goal

pub returns-in_ok-source-in-Some-clause-read : goal.returns-in_ok-source-in-Some-clause-read
returns-in_ok-source-in-Some-clause-read c = λ s u e same r k.
    let p = c.in_ok-source-in-Some.ensures.read s u r k in
    let there : attr c.args.name e ≡ Some c.in-Some.attr.now =
    attr_named c.args.name e c.args.attrs.now (option_copied c.attr_named.result) same c.attr_named.ensures
    ∙ ap option_copied c.in-Some.is in
    (p.0, named_some s u c.source_of.new.lists.items (attr c.args.name e) c.in-Some.attr.now c.in_ok-source-in-Some.source there p.1)

pub returns-in-None-clause-read : goal.returns-in-None-clause-read
returns-in-None-clause-read c = λ s u e same r k.
    let none : attr c.args.name e ≡ None =
    attr_named c.args.name e c.args.attrs.now (option_copied c.attr_named.result) same c.attr_named.ensures
    ∙ ap option_copied c.in-None.is in
    (read_none s u c.args.lists.now.items c.args.known.now k, named_none s u c.args.lists.now.items (attr c.args.name e) none)

pub returns-in_ok-source-in-Some-clause-listed : goal.returns-in_ok-source-in-Some-clause-listed
returns-in_ok-source-in-Some-clause-listed c = λ s u before first r located formed x.
    c.in_ok-source-in-Some.ensures.listed s u (offsets_in s u (before ++ c.args.attrs.now)) first r
    (named_among s u before c.args.attrs.now c.args.name c.in-Some.attr.now located formed
    (sym c.attr_named.ensures ∙ ap option_copied c.in-Some.is)) x

pub returns-in_ok-source-in-Some-clause-number : goal.returns-in_ok-source-in-Some-clause-number
returns-in_ok-source-in-Some-clause-number c = λ s u e same r located formed k.
    let there : attr c.args.name e ≡ Some c.in-Some.attr.now =
    attr_named c.args.name e c.args.attrs.now (option_copied c.attr_named.result) same c.attr_named.ensures
    ∙ ap option_copied c.in-Some.is in
    let good = found_formed s u c.args.name c.args.attrs.now c.in-Some.attr.now located formed
    (sym c.attr_named.ensures ∙ ap option_copied c.in-Some.is) in
    subst (λ (o : Option Attr). IsNumberOf c.source_of.new.lists.items (option_and_then number_in c.in_ok-source-in-Some.source)
    (option_and_then (list_named s u) o)) (sym there) (c.in_ok-source-in-Some.ensures.number s u r good.0 good.1 k)

pub returns-in-None-clause-number : goal.returns-in-None-clause-number
returns-in-None-clause-number c = λ s u e same r located formed k.
    let none : attr c.args.name e ≡ None =
    attr_named c.args.name e c.args.attrs.now (option_copied c.attr_named.result) same c.attr_named.ensures
    ∙ ap option_copied c.in-None.is in
    unnumbered c.args.lists.now.items _ (ap (option_and_then (list_named s u)) none)
