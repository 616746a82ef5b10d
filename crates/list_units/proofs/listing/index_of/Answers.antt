use Rattle.std.proofs.Common.{◌≡◌, ◌∙◌, None, Some, ap, sym}
use Rattle.std.specs.Prelude.{option_and_then}
use Rattle.std.specs.Option.{option_copied}
use Rattle.dw_unit.specs.CompUnits.{attr}
use Rattle.list_units.specs.Listing.{list_index}
use Rattle.list_units.proofs.LocationFacts.{attr_named}
use Rattle.list_units.proofs.listing.index_of.Goals as goal

pub returns : goal.returns
returns c = λ e same.
    let there : attr c.args.name e ≡ Some c.in_ok-attr.attr.now =
    attr_named c.args.name e c.args.attrs.now (option_copied c.attr_named.result) same c.attr_named.ensures
    ∙ ap option_copied c.in_ok-attr.was in
    c.list_index.ensures ∙ sym (ap (option_and_then list_index) there)

pub returns-in_err-attr : goal.returns-in_err-attr
returns-in_err-attr c = λ e same.
    let none : attr c.args.name e ≡ None =
    attr_named c.args.name e c.args.attrs.now (option_copied c.attr_named.result) same c.attr_named.ensures
    ∙ ap option_copied c.in_err-attr.was in
    rw c.from_residual.ensures (sym (ap (option_and_then list_index) none))
