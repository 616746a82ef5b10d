use Rattle.std.proofs.Common.{◌∙◌, ◌==◌, List, Option, ap, sym}
use Rattle.std.specs.Prelude.{option_and_then}
use Rattle.std.specs.List.{find}
use Rattle.std.specs.Option.{option_copied}
use Rattle.dw_unit.specs.CompUnits as units
use Rattle.dw_unit.specs.declared.attribute.TheConstants.{DW_AT_entry_pc}
use Rattle.dw_unit.specs.declared.entry.Attr.{Attr}
use Rattle.dw_lists.proofs.unit_lists.entry_pc.Goals as goal

pub returns : goal.returns
returns c = λ u e base same.
    c.address_of.ensures u base
    ∙ sym (ap (λ (o : Option Attr). option_and_then (units.address_of c.args.addresses.now.section.now u) o)
    (ap (λ (l : List Attr). find (λ (a : Attr). a.name == DW_AT_entry_pc) l) same
    ∙ sym c.attr_named.ensures ∙ ap option_copied c.in_ok-entry.was))
