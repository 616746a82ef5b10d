use Rattle.std.proofs.Common.{◌≡◌, ◌∙◌, ◌++◌, [], List, ap, refl, subst}
use Rattle.dw_unit.specs.declared.attribute.TheConstants.{DW_AT_location, DW_AT_frame_base}
use Rattle.dw_unit.specs.declared.entry.Attr.{Attr}
use Rattle.dw_unit.specs.CompUnits.{attr}
use Rattle.dw_unit.specs.ListedEntries.{ListedEntry}
use Rattle.dw_unit.specs.ListedUnits.{plain}
use Rattle.list_units.specs.declared.located_attr.Locations.{Locations}
use Rattle.dw_lists.specs.KnownLists.{AreNoted}
use Rattle.dw_lists.specs.Lists.{locations_kind}
use Rattle.list_units.specs.ReadLists.{offsets_in, AreListed}
use Rattle.list_units.specs.Listing.{attr_items}
use Rattle.list_units.specs.UnitLocations.{attr_said, entry_said}
use Rattle.list_units.proofs.ListingFacts.{names_joined}
use Rattle.list_units.proofs.LocationFacts.{located_none, located_more}
use Rattle.list_units.proofs.unit_locations.locate_entry.Goals as goal

pub returns-clause-read : goal.returns-clause-read
returns-clause-read c = λ s u before r k noted.
    let e : ListedEntry = c.args.entry.now in
    let old : Locations = c.args.kept.now in
    let mid : Locations = record { lists = c.note_lists.new.lists; located = old.located } in
    let p = c.in_ok-faults.ensures.read s u before r k noted in
    let q = c.in_ok-locate.ensures.read s u r p.0.known_are in
    let t = c.in_ok-locate-2.ensures.read s u r q.read.known_are in (
      located_more s u c.args.nearest old mid c.locate-2.new.kept c.note_lists.new.known c.locate-2.new.known (λ covers a. [])
          (λ covers a. entry_said s u covers c.args.nearest (plain e) a)
          (located_none s u c.args.nearest old mid c.note_lists.new.known p.0 refl)
          (located_more s u c.args.nearest mid c.locate.new.kept c.locate-2.new.kept c.locate.new.known c.locate-2.new.known
          (λ covers a. attr_said s u covers c.args.nearest (plain e) DW_AT_location a)
          (λ covers a. attr_said s u covers c.args.nearest (plain e) DW_AT_frame_base a) q t),
      subst (λ (l : List Attr). AreNoted locations_kind s.locations s.units.addr u (before ++ l) c.in_ok-faults.faults)
          (c.deref.ensures.value ∙ ap (λ (e : ListedEntry). e.attrs) c.entry.view_is) p.1,
    )

pub returns-clause-listed : goal.returns-clause-listed
returns-clause-listed c = λ s u before first r formed x.
    let attrs : c.deref.result.now ≡ c.args.entry.now.attrs = c.deref.ensures.value ∙ ap (λ (e : ListedEntry). e.attrs) c.entry.view_is in
    let noted : AreListed s u (offsets_in s u (before ++ c.args.entry.now.attrs)) first c.note_lists.new.lists.items c.note_lists.new.known
    =
    subst (λ (l : List Attr). AreListed s u (offsets_in s u (before ++ l)) first c.note_lists.new.lists.items c.note_lists.new.known) attrs
    (c.in_ok-faults.ensures.listed s u before first r x) in
    c.in_ok-locate-2.ensures.listed s u before first r refl formed (c.in_ok-locate.ensures.listed s u before first r refl formed noted)

pub returns-clause-names : goal.returns-clause-names
returns-clause-names c = λ s u before r formed k noted.
    let e : ListedEntry = c.args.entry.now in
    let p = c.in_ok-faults.ensures.read s u before r k noted in
    let q = c.in_ok-locate.ensures.read s u r p.0.known_are in
    names_joined c.args.kept.now.lists.items c.note_lists.new.lists.items c.locate.new.kept.lists.items c.locate-2.new.kept.lists.items
    c.args.named.now.items c.locate.new.named.items c.locate-2.new.named.items
    (attr_items s u e.place DW_AT_location (attr DW_AT_location (plain e)))
    (attr_items s u e.place DW_AT_frame_base (attr DW_AT_frame_base (plain e))) p.0.more
    (c.in_ok-locate.ensures.names s u r refl formed p.0.known_are) (c.in_ok-locate-2.ensures.names s u r refl formed q.read.known_are)
