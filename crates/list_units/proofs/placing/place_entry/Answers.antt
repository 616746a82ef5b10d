use Rattle.std.proofs.Common.{◌≡◌, ◌∙◌, ◌++◌, ◌∷◌, List, ap, sym, subst, reverse}
use Rattle.std.specs.Option.{option_or}
use Rattle.dw_unit.specs.declared.entry.Attr.{Attr}
use Rattle.dw_unit.specs.ListedEntries.{ListedEntry}
use Rattle.dw_unit.specs.ListedUnits.{plain}
use Rattle.list_units.specs.declared.open_entries.OpenEntry.{OpenEntry}
use Rattle.dw_lists.specs.KnownLists.{AreNoted}
use Rattle.dw_lists.specs.Lists.{ranges_kind}
use Rattle.list_units.specs.OpenEntries.{closed, nearest}
use Rattle.list_units.proofs.PlacedEntries.{placed_next}
use Rattle.list_units.proofs.placing.place_entry.Goals as goal

pub returns : goal.returns
returns c = λ s u first old before done rest attrs r x.
    let e : ListedEntry = c.args.entry.now in
    let os : List OpenEntry = reverse c.args.state.now.entries.items in
    let noted : c.deref.result.now ≡ e.attrs = c.deref.ensures.value ∙ ap (λ (e : ListedEntry). e.attrs) c.entry.view_is in
    let owned : c.deref-2.result.now ≡ e.attrs = c.deref-2.ensures.value ∙ ap (λ (e : ListedEntry). e.attrs) c.entry.view_is in
    let p = c.in_ok-ranges.ensures s u attrs r.section r.lists x.grow.numbered x.known_are x.ranges_noted in
    let q = c.in_ok-own.ensures s u (plain e) (sym owned) r.section r.lists p.0.numbered p.1 in
    let t = c.in_ok-locations.ensures.read s u attrs r.locations x.read.known_are x.locations_noted in
    placed_next s u first old before (plain e) done rest attrs c.args.groups.now c.note_lists.new.groups c.own_group.new.groups
    c.args.kept.now
    c.locate_entry.new.kept c.args.named.now.items c.locate_entry.new.named.items c.args.state.now _ c.args.others _ c.note_lists.new.known
    c.in_ok-own.own c.in_ok-nearest.nearest x
    (p.0, p.1, subst (λ (l : List Attr). AreNoted ranges_kind s.ranges s.units.addr u (attrs ++ l) c.in_ok-ranges.ranges) noted p.2) q
    (c.in_ok-nearest.ensures.nearest ∙ ap (λ (e : ListedEntry). option_or c.in_ok-own.own (nearest (closed e.depth os))) c.entry.view_is)
    (c.in_ok-nearest.ensures.opened
    ∙ ap (λ (e : ListedEntry). record { depth = e.depth; nearest = c.in_ok-nearest.nearest } ∷ closed e.depth os) c.entry.view_is) t
    (λ formed listed. c.in_ok-locations.ensures.listed s u attrs old.lists.items r.locations formed listed)
    (λ formed. c.in_ok-locations.ensures.names s u attrs r.locations formed x.read.known_are x.locations_noted)
