use Rattle.std.proofs.Common.{◌≡◌, ◌∙◌, ◌++◌, List, ap, sym, subst}
use Rattle.std.specs.Prelude.{option_and_then}
use Rattle.dw_unit.specs.declared.entry.Attr.{Attr}
use Rattle.dw_unit.specs.ListedEntries.{ListedEntry}
use Rattle.dw_unit.specs.ListedUnits.{plain}
use Rattle.list_units.specs.ReadLists.{offsets_in, AreListed, are_formed}
use Rattle.list_units.specs.Listing.{index_found, name_of}
use Rattle.list_units.specs.UnitLocations.{located_of, number_in}
use Rattle.list_units.proofs.ListingFacts.{named_one}
use Rattle.list_units.proofs.LocationFacts.{located_one}
use Rattle.list_units.proofs.unit_locations.locate.Goals as goal

pub returns-clause-read : goal.returns-clause-read
returns-clause-read c = λ s u r k.
    let e : ListedEntry = c.args.entry.now in
    let attrs : c.deref.result.now ≡ e.attrs = c.deref.ensures.value ∙ ap (λ (e : ListedEntry). e.attrs) c.entry.view_is in
    let p = c.in_ok-source.ensures.read s u (plain e) (sym attrs) r k in
    located_one s u (plain e) c.args.name c.args.nearest c.args.kept.now _ c.named_source.new.known c.in_ok-source.source p.0 p.1
    (c.in_ok-put_located.ensures ∙ ap (λ (e : ListedEntry). c.args.kept.now.located.items ++ located_of e.place c.args.name c.args.nearest
    c.in_ok-source.source) c.entry.view_is)

pub returns-clause-listed : goal.returns-clause-listed
returns-clause-listed c = λ s u before first r located formed x.
    let attrs : c.deref.result.now ≡ c.args.entry.now.attrs = c.deref.ensures.value ∙ ap (λ (e : ListedEntry). e.attrs) c.entry.view_is in
    subst (λ (l : List Attr). AreListed s u (offsets_in s u (before ++ l)) first c.named_source.new.lists.items c.named_source.new.known)
    attrs
    (c.in_ok-source.ensures.listed s u before first r located (ap are_formed attrs ∙ formed)
    (subst (λ (l : List Attr). AreListed s u (offsets_in s u (before ++ l)) first c.args.kept.now.lists.items c.args.known.now)
    (sym attrs) x))

pub returns-clause-names : goal.returns-clause-names
returns-clause-names c = λ s u r located formed k.
    let e : ListedEntry = c.args.entry.now in
    let attrs : c.deref.result.now ≡ e.attrs = c.deref.ensures.value ∙ ap (λ (e : ListedEntry). e.attrs) c.entry.view_is in
    let again : c.deref-2.result.now ≡ e.attrs = c.deref-2.ensures.value ∙ ap (λ (e : ListedEntry). e.attrs) c.entry.view_is in
    let p = c.in_ok-source.ensures.read s u (plain e) (sym attrs) r k in
    let index : c.index_of-index.result ≡ index_found c.args.name (plain e) = c.index_of-index.ensures (plain e) (sym again) in
    named_one s u (plain e) c.args.name c.args.kept.now.lists.items c.named_source.new.lists.items c.args.named.now.items
    c.put_name.new.named.items (option_and_then number_in c.in_ok-source.source) p.0.more
    (c.in_ok-source.ensures.number s u (plain e) (sym attrs) r located (ap are_formed attrs ∙ formed) k)
    (c.in_ok-put_name.ensures
    ∙ (λ i. c.args.named.now.items
    ++ name_of (c.entry.view_is i).place c.args.name (r.lists.own i) (index i) (c.number_of-number.ensures i)))
