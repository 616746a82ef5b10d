use Rattle.std.proofs.Common.{◌≡◌, ◌∙◌, ◌++◌, ℕ, List, ap, sym, subst}
use Rattle.dw_unit.specs.declared.entry.Attr.{Attr}
use Rattle.dw_unit.specs.ListedEntries.{ListedEntry}
use Rattle.dw_unit.specs.ListedUnits.{plain}
use Rattle.list_units.specs.Gathering.{ranges_index}
use Rattle.cover_lists.specs.Groups.{entry_of}
use Rattle.dw_lists.specs.KnownLists.{IsNoted}
use Rattle.dw_lists.specs.Ranges.{named_entry}
use Rattle.cover_lists.proofs.GroupFacts.{grow_more}
use Rattle.list_units.proofs.Gathered.{entry_added}
use Rattle.list_units.proofs.gathering.add_entry.Goals as goal

pub returns : goal.returns
returns c = λ s u before b r n k within noted.
    let e : ListedEntry = c.args.entry.now in
    let p = c.in_ok-faults.ensures s u before b r n k noted in
    let attrs : c.deref-2.result.now ≡ e.attrs = c.deref-2.ensures.value ∙ ap (λ (e : ListedEntry). e.attrs) c.entry.view_is in
    let index : c.ranges_index-index.result ≡ ranges_index e.attrs =
    c.ranges_index-index.ensures ∙ ap ranges_index (c.deref-3.ensures.value ∙ ap (λ (e : ListedEntry). e.attrs) c.entry.view_is) in
    let named : c.named_entry-named.result ≡ named_entry s.units.addr u (plain e) =
    c.named_entry-named.ensures u (plain e) r.addresses
    (sym (c.deref-4.ensures.value ∙ ap (λ (e : ListedEntry). e.attrs) c.entry.view_is))
    ∙ ap (λ (addr : List ℕ). named_entry addr u (plain e)) r.section in
    let q = c.in_ok-group.ensures s u (plain e) (sym attrs) b r p.0.numbered p.1 in
    record {
      added = entry_added s u (plain e) c.own_group.new.groups c.args.groups.now c.args.ranged.now.items c.put_ranged.new.ranged.items
          c.in_ok-group.group
          (grow_more c.args.groups.now c.note_lists.new.groups c.own_group.new.groups p.0 q.0) within q.2
          (c.in_ok-put_ranged.ensures
          ∙ (λ i. c.args.ranged.now.items ++ entry_of (c.entry.view_is i).place (r.own i) (index i) (named i)
          (c.first_in-first.ensures i) c.in_ok-group.group));
      known_are = q.1;
      noted = subst (λ (l : List Attr). IsNoted s u (before ++ l) c.in_ok-faults.faults)
          (c.deref.ensures.value ∙ ap (λ (e : ListedEntry). e.attrs) c.entry.view_is) p.2;
    }
