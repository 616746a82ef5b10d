use Rattle.std.proofs.Common.{◌≡◌, ◌∙◌, ◌+◌, ◌++◌, ◌∷◌, [], ℕ, List, ap, sym, subst, take, map}
use Rattle.std.specs.Prelude.{flat_map}
use Rattle.std.proofs.lemmas.List.{take_more, take_all}
use Rattle.dw_unit.specs.ListedEntries.{ListedEntry}
use Rattle.dw_unit.specs.ListedUnits.{plain, plain_unit}
use Rattle.list_units.specs.Gathering.{IsGathering}
use Rattle.dw_lists.specs.KnownLists.{range_list}
use Rattle.dw_lists.specs.Lists.{ranges_kind}
use Rattle.dw_lists.specs.UnitLists.{ReadsLists}
use Rattle.list_units.proofs.Gathered.{gathered_none, gathered_more, gathered_next, unit_gathered}
use Rattle.dw_lists.proofs.RangeLists.{none_known}
use Rattle.list_units.proofs.gathering.add_unit.Goals as goal

pub loop-entry-init : goal.loop-entry-init
loop-entry-init c = λ s b a n within.
    gathered_none s (plain_unit c.args.entries.now) c.args.groups.now c.args.ranged.now.items c.new-known.result n within
    (none_known (range_list s (plain_unit c.args.entries.now)) c.args.groups.now c.new-known.result c.new-known.ensures.empty)

pub loop-entry-preserved : goal.loop-entry-preserved
loop-entry-preserved c = λ s b a n within.
    let es : List ListedEntry = c.args.entries.now in
    let ts : List ListedEntry = take c.loop-entry.entry-index es in
    let x : ListedEntry = c.entry-item.result in
    let p = c.loop-entry.invariant s b a n within in
    let reads : ReadsLists ranges_kind s.units.addr (plain_unit es) c.unit_lists-unit.result =
    subst (λ (l : List ℕ). ReadsLists ranges_kind l (plain_unit es) c.unit_lists-unit.result) a c.unit_lists-unit.ensures in
    let q = c.in_ok-faults.ensures s (plain_unit es) (flat_map (λ (e : ListedEntry). e.attrs) ts) b reads p.added.grow.numbered p.known_are
    p.added.within p.noted in
    let more : take (c.loop-entry.entry-index + 1) es ≡ ts ++ x ∷ [] =
    take_more es c.loop-entry.entry-index x c.loop-entry-test.true ∙ ap (λ (x : ListedEntry). ts ++ x ∷ []) (sym c.entry-item.is) in
    gathered_next s (plain_unit es) c.args.groups.now c.add_entry.new.groups c.args.ranged.now.items c.add_entry.new.ranged.items
    c.add_entry.new.known
    c.in_ok-faults.faults ts (take (c.loop-entry.entry-index + 1) es) x more
    (gathered_more s (plain_unit es) c.args.groups.now c.loop-entry.groups c.add_entry.new.groups c.args.ranged.now.items
    c.loop-entry.ranged.items
    c.add_entry.new.ranged.items c.loop-entry.known c.add_entry.new.known (map plain ts) (plain x ∷ []) (flat_map (λ (e : ListedEntry).
    e.attrs) ts)
    (flat_map (λ (e : ListedEntry). e.attrs) ts ++ x.attrs) c.loop-entry.faults c.in_ok-faults.faults p q)

pub returns : goal.returns
returns c = λ s b a n within.
    let es : List ListedEntry = c.args.entries.now in
    unit_gathered s es c.args.groups.now c.loop-entry.groups c.args.ranged.now.items c.loop-entry.ranged.items c.loop-entry.known
    c.loop-entry.faults
    (subst (λ (l : List ListedEntry). IsGathering s (plain_unit es) c.args.groups.now c.args.ranged.now.items c.loop-entry.groups
    c.loop-entry.ranged.items
    c.loop-entry.known (map plain l) (flat_map (λ (e : ListedEntry). e.attrs) l) c.loop-entry.faults)
    (take_all c.loop-entry.entry-index es c.loop-entry-test.false) (c.loop-entry.invariant s b a n within))
