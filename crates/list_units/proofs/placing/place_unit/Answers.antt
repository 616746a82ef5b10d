use Rattle.std.proofs.Common.{◌+◌, ℕ, List, refl, subst, map, take, drop, reverse}
use Rattle.std.specs.Prelude.{flat_map}
use Rattle.dw_unit.specs.CompUnits.{Unit}
use Rattle.dw_unit.specs.ListedEntries.{ListedEntry}
use Rattle.dw_unit.specs.ListedUnits.{plain, plain_unit}
use Rattle.dw_lists.specs.Lists.{ranges_kind, locations_kind}
use Rattle.dw_lists.specs.UnitLists.{ReadsLists}
use Rattle.list_units.proofs.PlacedEntries.{placed_none, placed_front, placed_item, placed_all, unit_placed}
use Rattle.list_units.proofs.placing.place_unit.Goals as goal

pub loop-entry-init : goal.loop-entry-init
loop-entry-init c = λ s i a b l numbered held.
    placed_none s (plain_unit c.args.entries.now) c.args.groups.now c.args.kept.now c.args.named.now.items c.nothing_known-state.result _
    numbered held
    c.nothing_known-state.ensures.ranges c.nothing_known-state.ensures.locations c.nothing_known-state.ensures.entries refl

pub loop-entry-preserved : goal.loop-entry-preserved
loop-entry-preserved c = λ s i a b l numbered held.
    let es : List ListedEntry = c.args.entries.now in
    let u : Unit = plain_unit es in
    let n : ℕ = c.loop-entry.entry-index in
    let x : ListedEntry = c.entry-item.result in
    let ranges : ReadsLists ranges_kind s.units.addr u c.unit_lists.result =
    subst (λ (l : List ℕ). ReadsLists ranges_kind l u c.unit_lists.result) a c.unit_lists.ensures in
    let locations : ReadsLists locations_kind s.units.addr u c.unit_lists-2.result =
    subst (λ (l : List ℕ). ReadsLists locations_kind l u c.unit_lists-2.result) a c.unit_lists-2.ensures in
    placed_item s u c.args.groups.now c.args.kept.now c.args.named.now.items c.place_entry.new.groups c.place_entry.new.kept
    c.place_entry.new.named.items
    c.place_entry.new.state c.in_ok-faults.faults
    es n x c.loop-entry-test.true c.entry-item.is (map plain (drop (n + 1) es))
    (c.in_ok-faults.ensures s u c.args.groups.now c.args.kept.now c.args.named.now.items (reverse (map plain (take n es)))
    (map plain (drop (n + 1) es))
    (flat_map (λ (e : ListedEntry). e.attrs) (take n es))
    (record { section = b; lists = ranges; locations = record { info = i; section = l; lists = locations } })
    (placed_front s u c.args.groups.now c.args.kept.now c.args.named.now.items c.loop-entry.groups c.loop-entry.kept
    c.loop-entry.named.items c.loop-entry.state c.loop-entry.faults es n x
    c.loop-entry-test.true c.entry-item.is (reverse (map plain (take n es))) (flat_map (λ (e : ListedEntry). e.attrs) (take n es))
    (c.loop-entry.invariant s i a b l numbered held)))

pub returns : goal.returns
returns c = λ s i a b l numbered held.
    let es : List ListedEntry = c.args.entries.now in
    let n : ℕ = c.loop-entry.entry-index in
    unit_placed s es c.args.groups.now c.loop-entry.groups c.args.kept.now c.loop-entry.kept c.args.named.now.items c.loop-entry.named.items
    c.loop-entry.state
    (reverse (map plain (take n es)))
    c.loop-entry.faults
    (placed_all s (plain_unit es) c.args.groups.now c.args.kept.now c.args.named.now.items c.loop-entry.groups c.loop-entry.kept
    c.loop-entry.named.items c.loop-entry.state c.loop-entry.faults es n
    (reverse (map plain (take n es))) c.loop-entry-test.false (c.loop-entry.invariant s i a b l numbered held))
