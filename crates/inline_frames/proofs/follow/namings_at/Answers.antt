use Rattle.std.proofs.Common.{rules, ◌≡◌, ◌∙◌, ◌<◌, List, None, ap, length, nat_cmp, subst}
use Rattle.std.specs.Prelude.{if◌then◌else◌}
use Rattle.std.specs.BTreeMap.{get}
use Rattle.std.specs.BTreeSet.{contains}
use Rattle.std.specs.Option.{option_or}
use Rattle.table_core.specs.DebugUnits.{Walked}
use Rattle.dw_unit.specs.ListedEntries.{ListedEntry}
use Rattle.inline_frames.specs.FileChains.{LacksPlaces}
use Rattle.inline_frames.specs.Following.{unit_naming}
use Rattle.inline_frames.proofs.FileUnits.{is_read, named_more, named_same, walked_at, walked_is, walked_same, walked_there}
use Rattle.inline_frames.proofs.follow.namings_at.Goals as goal

pub unreachable-requires : goal.unreachable-requires
unreachable-requires c =
    let s = c.args.reader.now in
    let n = c.loop-number.number in
    let within = subst (λ (us : List Walked). n < length us) c.units-units.ensures c.loop-number-test.true in
    let there = walked_there s.units n within in
    is_read s.abbrevs s.addr s.units n (walked_at s.units n) c.in_ok-reading.reading c.requires there
    (c.in_ok-reading.ensures (walked_at s.units n) there) c.in_default.is

pub loop-number-preserved : goal.loop-number-preserved
loop-number-preserved c = λ q.
    let s = c.args.reader.now in
    let texts = c.args.str_offsets.now in
    let n = c.loop-number.number in
    let old = get nat_cmp c.loop-number.found q in
    let within = subst (λ (us : List Walked). n < length us) c.units-units.ensures c.loop-number-test.true in
    let there = walked_there s.units n within in
    let items : c.deref.result.now ≡ c.in-Some.entries.items = search (rules, c.deref.ensures.value, c.in-Some.entries-is) in
    named_more s.abbrevs s.addr texts (contains nat_cmp c.args.wanted.now q) q s.units n (walked_at s.units n) c.in_ok-reading.reading
    c.in-Some.entries old (get nat_cmp c.add_namings.new.found q) within (walked_is s.units n within)
    (c.in_ok-reading.ensures (walked_at s.units n) there) c.in-Some.is (c.loop-number.invariant q)
    (c.in_ok-add_namings.ensures q ∙ ap (λ (es : List ListedEntry).
    option_or old (if contains nat_cmp c.args.wanted.now q then unit_naming texts es q else None)) items)

pub loop-number-preserved-then-not-has_place : goal.loop-number-preserved-then-not-has_place
loop-number-preserved-then-not-has_place c = λ q.
    let s = c.args.reader.now in
    let n = c.loop-number.number in
    let within = subst (λ (us : List Walked). n < length us) c.units-units.ensures c.loop-number-test.true in
    let is = walked_same s.units c.units-units.result.now n c.index-units-number.result c.units-units.ensures within c.index-units-number.is
    in
    named_same s.abbrevs s.addr c.args.str_offsets.now c.args.wanted.now q s.units n (walked_at s.units n)
    (get nat_cmp c.loop-number.found q) within (walked_there s.units n within) (walked_is s.units n within) c.requires
    (subst (LacksPlaces c.args.wanted.now) is (c.has_place.ensures c.if-not-has_place.true)) (c.loop-number.invariant q)
