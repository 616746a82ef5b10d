use Rattle.std.proofs.Common.{rules, ◌≡◌, ◌∙◌, ◌<◌, List, ap, length, subst, arith}
use Rattle.std.proofs.lemmas.Grind.{common_steps}
use Rattle.table_core.specs.DebugUnits.{Walked}
use Rattle.inline_frames.specs.FileChains.{LacksPlaces, unit_links}
use Rattle.inline_frames.proofs.FileUnits.{found_more, found_same, is_read, walked_at, walked_is, walked_same, walked_there}
use Rattle.inline_frames.proofs.walk.file_links.Goals as goal

pub unreachable-requires : goal.unreachable-requires
unreachable-requires c =
    let s = c.args.reader.now in
    let n = c.loop-number.number in
    let within = subst (λ (us : List Walked). n < length us) c.units-units.ensures c.loop-number-test.true in
    let there = walked_there s.units n within in
    is_read s.abbrevs s.addr s.units n (walked_at s.units n) c.in_ok-reading.reading c.requires there
    (c.in_ok-reading.ensures (walked_at s.units n) there) c.in_default.is

pub loop-number-preserved : goal.loop-number-preserved
loop-number-preserved c =
    let s = c.args.reader.now in
    let texts = c.args.str_offsets.now in
    let covering = c.args.covering.now in
    let n = c.loop-number.number in
    let within = subst (λ (us : List Walked). n < length us) c.units-units.ensures c.loop-number-test.true in
    let there = walked_there s.units n within in
    let items : c.deref.result.now ≡ c.in-Some.entries.items = search (rules, c.deref.ensures.value, c.in-Some.entries-is) in
    found_more s.abbrevs s.addr texts covering s.units n (walked_at s.units n) c.in_ok-reading.reading c.in-Some.entries
    c.loop-number.found.items c.in_ok-links.links.items c.or_before-found.result.items within
    (walked_is s.units n within) (c.in_ok-reading.ensures (walked_at s.units n) there) c.in-Some.is
    c.loop-number.invariant (c.in_ok-links.ensures ∙ ap (unit_links texts covering) items) c.or_before-found.ensures

pub loop-number-preserved-then-not-has_place : goal.loop-number-preserved-then-not-has_place
loop-number-preserved-then-not-has_place c =
    let s = c.args.reader.now in
    let n = c.loop-number.number in
    let within = subst (λ (us : List Walked). n < length us) c.units-units.ensures c.loop-number-test.true in
    let is = walked_same s.units c.units-units.result.now n c.index-units-number.result c.units-units.ensures within c.index-units-number.is
    in
    found_same s.abbrevs s.addr c.args.str_offsets.now c.args.covering.now s.units n (walked_at s.units n) c.loop-number.found.items within
    (walked_there s.units n within) (walked_is s.units n within) c.requires
    (subst (LacksPlaces c.args.covering.now) is (c.has_place.ensures c.if-not-has_place.true)) c.loop-number.invariant

pub returns : goal.returns
returns c = grind (arith, common_steps)
