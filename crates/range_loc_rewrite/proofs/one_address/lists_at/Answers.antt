use Rattle.std.proofs.Common.{◌∙◌, List, ap}
use Rattle.std.specs.Prelude.{flat_map}
use Rattle.cover_lists.specs.declared.cover_tree.Cover.{Cover}
use Rattle.cover_lists.specs.Groups.{group_holds}
use Rattle.range_loc_rewrite.specs.OneAddress.{place_if, said_if}
use Rattle.range_loc_rewrite.proofs.OneAddressFacts.{covers_are, places_are}
use Rattle.range_loc_rewrite.proofs.one_address.lists_at.Goals as goal

pub returns-clause-free : goal.returns-clause-free
returns-clause-free c = c.in_ok-entries.ensures.places.free

pub returns-clause-covers : goal.returns-clause-covers
returns-clause-covers c =
    let a = c.args.a in
    let e = c.in_ok-entries.entries.ranges in
    c.in_ok-covers.ensures ∙ ap (flat_map (place_if c.in_ok-found.found)) c.deref-2.ensures.value
    ∙ covers_are e.groups.covers.items c.in_ok-found.found a
    (λ g. c.in_ok-found.ensures g ∙ ap (λ (cs : List Cover). group_holds cs g a) c.deref.ensures.value) e.ranged.items
    ∙ c.in_ok-entries.ensures.ranges.held a

pub returns-clause-places : goal.returns-clause-places
returns-clause-places c =
    let a = c.args.a in
    let e = c.in_ok-entries.entries.places in
    c.in_ok-said.ensures ∙ (λ i. flat_map (said_if c.in_ok-held.held (c.deref-4.ensures.value i) a) (c.deref-5.ensures.value i))
    ∙ places_are e.groups.covers.items c.in_ok-held.held a
    (λ g. c.in_ok-held.ensures g ∙ ap (λ (cs : List Cover). group_holds cs g a) c.deref-3.ensures.value) e.kept.lists.items
    e.kept.located.items
    ∙ c.in_ok-entries.ensures.places.says a
