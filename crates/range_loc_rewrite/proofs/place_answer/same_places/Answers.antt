use Rattle.std.proofs.Common.{◌<◌, ◌≤◌, ◌∙◌, ap, arith, length, refl, sym}
use Rattle.dw_lists.specs.Locations.{place_said}
use Rattle.cover_lists.proofs.SameMapped.{mapped_more, mapped_end, mapped_at}
use Rattle.range_loc_rewrite.proofs.place_answer.same_places.Goals as goal

pub returns-then-not-same_place : goal.returns-then-not-same_place
returns-then-not-same_place c =
    let l : c.loop-i.i < length c.args.y.now = omega arith in (
      λ e. absurd (cc),
      λ e. let t = c.same_place.ensures.1 (ap place_said c.index-x-i.is
          ∙ mapped_at place_said c.args.x.now c.args.y.now c.loop-i.i c.index-x-i.result c.index-y-i.result c.loop-i-test.true l e
          ∙ sym (ap place_said c.index-y-i.is)) in cc,
    )

pub loop-i-preserved : goal.loop-i-preserved
loop-i-preserved c =
    let l : c.loop-i.i < length c.args.y.now = omega arith in
    mapped_more place_said c.args.x.now c.args.y.now c.loop-i.i c.index-x-i.result c.index-y-i.result c.loop-i-test.true l
    (sym (ap place_said c.index-x-i.is) ∙ c.same_place.ensures.0 c.if-not-same_place.false
    ∙ ap place_said c.index-y-i.is) c.loop-i.invariant

pub returns : goal.returns
returns c =
    let l : length c.args.y.now ≤ c.loop-i.i = omega arith in
    (λ _. mapped_end place_said c.args.x.now c.args.y.now c.loop-i.i c.loop-i-test.false l c.loop-i.invariant, λ _. refl)
