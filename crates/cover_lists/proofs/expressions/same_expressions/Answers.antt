use Rattle.std.proofs.Common.{ℕ, ◌<◌, ◌≤◌, ◌∙◌, List, ap, arith, length, refl, sym}
use Rattle.std.specs.Global.{Vec}
use Rattle.cover_lists.proofs.SameMapped.{mapped_more, mapped_end, mapped_at}
use Rattle.cover_lists.proofs.expressions.same_expressions.Goals as goal

abbrev items : Vec ℕ → List ℕ
items v = v.items

pub returns-then-not-same_bytes : goal.returns-then-not-same_bytes
returns-then-not-same_bytes c =
    let l : c.loop-i.i < length c.args.y.now = omega arith in (
      λ e. absurd (cc),
      λ e. let t = c.same_bytes.ensures.1 (c.as_slice.ensures.value ∙ ap items c.index-x-i.is
          ∙ mapped_at items c.args.x.now c.args.y.now c.loop-i.i c.index-x-i.result c.index-y-i.result c.loop-i-test.true l e
          ∙ sym (ap items c.index-y-i.is) ∙ sym c.as_slice-in-loop-i.ensures.value) in cc,
    )

pub loop-i-preserved : goal.loop-i-preserved
loop-i-preserved c =
    let l : c.loop-i.i < length c.args.y.now = omega arith in
    mapped_more items c.args.x.now c.args.y.now c.loop-i.i c.index-x-i.result c.index-y-i.result c.loop-i-test.true l
    (sym (ap items c.index-x-i.is) ∙ sym c.as_slice.ensures.value ∙ c.same_bytes.ensures.0 c.if-not-same_bytes.false
    ∙ c.as_slice-in-loop-i.ensures.value ∙ ap items c.index-y-i.is) c.loop-i.invariant

pub returns : goal.returns
returns c =
    let l : length c.args.y.now ≤ c.loop-i.i = omega arith in
    (λ _. mapped_end items c.args.x.now c.args.y.now c.loop-i.i c.loop-i-test.false l c.loop-i.invariant, λ _. refl)
