use Rattle.std.proofs.Common.{◌≡◌, ◌<◌, ◌≤◌, ◌-◌, ◌+◌, ◌∙◌, ℕ, true, false, List, Contains, length, get_or, subst, sym, arith}
use Rattle.std.proofs.lemmas.List.{get_or_default}
use Rattle.rv_code.specs.layout.Lists.{ListsNumbers}
use Rattle.block_layout.proofs.Marking.{IsLeft, left_skip, left_more}
use Rattle.block_layout.proofs.parts.cold_part.Goals as goal

false_true : false ≡ true → ⊥
false_true is = absurd (cc)

pub loop-block-preserved-then-index : goal.loop-block-preserved-then-index
loop-block-preserved-then-index c =
    let from : c.args.start ≤ c.loop-block.block = omega arith in
    let at : c.args.start + (c.loop-block.block - c.args.start) ≡ c.loop-block.block = omega arith in
    let marked = c.in_ok-marks.ensures.marked (c.loop-block.block - c.args.start) (omega arith) in
    let inside : c.loop-block.block - c.args.start < length c.in_ok-marks.marks.items =
    omega (arith, c.in_ok-marks.ensures.length) in
    let read : c.index.result.now ≡ get_or c.in_ok-marks.marks.items (c.loop-block.block - c.args.start) false =
    c.index.ensures
    ∙ get_or_default c.in_ok-marks.marks.items (c.loop-block.block - c.args.start) c.index.result.now false inside in
    left_skip c.args.hot.now c.args.start c.loop-block.block c.loop-block.part.items c.loop-block.invariant
    (subst (Contains c.args.hot.now) at (marked.0 (sym read ∙ c.if-index.true)))

pub loop-block-preserved : goal.loop-block-preserved
loop-block-preserved c =
    let from : c.args.start ≤ c.loop-block.block = omega arith in
    let at : c.args.start + (c.loop-block.block - c.args.start) ≡ c.loop-block.block = omega arith in
    let marked = c.in_ok-marks.ensures.marked (c.loop-block.block - c.args.start) (omega arith) in
    let inside : c.loop-block.block - c.args.start < length c.in_ok-marks.marks.items =
    omega (arith, c.in_ok-marks.ensures.length) in
    let read : c.index.result.now ≡ get_or c.in_ok-marks.marks.items (c.loop-block.block - c.args.start) false =
    c.index.ensures
    ∙ get_or_default c.in_ok-marks.marks.items (c.loop-block.block - c.args.start) c.index.result.now false inside in
    subst (λ (part : List ℕ). ListsNumbers (IsLeft c.args.hot.now c.args.start (c.loop-block.block + 1)) part)
    (sym c.in_ok-push.ensures.items)
    (left_more c.args.hot.now c.args.start c.loop-block.block c.loop-block.part.items c.loop-block.invariant from
    (λ listed. false_true (sym c.if-index.false ∙ read ∙ marked.1 (subst (Contains c.args.hot.now) (sym at) listed))))

pub returns : goal.returns
returns c =
    let end : c.loop-block.block ≡ c.args.end = omega arith in
    subst (λ (n : ℕ). ListsNumbers (IsLeft c.args.hot.now c.args.start n) c.loop-block.part.items) end c.loop-block.invariant
