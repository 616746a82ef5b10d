use Rattle.std.proofs.Common.{rules, ◌≡◌, ◌∙◌, ◌<◌, ◌-◌, length, arith, true, nat_eq}
use Rattle.std.specs.Prelude.{slice_index_or}
use Rattle.frame_rewrite.proofs.CutMarks.{IsCount, not-at-cut, last-cut, next-cut}
use Rattle.frame_rewrite.proofs.marks.is_marked.Goals as goal
use Rattle.frame_rewrite.proofs.marks.is_marked.Goals.{then-above-eq0-via-then-above-eq0, then-above-eq0-via-else-above-eq0+then-cuts-above}

pub returns-then-above-eq0 : goal.returns-then-above-eq0
returns-then-above-eq0 c =
    let n = c.count_up_to-above.result in
    let counted : IsCount c.args.cuts.now c.args.fde.now.start n =
    record {
      bound = c.count_up_to-above.ensures.bound;
      below = c.count_up_to-above.ensures.below;
      above = c.count_up_to-above.ensures.above;
    } in
    elim c.then-above-eq0.branch [
      | then-above-eq0-via-then-above-eq0 w ↦
          not-at-cut c.args.cuts.now c.args.fde.now n c.requires counted (λ p e. let z : n ≡ 0 = search rules in omega arith)
      | then-above-eq0-via-else-above-eq0+then-cuts-above w ↦
          not-at-cut c.args.cuts.now c.args.fde.now n c.requires counted (λ p e. search rules)
    ]

pub returns-then-above-cuts : goal.returns-then-above-cuts
returns-then-above-cuts c =
    let n = c.count_up_to-above.result in
    let counted : IsCount c.args.cuts.now c.args.fde.now.start n =
    record {
      bound = c.count_up_to-above.ensures.bound;
      below = c.count_up_to-above.ensures.below;
      above = c.count_up_to-above.ensures.above;
    } in
    let some : 0 < n = search rules in
    let at : slice_index_or c.args.cuts.now (n - 1) 0 ≡ c.args.fde.now.start = search rules in
    let all : n ≡ length c.args.cuts.now = search rules in
    let equal : nat_eq n (length c.args.cuts.now) ≡ true = search rules in
    equal ∙ last-cut c.args.cuts.now c.args.fde.now n 0 (search rules) counted some at all

pub returns-else-above-cuts : goal.returns-else-above-cuts
returns-else-above-cuts c =
    let n = c.count_up_to-above.result in
    let counted : IsCount c.args.cuts.now c.args.fde.now.start n =
    record {
      bound = c.count_up_to-above.ensures.bound;
      below = c.count_up_to-above.ensures.below;
      above = c.count_up_to-above.ensures.above;
    } in
    let some : 0 < n = search rules in
    let at : slice_index_or c.args.cuts.now (n - 1) 0 ≡ c.args.fde.now.start = search rules in
    let within : n < length c.args.cuts.now = search rules in
    next-cut c.args.cuts.now c.args.fde.now n 0 c.requires (search rules) counted some at within
