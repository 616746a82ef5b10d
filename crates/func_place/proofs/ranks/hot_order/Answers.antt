use Rattle.std.proofs.Common.{ℕ, ◌<◌, ◌≡◌, ◌+◌, length, get_or, arith, rules, ◌∙◌, sym, ap, subst, List}
use Rattle.std.specs.Prelude.{filter, nat_lt, slice_index}
use Rattle.std.specs.List.{range_with_len}
use Rattle.std.specs.List.Sorted.{IsPermutation}
use Rattle.std.proofs.lemmas.List.Elements.{All-push}
use Rattle.std.proofs.lemmas.List.Sorted.{All-permutation}
use Rattle.std.proofs.lemmas.Fn.{always_returns_same}
use Rattle.func_place.proofs.Ranking.{passes_more, fails_more, above_zero, no_more, is_lt-pair}
use Rattle.func_place.proofs.ranks.hot_order.Goals as goal
use Rattle.func_place.proofs.ranks.hot_order.Goals.{then-heat-gt0+in_ok-push, else-heat-gt0}

pub loop-unit-preserved : goal.loop-unit-preserved
loop-unit-preserved c = elim c.if-heat-gt0.branch [
  | then-heat-gt0+in_ok-push w ↦ rw w.taken-is (
    passes_more (λ u. nat_lt 0 (slice_index c.args.heats.now u)) c.loop-unit.unit _ _
        (above_zero _ w.if-heat-gt0.true) c.loop-unit.invariant.0 w.in_ok-push.ensures.items,
    rw w.in_ok-push.ensures.items (All-push
        (λ u. u < length c.args.heats.now) c.loop-unit.taken.items c.loop-unit.unit c.loop-unit.invariant.1 (omega arith)),
    rw w.in_ok-push.ensures.items (All-push (λ u. 0 < slice_index c.args.heats.now u) c.loop-unit.taken.items c.loop-unit.unit
        c.loop-unit.invariant.2 w.if-heat-gt0.true),
  )
  | else-heat-gt0 w ↦ rw w.taken-is (
    fails_more (λ u. nat_lt 0 (slice_index c.args.heats.now u)) c.loop-unit.unit _
        (no_more _ w.if-heat-gt0.false) c.loop-unit.invariant.0,
    c.loop-unit.invariant.1,
    c.loop-unit.invariant.2,
  )
]

pub returns-clause-inside : goal.returns-clause-inside
returns-clause-inside c =
    All-permutation (λ u. u < length c.args.heats.now) _ _ c.in_ok-sort_by_key.ensures.permutation c.loop-unit.invariant.1

pub returns-clause-hot : goal.returns-clause-hot
returns-clause-hot c =
    All-permutation (λ u. 0 < slice_index c.args.heats.now u) _ _ c.in_ok-sort_by_key.ensures.permutation c.loop-unit.invariant.2

pub returns-clause-ordered : goal.returns-clause-ordered
returns-clause-ordered c =
    let heats = c.args.heats.now in
    let sorted = c.sort_by_key.new.self.items in
    let end : c.loop-unit.unit ≡ length heats = omega arith in
    let all = c.loop-unit.invariant.0 ∙ ap (λ (n : ℕ). filter (λ u. nat_lt 0 (slice_index heats u)) (range_with_len 0 n)) end in
    record {
      each = subst (λ (xs : List ℕ). IsPermutation xs sorted) all c.in_ok-sort_by_key.ensures.permutation;
      ordered = λ k d a b. sym (is_lt-pair (slice_index heats (get_or sorted k d)) (slice_index heats (get_or sorted (k + 1) d))
          (get_or sorted (k + 1) d) (get_or sorted k d))
          ∙ c.in_ok-sort_by_key.ensures.sorted (λ u. (record { 0 = slice_index heats u }, u))
          (always_returns_same _ _ _ (λ a r g k. search rules)) k d a b;
    }
