use Rattle.std.proofs.Common.{sym, subst, ℕ, List}
use Rattle.std.specs.Prelude.{AllPairs, Contains}
use Rattle.std.proofs.lemmas.List.Filters.{dedup_is}
use Rattle.std.proofs.lemmas.List.Kept.{Contains-dedup, Contains-from_dedup, IsStrictlySortedBy-dedup}
use Rattle.std.proofs.lemmas.List.Sorted.{Contains-permutation, IsPermutation-sym}
use Rattle.rv_code.specs.layout.Lists.{IsPairBefore}
use Rattle.jump_tables.proofs.PairOrder.{pair_eq, pair_equiv, pair_ties, pair_total, pairs_ordered, same_pair}
use Rattle.jump_tables.proofs.table_pairs.make_ordered.Goals as goal

pub returns-clause-ordered : goal.returns-clause-ordered
returns-clause-ordered c =
    let is = dedup_is pair_eq _ _ c.dedup.ensures.filtered in
    subst (AllPairs IsPairBefore) (sym is) (pairs_ordered _ (IsStrictlySortedBy-dedup pair_total pair_ties _
    c.sort_unstable.ensures.sorted))

pub returns-clause-same : goal.returns-clause-same
returns-clause-same c =
    let is = dedup_is pair_eq _ _ c.dedup.ensures.filtered in
    let moved = c.sort_unstable.ensures.permutation in
    λ e. (
      (λ h. Contains-permutation _ _ e (IsPermutation-sym _ _ moved)
          (Contains-from_dedup pair_eq _ e (subst (λ (xs : List (ℕ × ℕ)). Contains xs e) is h))),
      (λ h. subst (λ (xs : List (ℕ × ℕ)). Contains xs e) (sym is)
          (Contains-dedup pair_equiv same_pair _ e (Contains-permutation _ _ e moved h))),
    )
