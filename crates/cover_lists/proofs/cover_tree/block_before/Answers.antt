use Rattle.std.proofs.Common.{arith, ℕ, ◌+◌, ◌≡◌, ◌<◌, List, length, subst, take, drop}
use Rattle.std.proofs.lemmas.List.Elements.{All-cons, All-weaker}
use Rattle.cover_lists.specs.declared.cover_tree.Node.{Node}
use Rattle.cover_lists.specs.CoverTree.{covers_of, IsReachedBy, AreReached}
use Rattle.cover_lists.proofs.CoverTreeFacts.{block_at, all_parts, all_fewer}
use Rattle.cover_lists.proofs.cover_tree.block_before.Goals as goal

pub returns-clause-block : goal.returns-clause-block
returns-clause-block c =
    let after : List Node = c.args.after.now in
    let one : Node = c.in-Some.one.now in
    let other : Node = c.in-Some-get.other.now in
    let n : ℕ = one.more + 1 in
    let low : ℕ = c.lesser-2.result in
    let high : ℕ = c.greater-2.result in
    let less : c.saturating_add.result < length after = c.in-Some-get.ensures.lookup.3.0 in
    let at : c.saturating_add.result ≡ n = omega (arith, less) in
    let same : other.more + 1 ≡ n = omega (arith, c.if-one-other.false) in
    let front : AreReached low high (take n (covers_of after)) =
    All-weaker (IsReachedBy one.low one.high) (IsReachedBy low high) (λ x r. (omega (arith, r.0), omega (arith, r.1)))
    (take n (covers_of after)) (block_at after 0 one (omega (arith, less)) c.in-Some.ensures.item.1 c.requires) in
    let back : AreReached low high (take n (drop n (covers_of after))) =
    All-weaker (IsReachedBy other.low other.high) (IsReachedBy low high) (λ x r. (omega (arith, r.0), omega (arith, r.1)))
    (take n (drop n (covers_of after)))
    (subst (λ (k : ℕ). AreReached other.low other.high (take k (drop n (covers_of after)))) same
    (subst (λ (k : ℕ). AreReached other.low other.high (take (other.more + 1) (drop k (covers_of after)))) at
    (block_at after c.saturating_add.result other less c.in-Some-get.ensures.lookup.1 c.requires))) in
    All-cons (IsReachedBy low high) c.args.cover (take c.saturating_mul.result (covers_of after))
    (omega (arith), omega (arith))
    (all_fewer (IsReachedBy low high) c.saturating_mul.result (n + n) (covers_of after) (omega (arith))
    (all_parts (IsReachedBy low high) n n (covers_of after) front back))
