use Rattle.std.proofs.Common.{◌≡◌, ◌+◌, ◌∙◌, ap, arith, rules, Some, None, ℕ, Option}
use Rattle.std.specs.Prelude.{◌==◌, ◌&&◌, unwrap_or}
use Rattle.std.specs.Map.{lookup, set_value}
use Rattle.indexmap.specs.IndexMap.{insert_entry}
use Rattle.edge_profile.specs.PairCounts.{count_among}
use Rattle.edge_record.proofs.Counting.{flat, known-le, count_inserted, set_raised}
use Rattle.edge_record.proofs.edge_counts.EdgeCounts.add.Goals as goal

pub overflow_add-count : goal.overflow_add-count
overflow_add-count c =
    let there : Some c.in-Some.count.now ≡ lookup (λ k. c.args.from == k.0 && c.args.to == k.1) c.args.self.now.counts.entries =
    search rules in
    let is = ap (λ (o : Option ℕ). unwrap_or o 0) there in
    let most = known-le c.args.from c.args.to c.args.self.now.counts.entries in
    omega (arith, most, is, c.requires)

pub returns-in-Some : goal.returns-in-Some
returns-in-Some c = λ x y.
    let n = c.in-Some.count.now in
    let there : Some n ≡ lookup (λ k. c.args.from == k.0 && c.args.to == k.1) c.args.self.now.counts.entries = search rules in
    let set : (c.get_mut.follows.lender (n + 1)).entries
    ≡ set_value (λ k. c.args.from == k.0 && c.args.to == k.1) c.args.self.now.counts.entries (n + 1) = search rules in
    ap (λ es. count_among x y (flat es)) (set ∙ set_raised c.args.from c.args.to n (n + 1) c.args.self.now.counts.entries there)
    ∙ count_inserted c.args.from c.args.to n c.args.self.now.counts.entries (ap (λ (o : Option ℕ). unwrap_or o 0) there) x y

pub returns-in_ok-insert-in-None : goal.returns-in_ok-insert-in-None
returns-in_ok-insert-in-None c = λ x y.
    let none : None ≡ lookup (λ k. c.args.from == k.0 && c.args.to == k.1) c.args.self.now.counts.entries = search rules in
    let same : c.get_mut.follows.lender-at-none.entries ≡ c.args.self.now.counts.entries = search rules in
    ap (λ es. count_among x y (flat es)) (c.in_ok-insert-in-None.ensures.entries
    ∙ ap (λ es. insert_entry (λ k q. k.0 == q.0 && k.1 == q.1) es (c.args.from, c.args.to) 1) same)
    ∙ count_inserted c.args.from c.args.to 0 c.args.self.now.counts.entries (ap (λ (o : Option ℕ). unwrap_or o 0) none) x y
