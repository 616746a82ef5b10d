use Rattle.std.proofs.Common.{◌≡◌, ◌∙◌, ◌≤◌, ◌+◌, ℕ, sym, ap, arith, rules, length}
use Rattle.std.specs.Prelude.{IsOk}
use Rattle.std.specs.List.{insert}
use Rattle.std.proofs.lemmas.List.Edits.{length-insert}
use Rattle.std.proofs.lemmas.Grind.{common_steps}
use Rattle.rb_lanes.specs.Ranks.{rank}
use Rattle.rv_memory.proofs.Ranks.{Ascends, rank_most, beside_absent, beside-insert, ascends-insert}
use Rattle.rv_memory.proofs.page_group.PageGroup.insert.Goals as goal

pub invariant_of-self-2 : goal.invariant_of-self-2
invariant_of-self-2 c =
    let xs = c.args.self.now.numbers.items in
    let ps = c.args.self.now.places.items in
    let n = c.args.number in
    let is : c.rank-above.result ≡ rank xs n = c.rank-above.ensures
    ∙ ap (λ ys. rank ys n) (c.deref.ensures.value ∙ c.reserve.ensures.items) in
    let numbers : c.insert.new.self.items ≡ insert xs (rank xs n) n = (rw c.unwrap.ensures at c.insert.ensures.items)
    ∙ ap (λ ys. insert ys c.rank-above.result n) c.reserve.ensures.items ∙ ap (λ i. insert xs i n) is in
    let ok : IsOk c.insert-2.result = search rules in
    let places : c.insert-2.new.self.items ≡ insert ps (rank xs n) c.args.place = (rw ok at c.insert-2.ensures.items)
    ∙ ap (λ ys. insert ys c.rank-above.result c.args.place) c.reserve-2.ensures.items ∙ ap (λ i. insert ps i c.args.place) is in
    let most : rank xs n ≤ length xs = rank_most xs n in
    let paired : length ps ≡ length xs = c.args.self.now.paired in
    let longer : length (insert xs (rank xs n) n) ≡ length xs + 1 = length-insert xs (rank xs n) n most in
    let longer_too : length (insert ps (rank xs n) c.args.place) ≡ length ps + 1 =
    length-insert ps (rank xs n) c.args.place (omega arith) in
    let up : Ascends xs = record { at = c.args.self.now.ascending } in
    record {
      paired = ap length places ∙ longer_too ∙ ap (λ (k : ℕ). k + 1) paired ∙ sym longer ∙ sym (ap length numbers);
      ascending = rw numbers (ascends-insert xs n up (beside_absent xs ps paired n c.requires));
    }

pub returns-clause-added : goal.returns-clause-added
returns-clause-added c = grind (arith, common_steps, beside-insert, rank_most)
