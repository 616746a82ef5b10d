use Rattle.std.proofs.Common.{◌≡◌, ◌∙◌, ◌++◌, ◌∷◌, [], ℕ, ◌*◌, Some, sym, ap, refl, rules, length, arith}
use Rattle.std.specs.Prelude.{IsOk, ◌==◌, if◌then◌else◌}
use Rattle.std.proofs.lemmas.Grind.{common_steps}
use Rattle.rv_memory.specs.PageIndex.{place_of}
use Rattle.rv_memory.proofs.OneMoreNumber.{indexed_more, held_more, numbered_more}
use Rattle.rv_memory.proofs.PageBytes.{on_err, byte_in-same, byte_in-added, sized_more}
use Rattle.rv_memory.proofs.pages.Pages.add.Goals as goal

pub returns-in_err-reserve-clause-kept : goal.returns-in_err-reserve-clause-kept
returns-in_err-reserve-clause-kept c = grind (arith, common_steps, on_err, byte_in-same)

pub returns-in_err-reserve-2-clause-kept : goal.returns-in_err-reserve-2-clause-kept
returns-in_err-reserve-2-clause-kept c = grind (arith, common_steps, on_err, byte_in-same)

pub returns-in_err-insert-clause-kept : goal.returns-in_err-insert-clause-kept
returns-in_err-insert-clause-kept c = grind (arith, common_steps, on_err, byte_in-same)

pub invariant_of-self-2 : goal.invariant_of-self-2
invariant_of-self-2 c =
    let p = c.args.self.now in
    let n = c.args.number in
    let page = c.args.page.now in
    let xs = p.numbers.items in
    let ok : IsOk c.extend_from_slice.result = search rules in
    let bytes : c.extend_from_slice.new.self.items ≡ p.bytes.items ++ page = (rw ok at c.extend_from_slice.ensures.items)
    ∙ ap (λ ys. ys ++ page) c.reserve.ensures.items in
    let numbers : c.push.new.self.items ≡ xs ++ n ∷ [] = (rw c.unwrap.ensures at c.push.ensures.items)
    ∙ ap (λ ys. ys ++ n ∷ []) c.reserve-2.ensures.items in
    let size : c.len-place.result ≡ length xs = c.len-place.ensures ∙ c.reserve-2.ensures.len ∙ p.numbers.ok.0 in
    let is : (q : ℕ) → place_of c.insert.new.self q ≡ (if q == n then Some (length xs) else place_of p.index q) =
    λ q. c.in_ok-insert.ensures.added refl q ∙ ap (λ k. if q == n then Some k else place_of p.index q) size in
    let old = place_of p.index in
    let new = place_of c.insert.new.self in
    record {
      sized = ap length bytes
          ∙ sized_more old new xs p.bytes.items page n p.held is p.sized c.requires.whole
          ∙ ap (λ ys. length ys * 4096) (sym numbers);
      indexed = rw numbers (indexed_more old new xs n p.indexed p.held p.numbered c.requires.new is);
      held = rw numbers (held_more old new xs n p.indexed p.held p.numbered c.requires.new is);
      numbered = rw numbers (numbered_more old new xs n p.indexed p.held p.numbered c.requires.new is);
    }

pub returns-clause-added : goal.returns-clause-added
returns-clause-added c = grind (arith, common_steps, byte_in-added)
