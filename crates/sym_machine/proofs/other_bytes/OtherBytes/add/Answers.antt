use Rattle.std.proofs.Common.{◌≡◌, ◌∙◌, ◌++◌, ◌∷◌, [], List, ℕ, zero, suc, ◌*◌, ◌+◌, ◌%◌, Option, Some, None, sym, ap, refl}
use Rattle.std.proofs.Common.{rules, length, get_or}
use Rattle.std.specs.Prelude.{IsOk, ◌==◌, if◌then◌else◌}
use Rattle.std.proofs.lemmas.List.{length-set}
use Rattle.rv_memory.specs.PageIndex.{place_of}
use Rattle.sym_machine.specs.declared.other_bytes.OtherByte.{OtherByte}
use Rattle.rv_memory.proofs.OneMoreNumber.{indexed_more, held_more, numbered_more}
use Rattle.sym_machine.proofs.Groups.{byte_in-same, byte_in-added, sized_more, marked_more}
use Rattle.sym_machine.proofs.other_bytes.OtherBytes.add.Goals as goal

pub returns-in_err-insert-clause-kept : goal.returns-in_err-insert-clause-kept
returns-in_err-insert-clause-kept c =
    byte_in-same c.insert.new.self c.reserve.new.self.items c.args.self.now c.reserve.ensures.items c.in_err-insert.ensures.kept

-- a group without bytes
abbrev nones : List (Option OtherByte)
nones = None ∷ None ∷ None ∷ None ∷ None ∷ None ∷ None ∷ None ∷ []

no_more : (k : ℕ) → get_or nones k None ≡ None
no_more zero = refl
no_more (suc zero) = refl
no_more (suc (suc zero)) = refl
no_more (suc (suc (suc zero))) = refl
no_more (suc (suc (suc (suc zero)))) = refl
no_more (suc (suc (suc (suc (suc zero))))) = refl
no_more (suc (suc (suc (suc (suc (suc zero)))))) = refl
no_more (suc (suc (suc (suc (suc (suc (suc zero))))))) = refl
no_more (suc (suc (suc (suc (suc (suc (suc (suc k)))))))) = refl

pub invariant_of-self-2 : goal.invariant_of-self-2
invariant_of-self-2 c =
    let p = c.args.self.now in
    let n = c.args.number in
    let xs = p.numbers.items in
    let ok : IsOk c.extend_from_slice.result = search rules in
    let slots : c.extend_from_slice.new.self.items ≡ p.slots.items ++ nones =
    (rw ok at c.extend_from_slice.ensures.items) ∙ ap (λ ys. ys ++ nones) c.reserve.ensures.items in
    let numbers : c.push.new.self.items ≡ xs ++ n ∷ [] =
    (rw c.unwrap.ensures at c.push.ensures.items) ∙ ap (λ ys. ys ++ n ∷ []) c.reserve-2.ensures.items in
    let size : c.len-place.result ≡ length xs = c.len-place.ensures ∙ c.reserve-2.ensures.len ∙ p.numbers.ok.0 in
    let is : (q : ℕ) → place_of c.insert.new.self q ≡ (if q == n then Some (length xs) else place_of p.index q) =
    λ q. c.in_ok-insert.ensures.added refl q ∙ ap (λ k. if q == n then Some k else place_of p.index q) size in
    let old = place_of p.index in
    let new = place_of c.insert.new.self in
    record {
      sized =
          ap length slots ∙ sized_more xs p.slots.items nones n p.sized refl
          ∙ ap (λ ys. length ys * 8) (sym numbers);
      indexed = rw numbers (indexed_more old new xs n p.indexed p.held p.numbered c.requires.new is);
      held = rw numbers (held_more old new xs n p.indexed p.held p.numbered c.requires.new is);
      numbered = rw numbers (numbered_more old new xs n p.indexed p.held p.numbered c.requires.new is);
      at_hand = length-set p.recent.items (n % 8192) (c.len-place.result + 1) ∙ p.at_hand;
      marked = rw (numbers, size) (marked_more xs p.recent.items n (n % 8192) p.at_hand p.marked refl);
    }

pub returns-clause-kept : goal.returns-clause-kept
returns-clause-kept c = λ q.
    let p = c.args.self.now in
    let n = c.args.number in
    let done : IsOk c.extend_from_slice.result = search rules in
    let slots : c.extend_from_slice.new.self.items ≡ p.slots.items ++ nones =
    (rw done at c.extend_from_slice.ensures.items) ∙ ap (λ ys. ys ++ nones) c.reserve.ensures.items in
    let size : c.len-place.result ≡ length p.numbers.items = c.len-place.ensures ∙ c.reserve-2.ensures.len ∙ p.numbers.ok.0 in
    let is : (m : ℕ) → place_of c.insert.new.self m ≡ (if m == n then Some (length p.numbers.items) else place_of p.index m) =
    λ m. c.in_ok-insert.ensures.added refl m ∙ ap (λ k. if m == n then Some k else place_of p.index m) size in
    byte_in-added p c.insert.new.self c.extend_from_slice.new.self.items n nones c.requires.new is slots no_more q
