-- Code can be placed if it is near itself in any layout, and none of its functions moves as one piece.
use Rattle.std.proofs.Common.{◌≡◌, ◌≤◌, ◌<◌, ◌+◌, ◌-◌, ℕ, Bool, true, false, IsTrue, List, [], ◌∷◌, All, arith, ap, subst}
use Rattle.std.proofs.Common.{length, take, get_or, ◌&&◌, if◌then◌else◌, ◌==◌}
use Rattle.std.specs.Prelude.{slice_index}
use Rattle.std.specs.List.{sum_by}
use Rattle.std.proofs.lemmas.List.{take_all}
use Rattle.std.proofs.lemmas.List.Sums.{sum_by-cons, sum_by_more}
use Rattle.rb_bytes.specs.FirstFault.{IsFree}
use Rattle.rb_bytes.specs.declared.fault.FaultKind.TheVariants.{UnitTooLong, KeptBranch}
use Rattle.rv_code.specs.declared.placed.Block.{Block}
use Rattle.rv_code.specs.declared.placed.Func.{Func}
use Rattle.rv_code.specs.layout.WorstSizes.{near_limit, worst_size_of_block}
use Rattle.func_place.specs.Faults.{HasPlacementFault, IsKeptBranch}
use Rattle.func_place.specs.Units.{unit_size}

-- The rest of the limit after the blocks before an index: after one more block, and after all of them.
module _ (w : Block → ℕ) (blocks : List Block) (i room : ℕ) (left : room + sum_by w (take i blocks) ≡ near_limit) where
  pub left_after : (size : ℕ) (d : Block) → i < length blocks → size ≡ w (get_or blocks i d) → size ≤ room →
      room - size + sum_by w (take (i + 1) blocks) ≡ near_limit
  left_after size d within is fits = let more = sum_by_more w blocks i d within in omega (arith, more, is, fits, left)

  pub all_fit : length blocks ≤ i → sum_by w blocks ≤ near_limit
  all_fit past = let whole = ap (λ (bs : List Block). sum_by w bs) (take_all i blocks past) in omega (arith, whole, left)

-- the sum over some items is at most the sum over all
sum_of_some : {X : Type 0} (t : X → Bool) (w : X → ℕ) (xs : List X) →
    sum_by (λ x. if t x then w x else 0) xs ≤ sum_by w xs
sum_of_some t w [] = omega arith
sum_of_some t w (x ∷ xs) =
    let rest = sum_of_some t w xs in
    let here = at (t x) in
    let some = sum_by-cons (λ y. if t y then w y else 0) x xs in
    let all = sum_by-cons w x xs in
    omega arith
  where
    at : (b : Bool) → (if b then w x else 0) ≤ w x
    at true = omega arith
    at false = omega arith

stays : (whole a b : Bool) → whole ≡ false → IsTrue ((whole && a) && b) → ⊥
stays true a b e t = absurd (cc)
stays false a b e t = absurd (cc)

module _ (funcs : List Func) (blocks : List Block) (none_whole : All (λ f. f.whole ≡ false) funcs)
    (near : sum_by (worst_size_of_block funcs) blocks ≤ near_limit) where
  unit_within : (units : List ℕ) (u : ℕ) → unit_size funcs units blocks u ≤ near_limit
  unit_within units u =
      let some = sum_of_some (λ (b : Block). slice_index units b.func == u) (worst_size_of_block funcs) blocks in
      omega (arith, some, near)

  none_leaves : (place : ℕ) → IsKeptBranch funcs place → ⊥
  none_leaves place (f, func, within, is, (i, p, inside, is_inst, (at, out))) =
      let whole : func.whole ≡ false = subst (λ (x : Func). x.whole ≡ false) is (none_whole f func within) in
      stays func.whole _ _ whole out

  pub can_be_placed : IsFree (HasPlacementFault funcs blocks)
  can_be_placed UnitTooLong place has =
      let within = unit_within has.units has.unit in let over = has.long in absurd (omega (arith, within, over))
  can_be_placed KeptBranch place has = none_leaves place has
  can_be_placed _ place has = absurd has
