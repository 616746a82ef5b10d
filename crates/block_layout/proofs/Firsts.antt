-- First blocks of functions.
use Rattle.std.proofs.Common.{◌≡◌, ◌≢◌, ◌<◌, ◌≤◌, ◌-◌, ◌↔◌, ℕ, List, length, get_or, arith, ap}
use Rattle.std.proofs.Common.{subst, inl, inr, ⊎_elim}
use Rattle.std.specs.Prelude.{◌==◌, not, IsTrue}
use Rattle.std.proofs.lemmas.Bool.{cases_lt, eq-eqb, ne_eqb}
use Rattle.std.proofs.lemmas.List.{get_or_default}
use Rattle.std.proofs.lemmas.Option.{slice_get-get_or}
use Rattle.std.proofs.lemmas.Grind.{common_steps}
use Rattle.rv_code.specs.declared.placed.Block.{Block}
use Rattle.edge_profile.specs.BlockPlaces.{AreBlocksApart, IsApart}
use Rattle.block_layout.specs.Parts.{IsOf, IsFirstBlock}

-- the block with index k of a list
pub IsOf-get_or : (blocks : List Block) (f k : ℕ) (d : Block) → k < length blocks → (get_or blocks k d).func ≡ f → IsOf blocks f k
IsOf-get_or blocks f k d within is = grind (arith, common_steps, slice_get-get_or)

pub get_or-IsOf : (blocks : List Block) (f k : ℕ) (d : Block) → k < length blocks → IsOf blocks f k → (get_or blocks k d).func ≡ f
get_or-IsOf blocks f k d within is = grind (arith, common_steps, slice_get-get_or)

-- functions don't descend along the blocks
pub funcs_rise : (blocks : List Block) → AreBlocksApart blocks → (i j : ℕ) (d : Block) → i ≤ j → j < length blocks →
    (get_or blocks i d).func ≤ (get_or blocks j d).func
funcs_rise blocks apart i j d le within = ⊎_elim
    (λ (less : i < j). up (get_or blocks i d) (get_or blocks j d) (apart.ordered i j d less within))
    (λ (more : j ≤ i).
    let same : i ≡ j = omega arith in
    subst (λ (k : ℕ). (get_or blocks i d).func ≤ (get_or blocks k d).func) same (omega arith))
    (cases_lt i j)
  where
    up : (b c : Block) → IsApart b c → b.func ≤ c.func
    up b c (inl less) = omega arith
    up b c (inr (same, less)) = omega arith

module _ (blocks : List Block) (apart : AreBlocksApart blocks) (k : ℕ) (d e : Block) (within : k < length blocks) where
  first_is : ((j : ℕ) → j < k → IsOf blocks (get_or blocks k d).func j → ⊥) → IsFirstBlock blocks k
  first_is none = grind (arith, common_steps, slice_get-get_or)

  first_of : IsFirstBlock blocks k → (j : ℕ) → j < k → IsOf blocks (get_or blocks k d).func j → ⊥
  first_of is = grind (arith, common_steps, slice_get-get_or)

  pub first_block_at_start : k ≡ 0 → IsFirstBlock blocks k
  first_block_at_start start = first_is (λ j less is. absurd (omega arith))

  pub first_block_after : 0 < k → (get_or blocks (k - 1) e).func ≢ (get_or blocks k d).func → IsFirstBlock blocks k
  first_block_after some other = first_is (λ j less is.
      let own = get_or-IsOf blocks (get_or blocks k d).func j e (omega arith) is in
      let up = funcs_rise blocks apart j (k - 1) e (omega arith) (omega arith) in
      let up' = funcs_rise blocks apart (k - 1) k e (omega arith) within in
      let same : (get_or blocks k e).func ≡ (get_or blocks k d).func =
      ap (λ (b : Block). b.func) (get_or_default blocks k e d within) in
      other (omega (arith, own, up, up', same)))

  pub not_first_after : 0 < k → (get_or blocks (k - 1) e).func ≡ (get_or blocks k d).func → IsFirstBlock blocks k → ⊥
  not_first_after some same is =
      first_of is (k - 1) (omega arith) (IsOf-get_or blocks (get_or blocks k d).func (k - 1) e (omega arith) same)

  pub first_block_test : 0 < k →
      (IsTrue (not ((get_or blocks (k - 1) e).func == (get_or blocks k d).func))) ↔ IsFirstBlock blocks k
  first_block_test some = grind (arith, common_steps, first_block_after, eq-eqb, ne_eqb, not_first_after)
