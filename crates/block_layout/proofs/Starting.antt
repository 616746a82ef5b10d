-- The ranges of the blocks of functions.
use Rattle.std.proofs.Common.{◌≡◌, ◌≢◌, ◌<◌, ◌≤◌, ◌+◌, ℕ, List, length, get_or, arith, refl, ⊎_elim}
use Rattle.std.proofs.lemmas.Bool.{cases_lt}
use Rattle.std.proofs.lemmas.Option.{slice_get_past}
use Rattle.std.proofs.lemmas.Grind.{common_steps}
use Rattle.rv_code.specs.declared.placed.Block.{Block}
use Rattle.edge_profile.specs.BlockPlaces.{AreBlocksApart}
use Rattle.block_layout.specs.HotAndCold.{IsFirstOf}
use Rattle.block_layout.specs.Parts.{IsOf}
use Rattle.block_layout.specs.Walks.{AreFrom}
use Rattle.block_layout.proofs.Firsts.{IsOf-get_or, get_or-IsOf, funcs_rise}

abbrev pub nothing : Block
nothing = record { func = 0; first = 0; last = 0 }

-- a block of a function is in the list
pub IsOf-within : (blocks : List Block) (f k : ℕ) → IsOf blocks f k → k < length blocks
IsOf-within blocks f k is = grind (arith, common_steps, ⊎_elim, slice_get_past, cases_lt)

pub start_at_none : (blocks : List Block) → IsFirstOf blocks 0 0
start_at_none blocks = grind (arith, common_steps)

-- the blocks of a range are in a function, and no later block is
module _ (blocks : List Block) (apart : AreBlocksApart blocks) (f start end : ℕ) (is : IsFirstOf blocks f start)
    (from : start ≤ end)
    (to : end ≤ length blocks)
    (own : (k : ℕ) (d : Block) → start ≤ k → k < end → (get_or blocks k d).func ≡ f)
    (past : (d : Block) → end < length blocks → (get_or blocks end d).func ≢ f) where
  after : (k g : ℕ) → end ≤ k → IsOf blocks g k → f < g
  after k g le listed =
      let within = IsOf-within blocks g k listed in
      let mine = get_or-IsOf blocks g k nothing within listed in
      let up = funcs_rise blocks apart end k nothing le within in
      let here : f ≤ (get_or blocks end nothing).func =
      is.above end (get_or blocks end nothing).func from
      (IsOf-get_or blocks (get_or blocks end nothing).func end nothing (omega arith) refl) in
      let other = past nothing (omega arith) in
      omega (arith, mine, up, here, other)

  pub blocks_from : AreFrom blocks f start end
  blocks_from = record {
    up_to = to;
    inside = λ k low high. IsOf-get_or blocks f k nothing (omega arith) (own k nothing low high);
    all = λ k listed. (
      ⊎_elim (λ (less : k < start). absurd (let below = is.below k f less listed in omega arith))
          (λ (le : start ≤ k). le) (cases_lt k start),
      ⊎_elim (λ (less : k < end). less)
          (λ (le : end ≤ k). absurd (let above = after k f le listed in omega arith)) (cases_lt k end),
    );
  }

  pub start_next : IsFirstOf blocks (f + 1) end
  start_next = record {
    within = to;
    below = λ k g less listed. ⊎_elim
        (λ (before : k < start). let below = is.below k g before listed in omega arith)
        (λ (le : start ≤ k).
        let within = IsOf-within blocks g k listed in
        let mine = get_or-IsOf blocks g k nothing within listed in
        let same = own k nothing le less in
        omega (arith, mine, same))
        (cases_lt k start);
    above = λ k g le listed. let over = after k g le listed in omega arith;
  }
