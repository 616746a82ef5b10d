-- The ways of branches and jumps, while forms grow one at a time.
use Rattle.std.specs.Prelude.{◌≡◌, ℕ, ◌+◌, ◌^◌, ◌<◌, ◌≤◌, ◌&&◌, ◌||◌, nat_lt, nat_le, if◌then◌else◌, Bool, true, List}
use Rattle.std.specs.Prelude.{length, slice_index}
use Rattle.std.specs.Option.{option_map_or}
use Rattle.rv_code.specs.declared.layout.Form.{Form}
use Rattle.branch_fixup.specs.declared.growth.BlockEnd.{BlockEnd}
use Rattle.branch_fixup.specs.Growth.{form_reach, end_at, AreGrown, block_offset}
use Rattle.branch_fixup.specs.Distances.{reaches}

-- Possible starts of blocks: each block has at least room for its instructions before the last one.
pub record AreStarts (ts : List BlockEnd) (places : List ℕ) : Type 0 where
  pub len : length places ≡ length ts + 1
  pub apart : (i j : ℕ) → i < j → j ≤ length ts → slice_index places i + (end_at ts i).before ≤ slice_index places j
  pub low : (i : ℕ) → i ≤ length ts → slice_index places i < 2 ^ 62

-- The branch or jump of block k goes over the end of block p, so that its way becomes longer when p grows.
abbrev pub crosses : List BlockEnd → ℕ → ℕ → Bool
crosses ts k p = (nat_le k p && nat_lt p (end_at ts k).to) || (nat_le (end_at ts k).to p && nat_lt p k)

-- a form of block k would reach, if its way is `more` bytes longer than with these starts
abbrev pub is_enough_by : List BlockEnd → List ℕ → ℕ → ℕ → Form → Bool
is_enough_by ts places more k f =
    option_map_or (λ reach.
    if nat_lt k (end_at ts k).to
    then reaches reach (slice_index places k + (end_at ts k).before)
    (slice_index places (end_at ts k).to + (end_at ts k).offset + more)
    else reaches reach (slice_index places k + (end_at ts k).before + more)
    (slice_index places (end_at ts k).to + (end_at ts k).offset))
    (form_reach f) true

-- With these forms the way of block k is at least `more` bytes longer than with these starts.
pub record IsLonger (ts : List BlockEnd) (places : List ℕ) (fs : List Form) (k more : ℕ) : Type 0 where
  pub ahead : k ≤ (end_at ts k).to →
      slice_index places (end_at ts k).to + block_offset ts fs k + more
      ≤ block_offset ts fs (end_at ts k).to + slice_index places k
  pub back : (end_at ts k).to ≤ k →
      slice_index places k + block_offset ts fs (end_at ts k).to + more
      ≤ block_offset ts fs k + slice_index places (end_at ts k).to

abbrev pub AreLonger : List BlockEnd → List ℕ → List Form → List ℕ → Type 0
AreLonger ts places fs mores = (k : ℕ) → k < length ts → IsLonger ts places fs k (slice_index mores k)

-- For the blocks from k on, the ways over block p are longer by `bytes` more than `mores` says.
abbrev pub AreLongerOver : List BlockEnd → List ℕ → List Form → List ℕ → ℕ → ℕ → ℕ → Type 0
AreLongerOver ts places fs mores p bytes k =
    (j : ℕ) → k ≤ j → j < length ts → crosses ts j p ≡ true → IsLonger ts places fs j (slice_index mores j + bytes)

-- the state between two growths: lower bounds for how much longer each way is
pub record AreSettling (ts : List BlockEnd) (places : List ℕ) (fs : List Form) (mores : List ℕ) : Type 0 where
  pub count : length mores ≡ length ts
  pub sound : AreGrown ts fs
  pub longer : AreLonger ts places fs mores
