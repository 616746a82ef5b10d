-- Growing forms: blocks in their new order, by their ends.
use Rattle.std.specs.Prelude.{◌≡◌, ℕ, zero, suc, ◌+◌, ◌^◌, ◌<◌, ◌≤◌, Bool, true, false, IfSome, List, Option, Some}
use Rattle.std.specs.Prelude.{None, length, sum_by, slice_index, slice_index_or, slice_set}
use Rattle.std.specs.Option.{option_map_or}
use Rattle.rv_code.specs.declared.layout.Form.{Form}
use Rattle.rv_code.specs.declared.layout.Form.TheVariants as form
use Rattle.rv_code.specs.declared.layout.Size.TheVariants.{Half, Full, Long}
use Rattle.branch_fixup.specs.declared.growth.BlockEnd.{BlockEnd}
use Rattle.branch_fixup.specs.Pieces.{piece_length}
use Rattle.branch_fixup.specs.Forms.{shorter, FitsLength}
use Rattle.branch_fixup.specs.Distances.{reaches}

abbrev pub end_at : List BlockEnd → ℕ → BlockEnd
end_at ts k = slice_index_or ts k (record { before = 0; len = 0; to = 0; offset = 0 })

abbrev pub form_at : List Form → ℕ → Form
form_at fs k = slice_index_or fs k form.Plain

abbrev pub block_length : List BlockEnd → List Form → ℕ → ℕ
block_length ts fs k = (end_at ts k).before + piece_length (end_at ts k).len (form_at fs k)

-- the start of a block, in bytes from the start of the code
abbrev pub block_offset : List BlockEnd → List Form → ℕ → ℕ
block_offset ts fs zero = 0
block_offset ts fs (suc k) = block_offset ts fs k + block_length ts fs k

-- the address of a block's branch or jump, and its target
abbrev pub from_at : List BlockEnd → List Form → ℕ → ℕ
from_at ts fs k = block_offset ts fs k + (end_at ts k).before

abbrev pub to_at : List BlockEnd → List Form → ℕ → ℕ
to_at ts fs k = block_offset ts fs (end_at ts k).to + (end_at ts k).offset

-- the reach of a form that can grow
abbrev pub form_reach : Form → Option ℕ
form_reach (form.Branch inverted Half jump) = Some (2 ^ 8)
form_reach (form.Branch inverted Full jump) = Some (2 ^ 12)
form_reach (form.Goto true) = Some (2 ^ 11)
form_reach _ = None

-- a form would reach from the block to its target
abbrev pub is_enough : List BlockEnd → List Form → ℕ → Form → Bool
is_enough ts fs k f = option_map_or (λ reach. reaches reach (from_at ts fs k) (to_at ts fs k)) (form_reach f) true

-- a form would reach, if the blocks begin at these places
abbrev pub is_enough_at : List BlockEnd → List ℕ → ℕ → Form → Bool
is_enough_at ts places k f =
    option_map_or (λ reach.
    reaches reach (slice_index places k + (end_at ts k).before)
    (slice_index places (end_at ts k).to + (end_at ts k).offset))
    (form_reach f) true

-- the next longer form
abbrev pub longer : Form → Form
longer (form.Branch inverted Half jump) = form.Branch inverted Full jump
longer (form.Branch inverted Full jump) = form.Branch inverted Long jump
longer (form.Goto true) = form.Goto false
longer f = f

-- the greatest length of a block: its last instruction takes at most 12 bytes, as a branch of the long form and a JAL
abbrev pub most_of : BlockEnd → ℕ
most_of t = t.before + 12

-- Each block leads to a block, at most to the start of its last instruction. All blocks together are short.
pub record AreBlockEnds (ts : List BlockEnd) : Type 0 where
  pub to_block : (k : ℕ) → k < length ts → (end_at ts k).to < length ts
  pub to_inside : (k : ℕ) → k < length ts → (end_at ts k).offset ≤ (end_at ts (end_at ts k).to).before
  pub short : (k : ℕ) → k < length ts → (end_at ts k).len ≤ 4
  pub low : sum_by most_of ts < 2 ^ 62

-- A form is needed: the next shorter one wouldn't reach if all other forms stayed the same.
abbrev pub IsNeeded : List BlockEnd → List Form → ℕ → Type 0
IsNeeded ts fs k =
    IfSome (shorter (end_at ts k).len (form_at fs k)) (λ f. is_enough ts (slice_set fs k f) k f ≡ false)

pub record AreEnough (ts : List BlockEnd) (fs : List Form) : Type 0 where
  pub enough : (k : ℕ) → k < length fs → is_enough ts fs k (form_at fs k) ≡ true

-- the number of times that a form can still grow
abbrev pub left_of : Form → ℕ
left_of (form.Branch inverted Half jump) = 2
left_of (form.Branch inverted Full jump) = 1
left_of (form.Goto true) = 1
left_of _ = 0

-- forms that are needed, and whose lengths fit the instructions
pub record AreGrown (ts : List BlockEnd) (fs : List Form) : Type 0 where
  pub one_each : length fs ≡ length ts
  pub needed : (k : ℕ) → k < length ts → IsNeeded ts fs k
  pub fits : (k : ℕ) → k < length ts → FitsLength (end_at ts k).len (form_at fs k)
