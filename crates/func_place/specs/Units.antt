-- Units: functions that have to stay near each other, as a branch, a JAL or a fall-through leads from one into the
-- other.
use Rattle.std.specs.Prelude.{◌≡◌, ℕ, ◌+◌, ◌<◌, ◌≤◌, ◌==◌, IsTrue, List, Some, if◌then◌else◌, length, map, filter}
use Rattle.std.specs.Prelude.{slice_index, slice_get, sum_by}
use Rattle.std.specs.List.{range_with_len, flat_map}
use Rattle.rv_code.specs.declared.placed.Placed.{Placed}
use Rattle.rv_code.specs.declared.placed.Func.{Func}
use Rattle.rv_code.specs.declared.placed.Block.{Block}
use Rattle.rv_code.specs.layout.Blocks.{inst_at}
use Rattle.rv_code.specs.layout.Flow.{target_of, falls_at}
use Rattle.rv_code.specs.layout.FunctionMembers.{function_at}
use Rattle.rv_code.specs.layout.WorstSizes.{worst_size_of_block}

-- The instruction with index i of a function leads to an address: a branch or a JAL goes there, or it falls through to
-- there. A pair of instructions for a call, and an indirect jump, reach every address, so they aren't counted here.
pub data LeadsNear (func : Func) (i : ℕ) (p : Placed) (a : ℕ) : Type 0 where
  jumps : target_of p ≡ Some a → LeadsNear func i p a
  falls_into : IsTrue (falls_at func i p) → p.addr + p.len ≡ a → LeadsNear func i p a

-- an instruction of the function with index f leads into the function with index g
pub record LeadsInto (funcs : List Func) (f g : ℕ) : Type 0 where
  pub func : Func
  pub is_func : slice_get funcs f ≡ Some func
  pub at : ℕ
  pub inst : Placed
  pub is_inst : inst_at func at ≡ Some inst
  pub to : ℕ
  pub leads : LeadsNear func at inst to
  pub into : function_at funcs to ≡ Some g

-- Two functions are tied if one leads into the other, or if both are tied to a third one.
pub data AreTied (funcs : List Func) (f : ℕ) : ℕ → Type 0 where
  itself : AreTied funcs f f
  onward : {g h : ℕ} → AreTied funcs f g → LeadsInto funcs g h → AreTied funcs f h
  backward : {g h : ℕ} → AreTied funcs f g → LeadsInto funcs h g → AreTied funcs f h

-- For each function its unit: the class of functions that are tied to it. A unit's number is its lowest function.
pub record AreUnits (funcs : List Func) (units : List ℕ) : Type 0 where
  pub len : length units ≡ length funcs
  pub tied : (f : ℕ) → f < length funcs → AreTied funcs f (slice_index units f)
  pub lowest : (f g : ℕ) → f < length funcs → AreTied funcs f g → slice_index units f ≤ g

-- Properties of units. A number that isn't a unit has no functions and no blocks.

-- the sum of a number over a unit's blocks
abbrev pub unit_sum : List ℕ → (Block → ℕ) → List Block → ℕ → ℕ
unit_sum units number blocks u = sum_by (λ b. if slice_index units b.func == u then number b else 0) blocks

abbrev pub unit_size : List Func → List ℕ → List Block → ℕ → ℕ
unit_size funcs units blocks u = unit_sum units (worst_size_of_block funcs) blocks u

-- a unit's functions, in order of their addresses
abbrev pub members : List ℕ → ℕ → List ℕ
members units u = filter (λ f. slice_index units f == u) (range_with_len 0 (length units))

-- the blocks of a unit, function by function
abbrev pub unit_part : (ℕ → List ℕ) → List ℕ → ℕ → List ℕ
unit_part part units u = flat_map part (members units u)

-- a number for each unit
abbrev pub by_unit : {A : Type 0} → (ℕ → A) → List ℕ → List A
by_unit number units = map number (range_with_len 0 (length units))
