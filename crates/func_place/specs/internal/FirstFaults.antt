-- The first place of each fault, in the terms of the code.
use Rattle.std.specs.Prelude.{◌≡◌, ℕ, ◌<◌, ◌≤◌, true, false, List, Some, All, slice_get, slice_index}
use Rattle.rv_code.specs.declared.placed.Placed.{Placed}
use Rattle.rv_code.specs.declared.placed.Func.{Func}
use Rattle.rv_code.specs.layout.WorstSizes.{near_limit}
use Rattle.func_place.specs.Faults.{leaves}

pub record IsFirstLong (funcs : List Func) (sizes : List ℕ) (place : ℕ) : Type 0 where
  pub unit : ℕ
  pub func : Func
  pub is_func : slice_get funcs unit ≡ Some func
  pub start : func.start ≡ place
  pub long : near_limit < slice_index sizes unit
  pub earlier : (v : ℕ) → v < unit → slice_index sizes v ≤ near_limit

-- no instruction of a function leaves it
abbrev pub StaysIn : Func → Type 0
StaysIn func = All (λ p. leaves func p ≡ false) func.insts.items

pub record IsFirstLeaving (func : Func) (place : ℕ) : Type 0 where
  pub at : ℕ
  pub inst : Placed
  pub is_inst : slice_get func.insts.items at ≡ Some inst
  pub start : inst.addr ≡ place
  pub leaves_it : leaves func inst ≡ true
  pub earlier : (j : ℕ) (d : Placed) → j < at → slice_get func.insts.items j ≡ Some d → leaves func d ≡ false

pub record IsFirstKept (funcs : List Func) (place : ℕ) : Type 0 where
  pub at : ℕ
  pub func : Func
  pub is_func : slice_get funcs at ≡ Some func
  pub leaving : IsFirstLeaving func place
  pub earlier : (j : ℕ) (d : Func) → j < at → slice_get funcs j ≡ Some d → StaysIn d
