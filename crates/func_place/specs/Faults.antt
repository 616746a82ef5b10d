-- Faults of placement, and their places.
use Rattle.std.specs.Prelude.{◌≡◌, ℕ, ◌<◌, ◌&&◌, Bool, false, not, IsTrue, List, Some, Any, slice_get}
use Rattle.std.specs.Option.{option_map_or}
use Rattle.rb_bytes.specs.declared.fault.FaultKind.{FaultKind}
use Rattle.rb_bytes.specs.declared.fault.FaultKind.TheVariants.{UnitTooLong, KeptBranch}
use Rattle.rv_code.specs.declared.placed.Placed.{Placed}
use Rattle.rv_code.specs.declared.placed.Func.{Func}
use Rattle.rv_code.specs.declared.placed.Block.{Block}
use Rattle.rv_code.specs.layout.Flow.{target_of, is_short}
use Rattle.rv_code.specs.layout.WorstSizes.{near_limit}
use Rattle.rv_code.specs.layout.FunctionMembers.{func_holds}
use Rattle.func_place.specs.Units.{AreUnits, unit_size}

-- A unit is longer than a branch can reach. The fault's place is the unit's lowest address.
pub record IsLongUnit (funcs : List Func) (blocks : List Block) (place : ℕ) : Type 0 where
  pub units : List ℕ
  pub are_units : AreUnits funcs units
  pub unit : ℕ
  pub func : Func
  pub first : slice_get funcs unit ≡ Some func
  pub start : func.start ≡ place
  pub long : near_limit < unit_size funcs units blocks unit

-- an instruction that reaches less far than a JAL leaves its function, which moves as one piece
abbrev pub leaves : Func → Placed → Bool
leaves func p = (func.whole && is_short p) && option_map_or (λ a. not (func_holds a func)) (target_of p) false

abbrev pub IsKeptBranch : List Func → ℕ → Type 0
IsKeptBranch funcs place = Any (λ func. Any (λ p. (p.addr ≡ place) × IsTrue (leaves func p)) func.insts.items) funcs

-- the places of a fault; other kinds of faults aren't faults of placement
abbrev pub HasPlacementFault : List Func → List Block → FaultKind → ℕ → Type 0
HasPlacementFault funcs blocks UnitTooLong place = IsLongUnit funcs blocks place
HasPlacementFault funcs blocks KeptBranch place = IsKeptBranch funcs place
HasPlacementFault funcs blocks _ place = ⊥
