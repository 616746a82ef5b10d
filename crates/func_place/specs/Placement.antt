-- The order of all blocks in the new code.
use Rattle.std.specs.Prelude.{ℕ, List, Option, slice_index, option_and_then}
use Rattle.std.specs.List.{filter_map}
use Rattle.std.specs.Option.{option_map}
use Rattle.rv_code.specs.declared.placed.Func.{Func}
use Rattle.rv_code.specs.declared.placed.Block.{Block}
use Rattle.rv_code.specs.declared.layout.Chains.{Chains}
use Rattle.func_place.specs.declared.calls.UnitCall.{UnitCall}
use Rattle.rv_code.specs.layout.BlockOrders.{hot_of, cold_of}
use Rattle.rv_code.specs.layout.FunctionMembers.{function_at}
use Rattle.func_place.specs.Units.{AreUnits, unit_sum, unit_size, unit_part, by_unit}
use Rattle.func_place.specs.UnitOrder.{IsUnitOrder}

-- The count of a pair of addresses as a count from unit to unit, if both addresses are in functions. A pair has its
-- addresses and its count.
abbrev pub unit_call : List Func → List ℕ → ℕ × ℕ × ℕ → Option UnitCall
unit_call funcs units p =
    option_and_then (λ f. option_map (λ g. record {
      from = slice_index units f;
      to = slice_index units g;
      count = p.2;
    }) (function_at funcs p.1)) (function_at funcs p.0)

abbrev pub unit_calls : List Func → List ℕ → List (ℕ × ℕ × ℕ) → List UnitCall
unit_calls funcs units pairs = filter_map (unit_call funcs units) pairs

-- The units are in their order: by worst size, by the weights of their blocks (how often these ran), and by the counts
-- between units. In each unit the functions are in order of their addresses.
pub record IsPlacement (funcs : List Func) (blocks : List Block) (chains : Chains) (pairs : List (ℕ × ℕ × ℕ))
    (weight : Block → ℕ) (order : List ℕ) : Type 0 where
  pub units : List ℕ
  pub are_units : AreUnits funcs units
  pub ordered : IsUnitOrder (by_unit (unit_size funcs units blocks) units)
      (by_unit (unit_sum units weight blocks) units)
      (unit_calls funcs units pairs) (unit_part (hot_of chains) units) (unit_part (cold_of chains) units) order
