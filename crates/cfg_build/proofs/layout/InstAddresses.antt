-- The instructions of all functions by their addresses, which ascend.
use Rattle.std.proofs.Common.{◌≡◌, ℕ, List, Some}
use Rattle.std.specs.Prelude.{Contains, slice_get}
use Rattle.std.proofs.lemmas.List.Elements.{All-contains}
use Rattle.std.proofs.lemmas.Option.{get_or_from_slice_get, slice_get_within}
use Rattle.rv_code.specs.declared.placed.Func.{Func}
use Rattle.rv_code.specs.layout.FunctionLists.{IsLaidOut, AreLaidOut}

pub contains_func : (funcs : List Func) (f : ℕ) (func : Func) → slice_get funcs f ≡ Some func → Contains funcs func
contains_func funcs f func at = (f, slice_get_within funcs f func at, get_or_from_slice_get funcs f func func at)

module _ (funcs : List Func) (are : AreLaidOut funcs) where
  pub laid_out : (func : Func) → Contains funcs func → IsLaidOut func
  laid_out func is_in = All-contains IsLaidOut funcs func are.each is_in
  -- Functions.
