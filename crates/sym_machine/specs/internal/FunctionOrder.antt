-- Functions in which a binary search can look up an instruction by its address.
use Rattle.std.specs.Prelude.{ℕ, ◌<◌, ◌≤◌, List, Option, length, slice_index_or, option_map}
use Rattle.std.specs.List.{slice_get}
use Rattle.rv_code.specs.declared.placed.Placed.{Placed}
use Rattle.rv_code.specs.declared.placed.Func.{Func}

-- functions are in order of their addresses and don't overlap; each function's instructions are in it, in order of
-- their addresses
pub record IsSearchable (funcs : List Func) : Type 0 where
  pub ordered : (f : ℕ) (d : Func) → f < length funcs →
      (slice_index_or funcs f d).start < (slice_index_or funcs f d).end
  pub apart : (f g : ℕ) (d : Func) → f < g → g < length funcs →
      (slice_index_or funcs f d).end ≤ (slice_index_or funcs g d).start
  pub from : (f i : ℕ) (d : Func) (e : Placed) → f < length funcs → i < length (slice_index_or funcs f d).insts.items
      → (slice_index_or funcs f d).start ≤ (slice_index_or (slice_index_or funcs f d).insts.items i e).addr
  pub to : (f i : ℕ) (d : Func) (e : Placed) → f < length funcs → i < length (slice_index_or funcs f d).insts.items
      → (slice_index_or (slice_index_or funcs f d).insts.items i e).addr < (slice_index_or funcs f d).end
  pub rising : (f i j : ℕ) (d : Func) (e : Placed) → f < length funcs → i < j
      → j < length (slice_index_or funcs f d).insts.items
      → (slice_index_or (slice_index_or funcs f d).insts.items i e).addr
      < (slice_index_or (slice_index_or funcs f d).insts.items j e).addr

-- the address of the i-th instruction, if there is one
abbrev pub addr_at : List Placed → ℕ → Option ℕ
addr_at insts i = option_map (λ p. p.addr) (slice_get insts i)
