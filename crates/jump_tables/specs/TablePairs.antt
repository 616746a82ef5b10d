-- Pairs of an indirect jump and a possible target in a jump table, as the code collects them.
use Rattle.std.specs.Prelude.{◌≡◌, ℕ, List, Any, Contains}
use Rattle.rv_code.specs.declared.placed.Func.{Func}
use Rattle.rv_code.specs.declared.placed.Placed.{Placed}
use Rattle.rv_code.specs.layout.Edges.{IsTableJump}

-- One of the instructions starts at address `a`, which is in `named`.
abbrev pub IsLabel : List Placed → List ℕ → ℕ → Type 0
IsLabel insts named a = Any (λ p. p.addr ≡ a) insts × Contains named a

-- A jump of these instructions, and a label of them.
abbrev pub IsPairOf : List Placed → List ℕ → ℕ × ℕ → Type 0
IsPairOf insts named e = Any (λ p. (p.addr ≡ e.0) × IsTableJump p) insts × IsLabel insts named e.1

-- An instruction of the function is an indirect jump through a table.
pub record HasTableJump (func : Func) : Type 0 where
  pub jumps : Any IsTableJump func.insts.items
