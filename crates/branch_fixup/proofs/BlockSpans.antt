-- The order of spans in new code that is laid out block by block.
use Rattle.std.specs.Prelude.{◌≡◌, ◌+◌, ◌-◌, ◌<◌, ◌≤◌, ◌⊎◌, ℕ, List, Some, Contains, take, drop}
use Rattle.rv_code.specs.declared.placed.Block.{Block}
use Rattle.rv_code.specs.declared.placed.Func.{Func}
use Rattle.rv_code.specs.declared.placed.Placed.{Placed}
use Rattle.rv_code.specs.layout.Blocks.{func_of}
use Rattle.addr_map.specs.declared.span.Span.{Span}

-- an instruction of a block starts at an address
pub record HasInst (funcs : List Func) (b : Block) (a : ℕ) : Type 0 where
  pub func : Func
  pub of : func_of funcs b ≡ Some func
  pub p : Placed
  pub among : Contains (take (b.last + 1 - b.first) (drop b.first func.insts.items)) p
  pub addr : p.addr ≡ a

-- the first span that isn't empty, at or after an address of the old code
pub record IsFirstFrom (spans : List Span) (x : ℕ) (s : Span) : Type 0 where
  pub after : x ≤ s.input
  pub first : (t : Span) → Contains spans t → 0 < t.len → x ≤ t.input → s.input ≤ t.input

-- A span comes directly after the last non-empty span before it in the old code.
pub record Follows (spans : List Span) (s : Span) : Type 0 where
  pub t : Span
  pub among : Contains spans t
  pub bytes : 0 < t.len
  pub touch : t.out + t.len ≡ s.out
  pub before : t.input < s.input
  pub last : (u : Span) → Contains spans u → 0 < u.len → u.input < s.input → u.input ≤ t.input

-- A span is the first non-empty one of a block.
pub record Heads {B : Type 0} (blocks : List B) (start : B → ℕ) (Holds : B → ℕ → Type 0) (spans : List Span) (s : Span) : Type 0 where
  pub b : B
  pub among : Contains blocks b
  pub first : IsFirstFrom spans (start b) s
  pub holds : Holds b s.input

-- Each non-empty span is the first one of a block, or follows the same span in both codes.
abbrev pub IsLaidByBlocks : {B : Type 0} → List B → (B → ℕ) → (B → ℕ → Type 0) → List Span → Type 0
IsLaidByBlocks blocks start Holds spans =
    (s : Span) → Contains spans s → 0 < s.len → Heads blocks start Holds spans s ⊎ Follows spans s
