-- Fragments: ranges of new code whose bytes belong to one function.
use Rattle.std.specs.Prelude.{◌≡◌, ℕ, ◌+◌, ◌<◌, ◌≤◌, List, Some, IfSome, All, Contains}
use Rattle.addr_map.specs.declared.span.Span.{Span}
use Rattle.rv_code.specs.declared.placed.Func.{Func}
use Rattle.rv_code.specs.layout.FunctionMembers.{function_at}

-- The byte at `b` of the new code belongs to an instruction of function `f`.
pub record HasByte (funcs : List Func) (spans : List Span) (f b : ℕ) : Type 0 where
  pub span : Span
  pub there : Contains spans span
  pub func : function_at funcs span.input ≡ Some f
  pub low : span.out ≤ b
  pub high : b < span.out + span.len

-- The `size` bytes of new code from `to` on belong to function `f`, and the bytes after them don't.
pub record IsFragment (funcs : List Func) (spans : List Span) (f to size : ℕ) : Type 0 where
  pub own : All (λ s. 0 < s.len → to ≤ s.out → s.out < to + size →
      (function_at funcs s.input ≡ Some f) × (s.out + s.len ≤ to + size)) spans
  pub filled : (b : ℕ) → to ≤ b → b < to + size → HasByte funcs spans f b
  pub ends : All (λ s. 0 < s.len → s.out ≡ to + size → function_at funcs s.input ≡ Some f → ⊥) spans

-- A fragment of the function that contains `address` in the input.
abbrev pub IsFragmentAt : List Func → List Span → ℕ → ℕ → ℕ → Type 0
IsFragmentAt funcs spans address to size = IfSome (function_at funcs address) (λ f. IsFragment funcs spans f to size)
