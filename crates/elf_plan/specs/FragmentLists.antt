-- All fragments of the new code, by address.
use Rattle.std.specs.Prelude.{◌≡◌, ◌⊎◌, ℕ, ◌+◌, ◌<◌, ◌≤◌, List, Some, All, AllPairs, Contains}
use Rattle.addr_map.specs.declared.span.Span.{Span}
use Rattle.rv_code.specs.declared.placed.Func.{Func}
use Rattle.elf_plan.specs.declared.fragments.Fragment.{Fragment}
use Rattle.rv_code.specs.layout.FunctionMembers.{function_at}
use Rattle.elf_plan.specs.Fragments.{HasByte}

-- `r` is before `s`, and isn't adjacent to it if both are of the same function.
pub record Apart (r s : Fragment) : Type 0 where
  pub before : r.end ≤ s.start
  pub gap : r.func ≡ s.func → r.end < s.start

pub record AreSorted (fragments : List Fragment) : Type 0 where
  pub some : All (λ r. r.start < r.end) fragments
  pub apart : AllPairs Apart fragments

-- One of the fragments contains the bytes from `start` to before `end`, of function `f`.
pub record HasBytes (fragments : List Fragment) (f start end : ℕ) : Type 0 where
  pub fragment : Fragment
  pub there : Contains fragments fragment
  pub func : fragment.func ≡ f
  pub low : fragment.start ≤ start
  pub high : end ≤ fragment.end

pub record HasSpan (funcs : List Func) (fragments : List Fragment) (s : Span) : Type 0 where
  pub func : ℕ
  pub is_func : function_at funcs s.input ≡ Some func
  pub bytes : HasBytes fragments func s.out (s.out + s.len)

pub record AreFragments (funcs : List Func) (spans : List Span) (fragments : List Fragment) : Type 0 where
  pub sorted : AreSorted fragments
  pub held : All (λ s. 0 < s.len → HasSpan funcs fragments s) spans
  pub filled : (r : Fragment) → Contains fragments r → (b : ℕ) → r.start ≤ b → b < r.end → HasByte funcs spans r.func b

-- `fragment` was added to `old`.
pub record Grows (old : List Fragment) (fragment : Fragment) (new : List Fragment) : Type 0 where
  pub sorted : AreSorted old → AreSorted new
  pub keeps : (f start end : ℕ) → HasBytes old f start end → HasBytes new f start end
  pub has : AreSorted old → HasBytes new fragment.func fragment.start fragment.end
  pub only : (r : Fragment) → Contains new r → (b : ℕ) → r.start ≤ b → b < r.end →
      HasBytes old r.func b (b + 1) ⊎ ((fragment.func ≡ r.func) × (fragment.start ≤ b) × (b < fragment.end))
