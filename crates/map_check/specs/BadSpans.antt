-- The places at which a list of spans isn't a map of a program's code: addresses of instructions, or inputs of spans.
use Rattle.std.specs.Prelude.{◌≡◌, ◌≢◌, ◌⊎◌, ℕ, ◌<◌, if◌then◌else◌, List, AllPairs}
use Rattle.std.specs.List.{count_by}
use Rattle.rv_code.specs.declared.placed.Func.{Func}
use Rattle.rv_code.specs.layout.ProgramCode.{ProgramCode, is_code_address, IsNamed}
use Rattle.addr_map.specs.declared.span.Span.{Span}
use Rattle.addr_map.specs.Spans.{is_of, IsPlaced, ShareNoByte}
use Rattle.map_check.specs.Lacking.{LacksAt}

-- a is an instruction that doesn't have exactly one span, or has a span without being an instruction
abbrev pub IsMiscounted : List Func → List Span → ℕ → Type 0
IsMiscounted funcs spans a = count_by (is_of a) spans ≢ (if is_code_address funcs a then 1 else 0)

-- a span of `a` has bytes, and is at an odd address or at 0
abbrev pub IsMisplaced : List Span → ℕ → Type 0
IsMisplaced spans a = LacksAt IsPlaced (λ s. s.input) spans a

-- one of the two spans is a span of `a`
abbrev pub IsOneOf : ℕ → Span → Span → Type 0
IsOneOf a s t = (s.input ≡ a) ⊎ (t.input ≡ a)

-- a span of `a` shares a byte with another span
abbrev pub IsSharing : List Span → ℕ → Type 0
IsSharing spans a = AllPairs (λ s t. IsOneOf a s t → ShareNoByte s t) spans → ⊥

-- `a` is named, and a span of `a` is empty
abbrev pub IsLeftOut : ProgramCode → List Span → ℕ → Type 0
IsLeftOut code spans a = IsNamed code a × LacksAt (λ s. 0 < s.len) (λ s. s.input) spans a

abbrev pub IsBadSpan : ProgramCode → List Span → ℕ → Type 0
IsBadSpan code spans a =
    IsMiscounted code.funcs spans a ⊎ (IsMisplaced spans a ⊎ (IsSharing spans a ⊎ IsLeftOut code spans a))
