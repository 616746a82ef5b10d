-- The map from old code to new code: the new address of an instruction, the owner of a new byte, and valid maps.
use Rattle.std.specs.Prelude.{◌≡◌, ◌≢◌, ◌⊎◌, ℕ, ◌+◌, ◌%◌, ◌<◌, ◌==◌, ◌&&◌, nat_lt, nat_le, Bool, IsTrue, List, Option}
use Rattle.std.specs.Prelude.{All, AllPairs, Any, find, is_some, option_map, unwrap_or}
use Rattle.addr_map.specs.declared.span.Span.{Span}

abbrev pub is_of : ℕ → Span → Bool
is_of a s = s.input == a

abbrev pub has_byte : ℕ → Span → Bool
has_byte p s = nat_le s.out p && nat_lt p (s.out + s.len)

-- The new address of the instruction at `a`, if the map contains it.
abbrev pub moved : List Span → ℕ → Option ℕ
moved spans a = option_map (λ s. s.out) (find (is_of a) spans)

-- The new address of the instruction at `a`. An address at which no instruction starts is unchanged.
abbrev pub new : List Span → ℕ → ℕ
new spans a = unwrap_or (moved spans a) a

-- The old address of the instruction to which a new byte belongs.
abbrev pub owner : List Span → ℕ → Option ℕ
owner spans p = option_map (λ s. s.input) (find (has_byte p) spans)

-- The new code is the set of all bytes of spans.
abbrev pub is_new_code : List Span → ℕ → Bool
is_new_code spans p = is_some (owner spans p)

-- The new code is one contiguous range, from `start` to before `end`.
abbrev pub IsStretch : List Span → ℕ → ℕ → Type 0
IsStretch spans start end = (p : ℕ) → is_new_code spans p ≡ (nat_le start p && nat_lt p end)

-- A span with bytes is at an even address above 0.
abbrev pub IsPlaced : Span → Type 0
IsPlaced s = (s.len ≡ 0) ⊎ ((s.out % 2 ≡ 0) × (0 < s.out))

abbrev pub ShareNoByte : Span → Span → Type 0
ShareNoByte s t = (p : ℕ) → IsTrue (has_byte p s) → IsTrue (has_byte p t) → ⊥

-- A valid map of a set of instructions, which are given by their addresses. Some of them are named.
pub record IsMap (IsInput IsNamed : ℕ → Type 0) (spans : List Span) : Type 0 where
  -- Each instruction has exactly one span, and nothing else has a span.
  pub each : (a : ℕ) → IsInput a → Any (λ s. s.input ≡ a) spans
  pub only : All (λ s. IsInput s.input) spans
  pub once : AllPairs (λ s t. s.input ≢ t.input) spans
  pub placed : All IsPlaced spans
  pub disjoint : AllPairs ShareNoByte spans
  -- An instruction with a named address isn't left out.
  pub named : (a : ℕ) → IsNamed a → Any (λ s. (s.input ≡ a) × (0 < s.len)) spans
