-- The parts of a file's code as a list that is searched by address.
use Rattle.std.specs.Prelude.{◌≡◌, ◌<◌, ◌≤◌, ◌+◌, ℕ, List, Some, Contains, All, AllPairs}
use Rattle.rv_code.specs.layout.Lists.{ListsAll}
use Rattle.rv_code.specs.declared.inst.Inst.{Inst}
use Rattle.elf_image.specs.declared.elf.Elf.{Elf}
use Rattle.elf_image.specs.memory.LoadedBytes.{byte_at}
use Rattle.elf_code.specs.Parts.{IsInCode, IsCovered, IsCodePart, IsInstAt}
use Rattle.code_starts.specs.declared.parts.Part.{Part}

-- All bytes from `start` to before `end` are zero.
abbrev pub AreZeros : Elf → ℕ → ℕ → Type 0
AreZeros elf start end = (a : ℕ) → start ≤ a → a < end → byte_at elf a ≡ Some 0

-- The range between two neighbouring cuts has code.
pub record IsCodeStretch (elf : Elf) (start end : ℕ) : Type 0 where
  pub in_code : IsInCode elf start
  pub no_padding : (IsCovered elf start end → ⊥) × AreZeros elf start end → ⊥

-- Part `p` is below part `q`, with no shared address.
abbrev pub Precedes : Part → Part → Type 0
Precedes p q = p.end ≤ q.start

-- All parts with code, by address.
abbrev pub AreCodeParts : Elf → List Part → Type 0
AreCodeParts elf parts = ListsAll (λ p. IsCodePart elf p.start p.end) Precedes parts

-- Parts that don't overlap, by address.

pub record ArePartsApart (parts : List Part) : Type 0 where
  pub has_bytes : All (λ p. p.start < p.end) parts
  pub ordered : AllPairs Precedes parts

-- A part of the list contains the address.
pub record HoldsAddress (parts : List Part) (a : ℕ) (p : Part) : Type 0 where
  pub listed : Contains parts p
  pub above : p.start ≤ a
  pub below : a < p.end

-- The bytes at address `a` encode an instruction of this length, which ends at or before `end`.
pub record IsInstBefore (elf : Elf) (end a : ℕ) (inst : Inst) (bytes : ℕ) : Type 0 where
  pub is_inst : IsInstAt elf a inst bytes
  pub inside : a + bytes ≤ end
