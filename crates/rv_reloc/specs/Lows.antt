-- The lower parts of a file, by their AUIPCs.
use Rattle.std.specs.Prelude.{◌≡◌, ◌≢◌, ◌↔◌, ◌+◌, ◌<◌, ℕ, length, slice_index_or, List, Some, Contains, IsTrue}
use Rattle.std.specs.List.Sorted.{IsNonDecreasingBy}
use Rattle.rv_code.specs.declared.inst.Inst.{Inst}
use Rattle.elf_image.specs.declared.elf.Elf.{Elf}
use Rattle.elf_code.specs.Relocations.{Relocation, symbol_value, is_pcrel_lo}
use Rattle.elf_code.specs.Roles.{IsFullAt, PcrelLo, lower_immediate}
use Rattle.rv_reloc.specs.declared.lows.Low.{Low}

-- A relocation gives its instruction a lower part for an AUIPC.
pub record IsLowOf (elf : Elf) (r : Relocation) (l : Low) : Type 0 where
  pub is_low : IsTrue (is_pcrel_lo r.kind)
  pub names : symbol_value elf r ≡ l.hi
  pub inst : Inst
  pub there : IsFullAt elf r.place inst
  pub immediate : lower_immediate r.kind inst ≡ Some l.imm

-- A relocation that counts gives a lower part.
pub record IsLowPart (elf : Elf) (l : Low) : Type 0 where
  pub source : Relocation
  pub part : PcrelLo elf source l.hi l.imm

-- All lower parts, sorted by AUIPC.
pub record AreLows (elf : Elf) (lows : List Low) : Type 0 where
  pub all : (l : Low) → Contains lows l ↔ IsLowPart elf l
  pub rising : IsNonDecreasingBy (λ l. l.hi) lows

-- The lower part with index `k` and the next one have the same AUIPC, and differ.
abbrev pub DiffersFromNext : List Low → ℕ → Type 0
DiffersFromNext lows k =
    (k + 1 < length lows)
    × ((d : Low) → ((slice_index_or lows k d).hi ≡ (slice_index_or lows (k + 1) d).hi)
    × ((slice_index_or lows k d).imm ≢ (slice_index_or lows (k + 1) d).imm))

-- Two lower parts of the AUIPC at `hi` differ.
pub record TwoDiffer (lows : List Low) (hi : ℕ) : Type 0 where
  pub one : Low
  pub listed : Contains lows one
  pub of : one.hi ≡ hi
  pub other : Low
  pub listed' : Contains lows other
  pub of' : other.hi ≡ hi
  pub differ : one.imm ≢ other.imm
