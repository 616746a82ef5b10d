-- Targets of lower parts and their AUIPCs.
use Rattle.std.specs.Prelude.{◌≡◌, ◌↔◌, ◌<◌, ℕ, ℤ, List, Contains, AllPairs}
use Rattle.rv_code.specs.declared.inst.Inst.TheVariants.{Auipc}
use Rattle.elf_image.specs.declared.elf.Elf.{Elf}
use Rattle.elf_code.specs.Relocations.{Relocation}
use Rattle.elf_code.specs.Roles.{IsFullAt, PcrelHiTo, pair_target}
use Rattle.elf_code.specs.ReferenceFaults.{IsAddress}
use Rattle.rv_reloc.specs.declared.lows.Low.{Low}
use Rattle.rv_reloc.specs.Lows.{IsLowPart}

-- The target of a lower part and its AUIPC.
pub record IsTargetOf (elf : Elf) (l : Low) (z : ℤ) : Type 0 where
  pub rd : ℕ
  pub upper : ℤ
  pub auipc : IsFullAt elf l.hi (Auipc rd upper)
  pub target_is : z ≡ pair_target l.hi upper l.imm

-- The target of a lower part and its AUIPC, which is at `a`, isn't an address.
pub record IsFar (elf : Elf) (l : Low) (a : ℕ) : Type 0 where
  pub here : l.hi ≡ a
  pub number : ℤ
  pub makes : IsTargetOf elf l number
  pub unfit : IsAddress number → ⊥

-- The addresses of all AUIPCs with a lower part whose target isn't an address, ascending.
pub record AreFar (elf : Elf) (far : List ℕ) : Type 0 where
  pub all : (a : ℕ) → Contains far a ↔ ((l : Low) × IsLowPart elf l × IsFar elf l a)
  pub ascending : AllPairs (λ a b. a < b) far

-- A relocation for an upper part on an AUIPC, whose target with some lower part isn't an address.
pub record MakesNoAddress (elf : Elf) (r : Relocation) : Type 0 where
  pub number : ℤ
  pub makes : PcrelHiTo elf r number
  pub unfit : IsAddress number → ⊥
