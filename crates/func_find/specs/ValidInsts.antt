-- Valid instructions, and nops.
use Rattle.std.specs.Prelude.{◌≡◌, ◌≢◌, ℕ, ◌+◌, ◌≤◌, ◌%◌}
use Rattle.rv_code.specs.declared.inst.Inst.{Inst}
use Rattle.elf_image.specs.declared.elf.Elf.{Elf}
use Rattle.elf_code.specs.Parts.{length_at}
use Rattle.elf_code.specs.Functions.{IsNopAt}
use Rattle.code_starts.specs.Parts.{IsInstBefore}

-- The bytes at address `a` encode an instruction that is valid there and ends at or before `end`.
pub record IsValidBefore (elf : Elf) (end a : ℕ) (inst : Inst) (bytes : ℕ) : Type 0 where
  pub before : IsInstBefore elf end a inst bytes
  pub even : a % 2 ≡ 0
  pub allowed : bytes ≡ 2 → elf.flags ≢ 0

-- A nop that ends at or before `end`.
pub record IsNopBefore (elf : Elf) (end a : ℕ) : Type 0 where
  pub nop : IsNopAt elf a
  pub inside : a + length_at elf a ≤ end
