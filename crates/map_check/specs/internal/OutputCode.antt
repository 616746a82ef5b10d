-- Instructions in the code of an output.
use Rattle.std.specs.Prelude.{◌≡◌, ℕ, ◌==◌, ◌&&◌, Bool, false, ℤ, Option, Some, None, unwrap_or, option_and_then}
use Rattle.rv_code.specs.declared.inst.Inst.{Inst}
use Rattle.rv_code.specs.declared.inst.Inst.TheVariants.{Jal}
use Rattle.rv_code.specs.machine.Machine.{plus}
use Rattle.rv_code.specs.isa.TwosComplement.{unsigned64}
use Rattle.elf_image.specs.declared.elf.Elf.{Elf}
use Rattle.elf_image.specs.memory.LoadedBytes.{byte_at}
use Rattle.elf_image.specs.memory.Executables.{Executable}
use Rattle.move_law.specs.Rewrite.{HasAt, width_at}

abbrev pub byte_or_zero : Elf → Option ℕ → ℕ
byte_or_zero elf address = unwrap_or (option_and_then (byte_at elf) address) 0

-- the only instruction at address p, with its width
pub record IsOnlyAt (x : Executable) (p : ℕ) (inst : Inst) (width : ℕ) : Type 0 where
  pub has : HasAt x p inst
  pub width_is : width ≡ width_at x p
  pub only : (other : Inst) → HasAt x p other → other ≡ inst

abbrev pub FindsAt : Executable → ℕ → Option (Inst × ℕ) → Type 0
FindsAt x p None = (inst : Inst) → HasAt x p inst → ⊥
FindsAt x p (Some found) = IsOnlyAt x p found.0 found.1

-- there is a jump from p to q that saves no return address
pub record Jumps (x : Executable) (p q : ℕ) : Type 0 where
  pub imm : ℤ
  pub has : HasAt x p (Jal 0 imm)
  pub leads : plus p (unsigned64 imm) ≡ q

-- an instruction at `from` is a jump to `to` that saves no return address
abbrev pub leads_to : Inst → ℕ → ℕ → Bool
leads_to (Jal rd imm) from to = rd == 0 && plus from (unsigned64 imm) == to
leads_to _ from to = false
