-- The instructions that references need, with the fields that matter.
use Rattle.std.specs.Prelude.{◌≡◌, ◌≢◌, ◌⊎◌, ℕ, pos, IsSomeAnd, Option, Some, None}
use Rattle.rv_code.specs.isa.HiLo.{hi20, lo12}
use Rattle.elf_image.specs.declared.relocation.TheConstants.{R_RISCV_HI20}
use Rattle.elf_code.specs.Roles.{lower_immediate}
use Rattle.rv_code.specs.declared.inst.Inst.{Inst}
use Rattle.rv_code.specs.declared.inst.Inst.TheVariants.{Auipc, Lui, Jalr}
use Rattle.rv_reloc.specs.declared.instructions.Upper.{Upper}
use Rattle.rv_reloc.specs.declared.instructions.Jump.{Jump}

abbrev pub auipc_of : Inst → Option Upper
auipc_of (Auipc rd imm) = Some (record { rd = rd; imm = imm })
auipc_of _ = None

abbrev pub lui_of : Inst → Option Upper
lui_of (Lui rd imm) = Some (record { rd = rd; imm = imm })
lui_of _ = None

abbrev pub jalr_of : Inst → Option Jump
jalr_of (Jalr rd base imm) = Some (record { base = base; imm = imm })
jalr_of _ = None

-- An instruction has the part of an address that belongs to a type of relocation.
abbrev pub HasUpper : Option Upper → ℕ → Type 0
HasUpper o target = IsSomeAnd o (λ u. u.imm ≡ hi20 (pos target))

abbrev pub HasPart : ℕ → Inst → ℕ → Type 0
HasPart kind inst target =
    ((kind ≡ R_RISCV_HI20) × HasUpper (lui_of inst) target)
    ⊎ ((kind ≢ R_RISCV_HI20) × (lower_immediate kind inst ≡ Some (lo12 (pos target))))
