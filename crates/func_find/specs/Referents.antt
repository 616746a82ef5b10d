-- The addresses that are referred to, as the code collects them.
use Rattle.std.specs.Prelude.{◌≡◌, ◌↔◌, ℕ, List, Some, Contains}
use Rattle.rv_code.specs.declared.inst.Inst.{Inst}
use Rattle.rv_code.specs.isa.Action.{action_of}
use Rattle.rv_code.specs.layout.Flow.{target}
use Rattle.elf_image.specs.declared.elf.Elf.{Elf}
use Rattle.elf_code.specs.Parts.{StartsIn}
use Rattle.elf_code.specs.Functions.{IsReferred}
use Rattle.code_starts.specs.declared.parts.Part.{Part}
use Rattle.func_find.specs.ValidInsts.{IsValidBefore}

-- The instruction at address `from` branches or jumps to address `to`.
pub record GoesTo (elf : Elf) (end from to : ℕ) : Type 0 where
  pub inst : Inst
  pub bytes : ℕ
  pub valid : IsValidBefore elf end from inst bytes
  pub target_is : target from (action_of inst) ≡ Some to

-- An instruction of a part branches or jumps to an address.
pub record PartGoesTo (elf : Elf) (p : Part) (to : ℕ) : Type 0 where
  pub from : ℕ
  pub starts : StartsIn elf p.start p.end from
  pub goes : GoesTo elf p.end from to

-- All addresses that are referred to.
abbrev pub AreReferred : Elf → List (ℕ × ℕ) → List ℕ → Type 0
AreReferred elf tabled addresses = (a : ℕ) → Contains addresses a ↔ IsReferred elf tabled a
