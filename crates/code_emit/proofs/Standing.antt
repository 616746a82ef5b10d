-- Instructions in an executable, with their lengths.
use Rattle.std.proofs.Common.{◌≡◌, ℕ, ◌+◌, List, [], ◌∷◌, sym, subst}
use Rattle.rv_code.specs.declared.inst.Inst.{Inst}
use Rattle.elf_code.specs.Parts.{IsInstIn}
use Rattle.move_law.specs.Rewrite.{HasAt, width_at}
use Rattle.elf_image.specs.memory.Executables.{Executable, AreCodeBytes, memory_of}
use Rattle.move_law.proofs.code.InstLists.{length_is}
use Rattle.code_emit.specs.NewInsts.{Made}

-- an instruction of this length
pub record HasMade (x : Executable) (a : ℕ) (inst : Inst) (bytes : ℕ) : Type 0 where
  pub is_inst : IsInstIn (memory_of x) a inst bytes
  pub code : AreCodeBytes x a bytes

-- instructions one after another
abbrev pub HasAll : Executable → ℕ → List Made → Type 0
HasAll x a [] = Unit {0}
HasAll x a (m ∷ ms) = HasMade x a m.inst m.bytes × HasAll x (a + m.bytes) ms

pub width_is : (x : Executable) (a : ℕ) (inst : Inst) (bytes : ℕ) → HasMade x a inst bytes → width_at x a ≡ bytes
width_is x a inst bytes has = length_is (memory_of x) a inst bytes has.is_inst

pub has_at : (x : Executable) (a : ℕ) (inst : Inst) (bytes : ℕ) → HasMade x a inst bytes → HasAt x a inst
has_at x a inst bytes has =
    let width = width_is x a inst bytes has in
    record {
      is_inst = subst (λ (n : ℕ). IsInstIn (memory_of x) a inst n) (sym width) has.is_inst;
      code = subst (λ (n : ℕ). AreCodeBytes x a n) (sym width) has.code;
    }
