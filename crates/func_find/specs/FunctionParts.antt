-- The parts that are functions, as lists.
use Rattle.std.specs.Prelude.{◌≡◌, ℕ, ◌+◌, ◌≤◌, true, List, Contains, AllPairs}
use Rattle.rv_code.specs.declared.inst.Inst.{Inst}
use Rattle.rv_code.specs.isa.Action.{action_of}
use Rattle.rv_code.specs.layout.Flow.{falls}
use Rattle.rv_code.specs.layout.Lists.{ListsAll}
use Rattle.elf_image.specs.declared.elf.Elf.{Elf}
use Rattle.elf_code.specs.Parts.{StartsIn}
use Rattle.elf_code.specs.Functions.{IsFunctionPart, IsReferred}
use Rattle.code_starts.specs.declared.parts.Part.{Part}
use Rattle.code_starts.specs.Parts.{Precedes}
use Rattle.func_find.specs.ValidInsts.{IsValidBefore}

-- All parts that are functions, by address.
abbrev pub AreFunctionParts : Elf → List (ℕ × ℕ) → List Part → Type 0
AreFunctionParts elf tabled parts = ListsAll (λ p. IsFunctionPart elf tabled p.start p.end) Precedes parts

-- All parts that are functions and end at or before `bound`.
pub record AreFunctionsBefore (elf : Elf) (tabled : List (ℕ × ℕ)) (bound : ℕ) (parts : List Part) : Type 0 where
  pub only : (p : Part) → Contains parts p → IsFunctionPart elf tabled p.start p.end
  pub each : (p : Part) → IsFunctionPart elf tabled p.start p.end → p.end ≤ bound → Contains parts p
  pub ordered : AllPairs Precedes parts
  pub below : (p : Part) → Contains parts p → p.end ≤ bound

-- The instruction at address `a` ends at `end`, and falls through to the code there.
pub record FallsAt (elf : Elf) (end a : ℕ) : Type 0 where
  pub inst : Inst
  pub bytes : ℕ
  pub valid : IsValidBefore elf end a inst bytes
  pub ends : a + bytes ≡ end
  pub falls_out : falls (action_of inst) true ≡ true

-- The last instruction of a part ends at the end of the part, and falls through.
pub record FallsOut (elf : Elf) (start end : ℕ) : Type 0 where
  pub last : ℕ
  pub starts : StartsIn elf start end last
  pub falls_there : FallsAt elf end last

-- A function that ends at `start` falls through to the part that starts there.
pub record IsEntered (elf : Elf) (tabled : List (ℕ × ℕ)) (start : ℕ) : Type 0 where
  pub before : ℕ
  pub function : IsFunctionPart elf tabled before start
  pub falls_in : FallsOut elf before start

-- A reference goes to an instruction of the part.
pub record HasReferred (elf : Elf) (tabled : List (ℕ × ℕ)) (start end : ℕ) : Type 0 where
  pub place : ℕ
  pub starts : StartsIn elf start end place
  pub referred_there : IsReferred elf tabled place
