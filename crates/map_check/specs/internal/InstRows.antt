-- Single instructions of a rewrite, in the terms of the code.
use Rattle.rv_code.specs.declared.inst.Inst.TheVariants.{Jal}
use Rattle.rv_code.specs.machine.Machine.{plus}
use Rattle.rv_code.specs.isa.TwosComplement.{unsigned64}
use Rattle.elf_image.specs.faults.LowestPlace.{IsLowest}
use Rattle.std.specs.Prelude.{IsPermutation, All, IfNone, ◌≡◌, ◌≢◌, ◌==◌, ◌&&◌, false, ℕ, ℤ, Bool, List, Option, Some}
use Rattle.std.specs.Prelude.{None, AllPairs, find}
use Rattle.rv_code.specs.declared.inst.Inst.{Inst}
use Rattle.rv_code.specs.declared.placed.Placed.{Placed}
use Rattle.rv_code.specs.declared.action.Test.{Test}
use Rattle.rv_code.specs.declared.action.Action.TheVariants.{Branch}
use Rattle.rv_code.specs.isa.Action.{action_of}
use Rattle.elf_image.specs.declared.elf.Elf.{Elf}
use Rattle.addr_map.specs.declared.span.Span.{Span}
use Rattle.addr_map.specs.Spans.{is_of}
use Rattle.move_law.specs.Rewrite.{Rewrite, width_at, out, Goes}
use Rattle.elf_image.specs.memory.Executables.{executable_read}
use Rattle.move_law.specs.FaithfulRewrite.{GoesOn, HasInSpan, KeepsInst, GetsToNext}
use Rattle.map_check.specs.Lacking.{LacksAt}
use Rattle.map_check.specs.declared.insts.Demand.{Demand}
use Rattle.map_check.specs.declared.insts.Demand.TheVariants.{Kept, Followed}
use Rattle.map_check.specs.declared.found.Found.{Found}

-- the output that was read, and the spans in order of their inputs, all of which differ
pub record IsChecked (r : Rewrite) (output : Elf) (table : List Span) : Type 0 where
  pub output_is : r.output ≡ executable_read output
  pub there : IsPermutation r.spans table
  pub back : IsPermutation table r.spans
  pub finds : (a : ℕ) → find (is_of a) r.spans ≡ find (is_of a) table
  pub once : AllPairs (λ s t. s.input ≢ t.input) r.spans

-- f is the one instruction in the span of an instruction of the input
pub record IsInSpan (r : Rewrite) (p : Placed) (f : Found) : Type 0 where
  pub has : HasInSpan r p f.inst
  pub out_is : f.out ≡ out r p.addr
  pub width_is : f.width ≡ width_at r.output (out r p.addr)
  pub only : (other : Inst) → HasInSpan r p other → other ≡ f.inst

abbrev pub FindsInSpan : Rewrite → Placed → Option Found → Type 0
FindsInSpan r p None = (inst : Inst) → HasInSpan r p inst → ⊥
FindsInSpan r p (Some f) = IsInSpan r p f

-- a branch on `test` of the registers `rs1` and `rs2`: whether it branches if the test holds, and its offset
abbrev pub FindsBranch : Test → ℕ → ℕ → Inst → Option (Bool × ℤ) → Type 0
FindsBranch test rs1 rs2 inst None = (wanted : Bool) (imm : ℤ) → action_of inst ≡ Branch test wanted rs1 rs2 imm → ⊥
FindsBranch test rs1 rs2 inst (Some b) = action_of inst ≡ Branch test b.0 rs1 rs2 b.1

-- control gets from `yes_place` to the new address of `target`, and from `no_place` to the next instruction
pub record Leads (r : Rewrite) (p : Placed) (yes_place no_place target : ℕ) : Type 0 where
  pub to_target : Goes r.output yes_place (out r target)
  pub to_next : GetsToNext r (Goes r.output) p no_place

-- an instruction at `from` is a JAL that saves the return address in `rd`, and goes to `to`
abbrev pub calls_to : Inst → ℕ → ℕ → ℕ → Bool
calls_to (Jal found imm) rd from to = found == rd && plus from (unsigned64 imm) == to
calls_to _ rd from to = false

-- P holds for all instructions, or `o` is the lowest address of an instruction for which it doesn't
pub record IsJudgedOf (P : Placed → Type 0) (insts : List Placed) (o : Option ℕ) : Type 0 where
  pub all : IfNone o (All P insts)
  pub lowest : IsLowest (LacksAt P (λ p. p.addr) insts) o

-- the condition on an instruction
abbrev pub Meets : Demand → Rewrite → Placed → Type 0
Meets Kept r = KeepsInst r (Goes r.output)
Meets Followed r = GoesOn r (Goes r.output)
