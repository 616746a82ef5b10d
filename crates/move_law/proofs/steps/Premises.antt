-- What the simulation of one step needs of the two files and the map: the interface between the facts of files and the cases of
-- instructions.
use Rattle.std.proofs.Common.{◌≡◌, ℕ, zero, ◌<◌, ◌^◌, Bool, true, false}
use Rattle.std.specs.Prelude.{Contains}
use Rattle.rv_code.specs.declared.inst.Inst.{Inst}
use Rattle.rv_code.specs.declared.action.Action.{Action}
use Rattle.rv_code.specs.declared.action.Action.TheVariants.{Jump}
use Rattle.rv_code.specs.declared.placed.Placed.{Placed}
use Rattle.rv_code.specs.declared.placed.Role.{Role}
use Rattle.rv_code.specs.declared.placed.Role.TheVariants as role
use Rattle.rv_code.specs.layout.ProgramCode.{IsNamed}
use Rattle.rv_code.specs.layout.Flow.{insts_of, action_at}
use Rattle.sym_machine.specs.declared.value.CodeSymbol.TheVariants.{Hi, Abs}
use Rattle.move_law.specs.Rewrite.{Rewrite, out}
use Rattle.move_law.specs.RelocatedValues.{target_at}
use Rattle.move_law.specs.SimulationRelation.{IsGiven}
use Rattle.move_law.specs.FaithfulRewrite.{KeepsInst, GoesOn}
use Rattle.move_law.proofs.steps.Outcomes.{SameSpaces}
use Rattle.move_law.proofs.values.Arithmetic.{Symbols, Label}
use Rattle.rv_code.specs.isa.AddressParts.{IsAuipc, IsLui, TakesLower}

-- an AUIPC and its target
pub record UpperFits (r : Rewrite) (a target : ℕ) : Type 0 where
  pub low : out r a < 2 ^ 31
  pub label : Label r target

-- a lower part and its AUIPC, if the AUIPC has a target
pub record LowerFits (r : Rewrite) (hi target : ℕ) : Type 0 where
  pub label : Label r target
  pub same : IsGiven r (Hi hi) → (target_at r.code.funcs hi ≡ target) × (out r hi < 2 ^ 31)

abbrev pub Fits : Rewrite → ℕ → Role → Inst → Type 0
Fits r a role.Plain inst = Unit {0}
Fits r a (role.Hi target) inst = IsAuipc inst × UpperFits r a target
Fits r a (role.CallHi target) inst = IsAuipc inst × UpperFits r a target
Fits r a (role.Lo hi target) inst = TakesLower inst × LowerFits r hi target
Fits r a (role.CallLo hi target) inst = TakesLower inst × LowerFits r hi target
Fits r a (role.AbsHi target) inst = IsLui inst × IsGiven r (Abs target) × Label r target
Fits r a (role.AbsLo target) inst = TakesLower inst × IsNamed r.code target × Label r target

-- a JAL that saves no return address may be left out
abbrev pub may_be_left_out : Action → Bool
may_be_left_out (Jump zero imm) = true
may_be_left_out _ = false

-- L relates two addresses of the output if control gets from the first to the second.
pub record Facts (r : Rewrite) (L : ℕ → ℕ → Type 0) : Type 0 where
  pub symbols : Symbols r
  pub spaces : SameSpaces r
  pub here : (p q : ℕ) → p ≡ q → L p q
  pub insts : (p : Placed) → Contains (insts_of r.code.funcs) p → may_be_left_out (action_at p) ≡ false → KeepsInst r L p
  pub goes_on : (p : Placed) → Contains (insts_of r.code.funcs) p → GoesOn r L p
  pub roles : (p : Placed) → Contains (insts_of r.code.funcs) p → Fits r p.addr p.role p.inst
