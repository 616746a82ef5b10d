-- If nothing moved, the machines run in lock-step: each step of the symbol machine that isn't stuck is one step of the byte machine.
use Rattle.std.proofs.Common.{◌≡◌, ℕ, ◌%◌, ◌<◌, List, Option, Some, None, Bool, true, false, refl, sym, subst, ℤ}
use Rattle.std.specs.Prelude.{if◌then◌else◌, ◌==◌, Contains}
use Rattle.rv_code.specs.declared.inst.Inst.TheVariants.{Jal}
use Rattle.rv_code.specs.declared.action.Action.TheVariants.{Jump}
use Rattle.rv_code.specs.declared.placed.Placed.{Placed}
use Rattle.rv_code.specs.isa.Action.{action_of}
use Rattle.rv_code.specs.isa.TwosComplement.{unsigned64}
use Rattle.rv_code.specs.layout.Flow.{insts_of, placed_at, action_at}
use Rattle.rv_code.specs.machine.Machine.{plus, Event, Going, Ended, Halts, SoFar, starts, more, Run}
use Rattle.rv_code.specs.machine.Step.{ByteState, ByteOutcome, Steps}
use Rattle.rv_code.specs.machine.Step as byte
use Rattle.rv_code.specs.layout.FunctionLists.{address_end}
use Rattle.sym_machine.specs.declared.outcome.Reason.TheVariants as reason
use Rattle.sym_machine.specs.SymStep.{SymState, SymOutcome, SymSteps, sym_step, needs}
use Rattle.move_law.specs.Rewrite.{Rewrite, width_at, out, HasAt}
use Rattle.elf_image.specs.memory.Executables.{IsCodeByte}
use Rattle.move_law.specs.SimulationRelation.{SimulationRelation, RelatedData}
use Rattle.move_law.proofs.steps.Fetching.{steps_at, even_plus}
use Rattle.move_law.proofs.steps.Outcomes.{Follows, moved_data}
use Rattle.move_law.proofs.steps.Premises.{Facts}
use Rattle.move_law.proofs.steps.Instructions.{Kept, step_of, kept_at, offset_even}
use Rattle.move_law.proofs.steps.Matching.{MayBeLeftOut, left_out, stays, by_leaving_out, jump_goes, code_of}
use Rattle.move_law.proofs.code.InstLists.{found_at}

-- control is already at the address
abbrev pub Same : ℕ → ℕ → Type 0
Same p q = p ≡ q

-- a jump that saves no return address is in the output, and goes to the new address of its target
pub record JumpStays (r : Rewrite) (p : Placed) (imm : ℤ) : Type 0 where
  pub has : HasAt r.output (out r p.addr) (Jal 0 imm)
  pub goes_to : plus (out r p.addr) (unsigned64 imm) ≡ out r (plus p.addr (unsigned64 imm))

pub record LockStepFacts (r : Rewrite) : Type 0 where
  pub low : (a : ℕ) → IsCodeByte r.output a → a < address_end
  pub facts : Facts r Same
  pub jumps : (p : Placed) → Contains (insts_of r.code.funcs) p → (imm : ℤ) → action_at p ≡ Jump 0 imm → JumpStays r p imm

abbrev IsOne : Rewrite → ByteState → SymOutcome → Type 0
IsOne r b (Going d e) = (t : ByteState) × Steps b (Going t e) × SimulationRelation r Same d t
IsOne r b (Ended k) = Steps b (Ended k)
IsOne r b (Halts p why) = Unit {0}

module _ (r : Rewrite) (known : LockStepFacts r) where
  module _ (c : SymState) (b : ByteState) (rel : RelatedData r c b) (even : b.pc % 2 ≡ 0) (at : b.pc ≡ out r c.pc) where
    kept_one : (o : SymOutcome) → Kept r Same c o → IsOne r b o
    kept_one o k =
        let there : HasAt r.output b.pc k.inst = subst (λ (q : ℕ). HasAt r.output q k.inst) (sym at) k.has in
        cases o (byte.effect (action_of k.inst) (plus b.pc (width_at r.output b.pc)) b)
        (steps_at r.output b (code_of r known.low c b rel) k.inst even there)
        (subst (λ (q : ℕ). Follows r Same o (byte.effect (action_of k.inst) (plus b.pc (width_at r.output q)) b)) (sym at)
        (k.keeps b rel at even))
      where
        cases : (o : SymOutcome) (t : ByteOutcome) → Steps b t → Follows r Same o t → IsOne r b o
        cases (Halts q why) t step f = tt
        cases (Going d e) (Going u g) step f = (u, rw f.0 step, record { pc = f.2; rest = f.1 })
        cases (Going d e) (Ended k) step f = absurd f
        cases (Going d e) (Halts q why) step f = absurd f
        cases (Ended j) (Ended k) step f = rw f step
        cases (Ended j) (Going u g) step f = absurd f
        cases (Ended j) (Halts q why) step f = absurd f

    jump_one : (imm : ℤ) → HasAt r.output (out r c.pc) (Jal 0 imm) →
        plus (out r c.pc) (unsigned64 imm) ≡ out r (plus c.pc (unsigned64 imm)) →
        IsOne r b (Going (record c { pc = plus c.pc (unsigned64 imm) }) None)
    jump_one imm has goes_to =
        let there : HasAt r.output b.pc (Jal 0 imm) = subst (λ (p : ℕ). HasAt r.output p (Jal 0 imm)) (sym at) has in
        let to : plus b.pc (unsigned64 imm) ≡ out r (plus c.pc (unsigned64 imm)) = rw at goes_to in
        let even_to = even_plus b.pc (unsigned64 imm) even (offset_even r.output b.pc (Jal 0 imm) there) in (
          record b { pc = plus b.pc (unsigned64 imm) },
          steps_at r.output b (code_of r known.low c b rel) (Jal 0 imm) even there,
          record {
            pc = λ _. (even_to, to);
            rest = moved_data r c b (plus c.pc (unsigned64 imm)) (plus b.pc (unsigned64 imm)) rel;
          },
        )

  one_step : (c : SymState) (b : ByteState) → SimulationRelation r Same c b → IsOne r b (sym_step r.code.funcs c)
  one_step c b rel = even_pc (c.pc % 2 == 0)
    where
      by_action : (p : Placed) → placed_at r.code.funcs c.pc ≡ Some p → b.pc % 2 ≡ 0 → b.pc ≡ out r c.pc →
          MayBeLeftOut (action_at p) → IsOne r b (step_of r p c)
      by_action p there even at (stays e) =
          kept_one c b rel.rest even at (step_of r p c) (kept_at r Same known.facts c p there e)
      by_action p there even at (left_out imm e) =
          let found = found_at r.code.funcs c.pc p there in
          let j = known.jumps p found.contains imm e in
          let has : HasAt r.output (out r c.pc) (Jal 0 imm) =
          subst (λ (a : ℕ). HasAt r.output (out r a) (Jal 0 imm)) found.at j.has in
          let to : plus (out r c.pc) (unsigned64 imm) ≡ out r (plus c.pc (unsigned64 imm)) =
          subst (λ (a : ℕ). plus (out r a) (unsigned64 imm) ≡ out r (plus a (unsigned64 imm))) found.at j.goes_to in
          rw (jump_goes r p c imm e) (jump_one c b rel.rest even at imm has to)

      by : (o : Option Placed) → placed_at r.code.funcs c.pc ≡ o → IsOne r b (needs c reason.FellOff o (λ p. step_of r p c))
      by None e = tt
      by (Some p) e = let at = rel.pc (rw e refl) in by_action p e at.0 at.1 (by_leaving_out (action_at p))

      even_pc : (t : Bool) →
          IsOne r b (needs c reason.FellOff (if t then placed_at r.code.funcs c.pc else None) (λ p. step_of r p c))
      even_pc false = tt
      even_pc true = by (placed_at r.code.funcs c.pc) refl

  record Reached (b : ByteState) (n : ℕ) (trace : List Event) (d : SymState) : Type 0 where
    state : ByteState
    so_far : SoFar Steps b n trace state
    related : SimulationRelation r Same d state

  steps : (c : SymState) (b : ByteState) → SimulationRelation r Same c b → {n : ℕ} {trace : List Event} {d : SymState} →
      SoFar (SymSteps r.code.funcs) c n trace d → Reached b n trace d
  steps c b rel starts = record { state = b; so_far = starts; related = rel }
  steps c b rel (more {n = n} {trace = trace} {t = v} {u = d} e w step) =
      let a = steps c b rel w in
      let s : IsOne r a.state (Going d e) = subst (λ (o : SymOutcome). IsOne r a.state o) step (one_step v a.state a.related) in
      record { state = s.0; so_far = more e a.so_far s.1; related = s.2 }

  -- a run is a run with the same number of steps
  pub same_run : (c : SymState) (b : ByteState) → SimulationRelation r Same c b → (n : ℕ) (trace : List Event) (status : ℕ) →
      Run (SymSteps r.code.funcs) c n trace status → Run Steps b n trace status
  same_run c b rel n trace status run =
      let a = steps c b rel run.so_far in
      record {
        before = run.before;
        last = run.last;
        state = a.state;
        so_far = a.so_far;
        ends = subst (λ (o : SymOutcome). IsOne r a.state o) run.ends (one_step run.state a.state a.related);
      }
