-- A step of the symbol machine that isn't stuck is matched by at most three steps of the byte machine: one jump may come before and one
-- after the output's instruction for it.
use Rattle.std.proofs.Common.{◌≡◌, ℕ, zero, suc, ◌%◌, ◌<◌, ◌≤◌, [], Option, Some, None, Bool, true, false, refl, subst, arith, ℤ}
use Rattle.std.specs.Prelude.{if◌then◌else◌, ◌==◌, Contains}
use Rattle.std.proofs.lemmas.Grind.{common_steps}
use Rattle.rv_code.specs.declared.action.Action.{Action}
use Rattle.rv_code.specs.declared.action.Action.TheVariants.{Jump}
use Rattle.rv_code.specs.declared.placed.Placed.{Placed}
use Rattle.rv_code.specs.isa.Action.{action_of}
use Rattle.rv_code.specs.layout.Flow.{placed_at, action_at, insts_of}
use Rattle.rv_code.specs.machine.Machine.{plus, events, Going, Ended, Halts, SoFar, more, Run}
use Rattle.rv_code.specs.machine.Step.{ByteState, ByteOutcome, Steps}
use Rattle.rv_code.specs.machine.Step as byte
use Rattle.rv_code.specs.isa.TwosComplement.{unsigned64}
use Rattle.elf_image.specs.declared.segment.TheConstants.{PF_X}
use Rattle.rv_code.specs.layout.FunctionLists.{address_end}
use Rattle.sym_machine.specs.declared.outcome.Reason.TheVariants as reason
use Rattle.sym_machine.specs.SymStep.{SymState, SymOutcome, sym_step, needs}
use Rattle.move_law.specs.Rewrite.{Rewrite, width_at, out, Goes}
use Rattle.elf_image.specs.memory.Executables.{IsCodeByte}
use Rattle.move_law.specs.SimulationRelation.{SimulationRelation, RelatedData}
use Rattle.move_law.specs.FaithfulRewrite.{KeepsInst}
use Rattle.move_law.specs.Laws.{KeepsCode, StepsMatched, EndingsMatched}
use Rattle.move_law.proofs.steps.Fetching.{HasCode, steps_at, Arrives, arrive}
use Rattle.move_law.proofs.files.Executables.{loaded_byte, byte_low}
use Rattle.move_law.proofs.steps.Outcomes.{Follows, moved_data}
use Rattle.move_law.proofs.steps.Premises.{may_be_left_out, Facts}
use Rattle.move_law.proofs.steps.Instructions.{Kept, step_of, kept_at}
use Rattle.move_law.proofs.code.InstLists.{found_at}

-- Instructions that may be left out.

pub data MayBeLeftOut (a : Action) : Type 0 where
  left_out : (imm : ℤ) → a ≡ Jump 0 imm → MayBeLeftOut a
  stays : may_be_left_out a ≡ false → MayBeLeftOut a

pub by_leaving_out : (a : Action) → MayBeLeftOut a
by_leaving_out (Jump zero imm) = left_out imm refl
by_leaving_out (Jump (suc rd) imm) = stays refl
by_leaving_out _ = stays refl

-- a jump that saves no return address changes only the pc
pub jump_goes : (r : Rewrite) (p : Placed) (s : SymState) (imm : ℤ) → action_at p ≡ Jump 0 imm →
    step_of r p s ≡ Going (record s { pc = plus s.pc (unsigned64 imm) }) None
jump_goes r p s imm e = rw e refl

-- The output's code in a state.

pub code_of : (r : Rewrite) → ((a : ℕ) → IsCodeByte r.output a → a < address_end) → (c : SymState) (b : ByteState) →
    RelatedData r c b → HasCode r.output b
code_of r low c b rel = grind (arith, common_steps, loaded_byte)

pub code_is_low : (r : Rewrite) → KeepsCode r → (a : ℕ) → IsCodeByte r.output a → a < address_end
code_is_low r keeps a is = let found = loaded_byte r.output PF_X a is.0 in byte_low r.output keeps.output a found.0 found.1

-- Steps.

abbrev IsMatched : Rewrite → ByteState → SymOutcome → Type 0
IsMatched r b (Going d e) =
    (m : ℕ) × (m ≤ 3) × (t : ByteState) × SoFar Steps b m (events e) t × SimulationRelation r (Goes r.output) d t
IsMatched r b (Ended k) = (m : ℕ) × (m ≤ 3) × Run Steps b m [] k
IsMatched r b (Halts p why) = Unit {0}

module _ (r : Rewrite) (low : (a : ℕ) → IsCodeByte r.output a → a < address_end) (c : SymState) (b : ByteState)
    (rel : RelatedData r c b) (even : b.pc % 2 ≡ 0) (goes : Goes r.output b.pc (out r c.pc)) where
  -- if an instruction was left out, control goes on from its new address
  left_out_matched : (q : ℕ) → Goes r.output (out r c.pc) (out r q) → IsMatched r b (Going (record c { pc = q }) None)
  left_out_matched q there =
      let a = arrive r.output b (out r c.pc) (code_of r low c b rel) even goes in
      let few = a.few in (
        a.steps,
        omega (arith, few),
        record b { pc = out r c.pc },
        a.so_far,
        record { pc = λ _. (a.even, there); rest = moved_data r c b q (out r c.pc) rel },
      )

  kept_matched : (o : SymOutcome) → Kept r (Goes r.output) c o → IsMatched r b o
  kept_matched o k =
      cases (arrive r.output b (out r c.pc) (code_of r low c b rel) even goes) o
      (byte.effect (action_of k.inst) (plus (out r c.pc) (width_at r.output (out r c.pc))) there)
      (λ ev. steps_at r.output there (code_of r low c there rel') k.inst ev k.has) (λ ev. k.keeps there rel' refl ev)
    where
      there : ByteState
      there = record b { pc = out r c.pc }

      rel' : RelatedData r c there
      rel' = moved_data r c b c.pc (out r c.pc) rel

      cases : Arrives b (out r c.pc) → (o : SymOutcome) (t : ByteOutcome) → (out r c.pc % 2 ≡ 0 → Steps there t) →
          (out r c.pc % 2 ≡ 0 → Follows r (Goes r.output) o t) → IsMatched r b o
      cases a o t step f = by o t (step a.even) (f a.even)
        where
          by : (o : SymOutcome) (t : ByteOutcome) → Steps there t → Follows r (Goes r.output) o t → IsMatched r b o
          by (Halts q why) t step f = tt
          by (Going d e) (Going u g) step f =
              let few = a.few in
              (suc a.steps, omega (arith, few), u, more e a.so_far (rw f.0 step), record { pc = f.2; rest = f.1 })
          by (Going d e) (Ended k) step f = absurd f
          by (Going d e) (Halts q why) step f = absurd f
          by (Ended j) (Ended k) step f =
              let few = a.few in (
                suc a.steps,
                omega (arith, few),
                record { before = a.steps; last = refl; state = there; so_far = a.so_far; ends = rw f step },
              )
          by (Ended j) (Going u g) step f = absurd f
          by (Ended j) (Halts q why) step f = absurd f

-- the facts of a faithful rewrite's instructions
pub record RewriteFacts (r : Rewrite) : Type 0 where
  pub facts : Facts r (Goes r.output)
  pub every : (p : Placed) → Contains (insts_of r.code.funcs) p → KeepsInst r (Goes r.output) p

step_matched : (r : Rewrite) → ((a : ℕ) → IsCodeByte r.output a → a < address_end) → RewriteFacts r →
    (c : SymState) (b : ByteState) →
    SimulationRelation r (Goes r.output) c b → IsMatched r b (sym_step r.code.funcs c)
step_matched r low known c b rel = even_pc (c.pc % 2 == 0)
  where
    by_action : (p : Placed) → placed_at r.code.funcs c.pc ≡ Some p → b.pc % 2 ≡ 0 → Goes r.output b.pc (out r c.pc) →
        MayBeLeftOut (action_at p) → IsMatched r b (step_of r p c)
    by_action p there even goes (stays e) =
        kept_matched r low c b rel.rest even goes (step_of r p c) (kept_at r (Goes r.output) known.facts c p there e)
    by_action p there even goes (left_out imm e) =
        let found = found_at r.code.funcs c.pc p there in
        let keeps = known.every p found.contains in
        let from : Goes r.output (out r p.addr) (out r (plus p.addr (unsigned64 imm))) = rw e at keeps in
        let from' : Goes r.output (out r c.pc) (out r (plus c.pc (unsigned64 imm))) =
        subst (λ (a : ℕ). Goes r.output (out r a) (out r (plus a (unsigned64 imm)))) found.at from in
        rw (jump_goes r p c imm e) (left_out_matched r low c b rel.rest even goes (plus c.pc (unsigned64 imm)) from')

    by : (o : Option Placed) → placed_at r.code.funcs c.pc ≡ o → IsMatched r b (needs c reason.FellOff o (λ p. step_of r p c))
    by None e = tt
    by (Some p) e = let at = rel.pc (rw e refl) in by_action p e at.0 at.1 (by_leaving_out (action_at p))

    even_pc : (t : Bool) →
        IsMatched r b (needs c reason.FellOff (if t then placed_at r.code.funcs c.pc else None) (λ p. step_of r p c))
    even_pc false = tt
    even_pc true = by (placed_at r.code.funcs c.pc) refl

abbrev pub HasFacts : Type 0
HasFacts = (r : Rewrite) → KeepsCode r → RewriteFacts r

pub steps_matched : HasFacts → StepsMatched
steps_matched known r keeps c d b e rel step =
    subst (λ (o : SymOutcome). IsMatched r b o) step (step_matched r (code_is_low r keeps) (known r keeps) c b rel)

pub endings_matched : HasFacts → EndingsMatched
endings_matched known r keeps c b status rel step =
    subst (λ (o : SymOutcome). IsMatched r b o) step (step_matched r (code_is_low r keeps) (known r keeps) c b rel)
