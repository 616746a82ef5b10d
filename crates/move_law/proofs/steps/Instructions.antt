-- The output's instruction for an instruction of the input has an outcome that follows the symbol machine's.
use Rattle.std.proofs.Common.{◌≡◌, ℕ, zero, suc, ◌%◌, ◌<◌, Option, Some, None, Bool, true, false, refl, ap, ◌∙◌, subst, arith, inl, inr, ℤ}
use Rattle.std.specs.Prelude.{if◌then◌else◌, not, IsTrue, IsSomeAnd, IfSome, Contains, is_some, option_map}
use Rattle.rv_code.specs.declared.inst.Inst.{Inst}
use Rattle.rv_code.specs.declared.inst.Inst.TheVariants.{Jal, Sb, Sh, Sw, Sd, Beq, Bne, Blt, Bge, Bltu, Bgeu}
use Rattle.rv_code.specs.declared.action.Test.{Test}
use Rattle.rv_code.specs.declared.action.Action.{Action}
use Rattle.rv_code.specs.declared.action.Action.TheVariants.{Compute, Branch, Jump, JumpTo, Upper, UpperPc, Load, Store}
use Rattle.rv_code.specs.declared.action.Action.TheVariants.{SystemCall, Breakpoint}
use Rattle.rv_code.specs.declared.action.Action.TheVariants as action
use Rattle.rv_code.specs.declared.placed.Placed.{Placed}
use Rattle.rv_code.specs.isa.Action.{action_of}
use Rattle.rv_code.specs.layout.Flow.{insts_of, placed_at, action_at, is_call, next_of}
use Rattle.rv_code.specs.machine.Machine.{plus}
use Rattle.rv_code.specs.isa.Op.{holds}
use Rattle.rv_code.specs.machine.Step.{ByteState}
use Rattle.rv_code.specs.machine.Step as byte
use Rattle.rv_code.specs.isa.TwosComplement.{unsigned64}
use Rattle.sym_machine.specs.declared.value.Pointer.{Pointer}
use Rattle.sym_machine.specs.declared.value.Pointer.TheVariants.{Code, Ret}
use Rattle.sym_machine.specs.declared.value.CodeSymbol.TheVariants.{Hi}
use Rattle.sym_machine.specs.Rules.{tested, destination}
use Rattle.sym_machine.specs.SymStep.{SymState, SymOutcome}
use Rattle.sym_machine.specs.SymStep as symbol
use Rattle.move_law.specs.Rewrite.{Rewrite, width_at, out, inst_end, HasAt}
use Rattle.elf_image.specs.memory.Executables.{Executable}
use Rattle.move_law.specs.RelocatedValues.{target_at, upper_target, number_of_pointer}
use Rattle.move_law.specs.SimulationRelation.{IsGivenPointer, IsGiven, HasTarget, RelatedData, RelatedPc}
use Rattle.move_law.specs.FaithfulRewrite.{next, GetsToNext, made_anew, goes_on, HasInSpan, KeepsCall, KeepsBranch, same, opposite}
use Rattle.move_law.specs.FaithfulRewrite.{KeepsAction}
use Rattle.rv_code.proofs.isa.EvenOffsets.{EvenOffset, even_offset}
use Rattle.move_law.proofs.steps.Fetching.{even_plus}
use Rattle.move_law.proofs.values.Arithmetic.{tested_stands}
use Rattle.move_law.proofs.values.StoredValues.{IsSize}
use Rattle.move_law.proofs.steps.Outcomes.{Follows}
use Rattle.move_law.proofs.steps.Jumps as branches
use Rattle.move_law.proofs.steps.Actions.{IsPlain, IsNoJump, arm, is_saving}
use Rattle.move_law.proofs.steps.Premises.{may_be_left_out, Facts}
use Rattle.move_law.proofs.code.InstLists.{found_at}
use Rattle.std.proofs.lemmas.Option.{same_Some}
use Rattle.std.proofs.lemmas.Grind.{common_steps}
use Rattle.rb_bytes.proofs.ListLemmas.{if_found}

-- Widths and offsets.

pub width_even : (x : Executable) (p : ℕ) (inst : Inst) → HasAt x p inst → width_at x p % 2 ≡ 0
width_even x p inst has = grind (arith, common_steps)

pub width_some : (x : Executable) (p : ℕ) (inst : Inst) → HasAt x p inst → 0 < width_at x p
width_some x p inst has = grind (arith, common_steps)

pub offset_even : (x : Executable) (p : ℕ) (inst : Inst) → HasAt x p inst → EvenOffset inst
offset_even x p inst has = grind (arith, common_steps, even_offset)

abbrev EvenBranch : Action → Type 0
EvenBranch (Branch test wanted rs1 rs2 imm) = unsigned64 imm % 2 ≡ 0
EvenBranch _ = Unit {0}

even_branch : (i : Inst) → EvenOffset i → EvenBranch (action_of i)
even_branch (Beq rs1 rs2 imm) h = h
even_branch (Bne rs1 rs2 imm) h = h
even_branch (Blt rs1 rs2 imm) h = h
even_branch (Bge rs1 rs2 imm) h = h
even_branch (Bltu rs1 rs2 imm) h = h
even_branch (Bgeu rs1 rs2 imm) h = h
even_branch _ h = tt

branch_even :
    (test : Test) (wanted : Bool) (rs1 rs2 : ℕ) (imm : ℤ) (i : Inst) → action_of i ≡ Branch test wanted rs1 rs2 imm →
    EvenOffset i →
    unsigned64 imm % 2 ≡ 0
branch_even test wanted rs1 rs2 imm i e h = subst EvenBranch e (even_branch i h)

-- Actions.

abbrev Sized : Action → Type 0
Sized (Store n rs1 rs2 imm) = IsSize n
Sized _ = Unit {0}

sized : (i : Inst) → Sized (action_of i)
sized (Sb rs1 rs2 imm) = inl refl
sized (Sh rs1 rs2 imm) = inr (inl refl)
sized (Sw rs1 rs2 imm) = inr (inr (inl refl))
sized (Sd rs1 rs2 imm) = inr (inr (inr refl))
sized _ = tt

quiet : (a : Action) → IsPlain a → IsNoJump a → (goes_on a ≡ true) × (is_call a ≡ false)
quiet (Branch test wanted rs1 rs2 imm) h k = absurd h
quiet (Jump rd imm) h k = absurd h
quiet (JumpTo rd rs1 imm) h k = absurd k
quiet _ h k = (refl, refl)

-- after a call control goes on
call_goes_on : (a : Action) → is_call a ≡ true → goes_on a ≡ true
call_goes_on (Jump rd imm) e = e
call_goes_on (JumpTo rd rs1 imm) e = e
call_goes_on (Branch test wanted rs1 rs2 imm) e = absurd (cc)
call_goes_on _ e = refl

wanted_effect :
    (test : Test) (wanted : Bool) (rs1 rs2 : ℕ) (imm : ℤ) (next : ℕ) (u : ByteState) →
    byte.effect (Branch test wanted rs1 rs2 imm) next u
    ≡ byte.branches u next (plus u.pc (unsigned64 imm))
    (if wanted then holds test (u.registers rs1) (u.registers rs2) else not (holds test (u.registers rs1) (u.registers rs2)))
wanted_effect test true rs1 rs2 imm next u = refl
wanted_effect test false rs1 rs2 imm next u = refl

-- How control goes on.

module _ (r : Rewrite) (L : ℕ → ℕ → Type 0) (facts : Facts r L) where
  -- after an instruction that isn't a call, control goes on at the next address
  next_leads :
      (p : Placed) (from : ℕ) → is_call (action_at p) ≡ false → from % 2 ≡ 0 → GetsToNext r L p from →
      RelatedPc r L (plus p.addr p.len) from
  next_leads p from no_call even go = by (placed_at r.code.funcs (plus p.addr p.len)) refl
    where
      go' : IfSome (option_map (λ q. q.addr) (placed_at r.code.funcs (plus p.addr p.len))) (λ a. L from (out r a))
      go' = rw no_call at go

      by : (o : Option Placed) → placed_at r.code.funcs (plus p.addr p.len) ≡ o → IsTrue (is_some o) →
          (from % 2 ≡ 0) × L from (out r (plus p.addr p.len))
      by None e k = absurd (cc)
      by (Some q) e k =
          let at = found_at r.code.funcs (plus p.addr p.len) q e in
          let go2 : L from (out r q.addr) = rw e at go' in
          (even, subst (λ (a : ℕ). L from (out r a)) at.at go2)

  -- a call returns to its end
  call_leads : (p : Placed) → Contains (insts_of r.code.funcs) p → is_call (action_at p) ≡ true →
      IfSome (next_of r.code.funcs p.addr) (λ a. L (inst_end r p.addr) (out r a))
  call_leads p contains call = grind (arith, common_steps, call_goes_on)

  -- the address to which a pointer leads
  reaches : (p : Pointer) (to : ℕ) → IsGivenPointer r p → destination r.code.funcs p ≡ Some to →
      RelatedPc r L to (number_of_pointer r p)
  reaches (Code a) to given e =
      let at : a ≡ to = same_Some a to e in
      λ there. ((facts.symbols.place (Code a) given).even, facts.here (out r a) (out r to) (ap (λ (n : ℕ). out r n) at))
  reaches (Ret a) to given e = by (placed_at r.code.funcs a) refl given
    where
      by : (o : Option Placed) → placed_at r.code.funcs a ≡ o → IsSomeAnd o (λ p. IsTrue (is_call (action_at p))) →
          RelatedPc r L to (inst_end r a)
      by None k h = absurd h
      by (Some p) k h =
          let at = found_at r.code.funcs a p k in
          let go : IfSome (next_of r.code.funcs a) (λ b. L (inst_end r a) (out r b)) =
          subst (λ (n : ℕ). IfSome (next_of r.code.funcs n) (λ b. L (inst_end r n) (out r b))) at.at
          (call_leads p at.contains h) in
          λ there. (
            (facts.symbols.place (Ret a) given).even,
            if_found (λ b. L (inst_end r a) (out r b)) (next_of r.code.funcs a) to e go,
          )

-- Instructions.

-- an instruction of the output has an outcome that follows the symbol machine's outcome o
pub record Kept (r : Rewrite) (L : ℕ → ℕ → Type 0) (s : SymState) (o : SymOutcome) : Type 0 where
  pub inst : Inst
  pub has : HasAt r.output (out r s.pc) inst
  pub keeps : (u : ByteState) → RelatedData r s u → u.pc ≡ out r s.pc → u.pc % 2 ≡ 0 →
      Follows r L o (byte.effect (action_of inst) (plus u.pc (width_at r.output (out r s.pc))) u)

-- the symbol machine's outcome of an instruction
abbrev pub step_of : Rewrite → Placed → SymState → SymOutcome
step_of r p s = symbol.effect r.code.funcs p.role (action_at p) (plus s.pc p.len) s

module _ (r : Rewrite) (L : ℕ → ℕ → Type 0) (facts : Facts r L) (p : Placed) (there : placed_at r.code.funcs p.addr ≡ Some p)
    (contains : Contains (insts_of r.code.funcs) p) (state : SymState) where
  saves : is_call (action_at p) ≡ true → IsGivenPointer r (Ret p.addr)
  saves call = rw there call

  given : HasTarget p.role → IsGiven r (Hi p.addr)
  given target = rw there target

  target_is : target_at r.code.funcs p.addr ≡ upper_target p.role
  target_is = rw there refl

  even_end : (u : ByteState) (inst : Inst) → HasAt r.output (out r p.addr) inst → u.pc % 2 ≡ 0 →
      plus u.pc (width_at r.output (out r p.addr)) % 2 ≡ 0
  even_end u inst has even = grind (arith, common_steps, even_plus, width_even)

  test_holds : (test : Test) (rs1 rs2 : ℕ) (u : ByteState) → RelatedData r (record state { pc = p.addr }) u →
      IfSome (tested test (state.registers rs1) (state.registers rs2)) (λ t. holds test (u.registers rs1) (u.registers rs2) ≡ t)
  test_holds test rs1 rs2 u rel = grind (arith, common_steps, tested_stands)

  plain : IsPlain (action_at p) → HasInSpan r p (made_anew (out r) p.addr p.role p.inst) →
      Kept r L (record state { pc = p.addr }) (step_of r p (record state { pc = p.addr }))
  plain is_plain k = record {
    inst = made_anew (out r) p.addr p.role p.inst;
    has = k.has;
    keeps = λ u rel here even.
        arm r L facts.symbols facts.spaces (record state { pc = p.addr }) u rel (plus p.addr p.len)
        (plus u.pc (width_at r.output (out r p.addr)))
        (rw here refl) (reaches r L facts) p.role p.inst is_plain (facts.roles p contains) here target_is given
        (λ no_jump.
        let q = quiet (action_at p) is_plain no_jump in
        let go : GetsToNext r L p (plus u.pc (width_at r.output (out r p.addr))) =
        rw here (facts.goes_on p contains (rw q.0 refl)) in
        next_leads r L facts p (plus u.pc (width_at r.output (out r p.addr))) q.1
        (even_end u (made_anew (out r) p.addr p.role p.inst) k.has even) go)
        saves;
  }

  call : (rd : ℕ) (imm : ℤ) → is_call (action_at p) ≡ true → KeepsCall r p (suc rd) (plus p.addr (unsigned64 imm)) →
      Kept r L (record state { pc = p.addr })
      (symbol.jumps (record state { pc = p.addr }) (suc rd) (plus p.addr (unsigned64 imm)))
  call rd imm is k = record {
    inst = Jal (suc rd) k.imm;
    has = k.has.has;
    keeps = λ u rel here even.
        let to : plus u.pc (unsigned64 k.imm) ≡ out r (plus p.addr (unsigned64 imm)) = rw here k.goes_to in
        branches.jumps r L (record state { pc = p.addr }) u rel (plus p.addr (unsigned64 imm))
        (plus u.pc (unsigned64 k.imm)) (suc rd)
        (plus u.pc (width_at r.output (out r p.addr)))
        (rw here refl) (λ n e. saves is)
        (λ _. (
          even_plus u.pc (unsigned64 k.imm) even (offset_even r.output (out r p.addr) (Jal (suc rd) k.imm) k.has.has),
          facts.here (plus u.pc (unsigned64 k.imm)) (out r (plus p.addr (unsigned64 imm))) to,
        ));
  }

  branch : (test : Test) (wanted : Bool) (rs1 rs2 : ℕ) (imm : ℤ) → is_call (action_at p) ≡ false →
      KeepsBranch r L p test wanted rs1 rs2 (plus p.addr (unsigned64 imm)) →
      Kept r L (record state { pc = p.addr })
      (symbol.branches (record state { pc = p.addr }) (plus p.addr p.len) (plus p.addr (unsigned64 imm)) wanted
      (tested test (state.registers rs1) (state.registers rs2)))
  branch test wanted rs1 rs2 imm no_call (same inst z has acts jump go) = record {
    inst = inst;
    has = has.has;
    keeps = λ u rel here even.
        let even_z = branch_even test wanted rs1 rs2 z inst acts (offset_even r.output (out r p.addr) inst has.has) in
        let go' : GetsToNext r L p (plus u.pc (width_at r.output (out r p.addr))) = rw here go in
        rw (acts, wanted_effect test wanted rs1 rs2 z (plus u.pc (width_at r.output (out r p.addr))) u)
        (branches.same_branch r L (record state { pc = p.addr }) u rel (plus p.addr p.len) (plus p.addr (unsigned64 imm))
        (plus u.pc (width_at r.output (out r p.addr))) (plus u.pc (unsigned64 z)) wanted
        (tested test (state.registers rs1) (state.registers rs2)) (holds test (u.registers rs1) (u.registers rs2))
        (test_holds test rs1 rs2 u rel)
        (next_leads r L facts p (plus u.pc (width_at r.output (out r p.addr))) no_call (even_end u inst has.has even) go')
        (λ _. (even_plus u.pc (unsigned64 z) even even_z, rw here jump)));
  }
  branch test wanted rs1 rs2 imm no_call (opposite inst z has acts jump go) = record {
    inst = inst;
    has = has.has;
    keeps = λ u rel here even.
        let even_z = branch_even test (not wanted) rs1 rs2 z inst acts (offset_even r.output (out r p.addr) inst has.has) in
        let go' : GetsToNext r L p (plus u.pc (unsigned64 z)) = rw here go in
        rw (acts, wanted_effect test (not wanted) rs1 rs2 z (plus u.pc (width_at r.output (out r p.addr))) u)
        (branches.opposite_branch r L (record state { pc = p.addr }) u rel (plus p.addr p.len) (plus p.addr (unsigned64 imm))
        (plus u.pc (width_at r.output (out r p.addr))) (plus u.pc (unsigned64 z)) wanted
        (tested test (state.registers rs1) (state.registers rs2)) (holds test (u.registers rs1) (u.registers rs2))
        (test_holds test rs1 rs2 u rel)
        (next_leads r L facts p (plus u.pc (unsigned64 z)) no_call (even_plus u.pc (unsigned64 z) even even_z) go')
        (λ _. (even_end u inst has.has even, rw here jump)));
  }

  by_action : (a : Action) → action_at p ≡ a → may_be_left_out a ≡ false → KeepsAction r L p a →
      Kept r L (record state { pc = p.addr }) (step_of r p (record state { pc = p.addr }))
  by_action (Jump zero imm) e stays k = absurd (cc)
  by_action (Jump (suc rd) imm) e stays k = rw e (call rd imm (ap is_call e ∙ is_saving (suc rd) rd refl) k)
  by_action (Branch test wanted rs1 rs2 imm) e stays k = rw e (branch test wanted rs1 rs2 imm (ap is_call e) k)
  by_action (Compute o rd left right) e stays k = plain (rw e tt) k
  by_action (JumpTo rd rs1 imm) e stays k = plain (rw e tt) k
  by_action (Upper rd imm) e stays k = plain (rw e tt) k
  by_action (UpperPc rd imm) e stays k = plain (rw e tt) k
  by_action (Load x rd rs1 imm) e stays k = plain (rw e tt) k
  by_action (Store n rs1 rs2 imm) e stays k = plain (let z : IsSize n = rw e at (sized p.inst) in rw e z) k
  by_action action.Fence e stays k = plain (rw e tt) k
  by_action SystemCall e stays k = plain (rw e tt) k
  by_action Breakpoint e stays k = plain (rw e tt) k

-- the pc of state s is at an instruction that isn't left out of the output
pub kept_at : (r : Rewrite) (L : ℕ → ℕ → Type 0) → Facts r L → (s : SymState) (p : Placed) →
    placed_at r.code.funcs s.pc ≡ Some p →
    may_be_left_out (action_at p) ≡ false → Kept r L s (step_of r p s)
kept_at r L facts s p there stays =
    let found = found_at r.code.funcs s.pc p there in
    let there' : placed_at r.code.funcs p.addr ≡ Some p = ap (placed_at r.code.funcs) found.at ∙ there in
    subst (λ (a : ℕ). Kept r L (record s { pc = a }) (step_of r p (record s { pc = a }))) found.at
    (by_action r L facts p there' found.contains s (action_at p) refl stays (facts.insts p found.contains stays))
