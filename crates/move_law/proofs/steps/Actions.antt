-- The action of an instruction of the input, and of the output's instruction for it.
use Rattle.std.proofs.Common.{◌≡◌, ℕ, zero, suc, ◌*◌, ◌/◌, ◌%◌, ◌^◌, ◌<◌, Option, Some, None, true, false, refl, sym, ap, ◌∙◌, rules}
use Rattle.std.proofs.Common.{subst, arith, inl, inr, ℤ, pos}
use Rattle.std.specs.Prelude.{◌==◌, ◌||◌, not, IfSome}
use Rattle.std.proofs.lemmas.Bool.{eqb-true, ne_eqb}
use Rattle.rv_code.specs.declared.inst.Inst.{Inst}
use Rattle.rv_code.specs.declared.inst.Inst.TheVariants.{Lui, Auipc, Jalr, Lb, Lh, Lw, Ld, Lbu, Lhu, Lwu, Sb, Sh, Sw, Sd, Addi}
use Rattle.rv_code.specs.declared.action.Extension.{Extension}
use Rattle.rv_code.specs.declared.action.Extension.TheVariants.{Signed8, Signed16, Signed32, Whole64, Zero8, Zero16, Zero32}
use Rattle.rv_code.specs.declared.action.Action.{Action}
use Rattle.rv_code.specs.declared.action.Action.TheVariants.{Compute, Branch, Jump, JumpTo, Upper, UpperPc, Load, Store}
use Rattle.rv_code.specs.declared.action.Action.TheVariants.{SystemCall, Breakpoint}
use Rattle.rv_code.specs.declared.action.Action.TheVariants as action
use Rattle.rv_code.specs.declared.placed.Role.{Role}
use Rattle.rv_code.specs.declared.placed.Role.TheVariants as role
use Rattle.rv_code.specs.isa.Action.{action_of}
use Rattle.rv_code.specs.layout.Flow.{is_call}
use Rattle.rv_code.specs.isa.HiLo.{hi20, lo12}
use Rattle.rv_code.specs.machine.Machine.{plus}
use Rattle.rv_code.specs.isa.Op.{apply}
use Rattle.rv_code.specs.machine.Step.{ByteState, operand, address}
use Rattle.rv_code.specs.machine.Step as byte
use Rattle.rv_code.specs.isa.TwosComplement.{unsigned64}
use Rattle.sym_machine.specs.declared.value.Pointer.{Pointer}
use Rattle.sym_machine.specs.declared.value.Pointer.TheVariants.{Code, Ret}
use Rattle.sym_machine.specs.declared.value.CodeSymbol.TheVariants.{Points, Hi, Abs, Diff, Apart}
use Rattle.sym_machine.specs.declared.value.Value.{Value}
use Rattle.sym_machine.specs.declared.value.Value.TheVariants.{Num, Sym, Piece}
use Rattle.sym_machine.specs.Values.{value_of, number}
use Rattle.sym_machine.specs.Rules.{is_lower, is_hi, is_abs, joined, goal, place, destination, combined}
use Rattle.sym_machine.specs.SymStep.{SymState}
use Rattle.sym_machine.specs.SymStep as symbol
use Rattle.move_law.specs.Rewrite.{Rewrite, out}
use Rattle.move_law.specs.RelocatedValues.{distance, target_at, upper_target, number_of_pointer}
use Rattle.move_law.specs.SimulationRelation.{IsGivenPointer, IsGiven, HasTarget, StandsFor, RelatedData, RelatedPc}
use Rattle.move_law.specs.FaithfulRewrite.{made_anew, with_immediate}
use Rattle.move_law.proofs.values.Arithmetic.{Symbols, Label, number_stands, label_stands, only_stands, at_number, combined_stands}
use Rattle.move_law.proofs.values.StoredValues.{IsSize}
use Rattle.move_law.proofs.steps.Outcomes.{SameSpaces, Follows, goes_follows, gives_follows}
use Rattle.move_law.proofs.steps.Effects.{computes, loads, stores, system_call, number_is}
use Rattle.move_law.proofs.steps.Jumps.{jumps_to}
use Rattle.move_law.proofs.values.HiLoSums.{upper_of_distance_is, upper_of_number_is, distance_sum, number_sum}
use Rattle.move_law.proofs.steps.Premises.{UpperFits, LowerFits, Fits}
use Rattle.rv_code.specs.isa.AddressParts.{TakesLower}
use Rattle.std.proofs.lemmas.Option.{same_Some}
use Rattle.std.proofs.lemmas.Grind.{common_steps}
use Rattle.rb_bytes.proofs.ListLemmas.{if_found}

-- the action isn't a branch or a JAL, and a store has a size that an instruction can have
abbrev pub IsPlain : Action → Type 0
IsPlain (Branch test wanted rs1 rs2 imm) = ⊥
IsPlain (Jump rd imm) = ⊥
IsPlain (Store n rs1 rs2 imm) = IsSize n
IsPlain _ = Unit {0}

-- the action isn't a jump through a register
abbrev pub IsNoJump : Action → Type 0
IsNoJump (JumpTo rd rs1 imm) = ⊥
IsNoJump _ = Unit {0}

is_hi-true : (a : ℕ) (v : Value) → is_hi a v ≡ true → v ≡ Sym (Hi a)
is_hi-true a (Sym (Hi b)) e = ap (λ (n : ℕ). Sym (Hi n)) (sym (eqb-true a b e))
is_hi-true a (Num n) e = absurd (cc)
is_hi-true a (Piece y w i k g) e = absurd (cc)
is_hi-true a (Sym (Points p)) e = absurd (cc)
is_hi-true a (Sym (Abs t)) e = absurd (cc)
is_hi-true a (Sym (Diff t f)) e = absurd (cc)
is_hi-true a (Sym (Apart by p q)) e = absurd (cc)

is_abs-true : (a : ℕ) (v : Value) → is_abs a v ≡ true → v ≡ Sym (Abs a)
is_abs-true a (Sym (Abs b)) e = ap (λ (n : ℕ). Sym (Abs n)) (sym (eqb-true a b e))
is_abs-true a (Num n) e = absurd (cc)
is_abs-true a (Piece y w i k g) e = absurd (cc)
is_abs-true a (Sym (Points p)) e = absurd (cc)
is_abs-true a (Sym (Hi t)) e = absurd (cc)
is_abs-true a (Sym (Diff t f)) e = absurd (cc)
is_abs-true a (Sym (Apart by p q)) e = absurd (cc)

-- the target that a pair of instructions gives
pair_stands : (r : Rewrite) (hi target x : ℕ) (v : Value) → LowerFits r hi target → StandsFor r v x → is_hi hi v ≡ true →
    StandsFor r (value_of r.code.funcs target) (plus x (unsigned64 (lo12 (distance (out r target) (out r hi)))))
pair_stands r hi target x v fits h e = grind (arith, common_steps, is_hi-true, distance_sum, at_number, label_stands)

absolute_stands : (r : Rewrite) (target x : ℕ) (v : Value) → IsGivenPointer r (Code target) → Label r target →
    StandsFor r v x → is_abs target v ≡ true →
    StandsFor r (Sym (Points (Code target))) (plus x (unsigned64 (lo12 (pos (out r target)))))
absolute_stands r target x v given label h e = grind (arith, common_steps, is_abs-true, number_sum)

-- the new immediate of a lower part
abbrev new_lower : Rewrite → Role → ℤ
new_lower r (role.Lo hi target) = lo12 (distance (out r target) (out r hi))
new_lower r (role.CallLo hi target) = lo12 (distance (out r target) (out r hi))
new_lower r (role.AbsLo target) = lo12 (pos (out r target))
new_lower r _ = pos 0

-- the facts that are needed of a lower part
abbrev LowRole : Rewrite → Role → Type 0
LowRole r (role.Lo hi target) = LowerFits r hi target
LowRole r (role.CallLo hi target) = LowerFits r hi target
LowRole r (role.AbsLo target) = IsGivenPointer r (Code target) × Label r target
LowRole r _ = ⊥

-- the result of a lower part and its base
joined_stands : (r : Rewrite) (part : Role) (base : Value) (x : ℕ) → LowRole r part → StandsFor r base x →
    IfSome (joined r.code.funcs part base) (λ v. StandsFor r v (plus x (unsigned64 (new_lower r part))))
joined_stands r (role.Lo hi target) base x fits h = grind (arith, common_steps, only_stands, pair_stands)
joined_stands r (role.CallLo hi target) base x fits h = grind (arith, common_steps, only_stands, pair_stands)
joined_stands r (role.AbsLo target) base x fits h = grind (arith, common_steps, only_stands, absolute_stands)
joined_stands r role.Plain base x fits h = tt
joined_stands r (role.Hi target) base x fits h = tt
joined_stands r (role.CallHi target) base x fits h = tt
joined_stands r (role.AbsHi target) base x fits h = tt

if_number_is : (r : Rewrite) (o : Option Value) (a : ℕ) → IfSome o (λ v. StandsFor r v a) →
    IfSome o (λ v. (n : ℕ) → number v ≡ Some n → a ≡ n)
if_number_is r None a h = tt
if_number_is r (Some v) a h = λ n e. number_is r v a n h e

place_low : (r : Rewrite) (part : Role) (base : Value) (x offset : ℕ) → LowRole r part → StandsFor r base x →
    IfSome (place r.code.funcs part base offset) (λ v. (n : ℕ) → number v ≡ Some n → plus x (unsigned64 (new_lower r part)) ≡ n)
place_low r (role.Lo hi target) base x offset fits h =
    if_number_is r (joined r.code.funcs (role.Lo hi target) base) (plus x (unsigned64 (new_lower r (role.Lo hi target))))
    (joined_stands r (role.Lo hi target) base x fits h)
place_low r (role.CallLo hi target) base x offset fits h =
    if_number_is r (joined r.code.funcs (role.CallLo hi target) base)
    (plus x (unsigned64 (new_lower r (role.CallLo hi target)))) (joined_stands r (role.CallLo hi target) base x fits h)
place_low r (role.AbsLo target) base x offset fits h = tt
place_low r role.Plain base x offset fits h = absurd fits
place_low r (role.Hi target) base x offset fits h = absurd fits
place_low r (role.CallHi target) base x offset fits h = absurd fits
place_low r (role.AbsHi target) base x offset fits h = absurd fits

low_is : (r : Rewrite) (part : Role) → LowRole r part → is_lower part ≡ true
low_is r (role.Lo hi target) fits = refl
low_is r (role.CallLo hi target) fits = refl
low_is r (role.AbsLo target) fits = refl
low_is r role.Plain fits = absurd fits
low_is r (role.Hi target) fits = absurd fits
low_is r (role.CallHi target) fits = absurd fits
low_is r (role.AbsHi target) fits = absurd fits

-- the address of an access whose instruction has no role
place_plain : (r : Rewrite) (base : Value) (x offset : ℕ) → StandsFor r base x →
    IfSome (place r.code.funcs role.Plain base offset) (λ v. (n : ℕ) → number v ≡ Some n → plus x offset ≡ n)
place_plain r (Num b) x offset h = λ n e. rw h.number (same_Some (plus b offset) n e)
place_plain r (Sym y) x offset h = λ n e. absurd (cc)
place_plain r (Piece y w i k g) x offset h = λ n e. absurd (cc)

-- a jump that writes a register is a call
pub is_saving : (rd : ℕ) (k : ℕ) → rd ≡ suc k → not (rd == 0) ≡ true
is_saving zero k e = absurd (omega (arith, e))
is_saving (suc rd) k e = let h : (suc rd == 0) ≡ false = ne_eqb (suc rd) 0 (λ z. absurd (omega (arith, z))) in rw h refl

-- s is at an instruction and u at its instruction in the output; they go on at `next` and at `from`.
module _ (r : Rewrite) (L : ℕ → ℕ → Type 0) (symbols : Symbols r) (spaces : SameSpaces r) (s : SymState) (u : ByteState)
    (rel : RelatedData r s u) (next from : ℕ) (end_is : from ≡ number_of_pointer r (Ret s.pc))
    (reaches : (p : Pointer) (to : ℕ) → IsGivenPointer r p → destination r.code.funcs p ≡ Some to →
    RelatedPc r L to (number_of_pointer r p)) where
  jumping : (part : Role) (rd rs1 a offset : ℕ) → (is_call (JumpTo rd rs1 (pos 0)) ≡ true → IsGivenPointer r (Ret s.pc)) →
      ((v : Value) (p : Pointer) → goal r.code.funcs part (s.registers rs1) ≡ Some v → v ≡ Sym (Points p) →
      is_lower part || offset == 0 ≡ true → StandsFor r v a) →
      Follows r L (symbol.jumps_to r.code.funcs s part rd (s.registers rs1) offset) (byte.writes_register u (a / 2 * 2) rd from)
  jumping part rd rs1 a offset saves stands =
      jumps_to r L s u rel part rd 0 offset a from (goal r.code.funcs part (s.registers rs1)) symbols end_is
      (λ k e. saves (is_saving rd k e)) stands reaches

  plain_arm : (a : Action) → IsPlain a → (IsNoJump a → RelatedPc r L next from) →
      (is_call a ≡ true → IsGivenPointer r (Ret s.pc)) →
      Follows r L (symbol.effect r.code.funcs role.Plain a next s) (byte.effect a from u)
  plain_arm (Compute o rd left right) plain leads saves =
      computes r L symbols spaces s u rel next from (leads tt) rd (apply o (operand u left) (operand u right))
      (combined r.code.funcs s.registers o left right) (combined_stands r symbols s.registers u rel.zero_is rel.registers o
      left right)
  plain_arm (Branch test wanted rs1 rs2 imm) plain leads saves = absurd plain
  plain_arm (Jump rd imm) plain leads saves = absurd plain
  plain_arm (JumpTo rd rs1 imm) plain leads saves =
      jumping role.Plain rd rs1 (address u rs1 (unsigned64 imm)) (unsigned64 imm) saves (λ v p found at may.
      let zero_is : unsigned64 imm ≡ 0 = eqb-true (unsigned64 imm) 0 may in
      let v_is : s.registers rs1 ≡ v = cc in
      let h : StandsFor r v (u.registers rs1) = subst (λ (v : Value). StandsFor r v (u.registers rs1)) v_is
      (rel.registers rs1) in
      let low : u.registers rs1 < 2 ^ 64 = symbols.value_fits v (u.registers rs1) h (λ n e. apart p n (sym at ∙ e)) in
      at_number r v (u.registers rs1) (address u rs1 (unsigned64 imm)) (omega (arith, zero_is, low)) h)
    where
      apart : (p : Pointer) (n : ℕ) → Sym (Points p) ≡ Num n → ⊥
      apart p n e = absurd (cc)
  plain_arm (Upper rd imm) plain leads saves =
      gives_follows r L s u next from rd (unsigned64 imm * 4096 % 2 ^ 64) (Num (unsigned64 imm * 4096 % 2 ^ 64)) None rel
      (leads tt) (λ k e. number_stands r (unsigned64 imm * 4096 % 2 ^ 64))
  plain_arm (UpperPc rd imm) plain leads saves = tt
  plain_arm (Load e rd rs1 imm) plain leads saves = grind (arith, common_steps, loads, place_plain)
  plain_arm (Store n rs1 rs2 imm) plain leads saves =
      stores r L symbols spaces s u rel next from (leads tt) n (address u rs1 (unsigned64 imm)) (u.registers rs2)
      (s.registers rs2) (place r.code.funcs role.Plain (s.registers rs1) (unsigned64 imm)) plain (rel.registers rs2)
      (place_plain r (s.registers rs1) (u.registers rs1) (unsigned64 imm) (rel.registers rs1))
  plain_arm action.Fence plain leads saves = goes_follows r L s u next from None rel (leads tt)
  plain_arm SystemCall plain leads saves = system_call r L symbols spaces s u rel next from (leads tt)
  plain_arm Breakpoint plain leads saves = tt

  low_load : (part : Role) (e : Extension) (rd rs1 : ℕ) (imm : ℤ) → LowRole r part → RelatedPc r L next from →
      Follows r L (symbol.effect r.code.funcs part (Load e rd rs1 imm) next s)
      (byte.effect (Load e rd rs1 (new_lower r part)) from u)
  low_load part e rd rs1 imm fits leads =
      loads r L symbols spaces s u rel next from leads e rd (address u rs1 (unsigned64 (new_lower r part)))
      (place r.code.funcs part (s.registers rs1) (unsigned64 imm))
      (place_low r part (s.registers rs1) (u.registers rs1) (unsigned64 imm) fits (rel.registers rs1))

  low_store : (part : Role) (n rs1 rs2 : ℕ) (imm : ℤ) → IsSize n → LowRole r part → RelatedPc r L next from →
      Follows r L (symbol.effect r.code.funcs part (Store n rs1 rs2 imm) next s)
      (byte.effect (Store n rs1 rs2 (new_lower r part)) from u)
  low_store part n rs1 rs2 imm size fits leads =
      stores r L symbols spaces s u rel next from leads n (address u rs1 (unsigned64 (new_lower r part))) (u.registers rs2)
      (s.registers rs2) (place r.code.funcs part (s.registers rs1) (unsigned64 imm)) size (rel.registers rs2)
      (place_low r part (s.registers rs1) (u.registers rs1) (unsigned64 imm) fits (rel.registers rs1))

  low_arm : (part : Role) (inst : Inst) → TakesLower inst → LowRole r part →
      (IsNoJump (action_of inst) → RelatedPc r L next from) → (is_call (action_of inst) ≡ true → IsGivenPointer r (Ret s.pc)) →
      Follows r L (symbol.effect r.code.funcs part (action_of inst) next s)
      (byte.effect (action_of (with_immediate inst (new_lower r part))) from u)
  low_arm part (Addi rd rs1 imm) low fits leads saves =
      rw (low_is r part fits) (computes r L symbols spaces s u rel next from (leads tt) rd
      (plus (u.registers rs1) (unsigned64 (new_lower r part))) (joined r.code.funcs part (s.registers rs1))
      (joined_stands r part (s.registers rs1) (u.registers rs1) fits (rel.registers rs1)))
  low_arm part (Jalr rd rs1 imm) low fits leads saves =
      jumping part rd rs1 (address u rs1 (unsigned64 (new_lower r part))) (unsigned64 imm) saves (λ v p found at may.
      let goal_is : joined r.code.funcs part (s.registers rs1) ≡ Some v = rw (low_is r part fits) at found in
      if_found (λ v. StandsFor r v (address u rs1 (unsigned64 (new_lower r part))))
      (joined r.code.funcs part (s.registers rs1)) v goal_is (joined_stands r part (s.registers rs1) (u.registers rs1)
      fits (rel.registers rs1)))
  low_arm part (Lb rd rs1 imm) low fits leads saves = low_load part Signed8 rd rs1 imm fits (leads tt)
  low_arm part (Lh rd rs1 imm) low fits leads saves = low_load part Signed16 rd rs1 imm fits (leads tt)
  low_arm part (Lw rd rs1 imm) low fits leads saves = low_load part Signed32 rd rs1 imm fits (leads tt)
  low_arm part (Ld rd rs1 imm) low fits leads saves = low_load part Whole64 rd rs1 imm fits (leads tt)
  low_arm part (Lbu rd rs1 imm) low fits leads saves = low_load part Zero8 rd rs1 imm fits (leads tt)
  low_arm part (Lhu rd rs1 imm) low fits leads saves = low_load part Zero16 rd rs1 imm fits (leads tt)
  low_arm part (Lwu rd rs1 imm) low fits leads saves = low_load part Zero32 rd rs1 imm fits (leads tt)
  low_arm part (Sb rs1 rs2 imm) low fits leads saves = low_store part 1 rs1 rs2 imm (inl refl) fits (leads tt)
  low_arm part (Sh rs1 rs2 imm) low fits leads saves = low_store part 2 rs1 rs2 imm (inr (inl refl)) fits (leads tt)
  low_arm part (Sw rs1 rs2 imm) low fits leads saves = low_store part 4 rs1 rs2 imm (inr (inr (inl refl))) fits (leads tt)
  low_arm part (Sd rs1 rs2 imm) low fits leads saves = low_store part 8 rs1 rs2 imm (inr (inr (inr refl))) fits (leads tt)
  low_arm part _ low fits leads saves = absurd low

  upper_arm : (part : Role) (target : ℕ) (rd : ℕ) (imm : ℤ) → u.pc ≡ out r s.pc → UpperFits r s.pc target →
      target_at r.code.funcs s.pc ≡ target → IsGiven r (Hi s.pc) → RelatedPc r L next from →
      Follows r L (symbol.writes_register s next rd (Sym (Hi s.pc)))
      (byte.effect (UpperPc rd (hi20 (distance (out r target) (out r s.pc)))) from u)
  upper_arm part target rd imm here fits target_is given leads =
      gives_follows r L s u next from rd
      (plus u.pc (unsigned64 (hi20 (distance (out r target) (out r s.pc))) * 4096 % 2 ^ 64)) (Sym (Hi s.pc)) None rel leads
      (λ k e. record {
        value = tt;
        given = given;
        number = rw (here, target_is, upper_of_distance_is (out r target) (out r s.pc) fits.label.fits fits.low) refl;
      })

  -- any instruction except a branch or a JAL
  pub arm : (part : Role) (inst : Inst) → IsPlain (action_of inst) → Fits r s.pc part inst → u.pc ≡ out r s.pc →
      target_at r.code.funcs s.pc ≡ upper_target part → (HasTarget part → IsGiven r (Hi s.pc)) →
      (IsNoJump (action_of inst) → RelatedPc r L next from) → (is_call (action_of inst) ≡ true → IsGivenPointer r (Ret s.pc)) →
      Follows r L (symbol.effect r.code.funcs part (action_of inst) next s)
      (byte.effect (action_of (made_anew (out r) s.pc part inst)) from u)
  arm role.Plain inst plain fits here target_is given leads saves = plain_arm (action_of inst) plain leads saves
  arm (role.Hi target) (Auipc rd imm) plain fits here target_is given leads saves =
      upper_arm (role.Hi target) target rd imm here fits.1 target_is (given tt) (leads tt)
  arm (role.CallHi target) (Auipc rd imm) plain fits here target_is given leads saves =
      upper_arm (role.CallHi target) target rd imm here fits.1 target_is (given tt) (leads tt)
  arm (role.AbsHi target) (Lui rd imm) plain fits here target_is given leads saves = search (rules, gives_follows, upper_of_number_is)
  arm (role.Lo hi target) inst plain fits here target_is given leads saves =
      low_arm (role.Lo hi target) inst fits.0 fits.1 leads saves
  arm (role.CallLo hi target) inst plain fits here target_is given leads saves =
      low_arm (role.CallLo hi target) inst fits.0 fits.1 leads saves
  arm (role.AbsLo target) inst plain fits here target_is given leads saves =
      low_arm (role.AbsLo target) inst fits.0 (fits.1, fits.2) leads saves
  arm (role.Hi target) _ plain fits here target_is given leads saves = absurd fits.0
  arm (role.CallHi target) _ plain fits here target_is given leads saves = absurd fits.0
  arm (role.AbsHi target) _ plain fits here target_is given leads saves = absurd fits.0
