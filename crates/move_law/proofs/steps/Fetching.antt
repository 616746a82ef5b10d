-- A state at an instruction of a file does this instruction; a state at a jump that saves nothing gets to its target.
use Rattle.std.proofs.Common.{◌≡◌, ℕ, ◌+◌, ◌*◌, ◌%◌, ◌^◌, ◌<◌, ◌≤◌, [], Option, Some, None, Bool, true, false, refl, sym, ap, ◌∙◌, rules}
use Rattle.std.proofs.Common.{subst, arith, add-zero, inl, inr}
use Rattle.std.specs.Prelude.{◌==◌, unwrap_or}
use Rattle.std.proofs.lemmas.Bool.{eqb-true, eq-eqb}
use Rattle.rv_code.specs.declared.inst.Inst.{Inst}
use Rattle.rv_code.specs.declared.inst.Inst.TheVariants.{Jal}
use Rattle.rv_code.specs.isa.Action.{action_of}
use Rattle.rv_code.specs.isa.InstBytes.{Decodes}
use Rattle.rv_code.specs.isa.TwosComplement.{unsigned64}
use Rattle.rv_code.specs.machine.Machine.{plus, all_may, memory_bytes, little, may_execute, SoFar, starts, more}
use Rattle.rv_code.specs.machine.Step.{ByteState, halfword, fetched, effect, Steps, does}
use Rattle.rv_code.specs.layout.FunctionLists.{address_end}
use Rattle.elf_code.specs.Parts.{halfword_in, IsInstIn}
use Rattle.move_law.specs.Rewrite.{width_at, HasAt, Goes, stays, jumps}
use Rattle.elf_image.specs.memory.Executables.{Executable, memory_of, IsCodeByte, AreCodeBytes}
use Rattle.rv_code.proofs.isa.EvenOffsets.{even_offset}

-- The state has the code of a file.
pub record HasCode (x : Executable) (b : ByteState) : Type 0 where
  pub low : (a : ℕ) → IsCodeByte x a → a < address_end
  pub may : (a : ℕ) → IsCodeByte x a → may_execute b a ≡ true
  pub byte : (a : ℕ) → IsCodeByte x a → b.memory a ≡ unwrap_or (memory_of x a) 0

pub plus_inside : (a j : ℕ) → a + j < 2 ^ 64 → plus a j ≡ a + j
plus_inside a j h = omega arith

two_may : (may : ℕ → Bool) (a : ℕ) → a + 2 ≤ 2 ^ 64 → may a ≡ true → may (a + 1) ≡ true → all_may may a 2 ≡ true
unfolding all_may
two_may may a room first second = rw (first, plus_inside a 1 (omega arith), second) refl

two_bytes : (memory : ℕ → ℕ) (a b c : ℕ) → a + 2 ≤ 2 ^ 64 → memory a ≡ b → memory (a + 1) ≡ c →
    little (memory_bytes memory a 2) ≡ b + 256 * c
unfolding memory_bytes little
two_bytes memory a b c room first second = rw (first, plus_inside a 1 (omega arith), second) (omega arith)

shifted : (x : Executable) (p i j : ℕ) → IsCodeByte x (p + (i + j)) → IsCodeByte x (p + i + j)
shifted x p i j is = let e : p + (i + j) ≡ p + i + j = omega arith in subst (λ (n : ℕ). IsCodeByte x n) e is

fetched_short : (b : ByteState) (h : ℕ) → (b.pc % 2 == 0) ≡ true → all_may (may_execute b) b.pc 2 ≡ true →
    halfword b b.pc ≡ h → (halfword b b.pc % 4 == 3) ≡ false → fetched b ≡ Some (h, None)
fetched_short b h t m e f = rw (t, m, f, e) refl

fetched_long : (b : ByteState) (h g : ℕ) → (b.pc % 2 == 0) ≡ true → all_may (may_execute b) b.pc 2 ≡ true →
    halfword b b.pc ≡ h → halfword b (plus b.pc 2) ≡ g → (halfword b b.pc % 4 == 3) ≡ true →
    all_may (may_execute b) (plus b.pc 2) 2 ≡ true → fetched b ≡ Some (h, Some g)
fetched_long b h g t m e k f n = rw (t, m, f, n, e, k) refl

module _ (x : Executable) (b : ByteState) (has : HasCode x b) where
  half_is : (a : ℕ) → AreCodeBytes x a 2 → halfword b a ≡ halfword_in (memory_of x) a
  half_is a code = search (rules, add-zero, two_bytes)

  may_two : (a : ℕ) → AreCodeBytes x a 2 → all_may (may_execute b) a 2 ≡ true
  may_two a code = search (rules, add-zero, two_may)

  step_two : (inst : Inst) (bytes : ℕ) → b.pc % 2 ≡ 0 → bytes ≡ 2 → AreCodeBytes x b.pc bytes →
      (halfword_in (memory_of x) b.pc % 4 ≡ 3 → ⊥) →
      ((k : Option ℕ) → Decodes (halfword_in (memory_of x) b.pc) k inst bytes) →
      Steps b (effect (action_of inst) (plus b.pc bytes) b)
  step_two inst bytes even two code short decodes =
      let code2 : AreCodeBytes x b.pc 2 = subst (λ (n : ℕ). AreCodeBytes x b.pc n) two code in
      let h : halfword b b.pc ≡ halfword_in (memory_of x) b.pc = half_is b.pc code2 in
      let t : (b.pc % 2 == 0) ≡ true = eq-eqb (b.pc % 2) 0 even in
      let m : all_may (may_execute b) b.pc 2 ≡ true = may_two b.pc code2 in
      let f : (halfword_in (memory_of x) b.pc % 4 == 3) ≡ false = false_of (halfword_in (memory_of x) b.pc % 4 == 3)
      (λ e. short (eqb-true (halfword_in (memory_of x) b.pc % 4) 3 e)) in
      let f' : (halfword b b.pc % 4 == 3) ≡ false = ap (λ (x : ℕ). x % 4 == 3) h ∙ f in
      let is : fetched b ≡ Some (halfword_in (memory_of x) b.pc, None) = fetched_short b (halfword_in (memory_of x) b.pc) t
      m h f' in
      does (halfword_in (memory_of x) b.pc) None inst bytes is (decodes None) refl
    where
      false_of : (x : Bool) → (x ≡ true → ⊥) → x ≡ false
      false_of true n = absurd (n refl)
      false_of false n = refl

  step_four : (inst : Inst) (bytes : ℕ) → b.pc % 2 ≡ 0 → bytes ≡ 4 → AreCodeBytes x b.pc bytes →
      halfword_in (memory_of x) b.pc % 4 ≡ 3 → IsInstIn (memory_of x) b.pc inst bytes →
      Steps b (effect (action_of inst) (plus b.pc bytes) b)
  step_four inst bytes even four code long decodes =
      let code4 : AreCodeBytes x b.pc 4 = subst (λ (n : ℕ). AreCodeBytes x b.pc n) four code in
      let front : AreCodeBytes x b.pc 2 = λ i h. code4 i (omega arith) in
      let back : AreCodeBytes x (b.pc + 2) 2 = λ i h. shifted x b.pc 2 i (code4 (2 + i) (omega arith)) in
      let low = has.low (b.pc + 3) (code4 3 (omega arith)) in
      let next : plus b.pc 2 ≡ b.pc + 2 = plus_inside b.pc 2 (omega arith) in
      let h : halfword b b.pc ≡ halfword_in (memory_of x) b.pc = half_is b.pc front in
      let g : halfword b (plus b.pc 2) ≡ halfword_in (memory_of x) (b.pc + 2) = rw next (half_is (b.pc + 2) back) in
      let t : (b.pc % 2 == 0) ≡ true = eq-eqb (b.pc % 2) 0 even in
      let m : all_may (may_execute b) b.pc 2 ≡ true = may_two b.pc front in
      let n : all_may (may_execute b) (plus b.pc 2) 2 ≡ true = rw next (may_two (b.pc + 2) back) in
      let f : (halfword_in (memory_of x) b.pc % 4 == 3) ≡ true = eq-eqb (halfword_in (memory_of x) b.pc % 4) 3 long in
      let f' : (halfword b b.pc % 4 == 3) ≡ true = ap (λ (x : ℕ). x % 4 == 3) h ∙ f in
      let is : fetched b ≡ Some (halfword_in (memory_of x) b.pc, Some (halfword_in (memory_of x) (b.pc + 2))) =
      fetched_long b (halfword_in (memory_of x) b.pc) (halfword_in (memory_of x) (b.pc + 2)) t m h g f' n in
      does (halfword_in (memory_of x) b.pc) (Some (halfword_in (memory_of x) (b.pc + 2))) inst bytes is decodes refl

  -- a state's next instruction is the file's instruction at its pc
  pub steps_at : (inst : Inst) → b.pc % 2 ≡ 0 → HasAt x b.pc inst →
      Steps b (effect (action_of inst) (plus b.pc (width_at x b.pc)) b)
  steps_at inst even at = by (width_at x b.pc) at.is_inst at.code
    where
      by : (bytes : ℕ) → IsInstIn (memory_of x) b.pc inst bytes → AreCodeBytes x b.pc bytes →
          Steps b (effect (action_of inst) (plus b.pc bytes) b)
      by bytes (inl d) code = step_two inst bytes even d.two_bytes code (λ e. d.is_half (omega (arith, e))) (λ k. inl d)
      by bytes (inr d) code = step_four inst bytes even d.four_bytes code (omega (arith, d.is_full)) (inr d)

-- Control gets to an even address by at most one jump.
pub record Arrives (b : ByteState) (q : ℕ) : Type 0 where
  pub steps : ℕ
  pub few : steps ≤ 1
  pub so_far : SoFar Steps b steps [] (record b { pc = q })
  pub even : q % 2 ≡ 0

pub even_plus : (p d : ℕ) → p % 2 ≡ 0 → d % 2 ≡ 0 → plus p d % 2 ≡ 0
even_plus p d h k = omega arith

pub arrive : (x : Executable) (b : ByteState) (q : ℕ) → HasCode x b → b.pc % 2 ≡ 0 → Goes x b.pc q → Arrives b q
arrive x b q has even (stays e) =
    record {
      steps = 0;
      few = omega arith;
      so_far = subst (λ (p : ℕ). SoFar Steps b 0 [] (record b { pc = p })) e starts;
      even = rw (sym e) even;
    }
arrive x b q has even (jumps imm at e) = record {
  steps = 1;
  few = omega arith;
  so_far =
      subst (λ (p : ℕ). SoFar Steps b 1 [] (record b { pc = p })) e (more None starts (steps_at x b has (Jal 0 imm) even at));
  even = rw (sym e)
      (even_plus b.pc (unsigned64 imm) even
      (even_offset (halfword_in (memory_of x) b.pc) (Some (halfword_in (memory_of x) (b.pc + 2))) (Jal 0 imm)
      (width_at x b.pc) at.is_inst));
}
