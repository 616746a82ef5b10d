-- Branches and jumps, from related states.
use Rattle.std.proofs.Common.{◌≡◌, ℕ, suc, ◌*◌, ◌/◌, ◌%◌, Option, Some, None, Bool, true, false, refl, ◌∙◌, subst, arith, rules}
use Rattle.std.specs.Prelude.{if◌then◌else◌, ◌==◌, ◌||◌, not, IfSome}
use Rattle.rv_code.specs.declared.placed.Role.{Role}
use Rattle.rv_code.specs.machine.Step.{ByteState}
use Rattle.rv_code.specs.machine.Step as byte
use Rattle.sym_machine.specs.declared.outcome.Reason.TheVariants as reason
use Rattle.sym_machine.specs.declared.value.Pointer.{Pointer}
use Rattle.sym_machine.specs.declared.value.Pointer.TheVariants.{Ret}
use Rattle.sym_machine.specs.declared.value.CodeSymbol.TheVariants.{Points, Hi, Abs, Diff, Apart}
use Rattle.sym_machine.specs.declared.value.Value.{Value}
use Rattle.sym_machine.specs.declared.value.Value.TheVariants.{Num, Sym, Piece}
use Rattle.rb_bytes.specs.Options.{only_if}
use Rattle.sym_machine.specs.Rules.{is_lower, pointer, destination}
use Rattle.sym_machine.specs.SymStep.{SymState, needs}
use Rattle.sym_machine.specs.SymStep as symbol
use Rattle.move_law.specs.Rewrite.{Rewrite}
use Rattle.move_law.specs.RelocatedValues.{number_of_pointer}
use Rattle.move_law.specs.SimulationRelation.{IsGivenPointer, StandsFor, RelatedData, RelatedPc}
use Rattle.move_law.proofs.values.Arithmetic.{Symbols}
use Rattle.move_law.proofs.steps.Outcomes.{Follows, needs_found, goes_follows, gives_follows}

module _ (r : Rewrite) (L : ℕ → ℕ → Type 0) (s : SymState) (u : ByteState) (rel : RelatedData r s u) where
  -- A branch with the same condition: control goes to the target if its test has the wanted result, otherwise to the next instruction.
  pub same_branch : (next target from to : ℕ) (wanted : Bool) (o : Option Bool) (t : Bool) → IfSome o (λ x. t ≡ x) →
      RelatedPc r L next from → RelatedPc r L target to →
      Follows r L (symbol.branches s next target wanted o) (byte.branches u from to (if wanted then t else not t))
  same_branch next target from to true None t is go jump = tt
  same_branch next target from to false None t is go jump = tt
  same_branch next target from to true (Some true) t is go jump = rw is (goes_follows r L s u target to None rel jump)
  same_branch next target from to true (Some false) t is go jump = rw is (goes_follows r L s u next from None rel go)
  same_branch next target from to false (Some true) t is go jump = rw is (goes_follows r L s u next from None rel go)
  same_branch next target from to false (Some false) t is go jump = rw is (goes_follows r L s u target to None rel jump)

  -- a branch with the opposite condition
  pub opposite_branch : (next target from to : ℕ) (wanted : Bool) (o : Option Bool) (t : Bool) → IfSome o (λ x. t ≡ x) →
      RelatedPc r L next to → RelatedPc r L target from →
      Follows r L (symbol.branches s next target wanted o) (byte.branches u from to (if not wanted then t else not t))
  opposite_branch next target from to true None t is go jump = tt
  opposite_branch next target from to false None t is go jump = tt
  opposite_branch next target from to true (Some true) t is go jump = rw is (goes_follows r L s u target from None rel jump)
  opposite_branch next target from to true (Some false) t is go jump = rw is (goes_follows r L s u next to None rel go)
  opposite_branch next target from to false (Some true) t is go jump = rw is (goes_follows r L s u next to None rel go)
  opposite_branch next target from to false (Some false) t is go jump = rw is (goes_follows r L s u target from None rel jump)

  -- A jump saves the end of its instruction.
  pub jumps : (to goes rd end : ℕ) → end ≡ number_of_pointer r (Ret s.pc) →
      ((k : ℕ) → rd ≡ suc k → IsGivenPointer r (Ret s.pc)) → RelatedPc r L to goes →
      Follows r L (symbol.jumps s rd to) (byte.writes_register u goes rd end)
  jumps to goes rd end is saves leads = search (rules, gives_follows)

  even_half : (n : ℕ) → n % 2 ≡ 0 → n / 2 * 2 ≡ n
  even_half n e = omega (arith, e)

  -- A jump through a register: v is the value to which it goes, and a the address that the byte machine computes.
  pub jumps_to : (part : Role) (rd base offset a end : ℕ) (o : Option Value) → Symbols r →
      end ≡ number_of_pointer r (Ret s.pc) → ((k : ℕ) → rd ≡ suc k → IsGivenPointer r (Ret s.pc)) →
      ((v : Value) (p : Pointer) → o ≡ Some v → v ≡ Sym (Points p) → is_lower part || offset == 0 ≡ true → StandsFor r v a) →
      ((p : Pointer) (to : ℕ) → IsGivenPointer r p → destination r.code.funcs p ≡ Some to →
      RelatedPc r L to (number_of_pointer r p)) →
      Follows r L
      (needs s reason.Operate o
      (λ v. needs s reason.NotCode (pointer part offset v)
      (λ p. needs s reason.EndOfFunction (destination r.code.funcs p) (symbol.jumps s rd))))
      (byte.writes_register u (a / 2 * 2) rd end)
  jumps_to part rd base offset a end o symbols is saves stands leads =
      needs_found r L s reason.Operate o _ _ (λ v found. through v found)
    where
      after : (v : Value) (p : Pointer) → o ≡ Some v → v ≡ Sym (Points p) → is_lower part || offset == 0 ≡ true →
          Follows r L (needs s reason.EndOfFunction (destination r.code.funcs p) (symbol.jumps s rd))
          (byte.writes_register u (a / 2 * 2) rd end)
      after v p found at may =
          needs_found r L s reason.EndOfFunction (destination r.code.funcs p) (symbol.jumps s rd) _ (λ to there.
          let h : StandsFor r v a = stands v p found at may in
          let h' : StandsFor r (Sym (Points p)) a = subst (λ (v : Value). StandsFor r v a) at h in
          let place = symbols.place p h'.given in
          let e : a / 2 * 2 ≡ number_of_pointer r p = even_half a (rw h'.number place.even) ∙ h'.number in
          jumps to (a / 2 * 2) rd end is saves (rw e (leads p to h'.given there)))

      through : (v : Value) → o ≡ Some v →
          Follows r L
          (needs s reason.NotCode (pointer part offset v) (λ p. needs s reason.EndOfFunction (destination r.code.funcs p)
          (symbol.jumps s rd))) (byte.writes_register u (a / 2 * 2) rd end)
      through (Num n) found = tt
      through (Piece y w i k g) found = tt
      through (Sym (Hi b)) found = tt
      through (Sym (Abs b)) found = tt
      through (Sym (Diff b c)) found = tt
      through (Sym (Apart by p q)) found = tt
      through (Sym (Points p)) found = cases (is_lower part || offset == 0) refl
        where
          cases : (t : Bool) → (is_lower part || offset == 0) ≡ t →
              Follows r L
              (needs s reason.NotCode (only_if t p) (λ p. needs s reason.EndOfFunction (destination r.code.funcs p)
              (symbol.jumps s rd))) (byte.writes_register u (a / 2 * 2) rd end)
          cases false e = tt
          cases true e = after (Sym (Points p)) p found refl e
