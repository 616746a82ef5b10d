-- A step has at most one outcome.
use Rattle.std.proofs.Common.{◌≡◌, ◌∙◌, ℕ, Option, Some, None, sym, ap, subst}
use Rattle.std.proofs.lemmas.Option.{same_Some}
use Rattle.rv_code.specs.declared.inst.Inst.{Inst}
use Rattle.rv_code.specs.declared.cause.Cause.TheVariants as cause
use Rattle.rv_code.specs.isa.Action.{action_of}
use Rattle.rv_code.specs.isa.InstBytes.{Decodes}
use Rattle.rv_code.specs.machine.Machine.{plus}
use Rattle.rv_code.specs.machine.Step.{ByteState, ByteOutcome, trap, effect, fetched, Steps, no_fetch, illegal, does}

module _ (s : ByteState) where
  pub only_no_fetch : fetched s ≡ None → (o : ByteOutcome) → Steps s o → o ≡ trap s cause.Fetch
  only_no_fetch none o (no_fetch is same) = same
  only_no_fetch none o (illegal h k is never same) = absurd (cc)
  only_no_fetch none o (does h k i w is decodes same) = absurd (cc)

  module _ (half : ℕ) (next : Option ℕ) (is : fetched s ≡ Some (half, next)) where
    fetched_same : (h : ℕ) (k : Option ℕ) → fetched s ≡ Some (h, k) → ◌≡◌ {A = ℕ × Option ℕ} (half, next) (h, k)
    fetched_same h k other = same_Some {A = ℕ × Option ℕ} (half, next) (h, k) (sym is ∙ other)

    pub only_illegal : ((i : Inst) (w : ℕ) → Decodes half next i w → ⊥) → (o : ByteOutcome) → Steps s o → o ≡ trap s cause.Illegal
    only_illegal never o (no_fetch none same) = absurd (cc)
    only_illegal never o (illegal h k other never' same) = same
    only_illegal never o (does h k i w other decodes same) =
        absurd (never i w (subst {A = ℕ × Option ℕ} (λ p. Decodes p.0 p.1 i w) (sym (fetched_same h k other)) decodes))

    pub only_does : (inst : Inst) (bytes : ℕ) → Decodes half next inst bytes →
        ((i : Inst) (w : ℕ) → Decodes half next i w → (i ≡ inst) × (w ≡ bytes)) → (o : ByteOutcome) → Steps s o →
        o ≡ effect (action_of inst) (plus s.pc bytes) s
    only_does inst bytes decodes only o (no_fetch none same) = absurd (cc)
    only_does inst bytes decodes only o (illegal h k other never same) =
        absurd (never inst bytes (subst {A = ℕ × Option ℕ} (λ p. Decodes p.0 p.1 inst bytes) (fetched_same h k other) decodes))
    only_does inst bytes decodes only o (does h k i w other found same) =
        let one = only i w (subst {A = ℕ × Option ℕ} (λ p. Decodes p.0 p.1 i w) (sym (fetched_same h k other)) found) in
        same ∙ ap (λ j. effect (action_of j) (plus s.pc w) s) one.0 ∙ ap (λ n. effect (action_of inst) (plus s.pc n) s) one.1
