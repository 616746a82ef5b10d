-- The fetched halfwords, by the tests that the machine makes.
use Rattle.std.proofs.Common.{◌≡◌, ◌≢◌, ◌%◌, Some, None, true, false, refl}
use Rattle.std.specs.Prelude.{◌==◌}
use Rattle.std.proofs.lemmas.Bool.{eq-eqb, false_from_ne_true, eqb-true}
use Rattle.rv_code.specs.machine.Machine.{plus, all_may, may_execute}
use Rattle.rv_code.specs.machine.Step.{ByteState, halfword, fetched}

module _ (s : ByteState) (even : s.pc % 2 ≡ 0) (may : all_may (may_execute s) s.pc 2 ≡ true) where
  even_test : (s.pc % 2 == 0) ≡ true
  even_test = eq-eqb (s.pc % 2) 0 even

  pub fetched_half : halfword s s.pc % 4 ≢ 3 → fetched s ≡ Some (halfword s s.pc, None)
  fetched_half low =
      let short : (halfword s s.pc % 4 == 3) ≡ false =
      false_from_ne_true (halfword s s.pc % 4 == 3) (λ test. low (eqb-true (halfword s s.pc % 4) 3 test)) in
      rw (even_test, may, short) refl

  pub fetched_full : halfword s s.pc % 4 ≡ 3 → all_may (may_execute s) (plus s.pc 2) 2 ≡ true →
      fetched s ≡ Some (halfword s s.pc, Some (halfword s (plus s.pc 2)))
  fetched_full low more =
      let long : (halfword s s.pc % 4 == 3) ≡ true = eq-eqb (halfword s s.pc % 4) 3 low in
      rw (even_test, may, long, more) refl

  pub fetched_cut : halfword s s.pc % 4 ≡ 3 → all_may (may_execute s) (plus s.pc 2) 2 ≡ false → fetched s ≡ None
  fetched_cut low more =
      let long : (halfword s s.pc % 4 == 3) ≡ true = eq-eqb (halfword s s.pc % 4) 3 low in
      rw (even_test, may, long, more) refl
