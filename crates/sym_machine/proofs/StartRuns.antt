-- Runs of bytes that are put or hidden one by one.
use Rattle.std.proofs.Common.{◌≡◌, refl, ℕ, ◌+◌, Bool, true, false, Option, arith, inl, inr, rules}
use Rattle.std.specs.Prelude.{◌&&◌, ◌==◌, nat_le, nat_lt, if◌then◌else◌}
use Rattle.std.proofs.lemmas.Bool.{eqb-true, eqb-false, cases_lt}
use Rattle.sym_machine.proofs.Groups.{in_run-true, in_run-below, in_run-past}

-- an empty run
pub run_none : {A : Type 0} (x old : Option A) (from q : ℕ) → old ≡ (if nat_le from q && nat_lt q (from + 0) then x else old)
run_none x old from q = search (rules, in_run-below, in_run-past)

-- a run with one more byte at its end
pub run_more : {A : Type 0} (x y old : Option A) (from i q : ℕ) → (q ≡ from + i → x ≡ y) →
    (if q == from + i then x else (if nat_le from q && nat_lt q (from + i) then y else old))
    ≡ (if nat_le from q && nat_lt q (from + (i + 1)) then y else old)
run_more x y old from i q same = cases (q == from + i) refl
  where
    cases : (t : Bool) → (q == from + i) ≡ t →
        (if t then x else (if nat_le from q && nat_lt q (from + i) then y else old))
        ≡ (if nat_le from q && nat_lt q (from + (i + 1)) then y else old)
    cases true test =
        let here = eqb-true q (from + i) test in
        rw (in_run-true from (from + (i + 1)) q (omega arith) (omega arith)) (same here)
    cases false test =
        let apart = eqb-false q (from + i) test in
        elim (cases_lt q from) [
          | inl low ↦ rw (in_run-below from (from + i) q low, in_run-below from (from + (i + 1)) q low) refl
          | inr high ↦ elim (cases_lt q (from + i)) [
            | inl before ↦
                rw (in_run-true from (from + i) q high before, in_run-true from (from + (i + 1)) q high (omega arith)) refl
            | inr after ↦
                rw (in_run-past from (from + i) q after, in_run-past from (from + (i + 1)) q (omega (arith, apart))) refl
          ]
        ]
