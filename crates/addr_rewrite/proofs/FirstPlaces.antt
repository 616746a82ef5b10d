-- The first unit that passes a test, with one more unit.
use Rattle.std.proofs.Common.{◌≡◌, ◌∙◌, ◌++◌, ◌∷◌, [], ℕ, Bool, true, false, List, Option, Some, None, sym, ap}
use Rattle.std.specs.Prelude.{MatchOption, is_some, if◌then◌else◌}
use Rattle.std.specs.Option.{option_or}
use Rattle.answer_runs.proofs.Grown.{or_none}
use Rattle.table_core.specs.DebugUnits.{Walked, first_place}
use Rattle.dw_unit.proofs.UnitReadings.{bad_before, bad_now, still_good}

module _ (test : Walked → Bool) (ws : List Walked) (w : Walked) where
  pub first_stays : (o : Option ℕ) → o ≡ first_place test ws → test w ≡ false → o ≡ first_place test (ws ++ w ∷ [])
  first_stays None e t = sym (still_good test ws w (sym e) t)
  first_stays (Some place) e t = sym (bad_before test ws w place (sym e))

  pub first_found : (o : Option ℕ) → o ≡ first_place test ws → test w ≡ true →
      option_or o (Some w.place) ≡ first_place test (ws ++ w ∷ [])
  first_found None e t = sym (bad_now test ws w (sym e) t)
  first_found (Some place) e t = sym (bad_before test ws w place (sym e))

  -- The result of reading the unit decides whether it passes.
  pub first_read : {X : Type 0} (Q : X → Type 0) (entries : Option X) (o : Option ℕ) (place : ℕ) → w.place ≡ place →
      o ≡ first_place test ws → MatchOption entries (test w ≡ true) (λ x. (test w ≡ false) × Q x) →
      option_or o (if is_some entries then None else Some place) ≡ first_place test (ws ++ w ∷ [])
  first_read Q None o place p e t = ap (λ (n : ℕ). option_or o (Some n)) (sym p) ∙ first_found o e t
  first_read Q (Some x) o place p e t = or_none o ∙ first_stays o e t.0
