-- What follows if sections have no fault.
use Rattle.std.proofs.Common.{◌≡◌, ◌∙◌, ◌<◌, ◌++◌, ℕ, zero, suc, List, [], ◌∷◌, Bool, true, false, Option, Some, None, refl, ap}
use Rattle.std.proofs.Common.{arith, length, get_or, map}
use Rattle.std.proofs.lemmas.Bool.{or_parts}
use Rattle.std.specs.Prelude.{⊤, ◌||◌, if◌then◌else◌, filter, flat_map, option_map, nat_le}
use Rattle.std.specs.List.{find, list_any}
use Rattle.rb_bytes.specs.FirstFault.{IsFree}
use Rattle.rb_bytes.specs.declared.fault.FaultKind.TheVariants as fault
use Rattle.rb_bytes.proofs.Options.{not_found}
use Rattle.answer_runs.specs.Choices.{least, lower}
use Rattle.table_core.specs.DebugUnits.{Walked, first_place}
use Rattle.dw_unit.specs.Declarations.{Declaration}
use Rattle.dw_unit.specs.Faults.{HasDwarfFault, FaultPlaces, places_with}

-- Each place is missing.
pub record AreAbsent (p : FaultPlaces) : Type 0 where
  pub version : p.version ≡ None
  pub form : p.form ≡ None
  pub high : p.high ≡ None
  pub bad : p.bad ≡ None

pub absent : (p : FaultPlaces) → IsFree (HasDwarfFault p) → AreAbsent p
absent p free = record {
  version = none p.version (free fault.DwarfVersion);
  form = none p.form (free fault.DwarfForm);
  high = none p.high (free fault.HighPcForm);
  bad = none p.bad (free fault.DwarfFault);
} where
  none : (o : Option ℕ) → ((place : ℕ) → o ≡ Some place → ⊥) → o ≡ None
  none None f = refl
  none (Some n) f = absurd (f n refl)

pub free_of : (p : FaultPlaces) → AreAbsent p → IsFree (HasDwarfFault p)
free_of p a fault.DwarfVersion place e = not_found p.version place a.version e
free_of p a fault.DwarfForm place e = not_found p.form place a.form e
free_of p a fault.HighPcForm place e = not_found p.high place a.high e
free_of p a fault.DwarfFault place e = not_found p.bad place a.bad e
free_of p a _ place e = absurd e

least_some : (n : ℕ) (o : Option ℕ) → lower (Some n) o ≡ None → ⊥
least_some n None e = cc
least_some n (Some k) e = by_test (nat_le n k) e where
  by_test : (b : Bool) → (if b then Some n else Some k) ≡ None → ⊥
  by_test true f = cc
  by_test false f = cc

-- If a list has no least element, it is empty.
pub none_least : (ns : List ℕ) → least ns ≡ None → ns ≡ []
none_least [] e = refl
none_least (n ∷ ns) e = absurd (least_some n (least ns) e)

pub both_nil : (xs ys : List ℕ) → xs ++ ys ≡ [] → (xs ≡ []) × (ys ≡ [])
both_nil [] ys e = (refl, e)
both_nil (x ∷ xs) ys e = absurd (cc)

-- If no declaration is listed for a test, none passes it.
pub none_with : (test : Declaration → Bool) (ds : List Declaration) → places_with test ds ≡ [] → list_any test ds ≡ false
none_with test [] e = refl
none_with test (d ∷ ds) e = by_test (test d) e (none_with test ds) where
  by_test : (b : Bool) → map (λ (d : Declaration). d.place) (if b then d ∷ filter test ds else filter test ds) ≡ [] →
      (places_with test ds ≡ [] → list_any test ds ≡ false) →
      (b || list_any test ds) ≡ false
  by_test true f ih = absurd (cc)
  by_test false f ih = ih f

pub with_none : (test : Declaration → Bool) (ds : List Declaration) → list_any test ds ≡ false → places_with test ds ≡ []
with_none test [] e = refl
with_none test (d ∷ ds) e = by_test (test d) e (with_none test ds) where
  by_test : (b : Bool) → (b || list_any test ds) ≡ false → (list_any test ds ≡ false → places_with test ds ≡ []) →
      map (λ (d : Declaration). d.place) (if b then d ∷ filter test ds else filter test ds) ≡ []
  by_test true f ih = absurd (cc)
  by_test false f ih = ih f

any_parts : (test : Declaration → Bool) (xs ys : List Declaration) → list_any test (xs ++ ys) ≡ false →
    (list_any test xs ≡ false) × (list_any test ys ≡ false)
any_parts test [] ys e = (refl, e)
any_parts test (x ∷ xs) ys e =
    let p = or_parts (test x) (list_any test (xs ++ ys)) e in
    let q = any_parts test xs ys p.1 in
    (ap (λ (b : Bool). b || list_any test xs) p.0 ∙ q.0, q.1)

any_joined : (test : Declaration → Bool) (xs ys : List Declaration) → list_any test xs ≡ false → list_any test ys ≡ false →
    list_any test (xs ++ ys) ≡ false
any_joined test [] ys e f = f
any_joined test (x ∷ xs) ys e f =
    let p = or_parts (test x) (list_any test xs) e in
    ap (λ (b : Bool). b || list_any test (xs ++ ys)) p.0 ∙ any_joined test xs ys p.1 f

-- For each unit's declarations.
module _ (test : Declaration → Bool) (of : Walked → List Declaration) where
  abbrev pub NoneOf : List Walked → Type 0
  NoneOf [] = ⊤
  NoneOf (w ∷ ws) = (list_any test (of w) ≡ false) × NoneOf ws

  pub none_of : (ws : List Walked) → list_any test (flat_map of ws) ≡ false → NoneOf ws
  none_of [] e = tt
  none_of (w ∷ ws) e = let p = any_parts test (of w) (flat_map of ws) e in (p.0, none_of ws p.1)

  pub none_at : (ws : List Walked) (i : ℕ) (d : Walked) → i < length ws → NoneOf ws → list_any test (of (get_or ws i d)) ≡ false
  none_at [] i d h n = absurd (omega arith)
  none_at (w ∷ ws) zero d h n = n.0
  none_at (w ∷ ws) (suc i) d h n = none_at ws i d (omega arith) n.1

  pub of_none : (ws : List Walked) → NoneOf ws → list_any test (flat_map of ws) ≡ false
  of_none [] n = refl
  of_none (w ∷ ws) n = any_joined test (of w) (flat_map of ws) n.0 (of_none ws n.1)

-- If no unit is the first with a property, none has it.
pub no_first : (test : Walked → Bool) (ws : List Walked) → first_place test ws ≡ None → find test ws ≡ None
no_first test ws e = step (find test ws) e where
  step : (o : Option Walked) → option_map (λ (u : Walked). u.place) o ≡ None → o ≡ None
  step None f = refl
  step (Some w) f = absurd (cc)
