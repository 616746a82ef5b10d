-- The lowest offset over several lists.
use Rattle.std.proofs.Common.{◌≡◌, ◌∙◌, ◌++◌, ◌<◌, Bool, true, false, Option, Some, None, List, [], ◌∷◌, refl, sym, ap, arith}
use Rattle.std.specs.Prelude.{if◌then◌else◌, nat_le, slice_get}
use Rattle.std.proofs.lemmas.Option.{slice_get_within, get_or_from_slice_get}
use Rattle.std.proofs.lemmas.Bool.Decides.{nat_tests}
use Rattle.std.proofs.lemmas.Grind.{common_steps}
use Rattle.std.proofs.Common.{ℕ, suc, ◌+◌, length, drop, get_or, drop-cons, add-one}
use Rattle.answer_runs.specs.Choices.{lower, least}
use Rattle.dw_unit.specs.Declarations.{Declaration}
use Rattle.dw_unit.specs.Faults.{places_with}
use Rattle.dw_unit.specs.Lowest.{lower_if}

pub lower-assoc : (x y z : Option ℕ) → lower (lower x y) z ≡ lower x (lower y z)
lower-assoc None y z = refl
lower-assoc (Some a) None z = refl
lower-assoc (Some a) (Some b) None = none (nat_le a b) a b where
  none : (t : Bool) (a b : ℕ) → lower (if t then Some a else Some b) None ≡ (if t then Some a else Some b)
  none true a b = refl
  none false a b = refl
lower-assoc (Some a) (Some b) (Some c) = grind (arith, nat_tests, common_steps)

pub least-append : (xs ys : List ℕ) → least (xs ++ ys) ≡ lower (least xs) (least ys)
least-append [] ys = refl
least-append (x ∷ xs) ys = ap (lower (Some x)) (least-append xs ys) ∙ sym (lower-assoc (Some x) (least xs) (least ys))

-- One more declaration in front.

least_head : (test : Declaration → Bool) (d : Declaration) (ds : List Declaration) (b : Bool) → test d ≡ b →
    least (places_with test (d ∷ ds)) ≡ lower_if b d.place (least (places_with test ds))
least_head test d ds true e = rw e refl
least_head test d ds false e = rw e refl

pub least_step : (test : Declaration → Bool) (ds : List Declaration) (i : ℕ) (e : Declaration) → i < length ds →
    least (places_with test (drop i ds)) ≡ lower_if (test (get_or ds i e)) (get_or ds i e).place
    (least (places_with test (drop (i + 1) ds)))
least_step test ds i e h =
    ap (λ (l : List Declaration). least (places_with test l)) (drop-cons ds i e h)
    ∙ least_head test (get_or ds i e) (drop (suc i) ds) (test (get_or ds i e)) refl
    ∙ ap (λ (k : ℕ). lower_if (test (get_or ds i e)) (get_or ds i e).place (least (places_with test (drop k ds)))) (sym (add-one i))

-- One more declaration in front, by the list from its index and from the next index on.
pub least_with : (test : Declaration → Bool) (ds : List Declaration) (i n : ℕ) (d : Declaration) (o : Option ℕ) → n ≡ i + 1 →
    slice_get ds i ≡ Some d →
    o ≡ least (places_with test (drop n ds)) → lower_if (test d) d.place o ≡ least (places_with test (drop i ds))
least_with test ds i n d o next there e =
    let inside = slice_get_within ds i d there in
    let same : get_or ds i d ≡ d = get_or_from_slice_get ds i d d there in
    ap (lower_if (test d) d.place) (e ∙ ap (λ (k : ℕ). least (places_with test (drop k ds))) next)
    ∙ sym (ap (λ (x : Declaration). lower_if (test x) x.place (least (places_with test (drop (i + 1) ds)))) same)
    ∙ sym (least_step test ds i d inside)
