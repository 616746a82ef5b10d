-- Names that occur once, from one pair to the next.
use Rattle.std.proofs.Common.{◌≡◌, ◌≢◌, ◌<◌, ◌≤◌, ◌+◌, ◌⊎◌, ⊎_elim, inl, inr, cond, nat_cmp, ℕ, zero, suc, List, [], ◌∷◌, Bool, true}
use Rattle.std.proofs.Common.{false, not, refl, ap, sym, ◌∙◌, arith, length, drop, get_or, drop-cons, add-one}
use Rattle.std.specs.Prelude.{◌==◌, ◌&&◌, ◌||◌}
use Rattle.std.specs.List.{list_any}
use Rattle.std.specs.BTreeMap.{is_at}
use Rattle.std.proofs.lemmas.Bool.{cases_eq}
use Rattle.std.proofs.lemmas.Grind.{common_steps}
use Rattle.dw_unit.specs.declared.declaration.Spec.{Spec}
use Rattle.dw_unit.specs.Declarations.{is_named}
use Rattle.dw_unit.specs.CompUnits.{may_repeat, are_named_once}

pub named_step : (specs : List Spec) (i : ℕ) (d : Spec) → i < length specs →
    are_named_once (drop i specs) ≡ ((may_repeat (get_or specs i d).name
    || not (list_any (is_named (get_or specs i d).name) (drop (i + 1) specs)))
    && are_named_once (drop (i + 1) specs))
named_step specs i d h = ap are_named_once (drop-cons specs i d h)
    ∙ ap (λ (k : ℕ). ((may_repeat (get_or specs i d).name || not (list_any (is_named (get_or specs i d).name) (drop k specs)))
    && are_named_once (drop k specs))) (sym (add-one i))

pub named_end : (specs : List Spec) (i : ℕ) → length specs ≤ i → are_named_once (drop i specs) ≡ true
named_end [] zero h = refl
named_end [] (suc i) h = refl
named_end (s ∷ specs) zero h = absurd (omega arith)
named_end (s ∷ specs) (suc i) h = named_end specs i (omega arith)

-- A name that occurs again further on.
pub named_again : (specs : List Spec) (i : ℕ) (d : Spec) → i < length specs → may_repeat (get_or specs i d).name ≡ false →
    list_any (is_named (get_or specs i d).name) (drop (i + 1) specs) ≡ true → are_named_once (drop i specs) ≡ false
named_again specs i d h once again = rw (named_step specs i d h, once, again) refl

pub later_twice : (specs : List Spec) (i : ℕ) → are_named_once (drop i specs) ≡ false → are_named_once specs ≡ false
later_twice specs zero e = e
later_twice [] (suc i) e = e
later_twice (s ∷ specs) (suc i) e =
    ap (λ (b : Bool). (may_repeat s.name || not (list_any (is_named s.name) specs)) && b) (later_twice specs i e)
    ∙ and_false (may_repeat s.name || not (list_any (is_named s.name) specs)) where
      and_false : (b : Bool) → (b && false) ≡ false
      and_false true = refl
      and_false false = refl

pub names_step : (specs : List Spec) (i q : ℕ) (d : Spec) → i < length specs →
    list_any (is_named q) (drop i specs) ≡ (((get_or specs i d).name == q) || list_any (is_named q) (drop (i + 1) specs))
names_step specs i q d h = ap (list_any (is_named q)) (drop-cons specs i d h)
    ∙ ap (λ (k : ℕ). ((get_or specs i d).name == q) || list_any (is_named q) (drop k specs)) (sym (add-one i))

pub once_step : (specs : List Spec) (i : ℕ) (d : Spec) → i < length specs →
    (may_repeat (get_or specs i d).name ≡ true) ⊎ (list_any (is_named (get_or specs i d).name) (drop (i + 1) specs) ≡ false) →
    are_named_once (drop (i + 1) specs) ≡ true → are_named_once (drop i specs) ≡ true
once_step specs i d h (inl repeats) once = rw (named_step specs i d h, repeats, once) refl
once_step specs i d h (inr single) once = rw (named_step specs i d h, single, once) (right (may_repeat (get_or specs i d).name)) where
  right : (b : Bool) → ((b || true) && true) ≡ true
  right true = refl
  right false = refl

at_key : (k q : ℕ) → is_at (nat_cmp k) q ≡ (k == q)
at_key k q = ⊎_elim (λ (e : k ≡ q). grind (arith, common_steps)) (λ (ne : k ≢ q). grind (arith, common_steps)) (cases_eq k q)

-- The set of known names.
pub known_step : (specs : List Spec) (i q : ℕ) (d : Spec) (old new : Bool) → i < length specs →
    old ≡ list_any (is_named q) (drop (i + 1) specs) →
    new ≡ cond (is_at (nat_cmp (get_or specs i d).name) q) true old → new ≡ list_any (is_named q) (drop i specs)
known_step specs i q d old new h e f =
    f ∙ ap (λ (b : Bool). cond b true old) (at_key (get_or specs i d).name q) ∙ or_is ((get_or specs i d).name == q) old
    ∙ ap (λ (b : Bool). ((get_or specs i d).name == q) || b) e ∙ sym (names_step specs i q d h) where
      or_is : (b c : Bool) → cond b true c ≡ (b || c)
      or_is true c = refl
      or_is false c = refl
