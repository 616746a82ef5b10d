-- Sets of numbers, with one more number.
use Rattle.std.proofs.Common.{◌≡◌, ◌∙◌, ◌<◌, ◌+◌, ℕ, Bool, true, false, cond, List, refl, sym, ap, get_or, length, nat_cmp}
use Rattle.std.proofs.Common.{take}
use Rattle.std.specs.Prelude.{◌==◌, ◌||◌}
use Rattle.std.specs.List.{list_any}
use Rattle.std.specs.BTreeMap.{is_at}
use Rattle.std.proofs.lemmas.List.Folds.{list_any_more}
use Rattle.range_loc_rewrite.proofs.NumberSets.{at_key}

module _ {X : Type 0} (test : X → Bool) (xs : List X) (i : ℕ) (d : X) (old : Bool) (h : i < length xs)
    (inv : old ≡ list_any test (take i xs)) where
  abbrev here : X
  here = get_or xs i d

  more : list_any test (take (i + 1) xs) ≡ (old || test here)
  more = list_any_more test xs i d h ∙ sym (ap (λ (b : Bool). b || test here) inv)

  -- Whether a number is in a set with one more number.
  pub has_more : (q k : ℕ) (new : Bool) → test here ≡ (k == q) → new ≡ cond (is_at (nat_cmp k) q) true old →
      new ≡ list_any test (take (i + 1) xs)
  has_more q k new t e = e ∙ ap (λ (b : Bool). cond b true old) (at_key k q ∙ sym t) ∙ or_is (test here) old ∙ sym more where
    or_is : (b c : Bool) → cond b true c ≡ (c || b)
    or_is true true = refl
    or_is true false = refl
    or_is false true = refl
    or_is false false = refl

  pub has_same : test here ≡ false → old ≡ list_any test (take (i + 1) xs)
  has_same t = or_false old ∙ sym (ap (λ (b : Bool). old || b) t) ∙ sym more where
    or_false : (c : Bool) → c ≡ (c || false)
    or_false true = refl
    or_false false = refl
