-- Lists that are collected over the numbers below a bound.
use Rattle.std.proofs.Common.{◌≡◌, ◌∙◌, sym, ap, refl, ℕ, suc, ◌+◌, Option, Some, None, List, [], ◌∷◌, ◌++◌, arith}
use Rattle.std.specs.List.{cons_option, filter_map, range_with_len}
use Rattle.std.specs.Option.{option_to_list}
use Rattle.std.proofs.lemmas.List.Elements.{filter_map-append}
use Rattle.branch_fixup.proofs.Orders.{range_more}

one_or_none : {X : Type 0} (o : Option X) → option_to_list o ≡ cons_option o []
one_or_none None = refl
one_or_none (Some x) = refl

module _ {X : Type 0} (h : ℕ → Option X) (n : ℕ) where
  more : filter_map h (range_with_len 0 (suc n)) ≡ filter_map h (range_with_len 0 n) ++ filter_map h (n ∷ [])
  more =
      ap (filter_map h)
      (range_more 0 n ∙ ap (λ (k : ℕ). range_with_len 0 n ++ k ∷ []) (let e : 0 + n ≡ n = omega arith in e))
      ∙ filter_map-append h (range_with_len 0 n) (n ∷ [])

  pub gathers : (xs ys : List X) (o : Option X) → xs ≡ filter_map h (range_with_len 0 n) → o ≡ h n → ys ≡ xs ++ option_to_list o →
      ys ≡ filter_map h (range_with_len 0 (n + 1))
  gathers xs ys o was is e =
      e ∙ ap (λ (zs : List X). xs ++ zs) (one_or_none o) ∙ ap (λ (zs : List X). zs ++ cons_option o []) was
      ∙ ap (λ (p : Option X). filter_map h (range_with_len 0 n) ++ cons_option p []) is
      ∙ sym more ∙ ap (λ (k : ℕ). filter_map h (range_with_len 0 k)) (let same : suc n ≡ n + 1 = omega arith in same)
