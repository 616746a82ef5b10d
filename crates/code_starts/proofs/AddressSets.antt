-- Sets of addresses as marks and a list.
use Rattle.std.proofs.Common.{◌≡◌, ◌∙◌, ◌≢◌, ◌+◌, ◌-◌, ◌<◌, ◌≤◌, ℕ, ◌⊎◌, inl, inr, ⊎_elim, Bool, true, false, List, [], ◌∷◌, ◌++◌}
use Rattle.std.proofs.Common.{refl, sym, subst, ap, arith, length, get_or, set, length-set, get_or-set_other, get_or-set_same}
use Rattle.std.proofs.Common.{replicate, take}
use Rattle.std.specs.Prelude.{◌↔◌, Contains, IsTrue}
use Rattle.std.proofs.lemmas.Bool.{cases_eq, cases_lt}
use Rattle.std.proofs.lemmas.List.{get_or-replicate, get_or_past, length-replicate, take_more}
use Rattle.rb_bytes.specs.Lists.{Gains}
use Rattle.rb_bytes.proofs.Gains.{gains_one}
use Rattle.code_starts.specs.AddressSets.{IsIn, IsUnmarked}

-- A set without members.
pub in-nothing : (low width : ℕ) (marks : List Bool) (others : List ℕ) → marks ≡ replicate width false → others ≡ [] → (a : ℕ) →
    IsIn low marks others a ↔ Contains {X = ℕ} [] a
unfolding IsIn
in-nothing low width marks others no_mark none a = (forth, (λ (k, within, is). absurd (omega arith)))
  where
    at : (k : ℕ) → get_or (replicate width false) k false ≡ false
    at k = ⊎_elim
        (λ (lt : k < width). get_or-replicate width k false false lt)
        (λ (le : width ≤ k). get_or_past (replicate width false) k false (simp length-replicate (omega arith)))
        (cases_lt k width)

    forth : IsIn low marks others a → Contains {X = ℕ} [] a
    forth (inl (le, marked)) =
        let no : get_or marks (a - low) false ≡ false = ap (λ xs. get_or xs (a - low) false) no_mark ∙ at (a - low) in
        absurd (cc)
    forth (inr (unmarked, listed)) = subst (λ (xs : List ℕ). Contains xs a) none listed

-- The list in another order.
pub in-same : (low : ℕ) (marks : List Bool) (others now : List ℕ) → ((a : ℕ) → Contains now a ↔ Contains others a) → (a : ℕ) →
    IsIn low marks now a ↔ IsIn low marks others a
unfolding IsIn
in-same low marks others now same a = (forth, back)
  where
    forth : IsIn low marks now a → IsIn low marks others a
    forth (inl marked) = inl marked
    forth (inr (unmarked, listed)) = inr (unmarked, (same a).0 listed)

    back : IsIn low marks others a → IsIn low marks now a
    back (inl marked) = inl marked
    back (inr (unmarked, listed)) = inr (unmarked, (same a).1 listed)

-- An address with a mark.
pub in-mark : (low k : ℕ) (marks : List Bool) (others : List ℕ) (a : ℕ) (b : Bool) → low + k ≡ a → k < length marks →
    get_or marks k false ≡ b → IsTrue b ↔ IsIn low marks others a
unfolding IsIn
in-mark low k marks others a b is within at = (
  (λ (t : IsTrue b). inl (omega arith, subst IsTrue (sym (ap (λ j. get_or marks j false) there ∙ at)) t)),
  back,
)
  where
    there : a - low ≡ k
    there = omega arith

    back : IsIn low marks others a → IsTrue b
    back (inl (le, marked)) = subst IsTrue (ap (λ j. get_or marks j false) there ∙ at) marked
    back (inr (unmarked, listed)) = absurd (let n = unmarked (omega arith) in omega arith)

-- An address without a mark.
pub in-list : (low : ℕ) (marks : List Bool) (others : List ℕ) (a : ℕ) (b : Bool) → IsUnmarked low marks a →
    IsTrue b ↔ Contains others a → IsTrue b ↔ IsIn low marks others a
unfolding IsIn
in-list low marks others a b out is = ((λ t. inr (out, is.0 t)), back)
  where
    back : IsIn low marks others a → IsTrue b
    back (inl (le, marked)) =
        let no : get_or marks (a - low) false ≡ false = get_or_past marks (a - low) false (out le) in absurd (cc)
    back (inr (unmarked, listed)) = is.1 listed

-- One more of the addresses of a list.
pub in-next : (low : ℕ) (was now : List Bool) (others then addresses : List ℕ) (i : ℕ) → i < length addresses →
    ((a : ℕ) → IsIn low now then a ↔ (IsIn low was others a ⊎ (get_or addresses i 0 ≡ a))) →
    ((a : ℕ) → IsIn low was others a ↔ Contains (take i addresses) a) → (a : ℕ) →
    IsIn low now then a ↔ Contains (take (i + 1) addresses) a
in-next low was now others then addresses i within step known a = (
  (λ h. (gains a).1 (⊎_elim (λ in_was. inl ((known a).0 in_was)) (λ same. inr same) ((step a).0 h))),
  (λ c. (step a).1 (⊎_elim (λ in_first. inl ((known a).1 in_first)) (λ same. inr same) ((gains a).0 c))),
)
  where
    gains : Gains (take i addresses) (take (i + 1) addresses) (λ x. get_or addresses i 0 ≡ x)
    gains = gains_one (take i addresses) (take (i + 1) addresses) (get_or addresses i 0) (take_more addresses i 0 within)

-- One more mark.
pub in-marked : (low k : ℕ) (marks : List Bool) (others : List ℕ) (a : ℕ) → low + k ≡ a → k < length marks → (b : ℕ) →
    IsIn low (set marks k true) others b ↔ (IsIn low marks others b ⊎ (a ≡ b))
unfolding IsIn
in-marked low k marks others a is within b = (forth, back)
  where
    long : length (set marks k true) ≡ length marks
    long = length-set marks k true

    at_other : (b - low ≢ k) → get_or (set marks k true) (b - low) false ≡ get_or marks (b - low) false
    at_other ne = get_or-set_other marks k (b - low) true false ne

    forth : IsIn low (set marks k true) others b → IsIn low marks others b ⊎ (a ≡ b)
    forth (inl (le, marked)) = ⊎_elim
        (λ (same : b - low ≡ k). inr (omega arith))
        (λ (ne : b - low ≢ k). inl (inl (le, subst IsTrue (at_other ne) marked)))
        (cases_eq (b - low) k)
    forth (inr (unmarked, listed)) = inl (inr ((λ le. let n = unmarked le in omega (arith, long)), listed))

    here : b - low ≡ k → low ≤ b → IsIn low (set marks k true) others b
    here same le = inl (
      le,
      subst IsTrue (sym (ap (λ j. get_or (set marks k true) j false) same
          ∙ get_or-set_same marks k true false within)) refl,
    )

    back : IsIn low marks others b ⊎ (a ≡ b) → IsIn low (set marks k true) others b
    back (inl (inl (le, marked))) = ⊎_elim
        (λ (same : b - low ≡ k). here same le)
        (λ (ne : b - low ≢ k). inl (le, subst IsTrue (sym (at_other ne)) marked))
        (cases_eq (b - low) k)
    back (inl (inr (unmarked, listed))) = inr ((λ le. let n = unmarked le in omega (arith, long)), listed)
    back (inr same) = here (omega arith) (omega arith)

-- One more address without a mark.
pub in-listed : (low : ℕ) (marks : List Bool) (others now : List ℕ) (a : ℕ) → IsUnmarked low marks a → now ≡ others ++ a ∷ [] →
    (b : ℕ) → IsIn low marks now b ↔ (IsIn low marks others b ⊎ (a ≡ b))
unfolding IsIn
in-listed low marks others now a out is b = (forth, back)
  where
    gains : Gains others now (λ x. a ≡ x)
    gains = gains_one others now a is

    forth : IsIn low marks now b → IsIn low marks others b ⊎ (a ≡ b)
    forth (inl marked) = inl (inl marked)
    forth (inr (unmarked, listed)) = ⊎_elim (λ was. inl (inr (unmarked, was))) (λ same. inr same) ((gains b).0 listed)

    back : IsIn low marks others b ⊎ (a ≡ b) → IsIn low marks now b
    back (inl (inl marked)) = inl marked
    back (inl (inr (unmarked, listed))) = inr (unmarked, (gains b).1 (inl listed))
    back (inr same) = inr (subst (IsUnmarked low marks) same out, (gains b).1 (inr same))
