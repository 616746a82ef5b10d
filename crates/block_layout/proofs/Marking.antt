-- Marking numbers, and the numbers without a mark.
use Rattle.std.proofs.Common.{◌≡◌, ◌≢◌, ◌↔◌, ◌<◌, ◌≤◌, ◌+◌, ◌-◌, ◌∙◌, ℕ, Bool, true, false, List, [], ◌∷◌, ◌++◌, length, get_or, set, take}
use Rattle.std.proofs.Common.{arith, sym, subst, ⊎_elim, Contains, IsTrue, get_or-set_same, get_or-set_other, length-set}
use Rattle.std.proofs.lemmas.Bool.{cases_eq}
use Rattle.std.proofs.lemmas.List.{take_more}
use Rattle.std.proofs.lemmas.List.Elements.{Contains-append_left, Contains-push, Contains-push_cases, Contains-get_or}
use Rattle.std.proofs.lemmas.List.Quantifiers.{all_pairs_push}
use Rattle.rv_code.specs.layout.Lists.{ListsNumbers}

-- the first i numbers are marked
pub record AreMarked (hot : List ℕ) (i start n : ℕ) (marks : List Bool) : Type 0 where
  pub long : length marks ≡ n
  pub marked : (k : ℕ) → k < n → IsTrue (get_or marks k false) ↔ Contains (take i hot) (start + k)

pub marked_more : (hot : List ℕ) (i d start n : ℕ) (marks : List Bool) → i < length hot → start ≤ get_or hot i d
    → get_or hot i d - start < n
    → AreMarked hot i start n marks → AreMarked hot (i + 1) start n (set marks (get_or hot i d - start) true)
marked_more hot i d start n marks within from to was = record {
  long = let same : length (set marks (get_or hot i d - start) true) ≡ length marks = simp length-set in same ∙ was.long;
  marked = λ k inside. (
    (λ is. ⊎_elim (λ (same : k ≡ x - start). at_x k same) (λ (other : k ≢ x - start). old k inside other is)
        (cases_eq k (x - start))),
    back k inside,
  );
}
  where
    x : ℕ
    x = get_or hot i d

    more : take (i + 1) hot ≡ take i hot ++ x ∷ []
    more = take_more hot i d within

    there : x - start < length marks
    there = let l = was.long in omega arith

    at_x : (k : ℕ) → k ≡ x - start → Contains (take (i + 1) hot) (start + k)
    at_x k same =
        let is : x ≡ start + k = omega arith in
        subst (λ (hs : List ℕ). Contains hs (start + k)) (sym more)
        (subst (λ (y : ℕ). Contains (take i hot ++ x ∷ []) y) is (Contains-push (take i hot) x))

    old : (k : ℕ) → k < n → k ≢ x - start → IsTrue (get_or (set marks (x - start) true) k false) →
        Contains (take (i + 1) hot) (start + k)
    old k inside other is =
        let same = get_or-set_other marks (x - start) k true false other in
        subst (λ (hs : List ℕ). Contains hs (start + k)) (sym more)
        (Contains-append_left (take i hot) (x ∷ []) (start + k) ((was.marked k inside).0 (subst IsTrue same is)))

    back : (k : ℕ) → k < n → Contains (take (i + 1) hot) (start + k) → IsTrue (get_or (set marks (x - start) true) k false)
    back k inside listed = ⊎_elim
        (λ (same : k ≡ x - start). subst (λ (j : ℕ). IsTrue (get_or (set marks (x - start) true) j false)) (sym same)
        (get_or-set_same marks (x - start) true false there))
        (λ (other : k ≢ x - start).
        let kept = get_or-set_other marks (x - start) k true false other in
        subst IsTrue (sym kept) ((was.marked k inside).1 (⊎_elim
        (λ before. before)
        (λ (is : x ≡ start + k). absurd (other (omega arith)))
        (Contains-push_cases (take i hot) x (start + k) (subst (λ (hs : List ℕ). Contains hs (start + k)) more listed)))))
        (cases_eq k (x - start))

-- the numbers from `start` to before `end` that aren't in a list
abbrev pub IsLeft : List ℕ → ℕ → ℕ → ℕ → Type 0
IsLeft hot start end k = ((start ≤ k) × (k < end)) × (Contains hot k → ⊥)

module _ (hot : List ℕ) (start n : ℕ) (part : List ℕ) (was : ListsNumbers (IsLeft hot start n) part) where
  pub left_skip : Contains hot n → ListsNumbers (IsLeft hot start (n + 1)) part
  left_skip is = record {
    only = λ k listed. let old = was.only k listed in ((old.0.0, let h = old.0.1 in omega arith), old.1);
    each = λ k left. ⊎_elim
        (λ (same : k ≡ n). absurd (left.1 (subst (Contains hot) (sym same) is)))
        (λ (other : k ≢ n). was.each k ((left.0.0, let h = left.0.1 in omega arith), left.1))
        (cases_eq k n);
    ordered = was.ordered;
  }

  pub left_more : start ≤ n → (Contains hot n → ⊥) → ListsNumbers (IsLeft hot start (n + 1)) (part ++ n ∷ [])
  left_more from none = record {
    only = λ k listed. ⊎_elim
        (λ before. let old = was.only k before in ((old.0.0, let h = old.0.1 in omega arith), old.1))
        (λ (is : n ≡ k). ((omega arith, omega arith), λ listed'. none (subst (Contains hot) (sym is) listed')))
        (Contains-push_cases part n k listed);
    each = λ k left. ⊎_elim
        (λ (same : k ≡ n). subst (Contains (part ++ n ∷ [])) (sym same) (Contains-push part n))
        (λ (other : k ≢ n). Contains-append_left part (n ∷ []) k
        (was.each k ((left.0.0, let h = left.0.1 in omega arith), left.1)))
        (cases_eq k n);
    ordered = all_pairs_push (λ a b. a < b) part n was.ordered
        (λ k d within. (was.only (get_or part k d) (Contains-get_or part k d within)).0.1);
  }
