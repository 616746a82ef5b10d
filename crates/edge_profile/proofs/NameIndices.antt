-- The indices of names that are written backwards.
use Rattle.std.proofs.Common.{◌≡◌, ◌<◌, ◌∙◌, ℕ, zero, suc, Bool, true, false, cond, List, [], ◌∷◌, Some, None, ap}
use Rattle.std.proofs.Common.{Option, refl, sym, length, get_or, arith, reverse, subst, IfSome}
use Rattle.std.proofs.lemmas.List.{reverse-reverse}
use Rattle.std.specs.Cmp.Lexicographic.{bytes_decides}
use Rattle.std.specs.Prelude.{bytes_eq, option_map}
use Rattle.edge_profile.specs.NameEnds.{BackwardName, Backward, index_of}

is_name : (n : List ℕ) (name : List ℕ) → n ≡ reverse name → bytes_eq n (reverse name) ≡ true
is_name n name is = (bytes_decides n (reverse name)).1 is

isnt_name : (n : List ℕ) (name : List ℕ) → (n ≡ reverse name → ⊥) → bytes_eq n (reverse name) ≡ false
isnt_name n name other = by (bytes_eq n (reverse name)) refl
  where
    by : (b : Bool) → bytes_eq n (reverse name) ≡ b → b ≡ false
    by true same = absurd (other ((bytes_decides n (reverse name)).0 same))
    by false e = refl

pub first_index : (names : Backward) (name : List ℕ) (k : ℕ) → k < length names →
    ((d : BackwardName) → (get_or names k d).items ≡ reverse name) →
    ((j : ℕ) (d : BackwardName) → j < k → (get_or names j d).items ≡ reverse name → ⊥) → index_of names name ≡ Some k
first_index [] name k within is first = absurd (omega (arith, within))
first_index (n ∷ names) name zero within is first =
    ap (λ (b : Bool). cond b (Some 0) (option_map suc (index_of names name))) (is_name n.items name (is n))
first_index (n ∷ names) name (suc k) within is first =
    ap (λ (b : Bool). cond b (Some 0) (option_map suc (index_of names name))) (isnt_name n.items name (first 0 n (omega arith)))
    ∙ ap (option_map suc) (first_index names name k (omega (arith, within)) is (λ j d less. first (suc j) d (omega (arith, less))))

pub no_index : (names : Backward) (name : List ℕ) →
    ((j : ℕ) (d : BackwardName) → j < length names → (get_or names j d).items ≡ reverse name → ⊥) → index_of names name ≡ None
no_index [] name none = refl
no_index (n ∷ names) name none =
    ap (λ (b : Bool). cond b (Some 0) (option_map suc (index_of names name))) (isnt_name n.items name (none 0 n (omega arith)))
    ∙ ap (option_map suc) (no_index names name (λ j d less. none (suc j) d (omega (arith, less))))

pub index_is : (names : Backward) (name : List ℕ) (k : ℕ) → index_of names name ≡ Some k →
    (k < length names) × ((d : BackwardName) → (get_or names k d).items ≡ reverse name)
index_is [] name k e = absurd (cc)
index_is (n ∷ names) name k e =
    by (bytes_eq n.items (reverse name)) refl (index_of names name) (λ j rest. index_is names name j rest) refl e
  where
    some_is : (i j : ℕ) → Some i ≡ Some j → i ≡ j
    some_is i j same = cc

    by : (b : Bool) → bytes_eq n.items (reverse name) ≡ b → (o : Option ℕ) →
        ((j : ℕ) → index_of names name ≡ Some j → (j < length names) × ((d : BackwardName) → (get_or names j d).items
        ≡ reverse name)) →
        index_of names name ≡ o → cond b (Some 0) (option_map suc o) ≡ Some k →
        (k < length (n ∷ names)) × ((d : BackwardName) → (get_or (n ∷ names) k d).items ≡ reverse name)
    by true same o later rest found =
        let zero_is : 0 ≡ k = some_is 0 k found in (
          omega (arith, zero_is),
          λ d. subst (λ (i : ℕ). (get_or (n ∷ names) i d).items ≡ reverse name) zero_is
              ((bytes_decides n.items (reverse name)).0 same),
        )
    by false other None later rest found = absurd (cc)
    by false other (Some j) later rest found =
        let at = later j rest in
        let next : suc j ≡ k = some_is (suc j) k found in
        let within = at.0 in
        (omega (arith, next, within), λ d. subst (λ (i : ℕ). (get_or (n ∷ names) i d).items ≡ reverse name) next (at.1 d))

-- names with the same index are equal
pub same_index : (names : Backward) (p q : List ℕ) (k : ℕ) → index_of names p ≡ Some k → index_of names q ≡ Some k → p ≡ q
same_index [] p q k of_p of_q = absurd (cc)
same_index (n ∷ names) p q k of_p of_q =
    sym (reverse-reverse p)
    ∙ ap reverse (sym ((index_is (n ∷ names) p k of_p).1 n) ∙ (index_is (n ∷ names) q k of_q).1 n)
    ∙ reverse-reverse q

-- an index that is found is within each list of the same length
pub within_names : {A : Type 0} (names : Backward) (name : List ℕ) (xs : List A) (o : Option ℕ) → length xs ≡ length names →
    index_of names name ≡ o → IfSome o (λ k. k < length xs)
within_names names name xs None count is = tt
within_names names name xs (Some k) count is = let within = (index_is names name k is).0 in omega (arith, within, count)
