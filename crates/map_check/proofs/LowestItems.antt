-- The lowest place of the items of a list that lack a property, one more item at a time.
use Rattle.std.proofs.Common.{◌≡◌, ◌≢◌, ◌<◌, ◌≤◌, ◌+◌, ◌∙◌, ℕ, Bool, true, false, not, List, length, get_or, take, arith, refl, ap, sym}
use Rattle.std.proofs.Common.{subst, inl, inr, ⊎_elim, ◌⊎◌, ◌↔◌, Option, Some, None, IfNone, IsTrue, All, if◌then◌else◌, rules}
use Rattle.std.proofs.lemmas.Bool.{cases_eq, cases_lt}
use Rattle.std.proofs.lemmas.List.{take_all, get_or_default, get_or-take, length-take}
use Rattle.std.proofs.lemmas.List.Elements.{All-more}
use Rattle.elf_image.specs.faults.LowestPlace.{IsLowest, lower}
use Rattle.elf_image.proofs.LowestPlaces.{IsLowest-same, IsLowest-none, IsLowest-place_not, IsLowest-lower}

module _ {X : Type 0} (P : X → Type 0) (place : X → ℕ) where
  -- an item with this place lacks the property
  abbrev pub LackAt : List X → ℕ → Type 0
  LackAt xs a = All (λ x. place x ≡ a → P x) xs → ⊥

  -- the first i items have the property, or `o` is the lowest place of those that lack it
  pub record Judged (xs : List X) (i : ℕ) (o : Option ℕ) : Type 0 where
    pub all : IfNone o (All P (take i xs))
    pub lowest : IsLowest (LackAt (take i xs)) o

  pub judged_none : (xs : List X) → Judged xs 0 None
  judged_none xs = record {
    all = λ k d within. absurd (omega arith);
    lowest = IsLowest-none (λ a lacks. lacks (λ k d within. absurd (omega arith)));
  }

  private_get : (xs : List X) (i k : ℕ) (d : X) → k < i → get_or (take i xs) k d ≡ get_or xs k d
  private_get xs i k d less = get_or-take i xs k d less

  module _ (xs : List X) (i : ℕ) (d : X) (within : i < length xs) (has : Bool) (test : IsTrue has ↔ P (get_or xs i d)) where
    at : ℕ
    at = place (get_or xs i d)

    last : (k : ℕ) (e : X) → k ≡ i → get_or xs i d ≡ get_or (take (i + 1) xs) k e
    last k e same =
        let here : get_or (take (i + 1) xs) k e ≡ get_or xs k e = private_get xs (i + 1) k e (omega arith) in
        sym (here ∙ ap (λ (j : ℕ). get_or xs j e) same ∙ get_or_default xs i e d within)

    earlier : (k : ℕ) (e : X) → k < i → get_or (take i xs) k e ≡ get_or (take (i + 1) xs) k e
    earlier k e less = private_get xs i k e less ∙ sym (private_get xs (i + 1) k e (omega arith))

    more_lack : (a : ℕ) → LackAt (take i xs) a ⊎ ((P (get_or xs i d) → ⊥) × (a ≡ at)) → LackAt (take (i + 1) xs) a
    unfolding at
    more_lack a (inl lacks) all = lacks (λ k e less.
        let inside : k < i = omega (arith, length-take i xs) in
        subst (λ (x : X). place x ≡ a → P x) (sym (earlier k e inside)) (all k e (omega (arith, length-take (i + 1) xs))))
    more_lack a (inr lacks) all =
        let inside : i < length (take (i + 1) xs) = omega (arith, length-take (i + 1) xs) in
        lacks.0 (subst (λ (x : X). place x ≡ a → P x) (sym (last i d refl)) (all i d inside) (sym lacks.1))

    fewer_lack : (a : ℕ) → LackAt (take (i + 1) xs) a → LackAt (take i xs) a ⊎ ((P (get_or xs i d) → ⊥) × (a ≡ at))
    unfolding at
    fewer_lack a lacks = by has refl
      where
        whole : (place (get_or xs i d) ≡ a → P (get_or xs i d)) → LackAt (take i xs) a
        whole here all = lacks (λ k e less. ⊎_elim
            (λ (before : k < i). subst (λ (x : X). place x ≡ a → P x) (earlier k e before) (all k e (omega (arith, length-take i xs))))
            (λ (from : i ≤ k). let same : k ≡ i = omega (arith, length-take (i + 1) xs) in
            subst (λ (x : X). place x ≡ a → P x) (last k e same) here)
            (cases_lt k i))

        by : (b : Bool) → has ≡ b → LackAt (take i xs) a ⊎ ((P (get_or xs i d) → ⊥) × (a ≡ place (get_or xs i d)))
        by true is = inl (whole (λ same. test.0 is))
        by false is = ⊎_elim
            (λ (same : a ≡ place (get_or xs i d)). inr ((λ p. let never : false ≡ true = sym is ∙ test.1 p in cc), same))
            (λ (other : a ≢ place (get_or xs i d)). inl (whole (λ same. absurd (other (sym same)))))
            (cases_eq a (place (get_or xs i d)))

    all_more : (lowest r here : Option ℕ) → r ≡ lower lowest here → here ≡ (if not has then Some at else None) →
        IfNone lowest (All P (take i xs)) → IfNone r (All P (take (i + 1) xs))
    unfolding at
    all_more lowest r here is placed before = by has refl lowest r here is placed before
      where
        by : (b : Bool) → has ≡ b → (lowest r here : Option ℕ) → r ≡ lower lowest here →
            here ≡ (if not has then Some (place (get_or xs i d)) else None) →
            IfNone lowest (All P (take i xs)) → IfNone r (All P (take (i + 1) xs))
        by b e lowest (Some q) here is placed before = search rules
        by true e None None here is placed before = All-more P xs i d within before (test.0 e)
        by false e None None here is placed before =
            let some : here ≡ Some (place (get_or xs i d)) = placed ∙ ap
            (λ (t : Bool). if not t then Some (place (get_or xs i d)) else None) e in
            let never : None ≡ Some (place (get_or xs i d)) = is ∙ ap (lower None) some in absurd (cc)
        by b e (Some l) None None is placed before = absurd (let never : None ≡ Some l = is in cc)
        by b e (Some l) None (Some h) is placed before = absurd (let never : None ≡ lower (Some l) (Some h) = is in cc)

    pub judged_more : (lowest r here : Option ℕ) (q : ℕ) → r ≡ lower lowest here → here ≡ (if not has then Some q else None) →
        q ≡ place (get_or xs i d) → Judged xs i lowest → Judged xs (i + 1) r
    unfolding at
    judged_more lowest r here q is placed where_it before = record {
      all = all_more lowest r here is (placed ∙ ap (λ (p : ℕ). if not has then Some p else None) where_it) before.all;
      lowest = IsLowest-same r more_lack fewer_lack
          (IsLowest-lower lowest here r is before.lowest
          (IsLowest-place_not (P (get_or xs i d)) has q (place (get_or xs i d)) here placed where_it test));
    }

  pub judged_all : (xs : List X) (i : ℕ) (lowest : Option ℕ) → length xs ≤ i → Judged xs i lowest →
      IfNone lowest (All P xs) × IsLowest (LackAt xs) lowest
  judged_all xs i lowest all judged =
      let same = take_all i xs all in (
        subst (λ (ys : List X). IfNone lowest (All P ys)) same judged.all,
        subst (λ (ys : List X). IsLowest (LackAt ys) lowest) same
            judged.lowest,
      )
