-- The sections whose contents are written: each is there, and none is listed twice.
use Rattle.std.proofs.Common.{◌≡◌, ◌∙◌, sym, subst, ℕ, ◌<◌, inl, inr, List, Bool, Option, Some, None, arith, get_or, slice_get}
use Rattle.std.proofs.Common.{length}
use Rattle.std.specs.Prelude.{All, AllPairs, IsSomeAnd, IsTrue, ◌≢◌}
use Rattle.std.proofs.lemmas.List.Elements.{Contains-get_or}
use Rattle.std.proofs.lemmas.Option.{slice_get_within}
use Rattle.elf_image.specs.declared.section.Section.{Section}
use Rattle.rv_code.specs.layout.Lists.{IsPairBefore, ListsPairs}
use Rattle.elf_plan.specs.FileLayout.{PassesAt}

-- what an option holds
some_one : {X : Type 0} (o : Option X) (P : X → Type 0) → IsSomeAnd o P → (x : X) × (o ≡ Some x) × P x
some_one (Some x) P h = (x, λ i. Some x, h)
some_one None P h = absurd h

module _ (sections : List Section) (test : ℕ → Section → Bool) (order : List (ℕ × ℕ))
    (lists : ListsPairs (PassesAt sections test) order) where
  passes : (k : ℕ) (d : ℕ × ℕ) → k < length order → PassesAt sections test (get_or order k d)
  passes k d below = lists.only (get_or order k d) (Contains-get_or order k d below)

  pub listed-within : All (λ (e : ℕ × ℕ). e.1 < length sections) order
  listed-within k d below =
      let (s, at, is) = some_one (slice_get sections (get_or order k d).1) _ (passes k d below) in
      slice_get_within sections (get_or order k d).1 s at

  -- two entries with one index would have one offset too
  same-offset : (e f : ℕ × ℕ) → e.1 ≡ f.1 → PassesAt sections test e → PassesAt sections test f → e.0 ≡ f.0
  same-offset e f same p q =
      let (s, at, is) = some_one (slice_get sections f.1) _ q in
      let here : IsSomeAnd (slice_get sections f.1) (λ s. (s.offset ≡ e.0) × IsTrue (test f.1 s)) =
      subst (λ (i : ℕ). IsSomeAnd (slice_get sections i) (λ s. (s.offset ≡ e.0) × IsTrue (test i s))) same p in
      let found : (s.offset ≡ e.0) × IsTrue (test f.1 s) =
      subst (λ (o : Option Section). IsSomeAnd o (λ s. (s.offset ≡ e.0) × IsTrue (test f.1 s))) at here in
      sym found.0 ∙ is.0

  pub listed-once : AllPairs (λ (e f : ℕ × ℕ). e.1 ≢ f.1) order
  listed-once i j d less below same = cases (lists.ordered i j d less below)
    where
      cases : IsPairBefore (get_or order i d) (get_or order j d) → ⊥
      cases (inl lower) =
          let at = same-offset (get_or order i d) (get_or order j d) same (passes i d (omega arith)) (passes j d below) in
          omega (arith, at, lower)
      cases (inr later) = let behind = later.1 in omega (arith, same, behind)
