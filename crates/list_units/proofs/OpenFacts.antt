-- Open entries: what doesn't change, and the nearest ranges.
use Rattle.std.proofs.Common.{◌≡◌, ◌∙◌, ◌+◌, ◌-◌, ◌<◌, ◌≤◌, ◌++◌, ◌∷◌, [], ℕ, Bool, true, false, List, Option, Some, None, refl, sym, ap}
use Rattle.std.proofs.Common.{subst, arith, length, get_or, reverse}
use Rattle.std.specs.Prelude.{if◌then◌else◌, filter_map, is_some, not, nat_le, nat_lt, slice_get}
use Rattle.std.specs.List.{cons_option}
use Rattle.std.specs.Option.{option_or, option_to_list}
use Rattle.std.proofs.lemmas.Bool.Decides.{nat_tests}
use Rattle.std.proofs.lemmas.List.{reverse-append, length-reverse, get_or-reverse}
use Rattle.std.proofs.lemmas.Option.{slice_get-get_or}
use Rattle.answer_runs.specs.declared.range.Range.{Range}
use Rattle.answer_runs.specs.Choices.{first_of}
use Rattle.dw_unit.specs.CompUnits.{Entry, enclosing}
use Rattle.cover_lists.specs.declared.groups.Groups.{Groups}
use Rattle.list_units.specs.declared.open_entries.OpenEntry.{OpenEntry}
use Rattle.cover_lists.specs.Groups.{Grow, HasRanges}
use Rattle.list_units.specs.OpenEntries.{ends, closed, nearest, chain, AreOpen}
use Rattle.cover_lists.proofs.GroupFacts.{none_has, has_still}

-- The last of a list is the first of the reversed list

first_there : {X : Type 0} (ys : List X) (x : X) → 0 < length ys → Some (get_or ys 0 x) ≡ first_of ys
first_there [] x h = absurd (omega arith)
first_there (y ∷ ys) x h = refl

pub last_is : {X : Type 0} (xs : List X) → slice_get xs (length xs - 1) ≡ first_of (reverse xs)
last_is [] = refl
last_is {X} (x ∷ xs) =
    let place : length (x ∷ xs) - 1 ≡ length (x ∷ xs) - 1 - 0 = omega arith in
    slice_get-get_or (x ∷ xs) (length (x ∷ xs) - 1) x (omega arith)
    ∙ ap (λ (y : X). Some y) (ap (λ (n : ℕ). get_or (x ∷ xs) n x) place ∙ sym (get_or-reverse (x ∷ xs) 0 x (omega arith)))
    ∙ first_there (reverse (x ∷ xs)) x (omega (arith, length-reverse (x ∷ xs)))

-- The first entry

pub ends_is : (depth : ℕ) (os : List OpenEntry) (o : OpenEntry) → first_of os ≡ Some o → nat_le depth o.depth ≡ ends depth os
ends_is depth [] o e = absurd (cc)
ends_is depth (p ∷ os) o e = same o (same_first p o e)
  where
    same_first : (p o : OpenEntry) → Some p ≡ Some o → p ≡ o
    same_first p o e = cc

    tested : (m n : ℕ) → nat_le n m ≡ not (nat_lt m n)
    tested m n = grind (arith, nat_tests)

    same : (o : OpenEntry) → p ≡ o → nat_le depth o.depth ≡ not (nat_lt p.depth depth)
    same o e = tested o.depth depth ∙ ap (λ (q : OpenEntry). not (nat_lt q.depth depth)) (sym e)

pub ends_none : (depth : ℕ) (os : List OpenEntry) → first_of os ≡ None → false ≡ ends depth os
ends_none depth [] e = refl
ends_none depth (o ∷ os) e = absurd (cc)

pub nearest_is : (os : List OpenEntry) (o : OpenEntry) → first_of os ≡ Some o → o.nearest ≡ nearest os
nearest_is [] o e = absurd (cc)
nearest_is (p ∷ os) o e = same_nearest p o e
  where
    same_nearest : (p o : OpenEntry) → Some p ≡ Some o → o.nearest ≡ p.nearest
    same_nearest p o e = let f : p ≡ o = cc in ap (λ (q : OpenEntry). q.nearest) (sym f)

pub nearest_none : (os : List OpenEntry) → first_of os ≡ None → None ≡ nearest os
nearest_none [] e = refl
nearest_none (o ∷ os) e = absurd (cc)

-- Closing

pub closed_stays : (depth : ℕ) (os : List OpenEntry) → ends depth os ≡ false → closed depth os ≡ os
closed_stays depth [] e = refl
closed_stays depth (o ∷ os) e = step (nat_lt o.depth depth) e
  where
    step : (b : Bool) → not b ≡ false → (if b then o ∷ os else closed depth os) ≡ o ∷ os
    step true e = refl
    step false e = absurd (cc)

closed_more : (depth : ℕ) (o : OpenEntry) (os : List OpenEntry) → ends depth (o ∷ os) ≡ true → closed depth (o ∷ os) ≡ closed depth os
closed_more depth o os e = step (nat_lt o.depth depth) e
  where
    step : (b : Bool) → not b ≡ true → (if b then o ∷ os else closed depth os) ≡ closed depth os
    step true e = absurd (cc)
    step false e = refl

some_left : (depth : ℕ) (os : List OpenEntry) → ends depth (reverse os) ≡ true → 0 < length os
some_left depth [] e = absurd (cc)
some_left depth (o ∷ os) e = omega arith

-- The last one is closed.
pub closed_next : (depth : ℕ) (old new : List OpenEntry) (o : Option OpenEntry) → old ≡ new ++ option_to_list o →
    length new + length (option_to_list o) ≡ length old → (0 < length old → is_some o ≡ true) → ends depth (reverse old) ≡ true →
    (closed depth (reverse new) ≡ closed depth (reverse old)) × (length new + 1 ≡ length old)
closed_next depth old new None is size some ended = let h = some (some_left depth old ended) in absurd (cc)
closed_next depth old new (Some o) is size some ended =
    let front : reverse old ≡ o ∷ reverse new = ap (λ (l : List OpenEntry). reverse l) is ∙ reverse-append new (o ∷ []) in (
      sym (closed_more depth o (reverse new) (sym (ap (ends depth) front) ∙ ended)) ∙ ap (closed depth) (sym front),
      size,
    )

pub none_open : (depth : ℕ) (os : List OpenEntry) → length os ≡ 0 → reverse os ≡ closed depth (reverse os)
none_open depth [] e = refl
none_open depth (o ∷ os) e = absurd (omega arith)

-- Ancestors of entries

abbrev left_open : ℕ → List Entry → List Entry
left_open depth [] = []
left_open depth (e ∷ es) = if nat_lt e.depth depth then e ∷ es else left_open depth es

left_enclosing : (before : List Entry) (m depth : ℕ) → depth ≤ m → left_open depth (enclosing m before) ≡ enclosing depth before
left_enclosing [] m depth le = refl
left_enclosing (e ∷ before) m depth le =
    by_outer (nat_lt e.depth m) (nat_lt e.depth depth) refl refl (λ h. left_enclosing before e.depth depth h)
    (left_enclosing before m depth le)
  where
    by_outer : (b c : Bool) → nat_lt e.depth m ≡ b → nat_lt e.depth depth ≡ c →
        (depth ≤ e.depth → left_open depth (enclosing e.depth before) ≡ enclosing depth before) →
        left_open depth (enclosing m before) ≡ enclosing depth before →
        left_open depth (if b then e ∷ enclosing e.depth before else enclosing m before)
        ≡ (if c then e ∷ enclosing e.depth before else enclosing depth before)
    by_outer true true is isc here more = ap (λ (c : Bool). if c then e ∷ enclosing e.depth before else left_open depth
        (enclosing e.depth before)) isc
    by_outer true false is isc here more =
        ap (λ (c : Bool). if c then e ∷ enclosing e.depth before else left_open depth (enclosing e.depth before)) isc
        ∙ here (let h : depth ≤ e.depth = grind (arith, nat_tests) in h)
    by_outer false true is isc here more = absurd (grind (arith, nat_tests))
    by_outer false false is isc here more = more

pub left_chain : (before : List Entry) (depth : ℕ) → left_open depth (chain before) ≡ enclosing depth before
left_chain [] depth = refl
left_chain (e ∷ before) depth = by_test (nat_lt e.depth depth) refl
  where
    by_test : (b : Bool) → nat_lt e.depth depth ≡ b → (if b then e ∷ enclosing e.depth before else left_open depth
        (enclosing e.depth before))
        ≡ (if b then e ∷ enclosing e.depth before else enclosing depth before)
    by_test true is = refl
    by_test false is = left_enclosing before e.depth depth (let h : depth ≤ e.depth = grind (arith, nat_tests) in h)

module _ (own : Entry → Option (List Range)) where
  pub closed_open : (g : Groups) (depth : ℕ) (es : List Entry) (os : List OpenEntry) → AreOpen own g es os →
      AreOpen own g (left_open depth es) (closed depth os)
  closed_open g depth [] [] are = are
  closed_open g depth [] (o ∷ os) are = absurd are
  closed_open g depth (e ∷ es) [] are = absurd are
  closed_open g depth (e ∷ es) (o ∷ os) are =
      by_test (nat_lt e.depth depth) (nat_lt o.depth depth) (ap (λ (n : ℕ). nat_lt n depth) (sym are.0)) (closed_open g depth es os are.2)
    where
      by_test : (b c : Bool) → b ≡ c → AreOpen own g (left_open depth es) (closed depth os) →
          AreOpen own g (if b then e ∷ es else left_open depth es) (if c then o ∷ os else closed depth os)
      by_test true true same more = are
      by_test false false same more = more
      by_test true false same more = absurd (cc)
      by_test false true same more = absurd (cc)

  pub nearest_open : (g : Groups) (es : List Entry) (os : List OpenEntry) → AreOpen own g es os →
      HasRanges g (nearest os) (first_of (filter_map own es))
  nearest_open g [] [] are = none_has g
  nearest_open g [] (o ∷ os) are = absurd are
  nearest_open g (e ∷ es) [] are = absurd are
  nearest_open g (e ∷ es) (o ∷ os) are = are.1

  pub still_open : (old new : Groups) (es : List Entry) (os : List OpenEntry) → Grow old new → AreOpen own old es os → AreOpen own new es os
  still_open old new [] [] grow are = are
  still_open old new [] (o ∷ os) grow are = absurd are
  still_open old new (e ∷ es) [] grow are = absurd are
  still_open old new (e ∷ es) (o ∷ os) grow are =
      (are.0, has_still old new o.nearest (first_of (filter_map own (e ∷ es))) grow are.1, still_open old new es os grow are.2)

  -- One more entry is open, with its own ranges or those of its parent.
  own_or : (g : Groups) (o p : Option ℕ) (x : Option (List Range)) (xs : List (List Range)) → HasRanges g o x →
      HasRanges g p (first_of xs) →
      HasRanges g (option_or o p) (first_of (cons_option x xs))
  own_or g None p None xs has outer = outer
  own_or g None p (Some rs) xs has outer = let f : false ≡ true = has.some in absurd (cc)
  own_or g (Some n) p None xs has outer = let f : true ≡ false = has.some in absurd (cc)
  own_or g (Some n) p (Some rs) xs has outer = has

  pub entered : (g : Groups) (e : Entry) (before : List Entry) (os new : List OpenEntry) (group n : Option ℕ) →
      AreOpen own g (chain before) os →
      HasRanges g group (own e) → n ≡ option_or group (nearest (closed e.depth os)) →
      new ≡ record { depth = e.depth; nearest = n } ∷ closed e.depth os →
      HasRanges g n (first_of (filter_map own (e ∷ enclosing e.depth before))) × AreOpen own g (chain (e ∷ before)) new
  entered g e before os new group n are has is made =
      let outer : AreOpen own g (enclosing e.depth before) (closed e.depth os) =
      subst (λ (es : List Entry). AreOpen own g es (closed e.depth os)) (left_chain before e.depth)
      (closed_open g e.depth (chain before) os are) in
      let here : HasRanges g n (first_of (filter_map own (e ∷ enclosing e.depth before))) =
      subst (λ (o : Option ℕ). HasRanges g o (first_of (filter_map own (e ∷ enclosing e.depth before)))) (sym is)
      (own_or g group (nearest (closed e.depth os)) (own e) (filter_map own (enclosing e.depth before)) has
      (nearest_open g (enclosing e.depth before) (closed e.depth os) outer)) in
      (here, subst (λ (os : List OpenEntry). AreOpen own g (chain (e ∷ before)) os) (sym made) (refl, here, outer))
