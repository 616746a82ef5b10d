-- Entries that are marked by cuts, which ascend.
use Rattle.std.proofs.Common.{◌≡◌, ◌∙◌, ◌+◌, ◌-◌, ◌<◌, ◌≤◌, ◌==◌, ◌&&◌, ℕ, Bool, true, false, not, List, refl, sym, ap, subst, arith}
use Rattle.std.proofs.Common.{length}
use Rattle.std.proofs.lemmas.Bool.Decides.{nat_tests}
use Rattle.std.proofs.lemmas.Grind.{common_steps}
use Rattle.std.proofs.lemmas.List.Folds.{list_any_none, list_any_at, Any-from_list_any}
use Rattle.std.proofs.lemmas.Map.Keys.{below_from_sorted, sorted_from_strictly_increasing}
use Rattle.std.specs.Prelude.{nat_lt, nat_le, slice_index_or, Contains, ◌↔◌}
use Rattle.std.specs.List.{list_any}
use Rattle.std.specs.List.Sorted.{IsStrictlyIncreasing}
use Rattle.cfi_rows.specs.declared.frame_table.Fde.{Fde as ReadFde}
use Rattle.frame_rewrite.specs.FrameAnswers.{is_marked_by}
use Rattle.frame_rewrite.specs.FrameLookups.{is_marked_as}

abbrev is_strictly_inside : ReadFde → ℕ → Bool
is_strictly_inside f a = nat_lt f.start a && nat_lt a f.end

-- how many cuts are at most an address
pub record IsCount (cuts : List ℕ) (address n : ℕ) : Type 0 where
  pub bound : n ≤ length cuts
  pub below : (k : ℕ) (d : ℕ) → k < n → slice_index_or cuts k d ≤ address
  pub above : (k : ℕ) (d : ℕ) → n ≤ k → k < length cuts → address < slice_index_or cuts k d

unequal : (x y : ℕ) → (x ≡ y → ⊥) → (x == y) ≡ false
unequal x y h = at (x == y) refl where
  at : (b : Bool) → (x == y) ≡ b → b ≡ false
  at true e = absurd (h (grind (arith, nat_tests)))
  at false e = refl

equal : (x y : ℕ) → x ≡ y → (x == y) ≡ true
equal x y h = at (x == y) refl where
  at : (b : Bool) → (x == y) ≡ b → b ≡ true
  at true e = refl
  at false e = absurd (grind (arith, nat_tests))

not-inside : (x y z : ℕ) → (x < y → y < z → ⊥) → (nat_lt x y && nat_lt y z) ≡ false
not-inside x y z h = at (nat_lt x y) (nat_lt y z) refl refl where
  at : (a b : Bool) → nat_lt x y ≡ a → nat_lt y z ≡ b → (a && b) ≡ false
  at true true e f = absurd (h (grind (arith, nat_tests)) (grind (arith, nat_tests)))
  at true false e f = refl
  at false b e f = refl

inside : (x y z : ℕ) → x < y → y < z → (nat_lt x y && nat_lt y z) ≡ true
inside x y z p q = at (nat_lt x y) (nat_lt y z) refl refl where
  at : (a b : Bool) → nat_lt x y ≡ a → nat_lt y z ≡ b → (a && b) ≡ true
  at true true e f = refl
  at true false e f = absurd (grind (arith, nat_tests))
  at false b e f = absurd (grind (arith, nat_tests))

rising : (cuts : List ℕ) (i j d : ℕ) → IsStrictlyIncreasing cuts → i < j → j < length cuts →
    slice_index_or cuts i d < slice_index_or cuts j d
rising cuts i j d h l m = below_from_sorted cuts i j d (sorted_from_strictly_increasing cuts h) l m

-- none of the cuts is the start
absent : (cuts : List ℕ) (start n : ℕ) → IsStrictlyIncreasing cuts → IsCount cuts start n →
    (0 < n → slice_index_or cuts (n - 1) 0 ≡ start → ⊥) →
    list_any (λ c. c == start) cuts ≡ false
absent cuts start n h c m = list_any_none (λ c. c == start) cuts
    (λ k d l. unequal (slice_index_or cuts k d) start (λ e. at k d l e (nat_lt k n) (nat_lt (k + 1) n) refl refl)) where
      at : (k d : ℕ) → k < length cuts → slice_index_or cuts k d ≡ start → (a b : Bool) → nat_lt k n ≡ a →
          nat_lt (k + 1) n ≡ b → ⊥
      at k d l e true true f g =
          let low : k < n - 1 = grind (arith, nat_tests) in let b = c.bound in let p : n - 1 < length cuts = omega arith in
          let r = rising cuts k (n - 1) d h low p in let q : n - 1 < n = omega arith in let s = c.below (n - 1) d q in
          omega arith
      at k d l e true false f g =
          let is : k ≡ n - 1 = grind (arith, nat_tests) in let p : 0 < n = grind (arith, nat_tests) in
          let same : slice_index_or cuts k d ≡ slice_index_or cuts k 0 = grind (arith, common_steps) in
          m p (sym (ap (λ j. slice_index_or cuts j 0) is) ∙ sym same ∙ e)
      at k d l e false b f g = let p : n ≤ k = grind (arith, nat_tests) in let s = c.above k d p l in omega arith

-- none is strictly inside
clear : (cuts : List ℕ) (f : ReadFde) (n : ℕ) → IsCount cuts f.start n →
    ((k d : ℕ) → n ≤ k → k < length cuts → f.end ≤ slice_index_or cuts k d) →
    list_any (is_strictly_inside f) cuts ≡ false
clear cuts f n c h = list_any_none (is_strictly_inside f) cuts (λ k d l. not-inside f.start (slice_index_or cuts k d) f.end
    (λ p q. at k d l p q (nat_lt k n) refl)) where
      at : (k d : ℕ) → k < length cuts → f.start < slice_index_or cuts k d → slice_index_or cuts k d < f.end → (b : Bool) →
          nat_lt k n ≡ b → ⊥
      at k d l p q true e = let m : k < n = grind (arith, nat_tests) in let s = c.below k d m in omega arith
      at k d l p q false e = let m : n ≤ k = grind (arith, nat_tests) in let s = h k d m l in omega arith

no-start : (b a c : Bool) → a ≡ false → false ≡ (b && (a && c))
no-start true a c e = rw e refl
no-start false a c e = refl

by-parts : (b a c d : Bool) → b ≡ true → a ≡ true → c ≡ d → d ≡ (b && (a && c))
by-parts b a c d e f g = rw (e, f) (sym g)

pub not-at-cut : (cuts : List ℕ) (f : ReadFde) (n : ℕ) → IsStrictlyIncreasing cuts → IsCount cuts f.start n →
    (0 < n → slice_index_or cuts (n - 1) 0 ≡ f.start → ⊥) → false ≡ is_marked_as cuts f
not-at-cut cuts f n h c m = no-start (nat_lt 0 f.table) _ (not (list_any (is_strictly_inside f) cuts)) (absent cuts f.start n h c m)

some-table : (n : ℕ) → (n ≡ 0 → ⊥) → nat_lt 0 n ≡ true
some-table n h = at (nat_lt 0 n) refl where
  at : (b : Bool) → nat_lt 0 n ≡ b → b ≡ true
  at true e = refl
  at false e = absurd (h (grind (arith, nat_tests)))

pub last-cut : (cuts : List ℕ) (f : ReadFde) (n d : ℕ) → (f.table ≡ 0 → ⊥) → IsCount cuts f.start n → 0 < n →
    slice_index_or cuts (n - 1) d ≡ f.start →
    n ≡ length cuts → true ≡ is_marked_as cuts f
last-cut cuts f n d t c p e l =
    by-parts (nat_lt 0 f.table) _ _ true (some-table f.table t)
    (list_any_at (λ c. c == f.start) cuts (n - 1) d (omega arith) (equal (slice_index_or cuts (n - 1) d) f.start e))
    (ap not (clear cuts f n c (λ k d m q. absurd (omega arith))))

pub next-cut : (cuts : List ℕ) (f : ReadFde) (n d : ℕ) → IsStrictlyIncreasing cuts → (f.table ≡ 0 → ⊥) →
    IsCount cuts f.start n → 0 < n →
    slice_index_or cuts (n - 1) d ≡ f.start → n < length cuts → nat_le f.end (slice_index_or cuts n d) ≡ is_marked_as cuts f
next-cut cuts f n d h t c p e l = at (nat_le f.end (slice_index_or cuts n d)) refl where
  starts : list_any (λ c. c == f.start) cuts ≡ true
  starts = list_any_at (λ c. c == f.start) cuts (n - 1) d (omega arith) (equal (slice_index_or cuts (n - 1) d) f.start e)

  from : f.end ≤ slice_index_or cuts n d → (k j : ℕ) → n ≤ k → k < length cuts → f.end ≤ slice_index_or cuts k j
  from g k j m q = at-index (nat_lt n k) refl where
    same : slice_index_or cuts k j ≡ slice_index_or cuts k d
    same = grind (arith, common_steps)

    at-index : (b : Bool) → nat_lt n k ≡ b → f.end ≤ slice_index_or cuts k j
    at-index true r = let s = rising cuts n k d h (grind (arith, nat_tests)) q in let u = same in omega arith
    at-index false r = let is : k ≡ n = grind (arith, nat_tests) in let u = same in
        let v : f.end ≤ slice_index_or cuts k d = subst (λ i. f.end ≤ slice_index_or cuts i d) (sym is) g in omega arith

  at : (b : Bool) → nat_le f.end (slice_index_or cuts n d) ≡ b → b ≡ is_marked_as cuts f
  at true g = by-parts (nat_lt 0 f.table) _ _ true (some-table f.table t) starts
      (ap not (clear cuts f n c (from (grind (arith, nat_tests)))))
  at false g = by-parts (nat_lt 0 f.table) _ _ false (some-table f.table t) starts
      (ap not (list_any_at (is_strictly_inside f) cuts n d l (inside f.start (slice_index_or cuts n d) f.end (c.above n d (omega arith) l)
      (grind (arith, nat_tests)))))

-- The marks depend on which numbers are cuts, and not on their order.

any-kept : (test : ℕ → Bool) (xs ys : List ℕ) → ((a : ℕ) → Contains xs a → Contains ys a) → list_any test xs ≡ true →
    list_any test ys ≡ true
any-kept test xs ys h e =
    let some = Any-from_list_any test xs e in
    let there = h some.1 (some.0, some.2, some.3) in
    list_any_at test ys there.0 some.1 there.1 (subst (λ x. test x ≡ true) (sym there.2) some.4)

any-same : (test : ℕ → Bool) (xs ys : List ℕ) → ((a : ℕ) → Contains xs a ↔ Contains ys a) →
    list_any test xs ≡ list_any test ys
any-same test xs ys h = at (list_any test xs) (list_any test ys) refl refl where
  at : (a b : Bool) → list_any test xs ≡ a → list_any test ys ≡ b → a ≡ b
  at true true e f = refl
  at false false e f = refl
  at true false e f = let t = any-kept test xs ys (λ a. (h a).0) e in absurd (cc)
  at false true e f = let t = any-kept test ys xs (λ a. (h a).1) f in absurd (cc)

pub same-marks : (xs ys : List ℕ) → ((a : ℕ) → Contains xs a ↔ Contains ys a) → is_marked_by xs ≡ is_marked_by ys
same-marks xs ys h = λ i f. nat_lt 0 f.table && (any-same (λ c. c == f.start) xs ys h i
    && not (any-same (λ c. nat_lt f.start c && nat_lt c f.end) xs ys h i))
