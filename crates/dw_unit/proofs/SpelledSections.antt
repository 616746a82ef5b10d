-- Tables of abbreviations that are spelled one after another.
use Rattle.std.proofs.Common.{◌≡◌, ◌≢◌, ◌<◌, ◌≤◌, ◌+◌, ◌++◌, ◌∙◌, ⊎_elim, ℕ, zero, suc, List, [], ◌∷◌, Bool, true, false, refl, ap, sym}
use Rattle.std.proofs.Common.{subst, arith, length, take, get_or, append_assoc}
use Rattle.std.specs.Prelude.{◌==◌, ◌||◌, if◌then◌else◌, filter, flat_map, nat_lt}
use Rattle.std.specs.List.{list_any, range_with_len}
use Rattle.std.proofs.lemmas.Bool.{cases_eq, eq-eqb, ne_eqb, eqb-true}
use Rattle.std.proofs.lemmas.Bool.Decides.{nat_tests}
use Rattle.dw_unit.specs.Declarations.{table_at}
use Rattle.dw_unit.specs.CompUnits.{Sections, Unit, units}
use Rattle.dw_unit.specs.Changes.{changed_abbrevs, is_own, new_offset, table_bytes, table_offsets}
use Rattle.answer_runs.proofs.Ascending.{Ascends, later_up}
use Rattle.dw_unit.proofs.Spelled.{bytes_of_table}

kept_rising : (p : ℕ → Bool) (n a : ℕ) → Ascends a (filter p (range_with_len a n))
kept_rising p zero a = tt
kept_rising p (suc n) a = step (p a) (kept_rising p n (a + 1)) where
  step : (b : Bool) → Ascends (a + 1) (filter p (range_with_len (a + 1) n)) →
      Ascends a (if b then a ∷ filter p (range_with_len (a + 1) n) else filter p (range_with_len (a + 1) n))
  step true up = (omega arith, up)
  step false up = later_up (a + 1) a (filter p (range_with_len (a + 1) n)) (omega arith) up

abbrev pub among : ℕ → List ℕ → Bool
among q xs = list_any (λ o. o == q) xs

-- A number of the range that passes the test is in the filtered range.
pub kept_among : (p : ℕ → Bool) (n a q : ℕ) → a ≤ q → q < a + n → p q ≡ true → among q (filter p (range_with_len a n)) ≡ true
kept_among p zero a q h k e = absurd (omega arith)
kept_among p (suc n) a q h k e = ⊎_elim
    (λ (same : a ≡ q). here (p a) (subst (λ (x : ℕ). p x ≡ true) (sym same) e) same)
    (λ (ne : a ≢ q). later (p a) (kept_among p n (a + 1) q (omega arith) (omega arith) e))
    (cases_eq a q) where
      here : (b : Bool) → b ≡ true → a ≡ q → among q (if b then a ∷ filter p (range_with_len (a + 1) n) else filter p
          (range_with_len (a + 1) n)) ≡ true
      here true f same = ap (λ (b : Bool). b || among q (filter p (range_with_len (a + 1) n))) (eq-eqb a q same)
      here false f same = absurd (cc)

      right : (x y : Bool) → y ≡ true → (x || y) ≡ true
      right true y f = refl
      right false y f = f

      later : (b : Bool) → among q (filter p (range_with_len (a + 1) n)) ≡ true →
          among q (if b then a ∷ filter p (range_with_len (a + 1) n) else filter p (range_with_len (a + 1) n)) ≡ true
      later true f = right (a == q) (among q (filter p (range_with_len (a + 1) n))) f
      later false f = f

none_below : (o a : ℕ) (xs : List ℕ) → o ≤ a → Ascends a xs → filter (λ x. nat_lt x o) xs ≡ []
none_below o a [] h up = refl
none_below o a (x ∷ xs) h up =
    let g = up.0 in
    let out : nat_lt x o ≡ false = grind (arith, nat_tests) in
    ap (λ (b : Bool). if b then x ∷ filter (λ x. nat_lt x o) xs else filter (λ x. nat_lt x o) xs) out
    ∙ none_below o (x + 1) xs (omega arith) up.1

lowest : (q a : ℕ) (xs : List ℕ) → Ascends a xs → among q xs ≡ true → a ≤ q
lowest q a [] up e = absurd (cc)
lowest q a (x ∷ xs) up e = by_test (x == q) refl e (lowest q (x + 1) xs up.1) where
  by_test : (b : Bool) → (x == q) ≡ b → (b || among q xs) ≡ true → (among q xs ≡ true → x + 1 ≤ q) → a ≤ q
  by_test true f t ih = let g : x ≡ q = eqb-true x q f in let h = up.0 in omega arith
  by_test false f t ih = let g = ih t in let h = up.0 in omega arith

at_least : (a i d : ℕ) (xs : List ℕ) → Ascends a xs → i < length xs → a ≤ get_or xs i d
at_least a i d [] up h = absurd (omega arith)
at_least a zero d (x ∷ xs) up h = up.0
at_least a (suc i) d (x ∷ xs) up h = let g = at_least (x + 1) i d xs up.1 (omega arith) in let k = up.0 in omega arith

-- The numbers below one of an ascending list are those before it.
pub below_it : (a i d : ℕ) (xs : List ℕ) → Ascends a xs → i < length xs → filter (λ x. nat_lt x (get_or xs i d)) xs ≡ take i xs
below_it a i d [] up h = absurd (omega arith)
below_it a zero d (x ∷ xs) up h = none_below x x (x ∷ xs) (omega arith) (omega arith, up.1)
below_it a (suc i) d (x ∷ xs) up h =
    let more : x + 1 ≤ get_or xs i d = at_least (x + 1) i d xs up.1 (omega arith) in
    let in_front : nat_lt x (get_or xs i d) ≡ true = grind (arith, nat_tests) in
    ap (λ (b : Bool). if b then x ∷ filter (λ y. nat_lt y (get_or xs i d)) xs else filter (λ y. nat_lt y (get_or xs i d)) xs) in_front
    ∙ ap (λ (l : List ℕ). x ∷ l) (below_it (x + 1) i d xs up.1 (omega arith))

-- The bytes before a table's, and those after them.
pub record IsSplit (f : ℕ → List ℕ) (o : ℕ) (os : List ℕ) : Type 0 where
  pub rest : List ℕ
  pub is : flat_map f os ≡ flat_map f (filter (λ x. nat_lt x o) os) ++ (f o ++ rest)

pub split_at : (f : ℕ → List ℕ) (o a : ℕ) (os : List ℕ) → Ascends a os → among o os ≡ true → IsSplit f o os
split_at f o a [] up e = absurd (cc)
split_at f o a (x ∷ xs) up e = ⊎_elim
    (λ (same : x ≡ o). record {
      rest = flat_map f xs;
      is =
          let none : filter (λ y. nat_lt y o) (x ∷ xs) ≡ [] = none_below o x (x ∷ xs) (omega arith) (omega arith, up.1) in
          ap (λ (k : ℕ). f k ++ flat_map f xs) same
          ∙ sym (ap (λ (l : List ℕ). flat_map f l ++ (f o ++ flat_map f xs)) none);
    })
    (λ (ne : x ≢ o).
    let there : among o xs ≡ true = sym (ap (λ (b : Bool). b || among o xs) (ne_eqb x o ne)) ∙ e in
    let more : x + 1 ≤ o = lowest o (x + 1) xs up.1 there in
    let r : IsSplit f o xs = split_at f o (x + 1) xs up.1 there in
    let in_front : nat_lt x o ≡ true = grind (arith, nat_tests) in
    record {
      rest = r.rest;
      is =
          ap (λ (l : List ℕ). f x ++ l) r.is
          ∙ sym (append_assoc (f x) (flat_map f (filter (λ y. nat_lt y o) xs)) (f o ++ r.rest))
          ∙ sym (ap (λ (b : Bool). flat_map f (if b then x ∷ filter (λ y. nat_lt y o) xs else filter (λ y. nat_lt y o) xs)
          ++ (f o ++ r.rest)) in_front);
    })
    (cases_eq x o)

-- The offset of the table of an old offset.
pub record IsSpelledAt (s : Sections) (offset : ℕ) : Type 0 where
  pub before : List ℕ
  pub rest : List ℕ
  pub is : changed_abbrevs s ≡ before ++ (bytes_of_table (is_own s) (table_at s.abbrevs offset).list ++ (0 ∷ rest))
  pub at : length before ≡ new_offset s offset

pub spelled_table : (s : Sections) (offset : ℕ) → offset < length s.abbrevs →
    list_any (λ (u : Unit). u.abbrev_offset == offset) (units s) ≡ true → IsSpelledAt s offset
spelled_table s offset inside named =
    let test : ℕ → Bool = λ o. list_any (λ (u : Unit). u.abbrev_offset == o) (units s) in
    let os : List ℕ = table_offsets s in
    let table : List ℕ = bytes_of_table (is_own s) (table_at s.abbrevs offset).list in
    let r : IsSplit (table_bytes s) offset os = split_at (table_bytes s) offset 0 os (kept_rising test (length s.abbrevs) 0)
    (kept_among test (length s.abbrevs) 0 offset (omega arith) (omega arith) named) in
    record {
      before = flat_map (table_bytes s) (filter (λ o. nat_lt o offset) os);
      rest = r.rest;
      is = r.is ∙ ap (λ (l : List ℕ). flat_map (table_bytes s) (filter (λ o. nat_lt o offset) os) ++ l)
          (append_assoc table (0 ∷ []) r.rest);
      at = refl;
    }
