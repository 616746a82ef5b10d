-- The first occurrences of numbers in a list.
use Rattle.std.proofs.Common.{◌≡◌, ◌∙◌, ◌==◌, ◌||◌, ◌++◌, ◌∷◌, [], ℕ, Bool, true, false, List, refl, sym, ap, filter, arith, ⊎_elim}
use Rattle.std.specs.Prelude.{if◌then◌else◌, not}
use Rattle.std.specs.List.{list_any}
use Rattle.std.proofs.lemmas.List.Elements.{filter-append}
use Rattle.std.proofs.lemmas.Bool.{cases_Bool}
use Rattle.std.proofs.lemmas.Bool.Decides.{nat_tests}
use Rattle.list_units.specs.ReadLists.{firsts}

abbrev other : ℕ → ℕ → Bool
other n m = not (n == m)

abbrev is_among : ℕ → List ℕ → Bool
is_among n ns = list_any (λ m. m == n) ns

pub same_of : (n m : ℕ) → n == m ≡ true → n ≡ m
same_of n m e = grind (arith, nat_tests)

pub itself : (n : ℕ) → n == n ≡ true
itself n = grind (arith, nat_tests)

turned : (n m : ℕ) → n == m ≡ false → m == n ≡ false
turned n m e = grind (arith, nat_tests)

-- filters

filter_swap : (p q : ℕ → Bool) (xs : List ℕ) → filter p (filter q xs) ≡ filter q (filter p xs)
filter_swap p q [] = refl
filter_swap p q (x ∷ xs) = ⊎_elim
    (λ (h : q x ≡ true). ⊎_elim
    (λ (k : p x ≡ true). rw (h, k, h) (ap (λ (l : List ℕ). x ∷ l) (filter_swap p q xs)))
    (λ (k : p x ≡ false). rw (h, k) (filter_swap p q xs)) (cases_Bool (p x)))
    (λ (h : q x ≡ false). ⊎_elim
    (λ (k : p x ≡ true). rw (h, k, h) (filter_swap p q xs))
    (λ (k : p x ≡ false). rw (h, k) (filter_swap p q xs)) (cases_Bool (p x)))
    (cases_Bool (q x))

filter_twice : (p : ℕ → Bool) (xs : List ℕ) → filter p (filter p xs) ≡ filter p xs
filter_twice p [] = refl
filter_twice p (x ∷ xs) = ⊎_elim
    (λ (h : p x ≡ true). rw (h, h) (ap (λ (l : List ℕ). x ∷ l) (filter_twice p xs)))
    (λ (h : p x ≡ false). rw h (filter_twice p xs)) (cases_Bool (p x))

filter_front : (p : ℕ → Bool) (x : ℕ) (xs : List ℕ) → p x ≡ true → filter p (x ∷ xs) ≡ x ∷ filter p xs
filter_front p x xs e = ap (λ (b : Bool). if b then x ∷ filter p xs else filter p xs) e

filter_past : (p : ℕ → Bool) (x : ℕ) (xs : List ℕ) → p x ≡ false → filter p (x ∷ xs) ≡ filter p xs
filter_past p x xs e = ap (λ (b : Bool). if b then x ∷ filter p xs else filter p xs) e

-- One more number.
pub firsts_more : (ns : List ℕ) (n : ℕ) → firsts (ns ++ n ∷ []) ≡ firsts ns ++ (if is_among n ns then [] else n ∷ [])
firsts_more [] n = refl
firsts_more (k ∷ ns) n =
    ap (λ (l : List ℕ). k ∷ l)
    (ap (filter (other k)) (firsts_more ns n) ∙ filter-append (other k) (firsts ns) (if is_among n ns then [] else n ∷ [])
    ∙ ap (λ (l : List ℕ). filter (other k) (firsts ns) ++ l) (tail (k == n) (is_among n ns) refl))
  where
    tail : (a b : Bool) → k == n ≡ a → filter (other k) (if b then [] else n ∷ []) ≡ (if a || b then [] else n ∷ [])
    tail true true e = refl
    tail false true e = refl
    tail true false e = ap (λ (b : Bool). if not b then n ∷ [] else []) e
    tail false false e = ap (λ (b : Bool). if not b then n ∷ [] else []) e

-- Leaving out a number that isn't there changes nothing.
pub absent : (ns : List ℕ) (n : ℕ) → is_among n ns ≡ false → filter (other n) (firsts ns) ≡ firsts ns
absent [] n e = refl
absent (k ∷ ns) n e = step (k == n) (is_among n ns) refl refl e (absent ns n)
  where
    step : (a b : Bool) → k == n ≡ a → is_among n ns ≡ b → a || b ≡ false →
        (is_among n ns ≡ false → filter (other n) (firsts ns) ≡ firsts ns) → filter (other n) (firsts (k ∷ ns)) ≡ firsts (k ∷ ns)
    step true b f g e ih = absurd (cc)
    step false true f g e ih = absurd (cc)
    step false false f g e ih =
        filter_front (other n) k (filter (other k) (firsts ns)) (ap (λ (b : Bool). not b) (turned k n f))
        ∙ ap (λ (l : List ℕ). k ∷ l) (filter_swap (other n) (other k) (firsts ns) ∙ ap (filter (other k)) (ih g))

-- A number that is there is there once.
pub record IsOnce (n : ℕ) (ns : List ℕ) : Type 0 where
  pub before : List ℕ
  pub behind : List ℕ
  pub is : ns ≡ before ++ n ∷ behind
  pub others : filter (other n) ns ≡ before ++ behind

pub once : (ns : List ℕ) (n : ℕ) → is_among n ns ≡ true → IsOnce n (firsts ns)
once [] n e = absurd (cc)
once (k ∷ ns) n e = step (k == n) (is_among n ns) refl refl e (once ns n)
  where
    step : (a b : Bool) → k == n ≡ a → is_among n ns ≡ b → a || b ≡ true → (is_among n ns ≡ true → IsOnce n (firsts ns)) →
        IsOnce n (firsts (k ∷ ns))
    step true b f g e ih =
        let same : k ≡ n = same_of k n f in
        let rest : List ℕ = filter (other k) (firsts ns) in
        record {
          before = [];
          behind = rest;
          is = ap (λ (m : ℕ). m ∷ rest) same;
          others = filter_past (other n) k rest (ap (λ (m : ℕ). not (n == m)) same ∙ ap (λ (b : Bool). not b) (itself n))
              ∙ ap (λ (m : ℕ). filter (other m) rest) (sym same) ∙ filter_twice (other k) (firsts ns);
        }
    step false false f g e ih = absurd (cc)
    step false true f g e ih =
        let o = ih g in
        record {
          before = k ∷ filter (other k) o.before;
          behind = filter (other k) o.behind;
          is = ap (λ (l : List ℕ). k ∷ l)
              (ap (filter (other k)) o.is ∙ filter-append (other k) o.before (n ∷ o.behind)
              ∙ ap (λ (l : List ℕ). filter (other k) o.before ++ l) (filter_front (other k) n o.behind (ap (λ (b : Bool). not b) f)));
          others = filter_front (other n) k (filter (other k) (firsts ns)) (ap (λ (b : Bool). not b) (turned k n f))
              ∙ ap (λ (l : List ℕ). k ∷ l)
              (filter_swap (other n) (other k) (firsts ns) ∙ ap (filter (other k)) o.others ∙ filter-append (other k) o.before o.behind);
        }

-- A test that all numbers pass.
pub all_pass : (p : ℕ → Bool) (ns : List ℕ) → filter (λ n. not (p n)) ns ≡ [] → filter p (firsts ns) ≡ firsts ns
all_pass p [] e = refl
all_pass p (n ∷ ns) e = step (p n) refl e (all_pass p ns)
  where
    step : (b : Bool) → p n ≡ b → (if not (p n) then n ∷ filter (λ n. not (p n)) ns else filter (λ n. not (p n)) ns) ≡ [] →
        (filter (λ n. not (p n)) ns ≡ [] → filter p (firsts ns) ≡ firsts ns) → filter p (firsts (n ∷ ns)) ≡ firsts (n ∷ ns)
    step false f e ih =
        let g : n ∷ filter (λ n. not (p n)) ns ≡ [] =
        sym (ap (λ (b : Bool). if not b then n ∷ filter (λ n. not (p n)) ns else filter (λ n. not (p n)) ns) f) ∙ e in
        absurd (cc)
    step true f e ih =
        filter_front p n (filter (other n) (firsts ns)) f
        ∙ ap (λ (l : List ℕ). n ∷ l)
        (filter_swap p (other n) (firsts ns)
        ∙ ap (filter (other n)) (ih (sym (ap (λ (b : Bool). if not b then n ∷ filter (λ n. not (p n)) ns else filter (λ n. not (p n)) ns) f)
        ∙ e)))
