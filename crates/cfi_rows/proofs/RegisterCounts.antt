-- How many different numbers a list has, with one more.
use Rattle.std.proofs.Common.{◌≡◌, ◌∙◌, ◌+◌, ◌++◌, ◌==◌, ◌||◌, ◌<◌, ℕ, Bool, true, false, cond, List, [], ◌∷◌, refl, sym, ap, arith, length}
use Rattle.std.proofs.Common.{append_assoc, take, get_or}
use Rattle.std.proofs.lemmas.List.{take_more, append-nil}
use Rattle.std.proofs.lemmas.List.Concat.{flat_map-append}
use Rattle.std.specs.Prelude.{flat_map}
use Rattle.cfi_rows.specs.declared.instruction.Instruction.{Instruction}
use Rattle.cfi_rows.specs.EntryCounts.{registers_set}
use Rattle.std.proofs.lemmas.Bool.Decides.{nat_tests}
use Rattle.std.proofs.lemmas.List.Folds.{list_any-append}
use Rattle.std.specs.List.{list_any}
use Rattle.std.specs.Ordering.{nat_cmp, is_eq}
use Rattle.std.specs.Prelude.{nat_lt}
use Rattle.std.specs.BTreeSet.{BTreeSet, contains, Updates}
use Rattle.answer_runs.specs.Weights.{distinct}
use Rattle.cfi_rows.specs.declared.registers.Registers.{Registers}
use Rattle.cfi_rows.specs.RegisterSets.{AreIn, AreCounted}

abbrev has : ℕ → List ℕ → Bool
has q xs = list_any (λ m. m == q) xs

abbrev one : Bool → ℕ
one true = 0
one false = 1

pub same-test : (x y : ℕ) → (x == y) ≡ (y == x)
same-test x y = at (x == y) (y == x) refl refl where
  at : (a b : Bool) → (x == y) ≡ a → (y == x) ≡ b → a ≡ b
  at true true e f = refl
  at false false e f = refl
  at true false e f = let p : x ≡ y = grind (arith, nat_tests) in absurd (grind (arith, nat_tests))
  at false true e f = let p : y ≡ x = grind (arith, nat_tests) in absurd (grind (arith, nat_tests))

if-in : (b : Bool) (x : ℕ) (xs : List ℕ) → has x xs ≡ b → length (distinct (x ∷ xs)) ≡ one b + length (distinct xs)
if-in true x xs e = rw e (omega arith)
if-in false x xs e = rw e (omega arith)

any-snoc : (q : ℕ) (xs : List ℕ) (y : ℕ) → has q (xs ++ y ∷ []) ≡ (has q xs || (y == q))
any-snoc q xs y = list_any-append (λ m. m == q) xs (y ∷ []) ∙ ap (λ b. has q xs || b) (or-false (y == q)) where
  or-false : (b : Bool) → (b || false) ≡ b
  or-false true = refl
  or-false false = refl

finish : (a b c : Bool) (p q n m : ℕ) → p ≡ one (a || b) + q → q ≡ n + one c → m ≡ one a + n → (b ≡ true → c ≡ a) →
    p ≡ m + one (b || c)
finish true true true p q n m l h r s = omega arith
finish true true false p q n m l h r s = let t : false ≡ true = s refl in absurd (cc)
finish true false true p q n m l h r s = omega arith
finish true false false p q n m l h r s = omega arith
finish false true true p q n m l h r s = let t : true ≡ false = s refl in absurd (cc)
finish false true false p q n m l h r s = omega arith
finish false false true p q n m l h r s = omega arith
finish false false false p q n m l h r s = omega arith

with-one : (x y : ℕ) (xs : List ℕ) → length (distinct (xs ++ y ∷ [])) ≡ length (distinct xs) + one (has y xs) →
    length (distinct (x ∷ (xs ++ y ∷ []))) ≡ length (distinct (x ∷ xs)) + one ((x == y) || has y xs)
with-one x y xs h =
    finish (has x xs) (x == y) (has y xs) _ _ _ _
    (if-in (has x xs || (x == y)) x (xs ++ y ∷ []) (any-snoc x xs y ∙ ap (λ t. has x xs || t) (same-test y x)))
    h
    (if-in (has x xs) x xs refl)
    (λ t. let p : x ≡ y = grind (arith, nat_tests) in ap (λ k. has k xs) (sym p))

pub count-snoc : (xs : List ℕ) (y : ℕ) → length (distinct (xs ++ y ∷ [])) ≡ length (distinct xs) + one (has y xs)
count-snoc [] y = refl
count-snoc (x ∷ xs) y = with-one x y xs (count-snoc xs y)

-- a set with one more
abbrev pub Adds : BTreeSet ℕ → BTreeSet ℕ → ℕ → Type 0
Adds old new y = (q : ℕ) → contains nat_cmp new q ≡ (contains nat_cmp old q || (y == q))

or-assoc : (a b c : Bool) → (a || (b || c)) ≡ ((a || b) || c)
or-assoc true b c = refl
or-assoc false b c = refl

-- a register that is in neither set is added
pub added : (xs ys : List ℕ) (known : BTreeSet ℕ) (old new : Registers) (y : ℕ) →
    AreCounted xs ys known old → contains nat_cmp known y ≡ false → contains nat_cmp old.set y ≡ false →
    Adds old.set new.set y → new.count ≡ old.count + 1 → AreCounted xs (ys ++ y ∷ []) known new
added xs ys known old new y a k o n c = record {
  count =
      let s = count-snoc (xs ++ ys) y in
      let i : has y (xs ++ ys) ≡ false = sym (a.members y) ∙ ap (λ b. b || contains nat_cmp old.set y) k ∙ o in
      let t : one (has y (xs ++ ys)) ≡ 1 = ap one i in
      let u : length (distinct (xs ++ (ys ++ y ∷ []))) ≡ length (distinct ((xs ++ ys) ++ y ∷ [])) = ap (λ zs. length (distinct zs))
      (sym (append_assoc xs ys (y ∷ []))) in
      let v = a.count in
      omega arith;
  members = λ q.
      ap (λ b. contains nat_cmp known q || b) (n q) ∙ or-assoc (contains nat_cmp known q) (contains nat_cmp old.set q) (y == q)
      ∙ ap (λ b. b || (y == q)) (a.members q) ∙ sym (any-snoc q (xs ++ ys) y) ∙ ap (has q) (append_assoc xs ys (y ∷ []));
}

or-same : (b c : Bool) → (c ≡ true → b ≡ true) → b ≡ (b || c)
or-same true c h = refl
or-same false true h = h refl
or-same false false h = refl

-- one that is in one of them isn't
pub kept : (xs ys : List ℕ) (known : BTreeSet ℕ) (old new : Registers) (y : ℕ) →
    AreCounted xs ys known old → (contains nat_cmp known y || contains nat_cmp old.set y) ≡ true →
    ((q : ℕ) → contains nat_cmp new.set q ≡ contains nat_cmp old.set q) → new.count ≡ old.count → AreCounted xs (ys ++ y ∷ []) known new
kept xs ys known old new y a k n c = record {
  count =
      let s = count-snoc (xs ++ ys) y in
      let t : one (has y (xs ++ ys)) ≡ 0 = ap one (sym (a.members y) ∙ k) in
      let u : length (distinct (xs ++ (ys ++ y ∷ []))) ≡ length (distinct ((xs ++ ys) ++ y ∷ [])) = ap (λ zs. length (distinct zs))
      (sym (append_assoc xs ys (y ∷ []))) in
      let v = a.count in
      omega arith;
  members = λ q.
      let i : has y (xs ++ ys) ≡ true = sym (a.members y) ∙ k in
      ap (λ b. contains nat_cmp known q || b) (n q) ∙ a.members q
      ∙ or-same (has q (xs ++ ys)) (y == q) (λ t. let p : y ≡ q = grind (arith, nat_tests) in ap (λ z. has z (xs ++ ys)) (sym p) ∙ i)
      ∙ sym (any-snoc q (xs ++ ys) y) ∙ ap (has q) (append_assoc xs ys (y ∷ []));
}

pub at-number : (a b : Bool) (y q : ℕ) → nat_lt y q ≡ a → (y == q) ≡ b → is_eq (nat_cmp y q) ≡ b
at-number true true y q e f = let p : y ≡ q = grind (arith, nat_tests) in absurd (grind (arith, nat_tests))
at-number true false y q e f = rw e refl
at-number false true y q e f = rw (e, f) refl
at-number false false y q e f = rw (e, f) refl

or-last : (b c : Bool) → cond b true c ≡ (c || b)
or-last true true = refl
or-last true false = refl
or-last false true = refl
or-last false false = refl

pub adds : (old new : BTreeSet ℕ) (y : ℕ) → Updates nat_cmp old new y true → Adds old new y
adds old new y u = λ q. u.0 q ∙ ap (λ b. cond b true (contains nat_cmp old q)) (at-number (nat_lt y q) (y == q) y q refl refl)
    ∙ or-last (y == q) (contains nat_cmp old q)

pub set-more : (xs : List Instruction) (k : ℕ) (d : Instruction) → k < length xs →
    flat_map registers_set (take (k + 1) xs) ≡ flat_map registers_set (take k xs) ++ registers_set (get_or xs k d)
set-more xs k d h =
    ap (flat_map registers_set) (take_more xs k d h) ∙ flat_map-append registers_set (take k xs) (get_or xs k d ∷ [])
    ∙ ap (λ zs. flat_map registers_set (take k xs) ++ zs) (append-nil (registers_set (get_or xs k d)))

pub nothing : (set : BTreeSet ℕ) → set.keys ≡ [] → AreIn [] set
nothing set e = λ q. ap (λ (ks : List ℕ). list_any (λ k. is_eq (nat_cmp q k)) ks) e

-- if no register is known
pub alone : (none : BTreeSet ℕ) (r : Registers) (ys zs : List ℕ) → none.keys ≡ [] →
    ((xs : List ℕ) → AreIn xs none → AreCounted xs ys none r) → ys ≡ zs →
    AreIn zs r.set × (length (distinct zs) ≡ r.count)
alone none r ys zs e h s =
    let counted = h [] (nothing none e) in
    let n : length (distinct ys) ≡ 0 + r.count = counted.count in
    let m : length (distinct zs) ≡ length (distinct ys) = ap (λ xs. length (distinct xs)) (sym s) in
    ((λ q. sym (ap (λ b. b || contains nat_cmp r.set q) (nothing none e q)) ∙ counted.members q ∙ ap (has q) s), omega arith)
