-- Rules of registers as the entries of a map, and how a change of them is taken back.
use Rattle.std.proofs.Common.{◌≡◌, ◌∙◌, ◌+◌, ◌<◌, ◌≤◌, ◌==◌, ℕ, Bool, true, false, List, [], ◌∷◌, map, Option, Some, None, option_map}
use Rattle.std.proofs.Common.{refl, sym, ap, subst, arith}
use Rattle.std.proofs.lemmas.Bool.Decides.{nat_tests}
use Rattle.std.proofs.lemmas.Map.Keys.{below_from_sorted, sorted_tail}
use Rattle.std.specs.Prelude.{nat_lt}
use Rattle.std.specs.Ordering.{nat_cmp}
use Rattle.std.specs.BTreeMap.{insert_entry, is_at}
use Rattle.std.specs.List.{AllZip}
use Rattle.std.specs.List.Sorted.{IsStrictlySortedBy}
use Rattle.std.specs.Map.{keys_of, lookup, remove_entry}
use Rattle.cfi_rows.specs.declared.row.Rule.{Rule}
use Rattle.cfi_rows.specs.RuleEntries.{valued, Ascend}
use Rattle.cfi_rows.specs.FrameRows.{Rules, with_rule, without_rule, rule_of, restored}
use Rattle.cfi_rows.proofs.RegisterCounts.{at-number, same-test}

-- Entries of a map whose values are seen as rules.

insert-at : {X : Type 0} (f : X → Rule) (k : ℕ) (v : X) (e : ℕ × X) (es : List (ℕ × X)) (a b c d : Bool) →
    nat_lt k e.0 ≡ a → (k == e.0) ≡ b → nat_lt e.0 k ≡ c → (e.0 == k) ≡ d →
    map (valued f) (insert_entry nat_cmp es k v) ≡ with_rule k (f v) (map (valued f) es) →
    map (valued f) (insert_entry nat_cmp (e ∷ es) k v) ≡ with_rule k (f v) (map (valued f) (e ∷ es))
insert-at f k v e es true b true d p q r s h = absurd (grind (arith, nat_tests))
insert-at f k v e es true b false true p q r s h = absurd (grind (arith, nat_tests))
insert-at f k v e es true b false false p q r s h = rw (p, r, s) refl
insert-at f k v e es false true true d p q r s h = absurd (grind (arith, nat_tests))
insert-at f k v e es false true false false p q r s h = absurd (grind (arith, nat_tests))
insert-at f k v e es false true false true p q r s h =
    let same : e.0 ≡ k = grind (arith, nat_tests) in rw (p, q, r, s) (ap (λ n. (n, f v) ∷ map (valued f) es) same)
insert-at f k v e es false false false d p q r s h = absurd (grind (arith, nat_tests))
insert-at f k v e es false false true d p q r s h = rw (p, q, r) (ap (λ rs. valued f e ∷ rs) h)

pub inserted : {X : Type 0} (f : X → Rule) (k : ℕ) (v : X) (es : List (ℕ × X)) →
    map (valued f) (insert_entry nat_cmp es k v) ≡ with_rule k (f v) (map (valued f) es)
inserted f k v [] = refl
inserted f k v (e ∷ es) = insert-at f k v e es (nat_lt k e.0) (k == e.0) (nat_lt e.0 k) (e.0 == k) refl refl refl refl (inserted f k v es)

test-is : (k q : ℕ) → is_at (nat_cmp k) q ≡ (q == k)
test-is k q = at-number (nat_lt k q) (k == q) k q refl refl ∙ same-test k q

remove-at : {X : Type 0} (f : X → Rule) (k : ℕ) (e : ℕ × X) (es : List (ℕ × X)) (b : Bool) → is_at (nat_cmp k) e.0 ≡ b →
    (e.0 == k) ≡ b →
    map (valued f) (remove_entry (is_at (nat_cmp k)) es) ≡ without_rule k (map (valued f) es) →
    map (valued f) (remove_entry (is_at (nat_cmp k)) (e ∷ es)) ≡ without_rule k (map (valued f) (e ∷ es))
remove-at f k e es true p q h = rw (p, q) refl
remove-at f k e es false p q h = rw (p, q) (ap (λ rs. valued f e ∷ rs) h)

pub removed : {X : Type 0} (f : X → Rule) (k : ℕ) (es : List (ℕ × X)) →
    map (valued f) (remove_entry (is_at (nat_cmp k)) es) ≡ without_rule k (map (valued f) es)
removed f k [] = refl
removed f k (e ∷ es) = remove-at f k e es (e.0 == k) (test-is k e.0) refl (removed f k es)

look-at : {X : Type 0} (f : X → Rule) (k : ℕ) (e : ℕ × X) (es : List (ℕ × X)) (b : Bool) → is_at (nat_cmp k) e.0 ≡ b →
    (e.0 == k) ≡ b →
    option_map f (lookup (is_at (nat_cmp k)) es) ≡ rule_of k (map (valued f) es) →
    option_map f (lookup (is_at (nat_cmp k)) (e ∷ es)) ≡ rule_of k (map (valued f) (e ∷ es))
look-at f k e es true p q h = rw (p, q) refl
look-at f k e es false p q h = rw (p, q) h

pub looked-up : {X : Type 0} (f : X → Rule) (k : ℕ) (es : List (ℕ × X)) →
    option_map f (lookup (is_at (nat_cmp k)) es) ≡ rule_of k (map (valued f) es)
looked-up f k [] = refl
looked-up f k (e ∷ es) = look-at f k e es (e.0 == k) (test-is k e.0) refl (looked-up f k es)

pair-same : {X : Type 0} (a b : ℕ) (x y : X) → a ≡ b → x ≡ y → ◌≡◌ {A = ℕ × X} (a, x) (b, y)
pair-same a b x y p q = λ i. (p i, q i)

pub cloned : {X : Type 0} (f : X → Rule) (es ds : List (ℕ × X)) →
    AllZip (λ p q. (q.0 ≡ p.0) × (f q.1 ≡ f p.1)) es ds → map (valued f) ds ≡ map (valued f) es
cloned f [] [] h = refl
cloned f [] (d ∷ ds) h = absurd h
cloned f (e ∷ es) [] h = absurd h
cloned f (e ∷ es) (d ∷ ds) h = λ i. pair-same _ _ _ _ h.0.0 h.0.1 i ∷ cloned f es ds h.1 i

-- Rules that ascend by register.

abbrev Starts : {X : Type 0} → ℕ → List (ℕ × X) → Type 0
Starts lo [] = Unit {0}
Starts lo (e ∷ es) = lo ≤ e.0

starts-next : {X : Type 0} (e : ℕ × X) (es : List (ℕ × X)) → IsStrictlySortedBy nat_cmp (keys_of (e ∷ es)) →
    Starts (e.0 + 1) es
starts-next e [] h = tt
starts-next e (d ∷ es) h =
    let l : e.0 < d.0 = below_from_sorted (keys_of (e ∷ d ∷ es)) 0 1 0 h (omega arith) (omega arith) in omega arith

ascend-from : {X : Type 0} (f : X → Rule) (es : List (ℕ × X)) (lo : ℕ) → Starts lo es →
    IsStrictlySortedBy nat_cmp (keys_of es) →
    Ascend lo (map (valued f) es)
ascend-from f [] lo s h = tt
ascend-from f (e ∷ es) lo s h = (s, ascend-from f es (e.0 + 1) (starts-next e es h) (sorted_tail nat_cmp e.0 (keys_of es) h))

starts-anywhere : {X : Type 0} (es : List (ℕ × X)) → Starts 0 es
starts-anywhere [] = tt
starts-anywhere (e ∷ es) = omega arith

pub ascending : {X : Type 0} (f : X → Rule) (es : List (ℕ × X)) → IsStrictlySortedBy nat_cmp (keys_of es) →
    Ascend 0 (map (valued f) es)
ascending f es h = ascend-from f es 0 (starts-anywhere es) h

-- A change is taken back by the rule that the register had.

pub same-number : (k : ℕ) → (k == k) ≡ true
same-number k = grind (arith, nat_tests)

not-below : (k : ℕ) → nat_lt k k ≡ false
not-below k = at (nat_lt k k) refl where
  at : (b : Bool) → nat_lt k k ≡ b → b ≡ false
  at false e = refl
  at true e = absurd (grind (arith, nat_tests))

absent-at : (k : ℕ) (x : ℕ × Rule) (xs : Rules) (b : Bool) → (x.0 == k) ≡ b → k < x.0 → rule_of k xs ≡ None →
    rule_of k (x ∷ xs) ≡ None
absent-at k x xs true e l h = absurd (grind (arith, nat_tests))
absent-at k x xs false e l h = rw e h

pub absent : (k lo : ℕ) (xs : Rules) → k < lo → Ascend lo xs → rule_of k xs ≡ None
absent k lo [] l a = refl
absent k lo (x ∷ xs) l a = let m = a.0 in
    absent-at k x xs (x.0 == k) refl (omega arith) (absent k (x.0 + 1) xs (omega arith) a.1)

front-at : (k : ℕ) (v : Rule) (x : ℕ × Rule) (xs : Rules) (b c : Bool) → nat_lt x.0 k ≡ b → (x.0 == k) ≡ c → k < x.0 →
    with_rule k v (x ∷ xs) ≡ (k, v) ∷ x ∷ xs
front-at k v x xs true c e f l = absurd (grind (arith, nat_tests))
front-at k v x xs false true e f l = absurd (grind (arith, nat_tests))
front-at k v x xs false false e f l = rw (e, f) refl

to-front : (k : ℕ) (v : Rule) (xs : Rules) → Ascend (k + 1) xs → with_rule k v xs ≡ (k, v) ∷ xs
to-front k v [] a = refl
to-front k v (x ∷ xs) a = let l = a.0 in front-at k v x xs (nat_lt x.0 k) (x.0 == k) refl refl (omega arith)

-- of a register that comes after the first one
behind : (k : ℕ) (o : Option Rule) (x : ℕ × Rule) (xs : Rules) → nat_lt x.0 k ≡ true → (x.0 == k) ≡ false →
    restored k o (x ∷ xs) ≡ x ∷ restored k o xs
behind k None x xs e f = rw f refl
behind k (Some v) x xs e f = rw e refl

none-behind : (k : ℕ) (x : ℕ × Rule) (xs : Rules) → (x.0 == k) ≡ false → restored k None (x ∷ xs) ≡ x ∷ restored k None xs
none-behind k x xs f = rw f refl

set-at : (k : ℕ) (v : Rule) (x : ℕ × Rule) (xs : Rules) (b c : Bool) → nat_lt x.0 k ≡ b → (x.0 == k) ≡ c →
    Ascend (x.0 + 1) xs →
    restored k (rule_of k xs) (with_rule k v xs) ≡ xs → restored k (rule_of k (x ∷ xs)) (with_rule k v (x ∷ xs)) ≡ x ∷ xs
set-at k v x xs true true e f a h = absurd (grind (arith, nat_tests))
set-at k v x xs true false e f a h = rw (e, f) (behind k (rule_of k xs) x (with_rule k v xs) e f ∙ ap (λ rs. x ∷ rs) h)
set-at k v x xs false true e f a h = let same : k ≡ x.0 = grind (arith, nat_tests) in
    rw (e, f, not-below k, same-number k) (ap (λ n. (n, x.1) ∷ xs) same)
set-at k v x xs false false e f a h = let l : k < x.0 = grind (arith, nat_tests) in
    rw (e, f, absent k (x.0 + 1) xs (omega arith) a, same-number k) refl

set-back : (k : ℕ) (v : Rule) (lo : ℕ) (xs : Rules) → Ascend lo xs → restored k (rule_of k xs) (with_rule k v xs) ≡ xs
set-back k v lo [] a = rw (same-number k) refl
set-back k v lo (x ∷ xs) a = set-at k v x xs (nat_lt x.0 k) (x.0 == k) refl refl a.1 (set-back k v (x.0 + 1) xs a.1)

drop-other : (k : ℕ) (x : ℕ × Rule) (xs : Rules) (o : Option Rule) (b : Bool) → nat_lt x.0 k ≡ b → (x.0 == k) ≡ false →
    rule_of k xs ≡ o →
    Ascend (x.0 + 1) xs → restored k o (x ∷ without_rule k xs) ≡ x ∷ restored k o (without_rule k xs)
drop-other k x xs o true e f g a = behind k o x (without_rule k xs) e f
drop-other k x xs None false e f g a = none-behind k x (without_rule k xs) f
drop-other k x xs (Some v) false e f g a = let l : k < x.0 = grind (arith, nat_tests) in
    let n : rule_of k xs ≡ None = absent k (x.0 + 1) xs (omega arith) a in absurd (cc)

drop-at : (k : ℕ) (x : ℕ × Rule) (xs : Rules) (c : Bool) → (x.0 == k) ≡ c → Ascend (x.0 + 1) xs →
    restored k (rule_of k xs) (without_rule k xs) ≡ xs → restored k (rule_of k (x ∷ xs)) (without_rule k (x ∷ xs)) ≡ x ∷ xs
drop-at k x xs true f a h = let same : k ≡ x.0 = grind (arith, nat_tests) in
    rw f (to-front k x.1 xs (subst (λ n. Ascend (n + 1) xs) (sym same) a) ∙ ap (λ n. (n, x.1) ∷ xs) same)
drop-at k x xs false f a h = rw f (drop-other k x xs (rule_of k xs) (nat_lt x.0 k) refl f refl a ∙ ap (λ rs. x ∷ rs) h)

drop-back : (k lo : ℕ) (xs : Rules) → Ascend lo xs → restored k (rule_of k xs) (without_rule k xs) ≡ xs
drop-back k lo [] a = refl
drop-back k lo (x ∷ xs) a = drop-at k x xs (x.0 == k) refl a.1 (drop-back k (x.0 + 1) xs a.1)

put-back : (k : ℕ) (o : Option Rule) (xs : Rules) → Ascend 0 xs → restored k (rule_of k xs) (restored k o xs) ≡ xs
put-back k None xs a = drop-back k 0 xs a
put-back k (Some v) xs a = set-back k v 0 xs a

pub taken-back : (k : ℕ) (o : Option Rule) (old new : Rules) (had : Option Rule) → Ascend 0 old →
    new ≡ restored k o old → had ≡ rule_of k old →
    restored k had new ≡ old
taken-back k o old new had a e f = ap (λ h. restored k h new) f ∙ ap (restored k (rule_of k old)) e ∙ put-back k o old a
