-- The location lists that are found at an address.
use Rattle.std.proofs.Common.{◌≡◌, ◌≢◌, ◌∙◌, ◌+◌, ◌<◌, ◌≤◌, ◌==◌, ◌&&◌, ◌||◌, ◌++◌, ◌∷◌, [], ℕ, zero, suc, Bool, true, false, List, Option}
use Rattle.std.proofs.Common.{Some, None, refl, sym, ap, arith, length, map, filter, drop, get_or, append_assoc, append-nil}
use Rattle.std.specs.Prelude.{All, if◌then◌else◌, filter_map, slice_get}
use Rattle.std.specs.Global.{Vec}
use Rattle.std.specs.List.{list_any, range_with_len}
use Rattle.std.specs.List.Sorted.{IsPermutation, IsStrictlyIncreasing}
use Rattle.std.specs.Option.{option_map_or}
use Rattle.std.proofs.lemmas.Bool.{and_left, ne_eqb}
use Rattle.std.proofs.lemmas.List.{drop_more, drop_all}
use Rattle.std.proofs.lemmas.List.Elements.{All-nil, All-cons}
use Rattle.std.proofs.lemmas.List.Folds.{list_any-append}
use Rattle.std.proofs.lemmas.List.Sorted.{list_any-IsPermutation}
use Rattle.std.proofs.lemmas.Option.{slice_get_within}
use Rattle.answer_runs.specs.Choices.{unless_empty}
use Rattle.cover_lists.specs.declared.cover_tree.Cover.{Cover}
use Rattle.cover_lists.specs.declared.kept_list.KeptList.{KeptList}
use Rattle.cover_lists.specs.CoverTree.{holds, regrouped}
use Rattle.cover_lists.specs.Groups.{group_holds, is_in_group}
use Rattle.cover_lists.specs.KeptLists.{items_in, expression_of, unless_none, list_says}
use Rattle.cover_lists.specs.ListFinder.{numbered, list_covers, default_numbers, numbers_if, is_some_list, has_default, list_holds}
use Rattle.cover_lists.specs.ListRuns.{is_among, list_answer, AreCandidates}
use Rattle.cover_lists.proofs.GroupFacts.{test_is, equal_self}
use Rattle.cover_lists.proofs.SmallSteps.{or_false}

-- Results by number, with one more element

module _ {X Y : Type 0} (f : ℕ → X → List Y) where
  pub numbered_more : (xs : List X) (n : ℕ) (d : X) (old new whole : List Y) → n < length xs → old ++ numbered f n (drop n xs) ≡ whole →
      new ≡ old ++ f n (get_or xs n d) → new ++ numbered f (n + 1) (drop (n + 1) xs) ≡ whole
  numbered_more xs n d old new whole h before made =
      ap (λ (l : List Y). l ++ numbered f (n + 1) (drop (n + 1) xs)) made
      ∙ append_assoc old (f n (get_or xs n d)) (numbered f (n + 1) (drop (n + 1) xs))
      ∙ sym (ap (λ (l : List X). old ++ numbered f n l) (drop_more xs n d h)) ∙ before

  pub numbered_done : (xs : List X) (n : ℕ) (old whole : List Y) → length xs ≤ n → old ++ numbered f n (drop n xs) ≡ whole → old ≡ whole
  numbered_done xs n old whole h before =
      sym (append-nil old) ∙ sym (ap (λ (l : List X). old ++ numbered f n l) (drop_all n xs h)) ∙ before

-- The results for a number

module _ {X Y : Type 0} (f : ℕ → X → List Y) (test : ℕ → Y → Bool) (g : X → Bool)
    (own : (n : ℕ) (x : X) → list_any (test n) (f n x) ≡ g x)
    (other : (m n : ℕ) (x : X) → m ≢ n → list_any (test m) (f n x) ≡ false) where
  below : (m n : ℕ) (xs : List X) → m < n → list_any (test m) (numbered f n xs) ≡ false
  below m n [] h = refl
  below m n (x ∷ xs) h =
      list_any-append (test m) (f n x) (numbered f (n + 1) xs)
      ∙ (λ i. other m n x (λ e. absurd (omega arith)) i || below m (n + 1) xs (omega arith) i)

  of_number : (n k m : ℕ) (xs : List X) → n + k ≡ m → list_any (test m) (numbered f n xs) ≡ option_map_or g (slice_get xs k) false
  of_number n k m [] e = refl
  of_number n zero m (x ∷ xs) e =
      ap (λ (q : ℕ). list_any (test q) (numbered f n (x ∷ xs))) same
      ∙ list_any-append (test n) (f n x) (numbered f (n + 1) xs)
      ∙ (λ i. own n x i || below n (n + 1) xs (omega arith) i) ∙ or_false (g x)
    where
      same : m ≡ n
      same = omega arith
  of_number n (suc k) m (x ∷ xs) e =
      list_any-append (test m) (f n x) (numbered f (n + 1) xs)
      ∙ (λ i. other m n x (λ s. absurd (omega arith)) i || of_number (n + 1) k m xs (omega arith) i)

-- For bounds

module _ (a : ℕ) where
  own_covers : (n : ℕ) (cs : List Cover) → group_holds (map (regrouped n) cs) n a ≡ list_any (holds a) cs
  own_covers n [] = refl
  own_covers n (c ∷ cs) = (λ i. test_is (n == n) (holds a c) (equal_self n) i || own_covers n cs i)

  other_covers : (m n : ℕ) (cs : List Cover) → m ≢ n → group_holds (map (regrouped n) cs) m a ≡ false
  other_covers m n [] ne = refl
  other_covers m n (c ∷ cs) ne =
      (λ i. and_left (n == m) (holds a c) (ne_eqb n m (λ e. ne (sym e))) i || other_covers m n cs ne i)

  pub found_bounds : (lists : List KeptList) (tree : List Cover) (n : ℕ) → IsPermutation (numbered list_covers 0 lists) tree →
      group_holds tree n a ≡ list_holds lists n a
  found_bounds lists tree n permuted =
      sym (list_any-IsPermutation (is_in_group n a) (numbered list_covers 0 lists) tree permuted)
      ∙ of_number list_covers (λ m c. is_in_group m a c) (λ (l : KeptList). list_any (holds a) l.tree) (λ m l. own_covers m l.tree)
      (λ m k l ne. other_covers m k l.tree ne) 0 n n lists (omega arith)

-- For lists with expressions without bounds

own_number : (n : ℕ) (xs : List (Vec ℕ)) → is_among (numbers_if n xs) n ≡ is_some_list xs
own_number n [] = refl
own_number n (x ∷ xs) = ap (λ (b : Bool). b || false) (equal_self n)

other_number : (m n : ℕ) (xs : List (Vec ℕ)) → m ≢ n → is_among (numbers_if n xs) m ≡ false
other_number m n [] ne = refl
other_number m n (x ∷ xs) ne = ap (λ (b : Bool). b || false) (ne_eqb n m (λ e. ne (sym e)))

pub found_defaults : (lists : List KeptList) (ns : List ℕ) (n : ℕ) → ns ≡ numbered default_numbers 0 lists →
    is_among ns n ≡ has_default lists n
found_defaults lists ns n e =
    ap (λ (l : List ℕ). is_among l n) e
    ∙ of_number default_numbers (λ m k. k == m) (λ (l : KeptList). is_some_list l.defaults.items) (λ m l. own_number m l.defaults.items)
    (λ m k l ne. other_number m k l.defaults.items ne) 0 n n lists (omega arith)

-- Lists that aren't found have no answer

left_false : (b c : Bool) → (b || c) ≡ false → b ≡ false
left_false true c e = absurd (cc)
left_false false c e = refl

right_false : (b c : Bool) → (b || c) ≡ false → c ≡ false
right_false true c e = absurd (cc)
right_false false c e = e

none_held : (a k : ℕ) (tree : List Cover) → list_any (holds a) tree ≡ false → group_holds tree k a ≡ false
none_held a k [] e = refl
none_held a k (c ∷ tree) e = step (c.group == k) (holds a c) (left_false (holds a c) (list_any (holds a) tree) e)
    (none_held a k tree (right_false (holds a c) (list_any (holds a) tree) e))
  where
    step : (g b : Bool) → b ≡ false → group_holds tree k a ≡ false → ((g && b) || group_holds tree k a) ≡ false
    step g true e more = absurd (cc)
    step true false e more = more
    step false false e more = more

filter_none : (p : ℕ → Bool) (ks : List ℕ) → ((k : ℕ) → p k ≡ false) → filter p ks ≡ []
filter_none p [] none = refl
filter_none p (k ∷ ks) none = ap (λ (b : Bool). if b then k ∷ filter p ks else filter p ks) (none k) ∙ filter_none p ks none

none_left : (ds : List (Vec ℕ)) → is_some_list ds ≡ false → unless_empty (items_in ds) ≡ None
none_left [] e = refl
none_left (d ∷ ds) e = absurd (cc)

says_nothing : (l : KeptList) (a : ℕ) → (is_some_list l.defaults.items || list_any (holds a) l.tree) ≡ false →
    unless_empty (list_says l a) ≡ None
says_nothing l a e =
    ap (λ (ks : List ℕ). unless_empty (unless_none (filter_map (expression_of l.expressions.items) ks) (items_in l.defaults.items)))
    (filter_none (λ k. group_holds l.tree k a) (range_with_len 0 (length l.expressions.items))
    (λ k. none_held a k l.tree (right_false (is_some_list l.defaults.items) (list_any (holds a) l.tree) e)))
    ∙ none_left l.defaults.items (left_false (is_some_list l.defaults.items) (list_any (holds a) l.tree) e)

silent : (lists : List KeptList) (n a : ℕ) → (has_default lists n || list_holds lists n a) ≡ false → list_answer lists n a ≡ None
silent lists n a e = step (slice_get lists n) e
  where
    step : (o : Option KeptList) →
        (option_map_or (λ l. is_some_list l.defaults.items) o false || option_map_or (λ l. list_any (holds a) l.tree) o false) ≡ false →
        unless_empty (option_map_or (λ l. list_says l a) o []) ≡ None
    step None e = refl
    step (Some l) e = says_nothing l a e

inside : (lists : List KeptList) (n a : ℕ) → (has_default lists n || list_holds lists n a) ≡ true → n < length lists
inside lists n a e = step (slice_get lists n) refl e
  where
    step : (o : Option KeptList) → slice_get lists n ≡ o →
        (option_map_or (λ l. is_some_list l.defaults.items) o false || option_map_or (λ l. list_any (holds a) l.tree) o false) ≡ true →
        n < length lists
    step None s e = absurd (cc)
    step (Some l) s e = slice_get_within lists n l s

later : (b c : Bool) → c ≡ true → (b || c) ≡ true
later true c e = refl
later false c e = e

all_among : (P : ℕ → Type 0) (ns : List ℕ) → ((n : ℕ) → is_among ns n ≡ true → P n) → All P ns
all_among P [] h = All-nil P
all_among P (n ∷ ns) h =
    All-cons P n ns (h n (ap (λ (b : Bool). b || is_among ns n) (equal_self n)))
    (all_among P ns (λ m e. h m (later (n == m) (is_among ns m) e)))

pub candidates : (lists : List KeptList) (tree : List Cover) (unbounded ns : List ℕ) (a : ℕ) →
    ((n : ℕ) → group_holds tree n a ≡ list_holds lists n a) →
    ((n : ℕ) → is_among unbounded n ≡ has_default lists n) → IsStrictlyIncreasing ns →
    ((n : ℕ) → is_among ns n ≡ (is_among unbounded n || group_holds tree n a)) → AreCandidates lists a ns
candidates lists tree unbounded ns a bounds defaults rising found = record {
  rising = rising;
  within = all_among (λ n. n < length lists) ns (λ n e. inside lists n a (sym (same n) ∙ e));
  others = λ n e. silent lists n a (sym (same n) ∙ e);
}
  where
    same : (n : ℕ) → is_among ns n ≡ (has_default lists n || list_holds lists n a)
    same n = found n ∙ (λ i. defaults n i || bounds n i)
