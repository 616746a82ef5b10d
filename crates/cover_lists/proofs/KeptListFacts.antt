-- Lists that are kept: their expressions.
use Rattle.std.proofs.Common.{◌≡◌, ◌∙◌, ◌+◌, ◌<◌, ◌≤◌, ◌==◌, ◌&&◌, ◌||◌, ◌++◌, ◌∷◌, [], ℕ, zero, suc, Bool, true, false, List, Option, Some}
use Rattle.std.proofs.Common.{None, refl, sym, ap, arith, length, map, filter, take, drop, get_or, append_assoc, append-nil}
use Rattle.std.specs.Prelude.{All, filter_map, option_map, slice_get}
use Rattle.std.specs.Global.{Vec}
use Rattle.std.specs.List.{list_any, range_with_len}
use Rattle.std.specs.List.Sorted.{IsPermutation}
use Rattle.std.specs.Option.{option_map_or}
use Rattle.std.proofs.lemmas.Bool.Decides.{nat_tests}
use Rattle.std.proofs.lemmas.List.{drop_more, drop_all, get_or-map, length-map, map_push, map-append, take_more}
use Rattle.std.proofs.lemmas.List.Elements.{All-nil, All-cons, All-head, All-tail, All-append, filter-append}
use Rattle.std.proofs.lemmas.List.Sorted.{All-permutation, list_any-IsPermutation}
use Rattle.std.proofs.lemmas.Option.{slice_get-map}
use Rattle.std.proofs.lemmas.Bool.{and_left}
use Rattle.answer_runs.specs.declared.range.Range.{Range}
use Rattle.answer_runs.specs.AddressRanges.{holds_address}
use Rattle.cover_lists.specs.declared.cover_tree.Cover.{Cover}
use Rattle.cover_lists.specs.CoverTree.{holds}
use Rattle.cover_lists.specs.Groups.{group_holds, is_in_group, covers_for}
use Rattle.cover_lists.specs.KeptLists.{items_in, numbered_covers, expression_of, bounded_numbers, unless_none}
use Rattle.cover_lists.specs.declared.list_place.Place.{Place}
use Rattle.cover_lists.specs.ListPlaces.{located_of}
use Rattle.cover_lists.specs.Located.{Located, expressions, is_bounded_at, is_default, in_force, unless_bounded}
use Rattle.cover_lists.proofs.ByNumbers.{mapped_by_number}
use Rattle.cover_lists.proofs.GroupFacts.{test_is, equal_self, differ}
use Rattle.cover_lists.proofs.MemberLists.{any_map, any_filter}
use Rattle.cover_lists.proofs.SmallSteps.{or_false}

-- The ranges of items, with one more item.
pub covers_more : (ls : List Located) (n : ℕ) (d : Located) (old new whole : List Cover) → n < length ls →
    old ++ numbered_covers n (drop n ls) ≡ whole → new ≡ old ++ covers_for n (get_or ls n d).range →
    new ++ numbered_covers (n + 1) (drop (n + 1) ls) ≡ whole
covers_more ls n d old new whole h before made =
    ap (λ (l : List Cover). l ++ numbered_covers (n + 1) (drop (n + 1) ls)) made
    ∙ append_assoc old (covers_for n (get_or ls n d).range) (numbered_covers (n + 1) (drop (n + 1) ls))
    ∙ sym (ap (λ (l : List Located). old ++ numbered_covers n l) (drop_more ls n d h)) ∙ before

-- All of them are numbered

abbrev IsBelow : ℕ → Cover → Type 0
IsBelow n c = c.group < n

one_below : (n m : ℕ) (r : Option Range) → n < m → All (IsBelow m) (covers_for n r)
one_below n m None h = All-nil (IsBelow m)
one_below n m (Some r) h = All-cons (IsBelow m) (record { low = r.low; high = r.high; group = n }) [] h (All-nil (IsBelow m))

below_from : (n m : ℕ) (ls : List Located) → n + length ls ≡ m → All (IsBelow m) (numbered_covers n ls)
below_from n m [] e = All-nil (IsBelow m)
below_from n m (l ∷ ls) e = All-append (IsBelow m) (covers_for n l.range) (numbered_covers (n + 1) ls) (one_below n m l.range (omega arith))
    (below_from (n + 1) m ls (omega arith))

-- They contain the addresses in the items' ranges

other_number : (n m a : ℕ) (ls : List Located) → m < n → group_holds (numbered_covers n ls) m a ≡ false
other_number n m a [] h = refl
other_number n m a (l ∷ ls) h = by_range l.range (other_number (n + 1) m a ls (omega arith))
  where
    by_range : (r : Option Range) → group_holds (numbered_covers (n + 1) ls) m a ≡ false →
        group_holds (covers_for n r ++ numbered_covers (n + 1) ls) m a ≡ false
    by_range None more = more
    by_range (Some r) more =
        ap (λ (b : Bool). b || group_holds (numbered_covers (n + 1) ls) m a) (and_left (n == m) (holds_address a r) (differ n m h)) ∙ more

abbrev holds_item : List Located → ℕ → ℕ → Bool
holds_item ls a k = option_map_or (is_bounded_at a) (slice_get ls k) false

own_number : (n k m a : ℕ) (ls : List Located) → n + k ≡ m → group_holds (numbered_covers n ls) m a ≡ holds_item ls a k
own_number n k m a [] e = refl
own_number n zero m a (l ∷ ls) e =
    ap (λ (q : ℕ). group_holds (numbered_covers n (l ∷ ls)) q a) same
    ∙ by_range l.range (other_number (n + 1) n a ls (omega arith))
  where
    same : m ≡ n
    same = omega arith

    by_range : (r : Option Range) → group_holds (numbered_covers (n + 1) ls) n a ≡ false →
        group_holds (covers_for n r ++ numbered_covers (n + 1) ls) n a ≡ option_map_or (holds_address a) r false
    by_range None more = more
    by_range (Some r) more =
        ap (λ (b : Bool). b || group_holds (numbered_covers (n + 1) ls) n a) (test_is (n == n) (holds_address a r) (equal_self n))
        ∙ ap (λ (b : Bool). holds_address a r || b) more ∙ or_false (holds_address a r)
own_number n (suc k) m a (l ∷ ls) e = by_range l.range (own_number (n + 1) k m a ls (omega arith))
  where
    apart : (n == m) ≡ false
    apart = grind (arith, nat_tests)

    by_range : (r : Option Range) → group_holds (numbered_covers (n + 1) ls) m a ≡ holds_item ls a k →
        group_holds (covers_for n r ++ numbered_covers (n + 1) ls) m a ≡ holds_item ls a k
    by_range None more = more
    by_range (Some r) more =
        ap (λ (b : Bool). b || group_holds (numbered_covers (n + 1) ls) m a) (and_left (n == m) (holds_address a r) apart) ∙ more

-- A kept list has the expressions of the list

chosen : (bounded defaults : List Located) → unless_none (expressions bounded) (expressions defaults) ≡ unless_bounded bounded defaults
chosen [] defaults = refl
chosen (l ∷ ls) defaults = refl

module _ (ls : List Located) (tree : List Cover) (xs ds : List (Vec ℕ)) (permuted : IsPermutation (numbered_covers 0 ls) tree)
    (all : items_in xs ≡ expressions ls) (rest : items_in ds ≡ expressions (filter is_default ls)) where
  size : length xs ≡ length ls
  size = sym (length-map xs (λ (v : Vec ℕ). v.items)) ∙ ap length all ∙ length-map ls (λ (l : Located). l.expression)

  holds_same : (a k : ℕ) → group_holds tree k a ≡ holds_item ls a k
  holds_same a k = sym (list_any-IsPermutation (is_in_group k a) (numbered_covers 0 ls) tree permuted) ∙ own_number 0 k k a ls (omega arith)

  expression : (k : ℕ) → expression_of xs k ≡ option_map (λ (l : Located). l.expression) (slice_get ls k)
  expression k = sym (slice_get-map (λ (v : Vec ℕ). v.items) xs k) ∙ ap (λ (xs : List (List ℕ)). slice_get xs k) all
      ∙ slice_get-map (λ (l : Located). l.expression) ls k

  bounded : (a : ℕ) → filter_map (expression_of xs) (bounded_numbers tree (length xs) a) ≡ expressions (filter (is_bounded_at a) ls)
  bounded a =
      (λ i. filter_map (λ k. expression k i) (filter (λ k. holds_same a k i) (range_with_len 0 (size i))))
      ∙ mapped_by_number (λ (l : Located). l.expression) (is_bounded_at a) ls

  pub says : (a : ℕ) → unless_none (filter_map (expression_of xs) (bounded_numbers tree (length xs) a)) (items_in ds) ≡ in_force ls a
  says a = (λ i. unless_none (bounded a i) (rest i)) ∙ chosen (filter (is_bounded_at a) ls) (filter is_default ls)

pub numbered : (ls : List Located) (tree : List Cover) (xs : List (Vec ℕ)) → IsPermutation (numbered_covers 0 ls) tree →
    items_in xs ≡ expressions ls → All (λ (c : Cover). c.group < length xs) tree
numbered ls tree xs permuted all =
    let size : length xs ≡ length ls =
    sym (length-map xs (λ (v : Vec ℕ). v.items)) ∙ ap length all ∙ length-map ls (λ (l : Located). l.expression) in
    All-permutation (λ (c : Cover). c.group < length xs) (numbered_covers 0 ls) tree permuted (below_from 0 (length xs) ls (omega arith))

-- Only numbers of items are found

by_group : (tree : List Cover) (c : Cover) (n a k : ℕ) (b : Bool) → (c.group == k) ≡ b → c.group < n →
    (group_holds tree k a ≡ true → k < n) → ((b && holds a c) || group_holds tree k a) ≡ true → k < n
by_group tree c n a k true same here more found = grind (arith, nat_tests)
by_group tree c n a k false same here more found = more found

pub below_size : (tree : List Cover) (n a k : ℕ) → All (λ (c : Cover). c.group < n) tree → group_holds tree k a ≡ true → k < n
below_size [] n a k all found = absurd (cc)
below_size (c ∷ tree) n a k all found =
    by_group tree c n a k (c.group == k) refl (All-head (λ (c : Cover). c.group < n) c tree all)
    (below_size tree n a k (All-tail (λ (c : Cover). c.group < n) c tree all)) found

pub found_numbers : (tree : List Cover) (a k : ℕ) (groups : List ℕ) → groups ≡ map (λ (c : Cover). c.group) (filter (holds a) tree) →
    list_any (λ m. m == k) groups ≡ group_holds tree k a
found_numbers tree a k groups found =
    ap (list_any (λ m. m == k)) found ∙ any_map (λ m. m == k) (λ (c : Cover). c.group) (filter (holds a) tree)
    ∙ any_filter (λ (c : Cover). c.group == k) (holds a) tree

-- Copies of the expressions of items, with one more item

pub copied_more : (ps : List Place) (i : ℕ) (d : Place) (old new : List (List ℕ)) → i < length ps →
    old ≡ expressions (map located_of (take i ps)) → new ≡ old ++ (get_or ps i d).expression.now ∷ [] →
    new ≡ expressions (map located_of (take (i + 1) ps))
copied_more ps i d old new h before made =
    made ∙ ap (λ (l : List (List ℕ)). l ++ (get_or ps i d).expression.now ∷ []) before
    ∙ sym (ap (λ (l : List Place). expressions (map located_of l)) (take_more ps i d h)
    ∙ ap expressions (map_push located_of (take i ps) (get_or ps i d))
    ∙ map_push (λ (l : Located). l.expression) (map located_of (take i ps)) (located_of (get_or ps i d)))

pub defaults_more : (ps : List Place) (i : ℕ) (d : Place) (old new : List (List ℕ)) → i < length ps →
    old ≡ expressions (filter is_default (map located_of (take i ps))) →
    new ≡ old ++ expressions (filter is_default (located_of (get_or ps i d) ∷ [])) →
    new ≡ expressions (filter is_default (map located_of (take (i + 1) ps)))
defaults_more ps i d old new h before made =
    let x : Located = located_of (get_or ps i d) in
    made ∙ ap (λ (l : List (List ℕ)). l ++ expressions (filter is_default (x ∷ []))) before
    ∙ sym (ap (λ (l : List Place). expressions (filter is_default (map located_of l))) (take_more ps i d h)
    ∙ ap (λ (l : List Located). expressions (filter is_default l)) (map_push located_of (take i ps) (get_or ps i d))
    ∙ ap expressions (filter-append is_default (map located_of (take i ps)) (x ∷ []))
    ∙ map-append (λ (l : Located). l.expression) (filter is_default (map located_of (take i ps))) (filter is_default (x ∷ [])))

-- The ranges of items, with one more item

pub covers_next : (ps : List Place) (i : ℕ) (d : Place) (old new : List Cover) → i < length ps →
    old ++ numbered_covers i (drop i (map located_of ps)) ≡ numbered_covers 0 (map located_of ps) →
    new ≡ old ++ covers_for i (located_of (get_or ps i d)).range →
    new ++ numbered_covers (i + 1) (drop (i + 1) (map located_of ps)) ≡ numbered_covers 0 (map located_of ps)
covers_next ps i d old new h before made =
    covers_more (map located_of ps) i (located_of d) old new (numbered_covers 0 (map located_of ps))
    (omega (arith, h, length-map ps located_of)) before
    (made ∙ ap (λ (l : Located). old ++ covers_for i l.range) (sym (get_or-map located_of ps i d (located_of d) h)))

pub covers_done : (ps : List Place) (i : ℕ) (old : List Cover) → length ps ≤ i →
    old ++ numbered_covers i (drop i (map located_of ps)) ≡ numbered_covers 0 (map located_of ps) → old
    ≡ numbered_covers 0 (map located_of ps)
covers_done ps i old h before =
    sym (append-nil old) ∙ sym (ap (λ (l : List Located). old ++ numbered_covers i l)
    (drop_all i (map located_of ps) (omega (arith, h, length-map ps located_of)))) ∙ before
