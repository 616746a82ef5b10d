-- Groups of ranges: the addresses in a new group, and that others don't change.
use Rattle.std.proofs.Common.{◌≡◌, ◌∙◌, ◌+◌, ◌<◌, ◌==◌, ◌&&◌, ◌||◌, ◌++◌, ◌∷◌, [], ℕ, Bool, true, false, List, Option, Some, None}
use Rattle.std.proofs.Common.{refl, sym, ap, subst, arith, length, zero, suc}
use Rattle.std.specs.Prelude.{All, option_and_then, slice_get}
use Rattle.std.specs.List.{cons_option, list_any}
use Rattle.std.proofs.lemmas.Bool.Decides.{nat_tests}
use Rattle.std.proofs.lemmas.List.Folds.{list_any-append}
use Rattle.std.proofs.lemmas.List.Elements.{All-nil, All-cons, All-head, All-tail, All-append, All-weaker}
use Rattle.std.proofs.lemmas.Bool.{and_left}
use Rattle.answer_runs.specs.declared.range.Range.{Range}
use Rattle.answer_runs.specs.AddressRanges.{holds_address}
use Rattle.cover_lists.specs.declared.cover_tree.Cover.{Cover}
use Rattle.cover_lists.specs.declared.groups.Groups.{Groups}
use Rattle.cover_lists.specs.CoverTree.{holds}
use Rattle.cover_lists.specs.Located.{Located, ranges_in}
use Rattle.cover_lists.specs.EntryAddresses.{first_start}
use Rattle.cover_lists.specs.Groups.{covers_for, covers_in, is_in_group, AreNumbered, Grow, HasRanges}
use Rattle.cover_lists.proofs.SmallSteps.{or_false}

pub test_is : (b c : Bool) → b ≡ true → (b && c) ≡ c
test_is b c e = ap (λ x. x && c) e

pub equal_self : (n : ℕ) → (n == n) ≡ true
equal_self n = grind (arith, nat_tests)

pub differ : (n m : ℕ) → m < n → (n == m) ≡ false
differ n m h = grind (arith, nat_tests)

-- The ranges of a list are only of its group

abbrev here : ℕ → ℕ → List Cover → Bool
here n a cs = list_any (is_in_group n a) cs

own_covers : (n a : ℕ) (ls : List Located) → here n a (covers_in n ls) ≡ list_any (holds_address a) (ranges_in ls)
own_covers n a [] = refl
own_covers n a (l ∷ ls) = by_range l.range (own_covers n a ls) where
  by_range : (r : Option Range) → here n a (covers_in n ls) ≡ list_any (holds_address a) (ranges_in ls) →
      here n a (covers_for n r ++ covers_in n ls) ≡ list_any (holds_address a) (cons_option r (ranges_in ls))
  by_range None more = more
  by_range (Some r) more =
      ap (λ (b : Bool). b || here n a (covers_in n ls)) (test_is (n == n) (holds_address a r) (equal_self n))
      ∙ ap (λ (b : Bool). holds_address a r || b) more

other_covers : (n m a : ℕ) (ls : List Located) → m < n → here m a (covers_in n ls) ≡ false
other_covers n m a [] h = refl
other_covers n m a (l ∷ ls) h = by_range l.range (other_covers n m a ls h) where
  by_range : (r : Option Range) → here m a (covers_in n ls) ≡ false → here m a (covers_for n r ++ covers_in n ls) ≡ false
  by_range None more = more
  by_range (Some r) more =
      ap (λ (b : Bool). b || here m a (covers_in n ls)) (and_left (n == m) (holds_address a r) (differ n m h)) ∙ more

no_cover : (n a : ℕ) (cs : List Cover) → All (λ (c : Cover). c.group < n) cs → here n a cs ≡ false
no_cover n a [] below = refl
no_cover n a (c ∷ cs) below =
    let h : c.group < n = All-head (λ (c : Cover). c.group < n) c cs below in
    ap (λ (b : Bool). b || here n a cs) (and_left (c.group == n) (holds a c) (less c.group n h))
    ∙ no_cover n a cs (All-tail (λ (c : Cover). c.group < n) c cs below)
  where
    less : (m n : ℕ) → m < n → (m == n) ≡ false
    less m n h = grind (arith, nat_tests)

numbered_in : (n m : ℕ) (ls : List Located) → n < m → All (λ (c : Cover). c.group < m) (covers_in n ls)
numbered_in n m [] h = All-nil (λ (c : Cover). c.group < m)
numbered_in n m (l ∷ ls) h = by_range l.range (numbered_in n m ls h) where
  by_range : (r : Option Range) → All (λ (c : Cover). c.group < m) (covers_in n ls) →
      All (λ (c : Cover). c.group < m) (covers_for n r ++ covers_in n ls)
  by_range None more = more
  by_range (Some r) more =
      All-cons (λ (c : Cover). c.group < m) (record { low = r.low; high = r.high; group = n }) (covers_in n ls) h more

-- A list with one item more.
pub older : {X : Type 0} (xs : List X) (x : X) (n : ℕ) → n < length xs → slice_get (xs ++ x ∷ []) n ≡ slice_get xs n
older [] x n h = absurd (omega arith)
older (y ∷ xs) x zero h = refl
older (y ∷ xs) x (suc n) h = older xs x n (omega (arith, h))

pub newest : {X : Type 0} (xs : List X) (x : X) → slice_get (xs ++ x ∷ []) (length xs) ≡ Some x
newest [] x = refl
newest (y ∷ xs) x = newest xs x

pub length_more : {X : Type 0} (xs : List X) (x : X) → length (xs ++ x ∷ []) ≡ length xs + 1
length_more [] x = refl
length_more (y ∷ xs) x = let h = length_more xs x in omega (arith, h)

-- A group that is added has the ranges of a list, and no other one changes.
module _ (old new : Groups) (ls : List Located) (numbered : AreNumbered old) (count : new.count ≡ old.count + 1)
    (covers : new.covers.items ≡ old.covers.items ++ covers_in old.count ls)
    (firsts : new.firsts.items ≡ old.firsts.items ++ first_start (ranges_in ls) ∷ []) where
  both : (n a : ℕ) → here n a new.covers.items ≡ (here n a old.covers.items || here n a (covers_in old.count ls))
  both n a = ap (here n a) covers ∙ list_any-append (is_in_group n a) old.covers.items (covers_in old.count ls)

  pub group_added : Grow old new
  group_added = record {
    numbered = (
      subst (λ (cs : List Cover). All (λ (c : Cover). c.group < new.count) cs) (sym covers)
          (All-append (λ (c : Cover). c.group < new.count) old.covers.items (covers_in old.count ls)
          (All-weaker (λ (c : Cover). c.group < old.count) (λ (c : Cover). c.group < new.count) (λ c h. omega (arith, count, h))
          old.covers.items numbered.0) (numbered_in old.count new.count ls (omega (arith, count)))),
      ap length firsts ∙ length_more old.firsts.items (first_start (ranges_in ls)) ∙ ap (λ (n : ℕ). n + 1) numbered.1 ∙ sym count,
    );
    count = omega (arith, count);
    same = λ n a h. both n a ∙ ap (λ (b : Bool). here n a old.covers.items || b) (other_covers old.count n a ls h)
        ∙ or_false (here n a old.covers.items);
    firsts = λ n h. ap (λ (os : List (Option ℕ)). option_and_then (λ o. o) (slice_get os n)) firsts
        ∙ ap (option_and_then (λ o. o))
        (older old.firsts.items (first_start (ranges_in ls)) n (subst (λ (m : ℕ). n < m) (sym numbered.1) h));
  }

  pub group_has : HasRanges new (Some old.count) (Some (ranges_in ls))
  group_has = record {
    some = refl;
    within = λ n e. omega (arith, count, some_value old.count n e);
    holds = λ a. both old.count a
        ∙ ap (λ (b : Bool). b || here old.count a (covers_in old.count ls)) (no_cover old.count a old.covers.items numbered.0)
        ∙ own_covers old.count a ls;
    first = ap (λ (os : List (Option ℕ)). option_and_then (λ o. o) (slice_get os old.count)) firsts
        ∙ ap (λ (n : ℕ). option_and_then (λ o. o) (slice_get (old.firsts.items ++ first_start (ranges_in ls) ∷ []) n)) (sym numbered.1)
        ∙ ap (option_and_then (λ o. o)) (newest old.firsts.items (first_start (ranges_in ls)));
  }
    where
      some_value : (m n : ℕ) → Some m ≡ Some n → m ≡ n
      some_value m n e = cc

pub none_has : (g : Groups) → HasRanges g None None
none_has g = record { some = refl; within = λ n e. absurd (cc); holds = λ a. refl; first = refl }

pub grow_none : (g : Groups) → AreNumbered g → Grow g g
grow_none g numbered = record { numbered = numbered; count = omega arith; same = λ n a h. refl; firsts = λ n h. refl }

pub grow_more : (x y z : Groups) → Grow x y → Grow y z → Grow x z
grow_more x y z g h = record {
  numbered = h.numbered;
  count = omega (arith, g.count, h.count);
  same = λ n a below. h.same n a (omega (arith, below, g.count)) ∙ g.same n a below;
  firsts = λ n below. h.firsts n (omega (arith, below, g.count)) ∙ g.firsts n below;
}

-- The addresses in a group and its first start don't change.
pub has_still : (old new : Groups) (group : Option ℕ) (ranges : Option (List Range)) → Grow old new → HasRanges old group ranges →
    HasRanges new group ranges
has_still old new None ranges grow has = record {
  some = has.some;
  within = λ n e. absurd (cc);
  holds = has.holds;
  first = has.first;
}
has_still old new (Some m) ranges grow has = record {
  some = has.some;
  within = λ n e. omega (arith, grow.count, has.within n e);
  holds = λ a. grow.same m a (has.within m refl) ∙ has.holds a;
  first = grow.firsts m (has.within m refl) ∙ has.first;
}
