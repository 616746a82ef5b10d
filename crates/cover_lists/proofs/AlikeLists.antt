-- The expressions of lists at addresses between which there are none of their bounds.
use Rattle.std.proofs.Common.{◌≡◌, ◌++◌, ◌∷◌, [], ℕ, zero, suc, Bool, List, refl, ap, arith, length, filter, nat_le, All}
use Rattle.std.specs.Prelude.{filter_map, slice_get}
use Rattle.std.specs.List.{range_with_len}
use Rattle.std.specs.Option.{option_map_or}
use Rattle.std.proofs.lemmas.List.Elements.{All-cons, All-head, All-tail}
use Rattle.cover_lists.specs.declared.kept_list.KeptList.{KeptList}
use Rattle.cover_lists.specs.Bounds.{bounds_in}
use Rattle.cover_lists.specs.KeptLists.{list_says, items_in, unless_none, expression_of, list_bounds}
use Rattle.cover_lists.proofs.AlikeAddresses.{alike_groups}

pub All-left : {X : Type 0} (P : X → Type 0) (xs ys : List X) → All P (xs ++ ys) → All P xs
All-left P [] ys all = λ k d h. absurd (omega arith)
All-left P (x ∷ xs) ys all = All-cons P x xs (All-head P x (xs ++ ys) all) (All-left P xs ys (All-tail P x (xs ++ ys) all))

pub All-right : {X : Type 0} (P : X → Type 0) (xs ys : List X) → All P (xs ++ ys) → All P ys
All-right P [] ys all = all
All-right P (x ∷ xs) ys all = All-right P xs ys (All-tail P x (xs ++ ys) all)

list_alike : (l : KeptList) (a b : ℕ) → All (λ x. nat_le x a ≡ nat_le x b) (bounds_in l.tree) → list_says l a ≡ list_says l b
list_alike l a b same =
    ap (λ (t : ℕ → Bool). unless_none (filter_map (expression_of l.expressions.items)
    (filter t (range_with_len 0 (length l.expressions.items))))
    (items_in l.defaults.items)) (λ i k. alike_groups l.tree a b k same i)

pub numbered_alike : (lists : List KeptList) (n a b : ℕ) → All (λ x. nat_le x a ≡ nat_le x b) (list_bounds lists) →
    option_map_or (λ l. list_says l a) (slice_get lists n) [] ≡ option_map_or (λ l. list_says l b) (slice_get lists n) []
numbered_alike [] n a b same = refl
numbered_alike (l ∷ lists) zero a b same = list_alike l a b
    (All-left (λ x. nat_le x a ≡ nat_le x b) (bounds_in l.tree) (list_bounds lists) same)
numbered_alike (l ∷ lists) (suc n) a b same =
    numbered_alike lists n a b (All-right (λ x. nat_le x a ≡ nat_le x b) (bounds_in l.tree) (list_bounds lists) same)
