-- A property of all items of two lists, after one another, holds for each list.
use Rattle.std.proofs.Common.{List, [], ◌∷◌, ◌++◌, All}
use Rattle.std.proofs.lemmas.List.Elements.{All-nil, All-cons, All-head, All-tail}

module _ {X : Type 0} (P : X → Type 0) where
  pub front_all : (xs ys : List X) → All P (xs ++ ys) → All P xs
  front_all [] ys all = All-nil P
  front_all (x ∷ xs) ys all = All-cons P x xs (All-head P x (xs ++ ys) all) (front_all xs ys (All-tail P x (xs ++ ys) all))

  pub back_all : (xs ys : List X) → All P (xs ++ ys) → All P ys
  back_all [] ys all = all
  back_all (x ∷ xs) ys all = back_all xs ys (All-tail P x (xs ++ ys) all)
