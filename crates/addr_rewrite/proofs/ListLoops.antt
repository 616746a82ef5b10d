-- Loops that append the results for each element of a list.
use Rattle.std.proofs.Common.{◌≡◌, ◌∙◌, ◌<◌, ◌≤◌, ◌+◌, ◌++◌, ◌∷◌, [], ℕ, List, sym, ap, get_or, length, map, take, append_assoc}
use Rattle.std.proofs.lemmas.List.{map-append, take_all, take_more}

module _ {X Y : Type 0} (f : X → Y) (xs : List X) (i : ℕ) (base ys new : List Y) where
  pub mapped_more : (d : X) → i < length xs → ys ≡ base ++ map f (take i xs) → new ≡ ys ++ f (get_or xs i d) ∷ [] →
      new ≡ base ++ map f (take (i + 1) xs)
  mapped_more d h e n =
      n ∙ ap (λ (l : List Y). l ++ f (get_or xs i d) ∷ []) e
      ∙ append_assoc base (map f (take i xs)) (f (get_or xs i d) ∷ [])
      ∙ ap (λ (l : List Y). base ++ l) (sym (ap (map f) (take_more xs i d h) ∙ map-append f (take i xs) (get_or xs i d ∷ [])))

  pub mapped_all : length xs ≤ i → ys ≡ base ++ map f (take i xs) → ys ≡ base ++ map f xs
  mapped_all h e = e ∙ ap (λ (l : List X). base ++ map f l) (take_all i xs h)
