-- The lowest place of the results for the items of a list, item by item.
use Rattle.std.proofs.Common.{◌≡◌, ◌∙◌, sym, subst, ap, ℕ, ◌+◌, ◌<◌, ⊎_elim, Option, List, [], ◌∷◌, ◌++◌, take, length, slice_index_or}
use Rattle.std.specs.List.{Any}
use Rattle.std.proofs.lemmas.List.{take_more}
use Rattle.std.proofs.lemmas.List.Quantifiers.{Any-push}
use Rattle.elf_image.specs.faults.LowestPlace.{IsLowest, lower}
use Rattle.elf_image.proofs.LowestPlaces.{IsLowest-same, IsLowest-lower}
use Rattle.rb_bytes.proofs.Gains.{Any-left, Any-push_cases}

pub lowest_next : {A : Type 0} (Has : A → ℕ → Type 0) (xs : List A) (i : ℕ) (x d : A) (a b r : Option ℕ) → i < length xs →
    x ≡ slice_index_or xs i d → r ≡ lower a b → IsLowest (λ p. Any (λ y. Has y p) (take i xs)) a → IsLowest (Has x) b →
    IsLowest (λ p. Any (λ y. Has y p) (take (i + 1) xs)) r
lowest_next {A} Has xs i x d a b r within is joined first here =
    subst (λ (ys : List A). IsLowest (λ p. Any (λ y. Has y p) ys) r) (sym taken)
    (IsLowest-same r
    (λ p. ⊎_elim (λ early. Any-left (λ y. Has y p) (take i xs) (x ∷ []) early) (λ has. Any-push (λ y. Has y p) (take i xs) x has))
    (λ p any. Any-push_cases (λ y. Has y p) (take i xs) x any)
    (IsLowest-lower a b r joined first here))
  where
    taken : take (i + 1) xs ≡ take i xs ++ x ∷ []
    taken = take_more xs i d within ∙ ap (λ (z : A). take i xs ++ z ∷ []) (sym is)
