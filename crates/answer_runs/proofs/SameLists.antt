-- Two lists that agree up to an index.
use Rattle.std.proofs.Common.{ℕ, ◌+◌, ◌≤◌, ◌<◌, ◌≡◌, List, [], ◌∷◌, sym, ◌∙◌, ap, arith, length, get_or, drop}
use Rattle.std.proofs.lemmas.Grind.{common_steps}
use Rattle.std.proofs.lemmas.List.{drop_more}

pub same-more : {A : Type 0} (x y : List A) (i : ℕ) (d e : A) → i < length x → i < length y → get_or x i d ≡ get_or y i e →
    (drop i x ≡ drop i y → x ≡ y)
    → drop (i + 1) x ≡ drop (i + 1) y → x ≡ y
same-more {A} x y i d e l m g f h =
    f (drop_more x i d l ∙ ap (λ (a : A). a ∷ drop (i + 1) x) g ∙ ap (λ (z : List A). get_or y i e ∷ z) h ∙ sym (drop_more y i e m))

pub same-end : {A : Type 0} (x y : List A) (i : ℕ) → length x ≤ i → length y ≤ i → (drop i x ≡ drop i y → x ≡ y) → x ≡ y
same-end x y i l m f =
    let p : drop i x ≡ [] = grind (arith, common_steps) in
    let q : drop i y ≡ [] = grind (arith, common_steps) in
    f (p ∙ sym q)
