-- Two lists that agree up to an index.
use Rattle.std.proofs.Common.{ℕ, ◌+◌, ◌≤◌, ◌<◌, ◌≡◌, ◌∙◌, List, sym, ap, arith, length, get_or, drop, map}
use Rattle.std.proofs.lemmas.List.{length-map, get_or-map}
use Rattle.answer_runs.proofs.SameLists.{same-more, same-end}

pub mapped_more : {A B : Type 0} (f : A → B) (x y : List A) (i : ℕ) (d e : A) → i < length x → i < length y → f (get_or x i d)
    ≡ f (get_or y i e) →
    (drop i (map f x) ≡ drop i (map f y) → map f x ≡ map f y) → drop (i + 1) (map f x) ≡ drop (i + 1) (map f y) → map f x ≡ map f y
mapped_more f x y i d e l m same before =
    same-more (map f x) (map f y) i (f d) (f e) (omega (arith, length-map x f)) (omega (arith, length-map y f))
    (get_or-map f x i d (f d) l ∙ same ∙ sym (get_or-map f y i e (f e) m)) before

pub mapped_end : {A B : Type 0} (f : A → B) (x y : List A) (i : ℕ) → length x ≤ i → length y ≤ i →
    (drop i (map f x) ≡ drop i (map f y) → map f x ≡ map f y) → map f x ≡ map f y
mapped_end f x y i l m before = same-end (map f x) (map f y) i (omega (arith, length-map x f)) (omega (arith, length-map y f)) before

pub mapped_at : {A B : Type 0} (f : A → B) (x y : List A) (i : ℕ) (d e : A) → i < length x → i < length y → map f x ≡ map f y →
    f (get_or x i d) ≡ f (get_or y i e)
mapped_at f x y i d e l m same =
    sym (get_or-map f x i d (f d) l) ∙ ap (λ (l : List _). get_or l i (f d)) same ∙ get_or-map f y i e (f d) m
