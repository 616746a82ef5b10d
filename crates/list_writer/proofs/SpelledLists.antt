-- Lists are spelled one element after another.
use Rattle.std.proofs.Common.{◌≡◌, ◌∙◌, ◌+◌, ◌<◌, ◌++◌, ◌∷◌, [], ℕ, List, refl, sym, ap, length, take, get_or, append_assoc, append-nil}
use Rattle.std.specs.Prelude.{flat_map}
use Rattle.std.proofs.lemmas.List.{take_more}
use Rattle.std.proofs.lemmas.List.Concat.{flat_map-append}
use Rattle.dw_lists.specs.declared.list_kind.ListKind.{ListKind}
use Rattle.list_writer.specs.ListBytes.{Bounded, entry_bytes, list_bytes}

-- The bytes of one more element.
pub spelled_more : {X : Type 0} (f : X → List ℕ) (xs : List X) (i : ℕ) (d : X) (before old new : List ℕ) → i < length xs →
    old ≡ before ++ flat_map f (take i xs) → new ≡ old ++ f (get_or xs i d) → new ≡ before ++ flat_map f (take (i + 1) xs)
spelled_more f xs i d before old new h e made =
    made ∙ ap (λ (l : List ℕ). l ++ f (get_or xs i d)) e ∙ append_assoc before (flat_map f (take i xs)) (f (get_or xs i d))
    ∙ ap (λ (l : List ℕ). before ++ l)
    (ap (λ (l : List ℕ). flat_map f (take i xs) ++ l) (sym (append-nil (f (get_or xs i d))))
    ∙ sym (flat_map-append f (take i xs) (get_or xs i d ∷ [])) ∙ sym (ap (flat_map f) (take_more xs i d h)))

-- With the end of the list.
pub ended : (kind : ListKind) (bs : List Bounded) → flat_map (entry_bytes kind) bs ++ 0 ∷ [] ≡ list_bytes kind bs
unfolding list_bytes
ended kind [] = refl
ended kind (b ∷ bs) =
    append_assoc (entry_bytes kind b) (flat_map (entry_bytes kind) bs) (0 ∷ [])
    ∙ ap (λ (l : List ℕ). entry_bytes kind b ++ l) (ended kind bs)
