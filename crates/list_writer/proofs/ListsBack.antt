-- Written lists are read back.
use Rattle.std.proofs.Common.{ℕ, zero, suc, ◌≤◌, ◌≡◌, ◌==◌, List, [], ◌∷◌, ◌++◌, Option, Some, Result, Ok, cond, Bool, false, refl, ◌∙◌, ap}
use Rattle.std.proofs.Common.{subst, arith, length, append_assoc, length-append, map, option_map}
use Rattle.std.specs.Prelude.{All}
use Rattle.std.proofs.lemmas.List.Elements.{All-head, All-tail}
use Rattle.rb_bytes.specs.Readers.{and_then}
use Rattle.table_core.specs.ReadSteps.{with_head}
use Rattle.dw_unit.specs.declared.trouble.Trouble.{Trouble}
use Rattle.dw_unit.specs.Trouble.{Read}
use Rattle.dw_lists.specs.declared.list_kind.ListKind.{ListKind}
use Rattle.dw_lists.specs.declared.list_kind.ListKind.TheVariants.{Ranges, Locations}
use Rattle.list_writer.specs.ListBytes.{Bounded, IsWritable, list_bytes, entry_bytes, located_at}
use Rattle.dw_lists.specs.ListEntries.{Item, item_behind, items_within}
use Rattle.dw_lists.specs.ListReading.{item_of}
use Rattle.dw_lists.specs.Lists.{items_say}
use Rattle.list_writer.proofs.SpelledEntries.{byte-back, entry-back, entry_kind, entry_parts, entry_rest, item_at}

-- One more entry, at any fuel.
opens : (item : ℕ → List ℕ → Read Item) (n kind : ℕ) (left rest : List ℕ) (i : Item) (is : List Item) → (kind == 0) ≡ false →
    item kind left ≡ Ok (i, rest) → items_within item n rest ≡ Ok is → items_within item (suc n) (kind ∷ left) ≡ Ok (i ∷ is)
unfolding items_within
opens item n kind left rest i is some e more =
    ap (λ (r : Read ℕ). and_then r (item_behind item (items_within item n))) (byte-back kind left)
    ∙ ap (λ (b : Bool). cond b (Ok []) (joined (item kind left))) some ∙ ap joined e ∙ ap (with_head i) more
  where
    joined : Read Item → Result (List Item) Trouble
    joined r = and_then r (λ j rest. with_head j (items_within item n rest))

ends : (item : ℕ → List ℕ → Read Item) (n : ℕ) (left : List ℕ) → items_within item (suc n) (0 ∷ left) ≡ Ok []
unfolding items_within
ends item n left = ap (λ (r : Read ℕ). and_then r (item_behind item (items_within item n))) (byte-back 0 left)

some_kind : (kind : ListKind) → (entry_kind kind == 0) ≡ false
some_kind Ranges = refl
some_kind Locations = refl

-- The rest of a list after one entry is shorter.
shorter : (kind n : ℕ) (xs ys rest : List ℕ) → length ((kind ∷ xs) ++ (ys ++ rest)) ≤ suc n → length (ys ++ rest) ≤ n
shorter kind n xs ys rest f = let a = length-append xs (ys ++ rest) in omega (arith, a, f)

front : (kind : ListKind) (b : Bounded) (bs : List Bounded) (rest : List ℕ) →
    list_bytes kind (b ∷ bs) ++ rest ≡ (entry_kind kind ∷ entry_rest kind b) ++ (list_bytes kind bs ++ rest)
unfolding list_bytes
front kind b bs rest =
    append_assoc (entry_bytes kind b) (list_bytes kind bs) rest ∙ ap (λ (l : List ℕ). l ++ (list_bytes kind bs ++ rest))
    (entry_parts kind b)

no_items : (kind : ListKind) (rest : List ℕ) (n : ℕ) → length (list_bytes kind [] ++ rest) ≤ n →
    items_within (item_of kind) n (list_bytes kind [] ++ rest) ≡ Ok []
unfolding list_bytes
no_items kind rest zero f = absurd (omega arith)
no_items kind rest (suc n) f = ends (item_of kind) n rest

pub list-back : (kind : ListKind) (bs : List Bounded) (rest : List ℕ) (n : ℕ) → All (IsWritable kind) bs →
    length (list_bytes kind bs ++ rest) ≤ n →
    items_within (item_of kind) n (list_bytes kind bs ++ rest) ≡ Ok (map item_at bs)
list-back kind [] rest n w f = no_items kind rest n f
list-back kind (b ∷ bs) rest n w f =
    let e = front kind b bs rest in
    ap (items_within (item_of kind) n) e ∙ step n (subst (λ (l : List ℕ). length l ≤ n) e f)
    (λ m g. list-back kind bs rest m (All-tail (IsWritable kind) b bs w) g)
  where
    step : (n : ℕ) → length ((entry_kind kind ∷ entry_rest kind b) ++ (list_bytes kind bs ++ rest)) ≤ n →
        ((m : ℕ) → length (list_bytes kind bs ++ rest) ≤ m → items_within (item_of kind) m (list_bytes kind bs ++ rest) ≡ Ok
        (map item_at bs)) →
        items_within (item_of kind) n ((entry_kind kind ∷ entry_rest kind b) ++ (list_bytes kind bs ++ rest)) ≡ Ok
        (item_at b ∷ map item_at bs)
    step zero g more = absurd (omega arith)
    step (suc n) g more =
        opens (item_of kind) n (entry_kind kind) (entry_rest kind b ++ (list_bytes kind bs ++ rest)) (list_bytes kind bs ++ rest)
        (item_at b) (map item_at bs)
        (some_kind kind) (entry-back kind b (list_bytes kind bs ++ rest) (All-head (IsWritable kind) b bs w))
        (more n (shorter (entry_kind kind) n (entry_rest kind b) (list_bytes kind bs) rest g))

pub list-said : (look : ℕ → Option ℕ) (bs : List Bounded) (base : ℕ) → items_say look (map item_at bs) base ≡ Some (map located_at bs)
list-said look [] base = refl
list-said look (b ∷ bs) base = ap (option_map (λ ls. located_at b ∷ ls)) (list-said look bs base)
