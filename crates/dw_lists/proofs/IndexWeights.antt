-- The greatest of the indexes of a unit's attributes, and the weight of the tables of units.
use Rattle.std.proofs.Common.{◌≡◌, ◌∙◌, ◌+◌, ◌*◌, ◌==◌, ◌<◌, ◌++◌, ◌∷◌, [], ℕ, List, Option, Some, None, refl, sym, ap, length, take}
use Rattle.std.proofs.Common.{get_or, map, filter, zero-add}
use Rattle.std.specs.Prelude.{flat_map, sum_by}
use Rattle.std.specs.Option.{option_map_or}
use Rattle.std.proofs.lemmas.List.{map-append, take_more}
use Rattle.std.proofs.lemmas.List.Elements.{filter-append}
use Rattle.std.proofs.lemmas.List.Sums.{sum_by-append, sum_by-cons}
use Rattle.answer_runs.specs.Choices.{first_of}
use Rattle.dw_unit.specs.declared.entry.Attr.{Attr}
use Rattle.dw_unit.specs.ListedEntries.{ListedEntry}
use Rattle.dw_unit.specs.ListedUnits.{plain}
use Rattle.dw_unit.specs.CompUnits.{Entry, Unit, own_entry}
use Rattle.dw_unit.proofs.UnitReadings.{flat-more}
use Rattle.dw_lists.specs.IndexedUnits.{indexed_by, indexed_of, table_weight}
use Rattle.dw_lists.specs.Lists.{Kind}
use Rattle.dw_lists.specs.Weights.{greatest, indexes, indexes_in, index_weight, offsets_weight}

indexes-append : (form : ℕ) (xs ys : List Attr) → indexes_in form (xs ++ ys) ≡ indexes_in form xs ++ indexes_in form ys
indexes-append form xs ys =
    ap (map (λ (a : Attr). a.value)) (filter-append (λ (a : Attr). a.form == form) xs ys)
    ∙ map-append (λ (a : Attr). a.value) (filter (λ (a : Attr). a.form == form) xs) (filter (λ (a : Attr). a.form == form) ys)

assoc : (x y z : List ℕ) → ((x ++ y) ++ z) ≡ x ++ (y ++ z)
assoc [] y z = refl
assoc (q ∷ x) y z = ap (λ (l : List ℕ). q ∷ l) (assoc x y z)

-- One more attribute.
pub noted_more : (form : ℕ) (before : List ℕ) (xs : List Attr) (i : ℕ) (d : Attr) (o : Option ℕ) → i < length xs →
    o ≡ greatest ((before ++ indexes_in form (take i xs)) ++ indexes_in form (get_or xs i d ∷ [])) →
    o ≡ greatest (before ++ indexes_in form (take (i + 1) xs))
noted_more form before xs i d o h e =
    e ∙ ap greatest (assoc before (indexes_in form (take i xs)) (indexes_in form (get_or xs i d ∷ []))
    ∙ ap (λ (l : List ℕ). before ++ l) (sym (ap (indexes_in form) (take_more xs i d h)
    ∙ indexes-append form (take i xs) (get_or xs i d ∷ []))))

-- One more entry.
pub entries_more : (form : ℕ) (es : List ListedEntry) (i : ℕ) (x : ListedEntry) (o : Option ℕ) → i < length es → x ≡ get_or es i x →
    o ≡ greatest (indexes_in form (flat_map (λ (e : ListedEntry). e.attrs) (take i es)) ++ indexes_in form x.attrs) →
    o ≡ greatest (indexes_in form (flat_map (λ (e : ListedEntry). e.attrs) (take (i + 1) es)))
entries_more form es i x o h is e =
    e ∙ ap greatest (sym (indexes-append form (flat_map (λ (e : ListedEntry). e.attrs) (take i es)) x.attrs)
    ∙ ap (indexes_in form) (sym (ap (flat_map (λ (e : ListedEntry). e.attrs)) (take_more es i x h
    ∙ ap (λ (y : ListedEntry). take i es ++ y ∷ []) (sym is))
    ∙ flat-more (λ (e : ListedEntry). e.attrs) (take i es) x)))

pub plain_attrs : (es : List ListedEntry) → flat_map (λ (e : ListedEntry). e.attrs) es ≡ flat_map (λ (e : Entry). e.attrs) (map plain es)
plain_attrs [] = refl
plain_attrs (e ∷ es) = ap (λ (l : List Attr). e.attrs ++ l) (plain_attrs es)

-- The weight of units is that of their tables.

by_greatest : (is : List ℕ) → option_map_or (λ (i : ℕ). 32 + 4 * (i + 1)) (greatest is) 0 ≡ offsets_weight is
by_greatest [] = refl
by_greatest (i ∷ is) = refl

unit_weight : (k : Kind) (u : Unit) → sum_by table_weight (indexed_of k u) ≡ index_weight k.index_form u
unit_weight k u = by u.entries refl
  where
    by : (es : List Entry) → u.entries ≡ es → sum_by table_weight (indexed_by k u (first_of es)) ≡ index_weight k.index_form u
    by [] e = sym (ap (λ (es : List Entry). offsets_weight (indexes_in k.index_form (flat_map (λ (e : Entry). e.attrs) es))) e)
    by (x ∷ es) e = zero-add _ ∙ by_greatest (indexes k.index_form u)

pub all_weights : (k : Kind) (us : List Unit) → sum_by table_weight (flat_map (indexed_of k) us) ≡ sum_by (index_weight k.index_form) us
all_weights k [] = refl
all_weights k (u ∷ us) =
    sum_by-append table_weight (indexed_of k u) (flat_map (indexed_of k) us)
    ∙ (λ i. unit_weight k u i + all_weights k us i)
    ∙ sym (sum_by-cons (index_weight k.index_form) u us)
