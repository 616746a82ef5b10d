-- Entries of a symbol table one after another, and lists whose elements are related.
use Rattle.std.proofs.Common.{◌≡◌, ◌∙◌, sym, ap, subst, refl, ℕ, ◌+◌, ◌-◌, ◌*◌, ◌<◌, List, [], ◌∷◌, ◌++◌, Some, length}
use Rattle.std.proofs.Common.{length-append, take, drop, get_or, arith}
use Rattle.std.specs.Prelude.{slice_get}
use Rattle.std.proofs.lemmas.List.{append-nil, append_assoc, get_or-append_right, get_or-drop, get_or-take, get_or_append_left}
use Rattle.std.proofs.lemmas.List.{length-drop, length-take, take_more}
use Rattle.std.proofs.lemmas.Option.{get_or_from_slice_get, slice_get-get_or, slice_get_within}
use Rattle.elf_image.specs.declared.symbol.TheConstants.{SYM_SIZE}
use Rattle.elf_parts.specs.declared.spell.SymbolEntry.{SymbolEntry}
use Rattle.elf_parts.specs.Spellings.{symbol_entries, symbol_entry_bytes}
use Rattle.elf_parts.proofs.TablesRead.{length-symbol_entry_bytes}
use Rattle.elf_plan.specs.PairedLists.{GoTogether}
use Rattle.elf_plan.proofs.Pairs.{each-pushed}
use Rattle.rb_bytes.proofs.ListLemmas.{slice_get_found}

-- Bytes of entries.

pub symbol_entries-append : (xs ys : List SymbolEntry) → symbol_entries (xs ++ ys) ≡ symbol_entries xs ++ symbol_entries ys
unfolding symbol_entries
symbol_entries-append [] ys = refl
symbol_entries-append (x ∷ xs) ys =
    ap (λ (bytes : List ℕ). symbol_entry_bytes x ++ bytes) (symbol_entries-append xs ys)
    ∙ sym (append_assoc (symbol_entry_bytes x) (symbol_entries xs) (symbol_entries ys))

pub symbol_entries-one : (x : SymbolEntry) → symbol_entries (x ∷ []) ≡ symbol_entry_bytes x
unfolding symbol_entries
symbol_entries-one x = append-nil (symbol_entry_bytes x)

pub symbol_entries-none : symbol_entries [] ≡ []
unfolding symbol_entries
symbol_entries-none = refl

pub symbol_entries-more : (xs : List SymbolEntry) (x : SymbolEntry) →
    symbol_entries (xs ++ x ∷ []) ≡ symbol_entries xs ++ symbol_entry_bytes x
symbol_entries-more xs x =
    symbol_entries-append xs (x ∷ []) ∙ ap (λ (bytes : List ℕ). symbol_entries xs ++ bytes) (symbol_entries-one x)

pub symbol_entries-take : (xs : List SymbolEntry) (i : ℕ) (d : SymbolEntry) → i < length xs →
    symbol_entries (take (i + 1) xs) ≡ symbol_entries (take i xs) ++ symbol_entry_bytes (get_or xs i d)
symbol_entries-take xs i d below =
    ap symbol_entries (take_more xs i d below) ∙ symbol_entries-more (take i xs) (get_or xs i d)

pub ruleset entry_tables = (symbol_entries-take, symbol_entries-none, append_assoc, append-nil)

pub length-symbol_entries : (xs : List SymbolEntry) → length (symbol_entries xs) ≡ SYM_SIZE * length xs
unfolding symbol_entries
length-symbol_entries [] = refl
length-symbol_entries (x ∷ xs) =
    let first = length-symbol_entry_bytes x in
    let rest = length-symbol_entries xs in
    let both = length-append (symbol_entry_bytes x) (symbol_entries xs) in
    both ∙ omega (arith, first, rest)

-- Parts of lists.

pub slice_get-taken : {A : Type 0} (n : ℕ) (xs : List A) (i : ℕ) (x : A) → slice_get (take n xs) i ≡ Some x →
    (i < n) × (slice_get xs i ≡ Some x)
slice_get-taken n xs i x is =
    let within = slice_get_within (take n xs) i x is in
    let size = length-take n xs in (
      omega (arith, within, size),
      slice_get-get_or xs i x (omega (arith, within, size))
          ∙ ap Some (sym (get_or-take n xs i x (omega (arith, within, size))) ∙ get_or_from_slice_get (take n xs) i x x is),
    )

pub slice_get-dropped : {A : Type 0} (n : ℕ) (xs : List A) (i : ℕ) (x : A) → slice_get (drop n xs) i ≡ Some x →
    slice_get xs (n + i) ≡ Some x
slice_get-dropped n xs i x is =
    let within = slice_get_within (drop n xs) i x is in
    let size = length-drop n xs in
    slice_get-get_or xs (n + i) x (omega (arith, within, size))
    ∙ ap Some (sym (get_or-drop n xs i x) ∙ get_or_from_slice_get (drop n xs) i x x is)

pub together-take : {A B : Type 0} (R : A → B → Type 0) (n : ℕ) (xs : List A) (ys : List B) → GoTogether R xs ys →
    GoTogether R (take n xs) (take n ys)
together-take R n xs ys are = record {
  count =
      let first = length-take n xs in
      let second = length-take n ys in
      let same = are.count in
      omega (arith, first, second, same);
  each = λ i x y is_x is_y. are.each i x y (slice_get-taken n xs i x is_x).1 (slice_get-taken n ys i y is_y).1;
}

pub together-drop : {A B : Type 0} (R : A → B → Type 0) (n : ℕ) (xs : List A) (ys : List B) → GoTogether R xs ys →
    GoTogether R (drop n xs) (drop n ys)
together-drop R n xs ys are = record {
  count =
      let first = length-drop n xs in
      let second = length-drop n ys in
      let same = are.count in
      omega (arith, first, second, same);
  each = λ i x y is_x is_y. are.each (n + i) x y (slice_get-dropped n xs i x is_x) (slice_get-dropped n ys i y is_y);
}

-- one more of each
pub together-pushed : {A B : Type 0} (R : A → B → Type 0) (xs : List A) (ys : List B) (x : A) (y : B) → GoTogether R xs ys → R x y →
    GoTogether R (xs ++ x ∷ []) (ys ++ y ∷ [])
together-pushed {A} {B} R xs ys x y are here = record {
  count =
      let first = length-append xs (x ∷ []) in
      let second = length-append ys (y ∷ []) in
      let same = are.count in
      omega (arith, first, second, same);
  each = each-pushed (λ i a b. R a b) (xs ++ x ∷ []) ys (length xs) y are.count before last;
}
  where
    before : (i : ℕ) (a : A) (b : B) → slice_get (xs ++ x ∷ []) i ≡ Some a → slice_get ys i ≡ Some b → R a b
    before i a b is_a is_b =
        let within = slice_get_within ys i b is_b in
        let same = are.count in
        are.each i a b
        (slice_get-get_or xs i a (omega (arith, within, same))
        ∙ ap Some (sym (get_or_append_left xs (x ∷ []) a i (omega (arith, within, same)))
        ∙ get_or_from_slice_get (xs ++ x ∷ []) i a a is_a)) is_b

    last : (a : A) → slice_get (xs ++ x ∷ []) (length xs) ≡ Some a → R a y
    last a is =
        let none : length xs - length xs ≡ 0 = omega arith in
        let same : x ≡ a =
        sym (get_or-append_right xs (x ∷ []) (length xs) (length xs) a refl (omega arith)
        ∙ ap (λ (k : ℕ). get_or (x ∷ []) k a) none) ∙ get_or_from_slice_get (xs ++ x ∷ []) (length xs) a a is in
        subst (λ (b : A). R b y) same here

-- what holds of related elements
pub together-also : {A B : Type 0} (R S : A → B → Type 0) (xs : List A) (ys : List B) → ((x : A) (y : B) → R x y → S x y) →
    GoTogether R xs ys → GoTogether S xs ys
together-also R S xs ys gives are = record {
  count = are.count;
  each = λ i x y is_x is_y. gives x y (are.each i x y is_x is_y);
}

-- lists that are related by one between them
pub together-by : {A B C : Type 0} (R : ℕ → A → B → Type 0) (S : B → C → Type 0) (Q : A → C → Type 0) (xs : List A)
    (ys : List B) (zs : List C) → length ys ≡ length xs →
    ((i : ℕ) (x : A) (y : B) → slice_get xs i ≡ Some x → slice_get ys i ≡ Some y → R i x y) → GoTogether S ys zs →
    ((i : ℕ) (x : A) (y : B) (z : C) → slice_get xs i ≡ Some x → R i x y → S y z → Q x z) → GoTogether Q xs zs
together-by {A} {B} {C} R S Q xs ys zs count first second gives = record {
  count = second.count ∙ count;
  each = each;
}
  where
    each : (i : ℕ) (x : A) (z : C) → slice_get xs i ≡ Some x → slice_get zs i ≡ Some z → Q x z
    each i x z is_x is_z =
        let within = slice_get_within xs i x is_x in
        let (y, is_y) = slice_get_found ys i (omega (arith, within, count)) in
        gives i x y z is_x (first i x y is_x is_y) (second.each i y z is_y is_z)
