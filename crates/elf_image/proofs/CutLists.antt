-- The cuts of a file as a list, symbol by symbol and section by section.
use Rattle.std.proofs.Common.{◌≡◌, sym, subst, refl, ℕ, suc, zero, ◌+◌, Bool, true, false, if◌then◌else◌, IsTrue, rules}
use Rattle.std.proofs.Common.{List, [], ◌∷◌, ◌++◌, arith, ◌⊎◌, inl, inr, ⊎_elim}
use Rattle.std.specs.List.{Contains, Any, flat_map}
use Rattle.std.proofs.lemmas.Bool.{ltb-true, ltb-false}
use Rattle.std.proofs.lemmas.List.Elements.{Contains-append_left, Contains-append_right, Contains-append_cases}
use Rattle.elf_image.specs.declared.section.Section.{Section}
use Rattle.elf_image.specs.declared.symbol.Symbol.{Symbol}
use Rattle.elf_image.specs.file.Cuts.{names_function, IsBound, IsCutAddress}
use Rattle.elf_image.specs.file.Sections.{holds_code}
use Rattle.elf_image.specs.file.CutLists.{bounds, bounds_of_symbol, bounds_of_section, symbol_bounds, section_bounds}
use Rattle.rb_bytes.proofs.Members.{Contains-cons_cases}

-- Members of a list of lists.
Any-cons : {X : Type 0} (P : X → Type 0) (x : X) (xs : List X) → P x ⊎ Any P xs → Any P (x ∷ xs)
Any-cons P x xs (inl here) = (0, x, omega arith, refl, here)
Any-cons P x xs (inr (k, y, within, is, holds)) = (suc k, y, omega arith, is, holds)

Any-cons_cases : {X : Type 0} (P : X → Type 0) (x : X) (xs : List X) → Any P (x ∷ xs) → P x ⊎ Any P xs
Any-cons_cases P x xs (zero, y, within, is, holds) = inl (subst P (sym is) holds)
Any-cons_cases P x xs (suc k, y, within, is, holds) = inr (k, y, omega arith, is, holds)

Contains-flat_map : {X A : Type 0} (f : X → List A) (P : A → X → Type 0) → ((x : X) (a : A) → Contains (f x) a → P a x) →
    (xs : List X) (a : A) → Contains (flat_map f xs) a → Any (P a) xs
Contains-flat_map f P says [] a (k, within, is) = absurd (omega arith)
Contains-flat_map f P says (x ∷ xs) a is_in =
    Any-cons (P a) x xs
    (⊎_elim (λ here. inl (says x a here)) (λ later. inr (Contains-flat_map f P says xs a later))
    (Contains-append_cases (f x) (flat_map f xs) a is_in))

Contains-flat_map_from : {X A : Type 0} (f : X → List A) (P : A → X → Type 0) → ((x : X) (a : A) → P a x → Contains (f x) a) →
    (xs : List X) (a : A) → Any (P a) xs → Contains (flat_map f xs) a
Contains-flat_map_from f P says [] a (k, x, within, is, holds) = absurd (omega arith)
Contains-flat_map_from f P says (x ∷ xs) a is_in =
    ⊎_elim
    (λ here. Contains-append_left (f x) (flat_map f xs) a (says x a here))
    (λ later. Contains-append_right (f x) (flat_map f xs) a (Contains-flat_map_from f P says xs a later))
    (Any-cons_cases (P a) x xs is_in)

-- The bounds of a range.
IsBound-from_bounds : (start size a : ℕ) → Contains (bounds start size) a → IsBound start size a
IsBound-from_bounds start size a = search (rules, ltb-true, Contains-cons_cases)

bounds-from_IsBound : (start size a : ℕ) → IsBound start size a → Contains (bounds start size) a
bounds-from_IsBound start size a = search (rules, ltb-false)

-- The bounds of chosen items.
chosen-bounds : (chosen : Bool) (start size a : ℕ) → Contains (if chosen then bounds start size else []) a → IsTrue chosen
    × IsBound start size a
chosen-bounds true start size a is_in = (refl, IsBound-from_bounds start size a is_in)
chosen-bounds false start size a (k, within, is) = absurd (omega arith)

chosen-bounds_from : (chosen : Bool) (start size a : ℕ) → IsTrue chosen × IsBound start size a →
    Contains (if chosen then bounds start size else []) a
chosen-bounds_from true start size a is = bounds-from_IsBound start size a is.1
chosen-bounds_from false start size a is = absurd (let no : false ≡ true = is.0 in cc)

-- The bounds are exactly the cuts.
pub IsCutAddress-from_lists : (symbols : List Symbol) (sections : List Section) (a : ℕ) →
    Contains (symbol_bounds symbols ++ section_bounds sections) a → IsCutAddress symbols sections a
IsCutAddress-from_lists symbols sections a is_in =
    ⊎_elim
    (λ of_symbol. inl
    (Contains-flat_map bounds_of_symbol (λ x symbol. IsTrue (names_function symbol) × IsBound symbol.value symbol.size x)
    (λ symbol x. chosen-bounds (names_function symbol) symbol.value symbol.size x) symbols a of_symbol))
    (λ of_section. inr
    (Contains-flat_map bounds_of_section (λ x section. IsTrue (holds_code section.flags) × IsBound section.addr section.size x)
    (λ section x. chosen-bounds (holds_code section.flags) section.addr section.size x) sections a of_section))
    (Contains-append_cases (symbol_bounds symbols) (section_bounds sections) a is_in)

pub lists-from_IsCutAddress : (symbols : List Symbol) (sections : List Section) (a : ℕ) → IsCutAddress symbols sections a →
    Contains (symbol_bounds symbols ++ section_bounds sections) a
lists-from_IsCutAddress symbols sections a is =
    ⊎_elim
    (λ of_symbol. Contains-append_left (symbol_bounds symbols) (section_bounds sections) a
    (Contains-flat_map_from bounds_of_symbol (λ x symbol. IsTrue (names_function symbol) × IsBound symbol.value symbol.size x)
    (λ symbol x. chosen-bounds_from (names_function symbol) symbol.value symbol.size x) symbols a of_symbol))
    (λ of_section. Contains-append_right (symbol_bounds symbols) (section_bounds sections) a
    (Contains-flat_map_from bounds_of_section
    (λ x section. IsTrue (holds_code section.flags) × IsBound section.addr section.size x)
    (λ section x. chosen-bounds_from (holds_code section.flags) section.addr section.size x) sections a of_section))
    is
