-- The relocations of two readings. Each has a twin, which only differs in the memory address of its section's name.
use Rattle.std.proofs.Common.{◌≡◌, ◌∙◌, sym, ap, subst, refl, ℕ, zero, suc, ◌+◌, Bool, true, false, cond, List, [], ◌∷◌, ◌++◌, arith}
use Rattle.std.proofs.Common.{Option, Some, None, map}
use Rattle.std.specs.Prelude.{Contains, option_map, count_by, if◌then◌else◌, ◌==◌, ◌&&◌, not, codes, flat_map, ◌/◌}
use Rattle.std.specs.Option.{option_map_or}
use Rattle.std.specs.List.{slice_get, fold}
use Rattle.std.proofs.lemmas.List.{map-append}
use Rattle.std.proofs.lemmas.Option.{slice_get-map}
use Rattle.std.proofs.lemmas.Grind.{common_steps}
use Rattle.elf_image.specs.declared.elf.Elf.{Elf}
use Rattle.elf_image.specs.declared.section.Section.{Section}
use Rattle.elf_image.specs.declared.symbol.Symbol.{Symbol}
use Rattle.elf_image.specs.declared.relocation.TheConstants.{SHT_RELA, RELA_SIZE}
use Rattle.elf_image.specs.file.SectionNames.{is_loaded}
use Rattle.elf_code.specs.Relocations.{Relocation, relocations, entries_from, relocation_at, is_named, symbol_value}
use Rattle.elf_readings.proofs.Alike.{bare, bare_symbol, Alike, contains_alike}

abbrev pub with_section : Relocation → Section → Relocation
with_section r s = record r { section = s }

abbrev pub bare_relocation : Relocation → Relocation
bare_relocation r = with_section r (bare r.section)

bare_entries : (file : List ℕ) (s : Section) (offset n : ℕ) →
    map bare_relocation (entries_from file s offset n) ≡ entries_from file (bare s) offset n
unfolding entries_from
bare_entries file s offset zero = refl
bare_entries file s offset (suc n) = grind (arith, common_steps, bare, bare_entries file s (offset + RELA_SIZE) n)

-- The entries for a section, from the bytes of the file.
abbrev for_section : List ℕ → Section → Section → List Relocation
for_section file table s =
    if is_loaded s && not (is_named s (codes ".eh_frame")) then entries_from file s table.offset (table.size / RELA_SIZE) else []

bare_for : (file : List ℕ) (table s : Section) → map bare_relocation (for_section file table s) ≡ for_section file table (bare s)
bare_for file table s = grind (arith, common_steps, bare, bare_entries)

-- The entries of a table, from its section header.
abbrev of_table : List ℕ → List Section → Section → List Relocation
of_table file sections table =
    if table.kind == SHT_RELA then option_map_or (for_section file table) (slice_get sections table.info) [] else []

bare_table : (file : List ℕ) (sections : List Section) (table : Section) →
    map bare_relocation (of_table file sections table) ≡ of_table file (map bare sections) table
bare_table file sections table = grind (arith, common_steps, bare, bare_for, slice_get-map)

bare_flat : (file : List ℕ) (sections tables : List Section) → map bare_relocation (flat_map (of_table file sections) tables)
    ≡ flat_map (of_table file (map bare sections)) (map bare tables)
bare_flat file sections [] = refl
bare_flat file sections (t ∷ ts) = grind (arith, common_steps, map-append, bare_table, bare, bare_flat file sections ts)

pub relocations_alike : (e e' : Elf) → Alike e e' → map bare_relocation (relocations e) ≡ map bare_relocation (relocations e')
relocations_alike e e' a =
    bare_flat e.file.now e.sections.items e.sections.items
    ∙ ap (λ file. flat_map (of_table file (map bare e.sections.items)) (map bare e.sections.items)) a.file
    ∙ ap (λ sections. flat_map (of_table e'.file.now sections) sections) a.sections
    ∙ sym (bare_flat e'.file.now e'.sections.items e'.sections.items)

-- Twins.

-- A relocation counts in one reading, and in the other with another section value.
pub record Twin (e e' : Elf) (r : Relocation) (s : Section) : Type 0 where
  pub same : bare r.section ≡ bare s
  pub here : Contains (relocations e) r
  pub there : Contains (relocations e') (with_section r s)

abbrev pub flip : (e e' : Elf) (r : Relocation) (s : Section) → Twin e e' r s → Twin e' e (with_section r s) r.section
flip e e' r s t = record { same = sym t.same; here = t.there; there = t.here }

pub twin : (e e' : Elf) → Alike e e' → (r : Relocation) → Contains (relocations e) r → (s : Section) × Twin e e' r s
twin e e' a r counts =
    let (q, q_counts, same) =
    contains_alike bare_relocation (relocations e) (relocations e') (relocations_alike e e' a) r counts in
    let is : with_section r q.section ≡ q = ap (λ (x : Relocation). with_section x q.section) same in (
      q.section,
      record {
        same = ap (λ (x : Relocation). x.section) same;
        here = counts;
        there = subst (Contains (relocations e')) (sym is) q_counts;
      },
    )

-- Counts of relocations by tests that don't use the section's name.
abbrev counted : {X : Type 0} → (X → Bool) → ℕ → X → ℕ
counted test n x = n + cond (test x) 1 0

fold_map : {X : Type 0} (test : X → Bool) (f : X → X) → ((x : X) → test (f x) ≡ test x) → (n : ℕ) (xs : List X) →
    fold (counted test) n (map f xs) ≡ fold (counted test) n xs
fold_map test f same n [] = refl
fold_map test f same n (x ∷ xs) = grind (arith, common_steps, fold_map test f same (n + cond (test x) 1 0) xs)

count_map : {X : Type 0} (test : X → Bool) (f : X → X) → ((x : X) → test (f x) ≡ test x) → (xs : List X) →
    count_by test (map f xs) ≡ count_by test xs
count_map test f same xs = fold_map test f same 0 xs

pub count_alike : (e e' : Elf) → Alike e e' → (test : Relocation → Bool) →
    ((r : Relocation) → test (bare_relocation r) ≡ test r) → count_by test (relocations e) ≡ count_by test (relocations e')
count_alike e e' a test same =
    sym (count_map test bare_relocation same (relocations e))
    ∙ ap (count_by test) (relocations_alike e e' a)
    ∙ count_map test bare_relocation same (relocations e')

-- The value of the symbol.
pub symbol_alike : (e e' : Elf) → Alike e e' → (r : Relocation) → symbol_value e r ≡ symbol_value e' r
symbol_alike e e' a r = ap (λ (n : ℕ). if r.symbol == 0 then 0 else n) (value e.symbols.items
    ∙ ap (λ o. option_map_or (λ (s : Symbol). s.value) (slice_get o r.symbol) 0) a.symbols ∙ sym (value e'.symbols.items))
  where
    bare_value : (o : Option Symbol) →
        option_map_or (λ s. s.value) o 0 ≡ option_map_or (λ s. s.value) (option_map bare_symbol o) 0
    bare_value None = refl
    bare_value (Some s) = refl

    value : (symbols : List Symbol) → option_map_or (λ s. s.value) (slice_get symbols r.symbol) 0
        ≡ option_map_or (λ s. s.value) (slice_get (map bare_symbol symbols) r.symbol) 0
    value symbols = bare_value (slice_get symbols r.symbol)
        ∙ ap (λ o. option_map_or (λ (s : Symbol). s.value) o 0) (sym (slice_get-map bare_symbol symbols r.symbol))
