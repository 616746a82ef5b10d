-- The bytes of the tables of names, by what each step adds.
use Rattle.std.proofs.Common.{◌≡◌, ◌∙◌, sym, ap, subst, refl, ℕ, zero, suc, ◌+◌, List, [], ◌∷◌, ◌++◌, Bool, true, false}
use Rattle.std.proofs.Common.{Option, Some, None, String, Vec, append-nil, append_assoc, length, take, slice_get, arith}
use Rattle.std.specs.Prelude.{IfSome, codes, flat_map, is_some, option_and_then, unwrap_or, ◌==◌, ◌≢◌, if◌then◌else◌}
use Rattle.std.specs.Option.{option_map_or}
use Rattle.std.proofs.lemmas.Bool.{eqb-false, eqb-true}
use Rattle.rv_code.specs.declared.placed.Func.{Func}
use Rattle.elf_image.specs.declared.elf.Elf.{Elf}
use Rattle.elf_image.specs.declared.section.Section.{Section}
use Rattle.elf_image.specs.declared.section.TheConstants.{SHT_SYMTAB}
use Rattle.elf_image.specs.file.Header.{e_shstrndx}
use Rattle.elf_plan.specs.declared.area.Area.{Area}
use Rattle.elf_plan.specs.declared.name_tables.OwnSections.{OwnSections}
use Rattle.elf_plan.specs.Contents.{is_at}
use Rattle.elf_plan.specs.KnownSections.{IsOwnOf}
use Rattle.elf_plan.specs.NameTables.{among, place_of_names, place_of_symbols, symbols_section}
use Rattle.elf_plan.specs.NewNames.{added_names, cold_names, ended, ended_if, old_ended, table_bytes}
use Rattle.elf_plan.specs.NewSections.{adds_ranges}
use Rattle.elf_plan.proofs.Positions.{find-no_position}
use Rattle.elf_make.specs.declared.headers.NewContents.{NewContents}
use Rattle.elf_make.specs.MadeNames.{HasNames, first_added, second_added, second_table}

-- the names of one section more
more-taken : (f : Section → List ℕ) (xs : List Section) (i : ℕ) →
    flat_map f (take i xs) ++ option_map_or f (slice_get xs i) [] ≡ flat_map f (take (suc i) xs)
more-taken f [] zero = refl
more-taken f [] (suc i) = refl
more-taken f (x ∷ xs) zero = sym (append-nil (f x))
more-taken f (x ∷ xs) (suc i) =
    append_assoc (f x) (flat_map f (take i xs)) (option_map_or f (slice_get xs i) []) ∙ ap (λ (ys : List ℕ). f x ++ ys)
    (more-taken f xs i)

pub one-more : (old : List ℕ) (f : Section → List ℕ) (xs : List Section) (i : ℕ) →
    (old ++ flat_map f (take i xs)) ++ option_map_or f (slice_get xs i) [] ≡ old ++ flat_map f (take (i + 1) xs)
one-more old f xs i =
    let next : suc i ≡ i + 1 = omega arith in
    append_assoc old (flat_map f (take i xs)) (option_map_or f (slice_get xs i) [])
    ∙ ap (λ (ys : List ℕ). old ++ ys) (more-taken f xs i ∙ ap (λ (k : ℕ). flat_map f (take k xs)) next)

-- those of the sections in the new area
pub area-names : (old text frames index : List ℕ) (area : Area) → text ≡ old ++ ended (codes ".text") →
    frames ≡ text ++ ended_if (is_some area.frames) (codes ".eh_frame") →
    index ≡ frames ++ ended_if (is_some area.index) (codes ".eh_frame_hdr") → index ≡ old ++ added_names area false
area-names old text frames index area is_text is_frames is_index =
    let a : List ℕ = ended (codes ".text") in
    let b : List ℕ = ended_if (is_some area.frames) (codes ".eh_frame") in
    let c : List ℕ = ended_if (is_some area.index) (codes ".eh_frame_hdr") in
    is_index ∙ ap (λ (xs : List ℕ). xs ++ c) (is_frames ∙ ap (λ (xs : List ℕ). xs ++ b) is_text)
    ∙ append_assoc (old ++ a) b c ∙ append_assoc old a (b ++ c)
    ∙ ap (λ (xs : List ℕ). old ++ (a ++ (b ++ xs))) (sym (append-nil c))

-- and that of the table of ranges
pub with_ranges : (old : List ℕ) (area : Area) →
    (old ++ added_names area false) ++ ended (codes ".debug_rnglists") ≡ old ++ added_names area true
with_ranges old area =
    let a : List ℕ = ended (codes ".text") in
    let b : List ℕ = ended_if (is_some area.frames) (codes ".eh_frame") in
    let c : List ℕ = ended_if (is_some area.index) (codes ".eh_frame_hdr") in
    let d : List ℕ = ended (codes ".debug_rnglists") in
    append_assoc old (a ++ (b ++ (c ++ []))) d
    ∙ ap (λ (xs : List ℕ). old ++ xs)
    (append_assoc a (b ++ (c ++ [])) d
    ∙ ap (λ (xs : List ℕ). a ++ xs) (append_assoc b (c ++ []) d
    ∙ ap (λ (xs : List ℕ). b ++ xs) (ap (λ (xs : List ℕ). xs ++ d) (append-nil c))))

-- Without a symbol table there is no place for names of symbols.
pub no_names : (elf : Elf) → place_of_symbols elf ≡ None → place_of_names elf ≡ None
no_names elf none = cases (length elf.symbols.items == 0)
  where
    cases : (b : Bool) →
        (if b then None else option_and_then (λ s. among elf.sections.items s.link) (symbols_section elf)) ≡ None
    cases true = refl
    cases false = ap (λ (o : Option Section). option_and_then (λ s. among elf.sections.items s.link) o)
        (find-no_position (λ s. s.kind == SHT_SYMTAB) elf.sections.items none)

-- Both tables after the names of cold parts.
module _ (bytes : ℕ → List ℕ) (at : ℕ) (names t2 t3 texts : List ℕ) (second last : Option (List ℕ))
    (symbols : texts ≡ unwrap_or last t3) where
  abbrev Are : Option ℕ → Type 0
  Are place = (t3 ≡ t2 ++ (if is_at at place then names else [])) × IfSome place (λ i. i ≢ at → texts ≡ bytes i ++ names)
      × IfSome place (λ i. i ≡ at → texts ≡ t3)

  with_cold : (place : Option ℕ) → second ≡ option_and_then (λ i. if i == at then None else Some (bytes i)) place →
      t3 ≡ t2 ++ first_added place second names → last ≡ second_added place second names → Are place
  with_cold None began more further = (more, tt, tt)
  with_cold (Some i) began more further = cases (i == at) refl
    where
      cases : (b : Bool) → (i == at) ≡ b → Are (Some i)
      cases true e =
          let none : second ≡ None = began ∙ ap (λ (c : Bool). if c then None else Some (bytes i)) e in (
            more ∙ ap (λ (o : Option (List ℕ)). t2 ++ first_added (Some i) o names) none
                ∙ ap (λ (c : Bool). t2 ++ (if c then names else [])) (sym e),
            λ other. absurd (other (eqb-true i at e)),
            λ _. symbols ∙ ap (λ (o : Option (List ℕ)). unwrap_or o t3)
                (further ∙ ap (λ (o : Option (List ℕ)). second_added (Some i) o names) none),
          )
      cases false e =
          let some : second ≡ Some (bytes i) = began ∙ ap (λ (c : Bool). if c then None else Some (bytes i)) e in (
            more ∙ ap (λ (o : Option (List ℕ)). t2 ++ first_added (Some i) o names) some
                ∙ ap (λ (c : Bool). t2 ++ (if c then names else [])) (sym e),
            λ _. symbols ∙ ap (λ (o : Option (List ℕ)). unwrap_or o t3)
                (further ∙ ap (λ (o : Option (List ℕ)). second_added (Some i) o names) some),
            λ same. absurd (eqb-false i at e same),
          )

-- and after all steps
pub names-made : {Y Z : Type 0} (elf : Elf) (tables : List (String Y × Vec ℕ Z)) (area : Area) (funcs : List Func)
    (cold : List ℕ) (own : OwnSections) (second last : Option (List ℕ)) (t0 t1 t2 t3 texts : List ℕ) (new : NewContents) →
    IsOwnOf elf own → t0 ≡ table_bytes elf own.section_names → second ≡ second_table elf own →
    t1 ≡ t0 ++ flat_map old_ended elf.sections.items → t2 ≡ t1 ++ added_names area (adds_ranges elf.sections.items tables) →
    t3 ≡ t2 ++ first_added own.symbol_names second (cold_names elf.symbols.items funcs cold) →
    last ≡ second_added own.symbol_names second (cold_names elf.symbols.items funcs cold) → texts ≡ unwrap_or last t3 →
    new.section_names.now ≡ t3 → new.symbol_names.now ≡ texts → HasNames elf tables area funcs cold new
names-made elf tables area funcs cold own second last t0 t1 t2 t3 texts new is first began renamed added more further symbols
    is_sections is_symbols =
    let at : ℕ = e_shstrndx elf.file.now in
    let place : Option ℕ = place_of_names elf in
    let names : List ℕ = cold_names elf.symbols.items funcs cold in
    let olds : List ℕ = flat_map old_ended elf.sections.items in
    let news : List ℕ = added_names area (adds_ranges elf.sections.items tables) in
    let colds : List ℕ = if is_at at place then names else [] in
    let old : List ℕ = table_bytes elf at in
    let all = with_cold (table_bytes elf) at names t2 t3 texts second last symbols place
    (began
    ∙ ap (λ (s : ℕ). option_and_then (λ i. if i == s then None else Some (table_bytes elf i)) own.symbol_names) is.names
    ∙ ap (λ (o : Option ℕ). option_and_then (λ i. if i == at then None else Some (table_bytes elf i)) o) is.symbol_names)
    (more ∙ ap (λ (o : Option ℕ). t2 ++ first_added o second names) is.symbol_names)
    (further ∙ ap (λ (o : Option ℕ). second_added o second names) is.symbol_names) in
    record {
      sections =
          is_sections ∙ all.0
          ∙ ap (λ (xs : List ℕ). xs ++ colds)
          (added ∙ ap (λ (xs : List ℕ). xs ++ news)
          (renamed ∙ ap (λ (xs : List ℕ). xs ++ olds) (first ∙ ap (table_bytes elf) is.names)))
          ∙ append_assoc (old ++ olds) news colds ∙ append_assoc old olds (news ++ colds);
      symbols = subst (λ (ts : List ℕ). IfSome place (λ i. i ≢ at → ts ≡ table_bytes elf i ++ names)) (sym is_symbols) all.1;
      shared = subst (λ (ts : List ℕ). IfSome place (λ i. i ≡ at → ts ≡ new.section_names.now)) (sym is_symbols)
          (subst (λ (ts : List ℕ). IfSome place (λ i. i ≡ at → texts ≡ ts)) (sym is_sections) all.2);
    }
