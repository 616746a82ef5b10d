-- The position of a section's contents, from the known facts on a file's sections.
use Rattle.std.proofs.Common.{◌≡◌, refl, ap, subst, ◌∙◌, cond, ℕ, ◌+◌, suc, Bool, not, Option, Some, None, List, [], ◌∷◌, length, String}
use Rattle.std.proofs.Common.{Vec}
use Rattle.std.specs.Prelude.{nat_lt, map, position, string_bytes}
use Rattle.std.specs.List.{position_or_len}
use Rattle.elf_image.specs.declared.elf.Elf.{Elf}
use Rattle.elf_image.specs.declared.section.Section.{Section}
use Rattle.elf_image.specs.declared.segment.Segment.{Segment}
use Rattle.elf_image.specs.file.Header.{e_shstrndx}
use Rattle.elf_plan.specs.declared.area.Area.{Area}
use Rattle.elf_plan.specs.declared.area.Shift.{Shift}
use Rattle.elf_plan.specs.declared.kept_bytes.KeptBytes.{KeptBytes}
use Rattle.elf_plan.specs.declared.name_tables.OwnSections.{OwnSections}
use Rattle.elf_plan.specs.declared.sections.Contents.{Contents}
use Rattle.elf_plan.specs.Contents.{contents_by, contents_of, is_at, own_contents, place_replaced, table_for}
use Rattle.elf_plan.specs.KeptBytes.{Keeps}
use Rattle.elf_plan.specs.FileLayout.{PassesAt, is_written}
use Rattle.elf_plan.specs.Homes.{AreContents}
use Rattle.elf_plan.specs.KnownSections.{IsOwnOf}
use Rattle.elf_plan.specs.Plans.{Arranges}
use Rattle.elf_plan.proofs.SectionOrder.{lists-same}
use Rattle.rv_code.specs.layout.Lists.{ListsPairs}
use Rattle.elf_plan.specs.NameTables.{place_of_symbols, place_of_names}

position_or_len-map : {A B : Type 0} (p : B → Bool) (f : A → B) (xs : List A) →
    position_or_len p (map f xs) ≡ position_or_len (λ x. p (f x)) xs
position_or_len-map p f [] = refl
position_or_len-map p f (x ∷ xs) = ap (λ (n : ℕ). step (not (p (f x))) n) (position_or_len-map p f xs)
  where
    step : Bool → ℕ → ℕ
    step b n = cond b (1 + n) 0

pub length-map_same : {A B : Type 0} (f : A → B) (xs : List A) → length (map f xs) ≡ length xs
length-map_same f [] = refl
length-map_same f (x ∷ xs) = ap suc (length-map_same f xs)

pub position-map : {A B : Type 0} (p : B → Bool) (f : A → B) (xs : List A) → position p (map f xs) ≡ position (λ x. p (f x)) xs
position-map p f xs =
    ap (λ (n : ℕ). cond (nat_lt n (length (map f xs))) (Some n) None) (position_or_len-map p f xs)
    ∙ ap (λ (l : ℕ). cond (nat_lt (position_or_len (λ x. p (f x)) xs) l) (Some (position_or_len (λ x. p (f x)) xs)) None)
    (length-map_same f xs)

pub contents-known : {Y Z : Type 0} (elf : Elf) (tables : List (String Y × Vec ℕ Z)) (area : Area) (shift : Shift)
    (own : OwnSections) (replaced : List (Option ℕ)) (index : ℕ) (s : Section) → IsOwnOf elf own →
    replaced ≡ map (λ t. place_replaced elf.sections.items (string_bytes t.0)) tables →
    contents_by own.section_names own.symbols own.symbol_names (position (is_at index) replaced)
    (own_contents elf.segments.items area shift s) index s ≡ contents_of elf tables area shift index s
contents-known elf tables area shift own replaced index s own_is replaced_is =
    let here = own_contents elf.segments.items area shift s in
    let given = position (is_at index) replaced in
    let same : given ≡ table_for tables elf.sections.items index =
    ap (position (is_at index)) replaced_is
    ∙ position-map (is_at index) (λ t. place_replaced elf.sections.items (string_bytes t.0)) tables in
    ap (λ (n : ℕ). contents_by n own.symbols own.symbol_names given here index s) own_is.names
    ∙ ap (λ (o : Option ℕ). contents_by (e_shstrndx elf.file.now) o own.symbol_names given here index s) own_is.symbols
    ∙ ap (λ (o : Option ℕ). contents_by (e_shstrndx elf.file.now)
    (place_of_symbols elf) o given here index s) own_is.symbol_names
    ∙ ap (λ (o : Option ℕ). contents_by (e_shstrndx elf.file.now) (place_of_symbols elf) (place_of_names elf) o here index s) same

-- The position of a section's contents, from these facts.
abbrev contents_with : OwnSections → List (Option ℕ) → List Segment → Area → Shift → ℕ → Section → Contents
contents_with own replaced segments area shift i s =
    contents_by own.section_names own.symbols own.symbol_names (position (is_at i) replaced)
    (own_contents segments area shift s) i s

-- The results for lists that are those of the file.
pub arranges : {Y Z : Type 0} (elf : Elf) (tables : List (String Y × Vec ℕ Z)) (area : Area) (shift : Shift)
    (own : OwnSections) (sections : List Section) (segments : List Segment) (replaced : List (Option ℕ)) (kept : KeptBytes)
    (contents : List Contents) (order : List (ℕ × ℕ)) → IsOwnOf elf own → sections ≡ elf.sections.items →
    segments ≡ elf.segments.items → replaced ≡ map (λ t. place_replaced sections (string_bytes t.0)) tables →
    Keeps segments area shift kept →
    ((ps : List Segment) (a : Area) (s : Shift) → Keeps ps a s kept →
    AreContents (contents_with own replaced ps a s) elf.sections.items contents) →
    ((ps : List Segment) (a : Area) (s : Shift) → Keeps ps a s kept →
    ListsPairs (PassesAt elf.sections.items (λ i x. is_written (contents_with own replaced ps a s i x))) order) →
    Arranges elf tables area shift contents order
arranges elf tables area shift own sections segments replaced kept contents order own_is same_sections same_segments replaced_is
    keeps are lists =
    let keep : Keeps elf.segments.items area shift kept =
    subst (λ (ps : List Segment). Keeps ps area shift kept) same_segments keeps in
    let given : replaced ≡ map (λ t. place_replaced elf.sections.items (string_bytes t.0)) tables =
    replaced_is ∙ ap (λ (xs : List Section). map (λ t. place_replaced xs (string_bytes t.0)) tables) same_sections in
    let found = are elf.segments.items area shift keep in
    let known = λ (i : ℕ) (s : Section). contents-known elf tables area shift own replaced i s own_is given in
    record {
      contents_are = record {
        count = found.count;
        each = λ i s c is_s is_c. found.each i s c is_s is_c ∙ known i s;
      };
      order_is = lists-same elf.sections.items
          (λ i s. is_written (contents_with own replaced elf.segments.items area shift i s))
          (λ i s. is_written (contents_of elf tables area shift i s)) order (λ i s. ap is_written (known i s))
          (lists elf.segments.items area shift keep);
    }
