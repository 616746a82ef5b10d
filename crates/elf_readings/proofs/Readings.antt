-- Two readings of one file agree, so statements on its code hold for either.
use Rattle.std.proofs.Common.{◌≡◌, ◌∙◌, sym, ap, refl, ℕ, suc, List, [], ◌∷◌, Option, Some, None, length, map, arith}
use Rattle.std.specs.List.{slice_get}
use Rattle.std.proofs.lemmas.List.{length-map, map-id}
use Rattle.std.proofs.lemmas.Grind.{common_steps}
use Rattle.rb_bytes.specs.declared.fault.Fault.{Fault}
use Rattle.rv_code.specs.declared.cell.CodeCell.{CodeCell}
use Rattle.rv_code.specs.declared.placed.Func.{Func}
use Rattle.rv_code.specs.declared.placed.Role.{Role}
use Rattle.elf_image.specs.declared.elf.Elf.{Elf}
use Rattle.elf_image.specs.declared.section.Section.{Section}
use Rattle.elf_image.specs.declared.symbol.Symbol.{Symbol}
use Rattle.elf_image.specs.declared.section.SectionHeader.{SectionHeader}
use Rattle.elf_image.specs.file.Symbols.{symbol_table}
use Rattle.elf_image.specs.file.ParsedFile.{IsSectionAt, IsSymbolAt, AreSymbolsOf, IsElfOf}
use Rattle.elf_code.specs.Functions.{AreFunctions}
use Rattle.elf_code.specs.FileCode.{AreStarts, AreRoles, AreCells}
use Rattle.elf_code.specs.CodeFaults.{HasCodeFault}
use Rattle.rb_bytes.specs.FirstFault.{IsFree, IsAnswered}
use Rattle.elf_readings.specs.Laws.{HaveSameCode, ReadingLaw, bounds}
use Rattle.elf_readings.proofs.Alike.{bare, bare_symbol, Alike, back}
use Rattle.elf_readings.proofs.Parts.{start_of}
use Rattle.elf_readings.proofs.Roles.{role_of}
use Rattle.elf_readings.proofs.Cells.{cell_of}
use Rattle.elf_readings.proofs.Functions.{code_address_of, function_part_of, functions_of}
use Rattle.elf_readings.proofs.OneList.{one_list}
use Rattle.elf_readings.proofs.Faults.{code_fault_of}

-- Lists of the same length whose elements agree.
map_alike : {X Y : Type 0} (f : X → Y) (xs ys : List X) → length xs ≡ length ys →
    ((i : ℕ) (x y : X) → slice_get xs i ≡ Some x → slice_get ys i ≡ Some y → f x ≡ f y) → map f xs ≡ map f ys
map_alike f [] [] size same = refl
map_alike f [] (y ∷ ys) size same = absurd (omega (arith, size))
map_alike f (x ∷ xs) [] size same = absurd (omega (arith, size))
map_alike f (x ∷ xs) (y ∷ ys) size same =
    ap (λ first. first ∷ map f xs) (same 0 x y refl refl)
    ∙ ap (λ rest. f y ∷ rest) (map_alike f xs ys (omega (arith, size)) (λ i p q is is'. same (suc i) p q is is'))

same_section : (file : List ℕ) (i : ℕ) (s t : Section) → IsSectionAt file i s → IsSectionAt file i t → bare s ≡ bare t
same_section file i s t a b = grind (arith, common_steps)

same_symbol : (file : List ℕ) (table : SectionHeader) (place : ℕ) (s t : Symbol) → IsSymbolAt file table place s →
    IsSymbolAt file table place t → bare_symbol s ≡ bare_symbol t
same_symbol file table place s t a b = grind (arith, common_steps)

same_symbols : (file : List ℕ) (table : Option SectionHeader) (xs ys : List Symbol) → AreSymbolsOf file table xs →
    AreSymbolsOf file table ys → map bare_symbol xs ≡ map bare_symbol ys
same_symbols file None xs ys a b = ap (map bare_symbol) (a ∙ sym b)
same_symbols file (Some table) xs ys a b =
    map_alike bare_symbol xs ys (a.count_is ∙ sym b.count_is)
    (λ i s t at at'. same_symbol file table _ s t (a.each i s at) (b.each i t at'))

pub readings_alike : (file : List ℕ) (e e' : Elf) → IsElfOf file e → IsElfOf file e' → Alike e e'
readings_alike file e e' a b = record {
  file = a.file_is ∙ sym b.file_is;
  flags = a.flags ∙ sym b.flags;
  entry = a.entry ∙ sym b.entry;
  phoff = a.phoff ∙ sym b.phoff;
  segments = a.segments ∙ sym b.segments;
  sections = map_alike bare e.sections.items e'.sections.items (a.sections.count_is ∙ sym b.sections.count_is)
      (λ i s t at at'. same_section file i s t (a.sections.each i s at) (b.sections.each i t at'));
  symbols = same_symbols file (symbol_table file) e.symbols.items e'.symbols.items a.symbols b.symbols;
}

-- What holds for one reading holds for each reading that agrees with it.

module _ (e e' : Elf) (alike : Alike e e') where
  starts_by : (starts : List ℕ) → AreStarts e starts → AreStarts e' starts
  starts_by starts are = record {
    only = λ x is_in. start_of e e' alike x (are.only x is_in);
    each = λ x is. are.each x (start_of e' e (back e e' alike) x is);
    ordered = are.ordered;
  }

  roles_by : (roles : List (ℕ × Role)) → AreRoles e roles → AreRoles e' roles
  roles_by roles are = record {
    only = λ x is_in. role_of e e' alike x.0 x.1 (are.only x is_in);
    each = λ x is. are.each x (role_of e' e (back e e' alike) x.0 x.1 is);
    ordered = are.ordered;
  }

  cells_by : (tabled : List (ℕ × ℕ)) (cells : List CodeCell) → AreCells e tabled cells → AreCells e' tabled cells
  cells_by tabled cells are = record {
    only = λ x is_in. cell_of e e' alike tabled x (are.only x is_in);
    each = λ x is. are.each x (cell_of e' e (back e e' alike) tabled x is);
    ordered = are.ordered;
  }

  free_by : (tabled : List (ℕ × ℕ)) → IsFree (HasCodeFault e tabled) → IsFree (HasCodeFault e' tabled)
  free_by tabled free = λ kind place has. free kind place (code_fault_of e' e (back e e' alike) tabled kind place has)

  answered_by : (tabled : List (ℕ × ℕ)) (fault : Fault) → IsAnswered (HasCodeFault e tabled) fault →
      IsAnswered (HasCodeFault e' tabled) fault
  answered_by tabled fault is = record {
    present = code_fault_of e e' alike tabled fault.kind fault.place is.present;
    first = λ kind below place has. is.first kind below place (code_fault_of e' e (back e e' alike) tabled kind place has);
    lowest = λ kind place number has. is.lowest kind place number (code_fault_of e' e (back e e' alike) tabled kind place has);
    alone = is.alone;
  }

pub same_code : (file : List ℕ) (e e' : Elf) → IsElfOf file e → IsElfOf file e' → (tabled : List (ℕ × ℕ)) →
    HaveSameCode e e' tabled
same_code file e e' reads reads' tabled =
    let to : Alike e e' = readings_alike file e e' reads reads' in
    let from : Alike e' e = back e e' to in
    record {
      faults = λ kind place. (code_fault_of e e' to tabled kind place, code_fault_of e' e from tabled kind place);
      free = (free_by e e' to tabled, free_by e' e from tabled);
      answers = λ fault. (answered_by e e' to tabled fault, answered_by e' e from tabled fault);
      starts = λ starts. (starts_by e e' to starts, starts_by e' e from starts);
      code_addresses = λ a. (code_address_of e e' to tabled a, code_address_of e' e from tabled a);
      functions = λ funcs. (functions_of e e' to tabled funcs, functions_of e' e from tabled funcs);
      roles = λ roles. (roles_by e e' to roles, roles_by e' e from roles);
      cells = λ cells. (cells_by e e' to tabled cells, cells_by e' e from tabled cells);
    }

-- Lists that are made from readings that agree.

module _ (e e' : Elf) (alike : Alike e e') where
  abbrev backward : Alike e' e
  backward = back e e' alike

  one_starts : (xs ys : List ℕ) → AreStarts e xs → AreStarts e' ys → xs ≡ ys
  one_starts xs ys are are' =
      sym (map-id xs)
      ∙ one_list (λ n. n) (λ n. n) (λ m n. m ≡ n) (λ m n same. same) (λ m n same. same) xs ys are.ordered are'.ordered
      (λ n is_in. (n, are'.each n (start_of e e' alike n (are.only n is_in)), refl))
      (λ n is_in. (n, are.each n (start_of e' e backward n (are'.only n is_in)), refl))
      ∙ map-id ys

  one_roles : (xs ys : List (ℕ × Role)) → AreRoles e xs → AreRoles e' ys → xs ≡ ys
  one_roles xs ys are are' =
      sym (map-id xs)
      ∙ one_list (λ r. r.0) (λ r. r) (λ r s. r ≡ s) (λ r s same. ap (λ (t : ℕ × Role). t.0) same)
      (λ r s same. same) xs ys are.ordered are'.ordered
      (λ r is_in. (r, are'.each r (role_of e e' alike r.0 r.1 (are.only r is_in)), refl))
      (λ r is_in. (r, are.each r (role_of e' e backward r.0 r.1 (are'.only r is_in)), refl))
      ∙ map-id ys

  one_cells : (tabled : List (ℕ × ℕ)) (xs ys : List CodeCell) → AreCells e tabled xs → AreCells e' tabled ys → xs ≡ ys
  one_cells tabled xs ys are are' =
      sym (map-id xs)
      ∙ one_list (λ c. c.addr) (λ c. c) (λ c d. c ≡ d) (λ c d same. ap (λ (t : CodeCell). t.addr) same)
      (λ c d same. same) xs ys are.ordered are'.ordered
      (λ c is_in. (c, are'.each c (cell_of e e' alike tabled c (are.only c is_in)), refl))
      (λ c is_in. (c, are.each c (cell_of e' e backward tabled c (are'.only c is_in)), refl))
      ∙ map-id ys

  one_functions : (tabled : List (ℕ × ℕ)) (xs ys : List Func) → AreFunctions e tabled xs → AreFunctions e' tabled ys →
      map bounds xs ≡ map bounds ys
  one_functions tabled xs ys are are' =
      one_list (λ f. f.start) bounds (λ f g. bounds f ≡ bounds g) (λ f g same. ap (λ (t : ℕ × ℕ). t.0) same)
      (λ f g same. same) xs ys are.ordered are'.ordered
      (λ f is_in.
      let (g, g_in, start, end) =
      are'.each f.start f.end (function_part_of e e' alike tabled f.start f.end (are.only f is_in).part) in
      (g, g_in, λ i. (sym start i, sym end i)))
      (λ g is_in.
      let (f, f_in, start, end) =
      are.each g.start g.end (function_part_of e' e backward tabled g.start g.end (are'.only g is_in).part) in
      (f, f_in, λ i. (start i, end i)))

  one_count : (tabled : List (ℕ × ℕ)) (xs ys : List Func) → AreFunctions e tabled xs →
      AreFunctions e' tabled ys → length xs ≡ length ys
  one_count tabled xs ys are are' =
      sym (length-map xs bounds) ∙ ap length (one_functions tabled xs ys are are') ∙ length-map ys bounds

pub reading_law : ReadingLaw
reading_law file e e' reads reads' tabled =
    let alike = readings_alike file e e' reads reads' in (
      same_code file e e' reads reads' tabled,
      record {
        starts = one_starts e e' alike;
        roles = one_roles e e' alike;
        cells = one_cells e e' alike tabled;
        functions = one_functions e e' alike tabled;
        function_count = one_count e e' alike tabled;
      },
    )
