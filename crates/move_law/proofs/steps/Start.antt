-- The states before the first step are related.
use Rattle.std.proofs.Common.{◌≡◌, ℕ, zero, suc, ◌+◌, ◌-◌, ◌*◌, ◌/◌, ◌%◌, ◌^◌, ◌<◌, ◌≤◌, List, [], ◌∷◌, ◌++◌, length, Option}
use Rattle.std.proofs.Common.{Some, None, Bool, true, false, refl, sym, ap, ◌∙◌, subst, arith, inl, inr, ◌⊎◌, get_or}
use Rattle.std.specs.Prelude.{if◌then◌else◌, ◌&&◌, ◌||◌, nat_le, nat_lt, IsTrue, option_map, unwrap_or, slice_index, find}
use Rattle.std.specs.List.{Contains, list_any}
use Rattle.std.specs.Option.{option_map_or, option_or}
use Rattle.std.proofs.lemmas.Bool.{and_parts, and_from, leb-true, ltb-true, le-leb, lt-ltb, false_from_ne_true}
use Rattle.std.proofs.lemmas.List.Elements.{Contains-append_right, Contains-append_cases, All-contains}
use Rattle.rv_code.specs.declared.cell.CodeCell.{CodeCell}
use Rattle.rv_code.specs.declared.cell.CellKind.{CellKind}
use Rattle.rv_code.specs.declared.cell.CellKind.TheVariants as kind
use Rattle.rv_code.specs.layout.ProgramCode.{is_code_address, IsNamed, by_cell, by_entry, CellNames, KindNames}
use Rattle.elf_image.specs.declared.segment.TheConstants.{PF_R, PF_W, PF_X}
use Rattle.elf_image.specs.file.Header.{e_entry, e_phnum, e_phoff, segments_of}
use Rattle.elf_image.specs.memory.Image.{is_loaded_with}
use Rattle.elf_image.specs.memory.LoadedBytes.{Range, is_in_range, address_of}
use Rattle.rv_code.specs.machine.MemoryNumbers.{number_in}
use Rattle.elf_code.specs.Cells.{IsField, pointer, slot, difference, IsCell, Content, Address, Difference, SameContent}
use Rattle.elf_code.specs.Functions as functions
use Rattle.elf_code.specs.Parts.{IsStart}
use Rattle.rb_bytes.specs.declared.fault.FaultKind.TheVariants.{BadEntry}
use Rattle.rv_memory.specs.Start.{start, start_memory, start_registers, stack_bytes, stack_pointer, in_stack, space_of}
use Rattle.elf_image.specs.memory.Break.{table_address, break_start}
use Rattle.rb_bytes.proofs.Searches.{find-found}
use Rattle.sym_machine.specs.declared.value.Pointer.TheVariants.{Code}
use Rattle.sym_machine.specs.declared.value.CodeSymbol.TheVariants.{Points}
use Rattle.sym_machine.specs.declared.value.MemoryByte.TheVariants.{Byte, SymbolByte, Hidden}
use Rattle.elf_image.specs.memory.HiddenFields.{e_entry_field, is_hidden_field, is_in_entry_field}
use Rattle.sym_machine.specs.HiddenEntries.{at_phdr, at_phnum, at_entry, is_hidden_entry}
use Rattle.sym_machine.specs.SymStart.{sym_memory, entry_fields, hidden_byte, code_cell_byte, byte_of_entry, byte_of_cell}
use Rattle.sym_machine.specs.SymStart.{symbol_of, code_cell_range, program_start}
use Rattle.move_law.specs.Rewrite.{Rewrite, out, program, stays}
use Rattle.elf_image.specs.memory.Executables.{Executable, executable_read, memory_of}
use Rattle.move_law.specs.RelocatedValues.{number_of_symbol}
use Rattle.move_law.specs.SimulationRelation.{StandsForByte, IsGiven, has_right}
use Rattle.move_law.specs.FaithfulRewrite.{KeepsCell}
use Rattle.move_law.specs.Laws.{KeepsCode, FitStack, StartsRelated}
use Rattle.move_law.proofs.files.Executables.{loaded_byte, accepted_executable, number_byte, loaded_start}
use Rattle.move_law.proofs.files.Stack.{stack_of, count, byte_same, entry_on_stack, room, stack_is}
use Rattle.move_law.proofs.code.CellWidths.{field_width, same_address}
use Rattle.move_law.proofs.values.Arithmetic.{number_stands}
use Rattle.move_law.proofs.map.MappedPlaces.{place}
use Rattle.move_law.proofs.code.InstLists.{function_code, start_code}
use Rattle.sym_machine.specs.Values.{IsSymbol}
use Rattle.std.proofs.lemmas.Grind.{common_steps}
use Rattle.elf_code.proofs.Counts.{can_of}
use Rattle.sym_machine.proofs.StartFields.{in_range}
use Rattle.rb_bytes.proofs.ListLemmas.{find_none, none_any, only_one, if_found}
use Rattle.elf_image.proofs.ReadLists.{length-segments_from}
use Rattle.elf_image.proofs.LowSegments.{break_fits}

-- The files.

holds_inside : (a : ℕ) (range : Range) → range.start ≤ a → a < range.start + range.size → is_in_range a range ≡ true
holds_inside a range h k = grind (arith, common_steps, and_from, le-leb, lt-ltb)

or_parts : (x y : Bool) → x || y ≡ false → (x ≡ false) × (y ≡ false)
or_parts true y e = absurd (cc)
or_parts false y e = (refl, e)

or_false : (x y z : Bool) → x ≡ false → y ≡ false → z ≡ false → x || y || z ≡ false
or_false x y z a b c = rw (a, b, c) refl

of_four : (v i : ℕ) → i < 4 → v % 256 ^ 4 / 256 ^ i % 256 ≡ v / 256 ^ i % 256 ^ 1
of_four v zero h = omega arith
of_four v (suc zero) h = omega arith
of_four v (suc (suc zero)) h = omega arith
of_four v (suc (suc (suc zero))) h = omega arith
of_four v (suc (suc (suc (suc i)))) h = absurd (omega (arith, h))

of_eight : (v i : ℕ) → i < 8 → v % 256 ^ 8 / 256 ^ i % 256 ≡ v / 256 ^ i % 256 ^ 1
of_eight v zero h = omega arith
of_eight v (suc zero) h = omega arith
of_eight v (suc (suc zero)) h = omega arith
of_eight v (suc (suc (suc zero))) h = omega arith
of_eight v (suc (suc (suc (suc zero)))) h = omega arith
of_eight v (suc (suc (suc (suc (suc zero))))) h = omega arith
of_eight v (suc (suc (suc (suc (suc (suc zero)))))) h = omega arith
of_eight v (suc (suc (suc (suc (suc (suc (suc zero))))))) h = omega arith
of_eight v (suc (suc (suc (suc (suc (suc (suc (suc i)))))))) h = absurd (omega (arith, h))

-- if the break has no room, a right outside the stack is a right to a loaded byte
flags : (reads writes executes stack break : Bool) → stack ≡ false → break ≡ false →
    ((reads || stack) || break) || ((writes || stack) || break) || executes ≡ true →
    (reads ≡ true) ⊎ ((writes ≡ true) ⊎ (executes ≡ true))
flags true w x s b e f h = inl refl
flags false true x s b e f h = inr (inl refl)
flags false false true s b e f h = inr (inr refl)
flags false false false s b e f h = grind (arith, common_steps)

module _ (r : Rewrite) (keeps : KeepsCode r) (args : List (List ℕ)) (fit : FitStack args) where
  pub entry_is : e_entry r.output.file ≡ out r r.input.entry
  entry_is = sym (ap (λ (x : Executable). x.entry) keeps.output.is) ∙ keeps.faithful.entry

  entry_code : is_code_address r.code.funcs r.input.entry ≡ true
  entry_code = by (is_code_address r.code.funcs r.input.entry) refl
    where
      by : (b : Bool) → is_code_address r.code.funcs r.input.entry ≡ b → b ≡ true
      by true e = refl
      by false e = absurd (keeps.accepted.no_fault BadEntry r.input.entry (inr (record {
        is_entry = refl;
        no_code = λ c.
            let t = function_code r.input keeps.accepted.tabled r.code keeps.accepted.code_is c.start c.end r.input.entry
            c.function c.starts in
            absurd (let k : false ≡ true = sym e ∙ t in cc);
      })))

  pub entry_named : IsNamed r.code r.input.entry
  entry_named = record { code_address = entry_code; held = by_entry keeps.accepted.code_is.entry }

  -- the bytes of the entry point
  entry_cell_is : (i n : ℕ) → i < 8 → n ≡ out r r.input.entry / 256 ^ i % 256 →
      StandsForByte r (SymbolByte (Points (Code r.input.entry)) 8 i) n
  entry_cell_is i n h e =
      record { made = (tt, inr refl, h); given = entry_named; byte = e ∙ one_byte (out r r.input.entry / 256 ^ i) }
    where
      one_byte : (m : ℕ) → m % 256 ≡ m % 256 ^ 1
      one_byte m = omega arith

  -- the numbers on the stack
  in_numbers : (a : ℕ) → stack_pointer args ≤ a → a < stack_pointer args + 8 * (count args + 17) →
      start_memory r.output.file args a ≡ get_or (stack_of args (table_address r.output.file) (e_phnum r.output.file)
      (e_entry r.output.file)) (a - stack_pointer args) 0
  in_numbers a from to = grind (arith, common_steps, room, and_from, le-leb, lt-ltb, stack_is)

  entry_on_the_stack : (a : ℕ) → is_in_range a (at_entry args) ≡ true →
      StandsForByte r (SymbolByte (Points (Code r.input.entry)) 8 (a - (at_entry args).start))
      (start_memory r.output.file args a)
  entry_on_the_stack a e =
      let inside = in_range a (at_entry args) e in
      let from = inside.0 in
      let to = inside.1 in
      let at : a - stack_pointer args ≡ 8 * (count args + 12) + (a - (at_entry args).start) = omega (arith, from, to) in
      entry_cell_is (a - (at_entry args).start) (start_memory r.output.file args a) (omega (arith, from, to))
      (in_numbers a (omega (arith, from)) (omega (arith, to))
      ∙ ap (λ (k : ℕ). get_or (stack_of args (table_address r.output.file) (e_phnum r.output.file)
      (e_entry r.output.file)) k 0) at
      ∙ entry_on_stack args (table_address r.output.file) (e_phnum r.output.file) (e_entry r.output.file)
      (a - (at_entry args).start) (omega (arith, from, to))
      ∙ ap (λ (w : ℕ). w / 256 ^ (a - (at_entry args).start) % 256) entry_is)

  entry_in_header : (a x : ℕ) → address_of r.input e_entry_field ≡ Some x →
      is_in_range a (record { start = x; size = 8 }) ≡ true →
      StandsForByte r (SymbolByte (Points (Code r.input.entry)) 8 (a - x)) (start_memory r.output.file args a)
  entry_in_header a x at e =
      let inside = in_range a (record { start = x; size = 8 }) e in
      let from = inside.0 in
      let to = inside.1 in
      let number : number_in (memory_of r.output) x 8 ≡ Some r.output.entry =
      if_found (λ a. number_in (memory_of r.output) a 8 ≡ Some r.output.entry) (address_of r.input e_entry_field) x at
      keeps.faithful.cells.entry in
      let there = number_byte r.output keeps.output x 8 r.output.entry (a - x) number (omega (arith, from, to)) in
      let back : x + (a - x) ≡ a = omega (arith, from) in
      let there' : memory_of r.output a ≡ Some (r.output.entry / 256 ^ (a - x) % 256) = ap (memory_of r.output) (sym back)
      ∙ there in
      entry_cell_is (a - x) (start_memory r.output.file args a) (omega (arith, from, to))
      (loaded_start r.output keeps.output args a (r.output.entry / 256 ^ (a - x) % 256) there'
      ∙ ap (λ (w : ℕ). w / 256 ^ (a - x) % 256) keeps.faithful.entry)

  entry_stands : (a : ℕ) (range : Range) → Contains (entry_fields r.input args) range → is_in_range a range ≡ true →
      StandsForByte r (byte_of_entry r.input a range) (start_memory r.output.file args a)
  entry_stands a range is_in e =
      by (address_of r.input e_entry_field) refl
      (Contains-append_cases (option_map_or (λ a. record { start = a; size = 8 } ∷ []) (address_of r.input e_entry_field)
      []) (at_entry args ∷ []) range is_in)
    where
      by : (o : Option ℕ) → address_of r.input e_entry_field ≡ o →
          Contains (option_map_or (λ a. record { start = a; size = 8 } ∷ []) o []) range ⊎ Contains (at_entry args ∷ [])
          range → StandsForByte r (byte_of_entry r.input a range) (start_memory r.output.file args a)
      by None k (inl c) = absurd (let l = c.1 in omega (arith, l))
      by (Some x) k (inl c) =
          let same : record { start = x; size = 8 } ≡ range = only_one (record { start = x; size = 8 }) range c in
          subst (λ (q : Range). is_in_range a q ≡ true → StandsForByte r (byte_of_entry r.input a q)
          (start_memory r.output.file args a)) same (entry_in_header a x k) e
      by o k (inr c) =
          let same : at_entry args ≡ range = only_one (at_entry args) range c in
          subst (λ (q : Range). is_in_range a q ≡ true → StandsForByte r (byte_of_entry r.input a q)
          (start_memory r.output.file args a)) same (entry_on_the_stack a) e

  -- the bytes of code cells
  cell_stands : (a : ℕ) (cell : CodeCell) → Contains r.code.cells cell → is_in_range a (code_cell_range cell) ≡ true →
      StandsForByte r (byte_of_cell a cell) (start_memory r.output.file args a)
  cell_stands a cell is_in e =
      let inside = in_range a (code_cell_range cell) e in
      let from = inside.0 in
      let to = inside.1 in
      let number = All-contains (KeepsCell r) r.code.cells cell keeps.faithful.cells.each is_in in
      let v : ℕ = number_of_symbol r (symbol_of cell.kind) in
      let there = number_byte r.output keeps.output cell.addr cell.width (v % 256 ^ cell.width) (a - cell.addr) number
      (omega (arith, from, to)) in
      let back : cell.addr + (a - cell.addr) ≡ a = omega (arith, from) in
      let there' : memory_of r.output a ≡ Some (v % 256 ^ cell.width / 256 ^ (a - cell.addr) % 256) =
      ap (memory_of r.output) (sym back) ∙ there in
      record {
        made = (symbol_tt cell.kind, width, omega (arith, from, to));
        given = given cell.kind refl;
        byte = loaded_start r.output keeps.output args a (v % 256 ^ cell.width / 256 ^ (a - cell.addr) % 256) there'
            ∙ byte_of_width v cell.width (a - cell.addr) width (omega (arith, from, to));
      }
    where
      symbol_tt : (k : CellKind) → IsSymbol (symbol_of k)
      symbol_tt (kind.Abs to) = tt
      symbol_tt (kind.Diff to from) = tt

      cell_is : IsCell r.input keeps.accepted.tabled cell
      cell_is = keeps.accepted.code_is.cells.only cell is_in

      width : (cell.width ≡ 4) ⊎ (cell.width ≡ 8)
      width = field_width r.input keeps.accepted.tabled
          (record { place = cell.addr; width = cell.width; content = cell_is.content }) (can_of cell_is.counted).is_field

      given : (k : CellKind) → cell.kind ≡ k → IsGiven r (symbol_of k)
      given (kind.Diff to from) e = let (k, within, at) = is_in in (k, cell, within, at, e)
      given (kind.Abs to) e =
          of_field cell_is.content refl (can_of cell_is.counted).is_field (subst (SameContent cell_is.content) e cell_is.same)
        where
          names : CellNames cell to
          names = subst (λ (x : CellKind). KindNames x to) (sym e) refl

          named : IsStart r.input to → IsNamed r.code to
          named start =
              let (k, within, at) = is_in in
              record {
                code_address = start_code r.input keeps.accepted.tabled r.code keeps.accepted.code_is to start
                    (functions.cell cell cell_is names);
                held = by_cell (k, cell, within, at, names);
              }

          of_field : (content : Content) → cell_is.content ≡ content →
              IsField r.input keeps.accepted.tabled
              (record { place = cell.addr; width = cell.width; content = cell_is.content }) →
              SameContent content (kind.Abs to) → IsNamed r.code to
          of_field (Difference z w) c f same = absurd same
          of_field (Address b) c (pointer q counted address place width to' number start content) same =
              let t : to' ≡ to = same_address to' to (sym content ∙ c ∙ ap Address same) in
              named (subst (IsStart r.input) t start)
          of_field (Address b) c (slot q kind_is upper width to' number label start content) same =
              let t : to' ≡ to = same_address to' to (sym content ∙ c ∙ ap Address same) in
              named (subst (IsStart r.input) t start)
          of_field (Address b) c (difference q bits to' from' is can code whole place width content) same =
              absurd (let t : Difference to' from' ≡ Address b = sym content ∙ c in cc)

      byte_of_width : (v w i : ℕ) → (w ≡ 4) ⊎ (w ≡ 8) → i < w → v % 256 ^ w / 256 ^ i % 256 ≡ v / 256 ^ i % 256 ^ 1
      byte_of_width v w i (inl e) h = rw e (of_four v i (omega (arith, h, e)))
      byte_of_width v w i (inr e) h = rw e (of_eight v i (omega (arith, h, e)))

  -- all other bytes are unchanged

  at_entry_none : (a : ℕ) → find (is_in_range a) (entry_fields r.input args) ≡ None → is_in_range a (at_entry args) ≡ true → ⊥
  at_entry_none a none e =
      find_none (is_in_range a) (entry_fields r.input args) (at_entry args) none
      (Contains-append_right (option_map_or (λ a. record { start = a; size = 8 } ∷ []) (address_of r.input e_entry_field)
      []) (at_entry args ∷ []) (at_entry args) (zero, omega arith, refl)) e

  counts_same : r.tight ≡ false → e_phnum r.output.file ≡ e_phnum r.input.file.now
  counts_same loose =
      let same = (keeps.faithful.layout.table loose).count in
      let out_count : length r.output.segments ≡ e_phnum r.output.file = ap (λ (x : Executable). length x.segments)
      keeps.output.is ∙ length-segments_from r.output.file (e_phoff r.output.file) (e_phnum r.output.file) in
      let in_count : length r.input.segments.items ≡ e_phnum r.input.file.now = ap length keeps.accepted.read.segments
      ∙ length-segments_from r.input.file.now (e_phoff r.input.file.now) (e_phnum r.input.file.now) in
      sym out_count ∙ sym same ∙ in_count

  stack_same : (a : ℕ) → in_stack a ≡ true → find (is_in_range a) (entry_fields r.input args) ≡ None →
      is_hidden_entry r.tight args a ≡ false → start_memory r.output.file args a ≡ start_memory r.input.file.now args a
  stack_same a inside none hidden = rw inside (by (nat_le (stack_pointer args) a) refl)
    where
      number_there : (n : ℕ) → stack_pointer args ≤ a → (a - stack_pointer args) / 8 ≡ n →
          is_in_range a (record { start = stack_pointer args + 8 * n; size = 8 }) ≡ true
      number_there n from e =
          holds_inside a (record { start = stack_pointer args + 8 * n; size = 8 }) (omega (arith, from, e))
          (omega (arith, from, e))

      shown : (t : Bool) → r.tight ≡ t → is_in_range a (at_phdr args) || is_in_range a (at_phnum args) ≡ true → t ≡ false
      shown false e h = refl
      shown true e h =
          absurd (let f : (true && (is_in_range a (at_phdr args) || is_in_range a (at_phnum args))) ≡ false =
          rw e at hidden in let k : true ≡ false = sym h ∙ f in cc)

      or_here : (x y : Bool) → x ≡ true → x || y ≡ true
      or_here x y e = rw e refl

      or_there : (x y : Bool) → y ≡ true → x || y ≡ true
      or_there true y e = refl
      or_there false y e = e

      phdr : stack_pointer args ≤ a → (a - stack_pointer args) / 8 ≡ count args + 4 → r.tight ≡ false
      phdr from e =
          shown r.tight refl (or_here (is_in_range a (at_phdr args)) (is_in_range a (at_phnum args))
          (number_there (count args + 4 + 2 * 0) from (omega (arith, e))))

      phnum : stack_pointer args ≤ a → (a - stack_pointer args) / 8 ≡ count args + 8 → r.tight ≡ false
      phnum from e =
          shown r.tight refl (or_there (is_in_range a (at_phdr args)) (is_in_range a (at_phnum args))
          (number_there (count args + 4 + 2 * 2) from (omega (arith, e))))

      bytes : stack_pointer args ≤ a →
          slice_index (stack_bytes r.output.file args) (a - stack_pointer args)
          ≡ slice_index (stack_bytes r.input.file.now args) (a - stack_pointer args)
      bytes from =
          ap (λ (l : List ℕ). get_or l (a - stack_pointer args) 0) (stack_is r.output.file args)
          ∙ byte_same args (table_address r.output.file) (e_phnum r.output.file) (e_entry r.output.file)
          (table_address r.input.file.now) (e_phnum r.input.file.now) (e_entry r.input.file.now) (a - stack_pointer args)
          (λ e. sym (keeps.faithful.layout.table (phdr from e)).place)
          (λ e. counts_same (phnum from e))
          (λ e. absurd (at_entry_none a none (number_there (count args + 4 + 2 * 4) from (omega (arith, e)))))
          ∙ ap (λ (l : List ℕ). get_or l (a - stack_pointer args) 0) (sym (stack_is r.input.file.now args))

      by : (t : Bool) → nat_le (stack_pointer args) a ≡ t →
          (if t then slice_index (stack_bytes r.output.file args) (a - stack_pointer args) else 0)
          ≡ (if t then slice_index (stack_bytes r.input.file.now args) (a - stack_pointer args) else 0)
      by false e = refl
      by true e = bytes (leb-true (stack_pointer args) a e)

  file_same : (a flag : ℕ) → is_loaded_with flag r.input.segments.items a ≡ true →
      find (is_in_range a) (entry_fields r.input args) ≡ None → is_hidden_field r.input r.tight a ≡ false →
      find (λ c. is_in_range a (code_cell_range c)) r.code.cells ≡ None →
      start_memory r.output.file args a ≡ start_memory r.input.file.now args a
  file_same a flag loaded none hidden no_cell =
      let l = loaded_byte (executable_read r.input) flag a loaded in
      let kept = keeps.faithful.bytes a l.0 l.1 in
      let same : memory_of r.output a ≡ Some l.0 =
      kept.same (or_false (list_any (λ cell. is_in_range a (code_cell_range cell)) r.code.cells) (is_in_entry_field r.input a)
      (is_hidden_field r.input r.tight a) (none_any (λ cell. is_in_range a (code_cell_range cell)) r.code.cells no_cell)
      (no_entry (address_of r.input e_entry_field) refl) hidden) in
      loaded_start r.output keeps.output args a l.0 same
      ∙ sym (loaded_start (executable_read r.input) (accepted_executable r.input r.code keeps.accepted) args a l.0 l.1)
    where
      no_entry : (o : Option ℕ) → address_of r.input e_entry_field ≡ o →
          option_map_or (λ start. is_in_range a (record { start = start; size = 8 })) o false ≡ false
      no_entry None e = refl
      no_entry (Some x) e = false_from_ne_true (is_in_range a (record { start = x; size = 8 })) (λ h.
          let fields : entry_fields r.input args ≡ (record { start = x; size = 8 } ∷ []) ++ at_entry args ∷ [] =
          ap (λ (o : Option ℕ). option_map_or (λ a. record { start = a; size = 8 } ∷ []) o [] ++ at_entry args ∷ []) e in
          find_none (is_in_range a) ((record { start = x; size = 8 } ∷ []) ++ at_entry args ∷ [])
          (record { start = x; size = 8 }) (ap (find (is_in_range a)) (sym fields) ∙ none) (zero, omega arith, refl) h)

  pub memory : (a : ℕ) → IsTrue (has_right (program_start (program r) args []) a) →
      StandsForByte r (sym_memory r.input r.code.cells r.tight args a) (start_memory r.output.file args a)
  memory a right = by (find (is_in_range a) (entry_fields r.input args)) refl
    where
      plain : find (is_in_range a) (entry_fields r.input args) ≡ None →
          is_hidden_field r.input r.tight a || is_hidden_entry r.tight args a ≡ false →
          find (λ c. is_in_range a (code_cell_range c)) r.code.cells ≡ None →
          StandsForByte r (Byte (start_memory r.input.file.now args a)) (start_memory r.output.file args a)
      plain none hidden no_cell =
          let h = or_parts (is_hidden_field r.input r.tight a) (is_hidden_entry r.tight args a) hidden in
          record { made = tt; given = tt; byte = cases (in_stack a) refl h.0 h.1 }
        where
          no_break : (nat_le (break_start r.input.segments.items) a && nat_lt a (break_start r.input.segments.items)) ≡ false
          no_break =
              false_from_ne_true (nat_le (break_start r.input.segments.items) a && nat_lt a
              (break_start r.input.segments.items)) (λ e.
              let parts = and_parts (nat_le (break_start r.input.segments.items) a)
              (nat_lt a (break_start r.input.segments.items)) e in
              let from : break_start r.input.segments.items ≤ a = leb-true (break_start r.input.segments.items) a parts.0 in
              let to : a < break_start r.input.segments.items = ltb-true a (break_start r.input.segments.items) parts.1 in
              omega (arith, from, to))

          cases : (t : Bool) → in_stack a ≡ t → is_hidden_field r.input r.tight a ≡ false →
              is_hidden_entry r.tight args a ≡ false →
              start_memory r.output.file args a ≡ start_memory r.input.file.now args a
          cases true e f w = stack_same a e none w
          cases false e f w =
              elim (flags (is_loaded_with PF_R r.input.segments.items a) (is_loaded_with PF_W r.input.segments.items a)
              (is_loaded_with PF_X r.input.segments.items a) (in_stack a)
              (nat_le (break_start r.input.segments.items) a && nat_lt a (break_start r.input.segments.items)) e no_break
              right) [
                | inl k ↦ file_same a PF_R k none f no_cell
                | inr (inl k) ↦ file_same a PF_W k none f no_cell
                | inr (inr k) ↦ file_same a PF_X k none f no_cell
              ]

      cell : find (is_in_range a) (entry_fields r.input args) ≡ None →
          is_hidden_field r.input r.tight a || is_hidden_entry r.tight args a ≡ false → (q : Option CodeCell) →
          find (λ c. is_in_range a (code_cell_range c)) r.code.cells ≡ q →
          StandsForByte r (unwrap_or (option_map (byte_of_cell a) q) (Byte (start_memory r.input.file.now args a)))
          (start_memory r.output.file args a)
      cell none hidden None e = plain none hidden e
      cell none hidden (Some c) e =
          let f = find-found (λ c. is_in_range a (code_cell_range c)) r.code.cells c e in cell_stands a c f.1 f.0

      hide : find (is_in_range a) (entry_fields r.input args) ≡ None → (h : Bool) →
          (is_hidden_field r.input r.tight a || is_hidden_entry r.tight args a) ≡ h →
          StandsForByte r
          (unwrap_or
          (option_or (if h then Some Hidden else None)
          (option_map (byte_of_cell a) (find (λ c. is_in_range a (code_cell_range c)) r.code.cells)))
          (Byte (start_memory r.input.file.now args a))) (start_memory r.output.file args a)
      hide none true e = record { made = tt; given = tt; byte = tt }
      hide none false e = cell none e (find (λ c. is_in_range a (code_cell_range c)) r.code.cells) refl

      by : (o : Option Range) → find (is_in_range a) (entry_fields r.input args) ≡ o →
          StandsForByte r
          (unwrap_or
          (option_or (option_map (byte_of_entry r.input a) o)
          (option_or (hidden_byte r.input r.tight args a) (code_cell_byte r.code.cells a)))
          (Byte (start_memory r.input.file.now args a))) (start_memory r.output.file args a)
      by None e = hide e (is_hidden_field r.input r.tight a || is_hidden_entry r.tight args a) refl
      by (Some range) e =
          let f = find-found (is_in_range a) (entry_fields r.input args) range e in entry_stands a range f.1 f.0

pub starts_related : StartsRelated
starts_related r keeps args input fit = record {
  pc = λ there. (
    (rw (entry_is r keeps args fit) (place r keeps (Code r.input.entry) (entry_named r keeps args fit)).even),
    stays (entry_is r keeps args fit),
  );
  rest = record {
    zero_is = refl;
    registers = λ i. number_stands r (start_registers args i);
    memory = λ a right. memory r keeps args fit a right;
    input = refl;
    break_is = keeps.faithful.layout.break_start_is ∙ ap (λ (x : Executable). break_start x.segments) keeps.output.is;
    break_fits = (omega arith, break_fits (segments_of r.output.file));
    input_rights = refl;
    output_rights = ap (λ (x : Executable). space_of x.segments) (sym keeps.output.is);
    loaded = λ a byte w e. loaded_start r.output keeps.output args a byte e;
  };
}
