-- If the field of the entry point is loaded, it holds the entry point.
use Rattle.std.proofs.Common.{◌≡◌, ℕ, ◌+◌, ◌-◌, ◌<◌, ◌≤◌, Option, Some, None, true, refl, sym, ap, ◌∙◌, arith, get_or, drop, min}
use Rattle.std.specs.Prelude.{Contains, IfSome, IsTrue, nat_le, ◌&&◌, option_map, find}
use Rattle.std.proofs.lemmas.Bool.{and_parts, leb-true, lt-ltb}
use Rattle.std.proofs.lemmas.List.{get_or-drop}
use Rattle.rv_code.specs.layout.ProgramCode.{ProgramCode}
use Rattle.elf_image.specs.declared.elf.Elf.{Elf}
use Rattle.elf_image.specs.declared.segment.Segment.{Segment}
use Rattle.elf_image.specs.memory.Image.{byte_of, is_load, loads_address, segment_of}
use Rattle.elf_image.specs.memory.LoadedBytes.{Range, address_in, address_of, byte_at, loads_range}
use Rattle.elf_code.specs.LoadedNumbers.{loaded_number}
use Rattle.elf_image.proofs.LoadLemmas.{loads-from_parts}
use Rattle.rb_bytes.proofs.Searches.{find-found, find-only}
use Rattle.elf_image.specs.memory.HiddenFields.{e_entry_field}
use Rattle.move_law.specs.Laws.{IsAcceptedCode}
use Rattle.elf_image.specs.memory.Executables.{executable_read}
use Rattle.move_law.proofs.files.Executables.{accepted_executable, load_once}
use Rattle.move_law.proofs.files.Numbers.{number_from}

module _ (elf : Elf) (code : ProgramCode) (accepted : IsAcceptedCode elf code) where
  -- a byte of a range of the file that a segment loads
  range_byte : (range : Range) (p : Segment) → Contains elf.segments.items p → loads_range range p ≡ true → (i : ℕ) →
      i < range.size →
      byte_at elf (address_in range p + i) ≡ Some (get_or elf.file.now (range.start + i) 0)
  range_byte range p p_in loads i inside =
      ap (λ (o : Option Segment). option_map (byte_of elf.file.now (address_in range p + i)) o) found
      ∙ ap Some (rw (lt-ltb (address_in range p + i - p.vaddr) p.filesz (omega (arith, from, to, inside))) (at_place from))
    where
      both : ((is_load p && nat_le p.offset range.start) ≡ true)
          × (nat_le (range.start + range.size) (p.offset + min p.filesz p.memsz) ≡ true)
      both = and_parts (is_load p && nat_le p.offset range.start)
          (nat_le (range.start + range.size) (p.offset + min p.filesz p.memsz)) loads

      front : (is_load p ≡ true) × (nat_le p.offset range.start ≡ true)
      front = and_parts (is_load p) (nat_le p.offset range.start) both.0

      from : p.offset ≤ range.start
      from = leb-true p.offset range.start front.1

      to : range.start + range.size ≤ p.offset + min p.filesz p.memsz
      to = leb-true (range.start + range.size) (p.offset + min p.filesz p.memsz) both.1

      there : IsTrue (loads_address (address_in range p + i) p)
      there = loads-from_parts (address_in range p + i) p front.0 (omega arith) (omega (arith, from, to, inside))

      found : segment_of elf.segments.items (address_in range p + i) ≡ Some p
      found =
          find-only (loads_address (address_in range p + i)) elf.segments.items p p_in there
          (λ q q_in q_loads. load_once (executable_read elf) (accepted_executable elf code accepted)
          (address_in range p + i) q p
          q_in p_in q_loads there)

      at_place : p.offset ≤ range.start →
          get_or elf.file.now (p.offset + (address_in range p + i - p.vaddr)) 0 ≡ get_or elf.file.now (range.start + i) 0
      at_place from = ap (λ (k : ℕ). get_or elf.file.now k 0) (omega (arith, from))

  pub entry_field : IfSome (address_of elf e_entry_field) (λ a. loaded_number elf a 8 ≡ Some elf.entry)
  entry_field = by (find (loads_range e_entry_field) elf.segments.items) refl
    where
      by : (o : Option Segment) → find (loads_range e_entry_field) elf.segments.items ≡ o →
          IfSome (option_map (address_in e_entry_field) o) (λ a. loaded_number elf a 8 ≡ Some elf.entry)
      by None e = tt
      by (Some p) e =
          let found = find-found (loads_range e_entry_field) elf.segments.items p e in
          number_from (byte_at elf) (drop 0x18 elf.file.now) (address_in e_entry_field p) 0 8 (λ i inside.
          let at : 0x18 + (0 + i) ≡ 0x18 + i = omega arith in
          let byte = get_or-drop 0x18 elf.file.now (0 + i) 0 ∙ ap (λ (k : ℕ). get_or elf.file.now k 0) at in
          range_byte e_entry_field p found.1 found.0 i inside ∙ ap Some (sym byte))
          ∙ ap Some (sym accepted.read.entry)
