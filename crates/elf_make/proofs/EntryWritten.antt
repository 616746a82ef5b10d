-- The entry point of a written file, and the field that says it, if it is loaded.
use Rattle.std.proofs.Common.{◌≡◌, ◌∙◌, sym, ap, subst, refl, ℕ, ◌+◌, ◌-◌, ◌≤◌, List, Option, Some, None, Bool, true, false, arith}
use Rattle.std.specs.Prelude.{Contains, IfSome, find, option_map}
use Rattle.byteorder.specs.Endian.{little_bytes}
use Rattle.elf_image.specs.declared.segment.Segment.{Segment}
use Rattle.elf_image.specs.faults.FileFaults.{IsSound}
use Rattle.elf_image.specs.file.Header.{e_entry, segments_of}
use Rattle.elf_image.specs.file.ParsedFile.{IsElfOf}
use Rattle.elf_image.specs.memory.Image.{LoadOnce}
use Rattle.elf_image.specs.memory.LoadedBytes.{address_of, address_in, loads_range}
use Rattle.rv_code.specs.machine.MemoryNumbers.{number_in}
use Rattle.rb_bytes.proofs.Searches.{find-found}
use Rattle.addr_map.specs.Spans.{moved}
use Rattle.elf_image.specs.memory.Executables.{executable_of, memory_of}
use Rattle.elf_parts.specs.Patches.{Stands}
use Rattle.elf_parts.proofs.Patches.{stands-each}
use Rattle.elf_image.specs.memory.HiddenFields.{e_entry_field}
use Rattle.elf_plan.specs.Area.{moved_by}
use Rattle.elf_make.specs.FileParts.{IsMade}
use Rattle.elf_make.specs.Source.{Source}
use Rattle.elf_make.proofs.HeldNumbers.{number-held}
use Rattle.elf_make.proofs.Loads.{moved-before}
use Rattle.elf_make.proofs.MadeHeaders.{with_cells, headers, written-is, headers-within, headers-apart, segments-written}
use Rattle.elf_make.proofs.MadeHeaders.{e_entry-written, entry-fits}
use Rattle.elf_make.proofs.MadeInput.{moved-none, by-tight, crosses, keep-behind}
use Rattle.elf_make.proofs.TableKept.{LoadsRange, loads-range}
use Rattle.elf_make.proofs.WrittenImages.{AreNewLoads}

module _ (s : Source) (tight : Bool) (w : List ℕ) (made : IsMade s tight w) where
  pub entry-written : moved s.spans s.elf.entry ≡ Some (e_entry w)
  entry-written = made.entry ∙ ap (λ (a : ℕ). Some a) (sym (e_entry-written s tight w made))

  -- the field in the file
  entry-stands : Stands w 0x18 (little_bytes 8 made.fields.entry)
  entry-stands =
      subst (λ (xs : List ℕ). Stands xs 0x18 (little_bytes 8 made.fields.entry)) (sym (written-is s tight w made))
      (stands-each (headers s tight w made) (with_cells s tight w made) (headers-within s tight w made)
      (headers-apart s tight w made) 1 (record { offset = 0; bytes = little_bytes 0 0 }) (omega arith))

  module _ (read : IsElfOf s.elf.file.now s.elf) (sound : IsSound s.elf.file.now)
      (new : AreNewLoads made.layout.shift.from made.layout.shift.by s.elf.segments.items made.segments)
      (once : LoadOnce (segments_of w)) where
    -- the file's header stays where it is
    header-stays : (b : Bool) → tight ≡ b → moved_by made.layout.shift.from made.layout.shift.by 0x18 ≡ 0x18
    header-stays true e = moved-none made.layout.shift.from made.layout.shift.by 0x18 (by-tight s tight w read sound made e)
    header-stays false e =
        let keep = keep-behind s tight w read sound made e in
        let high : 64 ≤ made.layout.parts.keep = made.laid_out.header in
        moved-before made.layout.shift.from made.layout.shift.by 0x18 (omega (arith, keep, high))

    held : (p : Segment) → Contains s.elf.segments.items p → LoadsRange 0x18 8 p →
        number_in (memory_of (executable_of w)) (address_in e_entry_field p) 8 ≡ Some made.fields.entry
    held p there loads =
        let to = new p there loads.load in
        let from : p.offset ≤ 0x18 = loads.from in
        let in_file : 0x18 + 8 ≤ p.offset + p.filesz = loads.in_file in
        let in_memory : 0x18 + 8 ≤ p.offset + p.memsz = loads.in_memory in
        let place : 0x18 ≡ p.offset + ((p.vaddr + (0x18 - p.offset)) - p.vaddr) = omega (arith, from) in
        let stands : Stands w (moved_by made.layout.shift.from made.layout.shift.by
        (p.offset + ((p.vaddr + (0x18 - p.offset)) - p.vaddr))) (little_bytes 8 made.fields.entry) =
        subst
        (λ (k : ℕ). Stands w (moved_by made.layout.shift.from made.layout.shift.by k) (little_bytes 8 made.fields.entry)) place
        (subst (λ (k : ℕ). Stands w k (little_bytes 8 made.fields.entry)) (sym (header-stays tight refl)) entry-stands) in
        number-held w (segments_of w) made.layout.shift.from made.layout.shift.by p to.0
        (p.vaddr + (0x18 - p.offset)) 8 made.fields.entry once
        (subst (λ (xs : List Segment). Contains xs to.0) (sym (segments-written s tight w made)) to.1) to.2 loads.load
        (crosses s tight w read sound made p there)
        (omega arith) (omega (arith, from, in_file)) (omega (arith, from, in_memory)) (omega arith)
        (entry-fits s tight w made) stands

    pub entry_field-written : IfSome (address_of s.elf e_entry_field)
        (λ a. number_in (memory_of (executable_of w)) a 8 ≡ Some (e_entry w))
    entry_field-written = cases (find (loads_range e_entry_field) s.elf.segments.items) refl
      where
        cases : (o : Option Segment) → find (loads_range e_entry_field) s.elf.segments.items ≡ o →
            IfSome (option_map (address_in e_entry_field) o) (λ a. number_in (memory_of (executable_of w)) a 8 ≡ Some (e_entry w))
        cases None e = tt
        cases (Some p) e =
            let found = find-found (loads_range e_entry_field) s.elf.segments.items p e in
            held p found.1 (loads-range 0x18 8 p found.0) ∙ ap (λ (a : ℕ). Some a) (sym (e_entry-written s tight w made))
