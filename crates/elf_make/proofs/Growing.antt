-- The executable segment of a sound file can grow to the end of an area that is laid out after it.
use Rattle.std.proofs.Common.{◌≡◌, ◌∙◌, sym, ap, subst, refl, ℕ, ◌+◌, ◌*◌, ◌≤◌, List, Option, Some, Bool, true, false, length}
use Rattle.std.proofs.Common.{get_or, arith}
use Rattle.std.specs.Option.{option_map_or}
use Rattle.elf_image.specs.declared.elf.Elf.{Elf}
use Rattle.elf_image.specs.declared.segment.Segment.{Segment}
use Rattle.elf_image.specs.declared.segment.TheConstants.{PHDR_SIZE}
use Rattle.elf_image.specs.faults.FileFaults.{IsSound}
use Rattle.elf_image.specs.file.Header.{segments_of}
use Rattle.elf_image.specs.file.ParsedFile.{IsElfOf}
use Rattle.elf_image.specs.memory.CodeSegment.{executable_segment}
use Rattle.elf_image.specs.memory.Image.{end_of}
use Rattle.elf_plan.specs.declared.area.Area.{Area}
use Rattle.elf_make.specs.declared.layout.Layout.{Layout}
use Rattle.elf_plan.specs.Area.{code_segment, no_segment, segment_address, table_end}
use Rattle.file_room.specs.Room.{area_start_of}
use Rattle.elf_make.specs.FileParts.{IsLaidOut}
use Rattle.elf_plan.specs.NewSegments.{CanGrow, CanGrowAt}
use Rattle.file_room.specs.Room.{code_end, new_segment_start}
use Rattle.elf_make.proofs.CodeMemory.{table_end-above}
use Rattle.elf_make.proofs.SameBreak.{rounded_up-above}
use Rattle.elf_make.proofs.SoundFiles.{code-at, code-whole}

module _ (elf : Elf) (tight : Bool) (code : List ℕ) (frames index : Option ℕ) (layout : Layout) (read : IsElfOf elf.file.now elf)
    (sound : IsSound elf.file.now) (laid : IsLaidOut elf tight code frames index layout) where
  abbrev ps : List Segment
  ps = elf.segments.items

  abbrev p : Segment
  p = laid.executable

  found-file : executable_segment (segments_of elf.file.now) ≡ Some (layout.code, p)
  found-file = ap executable_segment (sym read.segments) ∙ laid.found

  code-is : (d : Segment) → get_or ps layout.code d ≡ p
  code-is d = subst (λ (xs : List Segment). get_or xs layout.code d ≡ p) (sym read.segments)
      (code-at elf.file.now sound layout.code p found-file d)

  code_segment-is : code_segment ps ≡ p
  code_segment-is = ap (λ (o : Option (ℕ × Segment)). option_map_or (λ e. e.1) o no_segment) laid.found

  whole : p.filesz ≡ p.memsz
  whole = code-whole elf.file.now sound layout.code p found-file

  -- the area ends after its code
  ends : area_start_of ps tight ≤ layout.area.end
  ends =
      let e : layout.area.end ≡ table_end 4 (table_end 8 (area_start_of ps tight + length code) frames) index =
      ap (λ (a : Area). a.end) laid.area in
      let first = table_end-above 8 (area_start_of ps tight + length code) frames (omega arith) in
      let second = table_end-above 4 (table_end 8 (area_start_of ps tight + length code) frames) index (omega arith) in
      omega (arith, e, first, second)

  -- and begins after the executable segment
  begins : end_of p ≤ area_start_of ps false
  begins =
      let end : code_end ps ≡ end_of p = ap (λ (o : Option (ℕ × Segment)). option_map_or (λ e. end_of e.1) o 0) laid.found in
      let up = rounded_up-above 16 (code_end ps) (omega arith) in
      omega (arith, end, up)

  tight-is : layout.area.tight ≡ tight
  tight-is = ap (λ (a : Area). a.tight) laid.area

  pub can-grow : CanGrowAt layout.shift.from layout.area.end layout.area.tight layout.code ps
  can-grow not_tight d below =
      let e : tight ≡ false = sym tight-is ∙ not_tight in
      let end = subst (λ (t : Bool). area_start_of ps t ≤ layout.area.end) e ends in
      let from : layout.shift.from ≡ p.offset + p.filesz =
      ap (λ x. x.from) laid.shift ∙ ap (λ (q : Segment). q.offset + q.filesz) code_segment-is in
      let same : p.filesz ≡ p.memsz = whole in
      let high = begins in
      subst (CanGrow layout.shift.from layout.area.end) (sym (code-is d))
      (record { whole = sym same; ends = omega (arith, end, high); stays = λ some. omega (arith, from, some) })

  pub in-order : layout.area.address ≤ layout.area.end
  in-order = cases tight refl
    where
      address : layout.area.address ≡ segment_address ps tight
      address = ap (λ (a : Area). a.address) laid.area

      cases : (b : Bool) → tight ≡ b → layout.area.address ≤ layout.area.end
      cases true e =
          let at : segment_address ps tight ≡ new_segment_start ps = rw e refl in
          let end = subst (λ (t : Bool). area_start_of ps t ≤ layout.area.end) e ends in
          let up = rounded_up-above 16 (new_segment_start ps + PHDR_SIZE * (length ps + 1)) (omega arith) in
          omega (arith, address, at, end, up)
      cases false e =
          let at : segment_address ps tight ≡ (code_segment ps).vaddr = rw e refl in
          let is : (code_segment ps).vaddr ≡ p.vaddr = ap (λ (q : Segment). q.vaddr) code_segment-is in
          let end = subst (λ (t : Bool). area_start_of ps t ≤ layout.area.end) e ends in
          let high = begins in
          omega (arith, address, at, is, end, high)
