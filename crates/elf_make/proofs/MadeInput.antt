-- What is known of the input of a file that was made, and of where its bytes went.
use Rattle.std.proofs.Common.{◌≡◌, ◌∙◌, sym, ap, subst, refl, ℕ, ◌+◌, ◌*◌, ◌≤◌, ◌<◌, ◌⊎◌, inl, inr, List, Option, Some, Bool, true}
use Rattle.std.proofs.Common.{false, length, get_or, arith}
use Rattle.std.specs.Prelude.{Contains}
use Rattle.std.specs.Option.{option_map_or}
use Rattle.std.proofs.lemmas.Bool.{cases_lt}
use Rattle.elf_image.specs.declared.segment.Segment.{Segment}
use Rattle.elf_image.specs.faults.FileFaults.{IsSound}
use Rattle.elf_image.specs.declared.segment.TheConstants.{PHDR_SIZE}
use Rattle.elf_image.specs.file.Header.{e_phnum, segments_of}
use Rattle.elf_image.specs.file.ParsedFile.{IsElfOf}
use Rattle.elf_image.specs.memory.CodeSegment.{executable_segment}
use Rattle.elf_image.specs.memory.Image.{LoadOnce}
use Rattle.elf_image.specs.memory.Break.{rounded_up}
use Rattle.elf_image.proofs.ReadLists.{length-segments_of}
use Rattle.elf_plan.specs.declared.area.Area.{Area}
use Rattle.elf_plan.specs.Area.{code_segment, loads_end, no_segment, moved_by, step_of}
use Rattle.elf_make.specs.FileParts.{IsMade}
use Rattle.elf_plan.specs.NewSegments.{CrossesNot}
use Rattle.file_room.specs.Room.{greatest_align, new_segment_start}
use Rattle.elf_make.specs.Source.{Source, source_area}
use Rattle.elf_make.proofs.CellPlaces.{FileOnce}
use Rattle.elf_make.proofs.LaidOut.{fit-behind}
use Rattle.elf_make.proofs.Loads.{moved-behind, moved-before}
use Rattle.elf_make.proofs.SoundFiles.{load_once, alone, code-at, code-below, crosses_not, table_crosses_not}
use Rattle.elf_make.proofs.WrittenImages.{FitSegments}

-- nothing moves to the front
pub moved-above : (file_end step o : ℕ) → o ≤ moved_by file_end step o
moved-above file_end step o = cases (cases_lt o file_end)
  where
    cases : (o < file_end) ⊎ (file_end ≤ o) → o ≤ moved_by file_end step o
    cases (inl low) = let e = moved-before file_end step o low in omega arith
    cases (inr high) = let e = moved-behind file_end step o high in omega arith

-- and where the step is 0 all stay
pub moved-none : (file_end step o : ℕ) → step ≡ 0 → moved_by file_end step o ≡ o
moved-none file_end step o none = cases (cases_lt o file_end)
  where
    cases : (o < file_end) ⊎ (file_end ≤ o) → moved_by file_end step o ≡ o
    cases (inl low) = moved-before file_end step o low
    cases (inr high) = let e = moved-behind file_end step o high in omega arith

module _ (s : Source) (tight : Bool) (w : List ℕ) (read : IsElfOf s.elf.file.now s.elf) (sound : IsSound s.elf.file.now)
    (made : IsMade s tight w) where
  abbrev pub ps : List Segment
  ps = s.elf.segments.items

  pub ps-is : segments_of s.elf.file.now ≡ ps
  ps-is = sym read.segments

  pub input-once : LoadOnce ps
  input-once = subst LoadOnce ps-is (load_once s.elf.file.now sound)

  pub file-once : FileOnce ps
  file-once = subst FileOnce ps-is (λ k p q. alone s.elf.file.now sound p q k)

  pub found-file : executable_segment (segments_of s.elf.file.now) ≡ Some (made.layout.code, made.laid_out.executable)
  found-file = ap executable_segment ps-is ∙ made.laid_out.found

  -- the executable segment
  pub code-is : (d : Segment) → get_or ps made.layout.code d ≡ made.laid_out.executable
  code-is d = subst (λ (xs : List Segment). get_or xs made.layout.code d ≡ made.laid_out.executable) ps-is
      (code-at s.elf.file.now sound made.layout.code made.laid_out.executable found-file d)

  pub code-inside : made.layout.code < length ps
  code-inside = subst (λ (xs : List Segment). made.layout.code < length xs) ps-is
      (code-below s.elf.file.now sound made.layout.code made.laid_out.executable found-file)

  pub code_segment-is : code_segment ps ≡ made.laid_out.executable
  code_segment-is = ap (λ (o : Option (ℕ × Segment)). option_map_or (λ e. e.1) o no_segment) made.laid_out.found

  -- the area, and the end from which bytes move
  pub area-is : made.layout.area ≡ source_area s tight
  area-is = made.laid_out.area

  pub tight-is : made.layout.area.tight ≡ tight
  tight-is = ap (λ (a : Area). a.tight) area-is

  pub from-is : made.layout.shift.from ≡ made.laid_out.executable.offset + made.laid_out.executable.filesz
  from-is = ap (λ x. x.from) made.laid_out.shift ∙ ap (λ (p : Segment). p.offset + p.filesz) code_segment-is

  pub by-is : made.layout.shift.by ≡ step_of ps made.layout.area
  by-is = ap (λ x. x.by) made.laid_out.shift

  pub by-tight : tight ≡ true → made.layout.shift.by ≡ 0
  by-tight e = let is : made.layout.area.tight ≡ true = tight-is ∙ e in by-is ∙ rw is refl

  -- where its own segment starts
  pub offset-tight : tight ≡ true → made.layout.area.offset ≡ rounded_up (greatest_align ps) (loads_end ps)
  offset-tight e = ap (λ (a : Area). a.offset) area-is ∙ rw e refl

  pub address-tight : tight ≡ true → made.layout.area.address ≡ new_segment_start ps
  address-tight e = ap (λ (a : Area). a.address) area-is ∙ rw e refl

  pub crosses : (p : Segment) → Contains ps p → CrossesNot made.layout.shift.from p
  crosses p there before =
      let there_in : Contains (segments_of s.elf.file.now) p = subst (λ (xs : List Segment). Contains xs p) (sym ps-is) there in
      subst (λ (e : ℕ). p.offset + p.filesz ≤ e) (sym from-is)
      (crosses_not s.elf.file.now sound made.layout.code made.laid_out.executable found-file p there_in
      (subst (λ (e : ℕ). p.offset < e) from-is before))

  -- After the executable segment, in the file, the parts follow its end.
  pub parts-behind : tight ≡ false → FitSegments made.layout.parts ps made.layout.parts.keep made.layout.shift.by
  parts-behind e =
      fit-behind ps made.layout.area made.layout.shift made.layout.parts crosses (made.laid_out.behind (tight-is ∙ e))

  pub keep-behind : tight ≡ false → made.layout.parts.keep ≡ made.layout.shift.from
  keep-behind e = (made.laid_out.behind (tight-is ∙ e)).keeps

  -- The table of program headers in the input.
  pub table-count : e_phnum s.elf.file.now ≡ length ps
  table-count = sym (length-segments_of s.elf.file.now) ∙ ap length ps-is

  pub table-end : s.elf.phoff < made.layout.shift.from → s.elf.phoff + PHDR_SIZE * length ps ≤ made.layout.shift.from
  table-end low =
      let at = read.phoff in
      let end = from-is in
      let within = table_crosses_not s.elf.file.now sound made.layout.code made.laid_out.executable found-file
      (omega (arith, at, end, low)) in
      let count = table-count in
      omega (arith, at, end, within, count)
