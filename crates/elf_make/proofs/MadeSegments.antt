-- The segments of a file that was made: those of the input, and the one with the new area.
use Rattle.std.proofs.Common.{◌≡◌, ◌∙◌, sym, ap, subst, refl, ℕ, ◌+◌, ◌*◌, ◌≤◌, ◌<◌, ◌⊎◌, inl, inr, List, Bool, true, false}
use Rattle.std.proofs.Common.{IsTrue, length, get_or, arith}
use Rattle.std.specs.Prelude.{Contains, not, ◌&&◌, ◌==◌}
use Rattle.std.proofs.lemmas.Bool.{eq-eqb}
use Rattle.std.proofs.lemmas.List.Elements.{Contains-get_or}
use Rattle.elf_image.specs.declared.segment.Segment.{Segment}
use Rattle.elf_image.specs.declared.segment.TheConstants.{PT_LOAD, PF_W, PF_X, PHDR_SIZE}
use Rattle.elf_image.specs.faults.FileFaults.{IsSound}
use Rattle.elf_image.specs.file.Header.{is_set}
use Rattle.elf_image.specs.file.ParsedFile.{IsElfOf}
use Rattle.elf_image.specs.memory.Image.{is_load, end_of, has_flag}
use Rattle.elf_plan.specs.declared.area.Area.{Area}
use Rattle.elf_plan.specs.Area.{table_end}
use Rattle.elf_make.specs.FileParts.{IsMade}
use Rattle.elf_plan.specs.NewSegments.{IsNewLoad, IsRenewed, area_segment, grows_at}
use Rattle.file_room.specs.Room.{area_align, area_above, area_start, code_end, greatest_align, new_segment_start}
use Rattle.elf_make.specs.Source.{Source, source_area}
use Rattle.elf_make.proofs.CodeMemory.{table_end-above, code_end-is}
use Rattle.elf_make.proofs.MadeInput.{found-file, code-is, code-inside, code_segment-is, address-tight}
use Rattle.elf_plan.proofs.NewSegments.{renewed-load, inserted-contains, inserted-new, length-inserted}
use Rattle.elf_make.proofs.SameBreak.{rounded_up-above}
use Rattle.elf_make.proofs.SoundFiles.{code-load, code-whole, code-executes, code-unwritable}
use Rattle.elf_make.proofs.WrittenImages.{AreNewLoads}

-- The segment that loads the area from the file, to its end.
pub record HoldsArea (area : Area) (segments : List Segment) : Type 0 where
  pub segment : Segment
  pub there : Contains segments segment
  pub load : IsTrue (is_load segment)
  pub address : segment.vaddr ≡ area.address
  pub offset : segment.offset ≡ area.offset
  pub end : segment.vaddr + segment.filesz ≡ area.end
  pub whole : segment.memsz ≡ segment.filesz
  pub executes : has_flag PF_X segment ≡ true
  pub unwritten : has_flag PF_W segment ≡ false

module _ (s : Source) (tight : Bool) (w : List ℕ) (made : IsMade s tight w) where
  abbrev ps : List Segment
  ps = s.elf.segments.items

  abbrev area : Area
  area = made.layout.area

  abbrev own : Segment
  own = area_segment area (greatest_align ps)

  is-tight : area.tight ≡ tight
  is-tight = ap (λ (a : Area). a.tight) made.laid_out.area

  within : made.are_headers.at ≤ length made.are_headers.renewed
  within = let count = made.are_headers.are.count in let inside = made.are_headers.within in omega (arith, count, inside)

  pub count-more : tight ≡ true → length made.segments ≡ length ps + 1
  count-more e =
      ap length (made.are_headers.more (is-tight ∙ e)) ∙ length-inserted made.are_headers.at own made.are_headers.renewed within
      ∙ ap (λ (n : ℕ). n + 1) made.are_headers.are.count

  -- each loaded segment of the input has one in its place
  pub new-loads : AreNewLoads made.layout.shift.from made.layout.shift.by ps made.segments
  new-loads p there load = cases area.tight refl
    where
      cases : (b : Bool) → area.tight ≡ b →
          (q : Segment) × Contains made.segments q × IsNewLoad made.layout.shift.from made.layout.shift.by p q
      cases false e =
          let to = renewed-load made.layout.shift.from made.layout.shift.by area.end area.tight
          (grows_at area.tight made.layout.code) ps made.are_headers.renewed made.are_headers.are p there load in
          (to.0, subst (λ (xs : List Segment). Contains xs to.0) (sym (made.are_headers.kept e)) to.1, to.2)
      cases true e =
          let to = renewed-load made.layout.shift.from made.layout.shift.by area.end area.tight
          (grows_at area.tight made.layout.code) ps made.are_headers.renewed made.are_headers.are p there load in (
            to.0,
            subst (λ (xs : List Segment). Contains xs to.0) (sym (made.are_headers.more e))
                (inserted-contains made.are_headers.at own made.are_headers.renewed to.0 within to.1),
            to.2,
          )

  module _ (read : IsElfOf s.elf.file.now s.elf) (sound : IsSound s.elf.file.now) where
    -- The area's places.

    code-ends : area.start + length s.code ≡ area.code_end
    code-ends =
        ap (λ (a : Area). a.start + length s.code) made.laid_out.area ∙ sym (ap (λ (a : Area). a.code_end) made.laid_out.area)

    area-ends : area.code_end ≤ area.end
    area-ends =
        let code_end : area.code_end ≡ (source_area s tight).code_end = ap (λ (a : Area). a.code_end) made.laid_out.area in
        let end : area.end ≡ (source_area s tight).end = ap (λ (a : Area). a.end) made.laid_out.area in
        let frames = table_end-above 8 (source_area s tight).code_end s.frames (omega arith) in
        let index = table_end-above 4 (table_end 8 (source_area s tight).code_end s.frames) s.index (omega arith) in
        omega (arith, code_end, end, frames, index)

    pub area-holds_code : area.start + length s.code ≤ area.end
    area-holds_code = let a = code-ends in let b = area-ends in omega (arith, a, b)

    -- after its own segment's table, or after the executable segment
    start-tight : tight ≡ true → area.start ≡ area_above ps
    start-tight e = ap (λ (a : Area). a.start) made.laid_out.area ∙ rw e refl

    pub starts-above : tight ≡ true → area.address + PHDR_SIZE * (length ps + 1) ≤ area.start
    starts-above e =
        let start = start-tight e in
        let address = address-tight s tight w read sound made e in
        let up = rounded_up-above area_align (new_segment_start ps + PHDR_SIZE * (length ps + 1)) (omega arith) in
        omega (arith, start, address, up)

    behind-address : tight ≡ false → area.address ≡ made.laid_out.executable.vaddr
    behind-address e = ap (λ (a : Area). a.address) made.laid_out.area
        ∙ rw e (ap (λ (p : Segment). p.vaddr) (code_segment-is s tight w read sound made))

    behind-offset : tight ≡ false → area.offset ≡ made.laid_out.executable.offset
    behind-offset e = ap (λ (a : Area). a.offset) made.laid_out.area
        ∙ rw e (ap (λ (p : Segment). p.offset) (code_segment-is s tight w read sound made))

    pub starts-behind : tight ≡ false → area.address ≤ area.start
    starts-behind e =
        let start : area.start ≡ area_start ps = ap (λ (a : Area). a.start) made.laid_out.area ∙ rw e refl in
        let address = behind-address e in
        let ends = code_end-is ps made.layout.code made.laid_out.executable made.laid_out.found in
        let up = rounded_up-above area_align (code_end ps) (omega arith) in
        omega (arith, start, address, ends, up)

    -- The segment that holds it.

    own-holds : tight ≡ true → HoldsArea area made.segments
    own-holds e = record {
      segment = own;
      there = subst (λ (xs : List Segment). Contains xs own) (sym (made.are_headers.more (is-tight ∙ e)))
          (inserted-new made.are_headers.at own made.are_headers.renewed within);
      load = refl;
      address = refl;
      offset = refl;
      end = let from = starts-above e in let to = area-holds_code in omega (arith, from, to);
      whole = refl;
      executes = refl;
      unwritten = refl;
    }

    grown-holds : tight ≡ false → HoldsArea area made.segments
    grown-holds e = record {
      segment = q;
      there = subst (λ (xs : List Segment). Contains xs q) (sym (made.are_headers.kept not_tight))
          (Contains-get_or made.are_headers.renewed made.layout.code p (omega (arith, inside, count)));
      load = subst (λ (k : ℕ). IsTrue (k == PT_LOAD)) (sym renewed.kind) load;
      address = vaddr;
      offset = renewed.place grows ∙ sym (behind-offset e);
      end =
          let same = sized (renewed.load load).sizes in
          let ends : end_of q ≡ area.end = renewed.grown grows in
          omega (arith, same, ends);
      whole = sized (renewed.load load).sizes;
      executes = flag PF_X (code-executes s.elf.file.now sound made.layout.code p (found-file s tight w read sound made));
      unwritten = ap (λ (f : ℕ). is_set PF_W f) renewed.flags
          ∙ code-unwritable s.elf.file.now sound made.layout.code p (found-file s tight w read sound made);
    }
      where
        not_tight : area.tight ≡ false
        not_tight = is-tight ∙ e

        p : Segment
        p = made.laid_out.executable

        q : Segment
        q = get_or made.are_headers.renewed made.layout.code p

        inside : made.layout.code < length ps
        inside = code-inside s tight w read sound made

        count : length made.are_headers.renewed ≡ length ps
        count = made.are_headers.are.count

        grows : grows_at area.tight made.layout.code made.layout.code ≡ true
        grows = ap (λ (b : Bool). not b && (made.layout.code == made.layout.code)) not_tight
            ∙ eq-eqb made.layout.code made.layout.code refl

        renewed : IsRenewed made.layout.shift.from made.layout.shift.by area.end area.tight
            (grows_at area.tight made.layout.code made.layout.code) p q
        renewed =
            subst (λ (x : Segment). IsRenewed made.layout.shift.from made.layout.shift.by area.end area.tight
            (grows_at area.tight made.layout.code made.layout.code) x q) (code-is s tight w read sound made p)
            (made.are_headers.are.each made.layout.code p p inside)

        load : IsTrue (is_load p)
        load = code-load s.elf.file.now sound made.layout.code p (found-file s tight w read sound made)

        whole : p.filesz ≡ p.memsz
        whole = code-whole s.elf.file.now sound made.layout.code p (found-file s tight w read sound made)

        vaddr : q.vaddr ≡ area.address
        vaddr = (renewed.load load).vaddr ∙ sym (behind-address e)

        flag : (f : ℕ) → has_flag f p ≡ true → has_flag f q ≡ true
        flag f set = ap (λ (x : ℕ). is_set f x) renewed.flags ∙ set

        sized : ((q.filesz ≡ p.filesz) × (q.memsz ≡ p.memsz))
            ⊎ ((p.memsz ≡ p.filesz) × (p.filesz ≤ q.filesz) × (q.memsz ≡ q.filesz)) → q.memsz ≡ q.filesz
        sized (inl same) = same.1 ∙ sym whole ∙ sym same.0
        sized (inr more) = more.2

    pub holds-area : HoldsArea area made.segments
    holds-area = cases tight refl
      where
        cases : (b : Bool) → tight ≡ b → HoldsArea area made.segments
        cases true e = own-holds e
        cases false e = grown-holds e
