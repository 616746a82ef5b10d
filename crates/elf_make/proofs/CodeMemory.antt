-- Where new code has room after the executable segment, that has memory: one without would start above itself.
use Rattle.std.proofs.Common.{◌≡◌, sym, ap, subst, refl, ℕ, ◌≤◌, ◌<◌, ◌⊎◌, inl, inr, List, Option, Some, None, Bool, true, false}
use Rattle.std.proofs.Common.{IsTrue, length, get_or, arith}
use Rattle.std.specs.Prelude.{nat_lt}
use Rattle.std.specs.Option.{option_map_or}
use Rattle.std.proofs.lemmas.Bool.{cases_lt}
use Rattle.elf_image.specs.declared.segment.Segment.{Segment}
use Rattle.rv_code.specs.layout.FunctionLists.{address_end}
use Rattle.elf_image.specs.file.Header.{header_size}
use Rattle.elf_image.specs.memory.CodeSegment.{executable_segment, executable_end}
use Rattle.elf_image.specs.memory.Image.{is_load, end_of}
use Rattle.elf_plan.specs.Area.{table_end}
use Rattle.file_room.specs.Room.{area_limit, area_start, code_end, room}
use Rattle.elf_make.specs.Source.{Source, HasPlace, source_area}
use Rattle.file_room.proofs.Limits.{limit-below}
use Rattle.elf_make.proofs.SameBreak.{rounded_up-above}

-- a table ends after what it follows
pub table_end-above : (align end : ℕ) (o : Option ℕ) → 0 < align → end ≤ table_end align end o
table_end-above align end None some = omega arith
table_end-above align end (Some size) some = let up = rounded_up-above align end some in omega arith

-- where the executable segment ends
pub code_end-is : (ps : List Segment) (code : ℕ) (p : Segment) → executable_segment ps ≡ Some (code, p) → code_end ps ≡ end_of p
code_end-is ps code p found = ap (λ (o : Option (ℕ × Segment)). option_map_or (λ e. end_of e.1) o 0) found

-- the new code is in the area
pub area-some : (s : Source) (tight : Bool) → HasPlace s tight → (source_area s tight).start < (source_area s tight).end
area-some s tight placed =
    let some = placed.some in
    let frames = table_end-above 8 (source_area s tight).code_end s.frames (omega arith) in
    let index = table_end-above 4 (table_end 8 (source_area s tight).code_end s.frames) s.index (omega arith) in
    omega arith

pub code-memory : (s : Source) (code : ℕ) (p : Segment) → executable_segment s.elf.segments.items ≡ Some (code, p) →
    code < length s.elf.segments.items → ((d : Segment) → get_or s.elf.segments.items code d ≡ p) → IsTrue (is_load p) →
    HasPlace s false → 0 < p.memsz
code-memory s code p found inside is load placed = cases (cases_lt 0 p.memsz)
  where
    ps : List Segment
    ps = s.elf.segments.items

    end-is : code_end ps ≡ end_of p
    end-is = code_end-is ps code p found

    from : code_end ps ≤ area_start ps
    from = rounded_up-above 16 (code_end ps) (omega arith)

    -- without memory it is at the limit of its own room
    limit : p.memsz ≤ 0 → area_limit ps ≤ area_start ps
    limit none =
        let below =
        limit-below (code_end ps) ps address_end code p inside (subst (λ (q : Segment). IsTrue (is_load q)) (sym (is p)) load)
        (subst (λ (q : Segment). code_end ps ≤ q.vaddr) (sym (is p)) (omega (arith, end-is, none))) in
        let low : area_limit ps ≤ p.vaddr = subst (λ (q : Segment). area_limit ps ≤ q.vaddr) (is p) below in
        omega (arith, low, end-is, from)

    no-room : (b : Bool) → nat_lt (executable_end ps) header_size ≡ b → area_limit ps ≤ area_start ps → room ps ≤ 0
    no-room true e low = rw e (omega arith)
    no-room false e low = rw e (omega (arith, low))

    cases : (0 < p.memsz) ⊎ (p.memsz ≤ 0) → 0 < p.memsz
    cases (inl some) = some
    cases (inr none) =
        let fits = placed.fits in
        let some = area-some s false placed in
        let full = no-room (nat_lt (executable_end ps) header_size) refl (limit none) in
        absurd (omega (arith, fits, some, full))
