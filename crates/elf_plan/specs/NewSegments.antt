-- The program headers of a written file, compared with those of the input.
use Rattle.std.specs.Prelude.{◌≡◌, ◌⊎◌, ℕ, ◌+◌, ◌-◌, ◌<◌, ◌≤◌, ◌&&◌, ◌==◌, not, Bool, true, false, List, ◌∷◌, ◌++◌}
use Rattle.std.specs.Prelude.{take, drop, length, IsTrue, slice_index_or}
use Rattle.elf_image.specs.declared.segment.Segment.{Segment}
use Rattle.elf_image.specs.declared.segment.TheConstants.{PT_LOAD, PF_R, PF_X, PT_GNU_EH_FRAME}
use Rattle.elf_image.specs.memory.Image.{is_load, end_of}
use Rattle.elf_plan.specs.declared.area.Area.{Area}
use Rattle.elf_plan.specs.declared.segments.TheConstants.{PT_PHDR}
use Rattle.elf_plan.specs.Area.{moved_by}
use Rattle.file_room.specs.Room.{greatest_align}

-- The bytes of a header don't start before an offset and end after it.
abbrev pub CrossesNot : ℕ → Segment → Type 0
CrossesNot file_end p = (p.offset < file_end) → p.offset + p.filesz ≤ file_end

-- A loaded segment of the input, and its form in the written file: its bytes have moved, and it may have grown.
pub record IsNewLoad (file_end step : ℕ) (p q : Segment) : Type 0 where
  pub kind : q.kind ≡ p.kind
  pub flags : q.flags ≡ p.flags
  pub vaddr : q.vaddr ≡ p.vaddr
  pub offset : 0 < p.filesz → q.offset ≡ moved_by file_end step p.offset
  pub sizes : ((q.filesz ≡ p.filesz) × (q.memsz ≡ p.memsz))
      ⊎ ((p.memsz ≡ p.filesz) × (p.filesz ≤ q.filesz) × (q.memsz ≡ q.filesz))

-- Headers for new parts: the unwind table's index and, in a tight file, the table of program headers.
abbrev pub NamesNew : Bool → ℕ → Type 0
NamesNew tight kind = (kind ≡ PT_GNU_EH_FRAME) ⊎ ((tight ≡ true) × (kind ≡ PT_PHDR))

-- A header of the input and its form in the written file. Only the executable segment may grow, up to `end`.
pub record IsRenewed (file_end step end : ℕ) (tight grows : Bool) (p q : Segment) : Type 0 where
  pub kind : q.kind ≡ p.kind
  pub load : IsTrue (is_load p) → IsNewLoad file_end step p q
  pub same : IsTrue (is_load p) → grows ≡ false → q.memsz ≡ p.memsz
  pub grown : grows ≡ true → end_of q ≡ end
  pub place : grows ≡ true → q.offset ≡ p.offset
  -- Other fields.
  pub flags : q.flags ≡ p.flags
  pub align : q.align ≡ p.align
  pub offset : (NamesNew tight p.kind → ⊥) → p.offset < file_end → q.offset ≡ p.offset
  pub vaddr : (NamesNew tight p.kind → ⊥) → q.vaddr ≡ p.vaddr
  pub paddr : (NamesNew tight p.kind → ⊥) → q.paddr ≡ p.paddr
  pub sizes : (NamesNew tight p.kind → ⊥) → grows ≡ false → (q.filesz ≡ p.filesz) × (q.memsz ≡ p.memsz)

-- Each header of a list, by index.
pub record AreRenewed (file_end step end : ℕ) (tight : Bool) (grows : ℕ → Bool) (ps qs : List Segment) : Type 0 where
  pub count : length qs ≡ length ps
  pub each : (i : ℕ) (d e : Segment) → i < length ps →
      IsRenewed file_end step end tight (grows i) (slice_index_or ps i d) (slice_index_or qs i e)

-- A segment whose bytes all come from the file, and which can be extended by the area.
pub record CanGrow (file_end end : ℕ) (p : Segment) : Type 0 where
  pub whole : p.memsz ≡ p.filesz
  pub ends : end_of p ≤ end
  pub stays : 0 < p.filesz → p.offset < file_end

abbrev pub grown : ℕ → Segment → Segment
grown end p = record p { filesz = end - p.vaddr; memsz = end - p.vaddr }

abbrev pub CanGrowAt : ℕ → ℕ → Bool → ℕ → List Segment → Type 0
CanGrowAt file_end end tight code ps =
    tight ≡ false → (d : Segment) → code < length ps → CanGrow file_end end (slice_index_or ps code d)

-- The executable segment, with index `code`, grows if the area is after it.
abbrev pub grows_at : Bool → ℕ → ℕ → Bool
grows_at tight code i = not tight && (i == code)

-- The header of the area's own segment, which is readable and executable.
abbrev pub area_segment : Area → ℕ → Segment
area_segment area align = record {
  kind = PT_LOAD;
  flags = PF_R + PF_X;
  offset = area.offset;
  vaddr = area.address;
  paddr = area.address;
  filesz = area.end - area.address;
  memsz = area.end - area.address;
  align = align;
}

abbrev pub inserted : ℕ → Segment → List Segment → List Segment
inserted at new segments = take at segments ++ (new ∷ drop at segments)

-- All headers: those of the input and, if the area has its own segment, one more after the last PT_LOAD.
pub record AreNewHeaders (file_end step : ℕ) (area : Area) (code : ℕ) (ps qs : List Segment) : Type 0 where
  pub renewed : List Segment
  pub are : AreRenewed file_end step area.end area.tight (grows_at area.tight code) ps renewed
  pub kept : area.tight ≡ false → qs ≡ renewed
  pub at : ℕ
  pub within : at ≤ length ps
  pub behind : area.tight ≡ true → (k : ℕ) (d : Segment) → at ≤ k → k < length ps →
      is_load (slice_index_or ps k d) ≡ false
  pub last : area.tight ≡ true → 0 < at → (d : Segment) → is_load (slice_index_or ps (at - 1) d) ≡ true
  pub more : area.tight ≡ true → qs ≡ inserted at (area_segment area (greatest_align ps)) renewed
