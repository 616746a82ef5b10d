-- What a written file has of its input's memory, and what else it has there.
use Rattle.std.specs.Prelude.{◌≡◌, ◌⊎◌, ℕ, ◌+◌, ◌<◌, ◌≤◌, Bool, List, Contains, Some, IsTrue, IsFalse, IsSome}
use Rattle.std.specs.Prelude.{slice_index, length}
use Rattle.elf_image.specs.declared.segment.Segment.{Segment}
use Rattle.elf_image.specs.memory.Image.{image_byte, is_load, is_loaded_with}

-- A loaded segment of the input, and the one of the written file that loads the same. Its memory may have grown at the
-- end. Of the addresses that may have changed nothing is asked except that they are loaded.
pub record CarriesSegment (input output : List ℕ) (changed : ℕ → Bool) (p q : Segment) : Type 0 where
  pub loaded : IsTrue (is_load q)
  pub flags : q.flags ≡ p.flags
  pub vaddr : q.vaddr ≡ p.vaddr
  pub memory : p.memsz ≤ q.memsz
  pub from_file : (q.filesz ≡ p.filesz) ⊎ ((p.memsz ≡ p.filesz) × (p.filesz ≤ q.filesz))
  pub bytes : (k : ℕ) → k < p.filesz → k < p.memsz → IsFalse (changed (p.vaddr + k)) →
      slice_index output (q.offset + k) ≡ slice_index input (p.offset + k)

abbrev pub CarriesSegments : List ℕ → List ℕ → (ℕ → Bool) → List Segment → List Segment → Type 0
CarriesSegments input output changed ps qs =
    (p : Segment) → Contains ps p → IsTrue (is_load p) →
    (q : Segment) × Contains qs q × CarriesSegment input output changed p q

-- an address of the input in the written file
pub record CarriesByte (output : List ℕ) (changed : Bool) (ps qs : List Segment) (a byte : ℕ) : Type 0 where
  pub is_loaded : IsSome (image_byte output qs a)
  pub rights : (flag : ℕ) → is_loaded_with flag ps a ≡ is_loaded_with flag qs a
  pub same : IsFalse changed → image_byte output qs a ≡ Some byte

-- the memory of the input is there
abbrev pub CarriesImage : List ℕ → List ℕ → (ℕ → Bool) → List Segment → List Segment → Type 0
CarriesImage input output changed ps qs =
    (a byte : ℕ) → image_byte input ps a ≡ Some byte → CarriesByte output (changed a) ps qs a byte

-- bytes in memory, from an address on
abbrev pub HoldsBytes : List ℕ → List Segment → ℕ → List ℕ → Type 0
HoldsBytes file segments a bytes = (j : ℕ) → j < length bytes →
    image_byte file segments (a + j) ≡ Some (slice_index bytes j)
