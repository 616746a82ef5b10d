-- Facts of an executable that the reader accepts: its loaded addresses, its bytes, and numbers of several bytes.
use Rattle.std.proofs.Common.{◌≡◌, ℕ, ◌+◌, ◌-◌, ◌/◌, ◌%◌, ◌^◌, ◌<◌, List, Option, Some, None, Bool, true, false, refl, sym}
use Rattle.std.proofs.Common.{ap, ◌∙◌, subst, arith, inl, inr, get_or, length, All}
use Rattle.std.specs.Prelude.{if◌then◌else◌, nat_lt, IsTrue, option_map, unwrap_or, slice_index}
use Rattle.std.specs.Option.{option_map_or}
use Rattle.std.proofs.lemmas.Bool.{and_parts, leb-true, cases_lt}
use Rattle.std.proofs.lemmas.List.{get_or_default, get_or_past}
use Rattle.std.proofs.lemmas.Grind.{common_steps}
use Rattle.rv_code.specs.machine.Machine.{little}
use Rattle.rb_bytes.specs.declared.fault.FaultKind.TheVariants.{HighAddress, ExecSegments}
use Rattle.elf_image.specs.declared.elf.Elf.{Elf}
use Rattle.elf_image.specs.declared.segment.Segment.{Segment}
use Rattle.elf_image.specs.file.Header.{segment, segments_of}
use Rattle.elf_image.specs.memory.Image.{is_loaded_with, has_flag, segment_of, loads_address, image_byte, byte_of, LoadOnce}
use Rattle.rv_code.specs.machine.MemoryNumbers.{bytes_in, number_in}
use Rattle.rv_code.specs.layout.FunctionLists.{address_end}
use Rattle.elf_image.specs.file.ParsedFile.{IsElfOf}
use Rattle.rv_memory.specs.Start.{start_memory, stack_byte, in_stack}
use Rattle.rb_bytes.proofs.Searches.{find-found}
use Rattle.elf_image.proofs.ReadLists.{get_or-segments, LoadOnce-apart}
use Rattle.elf_image.specs.memory.Executables.{Executable, executable_of, executable_read, memory_of}
use Rattle.move_law.specs.Laws.{IsAcceptedCode, IsSoundExecutable}
use Rattle.rv_code.proofs.machine.LowBytes.{little_at}
use Rattle.move_law.proofs.files.Numbers.{bytes_at_is}
use Rattle.rv_code.specs.layout.ProgramCode.{ProgramCode}

-- An Elf that was read is the executable of its bytes.

pub executable_read-is : (elf : Elf) → IsElfOf elf.file.now elf → executable_read elf ≡ executable_of elf.file.now
executable_read-is elf is = λ i. record { file = elf.file.now; segments = is.segments i; entry = is.entry i }

pub accepted_executable : (elf : Elf) (code : ProgramCode) → IsAcceptedCode elf code → IsSoundExecutable (executable_read elf)
accepted_executable elf code accepted = grind (arith, common_steps, executable_read-is)

-- an address that is loaded with a flag has a byte
pub loaded_byte : (x : Executable) (flag a : ℕ) → is_loaded_with flag x.segments a ≡ true →
    (byte : ℕ) × (memory_of x a ≡ Some byte)
loaded_byte x flag a is = by (segment_of x.segments a) is
  where
    by : (o : Option Segment) → option_map_or (has_flag flag) o false ≡ true →
        (byte : ℕ) × (option_map (byte_of x.file a) o ≡ Some byte)
    by None e = absurd (cc)
    by (Some p) e = (byte_of x.file a p, refl)

pub stack_high : (a : ℕ) → in_stack a ≡ true → a < address_end → ⊥
stack_high a e low = grind (arith, common_steps, and_parts, leb-true)

module _ (x : Executable) (sound : IsSoundExecutable x) where
  segments_are : x.segments ≡ segments_of x.file
  segments_are = ap (λ (y : Executable). y.segments) sound.is

  segment_low : (a : ℕ) (p : Segment) → segment_of x.segments a ≡ Some p → a < address_end
  segment_low a p e =
      let e' : segment_of (segments_of x.file) a ≡ Some p = subst (λ (l : List Segment). segment_of l a ≡ Some p)
      segments_are e in
      let found = find-found (loads_address a) (segments_of x.file) p e' in
      let at = get_or-segments x.file (found.1).0 p (found.1).1 in
      let p_is : segment x.file (found.1).0 ≡ p = sym at.1 ∙ (found.1).2 in
      elim (cases_lt a address_end) [
        | inl low ↦ low
        | inr high ↦
            let loads = subst (λ q. IsTrue (loads_address a q)) (sym p_is) found.0 in
            absurd (sound.sound HighAddress a ((found.1).0, at.0, (loads, high)))
      ]

  pub byte_low : (a byte : ℕ) → memory_of x a ≡ Some byte → a < address_end
  byte_low a byte e = grind (arith, common_steps, segment_low)

  pub load_once : LoadOnce x.segments
  load_once =
      subst LoadOnce (sym segments_are)
      (LoadOnce-apart x.file (λ place shares. sound.sound ExecSegments place (inr (inl (inl shares)))))

  pub byte_small : (a b : ℕ) → memory_of x a ≡ Some b → b < 256
  byte_small a b e = by (segment_of x.segments a) e
    where
      at : (k : ℕ) → slice_index x.file k < 256
      at k = elim (cases_lt k (length x.file)) [
        | inl inside ↦ sound.bytes k 0 inside
        | inr after ↦ let none = get_or_past x.file k 0 after in omega (arith, none)
      ]

      of : (p : Segment) → byte_of x.file a p < 256
      of p = cases (nat_lt (a - p.vaddr) p.filesz)
        where
          cases : (t : Bool) → (if t then slice_index x.file (p.offset + (a - p.vaddr)) else 0) < 256
          cases true = at (p.offset + (a - p.vaddr))
          cases false = omega arith

      by : (o : Option Segment) → option_map (byte_of x.file a) o ≡ Some b → b < 256
      by None k = absurd (cc)
      by (Some p) k = let same : byte_of x.file a p ≡ b = cc in let low = of p in omega (arith, same, low)

  -- one byte of a loaded number
  pub number_byte : (a n v i : ℕ) → number_in (memory_of x) a n ≡ Some v → i < n →
      memory_of x (a + i) ≡ Some (v / 256 ^ i % 256)
  number_byte a n v i e h = by (bytes_in (memory_of x) a n) refl e
    where
      by : (o : Option (List ℕ)) → bytes_in (memory_of x) a n ≡ o → option_map little o ≡ Some v →
          memory_of x (a + i) ≡ Some (v / 256 ^ i % 256)
      by None k l = absurd (cc)
      by (Some bs) k l =
          let at = bytes_at_is (memory_of x) a n bs k in
          let len = at.length_is in
          let same : little bs ≡ v = cc in
          let small : All (λ b. b < 256) bs = λ j d within.
          let f = byte_small (a + j) (get_or bs j 0) (at.each j (omega (arith, len, within))) in
          let g = get_or_default bs j d 0 within in
          omega (arith, f, g) in
          at.each i h ∙ ap Some (little_at bs i small (omega (arith, len, h)) ∙ ap (λ (w : ℕ). w / 256 ^ i % 256) same)

  -- loaded bytes are in memory at the start
  pub loaded_start : (args : List (List ℕ)) (a b : ℕ) → memory_of x a ≡ Some b → start_memory x.file args a ≡ b
  loaded_start args a b e = by (in_stack a) refl
    where
      there : image_byte x.file (segments_of x.file) a ≡ Some b
      there = subst (λ (l : List Segment). image_byte x.file l a ≡ Some b) segments_are e

      by : (t : Bool) → in_stack a ≡ t →
          (if t then stack_byte x.file args a else unwrap_or (image_byte x.file (segments_of x.file) a) 0) ≡ b
      by true s = absurd (stack_high a s (byte_low a b e))
      by false s = rw there refl
