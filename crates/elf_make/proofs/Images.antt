-- The memory of a written file: what the input's segments loaded is loaded from where their bytes went, and what is in
-- a segment's bytes is in memory.
use Rattle.std.proofs.Common.{◌≡◌, ◌∙◌, sym, ap, subst, refl, ℕ, ◌+◌, ◌-◌, ◌≤◌, ◌<◌, ◌⊎◌, inl, inr, List, Option, Some, None}
use Rattle.std.proofs.Common.{Bool, true, false, IsTrue, length, get_or, arith}
use Rattle.std.specs.Prelude.{Contains, nat_lt, IsSome, IsFalse, option_map}
use Rattle.std.specs.Option.{option_map_or}
use Rattle.std.proofs.lemmas.Bool.{lt-ltb, le-ltb, ltb-true, ltb-false}
use Rattle.elf_image.specs.declared.segment.Segment.{Segment}
use Rattle.elf_image.specs.file.Header.{is_set}
use Rattle.elf_image.specs.memory.Image.{image_byte, byte_of, is_load, has_flag, loads_address, segment_of, end_of, LoadOnce}
use Rattle.elf_image.proofs.LoadLemmas.{loads-parts, loads-from_parts}
use Rattle.rb_bytes.proofs.Searches.{find-found, find-only}
use Rattle.elf_make.specs.CarriedBytes.{CarriesSegment, CarriesSegments, CarriesByte, CarriesImage, HoldsBytes}
use Rattle.elf_parts.specs.Patches.{Stands}

-- a segment that loads an address is the one that does
pub segment_of-once : (qs : List Segment) (a : ℕ) (q : Segment) → LoadOnce qs → Contains qs q → IsTrue (loads_address a q) →
    segment_of qs a ≡ Some q
segment_of-once qs a q once there loads =
    find-only (loads_address a) qs q there loads (λ y in_list also. once a y q in_list there also loads)

-- the bytes of a segment, by their places in it
pub byte_of-from_file : (file : List ℕ) (a : ℕ) (p : Segment) → a - p.vaddr < p.filesz →
    byte_of file a p ≡ get_or file (p.offset + (a - p.vaddr)) 0
byte_of-from_file file a p inside = rw (lt-ltb (a - p.vaddr) p.filesz inside) refl

byte_of-zero : (file : List ℕ) (a : ℕ) (p : Segment) → p.filesz ≤ a - p.vaddr → byte_of file a p ≡ 0
byte_of-zero file a p outside = rw (le-ltb (a - p.vaddr) p.filesz outside) refl

-- The byte of a segment that is carried.
byte_of-carried : (input output : List ℕ) (changed : ℕ → Bool) (p q : Segment) (a : ℕ) → p.vaddr ≤ a → a < end_of p →
    CarriesSegment input output changed p q → IsFalse (changed a) → byte_of output a q ≡ byte_of input a p
byte_of-carried input output changed p q a low high carries kept = cases (nat_lt (a - p.vaddr) p.filesz) refl
  where
    same_place : a - q.vaddr ≡ a - p.vaddr
    same_place = ap (λ (v : ℕ). a - v) carries.vaddr

    back : p.vaddr + (a - p.vaddr) ≡ a
    back = omega arith

    from_file : (a - p.vaddr < p.filesz) →
        (q.filesz ≡ p.filesz) ⊎ ((p.memsz ≡ p.filesz) × (p.filesz ≤ q.filesz)) → a - q.vaddr < q.filesz
    from_file inside (inl same) = omega (arith, same_place)
    from_file inside (inr grown) = let more : p.filesz ≤ q.filesz = grown.1 in omega (arith, same_place)

    from_zeros : (p.filesz ≤ a - p.vaddr) →
        (q.filesz ≡ p.filesz) ⊎ ((p.memsz ≡ p.filesz) × (p.filesz ≤ q.filesz)) → q.filesz ≤ a - q.vaddr
    from_zeros outside (inl same) = omega (arith, same_place)
    from_zeros outside (inr grown) = let whole : p.memsz ≡ p.filesz = grown.0 in absurd (omega arith)

    cases : (b : Bool) → nat_lt (a - p.vaddr) p.filesz ≡ b → byte_of output a q ≡ byte_of input a p
    cases true e =
        let inside : a - p.vaddr < p.filesz = ltb-true (a - p.vaddr) p.filesz e in
        byte_of-from_file output a q (from_file inside carries.from_file)
        ∙ ap (λ (k : ℕ). get_or output (q.offset + k) 0) same_place
        ∙ carries.bytes (a - p.vaddr) inside (omega arith) (subst (λ (b : ℕ). IsFalse (changed b)) (sym back) kept)
        ∙ sym (byte_of-from_file input a p inside)
    cases false e =
        let outside : p.filesz ≤ a - p.vaddr = ltb-false (a - p.vaddr) p.filesz e in
        byte_of-zero output a q (from_zeros outside carries.from_file) ∙ sym (byte_of-zero input a p outside)

-- a segment that is carried is loaded at the same addresses
carried-loads : (input output : List ℕ) (changed : ℕ → Bool) (p q : Segment) (a : ℕ) → p.vaddr ≤ a → a < end_of p →
    CarriesSegment input output changed p q → IsTrue (loads_address a q)
carried-loads input output changed p q a low high carries =
    let from : q.vaddr ≡ p.vaddr = carries.vaddr in
    let more : p.memsz ≤ q.memsz = carries.memory in
    loads-from_parts a q carries.loaded (omega arith) (omega arith)

-- the memory is carried where each loaded segment is
pub image-carried : (input output : List ℕ) (changed : ℕ → Bool) (ps qs : List Segment) → LoadOnce qs →
    CarriesSegments input output changed ps qs → CarriesImage input output changed ps qs
image-carried input output changed ps qs once carries a byte loaded = cases (segment_of ps a) refl
  where
    found : (p : Segment) → segment_of ps a ≡ Some p → CarriesByte output (changed a) ps qs a byte
    found p e =
        let at : (loads_address a p ≡ true) × Contains ps p = find-found (loads_address a) ps p e in
        let parts = loads-parts a p at.0 in
        let to = carries p at.1 parts.0 in
        let q : Segment = to.0 in
        let how : CarriesSegment input output changed p q = to.2 in
        let there : segment_of qs a ≡ Some q =
        segment_of-once qs a q once to.1 (carried-loads input output changed p q a parts.1 parts.2 how) in
        let old : Some (byte_of input a p) ≡ Some byte =
        ap (λ (o : Option Segment). option_map (byte_of input a) o) (sym e) ∙ loaded in
        let new : image_byte output qs a ≡ Some (byte_of output a q) =
        ap (λ (o : Option Segment). option_map (byte_of output a) o) there in
        record {
          is_loaded = subst (λ (o : Option ℕ). IsSome o) (sym new) (search);
          rights = λ flag.
              ap (λ (o : Option Segment). option_map_or (has_flag flag) o false) e
              ∙ ap (λ (f : ℕ). is_set flag f) (sym how.flags)
              ∙ sym (ap (λ (o : Option Segment). option_map_or (has_flag flag) o false) there);
          same = λ kept. new ∙ ap (λ (b : ℕ). Some b) (byte_of-carried input output changed p q a parts.1 parts.2 how kept) ∙ old;
        }

    cases : (o : Option Segment) → segment_of ps a ≡ o → CarriesByte output (changed a) ps qs a byte
    cases None e =
        let none : None ≡ Some byte = ap (λ (o : Option Segment). option_map (byte_of input a) o) (sym e) ∙ loaded in absurd (cc)
    cases (Some p) e = found p e

-- bytes that are in the part of the file that a segment loads
pub holds-stands : (file : List ℕ) (qs : List Segment) (q : Segment) (a o : ℕ) (bytes : List ℕ) → LoadOnce qs → Contains qs q →
    IsTrue (is_load q) → q.vaddr ≤ a → o ≡ q.offset + (a - q.vaddr) → (a - q.vaddr) + length bytes ≤ q.filesz →
    q.filesz ≤ q.memsz → Stands file o bytes → HoldsBytes file qs a bytes
holds-stands file qs q a o bytes once there load from at inside whole stands j below =
    let loads : IsTrue (loads_address (a + j) q) = loads-from_parts (a + j) q load (omega arith) (omega arith) in
    let place : q.offset + ((a + j) - q.vaddr) ≡ o + j = omega arith in
    ap (λ (p : Option Segment). option_map (byte_of file (a + j)) p) (segment_of-once qs (a + j) q once there loads)
    ∙ ap (λ (b : ℕ). Some b)
    (byte_of-from_file file (a + j) q (omega arith) ∙ ap (λ (k : ℕ). get_or file k 0) place ∙ stands.same j below)
