-- The bytes of a file that a segment loads from an address on.
use Rattle.std.proofs.Common.{◌≡◌, ◌∙◌, sym, ap, ℕ, ◌+◌, ◌-◌, ◌*◌, ◌<◌, ◌≤◌, if◌then◌else◌, IsTrue, List, take, drop, length}
use Rattle.std.proofs.Common.{slice_index, subst, ⊎_elim, Option, Some, arith}
use Rattle.std.specs.Option.{option_map, unwrap_or}
use Rattle.std.proofs.lemmas.Bool.{cases_lt, lt-ltb}
use Rattle.std.proofs.lemmas.List.{get_or-take, get_or-drop, length-take, length-drop}
use Rattle.elf_code.specs.Parts.{halfword_at}
use Rattle.elf_image.specs.declared.elf.Elf.{Elf}
use Rattle.elf_image.specs.declared.segment.Segment.{Segment}
use Rattle.elf_image.specs.memory.Image.{byte_of, loads_address, segment_of}
use Rattle.elf_image.specs.memory.LoadedBytes.{byte_at}
use Rattle.elf_image.proofs.LoadLemmas.{loads-parts, loads-from_parts, same_segment}
use Rattle.code_starts.specs.declared.parts.Part.{Part}
use Rattle.code_starts.specs.Halves.{AreBytesOf}
use Rattle.code_starts.specs.LoadedMemory.{AreBytesFrom}

byte_there : (elf : Elf) (a q : ℕ) (p : Segment) → segment_of elf.segments.items a ≡ Some p → IsTrue (loads_address a p) →
    p.vaddr ≤ q → q < p.vaddr + p.filesz → q < p.vaddr + p.memsz →
    byte_at elf q ≡ Some (slice_index elf.file.now (p.offset + (q - p.vaddr)))
byte_there elf a q p found loads low inside loaded =
    ap (λ r. option_map (byte_of elf.file.now q) r)
    (same_segment elf a q p found (loads-from_parts q p (loads-parts a p loads).0 low loaded))
    ∙ ap (λ t. Some (if t then slice_index elf.file.now (p.offset + (q - p.vaddr)) else 0))
    (lt-ltb (q - p.vaddr) p.filesz (omega arith))

pub bytes-loaded : (elf : Elf) (a : ℕ) (p : Segment) (from n : ℕ) → segment_of elf.segments.items a ≡ Some p →
    IsTrue (loads_address a p) → p.vaddr ≤ a → from ≡ p.offset + (a - p.vaddr) →
    a - p.vaddr + n ≤ p.filesz → a - p.vaddr + n ≤ p.memsz →
    from + n ≤ length elf.file.now → AreBytesFrom elf a (take n (drop from elf.file.now))
bytes-loaded elf a p from n found loads low from_is inside loaded within = λ i below.
    byte_there elf a (a + i) p found loads (omega arith) (omega (arith, long)) (omega (arith, long))
    ∙ ap Some (sym
    (get_or-take n (drop from elf.file.now) i 0 (omega (arith, long))
    ∙ get_or-drop from elf.file.now i 0
    ∙ ap (λ k. slice_index elf.file.now k) (omega arith)))
  where
    long : length (take n (drop from elf.file.now)) ≡ n
    long = omega (arith, length-take n (drop from elf.file.now), length-drop from elf.file.now)

-- The bytes of a part are the first ones from its start on.
pub bytes-of : (elf : Elf) (part : Part) (bytes : List ℕ) (n : ℕ) → AreBytesFrom elf part.start bytes →
    n ≡ part.end - part.start → n ≤ length bytes → AreBytesOf elf part (take n bytes)
bytes-of elf part bytes n are n_is within = record {
  count = long ∙ n_is;
  each = λ i below.
      get_or-take n bytes i 0 (omega (arith, long))
      ∙ sym (ap (λ (o : Option ℕ). unwrap_or o 0) (are i (omega (arith, long))));
}
  where
    long : length (take n bytes) ≡ n
    long = omega (arith, length-take n bytes)

both_loaded : (low high : Option ℕ) (x y : ℕ) → low ≡ Some x → high ≡ Some y →
    x + 256 * y ≡ unwrap_or low 0 + 256 * unwrap_or high 0
both_loaded low high x y first second =
    let e : unwrap_or low 0 ≡ x = ap (λ (o : Option ℕ). unwrap_or o 0) first in
    let f : unwrap_or high 0 ≡ y = ap (λ (o : Option ℕ). unwrap_or o 0) second in
    omega arith

-- The halfword of two of these bytes.
pub half-loaded : (elf : Elf) (a i b : ℕ) (bytes : List ℕ) → AreBytesFrom elf a bytes → b ≡ a + i → i + 1 < length bytes →
    slice_index bytes i + 256 * slice_index bytes (i + 1) ≡ halfword_at elf b
half-loaded elf a i b bytes are at within =
    let next : b + 1 ≡ a + (i + 1) = omega arith in
    both_loaded (byte_at elf b) (byte_at elf (b + 1)) (slice_index bytes i) (slice_index bytes (i + 1))
    (ap (λ (k : ℕ). byte_at elf k) at ∙ are i (omega arith))
    (ap (λ (k : ℕ). byte_at elf k) next ∙ are (i + 1) within)

-- Without the first of these bytes.
pub from-drop : (elf : Elf) (a n m : ℕ) (bytes rest : List ℕ) → AreBytesFrom elf a bytes → m ≤ n →
    (m < n → length bytes ≤ m) → rest ≡ drop m bytes → AreBytesFrom elf (a + n) rest
from-drop elf a n m bytes rest are low short is i within =
    let inside : i < length (drop m bytes) = subst (λ (xs : List ℕ). i < length xs) is within in
    let long = length-drop m bytes in
    let same : m ≡ n = ⊎_elim (λ (less : m < n). absurd (let few = short less in omega arith)) (λ (most : n ≤ m). omega arith)
    (cases_lt m n) in
    let at : a + n + i ≡ a + (m + i) = omega arith in
    ap (λ (k : ℕ). byte_at elf k) at ∙ are (m + i) (omega arith)
    ∙ ap Some (sym (get_or-drop m bytes i 0) ∙ ap (λ (xs : List ℕ). slice_index xs i) (sym is))
