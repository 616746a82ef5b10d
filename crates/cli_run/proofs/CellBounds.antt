-- The code cells of a file that was read end below 2^64, since their bytes are loaded from it.
use Rattle.std.proofs.Common.{◌≡◌, ◌∙◌, ◌+◌, ◌-◌, ◌^◌, ◌<◌, ◌≤◌, zero, ℕ, List, [], ◌∷◌, Option, Some, None, Bool, true, false}
use Rattle.std.proofs.Common.{get_or, refl, sym, ap, subst, arith, IsTrue, IsSome, ⊎_elim}
use Rattle.std.specs.Prelude.{◌==◌, ◌||◌, All, Contains, if◌then◌else◌}
use Rattle.std.proofs.lemmas.Bool.{and_parts, eqb-true, cases_lt}
use Rattle.rb_bytes.specs.declared.fault.FaultKind.TheVariants.{HighAddress}
use Rattle.rv_code.specs.declared.cell.CodeCell.{CodeCell}
use Rattle.elf_code.specs.Cells.{IsDifference, of_labels, of_place, same_width, can_be_cell, Field, IsField, pointer, slot}
use Rattle.elf_code.specs.Cells.{difference, CanBeCell, Counts, counts, gives_way, IsCell}
use Rattle.elf_code.specs.FileCode.{AreCells}
use Rattle.elf_code.specs.Relocations.{Relocation, Width, Bits, plus_width, is_add, is_pc_difference}
use Rattle.elf_image.specs.declared.elf.Elf.{Elf}
use Rattle.elf_image.specs.declared.segment.Segment.{Segment}
use Rattle.elf_image.specs.faults.FileFaults.{IsSound}
use Rattle.rv_code.specs.layout.FunctionLists.{address_end}
use Rattle.elf_image.specs.file.Header.{segment, segments_of}
use Rattle.elf_image.specs.file.ParsedFile.{IsElfOf}
use Rattle.elf_image.specs.memory.Image.{loads_address}
use Rattle.elf_image.specs.memory.LoadedBytes.{file_offset}
use Rattle.std.proofs.lemmas.List.{get_or_default}
use Rattle.rb_bytes.proofs.Members.{Contains-there}
use Rattle.elf_image.proofs.ReadLists.{get_or-segments}

-- Widths.

-- the relocations of a difference that can be a cell have at least 32 bits
wide : (kind bits : ℕ) → same_width (Bits bits) (plus_width kind) ≡ true →
    (is_add kind || is_pc_difference kind) ≡ true → 32 ≤ bits
wide kind bits same can = add32 (kind == 35) refl
  where
    width_is : (k : ℕ) → kind ≡ k → same_width (Bits bits) (plus_width k) ≡ true
    width_is k is = subst (λ (n : ℕ). same_width (Bits bits) (plus_width n) ≡ true) is same

    plt : (b : Bool) → (kind == 59) ≡ b → (kind == 35) ≡ false → (kind == 36) ≡ false → (kind == 57) ≡ false → 32 ≤ bits
    plt true is a b c = let none = width_is 59 (eqb-true kind 59 is) in absurd (cc)
    plt false is a b c = let none : false ≡ true = rw (a, b, c, is) at can in absurd (cc)

    pcrel : (b : Bool) → (kind == 57) ≡ b → (kind == 35) ≡ false → (kind == 36) ≡ false → 32 ≤ bits
    pcrel true is a b = let none = width_is 57 (eqb-true kind 57 is) in absurd (cc)
    pcrel false is a b = plt (kind == 59) refl a b is

    add64 : (b : Bool) → (kind == 36) ≡ b → (kind == 35) ≡ false → 32 ≤ bits
    add64 true is a = let e : bits ≡ 64 = eqb-true bits 64 (width_is 36 (eqb-true kind 36 is)) in omega arith
    add64 false is a = pcrel (kind == 57) refl a is

    add32 : (b : Bool) → (kind == 35) ≡ b → 32 ≤ bits
    add32 true is = let e : bits ≡ 32 = eqb-true bits 32 (width_is 35 (eqb-true kind 35 is)) in omega arith
    add32 false is = add64 (kind == 36) refl is

bits_of : Width → ℕ
bits_of (Bits n) = n
bits_of _ = 0

module _ (elf : Elf) (tabled : List (ℕ × ℕ)) where
  wide_difference : (r : Relocation) (w : Width) (bits : ℕ) {to from : _} → w ≡ Bits bits → IsDifference elf r w to from →
      IsTrue (can_be_cell r) → 32 ≤ bits
  unfolding bits_of
  wide_difference r w bits is (of_labels only minus other to_is from_is) can =
      wide r.kind bits (subst (λ (v : Width). same_width v (plus_width r.kind) ≡ true) is
      (and_parts (r.place == r.place) (same_width w (plus_width r.kind)) only.passes).1) can
  wide_difference r w bits is (of_place listed kind width_is to_is from_is) can =
      let same : bits ≡ 32 = ap bits_of (sym is ∙ width_is) in omega arith

  has_bytes : (f : Field) → IsField elf tabled f → 0 < f.width
  has_bytes f (pointer r listed kind place_is width_is to number start content_is) = by_kind (r.kind == 1) width_is
    where
      by_kind : (b : Bool) → f.width ≡ (if b then 4 else 8) → 0 < f.width
      by_kind true is = omega arith
      by_kind false is = omega arith
  has_bytes f (slot r kind pair width_is to number label_is start content_is) = omega (arith, width_is)
  has_bytes f (difference r bits to from is can label apart place_is width_is content_is) =
      let enough : 32 ≤ bits = wide_difference r (Bits bits) bits refl is can in omega (arith, enough, width_is)

-- Places.

found_in : (a : ℕ) (segments : List Segment) (o : ℕ) → file_offset segments a ≡ Some o →
    (p : Segment) × Contains segments p × (loads_address a p ≡ true)
found_in a [] o is = absurd (cc)
found_in a (p ∷ ps) o is = by_test (loads_address a p) refl (λ later. found_in a ps o later)
  where
    by_test : (b : Bool) → loads_address a p ≡ b →
        (file_offset ps a ≡ Some o → (q : Segment) × Contains ps q × (loads_address a q ≡ true)) →
        (q : Segment) × Contains (p ∷ ps) q × (loads_address a q ≡ true)
    by_test true test rest = (p, (zero, omega arith, refl), test)
    by_test false test rest =
        let there = rest (rw test at is) in
        (there.0, Contains-there p ps there.0 there.1, there.2)

low_offset : (file : List ℕ) → IsSound file → (a : ℕ) → IsSome (file_offset (segments_of file) a) → a < address_end
low_offset file sound a some = by_offset (file_offset (segments_of file) a) refl some
  where
    by_offset : (o : Option ℕ) → file_offset (segments_of file) a ≡ o → IsSome o → a < address_end
    by_offset None is none = absurd (cc)
    by_offset (Some o) is there =
        let p = found_in a (segments_of file) o is in
        let found = get_or-segments file p.1.0 p.0 p.1.1 in
        let p_is : segment file p.1.0 ≡ p.0 = sym found.1 ∙ p.1.2 in
        ⊎_elim
        (λ (low : a < address_end). low)
        (λ (high : address_end ≤ a).
        absurd (sound HighAddress a (p.1.0, found.0, (subst (λ q. IsTrue (loads_address a q)) (sym p_is) p.2, high))))
        (cases_lt a address_end)

can_be : (elf : Elf) (tabled : List (ℕ × ℕ)) (f : Field) (b : Bool) → Counts elf tabled f b → CanBeCell elf tabled f
can_be elf tabled f b (counts g is before) = is
can_be elf tabled f b (gives_way g other is before share won) = is

pub cells_end : (file : List ℕ) (elf : Elf) → IsElfOf file elf → IsSound file → (tabled : List (ℕ × ℕ)) (cells : List CodeCell) →
    AreCells elf tabled cells → All (λ c. c.addr + c.width ≤ 2 ^ 64) cells
cells_end file elf is sound tabled cells are = λ k d within.
    let c : CodeCell = get_or cells k d in
    let cell : IsCell elf tabled c = are.only c (k, within, get_or_default cells k c d within) in
    let can = can_be elf tabled _ true cell.counted in
    let some : 0 < c.width = has_bytes elf tabled _ can.is_field in
    let last : c.addr + (c.width - 1) < address_end = low_offset file sound (c.addr + (c.width - 1))
    (subst (λ (segments : List Segment). IsSome (file_offset segments (c.addr + (c.width - 1)))) is.segments
    (can.from_file (c.width - 1) (omega arith))) in
    omega (arith, some, last)
