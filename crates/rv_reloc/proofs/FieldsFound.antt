-- Fields that can be cells, as the code finds them.
use Rattle.std.proofs.Common.{◌≡◌, ◌≢◌, ◌∙◌, sym, ap, subst, refl, ℕ, ◌/◌, ℤ, ◌⊎◌, ⊎_elim, ◌↔◌, Bool, true, false, not, ◌||◌}
use Rattle.std.proofs.Common.{IsTrue, List, Some, None, arith}
use Rattle.std.proofs.lemmas.Bool.{cases_eq, ne_eqb}
use Rattle.elf_image.specs.declared.elf.Elf.{Elf}
use Rattle.elf_image.specs.declared.relocation.TheConstants.{R_RISCV_32, R_RISCV_64}
use Rattle.elf_code.specs.Cells as cell
use Rattle.elf_code.specs.Cells.{Field, IsDifference, can_be_cell, HasCodeLabel, IsInOneWhole}
use Rattle.elf_code.specs.Relocations as relocations
use Rattle.elf_code.specs.Relocations.{Relocation, is_address}
use Rattle.elf_code.specs.LoadedNumbers.{loaded_number}
use Rattle.elf_code.proofs.Differences.{difference_bits}
use Rattle.rv_reloc.specs.declared.differences.Difference.{Difference}
use Rattle.rv_reloc.specs.declared.labels.FieldWidth.{FieldWidth}
use Rattle.rv_reloc.specs.declared.labels.FieldWidth.TheVariants.{Bits6, Bits8, Bits16, Bits32, Bits64, Uleb128}
use Rattle.rv_reloc.specs.Candidates.{AreFree, cell_bytes, IsCellField, IsCodeField, IsDifferenceField, IsFieldOf, pointer, difference}
use Rattle.rv_reloc.specs.Differences.{IsDifferenceOf, IsTheDifference}
use Rattle.rv_reloc.specs.Labels.{width_of}
use Rattle.rv_reloc.specs.GotFields.{IsNamedField, NamesEntry}

pub crosses-found : (w : Bool) (P Q : Type 0) → P → IsTrue w ↔ Q → IsTrue (not w) ↔ (P × (Q → ⊥))
crosses-found true P Q p test = (λ wrong. let e : false ≡ true = wrong in absurd (cc), λ both. absurd (both.1 (test.0 refl)))
crosses-found false P Q p test = (λ _. (p, λ q. let e : false ≡ true = test.1 q in absurd (cc)), λ _. refl)

-- The bytes of cells.

bytes_of : (w : FieldWidth) (bits : ℕ) → width_of w ≡ relocations.Bits bits → (bits ≡ 32) ⊎ (bits ≡ 64) →
    cell_bytes w ≡ Some (bits / 8)
bytes_of Bits6 bits is cell =
    let e : 6 ≡ bits = cc in ⊎_elim (λ (f : bits ≡ 32). absurd (omega arith)) (λ (f : bits ≡ 64). absurd (omega arith)) cell
bytes_of Bits8 bits is cell =
    let e : 8 ≡ bits = cc in ⊎_elim (λ (f : bits ≡ 32). absurd (omega arith)) (λ (f : bits ≡ 64). absurd (omega arith)) cell
bytes_of Bits16 bits is cell =
    let e : 16 ≡ bits = cc in ⊎_elim (λ (f : bits ≡ 32). absurd (omega arith)) (λ (f : bits ≡ 64). absurd (omega arith)) cell
bytes_of Bits32 bits is cell = let e : 32 ≡ bits = cc in ap (λ (n : ℕ). Some (n / 8)) e
bytes_of Bits64 bits is cell = let e : 64 ≡ bits = cc in ap (λ (n : ℕ). Some (n / 8)) e
bytes_of Uleb128 bits is cell = absurd (cc)

pub cell-to_difference : (elf : Elf) (tabled : List (ℕ × ℕ)) (r : Relocation) (d : Difference) (f : Field) →
    IsDifferenceOf elf r d → can_be_cell r ≡ true → IsCellField elf tabled r.place d f → IsDifferenceField elf tabled r f
cell-to_difference elf tabled r d f of can is = by d.width refl
  where
    made : (w : FieldWidth) (bits : ℕ) → d.width ≡ w → width_of w ≡ relocations.Bits bits → f.width ≡ bits / 8 →
        IsDifferenceField elf tabled r f
    made w bits e width bytes = record {
      bits = bits;
      to = d.to;
      from = d.from;
      is = subst (λ (v : relocations.Width). IsDifference elf r v d.to d.from) (ap width_of e ∙ width) of.is;
      can_be = can;
      has_code = is.has_code;
      across = is.across;
      place_is = is.place_is;
      width_is = bytes;
      content_is = is.content_is;
      free = subst (AreFree elf r.place) bytes is.free;
    }

    bytes_are : (w : FieldWidth) → d.width ≡ w → cell_bytes w ≡ Some f.width
    bytes_are w e = sym (ap cell_bytes e) ∙ is.width_is

    by : (w : FieldWidth) → d.width ≡ w → IsDifferenceField elf tabled r f
    by Bits6 e = let no_bytes : None ≡ Some f.width = bytes_are Bits6 e in absurd (cc)
    by Bits8 e = let no_bytes : None ≡ Some f.width = bytes_are Bits8 e in absurd (cc)
    by Bits16 e = let no_bytes : None ≡ Some f.width = bytes_are Bits16 e in absurd (cc)
    by Bits32 e =
        let four : Some 4 ≡ Some f.width = bytes_are Bits32 e in
        let w : 4 ≡ f.width = cc in
        made Bits32 32 e refl (sym w)
    by Bits64 e =
        let eight : Some 8 ≡ Some f.width = bytes_are Bits64 e in
        let w : 8 ≡ f.width = cc in
        made Bits64 64 e refl (sym w)
    by Uleb128 e = let no_bytes : None ≡ Some f.width = bytes_are Uleb128 e in absurd (cc)

pub difference-to_cell : (elf : Elf) (tabled : List (ℕ × ℕ)) (r : Relocation) (d : Difference) (f : Field) →
    ((w : relocations.Width) (to from : ℤ) → IsDifference elf r w to from → IsTheDifference w to from d) →
    IsDifferenceField elf tabled r f → IsCellField elf tabled r.place d f
difference-to_cell elf tabled r d f only is =
    let the = only (relocations.Bits is.bits) is.to is.from is.is in
    let bytes = bytes_of d.width is.bits the.width_is (difference_bits elf r is.bits is.to is.from is.is is.can_be) in
    record {
      has_code = subst (λ (z : ℤ). HasCodeLabel elf z d.from) (sym the.to_is)
          (subst (HasCodeLabel elf is.to) (sym the.from_is) is.has_code);
      across = subst (λ (z : ℤ). IsInOneWhole elf tabled z d.from → ⊥) (sym the.to_is)
          (subst (λ (z : ℤ). IsInOneWhole elf tabled is.to z → ⊥) (sym the.from_is) is.across);
      width_is = bytes ∙ ap (λ (n : ℕ). Some n) (sym is.width_is);
      place_is = is.place_is;
      content_is = is.content_is ∙ ap (λ (z : ℤ). cell.Difference z is.from) (sym the.to_is)
          ∙ ap (λ (z : ℤ). cell.Difference d.to z) (sym the.from_is);
      free = subst (AreFree elf r.place) (sym is.width_is) is.free;
    }

-- Addresses and differences have different types of relocations.

no_cell_kind : (kind : ℕ) → is_address kind ≡ true → (relocations.is_add kind || relocations.is_pc_difference kind) ≡ true → ⊥
no_cell_kind kind is cell = ⊎_elim
    (λ (e : kind ≡ R_RISCV_32). let f : (relocations.is_add R_RISCV_32 || relocations.is_pc_difference R_RISCV_32)
    ≡ true = subst (λ (k : ℕ). (relocations.is_add k || relocations.is_pc_difference k) ≡ true) e cell in
    let g : false ≡ true = f in
    cc)
    (λ (other : kind ≢ R_RISCV_32). ⊎_elim
    (λ (e : kind ≡ R_RISCV_64). let f : (relocations.is_add R_RISCV_64 || relocations.is_pc_difference R_RISCV_64)
    ≡ true = subst (λ (k : ℕ). (relocations.is_add k || relocations.is_pc_difference k) ≡ true) e cell in
    let g : false ≡ true = f in
    cc)
    (λ (other' : kind ≢ R_RISCV_64).
    let f : false ≡ true = rw (ne_eqb kind R_RISCV_32 other, ne_eqb kind R_RISCV_64 other') at is in cc)
    (cases_eq kind R_RISCV_64))
    (cases_eq kind R_RISCV_32)

pub code-of : (elf : Elf) (tabled : List (ℕ × ℕ)) (r : Relocation) (f : Field) → is_address r.kind ≡ true →
    IsFieldOf elf tabled r f → IsCodeField elf r.place (cell.address_width r.kind) f
code-of elf tabled r f is (pointer address code) = code
code-of elf tabled r f is (difference d) = absurd (no_cell_kind r.kind is d.can_be)

pub difference-of : (elf : Elf) (tabled : List (ℕ × ℕ)) (r : Relocation) (f : Field) → is_address r.kind ≡ false →
    IsFieldOf elf tabled r f → IsDifferenceField elf tabled r f
difference-of elf tabled r f is (pointer address code) = let e : false ≡ true = sym is ∙ address in absurd (cc)
difference-of elf tabled r f is (difference d) = d

-- Entries of the global offset table.

pub named-field : (elf : Elf) (hi slot to : ℕ) (f : Field) → Some to ≡ loaded_number elf slot 8 → NamesEntry elf hi to →
    IsCodeField elf slot 8 f → IsNamedField elf hi slot f
named-field elf hi slot to f loaded names code =
    let e : Some to ≡ Some code.to = loaded ∙ code.loaded in
    let same : to ≡ code.to = cc in
    record { field = code; named = subst (NamesEntry elf hi) same names }
