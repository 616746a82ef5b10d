-- Differences of labels.
use Rattle.std.specs.Prelude.{Contains, ℤ, ◌==◌}
use Rattle.std.proofs.Common.{◌≡◌, ℕ, true, false, sym, ap, ◌∙◌, inl, inr, ◌⊎◌}
use Rattle.std.proofs.lemmas.Bool.{and_parts, eqb-true, or_cases}
use Rattle.elf_image.specs.declared.elf.Elf.{Elf}
use Rattle.elf_code.specs.Relocations.{Relocation, relocations, Width, Bits, plus_width, is_add, is_pc_difference}
use Rattle.elf_code.specs.Cells.{IsDifference, of_labels, of_place, same_width, can_be_cell}

pub difference_counts : (e : Elf) (r : Relocation) (w : Width) (to from : ℤ) → IsDifference e r w to from →
    Contains (relocations e) r
difference_counts e r w to from (of_labels only minus minus_only to_is from_is) = only.listed
difference_counts e r w to from (of_place counted kind width to_is from_is) = counted

-- A difference that can be a cell has 32 or 64 bits.
pub difference_bits : (elf : Elf) (r : Relocation) (bits : ℕ) (to from : ℤ) → IsDifference elf r (Bits bits) to from →
    can_be_cell r ≡ true → (bits ≡ 32) ⊎ (bits ≡ 64)
difference_bits elf r bits to from (of_place is_in pc width to_is from_is) can =
    inl (let e : bits ≡ 32 = same_bits bits 32 width in e)
  where
    same_bits : (n m : ℕ) → Bits n ≡ Bits m → n ≡ m
    same_bits n m e = cc
difference_bits elf r bits to from (of_labels only minus two to_is from_is) can =
    by (or_cases (is_add r.kind) (is_pc_difference r.kind) can)
  where
    width : same_width (Bits bits) (plus_width r.kind) ≡ true
    width = (and_parts (r.place == r.place) (same_width (Bits bits) (plus_width r.kind)) only.passes).1

    at : (k : ℕ) → r.kind ≡ k → same_width (Bits bits) (plus_width k) ≡ true
    at k e = ap (λ (k : ℕ). same_width (Bits bits) (plus_width k)) (sym e) ∙ width

    by : (is_add r.kind ≡ true) ⊎ (is_pc_difference r.kind ≡ true) → (bits ≡ 32) ⊎ (bits ≡ 64)
    by (inl h) = elim (or_cases (r.kind == 35) (r.kind == 36) h) [
      | inl e ↦ inl (eqb-true bits 32 (at 35 (eqb-true r.kind 35 e)))
      | inr e ↦ inr (eqb-true bits 64 (at 36 (eqb-true r.kind 36 e)))
    ]
    by (inr h) = elim (or_cases (r.kind == 57) (r.kind == 59) h) [
      | inl e ↦ absurd (let f : false ≡ true = at 57 (eqb-true r.kind 57 e) in cc)
      | inr e ↦ absurd (let f : false ≡ true = at 59 (eqb-true r.kind 59 e) in cc)
    ]
