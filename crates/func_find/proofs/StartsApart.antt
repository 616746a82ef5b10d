-- The starts of a part, from one to the next.
use Rattle.std.proofs.Common.{◌≡◌, ◌≢◌, ◌∙◌, sym, ap, refl, Bool, ℕ, zero, suc, ◌+◌, ◌%◌, ◌==◌, if◌then◌else◌, ◌<◌, ◌≤◌, ⊎_elim}
use Rattle.std.proofs.Common.{Some, arith}
use Rattle.std.proofs.lemmas.Bool.{eq-eqb, ne_eqb}
use Rattle.rv_code.specs.declared.inst.Inst.{Inst}
use Rattle.rv_code.specs.isa.InstBytes.{DecodesHalf, DecodesFull}
use Rattle.elf_image.specs.declared.elf.Elf.{Elf}
use Rattle.elf_code.specs.Parts.{StartsIn, IsInstAt, length_at, halfword_at}
use Rattle.code_starts.proofs.StartLists.{length_positive, starts_cases, starts_inside}

-- No start is inside another instruction.
starts_apart_by : (elf : Elf) (n start end a b : ℕ) → end ≤ start + n → StartsIn elf start end a →
    StartsIn elf start end b → a < b → a + length_at elf a ≤ b
starts_apart_by elf zero start end a b enough first second less =
    let (low, high) = starts_inside elf start end a first in absurd (omega arith)
starts_apart_by elf (suc n) start end a b enough first second less =
    let long : 0 < length_at elf start = length_positive elf start in
    ⊎_elim
    (λ (at : a ≡ start). ⊎_elim
    (λ (same : b ≡ start). absurd (omega arith))
    (λ later.
    let (low, high) = starts_inside elf (start + length_at elf start) end b later in
    let long_a : length_at elf a ≡ length_at elf start = ap (length_at elf) at in
    omega arith)
    (starts_cases elf start end b second))
    (λ later. ⊎_elim
    (λ (same : b ≡ start). let (low, high) = starts_inside elf (start + length_at elf start) end a later in absurd (omega arith))
    (λ later'. starts_apart_by elf n (start + length_at elf start) end a b (omega arith) later later' less)
    (starts_cases elf start end b second))
    (starts_cases elf start end a first)

pub starts_apart : (elf : Elf) (start end a b : ℕ) → StartsIn elf start end a → StartsIn elf start end b →
    a < b → a + length_at elf a ≤ b
starts_apart elf start end a b = starts_apart_by elf end start end a b (omega arith)

-- The length of an instruction in bytes.
abbrev length_by : Bool → ℕ
length_by is_full = if is_full then 4 else 2

full_length : (half : ℕ) → half % 4 ≡ 3 → length_by (half % 4 == 3) ≡ 4
full_length half is = rw (eq-eqb (half % 4) 3 is) refl

half_length : (half : ℕ) → half % 4 ≢ 3 → length_by (half % 4 == 3) ≡ 2
half_length half isnt = rw (ne_eqb (half % 4) 3 isnt) refl

pub length_is : (elf : Elf) (a : ℕ) (inst : Inst) (bytes : ℕ) → IsInstAt elf a inst bytes → bytes ≡ length_at elf a
length_is elf a inst bytes =
    ⊎_elim
    (λ (two : DecodesHalf (halfword_at elf a) inst bytes). two.two_bytes
    ∙ sym (half_length (halfword_at elf a) (let isnt = two.is_half in λ is. isnt (omega arith))))
    (λ (full : DecodesFull (halfword_at elf a) (Some (halfword_at elf (a + 2))) inst bytes). full.four_bytes
    ∙ sym (full_length (halfword_at elf a) (let is = full.is_full in omega arith)))
