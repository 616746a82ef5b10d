-- One more code cell, and one more byte of one.
use Rattle.std.proofs.Common.{◌≡◌, ◌∙◌, sym, ap, subst, ℕ, suc, ◌+◌, ◌-◌, ◌/◌, ◌%◌, ◌≤◌, ◌<◌, ◌⊎◌, inl, inr, List, [], ◌∷◌, ◌++◌}
use Rattle.std.proofs.Common.{length, get_or, take, arith, append_assoc, append-nil, length-append}
use Rattle.std.proofs.lemmas.Bool.{cases_lt}
use Rattle.std.proofs.lemmas.Grind.{common_steps}
use Rattle.std.proofs.lemmas.List.{get_or-take, get_or_append_left, get_or-append_right}
use Rattle.elf_image.specs.declared.elf.Elf.{Elf}
use Rattle.elf_parts.specs.declared.number_at.NumberAt.{NumberAt}
use Rattle.elf_plan.specs.declared.area.Shift.{Shift}
use Rattle.elf_make.specs.CellNumbers.{AreCellNumbers, IsCellNumber, byte_cells}

pub AreCellNumbers-more : (elf : Elf) (shift : Shift) (cs : List (ℕ × ℕ × ℕ)) (ns : List NumberAt) (m : ℕ) (n : NumberAt) →
    m < length cs → AreCellNumbers elf shift (take m cs) ns → ((c : ℕ × ℕ × ℕ) → IsCellNumber elf shift (get_or cs m c) n) →
    AreCellNumbers elf shift (take (m + 1) cs) (ns ++ n ∷ [])
AreCellNumbers-more elf shift cs ns m n below are here = record {
  count = omega (arith, length-append ns (n ∷ []), long, more);
  each = λ i c e low. cases i c e (omega (arith, more)) (cases_lt i m);
}
  where
    short : length (take m cs) ≡ m
    short = grind (arith, common_steps)

    long : length ns ≡ m
    long = let c : length ns ≡ length (take m cs) = are.count in omega (arith, short)

    more : length (take (m + 1) cs) ≡ m + 1
    more = grind (arith, common_steps)

    cases : (i : ℕ) (c : ℕ × ℕ × ℕ) (e : NumberAt) → i < m + 1 → (i < m) ⊎ (m ≤ i) →
        IsCellNumber elf shift (get_or (take (m + 1) cs) i c) (get_or (ns ++ n ∷ []) i e)
    cases i c e under (inl low) =
        let old : IsCellNumber elf shift (get_or (take m cs) i c) (get_or ns i e) = are.each i c e (omega (arith, short)) in
        let c_is : get_or (take m cs) i c ≡ get_or (take (m + 1) cs) i c =
        get_or-take m cs i c low ∙ sym (get_or-take (m + 1) cs i c (omega arith)) in
        let n_is : get_or ns i e ≡ get_or (ns ++ n ∷ []) i e = sym (get_or_append_left ns (n ∷ []) e i (omega (arith, long))) in
        subst (λ (x : NumberAt). IsCellNumber elf shift (get_or (take (m + 1) cs) i c) x) n_is
        (subst (λ (x : ℕ × ℕ × ℕ). IsCellNumber elf shift x (get_or ns i e)) c_is old)
    cases i c e under (inr high) =
        let at : i ≡ m = omega arith in
        let zero_more : i - m ≡ 0 = omega arith in
        let c_is : get_or cs m c ≡ get_or (take (m + 1) cs) i c =
        ap (λ (k : ℕ). get_or cs k c) (sym at) ∙ sym (get_or-take (m + 1) cs i c under) in
        let n_is : n ≡ get_or (ns ++ n ∷ []) i e =
        sym (get_or-append_right ns (n ∷ []) m i e long high ∙ ap (λ (k : ℕ). get_or (n ∷ []) k e) zero_more) in
        subst (λ (x : NumberAt). IsCellNumber elf shift (get_or (take (m + 1) cs) i c) x) n_is
        (subst (λ (x : ℕ × ℕ × ℕ). IsCellNumber elf shift x n) c_is (here c))

bytes_next : (a i n rest : ℕ) → i < n →
    byte_cells (a + i) (n - i) rest ≡ (a + i, 1, rest % 256) ∷ byte_cells (a + (i + 1)) (n - (i + 1)) (rest / 256)
unfolding byte_cells
bytes_next a i n rest below =
    let one : n - i ≡ suc (n - (i + 1)) = omega arith in
    let there : a + i + 1 ≡ a + (i + 1) = omega arith in
    ap (λ (k : ℕ). byte_cells (a + i) k rest) one
    ∙ ap (λ (b : ℕ). (a + i, 1, rest % 256) ∷ byte_cells b (n - (i + 1)) (rest / 256)) there

-- what was added of the bytes, with one more
pub bytes_more : (a i n rest : ℕ) (front whole : List (ℕ × ℕ × ℕ)) → i < n → front ++ byte_cells (a + i) (n - i) rest ≡ whole →
    (front ++ (a + i, 1, rest % 256) ∷ []) ++ byte_cells (a + (i + 1)) (n - (i + 1)) (rest / 256) ≡ whole
bytes_more a i n rest front whole below e =
    append_assoc front ((a + i, 1, rest % 256) ∷ []) (byte_cells (a + (i + 1)) (n - (i + 1)) (rest / 256))
    ∙ ap (λ (xs : List (ℕ × ℕ × ℕ)). front ++ xs) (sym (bytes_next a i n rest below)) ∙ e

none_left : (a n rest : ℕ) → n ≡ 0 → byte_cells a n rest ≡ []
unfolding byte_cells
none_left a n rest none = ap (λ (k : ℕ). byte_cells a k rest) none

-- and with all
pub bytes_all : (a i n rest : ℕ) (front whole : List (ℕ × ℕ × ℕ)) → n ≤ i → front ++ byte_cells (a + i) (n - i) rest ≡ whole →
    front ≡ whole
bytes_all a i n rest front whole past e =
    let none : n - i ≡ 0 = omega arith in
    sym (append-nil front) ∙ ap (λ (xs : List (ℕ × ℕ × ℕ)). front ++ xs) (sym (none_left (a + i) (n - i) rest none)) ∙ e
