-- Differences of labels, by the relocations that make them.
use Rattle.std.proofs.Common.{◌≡◌, ◌≢◌, ◌∙◌, sym, ap, subst, refl, ℕ, ◌≤◌, ℤ, pos, ◌⊎◌, inl, inr, ⊎_elim, ◌↔◌, Bool, true, false}
use Rattle.std.proofs.Common.{not, IsFalse, ◌==◌, IsTrue, IsSomeAnd, IfSome, List, [], ◌∷◌, Option, Some, None, arith}
use Rattle.std.specs.List.{Contains, count_by}
use Rattle.std.proofs.lemmas.List.{get_or_default}
use Rattle.rb_bytes.proofs.Members.{Contains-cons_cases}
use Rattle.rb_bytes.proofs.Tests.{second_of}
use Rattle.std.specs.Option.{is_some}
use Rattle.std.proofs.lemmas.Bool.{cases_eq, eq-eqb, ne_eqb, and_from}
use Rattle.elf_image.specs.declared.elf.Elf.{Elf}
use Rattle.elf_image.specs.declared.relocation.TheConstants.{R_RISCV_32_PCREL, R_RISCV_PLT32}
use Rattle.elf_code.specs.Cells.{IsOnly, same_width, is_plus, is_minus, IsDifference, of_labels, of_place, can_be_cell}
use Rattle.elf_code.specs.Cells.{IsCodeLabel, HasCodeLabel, IsInOneWhole}
use Rattle.elf_code.specs.Fields.{HoldsDifference}
use Rattle.elf_code.specs.ReferenceFaults.{IsBadDifference, number, unpaired, IsPaired, IsNarrow}
use Rattle.elf_code.specs.Relocations.{Relocation, relocations, Width, Bits, Uleb128, plus_width, minus_width, is_pc_difference, label}
use Rattle.rv_reloc.proofs.Ordered.{count-cons, count-some, one_if}
use Rattle.rv_reloc.specs.declared.differences.Difference.{Difference}
use Rattle.rv_reloc.specs.Differences.{IsDifferenceOf, IsTheDifference, HoldsOther, IsUnpaired}
use Rattle.rv_reloc.specs.Labels.{width_of}

-- Widths.

same-width-is : (w : Width) (o : Option Width) → same_width w o ≡ true → o ≡ Some w
same-width-is (Bits n) None is = absurd (cc)
same-width-is (Bits n) (Some (Bits m)) is =
    ⊎_elim (λ (e : n ≡ m). ap (λ (k : ℕ). Some (Bits k)) (sym e))
    (λ (e : n ≢ m). let f : false ≡ true = sym (ne_eqb n m e) ∙ is in absurd (cc)) (cases_eq n m)
same-width-is (Bits n) (Some Uleb128) is = absurd (cc)
same-width-is Uleb128 None is = absurd (cc)
same-width-is Uleb128 (Some (Bits m)) is = absurd (cc)
same-width-is Uleb128 (Some Uleb128) is = refl

is-same-width : (w : Width) → same_width w (Some w) ≡ true
is-same-width (Bits n) = eq-eqb n n refl
is-same-width Uleb128 = refl

pub passes-plus : (r : Relocation) (w : Width) → plus_width r.kind ≡ Some w → is_plus r.place w r ≡ true
passes-plus r w is =
    and_from (r.place == r.place) (same_width w (plus_width r.kind)) (eq-eqb r.place r.place refl)
    (ap (same_width w) is ∙ is-same-width w)

pub plus-passed : (place : ℕ) (r : Relocation) (w : Width) → is_plus place w r ≡ true → plus_width r.kind ≡ Some w
plus-passed place r w is =
    same-width-is w (plus_width r.kind) (second_of (r.place == place) (same_width w (plus_width r.kind)) is)

pc_no_plus : (kind : ℕ) → is_pc_difference kind ≡ true → plus_width kind ≡ None
pc_no_plus kind is = ⊎_elim
    (λ (e : kind ≡ R_RISCV_32_PCREL). ap plus_width e)
    (λ (other : kind ≢ R_RISCV_32_PCREL). ⊎_elim
    (λ (e : kind ≡ R_RISCV_PLT32). ap plus_width e)
    (λ (other' : kind ≢ R_RISCV_PLT32). let f : false
    ≡ true = rw (ne_eqb kind R_RISCV_32_PCREL other, ne_eqb kind R_RISCV_PLT32 other') at is in absurd (cc))
    (cases_eq kind R_RISCV_PLT32))
    (cases_eq kind R_RISCV_32_PCREL)

pc_and_plus : (kind : ℕ) (w : Width) → is_pc_difference kind ≡ true → plus_width kind ≡ Some w → ⊥
pc_and_plus kind w is plus = let e : None ≡ Some w = sym (pc_no_plus kind is) ∙ plus in absurd (cc)

-- The only relocation.

count_listed : {A : Type 0} (test : A → Bool) (xs : List A) (y : A) → Contains xs y → test y ≡ true → 1 ≤ count_by test xs
count_listed {A} test xs y (k, within, is) passes =
    count-some test xs k within (λ (d : A). ap test (get_or_default xs k d y within ∙ is) ∙ passes)

both-only : {A : Type 0} (test : A → Bool) (xs : List A) (x y : A) → Contains xs x → test x ≡ true →
    Contains xs y → test y ≡ true → count_by test xs ≡ 1 → x ≡ y
both-only test [] x y (k, within, is) tx has ty one = absurd (omega arith)
both-only {A} test (z ∷ zs) x y has_x tx has_y ty one =
    let total = count-cons test z zs in
    ⊎_elim
    (λ (x_is : z ≡ x). ⊎_elim
    (λ (y_is : z ≡ y). sym x_is ∙ y_is)
    (λ (later : Contains zs y).
    let here : one_if (test z) ≡ 1 = ap one_if (ap test x_is ∙ tx) in
    let more = count_listed test zs y later ty in
    absurd (omega arith))
    (Contains-cons_cases z zs y has_y))
    (λ (after : Contains zs x). ⊎_elim
    (λ (y_is : z ≡ y).
    let here : one_if (test z) ≡ 1 = ap one_if (ap test y_is ∙ ty) in
    let more = count_listed test zs x after tx in
    absurd (omega arith))
    (λ (later : Contains zs y).
    let more = count_listed test zs x after tx in
    both-only test zs x y after tx later ty (omega arith))
    (Contains-cons_cases z zs y has_y))
    (Contains-cons_cases z zs x has_x)

pub only-this : {A : Type 0} (test : A → Bool) (xs : List A) (x y : A) → IsOnly test xs x → Contains xs y → test y ≡ true → x ≡ y
only-this test xs x y only listed passes = both-only test xs x y only.listed only.passes listed passes only.alone

-- Differences.

pub difference-made : (elf : Elf) (r plus minus : Relocation) (w : Width) → Contains (relocations elf) r →
    plus_width r.kind ≡ Some w →
    IsOnly (is_plus r.place w) (relocations elf) plus → IsOnly (is_minus r.place w) (relocations elf) minus →
    IsDifference elf r w (label elf r) (label elf minus)
difference-made elf r plus minus w listed width only_plus only_minus =
    let same : plus ≡ r = only-this (is_plus r.place w) (relocations elf) plus r only_plus listed (passes-plus r w width) in
    of_labels (subst (IsOnly (is_plus r.place w) (relocations elf)) same only_plus) minus only_minus refl refl

-- A difference of two labels.
pub record IsMade (elf : Elf) (r : Relocation) (w w' : Width) (to from : ℤ) : Type 0 where
  pub width_is : w' ≡ w
  pub plus : IsOnly (is_plus r.place w) (relocations elf) r
  pub minus : Relocation
  pub only_minus : IsOnly (is_minus r.place w) (relocations elf) minus
  pub to_is : to ≡ label elf r
  pub from_is : from ≡ label elf minus

some_once : (o : Option Width) (v w : Width) → o ≡ Some v → o ≡ Some w → v ≡ w
some_once o v w e f = let g : Some v ≡ Some w = sym e ∙ f in cc

pub made-by_labels : (elf : Elf) (r : Relocation) (w w' : Width) (to from : ℤ) → plus_width r.kind ≡ Some w →
    IsDifference elf r w' to from → IsMade elf r w w' to from
made-by_labels elf r w w' to from width (of_labels only minus only_minus to_is from_is) =
    let same : w' ≡ w = some_once (plus_width r.kind) w' w (plus-passed r.place r w' only.passes) width in
    record {
      width_is = same;
      plus = subst (λ (v : Width). IsOnly (is_plus r.place v) (relocations elf) r) same only;
      minus = minus;
      only_minus = subst (λ (v : Width). IsOnly (is_minus r.place v) (relocations elf) minus) same only_minus;
      to_is = to_is;
      from_is = from_is;
    }
made-by_labels elf r w w' to from width (of_place listed pc width_is to_is from_is) = absurd (pc_and_plus r.kind w pc width)

-- A difference of a label and the field's address.
pub record IsByPlace (elf : Elf) (r : Relocation) (w : Width) (to from : ℤ) : Type 0 where
  pub width_is : w ≡ Bits 32
  pub to_is : to ≡ label elf r
  pub from_is : from ≡ pos r.place

pub by-place : (elf : Elf) (r : Relocation) (w : Width) (to from : ℤ) → is_pc_difference r.kind ≡ true →
    IsDifference elf r w to from → IsByPlace elf r w to from
by-place elf r w to from pc (of_labels only minus only_minus to_is from_is) =
    absurd (pc_and_plus r.kind w pc (plus-passed r.place r w only.passes))
by-place elf r w to from pc (of_place listed pc' width_is to_is from_is) =
    record { width_is = width_is; to_is = to_is; from_is = from_is }

pub no-difference : (elf : Elf) (r : Relocation) (w : Width) (to from : ℤ) → is_pc_difference r.kind ≡ false →
    plus_width r.kind ≡ None → IsDifference elf r w to from → ⊥
no-difference elf r w to from pc none (of_labels only minus only_minus to_is from_is) =
    let e : None ≡ Some w = sym none ∙ plus-passed r.place r w only.passes in absurd (cc)
no-difference elf r w to from pc none (of_place listed pc' width_is to_is from_is) =
    let e : false ≡ true = sym pc ∙ pc' in absurd (cc)

-- Relocations for which no difference is found.

pub none-found : {A B : Type 0} (o : Option A) (f : A → B) (y : B) → o ≡ None → IsSomeAnd o (λ x. f x ≡ y) → ⊥
none-found None f y none is = is
none-found (Some x) f y none is = absurd (cc)

pub one-found : {A B : Type 0} (o : Option A) (f : A → B) (x : A) (y : B) → o ≡ Some x → IsSomeAnd o (λ z. f z ≡ y) → f x ≡ y
one-found None f x y some is = absurd is
one-found (Some z) f x y some is = let same : z ≡ x = cc in ap f (sym same) ∙ is

pub some-found : {A : Type 0} (o : Option A) (P : A → Type 0) → is_some o ≡ true → IfSome o P → (x : A) × P x
some-found None P some is = absurd (cc)
some-found (Some x) P some is = (x, is)

pub found-some : {A B : Type 0} (o : Option A) (f : A → B) (y : B) → IsSomeAnd o (λ x. f x ≡ y) → is_some o ≡ true
found-some None f y is = absurd is
found-some (Some x) f y is = refl

-- Faults.

pub bad-number : (elf : Elf) (r : Relocation) → HoldsOther elf r → IsBadDifference elf r
bad-number elf r is = number is.width is.to is.from is.is is.other

pub bad-unpaired : (elf : Elf) (r : Relocation) → IsUnpaired elf r → IsBadDifference elf r
bad-unpaired elf r is = unpaired is.width is.width_is is.is_code is.alone

pub bad-cases : (elf : Elf) (r : Relocation) → IsBadDifference elf r → HoldsOther elf r ⊎ IsUnpaired elf r
bad-cases elf r (number w to from is other) = inl (record { width = w; to = to; from = from; is = is; other = other })
bad-cases elf r (unpaired w width code alone) = inr (record { width = w; width_is = width; is_code = code; alone = alone })

the_width : (w : Width) (to from : ℤ) (d : Difference) → IsTheDifference w to from d →
    (P : Width → ℤ → ℤ → Type 0) → P w to from → P (width_of d.width) d.to d.from
the_width w to from d the P is =
    subst (λ (v : Width). P v d.to d.from) (sym the.width_is)
    (subst (λ (y : ℤ). P w y d.from) (sym the.to_is) (subst (λ (z : ℤ). P w to z) (sym the.from_is) is))

pub other-found : (elf : Elf) (r : Relocation) (d : Difference) (b : Bool) → IsDifferenceOf elf r d →
    ((w : Width) (to from : ℤ) → IsDifference elf r w to from → IsTheDifference w to from d) →
    IsTrue b ↔ HoldsDifference elf r (width_of d.width) d.to d.from → IsTrue (not b) ↔ HoldsOther elf r
other-found elf r d true is only test = (
  λ wrong. let e : false ≡ true = wrong in absurd (cc),
  λ other. absurd
      (the_width other.width other.to other.from d (only other.width other.to other.from other.is)
      (λ w to from. HoldsDifference elf r w to from → ⊥) other.other (test.0 refl)),
)
other-found elf r d false is only test = (
  λ _. record {
    width = width_of d.width;
    to = d.to;
    from = d.from;
    is = is.is;
    other = λ holds. let e : false ≡ true = test.1 holds in absurd (cc);
  },
  λ _. refl,
)

pub none-other : (elf : Elf) (r : Relocation) → ((w : Width) (to from : ℤ) → IsDifference elf r w to from → ⊥) →
    IsTrue false ↔ HoldsOther elf r
none-other elf r none =
    (λ wrong. let e : false ≡ true = wrong in absurd (cc), λ other. absurd (none other.width other.to other.from other.is))

pub paired-none : (elf : Elf) (r : Relocation) (w : Width) →
    ((v : Width) → (plus_width r.kind ≡ Some v) ⊎ (minus_width r.kind ≡ Some v) → w ≡ v) → IsPaired elf r.place w →
    IsTrue false ↔ IsUnpaired elf r
paired-none elf r w once paired = (
  λ wrong. let e : false ≡ true = wrong in absurd (cc),
  λ alone. absurd (alone.alone (subst (IsPaired elf r.place) (once alone.width alone.width_is) paired)),
)

pub unpaired-found : (elf : Elf) (r : Relocation) (w : Width) (b : Bool) →
    (plus_width r.kind ≡ Some w) ⊎ (minus_width r.kind ≡ Some w) → (IsPaired elf r.place w → ⊥) →
    IsTrue b ↔ IsCodeLabel elf (label elf r) → IsTrue b ↔ IsUnpaired elf r
unpaired-found elf r w b width alone code =
    (λ is. record { width = w; width_is = width; is_code = code.0 is; alone = alone }, λ unpaired. code.1 unpaired.is_code)

-- A difference of labels in one whole part isn't narrow, and neither is one that can be a cell.
pub narrow-found : (elf : Elf) (tabled : List (ℕ × ℕ)) (r : Relocation) (d : Difference) (b : Bool) → IsDifferenceOf elf r d →
    ((w : Width) (to from : ℤ) → IsDifference elf r w to from → IsTheDifference w to from d) →
    IsTrue b ↔ (IsFalse (can_be_cell r) × HasCodeLabel elf d.to d.from × (IsInOneWhole elf tabled d.to d.from → ⊥)) →
    IsTrue b ↔ IsNarrow elf tabled r
narrow-found elf tabled r d b is only test = (
  λ yes_is. let n = test.0 yes_is in
      record {
        width = width_of d.width;
        to = d.to;
        from = d.from;
        difference = is.is;
        no_cell = n.0;
        has_code = n.1;
        across = n.2;
      },
  λ narrow. test.1 (
    narrow.no_cell,
    the_width narrow.width narrow.to narrow.from d (only narrow.width narrow.to narrow.from narrow.difference)
        (λ w to from. HasCodeLabel elf to from) narrow.has_code,
    the_width narrow.width narrow.to narrow.from d (only narrow.width narrow.to narrow.from narrow.difference)
        (λ w to from. IsInOneWhole elf tabled to from → ⊥) narrow.across,
  ),
)

pub none-narrow : (elf : Elf) (tabled : List (ℕ × ℕ)) (r : Relocation) →
    ((w : Width) (to from : ℤ) → IsDifference elf r w to from → ⊥) → IsTrue false ↔ IsNarrow elf tabled r
none-narrow elf tabled r none = (
  λ wrong. let e : false ≡ true = wrong in absurd (cc),
  λ narrow. absurd (none narrow.width narrow.to narrow.from narrow.difference),
)
