-- A list has exactly one item that passes a test, even if relocations are left out or items are mapped.
use Rattle.std.proofs.Common.{◌≡◌, ◌∙◌, ap, sym, subst, refl, ◌+◌, Bool, true, Option, Some, None, IfSome, IsSomeAnd, List, []}
use Rattle.std.proofs.Common.{◌∷◌, map, arith, zero, suc, ◌≤◌, ⊎_elim, IsTrue}
use Rattle.std.specs.List.{count_by, Contains}
use Rattle.elf_image.specs.declared.section.Section.{Section}
use Rattle.elf_code.specs.Cells.{IsOnly}
use Rattle.elf_code.specs.Relocations.{Relocation}
use Rattle.rv_reloc.specs.Thinned.{for_section, IsThinned}
use Rattle.rb_bytes.proofs.ListLemmas.{from_map, in_map}
use Rattle.rv_reloc.proofs.Ordered.{count-cons, one_if}

-- An item that passes is counted.
counted : {A : Type 0} (test : A → Bool) (xs : List A) (x : A) → Contains xs x → IsTrue (test x) → 1 ≤ count_by test xs
counted test [] x (k, within, is) passes = absurd (omega arith)
counted test (y ∷ ys) x (zero, within, is) passes =
    let sum = count-cons test y ys in
    let one : one_if (test y) ≡ 1 = ap one_if (ap test is ∙ passes) in
    omega arith
counted test (y ∷ ys) x (suc k, within, is) passes =
    let rest = counted test ys x (k, omega arith, is) passes in
    let sum = count-cons test y ys in
    omega arith

alone_in : {A : Type 0} (test : A → Bool) (xs : List A) (x y : A) → count_by test xs ≡ 1 → Contains xs x → IsTrue (test x) →
    Contains xs y → IsTrue (test y) → x ≡ y
alone_in test [] x y one (k, within, is) passes listed' passes' = absurd (omega arith)
alone_in test (z ∷ zs) x y one (zero, within, is) passes (zero, within', is') passes' = sym is ∙ is'
alone_in test (z ∷ zs) x y one (zero, within, is) passes (suc k, within', is') passes' =
    let sum = count-cons test z zs in
    let here : one_if (test z) ≡ 1 = ap one_if (ap test is ∙ passes) in
    let rest = counted test zs y (k, omega arith, is') passes' in
    absurd (omega arith)
alone_in test (z ∷ zs) x y one (suc k, within, is) passes (zero, within', is') passes' =
    let sum = count-cons test z zs in
    let here : one_if (test z) ≡ 1 = ap one_if (ap test is' ∙ passes') in
    let rest = counted test zs x (k, omega arith, is) passes in
    absurd (omega arith)
alone_in test (z ∷ zs) x y one (suc k, within, is) passes (suc k', within', is') passes' =
    let sum = count-cons test z zs in
    let rest = counted test zs x (k, omega arith, is) passes in
    alone_in test zs x y (omega arith) (k, omega arith, is) passes (k', omega arith, is') passes'

-- Another item that passes is the same.
pub only-alone : {A : Type 0} {test : A → Bool} {xs : List A} {x y : A} → IsOnly test xs x → Contains xs y → IsTrue (test y) →
    x ≡ y
only-alone {test = test} {xs = xs} {x = x} {y = y} is listed passes =
    alone_in test xs x y is.alone is.listed is.passes listed passes

pub only-thinned : (test : Relocation → Bool) (full kept : List Relocation) (x : Relocation) →
    ((s : Section) (r : Relocation) → test (for_section s r) ≡ test r) → IsThinned full kept → IsOnly test kept x →
    IsOnly test full x
only-thinned test full kept x same thinned is = record {
  listed = thinned.back x is.listed;
  passes = is.passes;
  alone = let one = is.alone in ⊎_elim (λ (equal : count_by test kept ≡ count_by test full). omega arith)
      (λ (two : (2 ≤ count_by test kept) × (2 ≤ count_by test full)). absurd (let more = two.0 in omega arith))
      (thinned.counts test same);
}

pub thinned-only : (test : Relocation → Bool) (full kept : List Relocation) (x : Relocation) →
    ((s : Section) (r : Relocation) → test (for_section s r) ≡ test r) → IsThinned full kept → IsOnly test full x →
    IsOnly test kept x
thinned-only test full kept x same thinned is = record {
  listed = let (s, is_kept, up) = thinned.starts x is.listed in
      let one = only-alone is (thinned.back (for_section s x) is_kept) (same s x ∙ is.passes) in
      subst (λ (r : Relocation). Contains kept r) (sym one) is_kept;
  passes = is.passes;
  alone = let one = is.alone in ⊎_elim (λ (equal : count_by test kept ≡ count_by test full). omega arith)
      (λ (two : (2 ≤ count_by test kept) × (2 ≤ count_by test full)). absurd (let more = two.1 in omega arith))
      (thinned.counts test same);
}

pub count-map : {A B : Type 0} (f : A → B) (test : B → Bool) (xs : List A) → count_by test (map f xs) ≡ count_by (λ x. test (f x)) xs
count-map f test [] = refl
count-map f test (x ∷ xs) =
    let rest = count-map f test xs in
    let left : count_by test (map f (x ∷ xs)) ≡ one_if (test (f x)) + count_by test (map f xs) =
    count-cons test (f x) (map f xs) in
    let right : count_by (λ y. test (f y)) (x ∷ xs) ≡ one_if (test (f x)) + count_by (λ y. test (f y)) xs =
    count-cons (λ y. test (f y)) x xs in
    omega arith

pub only-map : {A B : Type 0} (f : A → B) (test : B → Bool) (xs : List A) (x : A) → IsOnly (λ y. test (f y)) xs x →
    IsOnly test (map f xs) (f x)
only-map f test xs x is =
    record { listed = in_map f xs x is.listed; passes = is.passes; alone = count-map f test xs ∙ is.alone }

pub only-from_map : {A B : Type 0} (f : A → B) (test : B → Bool) (xs : List A) (y : B) → IsOnly test (map f xs) y → (x : A)
    × IsOnly (λ z. test (f z)) xs x × (f x ≡ y)
only-from_map {B = B} f test xs y is =
    let (x, listed, same) = from_map f xs y is.listed in (
      x,
      record {
        listed = listed;
        passes = subst (λ (z : B). test z ≡ true) (sym same) is.passes;
        alone = sym (count-map f test xs) ∙ is.alone;
      },
      same,
    )

-- The result of a search.

pub some-only : {A : Type 0} {Is Is' : A → Type 0} (o : Option A) → ((x : A) → Is x → Is' x) → IfSome o Is → IfSome o Is'
some-only None to is = is
some-only (Some x) to is = to x is

pub only-some : {A B : Type 0} (f : A → B) (y : B) (o : Option A) (x : A) → o ≡ Some x → f x ≡ y → IsSomeAnd o (λ z. f z ≡ y)
only-some f y o x is same = subst (λ p. IsSomeAnd p (λ z. f z ≡ y)) (sym is) same
