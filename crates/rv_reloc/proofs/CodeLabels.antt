-- Labels that are code addresses.
use Rattle.std.proofs.Common.{◌≡◌, ◌∙◌, sym, ap, subst, refl, ℕ, ℤ, pos, negsuc, ◌≤ℤ◌, ◌⊎◌, inl, inr, ◌↔◌, Bool, true, false}
use Rattle.std.proofs.Common.{◌<◌, ◌^◌, IsTrue, List, slice_index_or, w64, arith}
use Rattle.std.specs.Int.{FitsUnsigned}
use Rattle.std.specs.Int.RustNames.{unsigned_abs}
use Rattle.std.specs.List.{Contains}
use Rattle.std.proofs.lemmas.Int.{ints}
use Rattle.std.proofs.lemmas.List.{get_or_default}
use Rattle.elf_image.specs.declared.elf.Elf.{Elf}
use Rattle.elf_code.specs.Cells.{IsCodeLabel}
use Rattle.elf_code.specs.FileCode.{AreStarts}

whole : (z : ℤ) → pos 0 ≤ℤ z → z ≡ pos (unsigned_abs z)
whole (pos n) not_below = refl
whole (negsuc n) below = absurd (omega (arith, ints))

same_address : (z : ℤ) (a b : ℕ) → z ≡ pos a → z ≡ pos b → a ≡ b
same_address z a b e f = let g : pos a ≡ pos b = sym e ∙ f in cc

pub code-found : (elf : Elf) (starts : List ℕ) (z y : ℤ) (a : ℕ) (r : Bool) → AreStarts elf starts → y ≡ z → pos 0 ≤ℤ y →
    a ≡ unsigned_abs y → IsTrue r ↔ Contains starts a → IsTrue r ↔ IsCodeLabel elf z
code-found elf starts z y a r are same not_below is test =
    let here : z ≡ pos a = sym same ∙ whole y not_below ∙ ap pos (sym is) in (
      λ yes_is. (a, here, are.only a (test.0 yes_is)),
      λ (b, there, is_start). test.1 (subst (Contains starts) (same_address z b a there here) (are.each b is_start)),
    )

-- A number that doesn't fit 64 bits isn't a code address.
pub code-missing : (elf : Elf) (starts : List ℕ) (z y : ℤ) → AreStarts elf starts → y ≡ z →
    ((i : ℕ) → slice_index_or starts i 0 < 2 ^ 64) → (FitsUnsigned w64 y → ⊥) → IsTrue false ↔ IsCodeLabel elf z
code-missing elf starts z y are same low none = (
  λ wrong. let e : false ≡ true = wrong in absurd (cc),
  λ (a, there, is_start).
      let (k, within, is) = are.each a is_start in
      let low_a : a < 2 ^ 64 = subst (λ n. n < 2 ^ 64) (get_or_default starts k 0 a within ∙ is) (low k) in
      let e : y ≡ pos a = same ∙ there in
      absurd (none (unsigned y a e low_a)),
)
  where
    unsigned : (x : ℤ) (a : ℕ) → x ≡ pos a → a < 2 ^ 64 → FitsUnsigned w64 x
    unsigned x a is low = (omega (arith, ints), omega (arith, ints, low))

pub either-first : (r : Bool) (P Q : Type 0) → r ≡ true → IsTrue r ↔ P → IsTrue r ↔ (P ⊎ Q)
either-first r P Q is test = (λ _. inl (test.0 is), λ _. is)

pub either-second : (r s : Bool) (P Q : Type 0) → r ≡ false → IsTrue r ↔ P → IsTrue s ↔ Q → IsTrue s ↔ (P ⊎ Q)
either-second r s P Q is first second = (λ yes_is. inr (second.0 yes_is), by)
  where
    by : P ⊎ Q → IsTrue s
    by (inl p) = let e : false ≡ true = sym is ∙ first.1 p in absurd (cc)
    by (inr q) = second.1 q
