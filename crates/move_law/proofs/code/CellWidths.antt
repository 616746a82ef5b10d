-- A code cell has 4 or 8 bytes.
use Rattle.std.proofs.Common.{◌≡◌, ℕ, ◌/◌, List, ap, ◌∙◌, inl, inr, ◌⊎◌, arith}
use Rattle.std.proofs.lemmas.Grind.{common_steps}
use Rattle.elf_image.specs.declared.elf.Elf.{Elf}
use Rattle.elf_code.specs.Cells.{Field, IsField, pointer, slot, difference, Address}
use Rattle.elf_code.proofs.Differences.{difference_bits}
use Rattle.rv_memory.specs.Start.{start}

pub field_width : (elf : Elf) (tabled : List (ℕ × ℕ)) (f : Field) → IsField elf tabled f → (f.width ≡ 4) ⊎ (f.width ≡ 8)
field_width elf tabled f (pointer r counted address place width to number start content) = grind (arith, common_steps)
field_width elf tabled f (slot r kind upper width to number label start content) = inr width
field_width elf tabled f (difference r bits to from is can code whole place width content) =
    of_bits bits width (difference_bits elf r bits to from is can)
  where
    of_bits : (bits : ℕ) → f.width ≡ bits / 8 → (bits ≡ 32) ⊎ (bits ≡ 64) → (f.width ≡ 4) ⊎ (f.width ≡ 8)
    of_bits bits w (inl e) = inl (w ∙ ap (λ (n : ℕ). n / 8) e)
    of_bits bits w (inr e) = inr (w ∙ ap (λ (n : ℕ). n / 8) e)

pub same_address : (a b : ℕ) → Address a ≡ Address b → a ≡ b
same_address a b e = cc
