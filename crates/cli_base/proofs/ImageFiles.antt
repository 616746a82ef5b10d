-- The test of the code's size, for a file that was read.
use Rattle.std.proofs.Common.{◌≡◌, sym, subst, Bool, true, false, ℕ, List, IsTrue}
use Rattle.std.specs.Prelude.{◌↔◌}
use Rattle.elf_image.specs.declared.elf.Elf.{Elf}
use Rattle.elf_image.specs.file.ParsedFile.{IsElfOf}
use Rattle.program.specs.Limits.{HasTooMuchCode}

module _ (file : List ℕ) (elf : Elf) (is : IsElfOf file elf) (answer : Bool)
    (tells : IsTrue answer ↔ HasTooMuchCode elf.file.now) where
  pub has_much : answer ≡ true → HasTooMuchCode file
  has_much holds = subst HasTooMuchCode is.file_is (tells.0 holds)

  pub has_no_more : answer ≡ false → HasTooMuchCode file → ⊥
  has_no_more fails much =
      let holds : answer ≡ true = tells.1 (subst HasTooMuchCode (sym is.file_is) much) in absurd (cc)
