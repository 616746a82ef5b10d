use Rattle.std.proofs.Common.{ℕ, List}
use Rattle.std.specs.List.{All}
use Rattle.elf_code.specs.Functions.{IsFunctionPart}
use Rattle.elf_code.specs.Parts.{IsCodePart}
use Rattle.code_starts.specs.Parts.{Precedes}
use Rattle.code_starts.proofs.Chosen.{ChosenOf}
use Rattle.func_find.specs.Referents.{AreReferred}
use Rattle.func_find.proofs.function_parts.function_parts.Given as goal

abbrev pub invariant-loop-part : goal.invariant-loop-part
invariant-loop-part l = record {
  code : All (λ p. IsCodePart l.elf p.start p.end) l.kept.items;
  chosen : (tabled : List (ℕ × ℕ)) → AreReferred l.elf tabled l.referred.addresses.items →
      ChosenOf (λ p. IsFunctionPart l.elf tabled p.start p.end) Precedes l.parts l.part-index l.kept.items;
}
