use Rattle.std.proofs.Common.{sym, subst, refl, slice_index_or, arith}
use Rattle.std.specs.List.{All}
use Rattle.std.proofs.lemmas.List.Elements.{Contains-get_or, All-push}
use Rattle.elf_code.specs.Functions.{IsFunctionPart}
use Rattle.elf_code.specs.Parts.{IsCodePart}
use Rattle.code_starts.specs.declared.parts.Part.{Part}
use Rattle.code_starts.specs.Parts.{Precedes}
use Rattle.code_starts.proofs.Chosen.{chosen_keep, chosen_skip, chosen_all}
use Rattle.func_find.specs.FunctionParts.{AreFunctionsBefore}
use Rattle.func_find.proofs.Judged.{AreFunctionsBefore-chosen, IsCodePart-function}
use Rattle.func_find.proofs.function_parts.function_parts.Goals as goal
use Rattle.rb_bytes.proofs.Tests.{clash}

pub is_function-requires-clause-part : goal.is_function-requires-clause-part
is_function-requires-clause-part c =
    c.requires.parts.only _ (Contains-get_or c.args.parts.now c.loop-part.part-index _ c.loop-part-test.true)

pub loop-part-preserved-then-not-is_function : goal.loop-part-preserved-then-not-is_function
loop-part-preserved-then-not-is_function c = record {
  code = c.loop-part.invariant.code;
  chosen = λ tabled names.
      let elf = c.args.elf.now in
      let kept = c.loop-part.kept.items in
      let parts = c.args.parts.now in
      let chosen = c.loop-part.invariant.chosen tabled names in
      let d : Part = record { start = 0; end = 0 } in
      let x = slice_index_or parts c.loop-part.part-index d in
      let before =
      subst (AreFunctionsBefore elf tabled x.start) (sym c.deref.ensures.value)
      (AreFunctionsBefore-chosen elf tabled parts kept c.loop-part.part-index d c.requires.parts c.loop-part-test.true chosen) in
      chosen_skip
      (λ p. IsFunctionPart elf tabled p.start p.end) Precedes parts kept c.loop-part.part-index x d c.loop-part-test.true refl
      (λ function. clash _ ((c.is_function.ensures tabled names before).1 function) c.if-not-is_function.true) chosen;
}

pub loop-part-preserved : goal.loop-part-preserved
loop-part-preserved c =
    let elf = c.args.elf.now in
    let kept = c.loop-part.kept.items in
    let parts = c.args.parts.now in
    let d : Part = record { start = 0; end = 0 } in
    let x = slice_index_or parts c.loop-part.part-index d in
    record {
      code = subst (All (λ (p : Part). IsCodePart elf p.start p.end)) (sym c.in_ok-push.ensures.items)
          (All-push (λ (p : Part). IsCodePart elf p.start p.end) kept x c.loop-part.invariant.code
          (c.requires.parts.only x (Contains-get_or parts c.loop-part.part-index d c.loop-part-test.true)));
      chosen = λ tabled names.
          let chosen = c.loop-part.invariant.chosen tabled names in
          let before =
          subst (AreFunctionsBefore elf tabled x.start) (sym c.deref.ensures.value)
          (AreFunctionsBefore-chosen elf tabled parts kept c.loop-part.part-index d c.requires.parts
          c.loop-part-test.true chosen) in
          chosen_keep (λ p. IsFunctionPart elf tabled p.start p.end) Precedes parts kept _ c.loop-part.part-index x d
          c.requires.parts.ordered c.loop-part-test.true refl
          ((c.is_function.ensures tabled names before).0 c.if-not-is_function.false) c.in_ok-push.ensures.items chosen;
    }

pub returns : goal.returns
returns c = λ tabled names.
    chosen_all
    (λ p. IsFunctionPart c.args.elf.now tabled p.start p.end) Precedes c.args.parts.now _ c.loop-part.part-index (omega arith)
    (λ p function. c.requires.parts.each p (IsCodePart-function c.args.elf.now tabled p.start p.end function))
    (c.loop-part.invariant.chosen tabled names)
