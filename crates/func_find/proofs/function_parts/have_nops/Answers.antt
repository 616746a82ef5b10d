use Rattle.std.proofs.Common.{◌≡◌, ◌∙◌, sym, subst, refl, ap, ℕ, ◌<◌, ◌≤◌, ⊎_elim, true, false, slice_index_or, arith}
use Rattle.std.proofs.lemmas.Bool.{cases_lt}
use Rattle.std.proofs.lemmas.List.{get_or_default}
use Rattle.std.proofs.lemmas.List.Elements.{Contains-get_or}
use Rattle.elf_code.specs.Functions.{IsNopPart}
use Rattle.code_starts.specs.declared.parts.Part.{Part}
use Rattle.func_find.proofs.Judged.{inside_starts}
use Rattle.func_find.proofs.function_parts.have_nops.Goals as goal
use Rattle.rb_bytes.proofs.Tests.{clash}

pub starts_in-requires-clause-has_bytes : goal.starts_in-requires-clause-has_bytes
starts_in-requires-clause-has_bytes c =
    (c.requires.parts.only _ (Contains-get_or c.args.parts.now c.loop-part.part-index _ c.loop-part-test.true)).part.has_bytes

pub is_nop_part-requires-clause-part : goal.is_nop_part-requires-clause-part
is_nop_part-requires-clause-part c =
    c.requires.parts.only _ (Contains-get_or c.args.parts.now c.loop-part.part-index _ c.loop-part-test.true)

pub is_nop_part-requires-clause-inside : goal.is_nop_part-requires-clause-inside
is_nop_part-requires-clause-inside c =
    let part = c.requires.parts.only _ (Contains-get_or c.args.parts.now c.loop-part.part-index _ c.loop-part-test.true) in
    inside_starts c.args.elf.now c.args.starts.now c.starts_in.result.now _ _ c.requires.starts part c.starts_in.ensures.members

pub returns-then-is_nop_part : goal.returns-then-is_nop_part
returns-then-is_nop_part c =
    let d : Part = record { start = 0; end = 0 } in
    let x = slice_index_or c.args.parts.now c.loop-part.part-index d in (
      (λ _. (
        c.loop-part.part-index,
        x,
        c.loop-part-test.true,
        get_or_default c.args.parts.now c.loop-part.part-index x d c.loop-part-test.true,
        c.is_nop_part.ensures.0 c.if-is_nop_part.true,
      )),
      (λ _. refl),
    )

pub loop-part-init : goal.loop-part-init
loop-part-init c = λ k d none nops. absurd (omega arith)

pub loop-part-preserved : goal.loop-part-preserved
loop-part-preserved c = λ k d early.
    let parts = c.args.parts.now in
    let index = c.loop-part.part-index in
    let zero : Part = record { start = 0; end = 0 } in
    ⊎_elim
    (λ (before : k < index). c.loop-part.invariant k d before)
    (λ (last : index ≤ k).
    let is : index ≡ k = omega arith in
    let same : slice_index_or parts index zero ≡ slice_index_or parts k d =
    get_or_default parts index zero d c.loop-part-test.true ∙ ap (λ (i : ℕ). slice_index_or parts i d) is in
    λ nops. clash _
    (c.is_nop_part.ensures.1 (subst (λ (p : Part). IsNopPart c.args.elf.now p.start p.end) (sym same) nops))
    c.if-is_nop_part.false)
    (cases_lt k index)

pub returns : goal.returns
returns c = (
  (λ wrong. let no : false ≡ true = wrong in absurd (cc)),
  (λ (k, p, within, is, nops).
      absurd (c.loop-part.invariant k p (let past = c.loop-part-test.false in omega arith)
      (subst (λ (q : Part). IsNopPart c.args.elf.now q.start q.end) (sym is) nops))),
)
