use Rattle.std.proofs.Common.{refl}
use Rattle.elf_code.specs.Functions.{code}
use Rattle.func_find.proofs.Judged.{inside_starts, HasReferred-any, IsFunctionPart-referred, IsFunctionPart-entered}
use Rattle.func_find.proofs.function_parts.is_function.Goals as goal
use Rattle.rb_bytes.proofs.Tests.{clash}

pub is_nop_part-requires-clause-inside : goal.is_nop_part-requires-clause-inside
is_nop_part-requires-clause-inside c =
    inside_starts c.args.elf.now c.args.starts.now c.starts_in-inside.result.now _ _ c.requires.starts c.requires.part
    c.starts_in-inside.ensures.members

pub returns-then-not-is_nop_part : goal.returns-then-not-is_nop_part
returns-then-not-is_nop_part c = λ tabled names are. (
  (λ _. code _ _ c.requires.part (λ nop. clash _ (c.is_nop_part.ensures.1 nop) c.if-not-is_nop_part.true)),
  λ _. refl,
)

pub returns-then-has_any : goal.returns-then-has_any
returns-then-has_any c = λ tabled names are.
    let inside =
    inside_starts c.args.elf.now c.args.starts.now c.starts_in-inside.result.now _ _ c.requires.starts c.requires.part
    c.starts_in-inside.ensures.members in (
      (λ _. IsFunctionPart-referred c.args.elf.now tabled _ _ (c.is_nop_part.ensures.0 c.if-not-is_nop_part.false)
          ((HasReferred-any c.args.elf.now tabled c.args.part.now.start c.args.part.now.end _ c.starts_in-inside.result.now names
          inside).0 (c.has_any.ensures.0 c.if-has_any.true))),
      λ _. refl,
    )

pub returns : goal.returns
returns c = λ tabled names are.
    let inside =
    inside_starts c.args.elf.now c.args.starts.now c.starts_in-inside.result.now _ _ c.requires.starts c.requires.part
    c.starts_in-inside.ensures.members in
    let (to, from) =
    IsFunctionPart-entered c.args.elf.now tabled c.args.part.now.start c.args.part.now.end
    (c.is_nop_part.ensures.0 c.if-not-is_nop_part.false)
    (λ has. clash _
    (c.has_any.ensures.1
    ((HasReferred-any c.args.elf.now tabled _ _ _ c.starts_in-inside.result.now names inside).1 has)) c.if-has_any.false) in
    let (out, back) = c.is_entered.ensures tabled are in
    ((λ is. to (out is)), λ function. back (from function))
