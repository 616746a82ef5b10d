use Rattle.std.proofs.Common.{◌≡◌, true, false}
use Rattle.func_find.proofs.Judged.{IsNopPart-tests, IsNopPart-all}
use Rattle.func_find.proofs.function_parts.is_nop_part.Goals as goal
use Rattle.rb_bytes.proofs.Tests.{clash}

pub returns-then-hold : goal.returns-then-hold
returns-then-hold c = (
  (λ wrong. let no : false ≡ true = wrong in absurd (cc)),
  (λ nop. absurd (nop.uncovered ((c.requires.covers _ _ c.requires.part.part.has_bytes).0 (c.hold.ensures.0 c.if-hold.true)))),
)

pub returns : goal.returns
returns c = (
  (λ nops. IsNopPart-tests c.args.elf.now _ _ c.args.inside.now c.requires.part c.requires.inside
      (λ covered. clash _ (c.hold.ensures.1 ((c.requires.covers _ _ c.requires.part.part.has_bytes).1 covered)) c.if-hold.false)
      (c.are_nops.ensures.0 nops)),
  (λ nop. c.are_nops.ensures.1 (IsNopPart-all c.args.elf.now _ _ c.args.inside.now c.requires.inside nop)),
)
