use Rattle.std.proofs.Common.{◌≡◌, true, false, refl, length, arith}
use Rattle.func_find.proofs.Judged.{inside_starts, FallsOut-last}
use Rattle.func_find.proofs.function_parts.part_falls_out.Goals as goal

pub returns-then-count-eq0 : goal.returns-then-count-eq0
returns-then-count-eq0 c = (
  (λ wrong. let no : false ≡ true = wrong in absurd (cc)),
  (λ out.
      let (k, within, there) =
      (inside_starts c.args.elf.now c.args.starts.now c.starts_in-inside.result.now _ _ c.requires.starts c.requires.part
      c.starts_in-inside.ensures.members out.last).1 out.starts in
      let none = c.if-count-eq0.true in
      absurd (omega arith)),
)

pub returns : goal.returns
returns c =
    let some = c.if-count-eq0.false in
    let (to, from) =
    FallsOut-last c.args.elf.now c.args.part.now.start c.args.part.now.end
    (length c.starts_in-inside.result.now) c.starts_in-inside.result.now 0 c.starts_in-inside.ensures.ascending
    (inside_starts c.args.elf.now c.args.starts.now c.starts_in-inside.result.now _ _ c.requires.starts c.requires.part
    c.starts_in-inside.ensures.members) refl (omega arith) in
    ((λ is. to (c.falls_at.ensures.0 is)), λ out. c.falls_at.ensures.1 (from out))
