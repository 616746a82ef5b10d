use Rattle.std.proofs.Common.{◌≡◌, true, false, refl, length, arith}
use Rattle.std.proofs.lemmas.Bool.{eqb-true}
use Rattle.code_starts.specs.declared.parts.Part.{Part}
use Rattle.func_find.proofs.Judged.{IsEntered-from, IsEntered-last}
use Rattle.func_find.proofs.function_parts.is_entered.Goals as goal

pub returns-then-count-eq0 : goal.returns-then-count-eq0
returns-then-count-eq0 c = λ tabled are. (
  (λ wrong. let no : false ≡ true = wrong in absurd (cc)),
  (λ entered.
      let d : Part = record { start = 0; end = 0 } in
      let some =
      (IsEntered-last c.args.elf.now tabled c.args.start (length c.args.before.now) c.args.before.now d are refl entered).0 in
      let none = c.if-count-eq0.true in
      absurd (omega arith)),
)

pub returns-then-last-start : goal.returns-then-last-start
returns-then-last-start c = λ tabled are.
    let d : Part = record { start = 0; end = 0 } in
    let some = c.if-count-eq0.false in (
      (λ out. IsEntered-from c.args.elf.now tabled c.args.start (length c.args.before.now) c.args.before.now d are refl
          (omega arith) c.if-last-start.true (c.part_falls_out.ensures.0 out)),
      (λ entered. c.part_falls_out.ensures.1
          (IsEntered-last c.args.elf.now tabled c.args.start (length c.args.before.now) c.args.before.now d are refl entered).2),
    )

pub returns-else-last-start : goal.returns-else-last-start
returns-else-last-start c = λ tabled are.
    let d : Part = record { start = 0; end = 0 } in
    let isnt = c.if-last-start.false in (
      (λ is. absurd (isnt (eqb-true _ _ is))),
      (λ entered. absurd
          (isnt
          (IsEntered-last c.args.elf.now tabled c.args.start (length c.args.before.now) c.args.before.now d are refl entered).1)),
    )
