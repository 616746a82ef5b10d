use Rattle.std.proofs.Common.{◌≡◌, ◌∙◌, sym, ⊎_elim, false, true, arith}
use Rattle.std.proofs.lemmas.Int.{ints}
use Rattle.rv_reloc.proofs.LabelsAt.{other-below, other-from, other-cases}
use Rattle.rv_reloc.proofs.slots.has_other_label.Goals as goal

pub returns-then-has_label_below : goal.returns-then-has_label_below
returns-then-has_label_below c = (
  λ is. other-below c.args.labels.now c.args.place c.args.number _ (omega (arith, ints)) (c.has_label_below.ensures.0 is),
  λ _. c.if-has_label_below.true,
)

pub returns-else-has_label_below : goal.returns-else-has_label_below
returns-else-has_label_below c = (
  λ is. other-from c.args.labels.now c.args.place c.args.number _ (omega (arith, ints)) (c.has_label_from.ensures.0 is),
  λ has. ⊎_elim
      (λ below. let e : false ≡ true = sym c.if-has_label_below.false ∙ c.has_label_below.ensures.1 below in absurd (cc))
      (λ from. c.has_label_from.ensures.1 from)
      (other-cases c.args.labels.now c.args.place c.args.number _ _ (omega (arith, ints)) (omega (arith, ints)) has),
)
