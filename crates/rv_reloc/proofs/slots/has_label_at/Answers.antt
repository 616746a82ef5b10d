use Rattle.std.proofs.Common.{◌≡◌, ◌∙◌, sym, refl, ⊎_elim, false, true, pos}
use Rattle.rv_reloc.proofs.LabelsAt.{at-below, at-from, at-cases}
use Rattle.rv_reloc.proofs.slots.has_label_at.Goals as goal

pub returns-then-has_label_below : goal.returns-then-has_label_below
returns-then-has_label_below c = (
  λ is. at-below c.args.labels.now c.args.place _ (c.has_label_below.ensures.0 is),
  λ _. c.if-has_label_below.true,
)

pub returns-else-has_label_below : goal.returns-else-has_label_below
returns-else-has_label_below c = (
  λ is. at-from c.args.labels.now c.args.place _ (c.has_label_from.ensures.0 is),
  λ has. ⊎_elim
      (λ below. let e : false ≡ true = sym c.if-has_label_below.false ∙ c.has_label_below.ensures.1 below in absurd (cc))
      (λ from. c.has_label_from.ensures.1 from)
      (at-cases c.args.labels.now c.args.place (pos 0) (pos 0) refl has),
)
