use Rattle.std.proofs.Common.{sym, ap, ◌∙◌}
use Rattle.rv_encode.specs.internal.PartsOfInst.{parts_of}
use Rattle.rv_encode.proofs.MadeAgain.{same_inst}
use Rattle.rv_encode.proofs.same.is_same.Goals as goal

pub returns : goal.returns
returns c = (
  (λ yes_it. same_inst c.args.a.now c.args.b.now
      (sym c.parts_of-left.ensures ∙ c.are_same_parts.ensures.0 yes_it ∙ c.parts_of-right.ensures)),
  (λ same. c.are_same_parts.ensures.1 (c.parts_of-left.ensures ∙ ap parts_of same ∙ sym c.parts_of-right.ensures)),
)
