use Rattle.std.proofs.Common.{◌∙◌, ap, refl}
use Rattle.std.specs.Prelude.{◌==◌}
use Rattle.std.proofs.lemmas.List.Splits.{slice_split_none, slice_split_at}
use Rattle.edge_profile.specs.Grammar.{fields}
use Rattle.edge_profile.specs.Fields.{fields_in}
use Rattle.edge_profile.proofs.fields.next_field.Goals as goal

pub returns-in-Some-clause-some : goal.returns-in-Some-clause-some
returns-in-Some-clause-some c =
    ap fields_in c.in_ok-line.was ∙ ap fields c.in-Some.ensures.parts
    ∙ slice_split_at (λ b. b == 32) _ 32 _ c.in-Some.ensures.first refl

pub returns-in-None-clause-some : goal.returns-in-None-clause-some
returns-in-None-clause-some c =
    ap fields_in c.in_ok-line.was ∙ slice_split_none (λ b. b == 32) c.in_ok-line.line.now c.in-None.ensures.none
