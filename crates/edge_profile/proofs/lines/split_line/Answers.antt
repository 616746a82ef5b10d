use Rattle.std.proofs.Common.{◌∙◌, ◌∷◌, ap, sym}
use Rattle.edge_profile.specs.Grammar.{lines}
use Rattle.edge_profile.proofs.LineLists.{lines_none, lines_at}
use Rattle.edge_profile.proofs.lines.split_line.Goals as goal

pub returns-in-Some : goal.returns-in-Some
returns-in-Some c = ap lines c.in-Some.ensures.parts ∙ lines_at _ _ c.in-Some.ensures.first

pub returns-in-None : goal.returns-in-None
returns-in-None c =
    lines_none c.args.text.now c.requires c.in-None.ensures.none
    ∙ ap (λ rest. c.args.text.now ∷ lines rest) (sym c.as_slice.ensures)
