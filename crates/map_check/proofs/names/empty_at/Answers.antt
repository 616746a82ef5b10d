use Rattle.std.proofs.Common.{◌∙◌, ap, Some, None, Bool, if◌then◌else◌}
use Rattle.map_check.proofs.NamedSpans.{one_name}
use Rattle.map_check.proofs.names.empty_at.Goals as goal

pub returns : goal.returns
returns c =
    one_name c.args.sorted.now c.args.a c.place_if.result
    (c.place_if.ensures ∙ ap (λ (b : Bool). if b then Some c.args.a else None) c.is_empty_at.ensures)
