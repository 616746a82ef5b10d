use Rattle.std.proofs.Common.{◌<◌, ◌-◌, subst, length, arith}
use Rattle.std.proofs.lemmas.List.{get_or_default}
use Rattle.rv_reloc.specs.Records.{IsBelow}
use Rattle.rv_reloc.proofs.index.ends_before.Goals as goal

pub returns : goal.returns
returns c = λ is some d.
    let within : c.args.index - 1 < length c.args.records.now = omega arith in
    subst (IsBelow c.args.place c.args.at) (get_or_default c.args.records.now (c.args.index - 1) _ d within)
    (c.is_before.ensures.0 is)
