use Rattle.std.proofs.Common.{ap, Bool, ◌==◌, ◌&&◌}
use Rattle.elf_code.specs.Cells.{is_plus}
use Rattle.rv_reloc.specs.Labels.{width_of}
use Rattle.rv_reloc.proofs.Classes.{plus-class}
use Rattle.rv_reloc.proofs.Kept.{finds-only}
use Rattle.rv_reloc.proofs.index.only_plus.Goals as goal

pub returns : goal.returns
returns c =
    finds-only c.args.records.now c.args.place _ c.plus_class.result (is_plus c.args.place (width_of c.args.width))
    c.only.result
    c.plus_class.ensures (λ r. ap (λ (b : Bool). r.place == c.args.place && b) (plus-class r.kind (width_of c.args.width)))
    c.only.ensures.is c.only.ensures.only
