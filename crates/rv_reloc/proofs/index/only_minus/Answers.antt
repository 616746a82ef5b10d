use Rattle.std.proofs.Common.{ap, Bool, ◌==◌, ◌&&◌}
use Rattle.elf_code.specs.Cells.{is_minus}
use Rattle.rv_reloc.specs.Labels.{width_of}
use Rattle.rv_reloc.proofs.Classes.{minus-class}
use Rattle.rv_reloc.proofs.Kept.{finds-only}
use Rattle.rv_reloc.proofs.index.only_minus.Goals as goal

pub returns : goal.returns
returns c =
    finds-only c.args.records.now c.args.place _ c.minus_class.result (is_minus c.args.place (width_of c.args.width))
    c.only.result
    c.minus_class.ensures (λ r. ap (λ (b : Bool). r.place == c.args.place && b) (minus-class r.kind (width_of c.args.width)))
    c.only.ensures.is c.only.ensures.only
