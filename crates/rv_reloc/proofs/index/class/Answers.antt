use Rattle.std.proofs.Common.{◌∙◌}
use Rattle.rv_reloc.specs.Labels.{width_of}
use Rattle.rv_reloc.proofs.Classes.{class-plus, class-minus, class-beside}
use Rattle.rv_reloc.proofs.index.class.Goals as goal

pub returns-in-Some : goal.returns-in-Some
returns-in-Some c = c.plus_class.ensures ∙ class-plus c.args.kind (width_of c.in-Some.width) c.in-Some.ensures

pub returns-in-Some-minus_width : goal.returns-in-Some-minus_width
returns-in-Some-minus_width c = c.minus_class.ensures ∙ class-minus c.args.kind _ c.in-None.ensures c.in-Some-minus_width.ensures

pub returns-in-None-minus_width : goal.returns-in-None-minus_width
returns-in-None-minus_width c = c.class_beside.ensures ∙ class-beside c.args.kind c.in-None.ensures c.in-None-minus_width.ensures
