use Rattle.std.proofs.Common.{◌≡◌, true, take}
use Rattle.std.specs.List.{list_all}
use Rattle.dw_unit.specs.CompUnits.{Unit}
use Rattle.dw_unit.specs.Faults.{is_sound_attr}
use Rattle.dw_unit.specs.UnitBases.{bases_of}
use Rattle.dw_unit.proofs.soundness.are_sound_attrs.Given as goal

abbrev pub invariant-loop-attr : goal.invariant-loop-attr
invariant-loop-attr l = (u : Unit) → l.bases ≡ bases_of u → list_all (is_sound_attr l.addr u) (take l.attr-index l.attrs) ≡ true
