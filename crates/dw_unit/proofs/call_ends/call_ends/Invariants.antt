use Rattle.std.proofs.Common.{◌<◌, ◌^◌, All, take}
use Rattle.dw_unit.specs.CallEnds.{AreCallEnds}
use Rattle.dw_unit.proofs.call_ends.call_ends.Given as goal

abbrev pub invariant-spans : goal.invariant-spans
invariant-spans l = record {
  ends : AreCallEnds l.elf (take l.index l.map) l.ends;
  below : All (λ s. s.out < 2 ^ 64) (take l.index l.map);
}
