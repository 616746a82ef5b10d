use Rattle.std.proofs.Common.{◌≡◌, true, take}
use Rattle.std.specs.List.{list_all}
use Rattle.dw_unit.specs.Faults.{is_sound_attr}
use Rattle.dw_unit.specs.ListedEntries.{ListedEntry}
use Rattle.dw_unit.specs.ListedUnits.{plain_unit}
use Rattle.dw_unit.proofs.soundness.is_sound_unit.Given as goal

abbrev pub invariant-loop-entry : goal.invariant-loop-entry
invariant-loop-entry l = list_all (λ (e : ListedEntry). list_all (is_sound_attr l.addr (plain_unit l.entries)) e.attrs)
    (take l.entry-index l.entries) ≡ true
