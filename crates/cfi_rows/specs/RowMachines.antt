-- The states of frame programs as the code keeps them: what was remembered is kept by the changes since.
use Rattle.std.specs.Prelude.{List, [], ◌∷◌, reverse, option_map}
use Rattle.std.specs.Rc.{rc_value}
use Rattle.cfi_rows.specs.declared.rules.Change.{Change}
use Rattle.cfi_rows.specs.declared.machine.Known.{Known as Kept}
use Rattle.cfi_rows.specs.declared.machine.Machine.{Machine}
use Rattle.cfi_rows.specs.declared.machine.Saved.{Saved}
use Rattle.cfi_rows.specs.FrameRows.{Rules, Known, State}
use Rattle.cfi_rows.specs.RuleChanges.{after_changes}

-- the remembered states, the last one first, by changes that take back, the last one first
abbrev pub remembered : Rules → List Change → List Saved → List Known
remembered rules cs [] = []
remembered rules cs (s ∷ ss) =
    record { cfa = option_map rc_value s.cfa; rules = after_changes rules cs }
    ∷ remembered (after_changes rules cs) (reverse s.changes.items) ss

abbrev pub known_of : Kept → Known
known_of k = record { cfa = option_map rc_value k.cfa; rules = k.rules }

abbrev pub state_of : Machine → State
state_of m = record {
  location = m.location;
  known = record { cfa = option_map rc_value m.cfa; rules = m.rules };
  saved = remembered m.rules (reverse m.changes.items) (reverse m.saved.items);
}
