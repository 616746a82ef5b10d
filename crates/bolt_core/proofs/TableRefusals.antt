-- A file whose program doesn't register its unwind table itself is refused for the faults of its tables.
use Rattle.std.proofs.Common.{ℕ, ◌<◌, ◌≤◌, List, arith}
use Rattle.elf_image.specs.declared.elf.Elf.{Elf}
use Rattle.rb_bytes.specs.FirstFault.{IsFree, IsRefusalBy}
use Rattle.rb_bytes.specs.declared.fault.FaultKind.{FaultKind}
use Rattle.rb_bytes.specs.declared.fault.FaultKind.TheVariants as fault
use Rattle.rb_bytes.specs.declared.fault.Refusal.{Refusal}
use Rattle.rb_bytes.specs.declared.fault.Refusal.TheVariants as refusal
use Rattle.frame_rewrite.specs.Faults.{IsRegisteredFrames}
use Rattle.addr_map.specs.declared.span.Span.{Span}
use Rattle.answer_runs.specs.Weights.{weight_limit}
use Rattle.dw_unit.specs.AbbrevWeight.{abbrev_weight}
use Rattle.dw_unit.specs.Faults.{HasDwarfFault, unit_fault_places}
use Rattle.dw_unit.specs.Tables.{sections_of}
use Rattle.table_set.specs.TableFaults as tables
use Rattle.table_set.specs.TableLimits.{IsTooHeavy, abbreviations}
use Rattle.table_set.proofs.SoundUnits.{units_sound}
use Rattle.bolt_core.specs.TableFaults.{HasCarryingFault}

module _ (elf : Elf) where
  -- no fault of tables is a fault of registration
  from_tables : (kind : FaultKind) (place : ℕ) → tables.HasTableFault elf kind place → HasCarryingFault elf kind place
  from_tables fault.RegisteredFrames place has = absurd (cc)
  from_tables kind place has = has

  module _ (unregistered : (place : ℕ) → IsRegisteredFrames elf place → ⊥) where
    to_tables : (kind : FaultKind) (place : ℕ) → HasCarryingFault elf kind place → tables.HasTableFault elf kind place
    to_tables fault.RegisteredFrames place has = absurd (unregistered place has)
    to_tables kind place has = has

    pub tables_free : IsFree (tables.HasTableFault elf) → IsFree (HasCarryingFault elf)
    tables_free free kind place has = free kind place (to_tables kind place has)

    pub tables_refused : (r : Refusal) → IsRefusalBy (tables.HasTableFault elf) r → IsRefusalBy (HasCarryingFault elf) r
    tables_refused (refusal.Fault f) is = record {
      present = from_tables f.kind f.place is.present;
      first = λ kind lower place has. is.first kind lower place (to_tables kind place has);
      lowest = λ kind place same has. is.lowest kind place same (to_tables kind place has);
      alone = is.alone;
    }
    tables_refused refusal.Memory is = tt

  -- the faults of debug data are among the faults of tables
  pub debug_free : IsFree (HasCarryingFault elf) → IsFree (tables.HasDebugFault elf)
  debug_free free kind place has = free kind place (from_tables kind place has.1)

  -- the file's units can be read
  pub sound_units : IsFree (HasCarryingFault elf) → IsFree (HasDwarfFault (unit_fault_places (sections_of elf)))
  sound_units free = units_sound elf (λ kind place has. free kind place (from_tables kind place has))

-- the abbreviations of units don't weigh too much
pub light_declarations : (elf : Elf) (spans : List Span) → (IsTooHeavy elf spans → ⊥) → abbrev_weight (sections_of elf) ≤ weight_limit
light_declarations elf spans light = by (abbrev_weight (sections_of elf)) (λ over. light (abbreviations over))
  where
    by : (n : ℕ) → (weight_limit < n → ⊥) → n ≤ weight_limit
    by n none = omega (arith, none)
