-- If no table has a fault, units have none.
use Rattle.std.proofs.Common.{◌≡◌, ℕ, Option, Some, None, refl}
use Rattle.std.specs.Option.{option_or}
use Rattle.rb_bytes.specs.FirstFault.{IsFree}
use Rattle.rb_bytes.proofs.Options.{both_none}
use Rattle.rb_bytes.specs.declared.fault.FaultKind.TheVariants as fault
use Rattle.elf_image.specs.declared.elf.Elf.{Elf}
use Rattle.table_core.specs.DebugUnits.{other_version}
use Rattle.dw_unit.specs.Faults.{HasDwarfFault, unit_fault_places}
use Rattle.dw_unit.specs.Tables.{sections_of}
use Rattle.dw_unit.proofs.NoFaults.{free_of}
use Rattle.line_rewrite.specs.Tables.{line_sections, line_version}
use Rattle.range_loc_rewrite.specs.Faults.{location_places}
use Rattle.range_loc_rewrite.specs.Tables.{list_sections}
use Rattle.addr_rewrite.specs.Aranges.{bad_table}
use Rattle.addr_rewrite.specs.Tables.{aranges_of}
use Rattle.table_set.specs.TableFaults.{HasTableFault, table_fault, table_version}
use Rattle.table_set.proofs.ElfReading.{units_first}

none_at : (o : Option ℕ) → ((place : ℕ) → o ≡ Some place → ⊥) → o ≡ None
none_at None h = refl
none_at (Some place) h = absurd (h place refl)

pub units_sound : (elf : Elf) → IsFree (HasTableFault elf) → IsFree (HasDwarfFault (unit_fault_places (sections_of elf)))
units_sound elf free =
    free_of (unit_fault_places (sections_of elf)) (record {
      version =
          (both_none (unit_fault_places (sections_of elf)).version
          (option_or (line_version (line_sections elf)) (option_or (other_version 5 (list_sections elf).ranges)
          (option_or (other_version 5 (list_sections elf).locations) (other_version 2 (aranges_of elf)))))
          (none_at (table_version elf) (λ place has. free fault.DwarfVersion place has))).0;
      form = none_at (unit_fault_places (sections_of elf)).form (λ place has. free fault.DwarfForm place has);
      high = none_at (unit_fault_places (sections_of elf)).high (λ place has. free fault.HighPcForm place has);
      bad = units_first elf
          (both_none (location_places (list_sections elf)).bad (bad_table (aranges_of elf))
          (none_at (table_fault elf) (λ place has. free fault.DwarfFault place has))).0;
    })
