-- The tables of a file, and their faults, are the same in two readings of it.
use Rattle.std.proofs.Common.{◌≡◌, false, true, refl, ℕ, List}
use Rattle.std.specs.Prelude.{codes}
use Rattle.std.specs.Option.{option_or}
use Rattle.rb_bytes.specs.declared.fault.FaultKind.{FaultKind}
use Rattle.rb_bytes.specs.declared.fault.FaultKind.TheVariants as fault
use Rattle.elf_image.specs.declared.elf.Elf.{Elf}
use Rattle.elf_readings.proofs.Alike.{Alike}
use Rattle.table_core.specs.DebugUnits.{other_version}
use Rattle.table_core.specs.Sections.{bytes_of}
use Rattle.cfi_rows.specs.Frames.{frames_of}
use Rattle.dw_unit.specs.Faults.{unit_fault_places}
use Rattle.dw_unit.specs.Tables.{sections_of}
use Rattle.dw_lists.specs.Faults.{location_places}
use Rattle.dw_lists.specs.Tables.{list_sections}
use Rattle.line_rewrite.specs.Tables.{line_fault, line_sections, line_version}
use Rattle.addr_rewrite.specs.Aranges.{bad_table}
use Rattle.table_set.specs.TableFaults.{fault_place}
use Rattle.cli_run.proofs.TabledRanges.{same_held}

module _ (e e' : Elf) (alike : Alike e e') where
  pub same_bytes : (name : List ℕ) → bytes_of e name ≡ bytes_of e' name
  same_bytes name = λ i. (same_held e e' alike name i).bytes

  pub same_units : sections_of e ≡ sections_of e'
  same_units = λ i. record {
    info = same_bytes (codes ".debug_info") i;
    abbrevs = same_bytes (codes ".debug_abbrev") i;
    addr = same_bytes (codes ".debug_addr") i;
  }

  pub same_lists : list_sections e ≡ list_sections e'
  same_lists = λ i. record {
    units = same_units i;
    ranges = same_bytes (codes ".debug_rnglists") i;
    locations = same_bytes (codes ".debug_loclists") i;
  }

  pub same_lines : line_sections e ≡ line_sections e'
  same_lines = λ i. record {
    line = same_bytes (codes ".debug_line") i;
    strings = record { str = same_bytes (codes ".debug_str") i; line_str = same_bytes (codes ".debug_line_str") i };
  }

  pub same_place : (kind : FaultKind) → fault_place e kind ≡ fault_place e' kind
  same_place fault.FrameFault = λ i.
      option_or (frames_of false (same_held e e' alike (codes ".eh_frame") i)).bad
      (frames_of true (same_held e e' alike (codes ".debug_frame") i)).bad
  same_place fault.DwarfVersion = λ i.
      option_or (unit_fault_places (same_lists i).units).version
      (option_or (line_version (same_lines i))
      (option_or (other_version 5 (same_lists i).ranges)
      (option_or (other_version 5 (same_lists i).locations) (other_version 2 (same_bytes (codes ".debug_aranges") i)))))
  same_place fault.DwarfForm = λ i. (unit_fault_places (same_units i)).form
  same_place fault.HighPcForm = λ i. (unit_fault_places (same_units i)).high
  same_place fault.DwarfFault = λ i.
      option_or (location_places (same_lists i)).bad (bad_table (same_bytes (codes ".debug_aranges") i))
  same_place fault.LineFault = λ i. line_fault (same_lines i)
  same_place fault.NotElf = refl
  same_place fault.Truncated = refl
  same_place fault.Flags = refl
  same_place fault.NotStatic = refl
  same_place fault.ExecSegments = refl
  same_place fault.WritableCode = refl
  same_place fault.HighAddress = refl
  same_place fault.CompressedSection = refl
  same_place fault.RelocType = refl
  same_place fault.RelocMismatch = refl
  same_place fault.LoMismatch = refl
  same_place fault.NarrowDiff = refl
  same_place fault.IfuncOrPlt = refl
  same_place fault.AlreadyMoved = refl
  same_place fault.BadEntry = refl
  same_place fault.BadInstruction = refl
  same_place fault.BareAuipc = refl
  same_place fault.BadTarget = refl
  same_place fault.UnitTooLong = refl
  same_place fault.KeptBranch = refl
  same_place fault.RegisteredFrames = refl
  same_place fault.NoRoom = refl
  same_place fault.TooLarge = refl
