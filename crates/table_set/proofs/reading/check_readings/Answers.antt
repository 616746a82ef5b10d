use Rattle.std.proofs.Common.{◌≡◌, ◌∙◌, Some, option_map, subst, sym}
use Rattle.rb_bytes.specs.Fault.{fault_at}
use Rattle.rb_bytes.specs.declared.fault.FaultKind.TheVariants.{DwarfVersion}
use Rattle.elf_image.specs.declared.elf.Elf.{Elf}
use Rattle.dw_unit.specs.Faults.{HasDwarfFault, unit_fault_places}
use Rattle.dw_unit.specs.Tables.{sections_of}
use Rattle.line_rewrite.specs.Tables.{HasLineFault, LineSections, line_answers, line_at, line_sections}
use Rattle.range_loc_rewrite.specs.Faults.{location_places}
use Rattle.range_loc_rewrite.specs.Tables.{list_sections}
use Rattle.addr_rewrite.specs.Tables.{own_places}
use Rattle.table_set.specs.Reading.{Offers}
use Rattle.table_set.specs.TableFaults.{HasDebugFault}
use Rattle.table_set.proofs.ElfReading.{chosen_of}
use Rattle.table_set.proofs.ReadTables.{all_none, offers_read, offers_told, offers_version, told_none}
use Rattle.table_set.proofs.reading.check_readings.Goals as goal

pub returns-in-Some-clause-fault : goal.returns-in-Some-clause-fault
returns-in-Some-clause-fault g c =
    let elf : Elf = c.args.elf.now in
    subst (Offers (HasDebugFault elf)) (sym c.first_fault.ensures ∙ c.in-Some.is)
    (chosen_of elf (option_map (fault_at DwarfVersion) c.in_ok-version.version) c.in_ok-of_lines.of_lines c.in_ok-of_lists.of_lists
    c.in_ok-of_aranges.of_aranges
    (offers_version (unit_fault_places (sections_of elf)) c.in_ok-version.version c.in_ok-version.ensures)
    (offers_read (HasLineFault (line_sections elf)) (λ (t : LineSections). line_answers elf ≡ Some (line_at t)) c.args.lines.now
    c.in_ok-of_lines.of_lines c.requires.lines c.in_ok-of_lines.ensures)
    (offers_told (HasDwarfFault (location_places (list_sections elf))) c.args.lists.now c.in_ok-of_lists.of_lists
    c.requires.lists_free c.requires.lists_fault c.in_ok-of_lists.ensures)
    (offers_told (HasDwarfFault (own_places elf)) c.args.aranges.now c.in_ok-of_aranges.of_aranges
    c.requires.aranges_free c.requires.aranges_fault c.in_ok-of_aranges.ensures))

pub returns-in-None-clause-sound : goal.returns-in-None-clause-sound
returns-in-None-clause-sound g c =
    let elf : Elf = c.args.elf.now in
    subst (Offers (HasDebugFault elf)) (sym c.first_fault.ensures ∙ c.in-None.is)
    (chosen_of elf (option_map (fault_at DwarfVersion) c.in_ok-version.version) c.in_ok-of_lines.of_lines c.in_ok-of_lists.of_lists
    c.in_ok-of_aranges.of_aranges
    (offers_version (unit_fault_places (sections_of elf)) c.in_ok-version.version c.in_ok-version.ensures)
    (offers_read (HasLineFault (line_sections elf)) (λ (t : LineSections). line_answers elf ≡ Some (line_at t)) c.args.lines.now
    c.in_ok-of_lines.of_lines c.requires.lines c.in_ok-of_lines.ensures)
    (offers_told (HasDwarfFault (location_places (list_sections elf))) c.args.lists.now c.in_ok-of_lists.of_lists
    c.requires.lists_free c.requires.lists_fault c.in_ok-of_lists.ensures)
    (offers_told (HasDwarfFault (own_places elf)) c.args.aranges.now c.in_ok-of_aranges.of_aranges
    c.requires.aranges_free c.requires.aranges_fault c.in_ok-of_aranges.ensures))

pub returns-in-None-clause-lines : goal.returns-in-None-clause-lines
returns-in-None-clause-lines g c =
    let none = all_none (option_map (fault_at DwarfVersion) c.in_ok-version.version) c.in_ok-of_lines.of_lines c.in_ok-of_lists.of_lists
    c.in_ok-of_aranges.of_aranges (sym c.first_fault.ensures ∙ c.in-None.is) in
    told_none c.args.lines.now c.in_ok-of_lines.of_lines c.in_ok-of_lines.ensures none.0

pub returns-in-None-clause-lists : goal.returns-in-None-clause-lists
returns-in-None-clause-lists g c =
    let none = all_none (option_map (fault_at DwarfVersion) c.in_ok-version.version) c.in_ok-of_lines.of_lines c.in_ok-of_lists.of_lists
    c.in_ok-of_aranges.of_aranges (sym c.first_fault.ensures ∙ c.in-None.is) in
    told_none c.args.lists.now c.in_ok-of_lists.of_lists c.in_ok-of_lists.ensures none.1

pub returns-in-None-clause-aranges : goal.returns-in-None-clause-aranges
returns-in-None-clause-aranges g c =
    let none = all_none (option_map (fault_at DwarfVersion) c.in_ok-version.version) c.in_ok-of_lines.of_lines c.in_ok-of_lists.of_lists
    c.in_ok-of_aranges.of_aranges (sym c.first_fault.ensures ∙ c.in-None.is) in
    told_none c.args.aranges.now c.in_ok-of_aranges.of_aranges c.in_ok-of_aranges.ensures none.2
