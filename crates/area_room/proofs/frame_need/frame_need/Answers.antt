use Rattle.std.proofs.Common.{◌∙◌, sym, ap, false, List}
use Rattle.std.specs.Prelude.{not}
use Rattle.table_core.specs.Sections.{Held}
use Rattle.cfi_rows.specs.declared.frame_table.Fde.{Fde}
use Rattle.cfi_rows.specs.Frames.{frames_of}
use Rattle.cfi_rows.specs.KeptTables.{said}
use Rattle.area_room.specs.EntryNeeds.{bounds_of, entries_need}
use Rattle.file_room.specs.Numbers.{capped}
use Rattle.area_room.proofs.FrameNeeds.{frame_need_is}
use Rattle.area_room.proofs.frame_need.frame_need.Goals as goal

pub returns : goal.returns
returns c =
    let funcs = c.args.funcs.now in
    let blocks = c.args.blocks.now in
    frame_need_is c.args.elf.now funcs blocks c.section_called.result c.in_ok-table.table c.in_ok-entries.entries
    c.section_called.ensures (c.is_none.ensures ∙ ap not c.if-is_none.false)
    (ap (λ (x : Held). said (frames_of false x)) (sym c.held_by-held.ensures) ∙ c.in_ok-table.ensures)
    (c.in_ok-entries.ensures ∙ ap (λ (fs : List Fde). capped (entries_need funcs blocks (bounds_of fs) fs)) c.deref.ensures.value)
    c.saturating_mul-cies.result c.saturating_add.result c.saturating_add-2.result
    c.saturating_mul-cies.ensures c.saturating_add.ensures c.saturating_add-2.ensures
