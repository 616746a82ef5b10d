use Rattle.std.proofs.Common.{◌≡◌, ◌∙◌, false, sym, ap, map}
use Rattle.std.specs.Prelude.{codes}
use Rattle.table_core.specs.Sections.{Held, held}
use Rattle.cfi_rows.specs.Frames.{frames_of}
use Rattle.cfi_rows.specs.KeptTables.{SaidFrames}
use Rattle.cfi_rows.specs.ReadEntries.{fde_of}
use Rattle.cfi_rows.proofs.TabledRanges.{read_ranges, same-ranges}
use Rattle.cfi_rows.proofs.ranges.tabled.Goals as goal

pub returns : goal.returns
returns c =
    let h : Held = held c.args.elf.now (codes ".eh_frame") in
    let listed : map fde_of (frames_of false h).list ≡ c.in_ok-table.table.list.items =
    ap (λ (x : Held). map fde_of (frames_of false x).list) (sym c.held_by-held.ensures)
    ∙ ap (λ (s : SaidFrames). s.list) c.in_ok-table.ensures in
    c.in_ok-ranges.ensures ∙ ap read_ranges (c.deref.ensures.value ∙ sym listed) ∙ same-ranges (frames_of false h).list
