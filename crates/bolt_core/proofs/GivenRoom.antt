-- The index of a written unwind table can be made: the table can be read, and has low addresses.
use Rattle.std.proofs.Common.{◌≡◌, ◌∙◌, ℕ, ◌+◌, ◌≤◌, true, false, arith}
use Rattle.std.specs.Prelude.{IsTrue}
use Rattle.std.specs.List.{list_any}
use Rattle.std.proofs.lemmas.Bool.{and_parts}
use Rattle.elf_image.specs.declared.elf.Elf.{Elf}
use Rattle.elf_image.specs.declared.segment.TheConstants.{PT_GNU_EH_FRAME}
use Rattle.rv_code.specs.layout.FunctionLists.{address_end}
use Rattle.std.specs.Prelude.{◌==◌, List}
use Rattle.addr_map.specs.declared.span.Span.{Span}
use Rattle.addr_map.specs.Spans.{IsStretch}
use Rattle.cfi_rows.specs.Entries.{frames}
use Rattle.frame_rewrite.specs.Index.{has_frames, has_index}
use Rattle.frame_rewrite.proofs.CodeEnd.{comes-after}
use Rattle.table_set.specs.AllTables.{AllComeFrom}
use Rattle.table_set.specs.CarriedTables.{AreCarried}
use Rattle.table_set.specs.declared.all.AllTables.{AllTables}
use Rattle.table_set.specs.declared.all.AllWritten.{AllWritten}
use Rattle.bolt_core.specs.internal.CarriedTables.{HasRoomBehind}
use Rattle.bolt_core.specs.internal.GivenIndex.{CanIndex, frames_at}
use Rattle.bolt_core.proofs.TableRoom.{index_within, starts_low}

pub can_index : (elf : Elf) (t : AllTables) → AllComeFrom t elf → (spans : List Span) (start code : ℕ) →
    IsStretch spans start (start + code) → start + code ≤ address_end → HasRoomBehind t.eh spans (start + code) →
    (w : AllWritten) → AreCarried elf spans t w → IsTrue (has_index elf) → CanIndex start code w.eh.bytes.items
can_index elf t comes spans start code stretch low room w carried indexed =
    let loads : has_frames elf ≡ true =
    (and_parts (has_frames elf) (list_any (λ p. p.kind == PT_GNU_EH_FRAME) elf.segments.items) indexed).0 in
    let has : IsTrue t.eh.has_section = comes.eh.there ∙ loads in
    let r = room has carried.eh_runs carried.are_eh_runs in
    let size = carried.eh_made.size in
    let after = comes-after spans start (start + code) stretch in
    record {
      sound = carried.eh_made.sound (frames_at start code) after;
      starts = starts_low spans start (start + code) address_end (frames false (frames_at start code) w.eh.bytes.items).list stretch
          low (carried.eh_made.starts (frames_at start code) after);
      low = index_within start code address_end w.eh.bytes.items (omega (arith, r, size));
    }
