use Rattle.std.proofs.Common.{◌≡◌, ◌∙◌, ℕ, List, sym, ap, map}
use Rattle.table_core.specs.Sections.{Held}
use Rattle.cfi_rows.specs.Entries.{Fde, frames}
use Rattle.cfi_rows.specs.FramePrograms.{section_in}
use Rattle.cfi_rows.specs.KeptTables.{SaidFrames, said}
use Rattle.cfi_rows.proofs.reader.table_of.Goals as goal

pub invariant_of-result : goal.invariant_of-result
invariant_of-result c =
    let t : Held = section_in c.args.held.now in
    let bytes : c.in_ok-section.section.items ≡ t.bytes = c.in_ok-section.ensures.items in
    record {
      read = ap (λ (bs : List ℕ). said (frames c.args.debug t.address bs)) bytes ∙ c.in_ok-listed.ensures;
      run = c.in_ok-rows.ensures
          ∙ ap (λ (bs : List ℕ). map (λ (f : Fde). f.rows) (frames c.args.debug t.address bs).list) (sym bytes);
    }

pub rows_of-requires : goal.rows_of-requires
rows_of-requires c = c.deref.ensures.value ∙ sym (ap (λ (s : SaidFrames). s.list) c.in_ok-listed.ensures)
