use Rattle.std.proofs.Common.{◌≡◌, subst, refl, ℕ, List, rules}
use Rattle.std.specs.Prelude.{codes, unwrap_or}
use Rattle.elf_image.specs.declared.section.SectionHeader.{SectionHeader}
use Rattle.elf_plan.specs.TableSizes.{table_size}
use Rattle.elf_make.specs.SetHeaders.{AddsAt}
use Rattle.elf_make.proofs.GrownNames.{added-keeps, adds-kept, adds_at-kept, both-keep}
use Rattle.elf_make.proofs.AddedNames.{area-names}
use Rattle.elf_make.proofs.headers.area_headers.Goals as goal

pub returns-clause-added : goal.returns-clause-added
returns-clause-added c =
    let area = c.args.area.now in
    let tables = c.args.tables.now in
    let first : List ℕ = c.add_text.new.names.bytes.items in
    let second : List ℕ = c.add_table.new.names.bytes.items in
    let last : List ℕ = c.add_table-2.new.names.bytes.items in
    let text : List SectionHeader = c.add_text.new.headers.items in
    let frames : List SectionHeader = c.add_table.new.headers.items in
    let index : List SectionHeader = c.add_table-2.new.headers.items in
    let more = added-keeps second _ last c.in_ok-add_table-2.ensures.names in
    let frames_size : c.unwrap_or-frames_size.result ≡ unwrap_or (table_size tables (codes ".eh_frame")) 0 = search rules in
    let index_size : c.unwrap_or-index_size.result ≡ unwrap_or (table_size tables (codes ".eh_frame_hdr")) 0 = search rules in
    record {
      with_text = text;
      with_frames = frames;
      with_index = index;
      text = adds-kept first last
          (both-keep first second last (added-keeps first _ second c.in_ok-add_table.ensures.names) more) _ _ _ _ _ 16
          c.args.headers.now.items text c.in_ok-add_text.ensures.adds;
      frames = subst (λ (n : ℕ). AddsAt last (codes ".eh_frame") area area.frames n 8 text frames) frames_size
          (adds_at-kept second last more _ area area.frames _ 8 text frames c.in_ok-add_table.ensures.adds);
      index = subst (λ (n : ℕ). AddsAt last (codes ".eh_frame_hdr") area area.index n 4 frames index) index_size
          c.in_ok-add_table-2.ensures.adds;
      added_ranges = refl;
    }

pub returns-clause-names : goal.returns-clause-names
returns-clause-names c =
    area-names c.args.names.now.bytes.items _ _ _ c.args.area.now c.in_ok-add_text.ensures.names
    c.in_ok-add_table.ensures.names c.in_ok-add_table-2.ensures.names
