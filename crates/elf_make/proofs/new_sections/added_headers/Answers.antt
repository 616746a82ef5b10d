use Rattle.std.proofs.Common.{◌∙◌, ap, subst, sym, true, Bool, ℕ, List, ◌++◌}
use Rattle.std.specs.Prelude.{codes}
use Rattle.elf_image.specs.declared.section.SectionHeader.{SectionHeader}
use Rattle.elf_plan.specs.NewNames.{added_names, ended}
use Rattle.elf_make.specs.SetHeaders.{AddsRanges}
use Rattle.elf_make.proofs.GrownNames.{added-keeps, adds-kept, adds_at-kept}
use Rattle.elf_make.proofs.AddedNames.{with_ranges}
use Rattle.elf_make.proofs.new_sections.added_headers.Goals as goal

pub returns-clause-added : goal.returns-clause-added
returns-clause-added c =
    let area = c.args.area.now in
    let first : List ℕ = c.area_headers.new.names.bytes.items in
    let last : List ℕ = c.add_ranges.new.names.bytes.items in
    let more = added-keeps first _ last c.in_ok-add_ranges.ensures.names in
    let are = c.in_ok-area_headers.ensures.added in
    let all : List SectionHeader = c.add_ranges.new.headers.items in
    record {
      with_text = are.with_text;
      with_frames = are.with_frames;
      with_index = are.with_index;
      text = adds-kept first last more _ _ _ _ _ 16 c.args.headers.now.items are.with_text are.text;
      frames = adds_at-kept first last more _ area area.frames _ 8 are.with_text are.with_frames are.frames;
      index = adds_at-kept first last more _ area area.index _ 4 are.with_frames are.with_index are.index;
      added_ranges = subst (λ (b : Bool). AddsRanges last b are.with_index all) (sym c.if-not-adds_ranges.false)
          (subst (λ (headers : List SectionHeader). AddsRanges last true headers all) are.added_ranges
          c.in_ok-add_ranges.ensures.adds);
    }

pub returns-clause-names : goal.returns-clause-names
returns-clause-names c =
    let area = c.args.area.now in
    let old : List ℕ = c.args.names.now.bytes.items in
    c.in_ok-add_ranges.ensures.names
    ∙ ap (λ (xs : List ℕ). xs ++ ended (codes ".debug_rnglists")) c.in_ok-area_headers.ensures.names
    ∙ with_ranges old area
    ∙ ap (λ (b : Bool). old ++ added_names area b) (sym c.if-not-adds_ranges.false)
