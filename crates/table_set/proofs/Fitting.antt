-- Tables of a file that isn't too long, and that wouldn't weigh too much, can be written.
use Rattle.std.proofs.Common.{◌≡◌, ap, subst, sym, refl, ℕ, ◌+◌, ◌*◌, ◌≤◌, ◌<◌, List, [], ◌∷◌, Option, Some, None, Bool, true, false, cond}
use Rattle.std.proofs.Common.{length, take, drop, arith, length-take, length-drop}
use Rattle.std.specs.Prelude.{◌==◌, codes, sum_by}
use Rattle.std.proofs.lemmas.List.Sums.{sum_by-cons}
use Rattle.elf_image.specs.declared.elf.Elf.{Elf}
use Rattle.elf_image.specs.declared.section.Section.{Section}
use Rattle.elf_image.specs.declared.section.TheConstants.{SHT_NOBITS}
use Rattle.elf_image.specs.file.SectionNames.{section_called}
use Rattle.addr_map.specs.declared.span.Span.{Span}
use Rattle.answer_runs.specs.declared.run.Run.{Run}
use Rattle.answer_runs.specs.AnswerRuns.{AreRunsOf, carried}
use Rattle.answer_runs.specs.Weights.{run_weight, weight_limit}
use Rattle.table_core.specs.Sections.{Held, bytes_of, held, held_by, section_limit}
use Rattle.frame_rewrite.specs.declared.debug.DebugFrames.{DebugFrames}
use Rattle.frame_rewrite.specs.Tables.{DebugComesFrom}
use Rattle.line_rewrite.specs.LineAnswers.{LineSaid}
use Rattle.line_rewrite.specs.LineTable.{LineFits}
use Rattle.line_rewrite.specs.Tables.{LineSections, line_at}
use Rattle.range_loc_rewrite.specs.Faults.{ListSections}
use Rattle.range_loc_rewrite.specs.ListTables.{ListFits}
use Rattle.range_loc_rewrite.specs.Tables.{list_sections}
use Rattle.range_loc_rewrite.specs.Weights.{IsPlacesWeight, IsRangesWeight}
use Rattle.addr_rewrite.specs.Aranges.{unit_at}
use Rattle.addr_rewrite.specs.ArangesTable.{ArangesFit}
use Rattle.table_set.specs.AllTables.{AllComeFrom}
use Rattle.table_set.specs.TableLimits.{IsTooHeavy, aranges, lines, places, ranges}
use Rattle.table_set.specs.declared.all.AllTables.{AllTables}

-- A section isn't longer than its file.
held_length : (file : List ℕ) (o : Option Section) → length (held_by file o).bytes ≤ length file
held_length file None = omega arith
held_length file (Some s) = by (s.kind == SHT_NOBITS)
  where
    by : (b : Bool) → length (cond b [] (take s.size (drop s.offset file))) ≤ length file
    by true = omega arith
    by false =
        let taken = length-take s.size (drop s.offset file) in
        let left = length-drop s.offset file in
        omega (arith, taken, left)

-- A weight that isn't above the limit is within it.
within : (n : ℕ) → (weight_limit < n → ⊥) → n ≤ weight_limit
within n none = omega (arith, none)

-- Runs that weigh the same each.
sum_same : {A : Type 0} (rs : List (Run A)) → sum_by (λ (r : Run A). run_weight + 0) rs ≡ run_weight * length rs
sum_same {A} [] = refl
sum_same {A} (r ∷ rs) =
    let one = sum_by-cons (λ (x : Run A). run_weight + 0) r rs in
    let rest = sum_same rs in
    omega (arith, one, rest)

pub df_fits : (elf : Elf) (t : DebugFrames) → DebugComesFrom t elf → length elf.file.now ≤ section_limit →
    length t.frames.section.items ≤ section_limit
df_fits elf t comes fits =
    let same : length t.frames.section.items ≡ length (held elf (codes ".debug_frame")).bytes =
    ap (λ (h : Held). length h.bytes) comes.section in
    let long = held_length elf.file.now (section_called elf.sections.items (codes ".debug_frame")) in
    omega (arith, same, long, fits)

module _ (elf : Elf) (t : AllTables) (comes : AllComeFrom t elf) (fits : length elf.file.now ≤ section_limit) where
  section_fits : (name : List ℕ) → length (bytes_of elf name) ≤ section_limit
  section_fits name =
      let long = held_length elf.file.now (section_called elf.sections.items name) in
      omega (arith, long, fits)

  module _ (spans : List Span) (light : IsTooHeavy elf spans → ⊥) where
    pub lines_fit : (runs : List (Run LineSaid)) → AreRunsOf (carried (line_at t.lines) spans) runs → LineFits t.lines spans runs
    lines_fit =
        subst (λ (s : LineSections). (runs : List (Run LineSaid)) → AreRunsOf (carried (line_at s) spans) runs → LineFits s spans runs)
        (sym comes.lines)
        (λ runs are. (
          section_fits (codes ".debug_line"),
          within _ (λ over. light (lines _ (record { runs = runs; are_runs = are; sum = refl }) over)),
        ))

    lists_fit : (IsWeight : ListSections → List Span → ℕ → Type 0) →
        ((n : ℕ) → IsWeight (list_sections elf) spans n → weight_limit < n → IsTooHeavy elf spans) →
        ListFits IsWeight (list_sections elf) spans
    lists_fit IsWeight heavy = record {
      info = section_fits (codes ".debug_info");
      abbrevs = section_fits (codes ".debug_abbrev");
      addr = section_fits (codes ".debug_addr");
      ranges = section_fits (codes ".debug_rnglists");
      locations = section_fits (codes ".debug_loclists");
      light = λ n is. within n (λ over. light (heavy n is over));
    }

    pub ranges_fit : ListFits IsRangesWeight t.ranges spans
    ranges_fit = subst (λ (s : ListSections). ListFits IsRangesWeight s spans) (sym comes.ranges) (lists_fit IsRangesWeight ranges)

    pub places_fit : ListFits IsPlacesWeight t.places spans
    places_fit = subst (λ (s : ListSections). ListFits IsPlacesWeight s spans) (sym comes.places) (lists_fit IsPlacesWeight places)

    pub aranges_fit : (runs : List (Run ℕ)) → AreRunsOf (carried (unit_at t.aranges) spans) runs → ArangesFit runs
    aranges_fit =
        subst (λ (s : List ℕ). (runs : List (Run ℕ)) → AreRunsOf (carried (unit_at s) spans) runs → ArangesFit runs) (sym comes.aranges)
        (λ runs are. subst (λ (n : ℕ). n ≤ weight_limit) (sum_same runs)
        (within _ (λ over. light (aranges _ (record { runs = runs; are_runs = are; sum = refl }) over))))
