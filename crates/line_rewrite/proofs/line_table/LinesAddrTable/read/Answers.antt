use Rattle.std.proofs.Common.{◌≡◌, ◌∙◌, subst, map, ℕ, List, None}
use Rattle.std.specs.Prelude.{position}
use Rattle.std.proofs.lemmas.Result.{err_from_is_err_and}
use Rattle.answer_runs.specs.AddressRanges.{holds_address}
use Rattle.answer_runs.specs.FirstRanges.{first_range}
use Rattle.table_core.specs.DebugUnits.{walked}
use Rattle.line_rewrite.specs.declared.unit.Unit as kept
use Rattle.line_rewrite.specs.SequenceIndex.{IsIndexOf}
use Rattle.line_rewrite.specs.Tables.{LineSections, line_sections, line_sections_held, line_version}
use Rattle.line_rewrite.specs.UnitLists.{AreUnits, place_range}
use Rattle.line_rewrite.proofs.TableReads.{read_says, read_refused}
use Rattle.line_rewrite.proofs.line_table.LinesAddrTable.read.Goals as goal

pub returns-in_err-units-clause-reads : goal.returns-in_err-units-clause-reads
returns-in_err-units-clause-reads c =
    let p = err_from_is_err_and c.from_residual-in_err-units.result c.from_residual-in_err-units.ensures.1 in
    let s : LineSections = line_sections_held c.in_ok-line.line.items c.in_ok-str.str.items c.in_ok-line_str.line_str.items in
    let same : s ≡ line_sections c.args.elf.now =
    λ i. line_sections_held ((c.in_ok-line.ensures.items ∙ c.contents_of.ensures) i)
    ((c.in_ok-str.ensures.items ∙ c.contents_of-2.ensures) i)
    ((c.in_ok-line_str.ensures.items ∙ c.contents_of-3.ensures) i) in
    let read : LineSections = line_sections_held c.deref.result.now c.deref-2.result.now c.deref-3.result.now in
    let held : read ≡ s = λ i. line_sections_held (c.deref.ensures.value i) (c.deref-2.ensures.value i) (c.deref-3.ensures.value i) in
    rw (p.1, p.2) (read_refused c.args.elf.now read c.in_err-units.field-0.0 (held ∙ same) c.in_err-units.ensures)

pub invariant_of-result : goal.invariant_of-result
invariant_of-result c =
    let s : LineSections = line_sections_held c.in_ok-line.line.items c.in_ok-str.str.items c.in_ok-line_str.line_str.items in
    let read : LineSections = line_sections_held c.deref.result.now c.deref-2.result.now c.deref-3.result.now in
    let held : read ≡ s = λ i. line_sections_held (c.deref.ensures.value i) (c.deref-2.ensures.value i) (c.deref-3.ensures.value i) in
    let version : line_version s ≡ None = subst (λ (x : LineSections). line_version x ≡ None) held c.in_ok-units.ensures.1 in
    let units : AreUnits s.strings (walked 5 s.line) c.in_ok-units.units.items =
    subst (λ (x : LineSections). AreUnits x.strings (walked 5 x.line) c.in_ok-units.units.items) held c.in_ok-units.ensures.0 in
    record {
      version = version;
      units = units;
      indexed = subst (λ (us : List kept.Unit). IsIndexOf us c.in_ok-sequences.sequences) c.deref-4.ensures.value c.in_ok-sequences.ensures;
      placed = subst (λ (l : List ℕ). (a : ℕ) → first_range c.in_ok-offsets.offsets a ≡ position (holds_address a)
          (map place_range (walked 5 l)))
          c.deref-5.ensures.value c.in_ok-offsets.ensures;
    }

pub returns-clause-reads : goal.returns-clause-reads
returns-clause-reads c =
    let s : LineSections = line_sections_held c.in_ok-line.line.items c.in_ok-str.str.items c.in_ok-line_str.line_str.items in
    let same : s ≡ line_sections c.args.elf.now =
    λ i. line_sections_held ((c.in_ok-line.ensures.items ∙ c.contents_of.ensures) i)
    ((c.in_ok-str.ensures.items ∙ c.contents_of-2.ensures) i)
    ((c.in_ok-line_str.ensures.items ∙ c.contents_of-3.ensures) i) in
    let read : LineSections = line_sections_held c.deref.result.now c.deref-2.result.now c.deref-3.result.now in
    let held : read ≡ s = λ i. line_sections_held (c.deref.ensures.value i) (c.deref-2.ensures.value i) (c.deref-3.ensures.value i) in
    let version : line_version s ≡ None = subst (λ (x : LineSections). line_version x ≡ None) held c.in_ok-units.ensures.1 in
    let units : AreUnits s.strings (walked 5 s.line) c.in_ok-units.units.items =
    subst (λ (x : LineSections). AreUnits x.strings (walked 5 x.line) c.in_ok-units.units.items) held c.in_ok-units.ensures.0 in
    read_says c.args.elf.now s c.in_ok-units.units.items same version units

pub returns-clause-comes : goal.returns-clause-comes
returns-clause-comes c =
    let s : LineSections = line_sections_held c.in_ok-line.line.items c.in_ok-str.str.items c.in_ok-line_str.line_str.items in
    let same : s ≡ line_sections c.args.elf.now =
    λ i. line_sections_held ((c.in_ok-line.ensures.items ∙ c.contents_of.ensures) i)
    ((c.in_ok-str.ensures.items ∙ c.contents_of-2.ensures) i)
    ((c.in_ok-line_str.ensures.items ∙ c.contents_of-3.ensures) i) in
    same
