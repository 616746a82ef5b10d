use Rattle.std.proofs.Common.{◌≡◌, ◌∙◌, sym, ap, subst, ℕ, ◌+◌, ◌<◌, Some, List, [], ◌∷◌, ◌++◌, length, length-append, slice_get}
use Rattle.std.proofs.Common.{get_or, take_all, arith}
use Rattle.std.specs.Option.{option_map_or}
use Rattle.std.specs.Prelude.{flat_map}
use Rattle.elf_image.specs.declared.section.Section.{Section}
use Rattle.elf_image.specs.declared.section.SectionHeader.{SectionHeader}
use Rattle.elf_image.specs.file.Sections.{section_header}
use Rattle.elf_make.specs.SetHeaders.{IsRenamed}
use Rattle.elf_plan.specs.NewNames.{old_ended}
use Rattle.elf_make.proofs.GrownNames.{added-keeps, renamed-more}
use Rattle.elf_make.proofs.AddedNames.{one-more}
use Rattle.elf_make.proofs.headers.old_headers.Goals as goal

pub loop-i-preserved : goal.loop-i-preserved
loop-i-preserved c =
    let headers : List SectionHeader = c.loop-i.headers.items in
    let h : SectionHeader = c.in_ok-header_of.field-0 in
    let table : List ℕ = c.loop-i.names.bytes.items in
    let more : List ℕ = c.header_of.new.names.bytes.items in
    let items : c.push.new.self.items ≡ headers ++ h ∷ [] = c.in_ok-push.ensures.items in
    let file = c.args.elf.now.file.now in
    let long = c.loop-i.invariant.0 in (
      ap length items ∙ length-append headers (h ∷ []) ∙ ap (λ (n : ℕ). n + 1) long,
      subst
          (λ (hs : List SectionHeader). (k : ℕ) (s : Section) (d : SectionHeader) → k < c.loop-i.i + 1 →
          slice_get c.args.elf.now.sections.items k ≡ Some s → IsRenamed more s (section_header file k) (get_or hs k d))
          (sym items)
          (renamed-more table more (added-keeps table _ more c.in_ok-header_of.ensures.names) c.args.elf.now.sections.items
          (section_header file) headers
          c.loop-i.i h long c.loop-i.invariant.1 c.in_ok-header_of.ensures.renamed),
      c.in_ok-header_of.ensures.names
          ∙ ap (λ (xs : List ℕ). xs ++ option_map_or old_ended (slice_get c.args.elf.now.sections.items c.loop-i.i) [])
          c.loop-i.invariant.2
          ∙ one-more c.args.names.now.bytes.items old_ended c.args.elf.now.sections.items c.loop-i.i,
    )

pub returns-clause-each : goal.returns-clause-each
returns-clause-each c = λ k s d below at.
    let count = c.count-count.ensures in
    let end = c.loop-i-test.false in
    c.loop-i.invariant.1 k s d (omega (arith, below, count, end)) at

pub returns-clause-names : goal.returns-clause-names
returns-clause-names c =
    let sections : List Section = c.args.elf.now.sections.items in
    let count = c.count-count.ensures in
    let end = c.loop-i-test.false in
    let all = c.requires.count in
    c.loop-i.invariant.2
    ∙ ap (λ (xs : List Section). c.args.names.now.bytes.items ++ flat_map old_ended xs)
    (take_all c.loop-i.i sections (omega (arith, all, count, end)))
