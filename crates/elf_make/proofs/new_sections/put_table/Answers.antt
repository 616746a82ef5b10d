use Rattle.std.proofs.Common.{◌≡◌, ◌∙◌, ap, subst, ℕ, ◌+◌, ◌-◌, List, ◌++◌, length, slice_index_or, arith}
use Rattle.elf_parts.specs.Patches.{Stands}
use Rattle.elf_parts.specs.Spellings.{section_table}
use Rattle.elf_make.specs.SectionTable.{capped}
use Rattle.elf_make.proofs.PlacedContents.{length-section_table}
use Rattle.elf_make.proofs.new_sections.put_table.Goals as goal

pub returns-clause-capped : goal.returns-clause-capped
returns-clause-capped c = λ k d below.
    let at_end = c.in_ok-place.ensures.end in
    let end = c.in_ok-end.ensures.end in
    let base = c.in_ok-append.ensures.base in
    let more = c.in_ok-append.ensures.end in
    let bytes = c.deref.ensures.value in
    let spelled = c.in_ok-put_sections.ensures.bytes ∙ ap (λ (xs : List ℕ). xs ++ section_table c.cap_offsets.new.headers)
    c.new-bytes.ensures.items in
    let size = ap length (bytes ∙ spelled) ∙ length-section_table c.cap_offsets.new.headers in
    let count = c.cap_offsets.ensures.count in
    let same : c.in_ok-end.end ≡ c.append.new.self.base + length c.append.new.self.bytes.items =
    omega (arith, at_end, end, base, more, size, count) in
    subst (λ (e : ℕ). slice_index_or c.cap_offsets.new.headers k d ≡ capped e (slice_index_or c.args.headers.now k d)) same
    (c.cap_offsets.ensures.capped k d below)

pub returns-clause-ends : goal.returns-clause-ends
returns-clause-ends c =
    let base = c.in_ok-place.ensures.base in
    let at_end = c.in_ok-place.ensures.end in
    let same = c.in_ok-append.ensures.base in
    let more = c.in_ok-append.ensures.end in
    let bytes = c.deref.ensures.value in
    let spelled = c.in_ok-put_sections.ensures.bytes ∙ ap (λ (xs : List ℕ). xs ++ section_table c.cap_offsets.new.headers)
    c.new-bytes.ensures.items in
    let size = ap length (bytes ∙ spelled) ∙ length-section_table c.cap_offsets.new.headers in
    let place : length c.align_to.new.self.bytes.items ≡ c.in_ok-place.place - c.args.tail.now.base =
    omega (arith, base, at_end) in
    record {
      place = c.in_ok-place.ensures.place;
      behind = c.in_ok-place.ensures.behind;
      fits = c.in_ok-put_sections.ensures.fits;
      stands = subst (λ (xs : List ℕ). Stands c.append.new.self.bytes.items (c.in_ok-place.place - c.args.tail.now.base) xs)
          (bytes ∙ spelled)
          (subst (λ (o : ℕ). Stands c.append.new.self.bytes.items o c.deref.result.now) place c.in_ok-append.ensures.stands);
      size = omega (arith, base, at_end, same, more, size);
      small =
          let end = c.in_ok-end.ensures.end in
          let fits = c.in_ok-end.ensures.fits in
          let count = c.cap_offsets.ensures.count in
          omega (arith, base, at_end, same, more, size, end, fits, count);
    }

pub returns-clause-keeps : goal.returns-clause-keeps
returns-clause-keeps c = λ o xs stands. c.in_ok-append.ensures.keeps o xs (c.in_ok-place.ensures.keeps o xs stands)
