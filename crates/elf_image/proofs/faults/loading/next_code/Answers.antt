use Rattle.std.proofs.Common.{◌≡◌, ℕ, arith, ◌∙◌, ap, subst, IsTrue}
use Rattle.std.proofs.lemmas.Bool.{cases_lt}
use Rattle.std.proofs.Common.{inl, inr}
use Rattle.elf_image.specs.faults.SegmentLayout.{is_code_segment}
use Rattle.elf_image.specs.file.Header.{segment}
use Rattle.elf_image.proofs.faults.loading.next_code.Goals as goal

pub returns-then-is_code-clause-first : goal.returns-then-is_code-clause-first
returns-then-is_code-clause-first c = λ k code from.
    elim (cases_lt k c.loop-index.index) [ inl earlier ↦ absurd (c.loop-index.invariant k code from earlier) | inr by ↦ by ]

pub loop-index-preserved : goal.loop-index-preserved
loop-index-preserved c = λ k code from below.
    elim (cases_lt k c.loop-index.index) [
      | inl earlier ↦ c.loop-index.invariant k code from earlier
      | inr by ↦
          let same : k ≡ c.loop-index.index = omega arith in
          let Is : ℕ → Type 0 = λ i. IsTrue (is_code_segment (segment c.args.segments.file.now i)) in
          let here = subst Is same code.1 in
          let is = c.is_code.ensures ∙ (ap is_code_segment c.segment_of.ensures ∙ here) in
          let isnt = c.if-is_code.false in
          absurd (cc)
    ]

pub returns-clause-none : goal.returns-clause-none
returns-clause-none c = λ k code from.
    let end = c.count-index-end.ensures in
    let past = c.loop-index-test.false in
    let below = code.0 in
    c.loop-index.invariant k code from (omega arith)
