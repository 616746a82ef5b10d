use Rattle.std.proofs.Common.{◌≡◌, subst, ℕ, ◌+◌, ◌<◌, ◌≤◌, ◌⊎◌, inl, inr, length, get_or, arith, rules}
use Rattle.std.proofs.lemmas.Bool.{cases_lt}
use Rattle.std.proofs.lemmas.Grind.{common_steps}
use Rattle.std.proofs.lemmas.List.{get_or_default}
use Rattle.elf_image.specs.declared.segment.Segment.{Segment}
use Rattle.elf_parts.specs.Spellings.{SegmentFits}
use Rattle.elf_parts.proofs.Spellings.{tables}
use Rattle.elf_parts.proofs.spell.put_segments.Goals as goal

pub loop-p-preserved : goal.loop-p-preserved
loop-p-preserved c = (grind (arith, common_steps, tables), fits)
  where
    fits : (k : ℕ) (d : Segment) → k < c.loop-p.p-index + 1 → SegmentFits (get_or c.args.segments.now k d)
    fits k d below = cases (cases_lt k c.loop-p.p-index)
      where
        cases : (k < c.loop-p.p-index) ⊎ (c.loop-p.p-index ≤ k) → SegmentFits (get_or c.args.segments.now k d)
        cases (inl low) = c.loop-p.invariant.1 k d low
        cases (inr high) =
            let inside : c.loop-p.p-index < length c.args.segments.now = search rules in
            let at : c.loop-p.p-index ≡ k = omega arith in
            let here : SegmentFits (get_or c.args.segments.now c.loop-p.p-index d) = subst (λ (p : Segment). SegmentFits p)
            (get_or_default c.args.segments.now c.loop-p.p-index _ d inside) c.in_ok-put_segment.ensures.fits in
            subst (λ (j : ℕ). SegmentFits (get_or c.args.segments.now j d)) at here
