use Rattle.std.proofs.Common.{◌≡◌, subst, ℕ, ◌+◌, ◌<◌, ◌≤◌, ◌⊎◌, inl, inr, length, get_or, arith, rules}
use Rattle.std.proofs.lemmas.Bool.{cases_lt}
use Rattle.std.proofs.lemmas.Grind.{common_steps}
use Rattle.std.proofs.lemmas.List.{get_or_default}
use Rattle.elf_image.specs.declared.section.SectionHeader.{SectionHeader}
use Rattle.elf_parts.specs.Spellings.{SectionFits}
use Rattle.elf_parts.proofs.Spellings.{section_tables}
use Rattle.elf_parts.proofs.spell.put_sections.Goals as goal

pub loop-s-preserved : goal.loop-s-preserved
loop-s-preserved c = (grind (arith, common_steps, section_tables), fits)
  where
    fits : (k : ℕ) (d : SectionHeader) → k < c.loop-s.s-index + 1 → SectionFits (get_or c.args.sections.now k d)
    fits k d below = cases (cases_lt k c.loop-s.s-index)
      where
        cases : (k < c.loop-s.s-index) ⊎ (c.loop-s.s-index ≤ k) → SectionFits (get_or c.args.sections.now k d)
        cases (inl low) = c.loop-s.invariant.1 k d low
        cases (inr high) =
            let inside : c.loop-s.s-index < length c.args.sections.now = search rules in
            let at : c.loop-s.s-index ≡ k = omega arith in
            let here : SectionFits (get_or c.args.sections.now c.loop-s.s-index d) = subst (λ (p : SectionHeader). SectionFits p)
            (get_or_default c.args.sections.now c.loop-s.s-index _ d inside) c.in_ok-put_section.ensures.fits in
            subst (λ (j : ℕ). SectionFits (get_or c.args.sections.now j d)) at here
