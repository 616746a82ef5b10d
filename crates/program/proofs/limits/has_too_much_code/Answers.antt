use Rattle.std.proofs.Common.{◌<◌, ◌≤◌, ℕ, subst, sym, refl, arith}
use Rattle.std.specs.List.{sum_by}
use Rattle.program.specs.Limits.{code_size_limit}
use Rattle.program.specs.internal.ReadSections.{section_code_bytes}
use Rattle.program.proofs.CodeSizes.{code_size, left_after, passes, all_fit}
use Rattle.program.proofs.limits.has_too_much_code.Goals as goal

pub loop-section-preserved : goal.loop-section-preserved
loop-section-preserved c =
    left_after c.args.elf.now.sections.items c.deref-section-items.result.now c.deref-section-items.ensures.value
    c.loop-section.section-index c.loop-section.room
    c.loop-section.invariant c.code_bytes-size.result _ c.loop-section-test.true c.code_bytes-size.ensures c.if-size-room.false

pub returns-then-size-room : goal.returns-then-size-room
returns-then-size-room c =
    let over : code_size_limit < sum_by section_code_bytes c.args.elf.now.sections.items =
    passes c.args.elf.now.sections.items c.deref-section-items.result.now c.deref-section-items.ensures.value
    c.loop-section.section-index c.loop-section.room
    c.loop-section.invariant c.code_bytes-size.result _ c.loop-section-test.true c.code_bytes-size.ensures
    c.if-size-room.true in (
      (λ t. subst (λ (n : ℕ). code_size_limit < n) (code_size c.args.elf.now.file.now c.args.elf.now c.requires) over),
      (λ much. refl),
    )

pub returns : goal.returns
returns c =
    let fit : sum_by section_code_bytes c.args.elf.now.sections.items ≤ code_size_limit =
    all_fit c.args.elf.now.sections.items c.deref-section-items.result.now c.deref-section-items.ensures.value
    c.loop-section.section-index c.loop-section.room
    c.loop-section.invariant c.loop-section-test.false in (
      (λ t. absurd (cc)),
      (λ much.
          let over : code_size_limit < sum_by section_code_bytes c.args.elf.now.sections.items =
          subst (λ (n : ℕ). code_size_limit < n) (sym (code_size c.args.elf.now.file.now c.args.elf.now c.requires)) much in
          absurd (omega arith)),
    )
