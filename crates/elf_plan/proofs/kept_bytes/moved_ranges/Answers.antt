use Rattle.std.proofs.lemmas.List.{take_all}
use Rattle.std.proofs.Common.{◌≡◌, ◌+◌, subst, sym, arith, rules, take, get_or, List, [], ◌∷◌, ◌++◌, refl}
use Rattle.elf_image.specs.declared.extent.Extent.{Extent}
use Rattle.elf_image.specs.declared.segment.Segment.{Segment}
use Rattle.elf_plan.specs.Area.{no_segment}
use Rattle.elf_plan.proofs.KeptRanges.{AreRanges, moves-true, moves-other, moves-low, ranges-added, ranges-skipped}
use Rattle.elf_plan.proofs.kept_bytes.moved_ranges.Goals as goal
use Rattle.elf_plan.proofs.kept_bytes.moved_ranges.Goals.{then-p-eq-PT_LOAD+then-from-p+in_ok-push, else-p-eq-PT_LOAD}
use Rattle.elf_plan.proofs.kept_bytes.moved_ranges.Goals.{else-p-eq-PT_LOAD-via-then-p-eq-PT_LOAD+else-from-p}
use Rattle.elf_plan.proofs.kept_bytes.moved_ranges.Goals.{else-p-eq-PT_LOAD-via-else-p-eq-PT_LOAD}

pub loop-p-preserved : goal.loop-p-preserved
loop-p-preserved c =
    let segments = c.args.segments.now in
    let i = c.loop-p.p-index in
    let p = get_or segments i no_segment in
    elim c.if-p-eq-PT_LOAD.branch [
      | then-p-eq-PT_LOAD+then-from-p+in_ok-push w ↦
          let e : Extent = record { start = p.offset; end = p.offset + p.filesz; place = 0 } in
          let same : c.if-p-eq-PT_LOAD.ranges.items ≡ c.loop-p.ranges.items ++ e ∷ [] = search rules in
          subst (AreRanges c.args.from (take (i + 1) segments)) (sym same)
          (ranges-added c.args.from segments i no_segment c.loop-p.ranges.items e c.loop-p-test.true c.loop-p.invariant
          (moves-true c.args.from p w.if-p-eq-PT_LOAD.true w.if-from-p.true) refl refl)
      | else-p-eq-PT_LOAD w ↦
          let same : c.if-p-eq-PT_LOAD.ranges.items ≡ c.loop-p.ranges.items = search rules in
          subst (AreRanges c.args.from (take (i + 1) segments)) (sym same)
          (ranges-skipped c.args.from segments i no_segment c.loop-p.ranges.items c.loop-p-test.true c.loop-p.invariant
          (elim w.else-p-eq-PT_LOAD.branch [
            | else-p-eq-PT_LOAD-via-then-p-eq-PT_LOAD+else-from-p v ↦ moves-low c.args.from p v.if-from-p.false
            | else-p-eq-PT_LOAD-via-else-p-eq-PT_LOAD v ↦ moves-other c.args.from p v.if-p-eq-PT_LOAD.false
          ]))
    ]

pub returns : goal.returns
returns c =
    subst (λ (segments : List Segment). AreRanges c.args.from segments c.loop-p.ranges.items)
    (take_all c.loop-p.p-index c.args.segments.now (omega arith)) c.loop-p.invariant
