use Rattle.std.proofs.Common.{rules, ◌≡◌, ◌∙◌, ◌≤◌, ◌+◌, ◌++◌, arith, subst, sym, ap, get_or, take}
use Rattle.std.specs.Prelude.{flat_map}
use Rattle.cfi_rows.specs.EntryCounts.{registers_set}
use Rattle.cfi_rows.specs.RegisterSets.{AreCounted}
use Rattle.cfi_rows.proofs.RegisterCounts.{set-more}
use Rattle.cfi_rows.proofs.counts.new_registers.Goals as goal

pub loop-instruction-preserved : goal.loop-instruction-preserved
loop-instruction-preserved c =
    let k = c.loop-instruction.instruction-index in
    let item : c.instruction-item.result ≡ get_or c.args.instructions.now k c.instruction-item.result = search rules in
    let first = flat_map registers_set (take k c.args.instructions.now) in
    let more : c.add_set.new.self.count ≤ c.loop-instruction.registers.count + 1 = c.add_set.ensures.more in
    let before = c.loop-instruction.invariant.1 in (
      λ xs a. subst (λ zs. AreCounted xs zs c.args.known.now c.add_set.new.self)
          (ap (λ i. first ++ registers_set i) item ∙ sym (set-more c.args.instructions.now k c.instruction-item.result
          c.loop-instruction-test.true))
          (c.in_ok-add_set.ensures.added xs first a (c.loop-instruction.invariant.0 xs a)),
      omega arith,
    )
