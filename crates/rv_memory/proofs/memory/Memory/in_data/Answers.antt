use Rattle.std.proofs.Common.{◌≡◌, ◌+◌, ◌<◌, ◌≤◌, ℕ, arith, true, refl}
use Rattle.std.proofs.lemmas.Bool.{le-leb, lt-ltb}
use Rattle.std.proofs.lemmas.Grind.{common_steps}
use Rattle.rv_memory.specs.Start.{in_stack}
use Rattle.elf_image.specs.declared.segment.TheConstants.{PF_R, PF_W}
use Rattle.elf_image.specs.memory.Image.{is_loaded_with}
use Rattle.rv_memory.specs.Memory.{reads, writes, gained_by_break}
use Rattle.rv_memory.proofs.AddressRuns.{all_may-run, or_second, or_third}
use Rattle.rv_memory.proofs.StackMemory.{in_stack-both}
use Rattle.rv_memory.proofs.memory.Memory.in_data.Goals as goal

pub returns-then-lies_in : goal.returns-then-lies_in
returns-then-lies_in c = grind (arith, common_steps, in_stack-both, le-leb, lt-ltb, all_may-run, or_second)

pub returns-else-lies_in : goal.returns-else-lies_in
returns-else-lies_in c = λ yes.
    let m = c.args.self.now in
    let a = c.args.address in
    let n = c.args.count in
    let within = c.lies_in-else-lies_in.ensures.0 yes in
    let low = within.0 in
    let high = within.1 in
    let here : (q : ℕ) → a ≤ q → q < a + n → gained_by_break m q ≡ true =
    λ q from to. rw (le-leb m.break_start q (omega arith), lt-ltb q m.program_break (omega arith)) refl in (
      all_may-run (reads m) a n (omega arith)
          (λ q from to. or_third (is_loaded_with PF_R m.elf.now.segments.items q) (in_stack q) (gained_by_break m q)
          (here q from to)),
      all_may-run (writes m) a n (omega arith)
          (λ q from to. or_third (is_loaded_with PF_W m.elf.now.segments.items q) (in_stack q)
          (gained_by_break m q) (here q from to)),
    )
