use Rattle.std.proofs.Common.{◌≡◌, ℕ, drop}
use Rattle.std.specs.Prelude.{◌&&◌, ◌||◌, nat_lt}
use Rattle.std.specs.List.{list_any}
use Rattle.elf_image.specs.faults.SegmentLayout.{is_code_segment}
use Rattle.elf_image.specs.internal.LowestAddresses.{is_above}
use Rattle.elf_image.proofs.code_segment.lowest_address.Given as goal

abbrev pub invariant-loop-q : goal.invariant-loop-q
invariant-loop-q l = (a : ℕ) →
    list_any (λ q. is_code_segment q && nat_lt q.vaddr a) l.segments
    ≡ (is_above l.lowest a || list_any (λ q. is_code_segment q && nat_lt q.vaddr a) (drop l.q-index l.segments))
