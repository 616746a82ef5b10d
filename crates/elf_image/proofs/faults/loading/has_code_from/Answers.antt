use Rattle.std.proofs.Common.{sym, subst, ◌↔◌, IsTrue, ℕ, ◌≤◌, Bool}
use Rattle.elf_image.specs.faults.SegmentLayout.{IsCode}
use Rattle.elf_image.proofs.CodeLemmas.{has_code-same}
use Rattle.elf_image.proofs.faults.loading.has_code_from.Goals as goal

pub returns : goal.returns
returns c =
    let Says : Bool → Type 0 = λ b. IsTrue b ↔ ((k : ℕ) × IsCode c.args.segments.file.now k × (c.args.from ≤ k)) in
    subst Says (sym c.is_some.ensures)
    (has_code-same c.args.segments.file.now c.args.from _ c.next_code.ensures.code c.next_code.ensures.from
    c.next_code.ensures.none)
