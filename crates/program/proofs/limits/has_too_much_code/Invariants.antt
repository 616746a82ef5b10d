use Rattle.std.proofs.Common.{◌≡◌, ◌+◌, take}
use Rattle.std.specs.List.{sum_by}
use Rattle.program.specs.Limits.{code_size_limit}
use Rattle.program.specs.internal.ReadSections.{section_code_bytes}
use Rattle.program.proofs.limits.has_too_much_code.Given as goal

-- the rest of the limit after the sections so far
abbrev pub invariant-loop-section : goal.invariant-loop-section
invariant-loop-section l = l.room + sum_by section_code_bytes (take l.section-index l.elf.sections.items) ≡ code_size_limit
