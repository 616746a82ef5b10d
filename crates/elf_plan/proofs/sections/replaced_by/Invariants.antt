use Rattle.std.proofs.Common.{◌≡◌, take}
use Rattle.std.specs.Prelude.{map, string_bytes}
use Rattle.elf_plan.specs.Contents.{place_replaced}
use Rattle.elf_plan.proofs.sections.replaced_by.Given as goal

abbrev pub invariant-loop-table : goal.invariant-loop-table
invariant-loop-table l = l.replaced.items ≡ map (λ t. place_replaced l.sections (string_bytes t.0)) (take l.table-index l.tables)
