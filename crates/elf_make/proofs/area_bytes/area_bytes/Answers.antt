use Rattle.std.proofs.Common.{◌-◌, ℕ, List, [], Option, Some, None, IfSome, sym, subst}
use Rattle.elf_parts.specs.Patches.{Stands}
use Rattle.elf_parts.proofs.Patches.{stands-behind}
use Rattle.elf_make.proofs.area_bytes.area_bytes.Goals as goal

if_some : (o : Option ℕ) (P Q : ℕ → Type 0) → ((a : ℕ) → P a → Q a) → IfSome o P → IfSome o Q
if_some None P Q on is = is
if_some (Some a) P Q on is = on a is

pub returns-clause-code : goal.returns-clause-code
returns-clause-code c =
    c.in_ok-add_table-2.ensures.keeps 0 c.args.code.now
    (c.in_ok-add_table.ensures.keeps 0 c.args.code.now
    (subst (λ (bytes : List ℕ). Stands bytes 0 c.args.code.now) (sym c.in_ok-bytes.ensures.items)
    (stands-behind [] c.args.code.now)))

pub returns-clause-frames : goal.returns-clause-frames
returns-clause-frames c =
    if_some c.args.area.now.frames
    (λ (a : ℕ). Stands c.add_table.new.bytes.items (a - c.args.area.now.start) c.bytes_called-frames.result.now) _
    (λ a stands. subst (λ (bytes : List ℕ). Stands c.add_table-2.new.bytes.items (a - c.args.area.now.start) bytes)
    c.bytes_called-frames.ensures
    (c.in_ok-add_table-2.ensures.keeps (a - c.args.area.now.start) c.bytes_called-frames.result.now stands))
    c.in_ok-add_table.ensures.adds
