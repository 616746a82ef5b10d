use Rattle.std.proofs.Common.{sym, subst, ℕ, List}
use Rattle.elf_parts.specs.Patches.{Stands}
use Rattle.elf_parts.proofs.Patches.{stands-front}
use Rattle.elf_make.proofs.tail.Tail.append.Goals as goal

pub returns-clause-keeps : goal.returns-clause-keeps
returns-clause-keeps c = λ o xs stands.
    subst (λ (bytes : List ℕ). Stands bytes o xs) (sym c.in_ok-extend_from_slice.ensures.items)
    (stands-front c.args.self.now.bytes.items c.args.bytes.now o xs stands)
