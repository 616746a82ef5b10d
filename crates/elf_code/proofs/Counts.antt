-- Fields that count and fields that don't.
use Rattle.std.proofs.Common.{ℕ, List, Bool, true, false, not}
use Rattle.elf_image.specs.declared.elf.Elf.{Elf}
use Rattle.elf_code.specs.Cells.{Field, Counts, counts, gives_way, CanBeCell}

pub can_of : {elf : Elf} {tabled : List (ℕ × ℕ)} {f : Field} {b : Bool} → Counts elf tabled f b → CanBeCell elf tabled f
can_of (counts f can later) = can
can_of (gives_way f g can before share counted) = can

-- No field both counts and doesn't count.
pub no_both : {elf : Elf} {tabled : List (ℕ × ℕ)} (f : Field) (b : Bool) → Counts elf tabled f b → Counts elf tabled f (not b) → ⊥
no_both f true (counts _ can others) (gives_way _ g can' before share wins) =
    no_both g false (others g (can_of wins) before share) wins
no_both f false (gives_way _ g can' before share wins) (counts _ can others) =
    no_both g true wins (others g (can_of wins) before share)
