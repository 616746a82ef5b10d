use Rattle.std.proofs.Common.{ℕ, ◌<◌}
use Rattle.std.specs.Prelude.{IsTrue}
use Rattle.elf_write.specs.TablePlaces.{keeps_table_at}
use Rattle.elf_write.proofs.given_places.keeps_tables.Given as goal

abbrev pub invariant-loop-i : goal.invariant-loop-i
invariant-loop-i l = (k : ℕ) → k < l.i → IsTrue (keeps_table_at l.elf k)
