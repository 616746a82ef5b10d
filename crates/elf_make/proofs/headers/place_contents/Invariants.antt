use Rattle.std.proofs.Common.{◌≡◌, ◌+◌, ℕ, List, length, map, take}
use Rattle.elf_parts.specs.Patches.{Stands}
use Rattle.elf_make.specs.PlacedContents.{ArePlaced, bytes_at}
use Rattle.elf_make.proofs.headers.place_contents.Given as goal

abbrev pub invariant-loop-entry : goal.invariant-loop-entry
invariant-loop-entry l =
    (l.tail.base ≡ l.initial.tail.base)
    × (ArePlaced (bytes_at l.new l.elf l.contents) (map (λ e. e.1) (take l.entry-index l.order)) l.initial.tail.base
    (l.initial.tail.base + length l.initial.tail.bytes.items) l.tail.bytes.items l.initial.headers l.headers)
    × ((o : ℕ) (xs : List ℕ) → Stands l.initial.tail.bytes.items o xs → Stands l.tail.bytes.items o xs)
