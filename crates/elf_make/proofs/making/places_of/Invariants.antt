use Rattle.std.proofs.Common.{◌≡◌, map, take}
use Rattle.elf_make.proofs.making.places_of.Given as goal

abbrev pub invariant-loop-header : goal.invariant-loop-header
invariant-loop-header l = l.places.items ≡ map (λ h. h.offset) (take l.header-index l.headers)
