use Rattle.std.proofs.Common.{◌≡◌, take}
use Rattle.std.specs.Prelude.{map}
use Rattle.elf_parts.specs.Patches.{put_all}
use Rattle.elf_parts.specs.Numbers.{patch_of}
use Rattle.elf_parts.proofs.number_at.put_numbers.Given as goal

abbrev pub invariant-loop-number : goal.invariant-loop-number
invariant-loop-number l = l.file ≡ put_all l.fn.file (map patch_of (take l.number-index l.numbers))
