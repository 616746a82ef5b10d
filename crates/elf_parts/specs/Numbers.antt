-- Numbers to be put over bytes of a file.
use Rattle.std.specs.Prelude.{◌≡◌, ◌⊎◌, ℕ, ◌+◌, ◌<◌, ◌≤◌, ◌^◌}
use Rattle.byteorder.specs.Endian.{little_bytes}
use Rattle.elf_parts.specs.declared.number_at.NumberAt.{NumberAt}
use Rattle.elf_parts.specs.Patches.{Patch}

abbrev pub patch_of : NumberAt → Patch
patch_of n = record { offset = n.offset; bytes = little_bytes n.width n.value }

-- a number has a width of 1, 2, 4 or 8 bytes, fits it, and is within that many bytes
pub record CanPut (size : ℕ) (n : NumberAt) : Type 0 where
  pub width : (n.width ≡ 1) ⊎ ((n.width ≡ 2) ⊎ ((n.width ≡ 4) ⊎ (n.width ≡ 8)))
  pub fits : n.value < 256 ^ n.width
  pub within : n.offset + n.width ≤ size
