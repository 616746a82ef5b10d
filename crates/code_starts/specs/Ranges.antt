-- The addresses of sections and symbols, and ranges given by their ends, as extents.
use Rattle.std.specs.Prelude.{ℕ, ◌+◌}
use Rattle.elf_image.specs.declared.section.Section.{Section}
use Rattle.elf_image.specs.declared.symbol.Symbol.{Symbol}
use Rattle.elf_image.specs.declared.extent.Extent.{Extent}

abbrev pub section_extent : Section → Extent
section_extent section = record { start = section.addr; end = section.addr + section.size; place = 0 }

abbrev pub symbol_extent : Symbol → Extent
symbol_extent symbol = record { start = symbol.value; end = symbol.value + symbol.size; place = 0 }

abbrev pub tabled_extent : ℕ × ℕ → Extent
tabled_extent range = record { start = range.0; end = range.1; place = 0 }
