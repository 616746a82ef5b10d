use Rattle.std.proofs.Common.{◌≡◌, ℕ, ◌<◌, ◌++◌, take, slice_index_or}
use Rattle.elf_parts.specs.declared.spell.SymbolEntry.{SymbolEntry}
use Rattle.elf_parts.specs.Spellings.{SymbolFits, symbol_entries}
use Rattle.elf_make.proofs.symbols.put_all.Given as goal

abbrev pub invariant-loop-entry : goal.invariant-loop-entry
invariant-loop-entry l =
    (l.bytes.items ≡ l.initial.bytes.items ++ symbol_entries (take l.entry-index l.entries))
    × ((k : ℕ) (d : SymbolEntry) → k < l.entry-index → SymbolFits (slice_index_or l.entries k d))
