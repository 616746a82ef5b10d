use Rattle.std.proofs.Common.{rules}
use Rattle.std.proofs.lemmas.List.{take_rest}
use Rattle.elf_make.proofs.SymbolsPut.{table-made}
use Rattle.elf_make.proofs.symbols.symbol_table.Goals as goal

pub returns : goal.returns
returns c =
    let code = c.args.code.now in
    table-made c.args.elf.now c.args.section.now code.funcs.now code.map.now code.section c.local_count-local.result c.args.cold.now
    c.bytes_of-table.result.now c.behind_symbols.result.now c.deref-symbols.result.now _ _ c.new-bytes.result.items
    c.put_symbols.new.bytes.items c.put_all.new.bytes.items c.put_symbols-2.new.bytes.items c.extend_from_slice.new.self.items
    c.bytes_of-table.ensures c.deref-symbols.ensures.value c.local_count-local.ensures (search rules)
    (take_rest c.deref-symbols.result.now c.local_count-local.result)
    c.behind_symbols.ensures c.new-bytes.ensures.items c.in_ok-put_symbols.ensures c.in_ok-put_all.ensures.bytes
    c.in_ok-put_all.ensures.fits c.in_ok-put_symbols-2.ensures c.in_ok-extend_from_slice.ensures.items
