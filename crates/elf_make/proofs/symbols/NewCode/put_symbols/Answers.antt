use Rattle.std.proofs.Common.{◌≡◌, rules, ◌+◌, ◌*◌}
use Rattle.elf_image.specs.declared.symbol.TheConstants.{SYM_SIZE}
use Rattle.elf_image.specs.file.Header.{number_at}
use Rattle.elf_make.proofs.SymbolsPut.{all-put, none-put, one-put}
use Rattle.elf_make.proofs.symbols.NewCode.put_symbols.Goals as goal

pub loop-i-init : goal.loop-i-init
loop-i-init c =
    none-put c.args.self.now.funcs.now c.args.self.now.map.now c.args.self.now.section c.args.table.now c.args.first
    c.args.symbols.now c.args.bytes.now.items

pub loop-i-preserved : goal.loop-i-preserved
loop-i-preserved c =
    let self = c.args.self.now in
    let at : c.in_ok-name.name ≡ number_at c.args.table.now (SYM_SIZE * (c.args.first + c.loop-i.i)) 4 = search rules in
    one-put self.funcs.now self.map.now self.section c.args.table.now c.args.first c.args.symbols.now c.loop-i.i c.in_ok-name.name _
    c.entry_of.result c.args.bytes.now.items c.loop-i.bytes.items c.put_symbol.new.out.items c.loop-i-test.true
    c.loop-i.invariant at c.entry_of.ensures c.in_ok-put_symbol.ensures.fits c.in_ok-put_symbol.ensures.bytes

pub returns : goal.returns
returns c =
    all-put c.args.self.now.funcs.now c.args.self.now.map.now c.args.self.now.section c.args.table.now c.args.first
    c.args.symbols.now c.loop-i.i c.args.bytes.now.items c.loop-i.bytes.items c.loop-i-test.false c.loop-i.invariant
