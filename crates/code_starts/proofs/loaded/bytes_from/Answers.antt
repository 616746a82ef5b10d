use Rattle.std.proofs.Common.{◌+◌, ◌-◌, sym, refl, arith}
use Rattle.elf_image.proofs.LoadLemmas.{loads-parts}
use Rattle.code_starts.proofs.FileBytes.{bytes-loaded}
use Rattle.code_starts.proofs.loaded.bytes_from.Goals as goal

pub returns : goal.returns
returns c =
    let p = c.in-Some.segment.now in
    let a = c.args.address in
    let low = (loads-parts a p c.in-Some.ensures.loads).1 in
    let loaded = c.min-loaded.ensures in
    let from = p.offset + (a - p.vaddr) in
    bytes-loaded c.args.elf.now a p from (p.offset + c.min-loaded.result - from)
    (sym c.in-Some.ensures.first) c.in-Some.ensures.loads low refl (omega arith) (omega arith) (omega arith)
