use Rattle.std.proofs.lemmas.Result.{err_from_is_err_and}
use Rattle.elf_code.specs.ReferenceFaults.{HasReferenceFault}
use Rattle.elf_image.proofs.FaultOrder.{refused-lacks, refused-fault}
use Rattle.elf_image.proofs.LowestPlaces.{IsLowest-lower}
use Rattle.rv_reloc.proofs.faults.check.Goals as goal

pub returns-in_err-check_relocations-clause-fault : goal.returns-in_err-check_relocations-clause-fault
returns-in_err-check_relocations-clause-fault c = λ tabled asked.
    let mismatch = IsLowest-lower _ _ _ c.lower-mismatch.ensures c.requires.misfit
    (c.lowest_bad_label.ensures.lowest c.args.elf.now tabled asked.counted_are) in
    let fault = c.in_err-check_relocations.ensures c.args.elf.now tabled c.requires.records c.requires.lows mismatch in
    let p = err_from_is_err_and c.from_residual.result c.from_residual.ensures.1 in
    rw (p.1, p.2) fault

pub returns-clause-lacks : goal.returns-clause-lacks
returns-clause-lacks c = λ tabled asked.
    let mismatch = IsLowest-lower _ _ _ c.lower-mismatch.ensures c.requires.misfit
    (c.lowest_bad_label.ensures.lowest c.args.elf.now tabled asked.counted_are) in
    let before_12 = c.in_ok-check_relocations.ensures c.args.elf.now tabled c.requires.records c.requires.lows mismatch in
    refused-lacks (HasReferenceFault c.args.elf.now tabled) 15 _ (c.check_cells.ensures tabled asked.wholes_are before_12)

pub returns-clause-fault : goal.returns-clause-fault
returns-clause-fault c = λ tabled asked.
    let mismatch = IsLowest-lower _ _ _ c.lower-mismatch.ensures c.requires.misfit
    (c.lowest_bad_label.ensures.lowest c.args.elf.now tabled asked.counted_are) in
    let before_12 = c.in_ok-check_relocations.ensures c.args.elf.now tabled c.requires.records c.requires.lows mismatch in
    refused-fault (HasReferenceFault c.args.elf.now tabled) 15 _ (c.check_cells.ensures tabled asked.wholes_are before_12)
