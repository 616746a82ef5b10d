use Rattle.map_check.proofs.HeaderFields.{in_none, in_one}
use Rattle.map_check.proofs.headers.in_program_headers.Goals as goal

pub returns-in-Some : goal.returns-in-Some
returns-in-Some c = λ tight of.
    in_one c.args.elf.now c.args.offset c.in-Some.index c.index.result.now c.index.result.now c.in_program_header.result
    c.in-Some.ensures.within c.index.ensures c.in-Some.ensures.from c.in-Some.ensures.to (c.in_program_header.ensures tight of)

pub returns-in-None : goal.returns-in-None
returns-in-None c = λ tight of. in_none c.args.elf.now c.args.offset c.in-None.ensures.none
