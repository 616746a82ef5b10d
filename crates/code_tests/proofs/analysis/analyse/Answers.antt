use Rattle.code_tests.proofs.analysis.analyse.Goals as goal

pub references-requires-clause-read : goal.references-requires-clause-read
references-requires-clause-read c =
    record { file = c.args.file.now; fields = c.in_ok-elf.ensures.fields; sound = c.in_ok-elf.ensures.sound }
