use Rattle.elf_make.proofs.tail.Tail.add.Goals as goal

pub returns-clause-keeps : goal.returns-clause-keeps
returns-clause-keeps c = λ o xs stands. c.in_ok-append.ensures.keeps o xs (c.in_ok-place.ensures.keeps o xs stands)
