use Rattle.std.proofs.Common.{ap, map, refl}
use Rattle.std.specs.Prelude.{string_bytes}
use Rattle.rv_memory.specs.Start.{start}
use Rattle.rv_machine.specs.StepResults.{answered}
use Rattle.edge_record.specs.AddressSets.{watches}
use Rattle.edge_record.specs.EdgeCounts.{said_of}
use Rattle.edge_record.proofs.Recording.{finished, unrecorded}
use Rattle.edge_record.proofs.record.trace_edges.Goals as goal

pub returns-in_default-clause-answer : goal.returns-in_default-clause-answer
returns-in_default-clause-answer g c =
    unrecorded (start c.args.elf.now.file.now (map string_bytes c.args.args.now)) c.args.limit _ c.args.elf.now
    c.args.funcs.now c.args.blocks.now _ _ _
    (λ input. refl) (ap answered c.out_of_memory.ensures.end) c.out_of_memory.ensures.text

pub returns-in_default-load-clause-answer : goal.returns-in_default-load-clause-answer
returns-in_default-load-clause-answer g c =
    unrecorded (start c.args.elf.now.file.now (map string_bytes c.args.args.now)) c.args.limit _ c.args.elf.now
    c.args.funcs.now c.args.blocks.now _ _ _
    (λ input. refl) (ap answered c.out_of_memory-in_default-load.ensures.end) c.out_of_memory-in_default-load.ensures.text

pub returns-clause-answer : goal.returns-clause-answer
returns-clause-answer g c =
    finished (start c.args.elf.now.file.now (map string_bytes c.args.args.now)) c.args.limit _ _ c.args.elf.now
    c.args.funcs.now c.requires.funcs c.args.blocks.now
    c.in-Ok-load.machine c.watch_run-ran.new.machine c.in-Ok-load.ensures (watches c.in-Ok.watched) c.in-Ok.ensures
    (said_of c.watch_run-ran.new.counts)
    (answered c.watch_run-ran.result.end) c.watch_run-ran.result.steps _ _ _ c.watch_run-ran.ensures.answer c.finish.ensures
