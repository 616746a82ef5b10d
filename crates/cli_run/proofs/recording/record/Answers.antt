use Rattle.std.proofs.Common.{◌≤◌, refl, arith}
use Rattle.cli_args.specs.Args.{RecordArgs, record_given}
use Rattle.cli_run.specs.recording.RecordRuns.{record_mode}
use Rattle.program.specs.Program.{program_seen}
use Rattle.cli_base.specs.World.{World, world}
use Rattle.cli_run.proofs.RunAnswering.{passed_is, file_refused, file_unread}
use Rattle.cli_run.proofs.RecordAnswering.{after_read, keeps_input, lawful, run_recorded, serves}
use Rattle.cli_run.proofs.SymbolRunAnswering.{own_file}
use Rattle.cli_base.proofs.FaultCounts.{go_on_after}
use Rattle.cli_run.proofs.recording.record.Goals as goal

pub returns-in-Err-clause-serves : goal.returns-in-Err-clause-serves
returns-in-Err-clause-serves g c =
    let args : RecordArgs = record_given c.args.args.now in
    let old : World = world (g.F.Files.seen c.args.files.now) (g.I.Source.seen c.args.input.now) (g.O.Sink.seen c.args.out.now) in
    let new : World =
    world (g.F.Files.seen c.read_file.new.files) (g.I.Source.seen c.args.input.now) (g.O.Sink.seen c.read_file.new.out) in
    serves args old new c.in-Err.answer (file_unread record_mode args.run old new lawful (λ quiet. quiet.others) c.in-Err.answer
    c.in-Err.ensures.kept refl c.in-Err.ensures.unread) c.in-Err.ensures.files_go_on (omega arith) c.in-Err.ensures.never_falls

pub returns-in-Ok-file_program-clause-serves : goal.returns-in-Ok-file_program-clause-serves
returns-in-Ok-file_program-clause-serves g c =
    let args : RecordArgs = record_given c.args.args.now in
    let old : World = world (g.F.Files.seen c.args.files.now) (g.I.Source.seen c.args.input.now) (g.O.Sink.seen c.args.out.now) in
    let mid : World =
    world (g.F.Files.seen c.read_file.new.files) (g.I.Source.seen c.args.input.now) (g.O.Sink.seen c.read_file.new.out) in
    let new : World =
    world (g.F.Files.seen c.record_elf.new.files) (g.I.Source.seen c.record_elf.new.input) (g.O.Sink.seen c.record_elf.new.out) in
    let first : old.output.faults ≤ mid.output.faults = c.in-Ok.ensures.never_falls in
    let next : mid.output.faults ≤ new.output.faults = c.record_elf.ensures.writes in
    let program = program_seen c.in-Ok-file_program.program in
    serves args old new c.record_elf.result
    (run_recorded args old new c.record_elf.result c.deref.result.now program
    (λ told. passed_is (old.files.content args.run.file) c.in-Ok.file.items c.deref.result.now c.deref.ensures.value
    (c.in-Ok.ensures.read told)) c.in-Ok-file_program.ensures.program
    (after_read args old new program mid.files mid.output c.record_elf.result c.in-Ok.ensures.kept c.in-Ok.ensures.files_go_on
    c.in-Ok.ensures.unprinted c.record_elf.ensures.recorded.records) c.record_elf.ensures.recorded.exact)
    (go_on_after _ _ _ c.in-Ok.ensures.files_go_on c.record_elf.ensures.files_go_on) c.record_elf.ensures.reads (omega arith)

pub returns-clause-serves : goal.returns-clause-serves
returns-clause-serves g c =
    let args : RecordArgs = record_given c.args.args.now in
    let old : World = world (g.F.Files.seen c.args.files.now) (g.I.Source.seen c.args.input.now) (g.O.Sink.seen c.args.out.now) in
    let mid : World =
    world (g.F.Files.seen c.read_file.new.files) (g.I.Source.seen c.args.input.now) (g.O.Sink.seen c.read_file.new.out) in
    let new : World =
    world (g.F.Files.seen c.read_file.new.files) (g.I.Source.seen c.args.input.now) (g.O.Sink.seen c.refuse.new.out) in
    let first : old.output.faults ≤ mid.output.faults = c.in-Ok.ensures.never_falls in
    let next : mid.output.faults ≤ new.output.faults = c.refuse.ensures.never_falls in
    serves args old new c.refuse.result
    (file_refused record_mode args.run old new lawful (λ quiet. quiet.others) c.refuse.result c.in-Ok.ensures.kept refl
    c.deref.result.now
    c.in-Err-file_program.refusal mid.output c.in-Ok.ensures.unprinted
    (λ told. passed_is (old.files.content args.run.file) c.in-Ok.file.items c.deref.result.now c.deref.ensures.value
    (c.in-Ok.ensures.read told)) c.in-Err-file_program.ensures.fault c.refuse.ensures.refused)
    c.in-Ok.ensures.files_go_on (omega arith) (omega arith)

pub returns-in-Ok-file_program-clause-input_kept : goal.returns-in-Ok-file_program-clause-input_kept
returns-in-Ok-file_program-clause-input_kept g c =
    keeps_input (program_seen c.in-Ok-file_program.program)
    (record_given c.args.args.now) _ _ c.record_elf.result c.args.input.now c.record_elf.new.input c.record_elf.ensures.recorded.records

pub record_elf-requires-clause-program : goal.record_elf-requires-clause-program
record_elf-requires-clause-program g c =
    own_file c.deref.result.now (program_seen c.in-Ok-file_program.program) c.in-Ok-file_program.ensures.program
