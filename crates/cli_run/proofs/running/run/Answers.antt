use Rattle.std.proofs.Common.{◌≤◌, refl, subst, sym, arith}
use Rattle.cli_run.specs.run.ByteRuns.{byte_mode}
use Rattle.program.specs.Program.{program_seen}
use Rattle.cli_run.specs.run.SymbolRuns.{symbol_mode}
use Rattle.cli_args.specs.Args.{RunArgs, run_given}
use Rattle.cli_run.specs.run.Serving.{ServesRun}
use Rattle.cli_base.specs.World.{World, world}
use Rattle.cli_run.specs.declared.running.RunMode.{RunMode}
use Rattle.cli_run.proofs.ByteRunAnswering as by_bytes
use Rattle.cli_run.proofs.RunAnswering.{passed_is, file_refused, run_answered, run_not_refused, serves}
use Rattle.cli_run.proofs.RunModes.{run_keeps_input, unread_serves}
use Rattle.cli_run.proofs.SymbolRunAnswering as by_symbols
use Rattle.cli_run.proofs.running.run.Goals as goal

pub returns-in-Err-clause-serves : goal.returns-in-Err-clause-serves
returns-in-Err-clause-serves g c =
    let args : RunArgs = run_given c.args.args.now in
    let old : World = world (g.F.Files.seen c.args.files.now) (g.I.Source.seen c.args.input.now) (g.O.Sink.seen c.args.out.now) in
    let new : World =
    world (g.F.Files.seen c.read_file.new.files) (g.I.Source.seen c.args.input.now) (g.O.Sink.seen c.read_file.new.out) in
    unread_serves args old new c.in-Err.answer c.in-Err.ensures.kept refl c.in-Err.ensures.unread c.in-Err.ensures.files_go_on
    c.in-Err.ensures.never_falls c.args.mode

pub returns-in-Ok-file_image-clause-serves : goal.returns-in-Ok-file_image-clause-serves
returns-in-Ok-file_image-clause-serves g c =
    let args : RunArgs = run_given c.args.args.now in
    let old : World = world (g.F.Files.seen c.args.files.now) (g.I.Source.seen c.args.input.now) (g.O.Sink.seen c.args.out.now) in
    let mid : World =
    world (g.F.Files.seen c.read_file.new.files) (g.I.Source.seen c.args.input.now) (g.O.Sink.seen c.read_file.new.out) in
    let new : World =
    world (g.F.Files.seen c.read_file.new.files) (g.I.Source.seen c.run_elf.new.input) (g.O.Sink.seen c.run_elf.new.out) in
    let first : old.output.faults ≤ mid.output.faults = c.in-Ok.ensures.never_falls in
    let next : mid.output.faults ≤ new.output.faults = c.run_elf.ensures.writes in
    subst (λ (m : RunMode). ServesRun m args c.run_elf.result old new) (sym c.in-Bytes.is)
    (serves byte_mode args old new c.run_elf.result
    (run_answered byte_mode args old new by_bytes.lawful c.run_elf.result c.in-Ok.ensures.kept c.deref.result.now
    c.in-Ok-file_image.elf.file.now
    mid.output c.in-Ok.ensures.unprinted
    (λ told. passed_is (old.files.content args.file) c.in-Ok.file.items c.deref.result.now c.deref.ensures.value
    (c.in-Ok.ensures.read told)) (record {
      program_is = c.in-Ok-file_image.ensures.fields.file_is;
      image = c.in-Ok-file_image.ensures.image;
    }) c.run_elf.ensures.ran.answers c.run_elf.ensures.ran.exact)
    c.in-Ok.ensures.files_go_on c.run_elf.ensures.reads (omega arith))

pub returns-in-Bytes-clause-serves : goal.returns-in-Bytes-clause-serves
returns-in-Bytes-clause-serves g c =
    let args : RunArgs = run_given c.args.args.now in
    let old : World = world (g.F.Files.seen c.args.files.now) (g.I.Source.seen c.args.input.now) (g.O.Sink.seen c.args.out.now) in
    let mid : World =
    world (g.F.Files.seen c.read_file.new.files) (g.I.Source.seen c.args.input.now) (g.O.Sink.seen c.read_file.new.out) in
    let new : World =
    world (g.F.Files.seen c.read_file.new.files) (g.I.Source.seen c.args.input.now) (g.O.Sink.seen c.refuse.new.out) in
    let first : old.output.faults ≤ mid.output.faults = c.in-Ok.ensures.never_falls in
    let next : mid.output.faults ≤ new.output.faults = c.refuse.ensures.never_falls in
    subst (λ (m : RunMode). ServesRun m args c.refuse.result old new) (sym c.in-Bytes.is)
    (serves byte_mode args old new c.refuse.result
    (file_refused byte_mode args old new by_bytes.lawful (λ quiet. quiet) c.refuse.result c.in-Ok.ensures.kept refl
    c.deref.result.now c.in-Err-file_image.refusal mid.output c.in-Ok.ensures.unprinted
    (λ told. passed_is (old.files.content args.file) c.in-Ok.file.items c.deref.result.now c.deref.ensures.value
    (c.in-Ok.ensures.read told)) c.in-Err-file_image.ensures.fault c.refuse.ensures.refused)
    c.in-Ok.ensures.files_go_on (omega arith) (omega arith))

pub returns-in-Ok-file_program-clause-serves : goal.returns-in-Ok-file_program-clause-serves
returns-in-Ok-file_program-clause-serves g c =
    let args : RunArgs = run_given c.args.args.now in
    let old : World = world (g.F.Files.seen c.args.files.now) (g.I.Source.seen c.args.input.now) (g.O.Sink.seen c.args.out.now) in
    let mid : World =
    world (g.F.Files.seen c.read_file.new.files) (g.I.Source.seen c.args.input.now) (g.O.Sink.seen c.read_file.new.out) in
    let new : World =
    world (g.F.Files.seen c.read_file.new.files) (g.I.Source.seen c.run_program.new.input)
    (g.O.Sink.seen c.run_program.new.out) in
    let first : old.output.faults ≤ mid.output.faults = c.in-Ok.ensures.never_falls in
    let next : mid.output.faults ≤ new.output.faults = c.run_program.ensures.writes in
    subst (λ (m : RunMode). ServesRun m args c.run_program.result old new) (sym c.in-Symbols.is)
    (serves symbol_mode args old new c.run_program.result
    (run_answered symbol_mode args old new by_symbols.lawful c.run_program.result c.in-Ok.ensures.kept
    c.deref-in-Symbols.result.now (program_seen c.in-Ok-file_program.program)
    mid.output c.in-Ok.ensures.unprinted
    (λ told. passed_is (old.files.content args.file) c.in-Ok.file.items c.deref-in-Symbols.result.now
    c.deref-in-Symbols.ensures.value
    (c.in-Ok.ensures.read told)) c.in-Ok-file_program.ensures.program c.run_program.ensures.ran.answers c.run_program.ensures.ran.exact)
    c.in-Ok.ensures.files_go_on c.run_program.ensures.reads (omega arith))

pub returns-clause-serves : goal.returns-clause-serves
returns-clause-serves g c =
    let args : RunArgs = run_given c.args.args.now in
    let old : World = world (g.F.Files.seen c.args.files.now) (g.I.Source.seen c.args.input.now) (g.O.Sink.seen c.args.out.now) in
    let mid : World =
    world (g.F.Files.seen c.read_file.new.files) (g.I.Source.seen c.args.input.now) (g.O.Sink.seen c.read_file.new.out) in
    let new : World =
    world (g.F.Files.seen c.read_file.new.files) (g.I.Source.seen c.args.input.now)
    (g.O.Sink.seen c.refuse-in-Err-file_program.new.out) in
    let first : old.output.faults ≤ mid.output.faults = c.in-Ok.ensures.never_falls in
    let next : mid.output.faults ≤ new.output.faults = c.refuse-in-Err-file_program.ensures.never_falls in
    subst (λ (m : RunMode). ServesRun m args c.refuse-in-Err-file_program.result old new) (sym c.in-Symbols.is)
    (serves symbol_mode args old new c.refuse-in-Err-file_program.result
    (file_refused symbol_mode args old new by_symbols.lawful (λ quiet. quiet) c.refuse-in-Err-file_program.result
    c.in-Ok.ensures.kept refl
    c.deref-in-Symbols.result.now c.in-Err-file_program.refusal mid.output c.in-Ok.ensures.unprinted
    (λ told. passed_is (old.files.content args.file) c.in-Ok.file.items c.deref-in-Symbols.result.now
    c.deref-in-Symbols.ensures.value
    (c.in-Ok.ensures.read told)) c.in-Err-file_program.ensures.fault c.refuse-in-Err-file_program.ensures.refused)
    c.in-Ok.ensures.files_go_on (omega arith) (omega arith))

pub returns-in-Ok-file_program-clause-input_kept : goal.returns-in-Ok-file_program-clause-input_kept
returns-in-Ok-file_program-clause-input_kept g c =
    let args : RunArgs = run_given c.args.args.now in
    let old : World = world (g.F.Files.seen c.args.files.now) (g.I.Source.seen c.args.input.now) (g.O.Sink.seen c.args.out.now) in
    run_keeps_input c.run_program.result c.args.input.now c.run_program.new.input
    (λ fault. run_not_refused symbol_mode args old old by_symbols.lawful (program_seen c.in-Ok-file_program.program) _ _
    c.run_program.result fault c.run_program.ensures.ran.answers)

pub run_program-requires-clause-program : goal.run_program-requires-clause-program
run_program-requires-clause-program g c =
    by_symbols.own_file c.deref-in-Symbols.result.now (program_seen c.in-Ok-file_program.program)
    c.in-Ok-file_program.ensures.program
