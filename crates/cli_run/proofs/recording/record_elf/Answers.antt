use Rattle.rb_io.specs.Views.{SinkSeen}
use Rattle.rv_machine.specs.StepResults.{answered}
use Rattle.std.proofs.Common.{subst, sym}
use Rattle.rv_code.specs.layout.FunctionLists.{AreLaidOut}
use Rattle.program.specs.Program.{Program, program_seen}
use Rattle.program.proofs.Programs.{laid_out}
use Rattle.cli_args.specs.Args.{record_given, RecordArgs}
use Rattle.cli_base.specs.World.{World, world}
use Rattle.cli_run.proofs.RecordEnds as ends
use Rattle.cli_run.proofs.recording.record_elf.Goals as goal

pub trace_edges-recorded-requires-clause-funcs : goal.trace_edges-recorded-requires-clause-funcs
trace_edges-recorded-requires-clause-funcs g c =
    let is = c.requires.program.program in
    subst AreLaidOut (sym c.as_slice-funcs.ensures.value)
    (laid_out _ c.args.program.now.elf is.faultless c.args.program.now.funcs.items is.code_is.funcs)

pub returns-clause-recorded : goal.returns-clause-recorded
returns-clause-recorded g c =
    let args : RecordArgs = record_given c.args.args.now in
    let old : World = world (g.F.Files.seen c.args.files.now) (g.I.Source.seen c.args.input.now) (g.O.Sink.seen c.args.out.now) in
    let new : World = world (g.F.Files.seen c.finish.new.files) (g.I.Source.seen c.trace_edges-recorded.new.input)
    (g.O.Sink.seen c.finish.new.out) in
    let mid : SinkSeen = g.O.Sink.seen c.trace_edges-recorded.new.out in
    let program : Program = program_seen c.args.program.now in
    ends.answered program args c.trace_edges-recorded.result.ran.steps c.trace_edges-recorded.result.text.items old new mid
    c.trace_edges-recorded.ensures.writes c.finish.ensures.never_falls
    (answered c.trace_edges-recorded.result.ran.end) c.finish.result
    (ends.by_names c.args.program.now.elf _ _ _ _ _ _ _ _ _ _ _ c.as_slice-funcs.ensures.value c.deref.ensures.value
    c.trace_edges-recorded.ensures.answer)
    (c.finish.ensures.finished (g.I.Source.seen c.trace_edges-recorded.new.input)
    (g.I.Source.seen c.trace_edges-recorded.new.input))
