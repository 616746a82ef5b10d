use Rattle.std.proofs.Common.{◌≡◌, ◌∙◌, ◌+◌, ◌^◌, ◌≤◌, ap, sym, subst, ℕ, Bool, List, refl}
use Rattle.std.specs.Prelude.{All}
use Rattle.rv_code.specs.declared.placed.Func.{Func}
use Rattle.rv_code.specs.layout.FunctionLists.{AreLaidOut}
use Rattle.rv_code.specs.declared.cell.CodeCell.{CodeCell}
use Rattle.elf_image.specs.declared.elf.Elf.{Elf}
use Rattle.run_core.specs.Inputs.{Outside}
use Rattle.run_core.specs.Runs.{RunsSomeInput}
use Rattle.sym_machine.specs.SymStart.{sym_start}
use Rattle.sym_machine.specs.SymStep.{SymSteps}
use Rattle.sym_machine.specs.MachineState.{state_of, answered, funcs_of}
use Rattle.sym_machine.specs.declared.machine.SymMachine.{SymMachine}
use Rattle.cli_args.specs.Args.{run_given}
use Rattle.cfi_rows.specs.Frames.{tabled}
use Rattle.program.specs.Program.{Program, program_seen}
use Rattle.program.proofs.Programs.{laid_out}
use Rattle.cli_run.specs.run.Phases.{Closed}
use Rattle.cli_run.specs.run.SymbolRuns.{symbol_machine}
use Rattle.cli_base.specs.declared.status.Status.{Status}
use Rattle.cli_run.proofs.CellBounds.{cells_end}
use Rattle.cli_run.proofs.RunEnds as ends
use Rattle.cli_run.proofs.symbol_run.run_program.Goals as goal

pub returns-in_default-clause-ran : goal.returns-in_default-clause-ran
returns-in_default-clause-ran g c = ends.unstarted (symbol_machine (program_seen c.args.program.now)
    (run_given c.args.args.now).args) c.args.args.now.limit _ (λ input. refl)

pub returns-in_default-load-clause-ran : goal.returns-in_default-load-clause-ran
returns-in_default-load-clause-ran g c = ends.unstarted (symbol_machine (program_seen c.args.program.now)
    (run_given c.args.args.now).args) c.args.args.now.limit _ (λ input. refl)

-- the machine starts in the start state of the file's program
started : (m : SymMachine) (elf : Elf) (given tight : Bool) (given_cells cells : List CodeCell) (args : List (List ℕ)) →
    given ≡ tight → given_cells ≡ cells → ((input : List ℕ) → state_of m input ≡ sym_start elf given_cells given args input) →
    (input : List ℕ) → state_of m input ≡ sym_start elf cells tight args input
started m elf given tight given_cells cells args same_tight same_cells loaded input =
    loaded input ∙ ap (λ cs. sym_start elf cs given args input) same_cells
    ∙ ap (λ (t : Bool). sym_start elf cells t args input) same_tight

pub is_tight-requires-clause-laid : goal.is_tight-requires-clause-laid
is_tight-requires-clause-laid g c =
    let is = c.requires.program.program in
    laid_out _ c.args.program.now.elf is.faultless c.args.program.now.funcs.items is.code_is.funcs

pub is_tight-requires-clause-blocks : goal.is_tight-requires-clause-blocks
is_tight-requires-clause-blocks g c = ((program_seen c.args.program.now).code, refl, c.requires.program.program.blocks_are)

pub load-requires-clause-laid_out : goal.load-requires-clause-laid_out
load-requires-clause-laid_out g c =
    let is = c.requires.program.program in
    subst AreLaidOut (sym c.as_slice-funcs.ensures.value)
    (laid_out _ c.args.program.now.elf is.faultless c.args.program.now.funcs.items is.code_is.funcs)

pub load-requires-clause-cells : goal.load-requires-clause-cells
load-requires-clause-cells g c =
    let is = c.requires.program.program in
    subst (λ (cells : List CodeCell). All (λ cell. cell.addr + cell.width ≤ 2 ^ 64) cells) (sym c.as_slice-cells.ensures.value)
    (cells_end c.args.program.now.elf.file.now c.args.program.now.elf is.faultless.read is.faultless.plain.sound
    (tabled c.args.program.now.elf)
    c.args.program.now.refs.cells.items is.code_is.cells)

pub returns-clause-ran : goal.returns-clause-ran
returns-clause-ran g c =
    let before : Outside = record { input = g.I.Source.seen c.args.input.now; output = g.O.Sink.seen c.args.out.now } in
    let mid : Outside = record { input = g.I.Source.seen c.run-ran.new.input; output = g.O.Sink.seen c.run-ran.new.out } in
    let after : Outside = record { input = g.I.Source.seen c.run-ran.new.input; output = g.O.Sink.seen c.close.new.out } in
    let program : Program = program_seen c.args.program.now in
    let funcs_are : funcs_of c.in-Ok-load.machine ≡ program.code.funcs = c.in-Ok-load.ensures.funcs ∙ c.as_slice-funcs.ensures.value in
    let ran : RunsSomeInput state_of (SymSteps program.code.funcs) (answered c.run-ran.result.end) c.args.args.now.limit
    c.run-ran.result.steps c.in-Ok-load.machine c.run-ran.new.self before mid =
    subst (λ (funcs : List Func). RunsSomeInput state_of (SymSteps funcs) (answered c.run-ran.result.end) c.args.args.now.limit
    c.run-ran.result.steps c.in-Ok-load.machine c.run-ran.new.self before mid) funcs_are c.run-ran.ensures.answer in
    ends.answered state_of (symbol_machine program (run_given c.args.args.now).args) c.args.args.now.limit c.in-Ok-load.machine
    c.run-ran.new.self c.run-ran.result.steps before mid after
    (started c.in-Ok-load.machine c.args.program.now.elf c.in-Ok.tight _ _ _ _ c.in-Ok.ensures c.as_slice-cells.ensures.value
    c.in-Ok-load.ensures.start) (λ input. refl)
    (λ pc cause result steps b a printed. printed)
    refl refl c.run-ran.ensures.writes c.close.ensures.never_falls
    (answered c.run-ran.result.end) c.close.result ran
    (subst (λ (came : Status). Closed c.close.result c.run-ran.result.steps mid.output after.output came)
    c.status_of.ensures c.close.ensures.closed)
