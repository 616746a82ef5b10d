-- From the results of a recorded run and of its last steps to the answers of `record`.
use Rattle.std.proofs.Common.{◌≡◌, ◌∙◌, subst, refl, ℕ, ◌≤◌, ◌⊎◌, List, inl, inr}
use Rattle.rb_io.specs.TakenText.{TakesAll, TakesPrefix}
use Rattle.rb_io.specs.Views.{SinkSeen}
use Rattle.rv_code.specs.declared.cause.Cause.{Cause}
use Rattle.rv_code.specs.machine.Step.{ByteState}
use Rattle.run_core.specs.Answers.{Answer}
use Rattle.run_core.specs.Answers as end
use Rattle.run_core.specs.Inputs.{Outside}
use Rattle.run_core.specs.Runs.{IsInterrupted}
use Rattle.rv_code.specs.declared.placed.Block.{Block}
use Rattle.rv_code.specs.declared.placed.Func.{Func}
use Rattle.elf_image.specs.declared.elf.Elf.{Elf}
use Rattle.rv_memory.specs.Start.{start}
use Rattle.rv_machine.specs.State.{state_of}
use Rattle.edge_text.specs.EdgeText.{IsEdgeText}
use Rattle.edge_record.specs.Moves.{Move}
use Rattle.edge_record.specs.RecordedRuns.{ByteMoves, Records, RunsFromStart}
use Rattle.edge_record.specs.MoveCounts.{taken}
use Rattle.program.specs.Program.{Program}
use Rattle.cli_run.specs.recording.Phases.{ProfileWritten, Finished, written, at_line, unwritten}
use Rattle.cli_run.specs.recording.Phases as phase
use Rattle.cli_run.specs.recording.RecordAnswers.{IsAnsweredRecording, RecordsRun, TakesNone, recorded, at_profile, at_closing, stopped}
use Rattle.cli_run.specs.recording.RecordRuns.{record_machine, moving_steps}
use Rattle.cli_run.specs.run.RunOutcomes.{Ending, Ends, HaltsAt, RunsOn, Loaded, answer_of, closing_line}
use Rattle.cli_run.specs.run.RunAnswers.{Taking, ComesOut, out_of_memory, IsCutShort, IsExact, read_fault, write_fault, no_memory, outside}
use Rattle.cli_args.specs.Args.{RecordArgs}
use Rattle.cli_base.specs.World.{World}
use Rattle.cli_base.specs.declared.status.Status.{Status}
use Rattle.cli_base.proofs.FaultCounts.{rose_after}
use Rattle.cli_run.proofs.RunEnds.{came_on, came_ended, came_halted, comes_out, unclosed, stops, only, step_answer, Came}

-- a recorded run of the functions and blocks, as slices
pub by_names : (elf : Elf) (args : List (List ℕ)) (limit : ℕ) (before after : Outside) (funcs funcs' : List Func)
    (blocks blocks' : List Block) (n : ℕ) (text : List ℕ) (a : Answer Cause) → funcs ≡ funcs' → blocks ≡ blocks'
    → Records (start elf.file.now args) limit before after elf funcs blocks n text a
    → Records (start elf.file.now args) limit before after elf funcs' blocks' n text a
by_names elf args limit before after funcs funcs' blocks blocks' n text a same_funcs same_blocks r =
    subst (λ (fs : List Func). Records (start elf.file.now args) limit before after elf fs blocks' n text a) same_funcs
    (subst (λ (bs : List Block). Records (start elf.file.now args) limit before after elf funcs bs n text a) same_blocks r)

-- The output of the run is `output`, and then the profile is written.
module _ (program : Program) (args : RecordArgs) (steps : ℕ) (text : List ℕ) (old new : World) (output : SinkSeen)
    (writes_rise : old.output.faults ≤ output.faults) (writes_last : output.faults ≤ new.output.faults) where
  abbrev machine : Loaded ℕ ℕ Cause
  machine = record_machine program args.run.args

  -- the world between the run and the writing
  abbrev between : World
  between = record { files = old.files; input = new.input; output = output }

  abbrev Recorded : Answer Cause → Type 0
  Recorded a = Records machine.start args.run.limit (outside old)
      (outside between) program.elf program.code.funcs program.blocks steps text a

  abbrev FinishedSo : Status → Answer Cause → Type 0
  FinishedSo result a = Finished result args.out text steps between new a

  abbrev Runs : Answer Cause → Type 0
  Runs a = RunsFromStart machine.start args.run.limit (outside old) (outside between) a steps

  abbrev CameSo : (a : Answer Cause) → Runs a → Ending Cause → Type 0
  CameSo a r ending =
      Came state_of machine args.run.limit r.machine r.ends_as steps (outside old) (outside between) (outside new)
      r.starts (λ input. refl) (λ pc cause result steps b c printed. printed) refl refl writes_rise writes_last ending

  abbrev ComesSo : Taking → Ending Cause → Type 0
  ComesSo Takes ending = ComesOut machine args.run.limit (outside old) (outside new) Takes ending

  abbrev out_of : (a : Answer Cause) (r : Runs a) (Takes : Taking) (ending : Ending Cause)
      → Takes output.taken new.output.taken (closing_line (answer_of machine ending) steps)
      → CameSo a r ending → ComesSo Takes ending
  out_of a r Takes ending line came =
      comes_out state_of machine args.run.limit r.machine r.ends_as steps (outside old) (outside between) (outside new)
      r.starts (λ input. refl)
      (λ pc cause result steps b c printed. printed) refl refl writes_rise writes_last Takes ending line came

  -- a run that wasn't interrupted, and its profile
  came_out : (a : Answer Cause) (r : Runs a) (ending : Ending Cause) (came : CameSo a r ending)
      (moves : List Move) (state : ByteState) → ByteMoves (machine.start came.input) (moving_steps ending steps) moves state
      → IsEdgeText program.elf program.code.funcs (taken program.code.funcs program.blocks moves) text → (result : Status)
      → ProfileWritten result (answer_of machine ending) args.out text
      (closing_line (answer_of machine ending) steps) between new → RecordsRun program args old new result
  came_out a r ending came moves state gone text_is result (written is holds line) =
      recorded ending text is
      (record { comes_out = out_of a r TakesAll ending line came; moves = moves; state = state; gone = gone; text_is = text_is })
      (record { text_is = holds.text_is; others = holds.others })
  came_out a r ending came moves state gone text_is result (phase.at_profile is rose others same) =
      at_profile ending is rose (out_of a r TakesNone ending same came) others
  came_out a r ending came moves state gone text_is result (at_line is rose holds line) =
      at_closing ending text is (rose_after _ _ _ writes_rise rose)
      (record {
        comes_out = out_of a r TakesPrefix ending line came;
        moves = moves;
        state = state;
        gone = gone;
        text_is = text_is;
      })
      (record { text_is = holds.text_is; others = holds.others })
  came_out a r ending came moves state gone text_is result (unwritten is same kept) =
      stopped (out_of_memory is
      (unclosed state_of machine args.run.limit r.machine r.ends_as steps (outside old) (outside between) (outside new)
      r.starts (λ input. refl)
      (λ pc cause result steps b c printed. printed) refl refl writes_rise writes_last kept ending came)) same

  answers : (a : Answer Cause) (result : Status) → Recorded a → FinishedSo result a → RecordsRun program args old new result
  answers end.Going result r finished =
      came_out end.Going r.run RunsOn
      (came_on state_of machine args.run.limit r.run.machine r.run.ends_as steps (outside old) (outside between) (outside new)
      r.run.starts (λ input. refl) (λ pc cause result steps b c printed. printed) refl refl writes_rise writes_last r.run.runs)
      r.moves r.state r.gone r.text_is result finished
  answers (end.Ended value) result r finished =
      came_out (end.Ended value) r.run (Ends value)
      (came_ended state_of machine args.run.limit r.run.machine r.run.ends_as steps (outside old) (outside between) (outside new)
      r.run.starts (λ input. refl)
      (λ pc cause result steps b c printed. printed) refl refl writes_rise writes_last value r.run.runs)
      r.moves r.state r.gone r.text_is result finished
  answers (end.Halted pc cause) result r finished =
      came_out (end.Halted pc cause) r.run (HaltsAt pc cause)
      (came_halted state_of machine args.run.limit r.run.machine r.run.ends_as steps (outside old)
      (outside between) (outside new)
      r.run.starts (λ input. refl)
      (λ pc cause result steps b c printed. printed) refl refl writes_rise writes_last pc cause r.run.runs)
      r.moves r.state r.gone r.text_is result finished
  answers end.ReadFault result r finished =
      stopped
      (stops state_of machine args.run.limit r.0.machine r.0.ends_as steps (outside old) (outside between) (outside new)
      r.0.starts (λ input. refl) (λ pc cause result steps b c printed. printed) refl refl writes_rise writes_last
      end.ReadFault result tt r.0.runs finished.result_is finished.unprinted) finished.unwritten
  answers end.WriteFault result r finished =
      stopped
      (stops state_of machine args.run.limit r.0.machine r.0.ends_as steps (outside old) (outside between) (outside new)
      r.0.starts (λ input. refl) (λ pc cause result steps b c printed. printed) refl refl writes_rise writes_last
      end.WriteFault result tt r.0.runs finished.result_is finished.unprinted) finished.unwritten
  answers end.Memory result r finished =
      let s = r.0 in
      stopped (out_of_memory finished.result_is (record {
        input = s.input;
        input_is = s.input_is;
        input_bytes = s.input_bytes;
        steps = s.steps;
        trace = s.trace;
        state = s.state;
        so_far = s.so_far;
        fits = (s.within, finished.unprinted ∙ s.taken_is, s.left_is);
      })) finished.unwritten

  abbrev Says : Status → Ending Cause → Type 0
  Says result ending = (result ≡ answer_of machine ending) ⊎ IsCutShort result

  written_says : (result : Status) (ending : Ending Cause) (line : List ℕ)
      → ProfileWritten result (answer_of machine ending) args.out text line between new → Says result ending
  written_says result ending line (written is holds taken) = inl is
  written_says result ending line (phase.at_profile is rose others same) = inr (write_fault is)
  written_says result ending line (at_line is rose holds taken) = inr (write_fault is)
  written_says result ending line (unwritten is same kept) = inr (no_memory is)

  finished_says : (result : Status) (ending : Ending Cause) → FinishedSo result (step_answer ending) → Says result ending
  finished_says result (Ends value) finished = written_says result (Ends value) _ finished
  finished_says result (HaltsAt pc cause) finished = written_says result (HaltsAt pc cause) _ finished
  finished_says result RunsOn finished = written_says result RunsOn _ finished

  only_so : (a : Answer Cause) (r : Runs a) (result : Status) → (IsInterrupted a → ⊥) → FinishedSo result a
      → IsExact machine args.run.limit old.input.left result
  only_so a r result came finished =
      only state_of machine args.run.limit r.machine r.ends_as steps (outside old) (outside between) (outside new)
      r.starts (λ input. refl) (λ pc cause result steps b c printed. printed) refl refl writes_rise writes_last
      a result r.runs (λ fault. absurd (came fault))
      (λ ending same. finished_says result ending (subst (λ b. FinishedSo result b) same finished))

  exact : (a : Answer Cause) (result : Status) → Recorded a → FinishedSo result a →
      IsExact machine args.run.limit old.input.left result
  exact end.Going result r finished = only_so end.Going r.run result (λ fault. fault) finished
  exact (end.Ended value) result r finished = only_so (end.Ended value) r.run result (λ fault. fault) finished
  exact (end.Halted pc cause) result r finished = only_so (end.Halted pc cause) r.run result (λ fault. fault) finished
  exact end.ReadFault result r finished = λ input is ending n trace rest run. inr (read_fault finished.result_is)
  exact end.WriteFault result r finished = λ input is ending n trace rest run. inr (write_fault finished.result_is)
  exact end.Memory result r finished = λ input is ending n trace rest run. inr (no_memory finished.result_is)

  pub answered : (a : Answer Cause) (result : Status) → Recorded a → FinishedSo result a →
      IsAnsweredRecording program args old new result
  answered a result r finished = record { records = answers a result r finished; exact = exact a result r finished }
