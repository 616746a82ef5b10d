-- From the results of the steps of `run` to its answers, in either mode.
use Rattle.std.proofs.Common.{◌≡◌, ◌∙◌, ◌<◌, ◌≤◌, ◌⊎◌, sym, ap, subst, inl, inr, ℕ, List, length, Option, Some, None, IsTrue, IsSomeAnd}
use Rattle.std.specs.Prelude.{unwrap_or}
use Rattle.rb_io.specs.Names.{Unchanged}
use Rattle.rb_io.specs.Views.{FilesGoOn, SinkSeen}
use Rattle.run_core.specs.Inputs.{Outside}
use Rattle.rb_bytes.specs.Fault.{fault_at}
use Rattle.rb_bytes.specs.declared.fault.Fault.{Fault}
use Rattle.rb_bytes.specs.declared.fault.FaultKind.TheVariants.{TooLarge}
use Rattle.rb_bytes.specs.declared.fault.Refusal.{Refusal}
use Rattle.rb_bytes.specs.declared.fault.Refusal.TheVariants as refusal
use Rattle.cli_base.specs.Lines.{refused_line}
use Rattle.program.specs.Limits.{file_limit}
use Rattle.cli_base.specs.Printing.{LinePrinted, all_printed, prefix_printed, none_printed, Refuses}
use Rattle.cli_run.specs.run.RunOutcomes.{Ending, Ends, HaltsAt, RunsOn, answer_of}
use Rattle.cli_run.specs.run.Modes.{Mode}
use Rattle.program.specs.Refusals.{IsRefusalFor}
use Rattle.cli_base.specs.Reading.{IsUnread}
use Rattle.cli_base.specs.Reading as reading
use Rattle.cli_run.specs.run.RunAnswers.{AnswersRun, StopsRun, came_out, at_input, at_output, at_closing, out_of_memory, stopped}
use Rattle.cli_run.specs.run.RunAnswers.{HasRunFault, IsUnderWay, FileAnswers, RunAnswers, under_way, refused, at_refusal, at_file}
use Rattle.cli_run.specs.run.RunAnswers.{before_run, IsRunAnswer, IsCutShort, read_fault, no_memory, NoRunErrors, IsExact, outside}
use Rattle.cli_run.specs.run.RunAnswers.{IsComplete, RunCompletes, RunServes}
use Rattle.cli_args.specs.Args.{RunArgs}
use Rattle.cli_base.specs.World.{World}
use Rattle.cli_base.specs.declared.status.Status.{Status}
use Rattle.cli_base.specs.declared.status.Status.TheVariants as status

-- a file that is too long, and one with a fault
present_long : (content : Option (List ℕ)) (Has P : List ℕ → Type 0) → ((file : List ℕ) → Has file → P file) →
    IsSomeAnd content Has → IsSomeAnd content P
present_long None Has P implies long = absurd long
present_long (Some file) Has P implies long = implies file long

present_fault : (content : Option (List ℕ)) (file : List ℕ) (P : List ℕ → Type 0) → content ≡ Some file →
    P file → IsSomeAnd content P
present_fault content file P is why = subst (λ (o : Option (List ℕ)). IsSomeAnd o P) (sym is) why

-- a file that was read into a buffer is passed as a slice
pub passed_is : (content : Option (List ℕ)) (buffer slice : List ℕ) → slice ≡ buffer → content ≡ Some buffer →
    content ≡ Some slice
passed_is content buffer slice passed is = is ∙ ap Some (sym passed)

-- the content of a file is unique
same_content : (content : Option (List ℕ)) (one other : List ℕ) → content ≡ Some one → content ≡ Some other → one ≡ other
same_content content one other is is' = ap (λ o. unwrap_or o one) (sym is ∙ is')

-- The conditions on a mode: a file that is too long can't be run, none can be both run and refused, and an answer of runs reports that a
-- machine halted.
pub record IsLawful {P V X C : Type 0} (mode : Mode P V X C) : Type 0 where
  pub long_cannot : (file : List ℕ) → file_limit < length file → mode.CannotRun file (fault_at TooLarge 0)
  pub not_both : (file : List ℕ) (fault : Fault) → mode.CannotRun file fault → mode.CanRun file → ⊥
  pub halts : (program : P) (args : List (List ℕ)) (pc : ℕ) (cause : C) → IsRunAnswer
      ((mode.machine program args).halted pc cause)

-- The answer of a run, and that it is complete if Q, which says that there are no errors, holds. U holds for a run that started.
pub record IsFileServed {P V X C : Type 0} (mode : Mode P V X C) (args : RunArgs) (U Q : Type 0) (old new : World)
    (answer : Status) : Type 0 where
  pub done : FileAnswers mode args U old new answer
  pub completes : IsTrue old.files.told → (file : List ℕ) → old.files.content args.file ≡ Some file → mode.CanRun file →
      IsComplete mode args file old.input.left answer Q

abbrev pub IsRunServed : {P V X C : Type 0} → Mode P V X C → RunArgs → World → World → Status → Type 0
IsRunServed mode args old new answer =
    IsFileServed mode args (IsUnderWay mode args old new answer) (NoRunErrors args old new) old new answer

-- all facts together, from what was done for the file
pub serves : {P V X C : Type 0} (mode : Mode P V X C) (args : RunArgs) (old new : World) (answer : Status) →
    IsRunServed mode args old new answer → FilesGoOn old.files new.files → old.input.faults ≤ new.input.faults
    → old.output.faults ≤ new.output.faults → RunServes mode args answer old new
serves mode args old new answer served go_on input output = record {
  answers = served.done;
  completes = served.completes;
  files_go_on = go_on;
  input_faults = input;
  output_faults = output;
}

module _ {P V X C : Type 0} (mode : Mode P V X C) (args : RunArgs) (old new : World) where
  -- a refusal, if its fault is present and the files and the input are unchanged
  pub refuses : (U : Type 0) (answer : Status) (fault : Fault)
      → LinePrinted answer (status.Refused fault) (refused_line fault) old.output new.output
      → Unchanged old.files.content new.files.content → HasRunFault mode args old fault → new.input ≡ old.input
      → FileAnswers mode args U old new answer
  refuses U answer fault (all_printed is taken) same present unread =
      refused fault is present (record { line_taken = taken; unwritten = same }) unread
  refuses U answer fault (prefix_printed is rose taken) same present unread =
      at_refusal fault is present (record { print = record { cause = rose; front = taken }; unwritten = same }) unread
  refuses U answer fault (none_printed is kept) same present unread =
      before_run is (record { unprinted = kept; unwritten = same }) unread

  module _ (law : IsLawful mode) (file : List ℕ) (told : IsTrue old.files.told) (is : old.files.content args.file ≡ Some file)
      (can_run : mode.CanRun file) where
    -- the file has no fault
    pub none_present : (fault : Fault) → HasRunFault mode args old fault → ⊥
    none_present fault present =
        law.not_both file fault (subst (λ (o : Option (List ℕ)). IsSomeAnd o (λ f. mode.CannotRun f fault)) is (present told))
        can_run

    pub ending_said : (program : P) (ending : Ending C) → IsRunAnswer (answer_of (mode.machine program args.args) ending)
    ending_said program (Ends value) = tt
    ending_said program (HaltsAt pc cause) = law.halts program args.args pc cause
    ending_said program RunsOn = tt

    -- without errors, an interrupted run has no cause other than memory
    pub stop_said : (program : P) (answer : Status) → NoRunErrors args old new →
        StopsRun (mode.machine program args.args) args.limit (outside old) (outside new) answer → IsRunAnswer answer
    stop_said program answer quiet (at_input so rose stops) = absurd (quiet.input rose)
    stop_said program answer quiet (at_output so rose stops) = absurd (quiet.out rose)
    stop_said program answer quiet (out_of_memory so stops) = subst IsRunAnswer (sym so) tt

    run_said : (program : P) (answer : Status) → NoRunErrors args old new →
        AnswersRun (mode.machine program args.args) args.limit (outside old) (outside new) answer → IsRunAnswer answer
    run_said program answer quiet (came_out ending so out) = subst IsRunAnswer (sym so) (ending_said program ending)
    run_said program answer quiet (at_closing so rose ending out) = absurd (quiet.out rose)
    run_said program answer quiet (stopped stops) = stop_said program answer quiet stops

    -- the answer of a run that started
    pub some_said : (U : Type 0) (answer : Status) → (U → IsRunAnswer answer) → NoRunErrors args old new →
        FileAnswers mode args U old new answer → IsRunAnswer answer
    some_said U answer said quiet (under_way way) = said way
    some_said U answer said quiet (refused fault so present prints unread) = absurd (none_present fault present)
    some_said U answer said quiet (at_refusal fault so present fails unread) = absurd (none_present fault present)
    some_said U answer said quiet (at_file so rose silent unread) = absurd (quiet.file rose)
    some_said U answer said quiet (before_run so silent unread) = subst IsRunAnswer (sym so) tt

    pub is_complete : (answer : Status) → RunAnswers mode args old new answer
        → IsCutShort answer ⊎ ((program : P)
        × (mode.IsProgram file program × IsExact (mode.machine program args.args) args.limit old.input.left answer))
        → RunCompletes mode args file answer old new
    is_complete answer done exact = record {
      some = λ quiet. some_said (IsUnderWay mode args old new answer) answer
          (λ way. run_said way.program answer quiet way.run) quiet done;
      exactly = exact;
    }

  -- a run that started isn't refused
  pub run_not_refused : IsLawful mode → (program : P) (before after : Outside) (answer : Status) (fault : Fault) →
      AnswersRun (mode.machine program args.args) args.limit before after answer → answer ≡ status.Refused fault → ⊥
  run_not_refused law program before after answer fault (came_out (Ends value) so out) same = absurd (cc)
  run_not_refused law program before after answer fault (came_out (HaltsAt pc cause) so out) same =
      subst IsRunAnswer (sym so ∙ same) (law.halts program args.args pc cause)
  run_not_refused law program before after answer fault (came_out RunsOn so out) same = absurd (cc)
  run_not_refused law program before after answer fault (at_closing so rose ending out) same = absurd (cc)
  run_not_refused law program before after answer fault (stopped (at_input so rose stops)) same = absurd (cc)
  run_not_refused law program before after answer fault (stopped (at_output so rose stops)) same = absurd (cc)
  run_not_refused law program before after answer fault (stopped (out_of_memory so stops)) same = absurd (cc)

  -- an answer that is exact for a file's content is exact for an equal content
  pub other_exact : (answer : Status) (one other : List ℕ) (program : P) → old.files.content args.file ≡ Some one
      → old.files.content args.file ≡ Some other → mode.IsProgram one program
      → IsExact (mode.machine program args.args) args.limit old.input.left answer
      → IsCutShort answer ⊎ ((program : P)
      × (mode.IsProgram other program × IsExact (mode.machine program args.args) args.limit old.input.left answer))
  other_exact answer one other program is is' program_is exact =
      inr (
        program,
        (subst (λ f. mode.IsProgram f program) (same_content (old.files.content args.file) one other is is') program_is, exact),
      )

  -- Nothing is run, and the files and the input are unchanged.
  module _ (law : IsLawful mode) {U Q : Type 0} (quiet : Q → NoRunErrors args old new) (answer : Status)
      (same : Unchanged old.files.content new.files.content) (unread : new.input ≡ old.input) where
    fault_answered : (fault : Fault) → LinePrinted answer (status.Refused fault) (refused_line fault) old.output new.output →
        HasRunFault mode args old fault → IsFileServed mode args U Q old new answer
    fault_answered fault printed present = record {
      done = refuses U answer fault printed same present unread;
      completes = λ told file is can. absurd (none_present law file told is can fault present);
    }

    no_memory_answered : answer ≡ status.NoMemory → new.output.taken ≡ old.output.taken → IsFileServed mode args U Q old new answer
    no_memory_answered so kept = record {
      done = before_run so (record { unprinted = kept; unwritten = same }) unread;
      completes = λ told file is can. record { some = λ q. subst IsRunAnswer (sym so) tt; exactly = inl (no_memory so) };
    }

    -- the file wasn't read
    pub file_unread : IsUnread args.file file_limit old.files new.files old.output new.output answer → IsFileServed mode args U Q old new
        answer
    file_unread (reading.too_long fault so long printed) =
        fault_answered fault printed (λ told. present_long (old.files.content args.file) (λ file. file_limit < length file)
        (λ file. mode.CannotRun file fault)
        (λ file l. subst (λ f. mode.CannotRun file f) (sym so) (law.long_cannot file l)) (long told))
    file_unread (reading.at_file so rose kept) = record {
      done = at_file so rose (record { unprinted = kept; unwritten = same }) unread;
      completes = λ told file is can. record { some = λ q. absurd ((quiet q).file rose); exactly = inl (read_fault so) };
    }
    file_unread (reading.no_memory so kept) = no_memory_answered so kept

    refusal_answered : (file : List ℕ) (r : Refusal) → (IsTrue old.files.told → old.files.content args.file ≡ Some file) →
        IsRefusalFor (mode.CannotRun file) r → Refuses r answer old.output new.output → IsFileServed mode args U Q old new answer
    refusal_answered file (refusal.Fault fault) is why printed =
        fault_answered fault printed (λ told. present_fault (old.files.content args.file) file (λ f. mode.CannotRun f fault)
        (is told) why)
    refusal_answered file refusal.Memory is why kept = no_memory_answered kept.0 kept.1

    -- the file is refused, or memory ran out, after it was read and before anything was printed
    pub file_refused : (file : List ℕ) (r : Refusal) (mid : SinkSeen) → mid ≡ old.output
        → (IsTrue old.files.told → old.files.content args.file ≡ Some file) → IsRefusalFor (mode.CannotRun file) r
        → Refuses r answer mid new.output → IsFileServed mode args U Q old new answer
    file_refused file r mid unprinted is why refuses =
        refusal_answered file r is why (subst (λ (o : SinkSeen). Refuses r answer o new.output) unprinted refuses)

  -- the run started, after the file was read and before anything was printed
  pub run_answered : IsLawful mode → (answer : Status) → Unchanged old.files.content new.files.content
      → (file : List ℕ) (program : P) (mid : SinkSeen) → mid ≡ old.output
      → (IsTrue old.files.told → old.files.content args.file ≡ Some file) → mode.IsProgram file program
      → AnswersRun (mode.machine program args.args) args.limit (record { input = old.input; output = mid }) (outside new)
      answer
      → IsExact (mode.machine program args.args) args.limit old.input.left answer
      → IsRunServed mode args old new answer
  run_answered law answer same file program mid unprinted is program_is run exact =
      let done : RunAnswers mode args old new answer = under_way (record {
        file = file;
        file_is = is;
        unwritten = same;
        program = program;
        program_is = program_is;
        run = subst (λ (o : SinkSeen). AnswersRun (mode.machine program args.args) args.limit
            (record { input = old.input; output = o }) (outside new) answer) unprinted run;
      }) in
      record {
        done = done;
        completes = λ told other other_is can. is_complete law other told other_is can answer done
            (other_exact answer file other program (is told) other_is program_is exact);
      }
