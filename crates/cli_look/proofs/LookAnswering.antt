-- From the results of the steps of a command that looks at one file to its answers.
use Rattle.std.proofs.Common.{◌≡◌, ◌<◌, ◌≤◌, refl, sym, subst, ℕ, List, Option, Some, None, IsTrue, IsSomeAnd, length}
use Rattle.rb_bytes.specs.Fault.{fault_at}
use Rattle.rb_bytes.specs.declared.fault.Fault.{Fault}
use Rattle.rb_bytes.specs.declared.fault.FaultKind.TheVariants.{TooLarge}
use Rattle.rb_bytes.specs.declared.fault.Refusal.{Refusal}
use Rattle.rb_bytes.specs.declared.fault.Refusal.TheVariants as refusal
use Rattle.rb_io.specs.FaultCounts.{Rose}
use Rattle.rb_io.specs.Names.{Unchanged}
use Rattle.rb_io.specs.TakenText.{TakesAll, TakesPrefix}
use Rattle.rb_io.specs.Views.{FilesGoOn, SinkSeen}
use Rattle.program.specs.Limits.{file_limit}
use Rattle.program.specs.Refusals.{IsRefusalFor}
use Rattle.cli_base.specs.Inputs.{IsOkOrNoMemory}
use Rattle.cli_base.specs.Lines.{refused_line}
use Rattle.cli_base.specs.Printing.{LinePrinted, Refuses, all_printed, none_printed, prefix_printed}
use Rattle.cli_base.specs.Reading.{IsUnread}
use Rattle.cli_base.specs.Reading as reading
use Rattle.cli_base.specs.World.{World}
use Rattle.cli_base.specs.declared.status.Status.{Status}
use Rattle.cli_base.specs.declared.status.Status.TheVariants as status
use Rattle.cli_look.specs.LookAnswers.{HasLookFault, IsSaidOf, LookAnswers, LookServes, Looking, NoneRoseLooking}
use Rattle.cli_look.specs.LookAnswers.{at_file, at_refusal, at_text, no_memory, printed, refused}

-- a property of a file's content implies a weaker one
implied : (content : Option (List ℕ)) (P Q : List ℕ → Type 0) → ((file : List ℕ) → P file → Q file) → IsSomeAnd content P →
    IsSomeAnd content Q
implied None P Q h p = absurd p
implied (Some file) P Q h p = h file p

module _ (look : Looking) (name : List ℕ) (old new : World) where
  module _ (answer : Status) (same : Unchanged old.files.content new.files.content) where
    -- the line of a fault that is present was printed, or a prefix of it
    refuses : (fault : Fault) → HasLookFault look name old fault →
        LinePrinted answer (status.Refused fault) (refused_line fault) old.output new.output → LookAnswers look name old new answer
    refuses fault present (all_printed is taken) =
        refused fault is present (record { line_taken = taken; unwritten = same })
    refuses fault present (prefix_printed is rose taken) =
        at_refusal fault is present (record { print = record { cause = rose; front = taken }; unwritten = same })
    refuses fault present (none_printed is kept) = no_memory is (record { unprinted = kept; unwritten = same })

    -- the file wasn't read
    pub unread : ((file : List ℕ) (fault : Fault) → file_limit < length file → fault ≡ fault_at TooLarge 0 → look.Refuses file fault) →
        IsUnread name file_limit old.files new.files old.output new.output answer → LookAnswers look name old new answer
    unread long (reading.too_long fault is present prints) =
        refuses fault
        (λ told. implied (old.files.content name) (λ f. file_limit < length f) (λ f. look.Refuses f fault)
        (λ f over. long f fault over is) (present told)) prints
    unread long (reading.at_file is rose taken) = at_file is rose (record { unprinted = taken; unwritten = same })
    unread long (reading.no_memory is taken) = no_memory is (record { unprinted = taken; unwritten = same })

    -- the file was read, and is refused
    pub read_refused : (file : List ℕ) (r : Refusal) → (IsTrue old.files.told → old.files.content name ≡ Some file) →
        IsRefusalFor (look.Refuses file) r → Refuses r answer old.output new.output → LookAnswers look name old new answer
    read_refused file (refusal.Fault fault) is why prints =
        refuses fault (λ told. subst (λ (o : Option (List ℕ)). IsSomeAnd o (λ f. look.Refuses f fault)) (sym (is told)) why) prints
    read_refused file refusal.Memory is why kept = no_memory kept.0 (record { unprinted = kept.1; unwritten = same })

  -- The text was printed, or a prefix of it. Nothing was printed before.
  module _ (mid : SinkSeen) (unprinted : mid ≡ old.output) (text shown : List ℕ) (passed : shown ≡ text)
      (said : IsSaidOf look name old text) (same : Unchanged old.files.content new.files.content) where
    pub prints : TakesAll mid.taken new.output.taken shown → LookAnswers look name old new status.Ok
    prints taken = printed refl text said (record {
      line_taken =
          subst (λ (s : SinkSeen). TakesAll s.taken new.output.taken text) unprinted
          (subst (λ (t : List ℕ). TakesAll mid.taken new.output.taken t) passed taken);
      unwritten = same;
    })

    pub fails : Rose mid.faults new.output.faults → TakesPrefix mid.taken new.output.taken shown →
        LookAnswers look name old new status.WriteFault
    fails rose taken = at_text refl text said (record {
      print = record {
        cause = subst (λ (s : SinkSeen). Rose s.faults new.output.faults) unprinted rose;
        front =
            subst (λ (s : SinkSeen). TakesPrefix s.taken new.output.taken text) unprinted
            (subst (λ (t : List ℕ). TakesPrefix mid.taken new.output.taken t) passed taken);
      };
      unwritten = same;
    })

  -- if there is no fault and no count rose, the command is done, or memory ran out
  completes : (answer : Status) → LookAnswers look name old new answer → IsTrue old.files.told → (file : List ℕ) →
      old.files.content name ≡ Some file → ((fault : Fault) → look.Refuses file fault → ⊥) → NoneRoseLooking look name old new →
      IsOkOrNoMemory answer
  completes answer (printed is text said prints) told file there sound quiet = subst IsOkOrNoMemory (sym is) tt
  completes answer (at_text is text said fails) told file there sound quiet = absurd (quiet.line fails.print.cause)
  completes answer (refused fault is present prints) told file there sound quiet =
      absurd (sound fault (subst (λ (o : Option (List ℕ)). IsSomeAnd o (λ f. look.Refuses f fault)) there (present told)))
  completes answer (at_refusal fault is present fails) told file there sound quiet = absurd (quiet.line fails.print.cause)
  completes answer (at_file is rose silent) told file there sound quiet = absurd (quiet.file rose)
  completes answer (no_memory is silent) told file there sound quiet = subst IsOkOrNoMemory (sym is) tt

  pub serves : (answer : Status) → LookAnswers look name old new answer → FilesGoOn old.files new.files →
      old.input.faults ≤ new.input.faults → old.output.faults ≤ new.output.faults → LookServes look name answer old new
  serves answer answers go_on input output = record {
    answers = answers;
    completes = completes answer answers;
    files_go_on = go_on;
    input_faults = input;
    output_faults = output;
  }
