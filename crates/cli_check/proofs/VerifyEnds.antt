-- From the results of the steps of `verify` to its answers.
use Rattle.std.proofs.Common.{◌≡◌, ◌≤◌, ℕ, IsTrue, List, None, Option, Some, inl, inr, refl, subst, sym}
use Rattle.std.specs.Prelude.{IsSomeAnd}
use Rattle.rb_bytes.specs.declared.fault.Fault.{Fault}
use Rattle.rb_io.specs.Names.{Unchanged}
use Rattle.rb_io.specs.Views.{FilesGoOn}
use Rattle.program.specs.Limits.{file_limit}
use Rattle.map_check.specs.declared.clause.Verdict.{Verdict}
use Rattle.map_check.specs.declared.clause.Verdict.TheVariants as verdict
use Rattle.cli_base.specs.Printing.{LinePrinted, all_printed, none_printed, prefix_printed}
use Rattle.cli_base.specs.WithinLimit.{AreBytesGiven, failed, no_memory as unread_memory}
use Rattle.cli_base.specs.World.{World}
use Rattle.cli_base.specs.declared.status.Status.{Status}
use Rattle.cli_base.specs.declared.status.Status.TheVariants as status
use Rattle.cli_check.specs.GivenFiles.{AreGiven, IsUngiven, input, map, map_limit, output}
use Rattle.cli_check.specs.Judged.{Announces, AreFilesGiven, IsJudged}
use Rattle.cli_check.specs.VerdictLines.{IsRefusalLine, status_of, verdict_line}
use Rattle.cli_check.specs.VerifiedFiles.{IsRefusedBy, IsVerdictOn}
use Rattle.cli_check.specs.VerifyAnswers.{AreAccepted, IsJudgedOrNoMemory, NoneRoseVerifying, OfFiles, OfTold, VerifyAnswers, VerifyServes}
use Rattle.cli_check.specs.VerifyAnswers.{at_file, at_refusal, at_verdict, judged, no_memory, refused}
use Rattle.cli_args.specs.Args.{VerifyNames}
use Rattle.cli_check.specs.declared.given.Given.{Given}
use Rattle.cli_check.specs.declared.judging.Judged.{Judged}
use Rattle.cli_check.specs.declared.judging.Judged.TheVariants as found

-- a fact of the bytes that were read is a fact of the files
of_given : (given : Given) (a b c : Option (List ℕ)) (P : List ℕ → List ℕ → List ℕ → Type 0) →
    IsSomeAnd a (AreBytesGiven file_limit given.input) → IsSomeAnd b (AreBytesGiven file_limit given.output) →
    IsSomeAnd c (AreBytesGiven map_limit given.map) → ((i o m : List ℕ) → AreFilesGiven given i o m → P i o m) →
    IsSomeAnd a (λ i. IsSomeAnd b (λ o. IsSomeAnd c (λ m. P i o m)))
of_given given (Some i) (Some o) (Some m) P one two three holds =
    holds i o m (record { of_input = one; of_output = two; of_map = three })
of_given given None b c P one two three holds = absurd one
of_given given (Some i) None c P one two three holds = absurd two
of_given given (Some i) (Some o) None P one two three holds = absurd three

-- two facts of the three files that exclude each other
exclude : (a b c : Option (List ℕ)) (P Q : List ℕ → List ℕ → List ℕ → Type 0) → ((i o m : List ℕ) → P i o m → Q i o m → ⊥) →
    IsSomeAnd a (λ i. IsSomeAnd b (λ o. IsSomeAnd c (λ m. P i o m))) →
    IsSomeAnd a (λ i. IsSomeAnd b (λ o. IsSomeAnd c (λ m. Q i o m))) → ⊥
exclude (Some i) (Some o) (Some m) P Q h x y = h i o m x y
exclude None b c P Q h x y = absurd x
exclude (Some i) None c P Q h x y = absurd x
exclude (Some i) (Some o) None P Q h x y = absurd x

module _ (names : VerifyNames) (old new : World) (unwritten : Unchanged old.files.content new.files.content) where
  pub of_told : (given : Given) (P : List ℕ → List ℕ → List ℕ → Type 0) →
      (IsTrue old.files.told → AreGiven old.files.content names given) →
      ((i o m : List ℕ) → AreFilesGiven given i o m → P i o m) → OfTold old names P
  of_told given P are holds told =
      of_given given (old.files.content names.input) (old.files.content names.output) (old.files.content names.map) P
      (are told).input (are told).output (are told).map holds

  -- the result of printing the line of a verdict or of a refusal

  says : (answer : Status) (v : Verdict) → LinePrinted answer (status_of v) (verdict_line v) old.output new.output →
      OfTold old names (λ i o m. IsVerdictOn i o m v) → VerifyAnswers names old new answer
  says answer v (all_printed is taken) on = judged v is on (record { line_taken = taken; unwritten = unwritten })
  says answer v (prefix_printed is rose taken) on =
      at_verdict v is on (record { print = record { cause = rose; front = taken }; unwritten = unwritten })
  says answer v (none_printed is kept) on = no_memory is (record { unprinted = kept; unwritten = unwritten })

  refuses : (answer : Status) (fault : Fault) (line : List ℕ) →
      IsRefusalLine fault line → LinePrinted answer (status.Refused fault) line old.output new.output →
      OfTold old names (λ i o m. IsRefusedBy i o m fault line) → VerifyAnswers names old new answer
  refuses answer fault line of (all_printed is taken) by =
      refused fault line is of by (record { line_taken = taken; unwritten = unwritten })
  refuses answer fault line of (prefix_printed is rose taken) by =
      at_refusal fault line is of by (record { print = record { cause = rose; front = taken }; unwritten = unwritten })
  refuses answer fault line of (none_printed is kept) by = no_memory is (record { unprinted = kept; unwritten = unwritten })

  pub announced : (answer : Status) (j : Judged) → Announces j answer old.output new.output →
      OfTold old names (λ i o m. IsJudged i o m j) → VerifyAnswers names old new answer
  announced answer (found.Verdict v) printed on = says answer v printed on
  announced answer (found.Refused fault) printed on = refuses answer fault _ (inl refl) printed on
  announced answer (found.RefusedOutput fault) printed on = refuses answer fault _ (inr refl) printed on

  pub out_of_memory : (answer : Status) → answer ≡ status.NoMemory → new.output.taken ≡ old.output.taken →
      VerifyAnswers names old new answer
  out_of_memory answer is kept = no_memory is (record { unprinted = kept; unwritten = unwritten })

  pub ungiven : (answer : Status) → IsUngiven names old.files new.files answer → new.output.taken ≡ old.output.taken →
      VerifyAnswers names old new answer
  ungiven answer (input (failed is rose)) kept = at_file is (inl rose) (record { unprinted = kept; unwritten = unwritten })
  ungiven answer (output (failed is rose)) kept =
      at_file is (inr (inl rose)) (record { unprinted = kept; unwritten = unwritten })
  ungiven answer (map (failed is rose)) kept = at_file is (inr (inr rose)) (record { unprinted = kept; unwritten = unwritten })
  ungiven answer (input (unread_memory is)) kept = out_of_memory answer is kept
  ungiven answer (output (unread_memory is)) kept = out_of_memory answer is kept
  ungiven answer (map (unread_memory is)) kept = out_of_memory answer is kept

-- Each answer other than a verdict and running out of memory has a cause.
completes : (names : VerifyNames) (old new : World) (answer : Status) → VerifyAnswers names old new answer →
    IsTrue old.files.told → OfFiles old names AreAccepted → NoneRoseVerifying names old new → IsJudgedOrNoMemory answer
completes names old new answer (judged v is on prints) told accepted quiet = subst IsJudgedOrNoMemory (sym is) (by v)
  where
    by : (v : Verdict) → IsJudgedOrNoMemory (status_of v)
    by verdict.Faithful = tt
    by (verdict.Unfaithful clause place) = tt
completes names old new answer (at_verdict v is on fails) told accepted quiet = absurd (quiet.line fails.print.cause)
completes names old new answer (refused fault line is of by prints) told accepted quiet =
    absurd (exclude (old.files.content names.input) (old.files.content names.output) (old.files.content names.map)
    (λ i o m. IsRefusedBy i o m fault line) AreAccepted (λ i o m is_refused accepts. accepts fault line is_refused) (by told) accepted)
completes names old new answer (at_refusal fault line is of by fails) told accepted quiet = absurd (quiet.line fails.print.cause)
completes names old new answer (at_file is rose silent) told accepted quiet = absurd (elim rose [
  | inl one ↦ quiet.input one
  | inr more ↦ elim more [ inl two ↦ quiet.output two | inr three ↦ quiet.map three ]
])
completes names old new answer (no_memory is silent) told accepted quiet = subst IsJudgedOrNoMemory (sym is) tt

pub serves : (names : VerifyNames) (answer : Status) (old new : World) → VerifyAnswers names old new answer
    → FilesGoOn old.files new.files → old.input.faults ≤ new.input.faults → old.output.faults ≤ new.output.faults
    → VerifyServes names answer old new
serves names answer old new answers go_on reads_on prints_on = record {
  answers = answers;
  completes = completes names old new answer answers;
  files_go_on = go_on;
  input_faults = reads_on;
  output_faults = prints_on;
}
