-- The results of commands that make no output of an input and its profile.
use Rattle.std.proofs.Common.{inl, inr, ◌≡◌, ◌⊎◌, ◌∙◌, sym, ap, subst, ℕ, List, Option, Some, None, Vec, IsTrue, IsSomeAnd}
use Rattle.std.specs.declared.alloc.Global.{Global}
use Rattle.rb_io.specs.Names.{Unchanged}
use Rattle.rb_io.specs.Views.{FilesGoOn}
use Rattle.rb_bytes.specs.Fault.{fault_at}
use Rattle.rb_bytes.specs.declared.fault.Fault.{Fault}
use Rattle.rb_bytes.specs.declared.fault.FaultKind.TheVariants.{TooLarge}
use Rattle.rb_bytes.specs.declared.fault.Refusal.{Refusal}
use Rattle.rb_bytes.specs.declared.fault.Refusal.TheVariants as refusal
use Rattle.program.specs.Limits.{file_limit}
use Rattle.program.specs.Refusals.{IsRefusalFor}
use Rattle.cli_base.specs.BothRead.{BothRead}
use Rattle.cli_base.specs.Inputs.{AreRead, HasInputFault, IsAccepted, IsOkOrNoMemory, IsStopped, IsTooLong}
use Rattle.cli_args.specs.Args.{InputNames}
use Rattle.cli_base.specs.Inputs.{NoInputErrors, OfInputs, at_file, at_refusal, long_file, long_profile, no_memory, refused}
use Rattle.cli_base.specs.Lines.{refused_line}
use Rattle.cli_base.specs.PrintedLines.{IsSilent}
use Rattle.cli_base.specs.Printing.{LinePrinted, Refuses, all_printed, none_printed, prefix_printed}
use Rattle.cli_base.specs.WithinLimit.{IsGiven, IsUnreadable, failed, no_memory as unread_memory}
use Rattle.cli_base.specs.World.{World}
use Rattle.cli_base.specs.declared.status.Status.{Status}
use Rattle.cli_base.specs.declared.status.Status.TheVariants as status

-- a fact of the bytes that were read is a fact of the files
of_inputs : (w : World) (names : InputNames) (file profile : List ℕ) (P : List ℕ → List ℕ → Type 0) →
    AreRead w.files.content names file profile → P file profile → OfInputs w names P
of_inputs w names file profile P read p =
    let inner : IsSomeAnd (w.files.content names.profile) (λ q. P file q) =
    subst (λ (o : Option (List ℕ)). IsSomeAnd o (λ q. P file q)) (sym read.profile_is) p in
    subst (λ (o : Option (List ℕ)). IsSomeAnd o (λ f. IsSomeAnd (w.files.content names.profile) (λ q. P f q)))
    (sym read.file_is) inner

-- a fact of both inputs that follows from another
map_inputs : (a b : Option (List ℕ)) (P Q : List ℕ → List ℕ → Type 0) → ((f p : List ℕ) → P f p → Q f p) →
    IsSomeAnd a (λ f. IsSomeAnd b (λ p. P f p)) → IsSomeAnd a (λ f. IsSomeAnd b (λ p. Q f p))
map_inputs None b P Q h x = absurd x
map_inputs (Some f) None P Q h x = absurd x
map_inputs (Some f) (Some p) P Q h x = h f p x

-- two facts of both inputs that exclude each other
exclude : (a b : Option (List ℕ)) (P Q : List ℕ → List ℕ → Type 0) → ((f p : List ℕ) → P f p → Q f p → ⊥) →
    IsSomeAnd a (λ f. IsSomeAnd b (λ p. P f p)) → IsSomeAnd a (λ f. IsSomeAnd b (λ p. Q f p)) → ⊥
exclude None b P Q h x y = absurd x
exclude (Some f) None P Q h x y = absurd x
exclude (Some f) (Some p) P Q h x y = h f p x y

module _ (Refused : List ℕ → List ℕ → Fault → Type 0) where
  -- the result of a refusal, if its fault is present and the files are unchanged
  pub refuses : (answer : Status) (fault : Fault) (names : InputNames) (old new : World)
      → LinePrinted answer (status.Refused fault) (refused_line fault) old.output new.output
      → Unchanged old.files.content new.files.content → HasInputFault Refused names old fault
      → IsStopped Refused names old new answer
  refuses answer fault names old new (all_printed is taken) same present =
      refused fault is present (record { line_taken = taken; unwritten = same })
  refuses answer fault names old new (prefix_printed is rose taken) same present =
      at_refusal fault is present (record { print = record { cause = rose; front = taken }; unwritten = same })
  refuses answer fault names old new (none_printed is kept) same present =
      no_memory is (record { unprinted = kept; unwritten = same })

  -- the result of a command if one of the files can't be read
  pub unread : (answer : Status) (names : InputNames) (old new : World)
      → IsUnreadable names.file old.files new.files answer ⊎ IsUnreadable names.profile old.files new.files answer
      → IsSilent old new → IsStopped Refused names old new answer
  unread answer names old new (inl (failed is rose)) silent = at_file is (inl rose) silent
  unread answer names old new (inr (failed is rose)) silent = at_file is (inr rose) silent
  unread answer names old new (inl (unread_memory is)) silent = no_memory is silent
  unread answer names old new (inr (unread_memory is)) silent = no_memory is silent

  -- The result of a refusal of files that were read, or of running out of memory.
  pub is_stopped : (answer : Status) (r : Refusal) (names : InputNames) (old new : World) (file profile : List ℕ)
      → Refuses r answer old.output new.output → Unchanged old.files.content new.files.content
      → (IsTrue old.files.told → AreRead old.files.content names file profile) → IsRefusalFor (Refused file profile) r
      → IsStopped Refused names old new answer
  is_stopped answer (refusal.Fault fault) names old new file profile says same read why =
      refuses answer fault names old new says same
      (λ told. of_inputs old names file profile (λ f p. Refused f p fault) (read told) why)
  is_stopped answer refusal.Memory names old new file profile kept same read why =
      no_memory kept.0 (record { unprinted = kept.1; unwritten = same })

  -- an answer for two files that are too long is an answer for any larger set of refusals
  pub stops_too : ((file profile : List ℕ) (fault : Fault) → IsTooLong file profile fault → Refused file profile fault) →
      (names : InputNames) (old new : World) (answer : Status) → IsStopped IsTooLong names old new answer →
      IsStopped Refused names old new answer
  stops_too more names old new answer (refused fault is present prints) = refused fault is
      (λ told. map_inputs (old.files.content names.file) (old.files.content names.profile) (λ f p. IsTooLong f p fault)
      (λ f p. Refused f p fault) (λ f p long. more f p fault long) (present told)) prints
  stops_too more names old new answer (at_refusal fault is present fails) = at_refusal fault is
      (λ told. map_inputs (old.files.content names.file) (old.files.content names.profile) (λ f p. IsTooLong f p fault)
      (λ f p. Refused f p fault) (λ f p long. more f p fault long) (present told)) fails
  stops_too more names old new answer (at_file is cause silent) = at_file is cause silent
  stops_too more names old new answer (no_memory is silent) = no_memory is silent

  not_present : (names : InputNames) (old : World) (fault : Fault) → HasInputFault Refused names old fault →
      IsTrue old.files.told → OfInputs old names (IsAccepted Refused) → ⊥
  not_present names old fault present told accepted =
      exclude (old.files.content names.file) (old.files.content names.profile) (λ f p. Refused f p fault) (IsAccepted Refused)
      (λ f p is_refused accepts. accepts fault is_refused) (present told) accepted

  -- if there is no fault and no count rose, a command is only stopped by running out of memory
  pub stopped_completes : (names : InputNames) (old new : World) (answer : Status)
      → IsStopped Refused names old new answer → IsTrue old.files.told
      → OfInputs old names (IsAccepted Refused) → NoInputErrors names old new → IsOkOrNoMemory answer
  stopped_completes names old new answer (refused fault is present prints) told accepted quiet =
      absurd (not_present names old fault present told accepted)
  stopped_completes names old new answer (at_refusal fault is present fails) told accepted quiet =
      absurd (not_present names old fault present told accepted)
  stopped_completes names old new answer (at_file is cause silent) told accepted quiet =
      elim cause [ inl rose ↦ absurd (quiet.file rose) | inr rose ↦ absurd (quiet.profile rose) ]
  stopped_completes names old new answer (no_memory is silent) told accepted quiet = subst IsOkOrNoMemory (sym is) tt

-- of two files that were read, one is too long, or neither

pub of_long_file : (a b : Option (List ℕ)) (profile : Option (Vec ℕ Global)) (fault : Fault) → fault ≡ fault_at TooLarge 0
    → IsGiven file_limit a None → IsGiven file_limit b profile
    → IsSomeAnd a (λ f. IsSomeAnd b (λ p. IsTooLong f p fault))
of_long_file None b profile fault e long given = absurd long
of_long_file (Some f) None profile fault e long given = absurd given
of_long_file (Some f) (Some p) profile fault e long given = long_file long e

pub of_long_profile : (a b : Option (List ℕ)) (file : Vec ℕ Global) (fault : Fault) → fault ≡ fault_at TooLarge 1
    → IsGiven file_limit a (Some file) → IsGiven file_limit b None
    → IsSomeAnd a (λ f. IsSomeAnd b (λ p. IsTooLong f p fault))
of_long_profile None b file fault e given long = absurd given
of_long_profile (Some f) None file fault e given long = absurd long
of_long_profile (Some f) (Some p) file fault e given long = long_profile given.1 long e

given_is : (content : Option (List ℕ)) (bytes : Vec ℕ Global) → IsGiven file_limit content (Some bytes) → content ≡ Some bytes.items
given_is None bytes given = absurd given
given_is (Some b) bytes given = ap (λ (xs : List ℕ). Some xs) given.0

pub are_both : (content : List ℕ → Option (List ℕ)) (names : InputNames) (file profile : Vec ℕ Global)
    → BothRead content names (Some file) (Some profile) → AreRead content names file.items profile.items
are_both content names file profile both = record {
  file_is = given_is (content names.file) file both.file_given;
  profile_is = given_is (content names.profile) profile both.profile_given;
}

-- files that were read, as the slices that were passed
pub are_read : (content : List ℕ → Option (List ℕ)) (names : InputNames) (file profile file_now profile_now : List ℕ) →
    file_now ≡ file → profile_now ≡ profile → AreRead content names file profile → AreRead content names file_now profile_now
are_read content names file profile file_now profile_now e f read = record {
  file_is = read.file_is ∙ ap (λ (xs : List ℕ). Some xs) (sym e);
  profile_is = read.profile_is ∙ ap (λ (xs : List ℕ). Some xs) (sym f);
}

-- The world between reading and writing is the old one, except that counts of faults of files may have risen.
pub record IsBetween (old mid : World) : Type 0 where
  pub contents : Unchanged old.files.content mid.files.content
  pub go_on : FilesGoOn old.files mid.files
  pub output_is : mid.output ≡ old.output
