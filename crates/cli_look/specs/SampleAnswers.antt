-- What holds at the end of the command that makes a sample, by its answer.
use Rattle.std.specs.Prelude.{◌≡◌, ◌≢◌, ℕ, List, Some, IsTrue}
use Rattle.rb_io.specs.FaultCounts.{Rose}
use Rattle.rb_io.specs.Names.{UnchangedBut}
use Rattle.rb_io.specs.TakenText.{TakesAll}
use Rattle.cli_base.specs.Inputs.{IsOkOrNoMemory}
use Rattle.cli_base.specs.PrintedLines.{FailsToPrint, IsSilent}
use Rattle.cli_base.specs.Served.{IsServed}
use Rattle.cli_base.specs.World.{World, WriteRose}
use Rattle.cli_base.specs.declared.status.Status.{Status}
use Rattle.cli_base.specs.declared.status.Status.TheVariants as status
use Rattle.sample_gen.specs.Sample.{IsSample}
use Rattle.cli_look.specs.Lines.{sample_line}
use Rattle.cli_args.specs.Args.{SampleArgs}

module _ (args : SampleArgs) where
  module _ (file profile : List ℕ) (old new : World) where
    -- the file has its bytes, if files are transparent
    abbrev pub HoldsFile : Type 0
    HoldsFile = IsTrue old.files.told → new.files.content args.file ≡ Some file

    -- all other files are unchanged
    abbrev pub OthersKept : Type 0
    OthersKept = (name : List ℕ) → name ≢ args.file → name ≢ args.profile →
        new.files.content name ≡ old.files.content name

    -- both files have their bytes
    pub record HoldBoth : Type 0 where
      pub file_holds : HoldsFile
      pub profile_holds : IsTrue old.files.told → new.files.content args.profile ≡ Some profile
      pub others : OthersKept

    -- Both files were written and the line printed; or a write fails: of the file, and only this file may have changed;
    -- of the profile, after the file; or of the line, after both.
    pub data SampleWritten (line : List ℕ) (answer : Status) : Type 0 where
      all_written : answer ≡ status.Ok → HoldBoth → TakesAll old.output.taken new.output.taken line →
          SampleWritten line answer
      fails_at_file : answer ≡ status.WriteFault → WriteRose old new args.file → new.output.taken ≡ old.output.taken
          → UnchangedBut args.file old.files.content new.files.content → SampleWritten line answer
      fails_at_profile : answer ≡ status.WriteFault → WriteRose old new args.profile →
          new.output.taken ≡ old.output.taken
          → HoldsFile → OthersKept → SampleWritten line answer
      fails_at_line : answer ≡ status.WriteFault → HoldBoth → FailsToPrint line old new → SampleWritten line answer

  module _ (old new : World) where
    -- the sample was made, and then written in this way; or memory ran out before anything was written
    pub data SampleAnswers (answer : Status) : Type 0 where
      made : (file profile : List ℕ) → IsSample args.number file profile
          → SampleWritten file profile old new (sample_line args.number) answer → SampleAnswers answer
      no_memory : answer ≡ status.NoMemory → IsSilent old new → SampleAnswers answer

    -- no count of faults rose
    pub record NoneRoseSampling : Type 0 where
      pub file : WriteRose old new args.file → ⊥
      pub profile : WriteRose old new args.profile → ⊥
      pub line : Rose old.output.faults new.output.faults → ⊥

  -- The command is done, or memory runs out, if no count rose.
  abbrev pub SampleCompletes : Status → World → World → Type 0
  SampleCompletes answer old new = NoneRoseSampling old new → IsOkOrNoMemory answer

  -- the command `sample`
  abbrev pub SampleServes : Status → World → World → Type 0
  SampleServes answer old new = IsServed (SampleAnswers old new answer) (SampleCompletes answer old new) old new
