-- The arguments of the commands.
use Rattle.std.specs.Prelude.{ℕ, ◌≤◌, List, map, string_bytes}
use Rattle.cli_args.specs.declared.args.InputArgs.{InputArgs}
use Rattle.cli_args.specs.declared.args.LookupArgs.{LookupArgs as LookupArgsGiven}
use Rattle.cli_args.specs.declared.args.RecordArgs.{RecordArgs as RecordArgsGiven}
use Rattle.cli_args.specs.declared.args.RepairArgs.{RepairArgs}
use Rattle.cli_args.specs.declared.args.RewriteArgs.{RewriteArgs}
use Rattle.cli_args.specs.declared.args.RunArgs.{RunArgs as RunArgsGiven}
use Rattle.cli_args.specs.declared.args.SampleArgs.{SampleArgs as SampleArgsGiven}
use Rattle.cli_args.specs.declared.args.VerifyArgs.{VerifyArgs}

-- the names of an input and of its profile
pub record InputNames : Type 0 where
  pub file : List ℕ
  pub profile : List ℕ

abbrev pub inputs_read : InputArgs → InputNames
inputs_read a = record { file = a.file.now; profile = a.profile.now }

-- the names of the files of a rewrite: its inputs, the output and its map
pub record RewriteNames : Type 0 where
  pub inputs : InputNames
  pub out : List ℕ
  pub map : List ℕ

abbrev pub names_read : RewriteArgs → RewriteNames
names_read a = record { inputs = inputs_read a.inputs; out = a.out.now; map = a.map.now }

-- the file of a run, the arguments that the program gets, and the limit on its steps
pub record RunArgs : Type 0 where
  pub file : List ℕ
  pub args : List (List ℕ)
  pub limit : ℕ

abbrev pub run_given : RunArgsGiven → RunArgs
run_given a = record { file = a.file.now; args = map string_bytes a.args.now; limit = a.limit }

-- the run that is recorded, and the name of its profile
pub record RecordArgs : Type 0 where
  pub run : RunArgs
  pub out : List ℕ

abbrev pub record_given : RecordArgsGiven → RecordArgs
record_given a = record { run = run_given a.run; out = a.out.now }

-- the names of an input with its profile, and of the repaired profile
pub record RepairNames : Type 0 where
  pub inputs : InputNames
  pub out : List ℕ

abbrev pub repair_given : RepairArgs → RepairNames
repair_given a = record { inputs = inputs_read a.inputs; out = a.out.now }

-- the name of a file, and an address
pub record LookupArgs : Type 0 where
  pub file : List ℕ
  pub address : ℕ

abbrev pub lookup_given : LookupArgsGiven → LookupArgs
lookup_given a = record { file = a.file.now; address = a.address }

-- the number of a sample, and the names of its file and of its profile
pub record SampleArgs : Type 0 where
  pub number : ℕ
  pub file : List ℕ
  pub profile : List ℕ

-- samples are numbered from 1 to 1000
pub record IsSampleNumber (number : ℕ) : Type 0 where
  pub some : 1 ≤ number
  pub few : number ≤ 1000

abbrev pub sample_given : SampleArgsGiven → SampleArgs
sample_given a = record { number = a.number; file = a.file.now; profile = a.profile.now }

-- the names of an input, of an output, and of the map between them
pub record VerifyNames : Type 0 where
  pub input : List ℕ
  pub output : List ℕ
  pub map : List ℕ

abbrev pub verify_given : VerifyArgs → VerifyNames
verify_given a = record { input = a.input.now; output = a.output.now; map = a.map.now }
