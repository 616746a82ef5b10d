-- Tokens and commands that were read, in the terms of the definitions.
use Rattle.std.specs.Prelude.{◌≢◌, Bool, true, false, List, [], ◌∷◌, map, string_bytes}
use Rattle.std.specs.Option.{option_map}
use Rattle.rv_memory.specs.Limits.{IsWithinLimits}
use Rattle.cli_args.specs.Args.{IsSampleNumber, RecordArgs, RunArgs, inputs_read, lookup_given, names_read}
use Rattle.cli_args.specs.Args.{repair_given, sample_given, verify_given}
use Rattle.cli_args.specs.CommandLine.{Token, Positional, Named, Expected, AnyToken, OnlyPositional, tokens}
use Rattle.cli_args.specs.CommandLine.{positionals}
use Rattle.cli_args.specs.CommandLine.{Command, Rewrite, Map, Run, RunSymbols, Record, Repair, Lookup, Sample, Verify}
use Rattle.cli_args.specs.CommandLine.{Frames}
use Rattle.cli_args.specs.declared.command_line.Token.{Token as TokenRead}
use Rattle.cli_args.specs.declared.command_line.Token.TheVariants as token
use Rattle.cli_args.specs.declared.command_line.Tokens.{Tokens}
use Rattle.cli_args.specs.declared.command_line.RunTokens.{RunTokens}
use Rattle.cli_args.specs.declared.command_line.RecordTokens.{RecordTokens}
use Rattle.cli_args.specs.declared.command_line.Command.{Command as CommandRead}
use Rattle.cli_args.specs.declared.command_line.Command.TheVariants as read

abbrev pub token_read : TokenRead → Token
token_read (token.Positional arg) = Positional arg.now
token_read (token.Named name value) = Named name.now (option_map (λ v. v.now) value)

abbrev pub expected : Bool → Expected
expected true = AnyToken
expected false = OnlyPositional

abbrev pub tokens_of : Tokens → List Token
tokens_of t = tokens (expected t.options) (map string_bytes t.args.now)

-- the next token isn't positional: there is none, or it is an option
abbrev pub IsNoPositional : List Token → Type 0
IsNoPositional [] = Unit {0}
IsNoPositional (Positional arg ∷ rest) = ⊥
IsNoPositional (Named name value ∷ rest) = Unit {0}

abbrev pub run_read : RunTokens → RunArgs
run_read a = record { file = a.file.now; args = positionals (tokens_of a.tokens); limit = a.limit }

abbrev pub record_read : RecordTokens → RecordArgs
record_read a = record { run = run_read a.run; out = a.out.now }

abbrev pub command_read : CommandRead → Command
command_read (read.Rewrite a) = Rewrite (names_read a)
command_read (read.Map a) = Map (inputs_read a)
command_read (read.Run a) = Run (run_read a)
command_read (read.RunSymbols a) = RunSymbols (run_read a)
command_read (read.Record a) = Record (record_read a)
command_read (read.Repair a) = Repair (repair_given a)
command_read (read.Lookup a) = Lookup (lookup_given a)
command_read (read.Sample a) = Sample (sample_given a)
command_read (read.Verify a) = Verify (verify_given a)
command_read (read.Frames a) = Frames (lookup_given a)

-- the output and the map of a rewrite have different names, and so do the two files of a sample
abbrev pub NamesDiffer : CommandRead → Type 0
NamesDiffer (read.Rewrite a) = a.out.now ≢ a.map.now
NamesDiffer (read.Map a) = Unit {0}
NamesDiffer (read.Run a) = Unit {0}
NamesDiffer (read.RunSymbols a) = Unit {0}
NamesDiffer (read.Record a) = Unit {0}
NamesDiffer (read.Repair a) = Unit {0}
NamesDiffer (read.Lookup a) = Unit {0}
NamesDiffer (read.Sample a) = a.file.now ≢ a.profile.now
NamesDiffer (read.Verify a) = Unit {0}
NamesDiffer (read.Frames a) = Unit {0}

-- the arguments of a run may be given to a program, and a sample's number is valid
abbrev pub ArgsFit : CommandRead → Type 0
ArgsFit (read.Rewrite a) = Unit {0}
ArgsFit (read.Map a) = Unit {0}
ArgsFit (read.Run a) = IsWithinLimits (run_read a).args
ArgsFit (read.RunSymbols a) = IsWithinLimits (run_read a).args
ArgsFit (read.Record a) = IsWithinLimits (run_read a.run).args
ArgsFit (read.Repair a) = Unit {0}
ArgsFit (read.Lookup a) = Unit {0}
ArgsFit (read.Sample a) = IsSampleNumber a.number
ArgsFit (read.Verify a) = Unit {0}
ArgsFit (read.Frames a) = Unit {0}
