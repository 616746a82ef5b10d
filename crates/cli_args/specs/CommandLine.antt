-- Which command the arguments are.
use Rattle.std.specs.Prelude.{ℕ, ◌&&◌, ◌||◌, ◌==◌, nat_eq, nat_lt, nat_le, not, if◌then◌else◌, Bool, true, false, List}
use Rattle.std.specs.Prelude.{[], ◌∷◌, length, map, sum_by, option_and_then, Option, Some, None, codes}
use Rattle.std.specs.List.{starts_with, list_all, list_any, before_first, after_first}
use Rattle.std.specs.Option.{option_map}
use Rattle.std.specs.Str.{bytes_eq, byte}
use Rattle.rb_bytes.specs.Text.{decimal_number}
use Rattle.rv_memory.specs.Limits.{most_args, most_arg_bytes}
use Rattle.cli_args.specs.Args.{InputNames, LookupArgs, RecordArgs, RepairNames, RewriteNames, RunArgs, SampleArgs}
use Rattle.cli_args.specs.Args.{VerifyNames}
use Rattle.cli_args.specs.Words.{address_of, sample_number_of}

-- an argument that begins with a hyphen, except the argument `-`
abbrev pub is_option : List ℕ → Bool
is_option arg = nat_lt 1 (length arg) && starts_with nat_eq arg (codes "-")

-- the option for the limit on the steps of a run
abbrev pub steps_name : List ℕ
steps_name = codes "--steps"

-- the option for a run on the symbol machine, which has no value
abbrev pub symbols_name : List ℕ
symbols_name = codes "--symbols"

-- an option whose value is the next argument, of any form
abbrev pub takes_value : List ℕ → Bool
takes_value arg = bytes_eq arg steps_name

-- A token of a command: an argument that isn't an option, or an option. An option's value is the next argument, or
-- follows the first `=` in its own argument, as in `--name=value`.
pub data Token : Type 0 where
  Positional : List ℕ → Token
  Named : List ℕ → Option (List ℕ) → Token

abbrev pub is_equals : ℕ → Bool
is_equals character = character == byte "="

-- the option in `arg`, without the next argument
abbrev pub option_of : List ℕ → Token
option_of arg =
    if list_any is_equals arg
    then Named (before_first is_equals arg) (Some (after_first is_equals arg))
    else Named arg None

-- what kind of argument may come next
pub data Expected : Type 0 where
  AnyToken : Expected
  ValueOf : List ℕ → Expected
  OnlyPositional : Expected

-- The tokens of arguments. The first `--` that isn't an option's value is no token, and all arguments after it are
-- positional.
abbrev pub tokens : Expected → List (List ℕ) → List Token
tokens AnyToken [] = []
tokens (ValueOf name) [] = Named name None ∷ []
tokens OnlyPositional [] = []
tokens AnyToken (arg ∷ args) =
    if bytes_eq arg (codes "--")
    then tokens OnlyPositional args
    else if takes_value arg
    then tokens (ValueOf arg) args
    else ((if is_option arg then option_of arg else Positional arg) ∷ tokens AnyToken args)
tokens (ValueOf name) (arg ∷ args) = Named name (Some arg) ∷ tokens AnyToken args
tokens OnlyPositional (arg ∷ args) = Positional arg ∷ tokens OnlyPositional args

-- the positional arguments
abbrev pub positionals : List Token → List (List ℕ)
positionals [] = []
positionals (Positional arg ∷ rest) = arg ∷ positionals rest
positionals (Named name value ∷ rest) = positionals rest

-- the values of all occurrences of the option with this name
abbrev pub values_of : List ℕ → List Token → List (Option (List ℕ))
values_of name [] = []
values_of name (Positional arg ∷ rest) = values_of name rest
values_of name (Named other value ∷ rest) =
    if bytes_eq other name then value ∷ values_of name rest else values_of name rest

-- `IN PROFILE OUT MAP`, with different OUT and MAP
abbrev pub rewrite_names_of : List Token → Option RewriteNames
rewrite_names_of (Positional file ∷ Positional profile ∷ Positional out ∷ Positional map ∷ []) =
    if bytes_eq out map
    then None
    else Some (record { inputs = record { file = file; profile = profile }; out = out; map = map })
rewrite_names_of _ = None

-- `IN PROFILE`
abbrev pub map_of : List Token → Option InputNames
map_of (Positional file ∷ Positional profile ∷ []) = Some (record { file = file; profile = profile })
map_of _ = None

-- `IN PROFILE OUT`, all different
abbrev pub repair_of : List Token → Option RepairNames
repair_of (Positional file ∷ Positional profile ∷ Positional out ∷ []) =
    if bytes_eq file profile || (bytes_eq file out || bytes_eq profile out)
    then None
    else Some (record { inputs = record { file = file; profile = profile }; out = out })
repair_of _ = None

-- `FILE ADDR`, of `lookup` and of `frames`
abbrev pub lookup_of : List Token → Option LookupArgs
lookup_of (Positional file ∷ Positional word ∷ []) =
    option_map (λ address. record { file = file; address = address }) (address_of word)
lookup_of _ = None

-- `N OUT PROFILE`, with different OUT and PROFILE
abbrev pub sample_of : List Token → Option SampleArgs
sample_of (Positional digits ∷ Positional file ∷ Positional profile ∷ []) =
    if bytes_eq file profile
    then None
    else option_map (λ number. record { number = number; file = file; profile = profile }) (sample_number_of digits)
sample_of _ = None

-- `IN OUT MAP`
abbrev pub verify_of : List Token → Option VerifyNames
verify_of (Positional input ∷ Positional output ∷ Positional map ∷ []) =
    Some (record { input = input; output = output; map = map })
verify_of _ = None

-- the limit on the steps of a run: `--steps` may occur once or not at all
abbrev pub limit_of : List (Option (List ℕ)) → Option ℕ
limit_of [] = Some 100000000
limit_of (Some digits ∷ []) = decimal_number digits
limit_of _ = None

-- whether `--symbols` occurs: once, or not at all
abbrev pub symbols_of : List (Option (List ℕ)) → Option Bool
symbols_of [] = Some false
symbols_of (value ∷ []) = Some true
symbols_of _ = None

-- a positional token, or an option of `run`
abbrev pub is_run_token : Token → Bool
is_run_token (Positional arg) = true
is_run_token (Named name None) = bytes_eq name steps_name || bytes_eq name symbols_name
is_run_token (Named name (Some value)) = bytes_eq name steps_name

abbrev pub holds_zero : List ℕ → Bool
holds_zero arg = list_any (λ character. character == 0) arg

-- `args` are few and short enough for a program, and none of their bytes is zero
abbrev pub are_program_args : List (List ℕ) → Bool
are_program_args args =
    nat_le (length args) most_args && nat_le (sum_by (λ arg. length arg) args) most_arg_bytes
    && list_all (λ arg. not (holds_zero arg)) args

-- `FILE [WORDS]`
abbrev pub run_args_of : List (List ℕ) → ℕ → Option RunArgs
run_args_of [] limit = None
run_args_of (file ∷ args) limit =
    if are_program_args args then Some (record { file = file; args = args; limit = limit }) else None

-- a positional token, or the option of `record`
abbrev pub is_record_token : Token → Bool
is_record_token (Positional arg) = true
is_record_token (Named name value) = bytes_eq name steps_name

-- `FILE OUT [WORDS]`, with different FILE and OUT
abbrev pub record_args_of : List (List ℕ) → ℕ → Option RecordArgs
record_args_of (file ∷ out ∷ args) limit =
    if bytes_eq file out
    then None
    else option_map (λ run. record { run = run; out = out }) (run_args_of (file ∷ args) limit)
record_args_of _ limit = None

-- the arguments of `record`, with `--steps` anywhere among them
abbrev pub record_of : List Token → Option RecordArgs
record_of tokens =
    if list_all is_record_token tokens
    then option_and_then (record_args_of (positionals tokens)) (limit_of (values_of steps_name tokens))
    else None

pub data Command : Type 0 where
  Rewrite : RewriteNames → Command
  -- prints the map of a rewrite
  Map : InputNames → Command
  -- runs a file on the byte machine, or on the symbol machine
  Run : RunArgs → Command
  RunSymbols : RunArgs → Command
  -- runs a file on the byte machine, and writes a profile of the run
  Record : RecordArgs → Command
  Repair : RepairNames → Command
  Lookup : LookupArgs → Command
  Sample : SampleArgs → Command
  Verify : VerifyNames → Command
  Frames : LookupArgs → Command

abbrev pub run_command : Bool → RunArgs → Command
run_command false args = Run args
run_command true args = RunSymbols args

-- `FILE [WORDS]`, with `--steps` and `--symbols` anywhere among them
abbrev pub run_of : List Token → Option Command
run_of tokens =
    if list_all is_run_token tokens
    then option_and_then
    (λ limit. option_and_then
    (λ symbols. option_map (run_command symbols) (run_args_of (positionals tokens) limit))
    (symbols_of (values_of symbols_name tokens)))
    (limit_of (values_of steps_name tokens))
    else None

-- The first argument names the command.
abbrev pub command_of : List (List ℕ) → Option Command
command_of [] = None
command_of (name ∷ args) =
    if bytes_eq name (codes "rewrite")
    then option_map Rewrite (rewrite_names_of (tokens AnyToken args))
    else if bytes_eq name (codes "map")
    then option_map Map (map_of (tokens AnyToken args))
    else if bytes_eq name (codes "run")
    then run_of (tokens AnyToken args)
    else if bytes_eq name (codes "record")
    then option_map Record (record_of (tokens AnyToken args))
    else if bytes_eq name (codes "repair")
    then option_map Repair (repair_of (tokens AnyToken args))
    else if bytes_eq name (codes "lookup")
    then option_map Lookup (lookup_of (tokens AnyToken args))
    else if bytes_eq name (codes "sample")
    then option_map Sample (sample_of (tokens AnyToken args))
    else if bytes_eq name (codes "verify")
    then option_map Verify (verify_of (tokens AnyToken args))
    else if bytes_eq name (codes "frames")
    then option_map Frames (lookup_of (tokens AnyToken args))
    else None
