use Rattle.std.proofs.Common.{◌≡◌, ◌++◌, map, string_bytes}
use Rattle.cli_args.specs.CommandLine.{positionals}
use Rattle.cli_args.specs.CommandLineViews.{tokens_of}
use Rattle.cli_args.proofs.command_line.program_args.Given as goal

abbrev pub invariant-loop-token : goal.invariant-loop-token
invariant-loop-token l =
    (goal.iterator-loop-token).can_next l.token-iterator ×
    (goal.iterator-loop-token).is_finite l.token-iterator ×
    (map string_bytes l.list.items ++ positionals (tokens_of l.token-iterator)
    ≡ positionals (tokens_of l.fn.args.tokens))
