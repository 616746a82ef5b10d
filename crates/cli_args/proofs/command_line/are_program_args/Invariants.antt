use Rattle.std.proofs.Common.{◌≡◌}
use Rattle.cli_args.specs.CommandLine.{are_program_args, positionals}
use Rattle.cli_args.specs.CommandLineViews.{tokens_of}
use Rattle.cli_args.proofs.RunArguments.{fits}
use Rattle.cli_args.proofs.command_line.are_program_args.Given as goal

abbrev pub invariant-loop-token : goal.invariant-loop-token
invariant-loop-token l =
    (goal.iterator-loop-token).can_next l.token-iterator ×
    (goal.iterator-loop-token).is_finite l.token-iterator ×
    (are_program_args (positionals (tokens_of l.fn.tokens))
    ≡ fits l.args_left l.bytes_left (positionals (tokens_of l.token-iterator)))
