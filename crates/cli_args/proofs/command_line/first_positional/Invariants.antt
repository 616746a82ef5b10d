use Rattle.std.proofs.Common.{◌≡◌}
use Rattle.cli_args.specs.CommandLine.{positionals}
use Rattle.cli_args.specs.CommandLineViews.{tokens_of}
use Rattle.cli_args.proofs.command_line.first_positional.Given as goal

abbrev pub invariant-loop-token : goal.invariant-loop-token
invariant-loop-token l =
    (goal.iterator-loop-token).can_next l.tokens ×
    (goal.iterator-loop-token).is_finite l.tokens ×
    (positionals (tokens_of l.initial.tokens) ≡ positionals (tokens_of l.tokens))
