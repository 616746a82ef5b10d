use Rattle.std.proofs.Common.{◌≡◌, codes}
use Rattle.cli_args.specs.CommandLine.{limit_of, values_of, steps_name}
use Rattle.cli_args.specs.CommandLineViews.{tokens_of}
use Rattle.cli_args.proofs.StepLimit.{limit_after}
use Rattle.cli_args.proofs.command_line.limit.Given as goal

abbrev pub invariant-loop-token : goal.invariant-loop-token
invariant-loop-token l =
    (goal.iterator-loop-token).can_next l.token-iterator ×
    (goal.iterator-loop-token).is_finite l.token-iterator ×
    (limit_of (values_of steps_name (tokens_of l.fn.tokens))
    ≡ limit_after l.limit (values_of (codes "--steps") (tokens_of l.token-iterator)))
