use Rattle.std.proofs.Common.{◌≡◌, codes}
use Rattle.cli_args.specs.CommandLine.{symbols_of, values_of, symbols_name}
use Rattle.cli_args.specs.CommandLineViews.{tokens_of}
use Rattle.cli_args.proofs.RunArguments.{symbols_after}
use Rattle.cli_args.proofs.command_line.symbols.Given as goal

abbrev pub invariant-loop-token : goal.invariant-loop-token
invariant-loop-token l =
    (goal.iterator-loop-token).can_next l.token-iterator ×
    (goal.iterator-loop-token).is_finite l.token-iterator ×
    (symbols_of (values_of symbols_name (tokens_of l.fn.tokens))
    ≡ symbols_after l.symbols (values_of (codes "--symbols") (tokens_of l.token-iterator)))
