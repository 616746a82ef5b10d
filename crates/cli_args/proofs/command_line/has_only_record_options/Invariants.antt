use Rattle.std.proofs.Common.{◌≡◌}
use Rattle.std.specs.List.{list_all}
use Rattle.cli_args.specs.CommandLine.{is_record_token}
use Rattle.cli_args.specs.CommandLineViews.{tokens_of}
use Rattle.cli_args.proofs.command_line.has_only_record_options.Given as goal

abbrev pub invariant-loop-token : goal.invariant-loop-token
invariant-loop-token l =
    (goal.iterator-loop-token).can_next l.token-iterator ×
    (goal.iterator-loop-token).is_finite l.token-iterator ×
    (list_all is_record_token (tokens_of l.fn.tokens) ≡ list_all is_record_token (tokens_of l.token-iterator))
