use Rattle.std.proofs.Common.{lit<}
use Rattle.cli_args.proofs.OptionTokens.{option_of-split, option_of-alone}
use Rattle.cli_args.proofs.command_line.option.Goals as goal

pub returns-in-Some : goal.returns-in-Some
returns-in-Some c =
    let parts = c.in-Some.ensures.byte (lit< tt) (λ w o h. h) in
    option_of-split c.args.arg.now c.in-Some.name.now c.in-Some.value.now parts.0 parts.1 parts.2

pub returns-in-None : goal.returns-in-None
returns-in-None c = option_of-alone c.args.arg.now (c.in-None.ensures.byte (lit< tt) (λ w o h. h))
