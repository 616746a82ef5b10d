use Rattle.std.proofs.Common.{rules}
use Rattle.program.proofs.CodeLimits.{at_functions, at_size, within}
use Rattle.program.proofs.limits.check_code.Goals as goal

pub returns-then-has_too_much_code-clause-refused : goal.returns-then-has_too_much_code-clause-refused
returns-then-has_too_much_code-clause-refused c =
    at_size c.args.elf.now.file.now c.args.funcs.now _ (c.has_too_much_code.ensures.0 c.if-has_too_much_code.true)
    c.at.ensures

pub returns-then-funcs-gt-FUNCTION_LIMIT-clause-refused : goal.returns-then-funcs-gt-FUNCTION_LIMIT-clause-refused
returns-then-funcs-gt-FUNCTION_LIMIT-clause-refused c =
    at_functions c.args.elf.now.file.now c.args.funcs.now
    (λ much. let some = c.has_too_much_code.ensures.1 much in absurd (cc)) _ (search rules)
    c.at-then-funcs-gt-FUNCTION_LIMIT.ensures

pub returns-clause-within : goal.returns-clause-within
returns-clause-within c =
    within c.args.elf.now.file.now c.args.funcs.now
    (λ much. let some = c.has_too_much_code.ensures.1 much in absurd (cc)) (search rules)
