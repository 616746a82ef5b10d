use Rattle.std.proofs.Common.{sym, ◌-◌, arith}
use Rattle.code_starts.proofs.LoadedNumbers.{number-begin, number-more, number-no_rest, number-no_first, power-more, power-seven}
use Rattle.code_starts.proofs.loaded.+number_by_bytes.Goals as goal

pub returns-then-size-eq0-clause-value : goal.returns-then-size-eq0-clause-value
returns-then-size-eq0-clause-value t c = number-begin c.args.elf.now c.args.address c.args.size c.if-size-eq0.true

pub overflow_mul-result : goal.overflow_mul-result
overflow_mul-result t c =
    let below = power-seven c.in_ok-rest.rest (c.args.size - 1) (omega arith)
    c.in_ok-rest.ensures.below in
    omega arith

pub overflow_add-result : goal.overflow_add-result
overflow_add-result t c =
    let below = power-seven c.in_ok-rest.rest (c.args.size - 1) (omega arith)
    c.in_ok-rest.ensures.below in
    omega arith

pub returns-clause-value : goal.returns-clause-value
returns-clause-value t c =
    number-more c.args.elf.now c.args.address c.args.size (c.args.size - 1) _ _ (omega arith) (sym c.in_ok-first.ensures.value)
    (sym c.in_ok-rest.ensures.value)

pub returns-clause-below : goal.returns-clause-below
returns-clause-below t c =
    power-more c.in_ok-first.first c.in_ok-rest.rest c.args.size (c.args.size - 1) (omega arith)
    (omega arith) c.in_ok-rest.ensures.below

pub returns-in_err-rest-clause-value : goal.returns-in_err-rest-clause-value
returns-in_err-rest-clause-value t c =
    rw c.from_residual-in_err-rest.ensures (number-no_rest c.args.elf.now c.args.address c.args.size (c.args.size - 1) (omega arith)
    (sym c.in_err-rest.ensures.value))

pub returns-in_err-first-clause-value : goal.returns-in_err-first-clause-value
returns-in_err-first-clause-value t c =
    rw c.from_residual.ensures (number-no_first c.args.elf.now c.args.address c.args.size (c.args.size - 1) (omega arith)
    (sym c.in_err-first.ensures.value))
