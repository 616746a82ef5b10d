use Rattle.std.proofs.Common.{◌∙◌, arith}
use Rattle.rv_memory.proofs.CodeKept.{code_half_is, code_runs_at, code_half_next, code_runs_next}
use Rattle.rv_memory.proofs.memory.Memory.code_halves.Goals as goal

pub returns-clause-first : goal.returns-clause-first
returns-clause-first c =
    let within = c.has.ensures.within.0 c.if-not-has.false in
    let room = c.has.ensures.room c.if-not-has.false in
    let low = within.0 in
    let high = within.1 in
    c.u16_at.ensures ∙ code_half_is c.args.self.now c.args.address low (omega arith) (omega arith)

pub returns-clause-second : goal.returns-clause-second
returns-clause-second c =
    let within = c.has.ensures.within.0 c.if-not-has.false in
    let room = c.has.ensures.room c.if-not-has.false in
    let low = within.0 in
    let high = within.1 in
    c.u16_at-2.ensures ∙ code_half_next c.args.self.now c.args.address low high (omega arith)

pub returns-clause-first_runs : goal.returns-clause-first_runs
returns-clause-first_runs c =
    let within = c.has.ensures.within.0 c.if-not-has.false in
    let room = c.has.ensures.room c.if-not-has.false in
    let low = within.0 in
    let high = within.1 in
    code_runs_at c.args.self.now c.args.address 2 low (omega arith) (omega arith)

pub returns-clause-second_runs : goal.returns-clause-second_runs
returns-clause-second_runs c =
    let within = c.has.ensures.within.0 c.if-not-has.false in
    let room = c.has.ensures.room c.if-not-has.false in
    let low = within.0 in
    let high = within.1 in
    code_runs_next c.args.self.now c.args.address low high (omega arith)
