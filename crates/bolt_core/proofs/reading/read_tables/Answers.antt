use Rattle.std.proofs.Common.{rules, ℕ}
use Rattle.std.proofs.lemmas.Result.{err_from_is_err_and}
use Rattle.frame_rewrite.specs.Faults.{IsRegisteredFrames}
use Rattle.bolt_core.proofs.TableRefusals.{tables_free, tables_refused}
use Rattle.bolt_core.proofs.reading.read_tables.Goals as goal

pub returns-in_err-tables-clause-fault : goal.returns-in_err-tables-clause-fault
returns-in_err-tables-clause-fault c =
    let unregistered : (place : ℕ) → IsRegisteredFrames c.args.elf.now place → ⊥ = search rules in
    let p = err_from_is_err_and c.from_residual.result c.from_residual.ensures.1 in
    rw (p.1, p.2) (tables_refused c.args.elf.now unregistered c.in_err-tables.field-0.0 c.in_err-tables.ensures.fault)

pub returns-clause-free : goal.returns-clause-free
returns-clause-free c =
    let unregistered : (place : ℕ) → IsRegisteredFrames c.args.elf.now place → ⊥ = search rules in
    tables_free c.args.elf.now unregistered c.in_ok-tables.ensures.sound
