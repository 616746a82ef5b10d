use Rattle.std.proofs.Common.{ℕ, List, ◌==◌, not}
use Rattle.std.specs.Bool.{beq}
use Rattle.line_rewrite.specs.declared.registers.Registers.{Registers}
use Rattle.line_rewrite.specs.declared.operation.LineOp.TheVariants.{SetFile, SetColumn, NegateStmt, SetBasicBlock, SetPrologueEnd}
use Rattle.line_rewrite.specs.declared.operation.LineOp.TheVariants.{SetEpilogueBegin, SetIsa, SetDiscriminator}
use Rattle.line_rewrite.specs.Written.{unless, step_ops}
use Rattle.line_rewrite.proofs.RowOps.{spelled_more, first2, first3, first4, first5, first6, first7, first8}
use Rattle.line_rewrite.proofs.row_writer.put_row.Goals as goal

pub returns-clause-written : goal.returns-clause-written
returns-clause-written c =
    let from : Registers = c.args.from in
    let row : Registers = c.args.row in
    let out : List ℕ = c.args.out.now.items in
    spelled_more out c.put_unless-7.new.out.items c.put_step.new.out.items (first8 from row) (step_ops from row)
    (spelled_more out c.put_unless-6.new.out.items c.put_unless-7.new.out.items (first7 from row)
    (unless (row.discriminator == 0) (SetDiscriminator row.discriminator))
    (spelled_more out c.put_unless-5.new.out.items c.put_unless-6.new.out.items (first6 from row)
    (unless (from.isa == row.isa) (SetIsa row.isa))
    (spelled_more out c.put_unless-4.new.out.items c.put_unless-5.new.out.items (first5 from row)
    (unless (not row.epilogue_begin) SetEpilogueBegin)
    (spelled_more out c.put_unless-3.new.out.items c.put_unless-4.new.out.items (first4 from row)
    (unless (not row.prologue_end) SetPrologueEnd)
    (spelled_more out c.put_stmt_change.new.out.items c.put_unless-3.new.out.items (first3 from row)
    (unless (not row.basic_block) SetBasicBlock)
    (spelled_more out c.put_unless-2.new.out.items c.put_stmt_change.new.out.items (first2 from row)
    (unless (beq from.is_stmt row.is_stmt) NegateStmt)
    (spelled_more out c.put_unless.new.out.items c.put_unless-2.new.out.items (unless (from.file == row.file) (SetFile row.file))
    (unless (from.column == row.column) (SetColumn row.column))
    c.in_ok-put_unless.ensures c.in_ok-put_unless-2.ensures) c.in_ok-put_stmt_change.ensures) c.in_ok-put_unless-3.ensures)
    c.in_ok-put_unless-4.ensures) c.in_ok-put_unless-5.ensures) c.in_ok-put_unless-6.ensures) c.in_ok-put_unless-7.ensures)
    c.in_ok-put_step.ensures
