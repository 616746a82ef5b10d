use Rattle.std.proofs.Common.{◌≡◌, ◌++◌, Option, sym, subst}
use Rattle.std.proofs.lemmas.Result.{on_ok_weaker}
use Rattle.line_rewrite.specs.declared.run_writer.Going.{Going}
use Rattle.line_rewrite.specs.Written.{moved, all_spelled, written_coding}
use Rattle.line_rewrite.specs.WrittenPrograms.{run_ops}
use Rattle.line_rewrite.proofs.RunSteps.{written_apart}
use Rattle.line_rewrite.proofs.run_writer.put_run.Goals as goal

pub returns-in_ok-close-in-Some-clause-written : goal.returns-in_ok-close-in-Some-clause-written
returns-in_ok-close-in-Some-clause-written c =
    let coding = written_coding c.args.default_is_stmt in
    let rows = moved c.args.address c.args.rows.now in
    let grown : Option Going → Type 0 =
    λ o. c.open.new.out.items ≡ c.args.out.now.items ++ all_spelled (run_ops coding o c.args.address rows) in
    on_ok_weaker c.open.result (λ written. subst grown (sym c.in-Some.is)
    (written_apart coding c.in-Some.going c.args.address rows c.args.out.now.items c.close.new.out.items c.open.new.out.items
    c.if-going-address.false
    c.in_ok-close-in-Some.ensures written)) c.open.ensures.written
