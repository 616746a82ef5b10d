use Rattle.std.proofs.Common.{subst}
use Rattle.rv_code.specs.layout.ProgramCode.{program_code}
use Rattle.map_check.specs.FirstFalse.{Claim, IsVerdict, rewrite_with}
use Rattle.map_check.specs.MapReading.{IsReadAs}
use Rattle.map_check.specs.declared.text.MapRead.{MapRead}
use Rattle.map_check.specs.internal.Verdicts.{IsVerdictIn}
use Rattle.map_check.proofs.Judgements.{bad_line_first, verdict_of, weaker_ok}
use Rattle.map_check.proofs.ReadFiles.{ready}
use Rattle.map_check.proofs.checking.check.Goals as goal

pub check_spans-requires-clause-ready : goal.check_spans-requires-clause-ready
check_spans-requires-clause-ready c = ready c.args.input.now _ c.args.output.now c.requires.input c.requires.code c.requires.output

pub returns-in-BadLine : goal.returns-in-BadLine
returns-in-BadLine c =
    let claim : Claim = record {
      input = c.args.input.now;
      code = program_code c.args.funcs.now c.args.refs.now.roles.items c.args.refs.now.cells.items c.args.input.now.entry;
      tight = c.args.tight;
      output = c.args.output.now;
      text = c.args.map.now;
    } in
    bad_line_first claim c.in-BadLine.number
    (subst (λ (read : MapRead). IsReadAs c.args.map.now read) c.in-BadLine.is c.in_ok-number.ensures)

pub returns-in-Spans : goal.returns-in-Spans
returns-in-Spans c =
    let claim : Claim = record {
      input = c.args.input.now;
      code = program_code c.args.funcs.now c.args.refs.now.roles.items c.args.refs.now.cells.items c.args.input.now.entry;
      tight = c.args.tight;
      output = c.args.output.now;
      text = c.args.map.now;
    } in
    let lines = subst (λ (read : MapRead). IsReadAs c.args.map.now read) c.in-Spans.is c.in_ok-number.ensures in
    weaker_ok (IsVerdictIn (rewrite_with claim c.in-Spans.spans.items)) (IsVerdict claim) c.check_spans.result
    (verdict_of claim c.in-Spans.spans.items lines) c.check_spans.ensures
