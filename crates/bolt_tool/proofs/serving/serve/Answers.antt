use Rattle.std.proofs.Common.{◌∙◌}
use Rattle.bolt_tool.proofs.serving.serve.Goals as goal

pub returns : goal.returns
returns g c = record {
  answer = c.tool-status.result;
  code_is = c.from.ensures ∙ c.number.ensures;
  serves = c.tool-status.ensures.serves;
  input_kept = c.tool-status.ensures.input_kept;
}
