use Rattle.std.proofs.Common.{◌∙◌, ℕ, ap, take, drop, ◌-◌}
use Rattle.std.proofs.lemmas.Result.{IfOk-weaker}
use Rattle.dw_lists.proofs.RangeLists.{list_is}
use Rattle.dw_lists.proofs.list_section.list_at.Goals as goal

pub returns : goal.returns
returns c = λ addr u r. IfOk-weaker c.read_list.result _ _ (λ places read.
    read ∙ list_is c.args.kind c.args.section.bytes.now addr c.bytes_between-bytes.result.now u c.args.unit.now c.args.at r
    (c.bytes_between-bytes.ensures ∙ ap (λ (n : ℕ). take (n - c.args.at) (drop c.args.at c.args.section.bytes.now)) c.list_end-end.ensures))
    c.read_list.ensures
