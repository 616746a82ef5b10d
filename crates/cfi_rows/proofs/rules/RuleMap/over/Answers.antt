use Rattle.std.proofs.Common.{◌≡◌, ◌∙◌, [], sym, ap, rules, length}
use Rattle.std.proofs.lemmas.List.{nil_from_length}
use Rattle.cfi_rows.specs.RuleChanges.{over}
use Rattle.cfi_rows.proofs.OverRules.{over-none}
use Rattle.cfi_rows.proofs.rules.RuleMap.over.Goals as goal

pub returns-then-len-eq0-2 : goal.returns-then-len-eq0-2
returns-then-len-eq0-2 c =
    let empty : length c.args.others.now ≡ 0 = search rules in
    let none : c.args.others.now ≡ [] = nil_from_length c.args.others.now empty in
    sym (ap (λ rs. over rs c.args.self) none ∙ over-none c.args.self c.len.ensures.ascends)
