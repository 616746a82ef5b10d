use Rattle.std.proofs.Common.{◌≡◌, ◌≢◌, Some, length, refl, rules, sym}
use Rattle.std.specs.Prelude.{slice_get}
use Rattle.std.proofs.lemmas.Bool.{ltb-true}
use Rattle.std.proofs.lemmas.Option.{slice_get_read}
use Rattle.frame_rewrite.proofs.RuleSearch.{rule-missed}
use Rattle.frame_rewrite.proofs.spelling.rule_in.Goals as goal

pub returns-else-other-register : goal.returns-else-other-register
returns-else-other-register c =
    let at : slice_get c.args.rules.now c.count_below.result ≡ Some c.in_ok-other.field-0.now =
    slice_get_read c.args.rules.now (length c.args.rules.now) c.count_below.result c.in_ok-other.field-0.now refl
    (ltb-true c.count_below.result (length c.args.rules.now) (sym c.in_ok-other.ensures.lookup.0)) c.in_ok-other.ensures.lookup.1 in
    let other : c.in_ok-other.field-0.now.0 ≢ c.args.register = search rules in
    rule-missed c.args.register c.count_below.result c.args.rules.now c.in_ok-other.field-0.now c.count_below.ensures.above
    c.count_below.ensures.rest at other
