use Rattle.std.proofs.Common.{◌≡◌, ◌∙◌, sym, ap, subst, false, true, Some, FitsSigned, rules, arith, slice_index_or}
use Rattle.std.specs.Int.{w128}
use Rattle.std.specs.List.{Contains}
use Rattle.std.proofs.lemmas.Int.{to_z-of_z}
use Rattle.std.proofs.lemmas.List.{get_or_default}
use Rattle.rb_bytes.proofs.Options.{same_some, not_found}
use Rattle.rv_reloc.proofs.absolute.absolute_target.Goals as goal

pub returns-then-has-clause-there : goal.returns-then-has-clause-there
returns-then-has-clause-there c =
    let fits : FitsSigned w128 c.label.result = search rules in
    record {
      counts = c.requires.counts;
      target_is = sym (c.in_ok-target.ensures.there ∙ to_z-of_z w128 _ fits ∙ c.label.ensures.label);
      is_code = c.requires.starts.only c.in_ok-target.target (c.has.ensures.0 c.if-has.true);
    }

pub returns-then-has-clause-only : goal.returns-then-has-clause-only
returns-then-has-clause-only c = λ target to.
    let fits : FitsSigned w128 c.label.result = search rules in
    let (k, within, there) = c.requires.starts.each target to.is_code in
    let low = c.list-list.ensures.low k in
    let at : slice_index_or c.args.starts.now k 0 ≡ target = get_or_default c.args.starts.now k 0 target within ∙ there in
    ap Some (same_some _ _ _ c.in_ok-target.was
    (c.natural.ensures.each target (omega arith) (sym (to_z-of_z w128 _ fits ∙ c.label.ensures.label ∙ to.target_is))))

pub returns-else-has-clause-only : goal.returns-else-has-clause-only
returns-else-has-clause-only c = λ target to.
    let fits : FitsSigned w128 c.label.result = search rules in
    let (k, within, there) = c.requires.starts.each target to.is_code in
    let low = c.list-list.ensures.low k in
    let at : slice_index_or c.args.starts.now k 0 ≡ target = get_or_default c.args.starts.now k 0 target within ∙ there in
    let same = same_some _ _ _ c.in_ok-target.was
    (c.natural.ensures.each target (omega arith) (sym (to_z-of_z w128 _ fits ∙ c.label.ensures.label ∙ to.target_is))) in
    let e : false ≡ true = sym c.if-has.false
    ∙ c.has.ensures.1 (subst (Contains c.args.starts.now) (sym same) (k, within, there)) in
    absurd (cc)

pub returns-in_err-target-clause-only : goal.returns-in_err-target-clause-only
returns-in_err-target-clause-only c = λ target to.
    let fits : FitsSigned w128 c.label.result = search rules in
    let (k, within, there) = c.requires.starts.each target to.is_code in
    let low = c.list-list.ensures.low k in
    let at : slice_index_or c.args.starts.now k 0 ≡ target = get_or_default c.args.starts.now k 0 target within ∙ there in
    absurd (not_found _ _ c.in_err-target.was
    (c.natural.ensures.each target (omega arith) (sym (to_z-of_z w128 _ fits ∙ c.label.ensures.label ∙ to.target_is))))
