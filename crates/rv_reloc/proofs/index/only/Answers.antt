use Rattle.std.proofs.Common.{ap, Some}
use Rattle.std.proofs.lemmas.List.{get_or_default}
use Rattle.rv_reloc.proofs.Ordered.{only-none, only-two, only-one, only-same}
use Rattle.rv_reloc.proofs.index.only.Goals as goal

pub returns-then-not-has_key_at-clause-only : goal.returns-then-not-has_key_at-clause-only
returns-then-not-has_key_at-clause-only c = λ x is.
    absurd (only-none _ _ _ _ x c.requires c.count_near-from.ensures
    (λ here. let yes = c.has_key_at.ensures.1 here in let no = c.if-not-has_key_at.true in absurd (cc)) is)

pub returns-then-has_key_at-clause-only : goal.returns-then-has_key_at-clause-only
returns-then-has_key_at-clause-only c = λ x is.
    absurd (only-two c.args.place c.args.at c.args.records.now c.count_near-from.result x
    (c.has_key_at.ensures.0 c.if-not-has_key_at.false) (c.has_key_at-2.ensures.0 c.if-has_key_at.true) is)

pub returns-clause-is : goal.returns-clause-is
returns-clause-is c =
    let one = c.has_key_at.ensures.0 c.if-not-has_key_at.false in
    only-one _ _ _ _ _ c.requires c.count_near-from.ensures one
    (λ here. let yes = c.has_key_at-2.ensures.1 here in let no = c.if-has_key_at.false in absurd (cc))
    (get_or_default _ _ _ _ one.0)

pub returns-clause-only : goal.returns-clause-only
returns-clause-only c = λ x is.
    let one = c.has_key_at.ensures.0 c.if-not-has_key_at.false in
    ap Some (only-same _ _ _ _ _ x c.requires c.count_near-from.ensures
    (λ here. let yes = c.has_key_at-2.ensures.1 here in let no = c.if-has_key_at.false in absurd (cc))
    (get_or_default _ _ _ _ one.0) is)
