use Rattle.std.proofs.Common.{rules, ◌∙◌, sym, ap, None}
use Rattle.std.specs.List.{position_from}
use Rattle.std.specs.Option.{option_or}
use Rattle.answer_runs.specs.AddressRanges.{holds_address}
use Rattle.answer_runs.specs.Pieces.{under}
use Rattle.std.proofs.lemmas.Result.{IfOk-weaker}
use Rattle.answer_runs.proofs.MergedPieces.{no_ranges, position-append}
use Rattle.answer_runs.proofs.pieces.+pieces_of.Goals as goal

pub returns-then-is_empty-clause-found : goal.returns-then-is_empty-clause-found
returns-then-is_empty-clause-found t c = λ a.
    no_ranges (holds_address a) c.new.result.items c.args.ranges.now c.args.number a c.new.ensures.items (search rules)

pub returns-clause-found : goal.returns-clause-found
returns-clause-found t c = IfOk-weaker c.merged.result _ _ (λ pieces h a.
    let front = ap (λ l. under None l a) c.deref.ensures.value ∙ c.in_ok-front_pieces.ensures.found a in
    let back = ap (λ l. under None l a) c.deref-2.ensures.value ∙ c.in_ok-back_pieces.ensures.found a in
    h a ∙ ap (λ o. option_or o (under None c.deref-2.result.now a)) front
    ∙ ap (option_or (position_from (holds_address a) c.args.number c.split_at.result.0.now)) back
    ∙ sym (ap (position_from (holds_address a) c.args.number) c.split_at.ensures.by_index.0
    ∙ position-append (holds_address a) c.args.number c.split_at.result.0.now c.split_at.result.1.now)) c.merged.ensures.found
