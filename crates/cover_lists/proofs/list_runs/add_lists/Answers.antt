use Rattle.std.proofs.Common.{◌∙◌, ℕ, List, sym, subst, take}
use Rattle.std.specs.Prelude.{slice_index_or}
use Rattle.std.proofs.lemmas.List.{take_more}
use Rattle.answer_runs.specs.AnswerRuns.{IsWithin, AreLongest}
use Rattle.cover_lists.specs.ListRuns.{AreExtended}
use Rattle.cover_lists.proofs.ListRunFacts.{not_before, not_extended, extended_more}
use Rattle.cover_lists.proofs.list_runs.add_lists.Goals as goal

pub add_list-requires-clause-count : goal.add_list-requires-clause-count
add_list-requires-clause-count c = c.loop-number.invariant.count ∙ c.requires.count

pub add_list-requires-clause-before : goal.add_list-requires-clause-before
add_list-requires-clause-before c =
    let h : ℕ = slice_index_or c.args.numbers.now c.loop-number.number-index 0 in
    let fresh = not_before c.args.numbers.now c.loop-number.number-index 0 c.requires.candidates.rising c.loop-number-test.true in
    subst (λ l. IsWithin 0 l c.args.start)
    (sym (not_extended _ _ _ _ _ _ _ h fresh c.loop-number.invariant)) (c.requires.before h)

pub add_list-requires-clause-longest : goal.add_list-requires-clause-longest
add_list-requires-clause-longest c =
    let h : ℕ = slice_index_or c.args.numbers.now c.loop-number.number-index 0 in
    let fresh = not_before c.args.numbers.now c.loop-number.number-index 0 c.requires.candidates.rising c.loop-number-test.true in
    subst (λ l. AreLongest l)
    (sym (not_extended _ _ _ _ _ _ _ h fresh c.loop-number.invariant)) (c.requires.longest h)

pub loop-number-preserved : goal.loop-number-preserved
loop-number-preserved c =
    let ns : List ℕ = take c.loop-number.number-index c.args.numbers.now in
    let h : ℕ = slice_index_or c.args.numbers.now c.loop-number.number-index 0 in
    let fresh = not_before c.args.numbers.now c.loop-number.number-index 0 c.requires.candidates.rising c.loop-number-test.true in
    subst (λ l. AreExtended c.args.lists.now c.args.a l c.args.start c.args.len c.args.runs.now.items c.add_list.new.runs.items)
    (sym (take_more c.args.numbers.now c.loop-number.number-index 0 c.loop-number-test.true))
    (extended_more c.args.lists.now c.args.a ns c.args.start c.args.len c.args.runs.now.items c.loop-number.runs.items h
    c.add_list.new.runs.items fresh
    c.loop-number.invariant c.in_ok-add_list.ensures.count c.in_ok-add_list.ensures.others c.in_ok-add_list.ensures.more)
