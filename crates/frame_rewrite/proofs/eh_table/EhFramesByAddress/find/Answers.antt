use Rattle.std.proofs.Common.{rules, ◌∙◌, refl, ap}
use Rattle.cfi_rows.specs.ReadFrames.{read_as}
use Rattle.frame_rewrite.specs.FrameAnswers.{is_marked_by}
use Rattle.frame_rewrite.specs.FrameLookups.{answer_by, is_marked_as}
use Rattle.frame_rewrite.proofs.ToldEntries.{answered-alike, told-answer}
use Rattle.frame_rewrite.proofs.eh_table.EhFramesByAddress.find.Goals as goal

pub returns-in_default-clause-last : goal.returns-in_default-clause-last
returns-in_default-clause-last c = λ x from to.
    let t = c.args.self.now in
    answered-alike (is_marked_by t.cuts.items) (is_marked_as t.cuts.items) (read_as t.frames).list x c.args.a (λ f. refl)
    (c.in_ok-told.ensures.last x from to)

pub returns-clause-said : goal.returns-clause-said
returns-clause-said c =
    let t = c.args.self.now in
    let told = c.in-Some.told in
    told-answer (is_marked_by t.cuts.items) (is_marked_as t.cuts.items) (read_as t.frames).list c.args.a told.fde told.row c.answer.result
    (λ f. refl) (search rules)
    (c.answer.ensures ∙ ap (answer_by told.fde told.row) (c.is_marked-marked.ensures
    ∙ ap (λ xs. is_marked_as xs told.fde) c.deref.ensures.value))

pub returns-clause-last : goal.returns-clause-last
returns-clause-last c = λ x from to.
    let t = c.args.self.now in
    answered-alike (is_marked_by t.cuts.items) (is_marked_as t.cuts.items) (read_as t.frames).list x c.args.a (λ f. refl)
    (c.in_ok-told.ensures.last x from to)
