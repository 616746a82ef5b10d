use Rattle.std.proofs.Common.{◌≡◌, ◌∙◌, ◌+◌, ◌^◌, Bool, true, false, List, ap, sym, subst}
use Rattle.answer_runs.specs.declared.run.Run.{Run}
use Rattle.answer_runs.specs.AnswerRuns.{IsWithin}
use Rattle.answer_runs.specs.LastRuns as last
use Rattle.answer_runs.proofs.Grown.{last-room}
use Rattle.cover_lists.proofs.GroupRunFacts.{lengthens, pushes}
use Rattle.cover_lists.proofs.group_runs.stretch.Goals as goal

pub ends_at-requires : goal.ends_at-requires
ends_at-requires c =
    subst (λ (l : List (Run Bool)). IsWithin 0 l (c.args.start + c.args.len)) (sym c.deref.ensures.value) c.requires.within

pub ends_at-requires-2 : goal.ends_at-requires-2
ends_at-requires-2 c =
    let ended : last.ends_at (c.args.start + c.args.len) c.args.runs.now.items ≡ false =
    ap (last.ends_at (c.args.start + c.args.len)) (sym c.deref.ensures.value) ∙ sym c.ends_at.ensures ∙ c.if-ends_at.false in
    subst (λ (l : List (Run Bool)). IsWithin 0 l c.args.start) (sym c.deref-2.ensures.value) (c.requires.ready ended).within

pub lengthen-requires : goal.lengthen-requires
lengthen-requires c =
    let ended : last.ends_at (c.args.start + c.args.len) c.args.runs.now.items ≡ false =
    ap (last.ends_at (c.args.start + c.args.len)) (sym c.deref.ensures.value) ∙ sym c.ends_at.ensures ∙ c.if-ends_at.false in
    last-room 0 c.args.runs.now.items c.args.start c.args.len (2 ^ 64) (c.requires.ready ended).within c.requires.low

pub returns-then-ends_at-2-clause-more : goal.returns-then-ends_at-2-clause-more
returns-then-ends_at-2-clause-more c = λ ended.
    let meets : last.ends_at c.args.start c.args.runs.now.items ≡ true =
    ap (last.ends_at c.args.start) (sym c.deref-2.ensures.value) ∙ sym c.ends_at-2.ensures ∙ c.if-ends_at-2.true in
    lengthens c.args.runs.now.items c.lengthen.new.runs.items c.args.start c.args.len (c.requires.ready ended) meets c.lengthen.ensures

pub returns-in_ok-push-clause-more : goal.returns-in_ok-push-clause-more
returns-in_ok-push-clause-more c = λ ended.
    let apart : last.ends_at c.args.start c.args.runs.now.items ≡ false =
    ap (last.ends_at c.args.start) (sym c.deref-2.ensures.value) ∙ sym c.ends_at-2.ensures ∙ c.if-ends_at-2.false in
    pushes c.args.runs.now.items c.push.new.self.items c.args.start c.args.len (c.requires.ready ended) c.requires.some apart
    c.in_ok-push.ensures.items
