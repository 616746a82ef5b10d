use Rattle.std.proofs.Common.{arith, sym, ◌<◌, ◌≤◌, ◌-◌, ◌∙◌, ℕ, ap, subst, length, get_or, List, None}
use Rattle.answer_runs.specs.declared.pieces.Piece.{Piece}
use Rattle.answer_runs.proofs.MergedPieces.{under_none, under_last}
use Rattle.answer_runs.proofs.first_range.FirstRange.piece.Goals as goal
use Rattle.answer_runs.proofs.first_range.FirstRange.piece.Goals.{After-last_before-last}

-- The pieces that aren't counted start after `x`.
later : (c : After-last_before-last) (x : ℕ) → x ≤ c.last_before-last.result → (k : ℕ) (d : Piece) → c.count_up_to-started.result ≤ k
    → k < length c.args.self.now.pieces.items → x < (get_or c.args.self.now.pieces.items k d).start
later c x low =
    subst (λ (l : List Piece). (k : ℕ) (d : Piece) → c.count_up_to-started.result ≤ k → k < length l → x < (get_or l k d).start)
    c.deref-2.ensures.value (λ k d le within. c.last_before-last.ensures.later x k d low le within)

pub last_before-last-requires-clause-above : goal.last_before-last-requires-clause-above
last_before-last-requires-clause-above c =
    subst (λ (l : List Piece). (k : ℕ) (d : Piece) → c.count_up_to-started.result ≤ k → k < length l → c.args.a < (get_or l k d).start)
    (c.deref.ensures.value ∙ sym c.deref-2.ensures.value) c.count_up_to-started.ensures.above

pub returns-then-started-eq0-clause-first : goal.returns-then-started-eq0-clause-first
returns-then-started-eq0-clause-first c = λ x up low.
    let zero = c.if-started-eq0.true in
    let more = later (goal.at.returns-then-started-eq0-clause-first c).After-last_before-last x low in
    sym (under_none c.args.self.now.pieces.items x (λ k d le lt. more k d (omega (arith, zero)) lt))

pub returns-clause-first : goal.returns-clause-first
returns-clause-first c = λ x up low.
    let items = c.args.self.now.pieces.items in
    let n = c.count_up_to-started.result in
    let more = later (goal.at.returns-clause-first c).After-last_before-last x low in
    let bound = subst (λ (l : List Piece). n ≤ length l) c.deref.ensures.value c.count_up_to-started.ensures.bound in
    let some : 0 < n = omega (arith, c.if-started-eq0.false) in
    let start : (get_or items (n - 1) c.index.result.now).start ≤ c.args.a =
    subst (λ (l : List Piece). (get_or l (n - 1) c.index.result.now).start ≤ c.args.a) c.deref.ensures.value
    (c.count_up_to-started.ensures.below (n - 1) c.index.result.now (omega (arith, some))) in
    ap (λ (p : Piece). p.first) c.index.ensures
    ∙ sym (under_last None items (n - 1) x c.index.result.now (omega (arith, bound, some)) (omega (arith, start, up))
    (λ k d le lt. more k d (omega (arith, le, some)) lt))
