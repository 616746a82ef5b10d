use Rattle.std.proofs.Common.{arith, sym, refl, ◌∙◌, ◌≡◌, ap, ◌+◌, ◌^◌, ℕ, Bool, true, false, Option, Some, None}
use Rattle.std.specs.Prelude.{◌&&◌, if◌then◌else◌, nat_le, nat_lt, option_and_then}
use Rattle.std.specs.Option.{option_or}
use Rattle.answer_runs.specs.LastRuns.{ends_at}
use Rattle.answer_runs.specs.AnswerRuns.{said_runs, answer_over}
use Rattle.answer_runs.proofs.Grown.{run_at-longer, within-longer, longest-longer, answer-longer, said-longer, said-ends, last-room}
use Rattle.answer_runs.proofs.Grown.{unsaid-within, within-up}
use Rattle.table_core.proofs.carrying.add_span.Goals as goal

-- a span at whose owner there is no answer adds none
unanswered : {A : Type 0} (says : ℕ → Option A) (x : Option A) (start len a p : ℕ) → says a ≡ None →
    x ≡ option_or x (option_and_then says (answer_over start len a p))
unanswered {A} says x start len a p none = by (nat_le start p && nat_lt p (start + len)) where
  or_none : (o : Option A) → o ≡ option_or o None
  or_none None = refl
  or_none (Some y) = refl

  by : (b : Bool) → x ≡ option_or x (option_and_then says (if b then Some a else None))
  by true = rw none (or_none x)
  by false = or_none x

pub returns-then-a-known-clause-answers : goal.returns-then-a-known-clause-answers
returns-then-a-known-clause-answers g c = λ p.
    unanswered (g.T.ByAddress.says c.args.table.now) _ c.args.span.out c.args.span.len c.args.span.input p
    (c.requires.none c.args.span.input (omega arith) (omega arith))

pub returns-then-a-known-clause-within : goal.returns-then-a-known-clause-within
returns-then-a-known-clause-within g c = within-up 0 _ _ _ c.requires.before (omega arith)

pub ends_at-requires : goal.ends_at-requires
ends_at-requires g c = rw c.deref.ensures.value (unsaid-within g.T.ByAddress.said 0 _ _ c.requires.before)

pub lengthen-requires : goal.lengthen-requires
lengthen-requires g c =
    last-room 0 _ c.args.span.out c.args.span.len (2 ^ 64) (unsaid-within g.T.ByAddress.said 0 _ _ c.requires.before) c.requires.fits

pub returns-then-a-known-2-clause-answers : goal.returns-then-a-known-2-clause-answers
returns-then-a-known-2-clause-answers g c = λ p.
    let said = g.T.ByAddress.said in
    let runs = c.args.runs.now.items in
    let ends = said-ends said runs c.args.span.out ∙ ap (ends_at c.args.span.out) (sym c.deref.ensures.value) ∙ sym c.ends_at.ensures
    ∙ c.if-ends_at.true in
    let is = c.requires.known c.args.span.input (omega arith) (omega arith) in
    rw (c.lengthen.ensures, said-longer said runs c.args.span.len)
    (run_at-longer (said_runs said runs) c.args.span.out c.args.span.len p (g.T.ByAddress.says c.args.table.now) c.args.span.input ends
    is)

pub returns-then-a-known-2-clause-within : goal.returns-then-a-known-2-clause-within
returns-then-a-known-2-clause-within g c =
    rw (c.lengthen.ensures, said-longer g.T.ByAddress.said _ c.args.span.len)
    (within-longer 0 _ c.args.span.out c.args.span.len c.requires.before)

pub returns-then-a-known-2-clause-longer : goal.returns-then-a-known-2-clause-longer
returns-then-a-known-2-clause-longer g c =
    rw (c.lengthen.ensures, said-longer g.T.ByAddress.said _ c.args.span.len) (longest-longer _ c.args.span.len c.requires.longest)

pub returns-then-a-known-2-clause-known : goal.returns-then-a-known-2-clause-known
returns-then-a-known-2-clause-known g c = λ x from last.
    rw (c.lengthen.ensures, said-longer g.T.ByAddress.said c.args.runs.now.items c.args.span.len)
    (answer-longer (g.T.ByAddress.says c.args.table.now x) (said_runs g.T.ByAddress.said c.args.runs.now.items)
    c.args.span.len (c.requires.known x from last))

pub returns-in_default-clause-within : goal.returns-in_default-clause-within
returns-in_default-clause-within g c = within-up 0 _ _ _ c.requires.before (omega arith)
