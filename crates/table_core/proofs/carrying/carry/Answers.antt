use Rattle.std.proofs.Common.{◌≡◌, ◌∙◌, ℕ, option_map}
use Rattle.std.proofs.lemmas.Result.{IfOk-weaker}
use Rattle.answer_runs.specs.AnswerRuns.{run_at, carried}
use Rattle.answer_runs.proofs.Grown.{said_at, unsaid-within, wanted-same}
use Rattle.table_core.proofs.carrying.carry.Goals as goal

pub runs_of-requires-clause-low : goal.runs_of-requires-clause-low
runs_of-requires-clause-low g c = g.met.T.ByAddress.is_low c.args.table.now c.args.map.now c.requires.allowed

pub write_runs-requires-clause-within : goal.write_runs-requires-clause-within
write_runs-requires-clause-within g c =
    rw c.deref.ensures.value (unsaid-within g.T.ByAddress.said 0 _ _ c.in_ok-runs.ensures.within)

pub write_runs-requires-clause-answers : goal.write_runs-requires-clause-answers
write_runs-requires-clause-answers g c = λ p.
    rw c.deref.ensures.value (said_at g.T.ByAddress.said _ p ∙ c.in_ok-runs.ensures.runs.answered p)

pub returns-clause-law : goal.returns-clause-law
returns-clause-law g c =
    let same : (p : ℕ) → option_map g.T.ByAddress.said (run_at c.deref.result.now p) ≡ carried (g.T.ByAddress.says c.args.table.now)
    c.args.map.now p
    = λ p. rw c.deref.ensures.value (said_at g.T.ByAddress.said _ p ∙ c.in_ok-runs.ensures.runs.answered p) in
    IfOk-weaker c.write_runs.result _ _ (λ w h i f from stands.
    let law = h i f from stands in
    (wanted-same (g.T.ByAddress.carries c.args.map.now) c.args.map.now _ _ (g.T.ByAddress.means f) same law.0, law.1, law.2))
    c.write_runs.ensures.law
