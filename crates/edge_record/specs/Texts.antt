-- The text that belongs to the result of a run.
use Rattle.std.specs.Prelude.{◌≡◌, ℕ, List, []}
use Rattle.rv_code.specs.declared.cause.Cause.{Cause}
use Rattle.rv_code.specs.declared.placed.Func.{Func}
use Rattle.run_core.specs.Answers.{Answer}
use Rattle.run_core.specs.Answers as answer
use Rattle.edge_profile.specs.PairCounts.{Counted}
use Rattle.edge_profile.specs.Pairs.{AreMerged}
use Rattle.edge_text.specs.EdgeText.{text_of_pairs}

-- the lines of pairs, merged
abbrev pub IsTextOf : List Func → List Counted → List ℕ → Type 0
IsTextOf funcs said text = (pairs : List Counted) × AreMerged said pairs × (text ≡ text_of_pairs funcs pairs)

-- the run ended, trapped or reached the limit, so there is a text
abbrev pub HasText : Answer Cause → Type 0
HasText answer.Going = Unit {0}
HasText (answer.Ended status) = Unit {0}
HasText (answer.Halted pc cause) = Unit {0}
HasText _ = ⊥

-- The run had the answer `came` after n steps, and the recorded answer is `given` after m steps.
pub data IsFinished (funcs : List Func) (said : List Counted) (came : Answer Cause) (n : ℕ) (given : Answer Cause)
    (m : ℕ)
    (text : List ℕ) : Type 0 where
  told : HasText came → came ≡ given → n ≡ m → IsTextOf funcs said text → IsFinished funcs said came n given m text
  untold : (HasText came → ⊥) → came ≡ given → n ≡ m → text ≡ [] → IsFinished funcs said came n given m text
  ran_out : HasText came → given ≡ answer.Memory → text ≡ [] → IsFinished funcs said came n given m text
