use Rattle.std.proofs.Common.{◌≡◌, ◌∙◌, sym, ℕ, ◌<◌, ◌≤◌, ⊎_elim, ◌↔◌, Bool, true, false, IsTrue, List, Result, Ok, Err}
use Rattle.std.proofs.Common.{length, slice_index_or, arith, MatchResult}
use Rattle.std.specs.Result.{is_ok}
use Rattle.std.specs.List.{Contains}
use Rattle.std.proofs.lemmas.Bool.{cases_lt}
use Rattle.std.proofs.lemmas.List.{get_or_default}
use Rattle.std.proofs.lemmas.List.Sorted.{searched}
use Rattle.rb_lanes.proofs.Walked.{rising}
use Rattle.code_starts.proofs.code.is_start.Goals as goal

found : (xs : List ℕ) (a : ℕ) (r : Result ℕ ℕ) (b : Bool) → b ≡ is_ok r →
    MatchResult r (λ i. (i < length xs) × (slice_index_or xs i 0 ≡ a))
    (λ i. (i ≤ length xs) × ((k : ℕ) → k < i → slice_index_or xs k 0 < a)
    × ((k : ℕ) → i ≤ k → k < length xs → a < slice_index_or xs k 0)) → IsTrue b ↔ Contains xs a
found xs a (Ok i) b is (within, there) = (λ _. (i, within, get_or_default xs i a 0 within ∙ there), λ _. is)
found xs a (Err i) b is (bound, below, above) = (
  λ wrong. let no : true ≡ false = sym wrong ∙ is in absurd (cc),
  λ (k, within, there). let at : slice_index_or xs k 0 ≡ a = get_or_default xs k 0 a within ∙ there in
      ⊎_elim (λ (less : k < i). let low = below k less in absurd (omega arith))
      (λ (more : i ≤ k). let high = above k more within in absurd (omega arith)) (cases_lt k i),
)

pub returns : goal.returns
returns c = found c.args.addresses.now c.args.address _ _ c.is_ok.ensures.value
    (searched _ _ _ c.binary_search.ensures.position (λ i j. rising (λ (n : ℕ). n) c.args.addresses.now c.requires i j 0))
