-- The weight of the runs of lists is that of their expressions at the owners of new bytes.
use Rattle.std.proofs.Common.{◌≡◌, ◌∙◌, ◌+◌, ◌∷◌, [], ℕ, suc, List, refl, sym, ap, subst, arith, length}
use Rattle.std.specs.Prelude.{sum_by}
use Rattle.std.specs.Global.{Vec}
use Rattle.std.proofs.lemmas.List.Sums.{sum_by-cons}
use Rattle.addr_map.specs.declared.span.Span.{Span}
use Rattle.answer_runs.specs.declared.run.Run.{Run}
use Rattle.answer_runs.specs.AnswerRuns.{said_runs, carried, AreRunsOf}
use Rattle.answer_runs.specs.Weights.{run_weight}
use Rattle.cover_lists.specs.KeptLists.{items_in}
use Rattle.cover_lists.specs.ListRuns.{said, said_in}
use Rattle.cover_lists.specs.ListWeights.{IsSaidWeight, IsSumOf, copies_weight, expressions_weight, list_weight, total_weight}
use Rattle.cover_lists.specs.ListWeights.IsSumOf.{none, more}
use Rattle.range_loc_rewrite.specs.PlaceRuns.{AreListsRuns, numbered_answer}

copies : (xs : List (Vec ℕ)) → copies_weight xs ≡ expressions_weight (items_in xs)
copies [] = refl
copies (x ∷ xs) =
    sum_by-cons (λ (v : Vec ℕ). 16 + length v.items) x xs ∙ ap (λ (n : ℕ). 16 + length x.items + n) (copies xs)
    ∙ sym (sum_by-cons (λ (l : List ℕ). 16 + length l) x.items (items_in xs))

of_list : (rs : List (Run (Vec (Vec ℕ)))) → list_weight rs
    ≡ sum_by (λ (r : Run (List (List ℕ))). run_weight + expressions_weight r.answer) (said_runs said rs)
of_list [] = refl
of_list (r ∷ rs) =
    sum_by-cons (λ (q : Run (Vec (Vec ℕ))). run_weight + copies_weight q.answer.items) r rs
    ∙ (λ i. run_weight + copies r.answer.items i + of_list rs i)
    ∙ sym (sum_by-cons (λ (q : Run (List (List ℕ))). run_weight + expressions_weight q.answer)
    (record { start = r.start; len = r.len; answer = said r.answer }) (said_runs said rs))

module _ (spans : List Span) where
  of_lists : (says : List (ℕ → List (List ℕ))) (rs : List (Vec (Run (Vec (Vec ℕ))))) → length rs ≡ length says →
      ((n : ℕ) → AreRunsOf (carried (numbered_answer says n) spans) (said_in rs n)) →
      IsSumOf (IsSaidWeight spans) says (total_weight rs)
  of_lists [] [] count each = none
  of_lists [] (v ∷ rs) count each = absurd (omega (arith, count))
  of_lists (f ∷ fs) [] count each = absurd (omega (arith, count))
  of_lists (f ∷ fs) (v ∷ rs) count each =
      subst (IsSumOf (IsSaidWeight spans) (f ∷ fs))
      (sym (sum_by-cons (λ (v : Vec (Run (Vec (Vec ℕ)))). list_weight v.items) v rs))
      (more f fs (list_weight v.items) (total_weight rs)
      (record { runs = said_runs said v.items; are_runs = each 0; sum = of_list v.items })
      (of_lists fs rs (omega (arith, count)) (λ n. each (suc n))))

  pub total_is : (says : List (ℕ → List (List ℕ))) (rs : List (Vec (Run (Vec (Vec ℕ))))) → AreListsRuns says spans rs →
      IsSumOf (IsSaidWeight spans) says (total_weight rs)
  total_is says rs are = of_lists says rs are.count are.each
