-- The runs of the kept lists are those of the lists to which units refer.
use Rattle.std.proofs.Common.{◌≡◌, ◌∙◌, ℕ, List, [], Option, Some, None, refl, sym, ap, subst, length}
use Rattle.std.specs.Prelude.{option_map, slice_get}
use Rattle.std.specs.Global.{Vec}
use Rattle.std.specs.Option.{option_map_or}
use Rattle.std.proofs.lemmas.List.{length-map}
use Rattle.std.proofs.lemmas.Option.{slice_get-map}
use Rattle.addr_map.specs.declared.span.Span.{Span}
use Rattle.answer_runs.specs.declared.run.Run.{Run}
use Rattle.answer_runs.specs.AnswerRuns.{carried, AreRunsOf}
use Rattle.answer_runs.specs.Choices.{unless_empty}
use Rattle.cover_lists.specs.declared.kept_list.KeptList.{KeptList}
use Rattle.cover_lists.specs.KeptLists.{all_say, list_says}
use Rattle.cover_lists.specs.ListRuns.{said_in, list_answer}
use Rattle.range_loc_rewrite.specs.PlaceRuns.{AreListsRuns, numbered_answer}

answers_are : (lists : List KeptList) (n a : ℕ) → list_answer lists n a ≡ numbered_answer (all_say lists) n a
answers_are lists n a =
    ap unless_empty (sym (ap said_by (slice_get-map list_says lists n) ∙ of_option (slice_get lists n)))
  where
    said_by : Option (ℕ → List (List ℕ)) → List (List ℕ)
    said_by o = option_map_or (λ (of_list : ℕ → List (List ℕ)). of_list a) o []

    of_option : (o : Option KeptList) → said_by (option_map list_says o) ≡ option_map_or (λ (l : KeptList). list_says l a) o []
    of_option None = refl
    of_option (Some l) = refl

module _ (says : List (ℕ → List (List ℕ))) (lists : List KeptList) (listed : all_say lists ≡ says) (spans : List Span)
    (rs : List (Vec (Run (Vec (Vec ℕ))))) where
  pub are_runs : length rs ≡ length lists → ((n : ℕ) → AreRunsOf (carried (list_answer lists n) spans) (said_in rs n)) →
      AreListsRuns says spans rs
  are_runs count each =
      subst (λ (fs : List (ℕ → List (List ℕ))). AreListsRuns fs spans rs) listed
      (record {
        count = count ∙ sym (length-map lists list_says);
        each = λ n. subst (λ (f : ℕ → Option (List (List ℕ))). AreRunsOf (carried f spans) (said_in rs n))
            (λ i a. answers_are lists n a i) (each n);
      })

  kept : AreListsRuns says spans rs → AreListsRuns (all_say lists) spans rs
  kept are = subst (λ (fs : List (ℕ → List (List ℕ))). AreListsRuns fs spans rs) (sym listed) are

  pub kept_count : AreListsRuns says spans rs → length rs ≡ length lists
  kept_count are = (kept are).count ∙ length-map lists list_says

  pub kept_each : AreListsRuns says spans rs → (n : ℕ) → AreRunsOf (carried (list_answer lists n) spans) (said_in rs n)
  kept_each are n =
      subst (λ (f : ℕ → Option (List (List ℕ))). AreRunsOf (carried f spans) (said_in rs n)) (λ i a. sym (answers_are lists n a) i)
      ((kept are).each n)
