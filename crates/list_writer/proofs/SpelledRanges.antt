-- Range lists are spelled run by run.
use Rattle.std.proofs.Common.{◌≡◌, ◌∙◌, ◌≤◌, ◌++◌, ◌∷◌, [], ℕ, Bool, List, refl, ap, length, take, map, append_assoc}
use Rattle.std.specs.Prelude.{flat_map}
use Rattle.std.proofs.lemmas.List.{take_all}
use Rattle.answer_runs.specs.declared.run.Run.{Run}
use Rattle.dw_lists.specs.declared.list_kind.ListKind.TheVariants.{Ranges}
use Rattle.list_writer.specs.ListBytes.{entry_bytes, list_bytes}
use Rattle.list_writer.specs.WrittenRanges.{bounded, run_bytes}
use Rattle.list_writer.proofs.SpelledLists.{ended}

spelled_runs : (rs : List (Run Bool)) → flat_map run_bytes rs ≡ flat_map (entry_bytes Ranges) (map bounded rs)
spelled_runs [] = refl
spelled_runs (r ∷ rs) = ap (λ (l : List ℕ). run_bytes r ++ l) (spelled_runs rs)

pub list_done : (runs : List (Run Bool)) (i : ℕ) (before old new : List ℕ) → length runs ≤ i →
    old ≡ before ++ flat_map run_bytes (take i runs) →
    new ≡ old ++ 0 ∷ [] → new ≡ before ++ list_bytes Ranges (map bounded runs)
list_done runs i before old new h e made =
    made ∙ ap (λ (l : List ℕ). l ++ 0 ∷ []) (e ∙ ap (λ (l : List (Run Bool)). before ++ flat_map run_bytes l) (take_all i runs h))
    ∙ append_assoc before (flat_map run_bytes runs) (0 ∷ [])
    ∙ ap (λ (l : List ℕ). before ++ l) (ap (λ (l : List ℕ). l ++ 0 ∷ []) (spelled_runs runs) ∙ ended Ranges (map bounded runs))
