-- The lowest place of a bad table, table by table.
use Rattle.std.proofs.Common.{◌≡◌, ◌∙◌, ◌+◌, ◌<◌, ◌++◌, ◌∷◌, [], ℕ, Bool, true, false, List, Option, Some, sym, ap, length}
use Rattle.std.proofs.Common.{get_or, take, map, filter}
use Rattle.std.specs.Prelude.{if◌then◌else◌, not}
use Rattle.std.specs.Option.{option_map_or}
use Rattle.std.proofs.lemmas.List.{take_more}
use Rattle.std.proofs.lemmas.List.Elements.{filter-append}
use Rattle.std.proofs.lemmas.List.{map-append}
use Rattle.answer_runs.specs.Choices.{lower, least}
use Rattle.table_core.specs.DebugUnits.{Walked}
use Rattle.dw_unit.proofs.Leasts.{least-append}
use Rattle.dw_lists.specs.Faults.{is_list_table}
use Rattle.cover_lists.proofs.SmallSteps.{lower_none}

abbrev is_bad : Walked → Bool
is_bad w = not (option_map_or is_list_table w.bytes false)

abbrev bad_places : List Walked → List ℕ
bad_places ws = map (λ (w : Walked). w.place) (filter is_bad ws)

module _ (ws : List Walked) (i : ℕ) (w : Walked) (old new : Option ℕ) (h : i < length ws) (is : w ≡ get_or ws i w)
    (before : old ≡ least (bad_places (take i ws))) where
  joined : least (bad_places (take (i + 1) ws)) ≡ lower old (least (bad_places (w ∷ [])))
  joined =
      ap (λ (l : List Walked). least (bad_places l)) (take_more ws i w h ∙ ap (λ (x : Walked). take i ws ++ x ∷ []) (sym is))
      ∙ ap (λ (l : List Walked). least (map (λ (w : Walked). w.place) l)) (filter-append is_bad (take i ws) (w ∷ []))
      ∙ ap least (map-append (λ (w : Walked). w.place) (filter is_bad (take i ws)) (filter is_bad (w ∷ [])))
      ∙ least-append (bad_places (take i ws)) (bad_places (w ∷ []))
      ∙ ap (λ (o : Option ℕ). lower o (least (bad_places (w ∷ [])))) (sym before)

  pub bad_more : is_bad w ≡ true → new ≡ lower old (Some w.place) → new ≡ least (bad_places (take (i + 1) ws))
  bad_more bad made =
      made ∙ sym (joined ∙ ap (λ (b : Bool). lower old (least (map (λ (w : Walked). w.place) (if b then w ∷ [] else [])))) bad)

  pub bad_same : is_bad w ≡ false → new ≡ old → new ≡ least (bad_places (take (i + 1) ws))
  bad_same good made =
      made ∙ sym (joined ∙ ap (λ (b : Bool). lower old (least (map (λ (w : Walked). w.place) (if b then w ∷ [] else [])))) good
      ∙ lower_none old)
