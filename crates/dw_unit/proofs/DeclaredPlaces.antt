-- The declaration of a code, by its first index.
use Rattle.std.proofs.Common.{◌≡◌, ◌+◌, ◌∙◌, sym, refl, ap, ℕ, zero, suc, Bool, true, false, Option, Some, None, List, [], ◌∷◌, map, drop}
use Rattle.std.proofs.Common.{add-one, option_map, arith, Err, Result}
use Rattle.std.specs.Prelude.{◌==◌, if◌then◌else◌, option_and_then, slice_get}
use Rattle.std.specs.List.{find}
use Rattle.dw_unit.specs.Codes.{first_place, first_from}
use Rattle.std.proofs.lemmas.Option.{slice_get-map, same_Some}
use Rattle.std.proofs.lemmas.List.{drop-map}
use Rattle.table_core.specs.ReadSteps.{and_so}
use Rattle.dw_unit.specs.declared.declaration as code
use Rattle.dw_unit.specs.declared.trouble.Trouble.{Trouble}
use Rattle.dw_unit.specs.declared.trouble.Trouble.TheVariants.{Unsound}
use Rattle.dw_unit.specs.Trouble.{sound_if, when}
use Rattle.dw_unit.specs.CompUnits.{are_named_once, declaration_of}
use Rattle.dw_unit.specs.Declarations.{Declaration, Table}
use Rattle.dw_unit.specs.Told.{told_declaration}
use Rattle.dw_unit.specs.ToldLists.{codes_of, told_once}

declared_there : (q : ℕ) (ds : List Declaration) →
    option_and_then (slice_get ds) (first_place q (map (λ (d : Declaration). d.code) ds)) ≡ find (λ d. d.code == q) ds
declared_there q [] = refl
declared_there q (d ∷ ds) = step (d.code == q) (first_place q (map (λ (d : Declaration). d.code) ds)) (declared_there q ds) where
  step : (b : Bool) (o : Option ℕ) → option_and_then (slice_get ds) o ≡ find (λ d. d.code == q) ds →
      option_and_then (slice_get (d ∷ ds)) (if b then Some 0 else option_map (λ (n : ℕ). n + 1) o) ≡
      (if b then Some d else find (λ d. d.code == q) ds)
  step true o e = refl
  step false None e = e
  step false (Some n) e = ap (λ (k : ℕ). slice_get (d ∷ ds) k) (add-one n) ∙ e

get-drop : {X : Type 0} (xs : List X) (i n : ℕ) → slice_get (drop i xs) n ≡ slice_get xs (i + n)
get-drop xs zero n = let e : n ≡ 0 + n = omega arith in ap (slice_get xs) e
get-drop [] (suc i) n = refl
get-drop (x ∷ xs) (suc i) n = get-drop xs i n ∙ (let e : suc (i + n) ≡ suc i + n = omega arith in ap (slice_get (x ∷ xs)) e)

-- From an index on, the first of the code.
pub declared_from : (ds : List Declaration) (q i : ℕ) →
    option_and_then (slice_get ds) (first_from (map (λ (d : Declaration). d.code) ds) q i) ≡ find (λ d. d.code == q) (drop i ds)
declared_from ds q i =
    ap (λ (cs : List ℕ). option_and_then (slice_get ds) (option_map (λ (n : ℕ). i + n) (first_place q cs)))
    (drop-map (λ (d : Declaration). d.code) i ds)
    ∙ step (first_place q (map (λ (d : Declaration). d.code) (drop i ds))) ∙ declared_there q (drop i ds) where
      step : (o : Option ℕ) → option_and_then (slice_get ds) (option_map (λ (n : ℕ). i + n) o) ≡ option_and_then (slice_get (drop i ds)) o
      step None = refl
      step (Some n) = sym (get-drop ds i n)

-- For the declarations of the code's own type.

codes_told : (xs : List code.Declaration.Declaration) → map (λ (d : Declaration). d.code) (map told_declaration xs) ≡ codes_of xs
codes_told [] = refl
codes_told (x ∷ xs) = ap (λ (l : List ℕ). x.code ∷ l) (codes_told xs)

abbrev pub usable : Option Declaration → Result Declaration Trouble
usable o = and_so (sound_if o) (λ d. when (are_named_once d.specs) d)

module _ (xs : List code.Declaration.Declaration) (end : Option ℕ) (q i : ℕ) where
  abbrev pub from_here : Table
  from_here = record { list = drop i (map told_declaration xs); end = end }

  by_place : (o : Option ℕ) → o ≡ first_from (codes_of xs) q i →
      declaration_of from_here q ≡ usable (option_and_then (slice_get (map told_declaration xs)) o)
  by_place o e =
      ap usable (sym (declared_from (map told_declaration xs) q i))
      ∙ ap (λ (cs : List ℕ). usable (option_and_then (slice_get (map told_declaration xs)) (first_from cs q i))) (codes_told xs)
      ∙ ap (λ (o : Option ℕ). usable (option_and_then (slice_get (map told_declaration xs)) o)) (sym e)

  pub no_place : None ≡ first_from (codes_of xs) q i → declaration_of from_here q ≡ Err Unsound
  no_place e = by_place None e

  pub no_item : (index : ℕ) → Some index ≡ first_from (codes_of xs) q i → slice_get xs index ≡ None →
      declaration_of from_here q ≡ Err Unsound
  no_item index e none =
      by_place (Some index) e
      ∙ ap usable (slice_get-map told_declaration xs index ∙ ap (option_map told_declaration) none)

  pub one_item : (index : ℕ) (x : code.Declaration.Declaration) (b : Bool) → Some index ≡ first_from (codes_of xs) q i →
      slice_get xs index ≡ Some x →
      slice_get (told_once xs) index ≡ Some b → declaration_of from_here q ≡ when b (told_declaration x)
  one_item index x b e there once =
      let once_is : are_named_once x.specs.items ≡ b = same_Some (are_named_once x.specs.items) b
      (sym (slice_get-map (λ (d : code.Declaration.Declaration). are_named_once d.specs.items) xs index
      ∙ ap (option_map (λ (d : code.Declaration.Declaration). are_named_once d.specs.items)) there) ∙ once) in
      by_place (Some index) e
      ∙ ap usable (slice_get-map told_declaration xs index ∙ ap (option_map told_declaration) there)
      ∙ ap (λ (b : Bool). when b (told_declaration x)) once_is
