-- The expressions in force of a location list that was written from runs.
use Rattle.std.proofs.Common.{◌≡◌, ◌∙◌, ◌+◌, ◌<◌, ◌&&◌, ◌++◌, ◌∷◌, [], ℕ, Bool, true, false, List, Option, Some, None, refl, sym, ap, arith}
use Rattle.std.proofs.Common.{map, filter}
use Rattle.std.specs.Prelude.{if◌then◌else◌, nat_le, nat_lt, unwrap_or}
use Rattle.std.specs.Option.{option_or}
use Rattle.std.proofs.lemmas.Bool.Decides.{nat_tests}
use Rattle.std.proofs.lemmas.List.{map-append}
use Rattle.std.proofs.lemmas.List.Elements.{filter-append}
use Rattle.answer_runs.specs.declared.run.Run.{Run}
use Rattle.answer_runs.specs.AnswerRuns.{run_at, IsWithin}
use Rattle.list_writer.specs.ListBytes.{Bounded, located_at}
use Rattle.cover_lists.specs.Located.{Located, is_bounded_at, is_default, expressions, unless_bounded, in_force}
use Rattle.list_writer.specs.WrittenLocations.{over, bounded}

abbrev held : ℕ → List Bounded → List (List ℕ)
held p bs = expressions (filter (is_bounded_at p) (map located_at bs))

held-append : (p : ℕ) (xs ys : List Bounded) → held p (xs ++ ys) ≡ held p xs ++ held p ys
held-append p xs ys =
    ap (λ (l : List Located). expressions (filter (is_bounded_at p) l)) (map-append located_at xs ys)
    ∙ ap expressions (filter-append (is_bounded_at p) (map located_at xs) (map located_at ys))
    ∙ map-append (λ (l : Located). l.expression) (filter (is_bounded_at p) (map located_at xs))
    (filter (is_bounded_at p) (map located_at ys))

abbrev inside : ℕ → ℕ → ℕ → Bool
inside start len p = nat_le start p && nat_lt p (start + len)

held_over : (p start len : ℕ) (b : Bool) → inside start len p ≡ b → (xs : List (List ℕ)) →
    held p (over start len xs) ≡ (if b then xs else [])
held_over p start len true e [] = refl
held_over p start len false e [] = refl
held_over p start len true e (x ∷ xs) =
    ap (λ (b : Bool). expressions (if b then located_at (record { start = start; len = len; expression = x })
    ∷ filter (is_bounded_at p) (map located_at (over start len xs))
    else filter (is_bounded_at p) (map located_at (over start len xs)))) e
    ∙ ap (λ (l : List (List ℕ)). x ∷ l) (held_over p start len true e xs)
held_over p start len false e (x ∷ xs) =
    ap (λ (b : Bool). expressions (if b then located_at (record { start = start; len = len; expression = x })
    ∷ filter (is_bounded_at p) (map located_at (over start len xs))
    else filter (is_bounded_at p) (map located_at (over start len xs)))) e
    ∙ held_over p start len false e xs

-- There is no run before the first one.
none_before : {A : Type 0} (lo : ℕ) (rs : List (Run A)) (hi p : ℕ) → IsWithin lo rs hi → p < lo → run_at rs p ≡ None
none_before lo [] hi p w h = refl
none_before lo (r ∷ rs) hi p w h =
    let out : inside r.start r.len p ≡ false = apart r.start r.len p (omega (arith, w.0, h)) in
    (λ i. option_or (if out i then Some r.answer else None) (none_before (r.start + r.len) rs hi p w.2 (omega (arith, w.0, h)) i))
  where
    apart : (start len p : ℕ) → p < start → inside start len p ≡ false
    apart start len p h = grind (arith, nat_tests)

held_runs : (lo : ℕ) (rs : List (Run (List (List ℕ)))) (hi p : ℕ) → IsWithin lo rs hi → held p (bounded rs) ≡ unwrap_or (run_at rs p) []
held_runs lo [] hi p w = refl
held_runs lo (r ∷ rs) hi p w =
    held-append p (over r.start r.len r.answer) (bounded rs)
    ∙ step (inside r.start r.len p) refl (held_runs (r.start + r.len) rs hi p w.2)
  where
    below : (start len p : ℕ) → inside start len p ≡ true → p < start + len
    below start len p e = grind (arith, nat_tests)

    nil : (xs : List (List ℕ)) → xs ++ [] ≡ xs
    nil [] = refl
    nil (x ∷ xs) = ap (λ (l : List (List ℕ)). x ∷ l) (nil xs)

    step : (b : Bool) → inside r.start r.len p ≡ b → held p (bounded rs) ≡ unwrap_or (run_at rs p) [] →
        held p (over r.start r.len r.answer) ++ held p (bounded rs) ≡ unwrap_or
        (option_or (if inside r.start r.len p then Some r.answer else None) (run_at rs p)) []
    step true e more =
        (λ i. held_over p r.start r.len true e r.answer i ++ more i)
        ∙ ap (λ (o : Option (List (List ℕ))). r.answer ++ unwrap_or o [])
        (none_before (r.start + r.len) rs hi p w.2 (below r.start r.len p e))
        ∙ nil r.answer
        ∙ sym (ap (λ (b : Bool). unwrap_or (option_or (if b then Some r.answer else None) (run_at rs p)) []) e)
    step false e more =
        (λ i. held_over p r.start r.len false e r.answer i ++ more i)
        ∙ sym (ap (λ (b : Bool). unwrap_or (option_or (if b then Some r.answer else None) (run_at rs p)) []) e)

no_default : (bs : List Bounded) → filter is_default (map located_at bs) ≡ []
no_default [] = refl
no_default (b ∷ bs) = no_default bs

unless_none : (ls ds : List Located) → ds ≡ [] → unless_bounded ls ds ≡ expressions ls
unless_none [] ds e = ap expressions e
unless_none (l ∷ ls) ds e = refl

pub forced_runs : (lo : ℕ) (rs : List (Run (List (List ℕ)))) (hi p : ℕ) → IsWithin lo rs hi →
    in_force (map located_at (bounded rs)) p ≡ unwrap_or (run_at rs p) []
forced_runs lo rs hi p w =
    unless_none (filter (is_bounded_at p) (map located_at (bounded rs))) (filter is_default (map located_at (bounded rs)))
    (no_default (bounded rs))
    ∙ held_runs lo rs hi p w
