-- Location lists are spelled run by run.
use Rattle.std.proofs.Common.{◌≡◌, ◌∙◌, ◌+◌, ◌<◌, ◌≤◌, ◌++◌, ◌∷◌, [], ℕ, List, sym, refl, ap, subst, length, take, get_or, append_assoc}
use Rattle.std.proofs.Common.{append-nil}
use Rattle.std.specs.Prelude.{flat_map, All}
use Rattle.std.specs.Global.{Vec}
use Rattle.std.proofs.lemmas.List.{take_more, take_all, map_push}
use Rattle.std.proofs.lemmas.List.Elements.{All-append, All-cons, All-nil}
use Rattle.std.proofs.lemmas.List.Concat.{flat_map-append}
use Rattle.answer_runs.specs.declared.run.Run.{Run}
use Rattle.answer_runs.specs.AnswerRuns.{said_runs}
use Rattle.dw_lists.specs.declared.list_kind.ListKind.TheVariants.{Locations}
use Rattle.cover_lists.specs.KeptLists.{items_in}
use Rattle.list_writer.specs.ListBytes.{Bounded, IsWritable, entry_bytes, list_bytes}
use Rattle.cover_lists.specs.ListRuns.{said}
use Rattle.list_writer.specs.WrittenLocations.{over, bounded, entries_bytes}
use Rattle.list_writer.proofs.SpelledLists.{ended}

abbrev pub expression_bytes : ℕ → ℕ → Vec ℕ → List ℕ
expression_bytes start len v = entries_bytes (over start len (v.items ∷ []))

abbrev pub run_bytes : Run (Vec (Vec ℕ)) → List ℕ
run_bytes r = entries_bytes (over r.start r.len (said r.answer))

spelled_over : (start len : ℕ) (xs : List (Vec ℕ)) → flat_map (expression_bytes start len) xs ≡ entries_bytes (over start len (items_in xs))
spelled_over start len [] = refl
spelled_over start len (x ∷ xs) =
    (λ i. append-nil (entry_bytes Locations (record { start = start; len = len; expression = x.items })) i ++ spelled_over start len xs i)

spelled_runs : (rs : List (Run (Vec (Vec ℕ)))) → flat_map run_bytes rs ≡ entries_bytes (bounded (said_runs said rs))
spelled_runs [] = refl
spelled_runs (r ∷ rs) =
    ap (λ (l : List ℕ). run_bytes r ++ l) (spelled_runs rs)
    ∙ sym (flat_map-append (entry_bytes Locations) (over r.start r.len (said r.answer)) (bounded (said_runs said rs)))

pub expressions_done : (start len : ℕ) (xs : List (Vec ℕ)) (i : ℕ) (before new : List ℕ) → length xs ≤ i →
    new ≡ before ++ flat_map (expression_bytes start len) (take i xs) → new ≡ before ++ entries_bytes (over start len (items_in xs))
expressions_done start len xs i before new h e =
    e ∙ ap (λ (l : List (Vec ℕ)). before ++ flat_map (expression_bytes start len) l) (take_all i xs h)
    ∙ ap (λ (l : List ℕ). before ++ l) (spelled_over start len xs)

pub list_done : (runs : List (Run (Vec (Vec ℕ)))) (i : ℕ) (before old new : List ℕ) → length runs ≤ i →
    old ≡ before ++ flat_map run_bytes (take i runs) →
    new ≡ old ++ 0 ∷ [] → new ≡ before ++ list_bytes Locations (bounded (said_runs said runs))
list_done runs i before old new h e made =
    made ∙ ap (λ (l : List ℕ). l ++ 0 ∷ []) (e ∙ ap (λ (l : List (Run (Vec (Vec ℕ)))). before ++ flat_map run_bytes l) (take_all i runs h))
    ∙ append_assoc before (flat_map run_bytes runs) (0 ∷ [])
    ∙ ap (λ (l : List ℕ). before ++ l) (ap (λ (l : List ℕ). l ++ 0 ∷ []) (spelled_runs runs)
    ∙ ended Locations (bounded (said_runs said runs)))

-- All can be written.

abbrev pub Fits : Bounded → Type 0
Fits b = IsWritable Locations b

pub all_push : {X : Type 0} (P : X → Type 0) (xs : List X) (i : ℕ) (d : X) → i < length xs → All P (take i xs) → P (get_or xs i d) →
    All P (take (i + 1) xs)
all_push P xs i d h all here =
    subst (All P) (sym (take_more xs i d h)) (All-append P (take i xs) (get_or xs i d ∷ []) all
    (All-cons P (get_or xs i d) [] here (All-nil P)))

pub over_fits : (start len : ℕ) (xs : List (Vec ℕ)) (i : ℕ) (d : Vec ℕ) → i < length xs → All Fits (over start len (items_in (take i xs))) →
    Fits (record { start = start; len = len; expression = (get_or xs i d).items }) → All Fits (over start len (items_in (take (i + 1) xs)))
over_fits start len xs i d h all here =
    let b : Bounded = record { start = start; len = len; expression = (get_or xs i d).items } in
    subst (All Fits) (sym (ap (λ (l : List (Vec ℕ)). over start len (items_in l)) (take_more xs i d h)
    ∙ ap (over start len) (map_push (λ (v : Vec ℕ). v.items) (take i xs) (get_or xs i d))
    ∙ map_push (λ (x : List ℕ). record { start = start; len = len; expression = x }) (items_in (take i xs)) (get_or xs i d).items))
    (All-append Fits (over start len (items_in (take i xs))) (b ∷ []) all (All-cons Fits b [] here (All-nil Fits)))

pub over_all : (start len : ℕ) (xs : List (Vec ℕ)) (i : ℕ) → length xs ≤ i → All Fits (over start len (items_in (take i xs))) →
    All Fits (over start len (items_in xs))
over_all start len xs i h all = subst (λ (l : List (Vec ℕ)). All Fits (over start len (items_in l))) (take_all i xs h) all

pub runs_fit : (runs : List (Run (Vec (Vec ℕ)))) (i : ℕ) (d : Run (Vec (Vec ℕ))) → i < length runs →
    All Fits (bounded (said_runs said (take i runs))) →
    All Fits (over (get_or runs i d).start (get_or runs i d).len (said (get_or runs i d).answer)) →
    All Fits (bounded (said_runs said (take (i + 1) runs)))
runs_fit runs i d h all here =
    let r : Run (Vec (Vec ℕ)) = get_or runs i d in
    subst (All Fits) (sym (ap (λ (l : List (Run (Vec (Vec ℕ)))). bounded (said_runs said l)) (take_more runs i d h)
    ∙ ap bounded (map_push (λ (r : Run (Vec (Vec ℕ))). record { start = r.start; len = r.len; answer = said r.answer }) (take i runs) r)
    ∙ flat_map-append (λ (r : Run (List (List ℕ))). over r.start r.len r.answer) (said_runs said (take i runs))
    (record { start = r.start; len = r.len; answer = said r.answer } ∷ [])
    ∙ ap (λ (l : List Bounded). bounded (said_runs said (take i runs)) ++ l) (nil (over r.start r.len (said r.answer)))))
    (All-append Fits (bounded (said_runs said (take i runs))) (over r.start r.len (said r.answer)) all here)
  where
    nil : (xs : List Bounded) → xs ++ [] ≡ xs
    nil [] = refl
    nil (x ∷ xs) = ap (λ (l : List Bounded). x ∷ l) (nil xs)

pub runs_all : (runs : List (Run (Vec (Vec ℕ)))) (i : ℕ) → length runs ≤ i → All Fits (bounded (said_runs said (take i runs))) →
    All Fits (bounded (said_runs said runs))
runs_all runs i h all = subst (λ (l : List (Run (Vec (Vec ℕ)))). All Fits (bounded (said_runs said l))) (take_all i runs h) all
