-- Sequences numbered one after another, and ranges of units.
use Rattle.std.proofs.Common.{◌≡◌, ◌∙◌, ◌<◌, ◌≤◌, ◌+◌, ◌++◌, ℕ, List, [], ◌∷◌, sym, ap, arith, Option, Some, None, length, map, take, drop}
use Rattle.std.proofs.Common.{get_or, append_assoc}
use Rattle.std.specs.List.{filter_map, cons_option}
use Rattle.std.specs.Option.{option_to_list}
use Rattle.std.proofs.lemmas.List.{append-nil, map-append, take_more, drop_more}
use Rattle.std.proofs.lemmas.Grind.{common_steps}
use Rattle.answer_runs.specs.declared.range.Range.{Range}
use Rattle.table_core.specs.DebugUnits.{Walked}
use Rattle.line_rewrite.specs.declared.kept.KeptSequence.{KeptSequence}
use Rattle.line_rewrite.specs.declared.unit.Unit as kept
use Rattle.line_rewrite.specs.SequenceIndex.{Numbered, numbered, unit_numbered, all_numbered}
use Rattle.line_rewrite.specs.UnitLists.{place_range}

none_of : {X : Type 0} (xs : List X) (i : ℕ) → length xs ≤ i → drop i xs ≡ []
none_of xs i h = grind (arith, common_steps)

module _ {X : Type 0} (f : Numbered → X) where
  pub numbered_more : (xs new whole : List X) (n i : ℕ) (u : kept.Unit) (ks : List KeptSequence) (d : KeptSequence) → i < length ks
      → xs ++ map f (numbered n u i (drop i ks)) ≡ whole → new ≡ xs
      ++ f (record { number = n; index = i; unit = u; sequence = get_or ks i d }) ∷ []
      → new ++ map f (numbered n u (i + 1) (drop (i + 1) ks)) ≡ whole
  unfolding numbered
  numbered_more xs new whole n i u ks d h inv e =
      let x : X = f (record { number = n; index = i; unit = u; sequence = get_or ks i d }) in
      let rest : List X = map f (numbered n u (i + 1) (drop (i + 1) ks)) in
      ap (λ (l : List X). l ++ rest) e ∙ append_assoc xs (x ∷ []) rest
      ∙ sym (ap (λ (l : List KeptSequence). xs ++ map f (numbered n u i l)) (drop_more ks i d h)) ∙ inv

  pub numbered_done : (xs whole : List X) (n i : ℕ) (u : kept.Unit) (ks : List KeptSequence) → length ks ≤ i
      → xs ++ map f (numbered n u i (drop i ks)) ≡ whole → xs ≡ whole
  unfolding numbered
  numbered_done xs whole n i u ks h inv =
      sym (append-nil xs) ∙ sym (ap (λ (l : List KeptSequence). xs ++ map f (numbered n u i l)) (none_of ks i h)) ∙ inv

  pub all_more : (xs new whole : List X) (i : ℕ) (us : List kept.Unit) (d : kept.Unit) → i < length us
      → xs ++ map f (all_numbered i (drop i us)) ≡ whole → new ≡ xs ++ map f (unit_numbered i (get_or us i d))
      → new ++ map f (all_numbered (i + 1) (drop (i + 1) us)) ≡ whole
  unfolding all_numbered
  all_more xs new whole i us d h inv e =
      let here : List Numbered = unit_numbered i (get_or us i d) in
      let rest : List Numbered = all_numbered (i + 1) (drop (i + 1) us) in
      ap (λ (l : List X). l ++ map f rest) e ∙ append_assoc xs (map f here) (map f rest)
      ∙ ap (λ (l : List X). xs ++ l) (sym (map-append f here rest))
      ∙ sym (ap (λ (l : List kept.Unit). xs ++ map f (all_numbered i l)) (drop_more us i d h)) ∙ inv

  pub all_done : (xs whole : List X) (i : ℕ) (us : List kept.Unit) → length us ≤ i → xs ++ map f (all_numbered i (drop i us)) ≡ whole →
      xs ≡ whole
  unfolding all_numbered
  all_done xs whole i us h inv =
      sym (append-nil xs) ∙ sym (ap (λ (l : List kept.Unit). xs ++ map f (all_numbered i l)) (none_of us i h)) ∙ inv

pub ranges_more : (ws : List Walked) (i : ℕ) (w v : Walked) (rs new : List Range) → i < length ws → rs ≡ map place_range (take i ws) →
    v ≡ w → w ≡ get_or ws i w
    → new ≡ rs ++ place_range v ∷ [] → new ≡ map place_range (take (i + 1) ws)
ranges_more ws i w v rs new h e vw wi n =
    n ∙ ap (λ (l : List Range). l ++ place_range v ∷ []) e
    ∙ ap (λ (x : Walked). map place_range (take i ws) ++ place_range x ∷ []) (vw ∙ wi)
    ∙ sym (ap (map place_range) (take_more ws i w h) ∙ map-append place_range (take i ws) (get_or ws i w ∷ []))

-- One more element at its index

after_option : {Y : Type 0} (o : Option Y) (xs rest : List Y) → (xs ++ option_to_list o) ++ rest ≡ xs ++ cons_option o rest
after_option None xs rest = ap (λ (l : List _). l ++ rest) (append-nil xs)
after_option (Some y) xs rest = append_assoc xs (y ∷ []) rest

pub said_more : {X Y : Type 0} (f : X → Option Y) (xs : List X) (i : ℕ) (d : X) (said new whole : List Y) → i < length xs
    → said ++ filter_map f (drop i xs) ≡ whole → new ≡ said ++ option_to_list (f (get_or xs i d)) →
    new ++ filter_map f (drop (i + 1) xs) ≡ whole
said_more {X} {Y} f xs i d said new whole h inv e =
    let rest : List Y = filter_map f (drop (i + 1) xs) in
    ap (λ (l : List Y). l ++ rest) e ∙ after_option (f (get_or xs i d)) said rest
    ∙ sym (ap (λ (l : List X). said ++ filter_map f l) (drop_more xs i d h)) ∙ inv

pub said_done : {X Y : Type 0} (f : X → Option Y) (xs : List X) (i : ℕ) (said whole : List Y) → length xs ≤ i →
    said ++ filter_map f (drop i xs) ≡ whole → said ≡ whole
said_done {X} f xs i said whole h inv =
    sym (append-nil said) ∙ sym (ap (λ (l : List X). said ++ filter_map f l) (none_of xs i h)) ∙ inv
