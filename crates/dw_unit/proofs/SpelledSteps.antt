-- Steps of spelling declarations and tables one after another.
use Rattle.std.proofs.Common.{◌≡◌, ◌≢◌, ◌<◌, ◌+◌, ◌++◌, ◌∙◌, ⊎_elim, ℕ, zero, suc, List, [], ◌∷◌, Bool, true, false, cond, Option, Some}
use Rattle.std.proofs.Common.{None, Ok, Err, Result, BTreeMap, nat_cmp, refl, ap, sym, subst, arith, length, take, drop, map, get_or}
use Rattle.std.proofs.Common.{append_assoc, nat_lt}
use Rattle.std.specs.Prelude.{if◌then◌else◌, filter, flat_map, option_map, is_some, ◌==◌, ◌||◌}
use Rattle.std.specs.List.{list_any}
use Rattle.std.specs.BTreeMap.{get, is_at}
use Rattle.std.specs.List.Sorted.{IsStrictlyIncreasing}
use Rattle.std.proofs.lemmas.Bool.{cases_eq, eq-eqb, ne_eqb}
use Rattle.std.proofs.lemmas.Grind.{common_steps, flat_map-append}
use Rattle.std.proofs.lemmas.List.{append-nil, take_more}
use Rattle.std.proofs.lemmas.List.Folds.{list_any-append}
use Rattle.std.proofs.lemmas.Option.{same_Some}
use Rattle.table_core.specs.DebugUnits.{Walked}
use Rattle.table_core.specs.ReadSteps.{oks}
use Rattle.std.specs.Option.{option_map_or}
use Rattle.rb_bytes.proofs.Tests.{at_key}
use Rattle.dw_unit.specs.declared.trouble.Trouble.{Trouble}
use Rattle.dw_unit.specs.declared.declaration as code
use Rattle.dw_unit.specs.declared.own_entry.OwnEntry.{OwnEntry}
use Rattle.dw_unit.specs.Changes.{is_own_of}
use Rattle.dw_unit.specs.CompUnits.{Entry, Unit, own_entry, unit_of}
use Rattle.dw_unit.specs.EntryChanges.{own_places}
use Rattle.dw_unit.specs.OwnPlaces.{names_own}
use Rattle.dw_unit.specs.Told.{told_declaration}
use Rattle.answer_runs.proofs.Ascending.{ascends_from}
use Rattle.dw_unit.proofs.SpelledSections.{below_it}

pub spec_written : (out name form x : List ℕ) (b : Bool) → b ≡ false →
    (out ++ name) ++ form ≡ out ++ ((name ++ form) ++ (if b then x else []))
spec_written out name form x b e =
    append_assoc out name form ∙ ap (λ (l : List ℕ). out ++ l) (sym (append-nil (name ++ form)))
    ∙ sym (ap (λ (b : Bool). out ++ ((name ++ form) ++ (if b then x else []))) e)

flat_one : {X : Type 0} (f : X → List ℕ) (x : X) → flat_map f (x ∷ []) ≡ f x
flat_one f x = append-nil (f x)

-- One more value after those that were written.
pub flat_more : {X : Type 0} (f : X → List ℕ) (xs : List X) (i : ℕ) (d : X) → i < length xs →
    flat_map f (take (i + 1) xs) ≡ flat_map f (take i xs) ++ f (get_or xs i d)
flat_more f xs i d h =
    ap (flat_map f) (take_more xs i d h) ∙ flat_map-append f (take i xs) (get_or xs i d ∷ [])
    ∙ ap (λ (l : List ℕ). flat_map f (take i xs) ++ l) (flat_one f (get_or xs i d))

pub out_more : {X : Type 0} (f : X → List ℕ) (xs : List X) (i : ℕ) (d : X) (first old new : List ℕ) → i < length xs →
    old ≡ first ++ flat_map f (take i xs) →
    new ≡ old ++ f (get_or xs i d) → new ≡ first ++ flat_map f (take (i + 1) xs)
out_more f xs i d first old new h e g =
    g ∙ ap (λ (l : List ℕ). l ++ f (get_or xs i d)) e ∙ append_assoc first (flat_map f (take i xs)) (f (get_or xs i d))
    ∙ ap (λ (l : List ℕ). first ++ l) (sym (flat_more f xs i d h))

-- For lists of lists.
pub flat_flat : {X Y : Type 0} (f : Y → List ℕ) (g : X → List Y) (xs : List X) →
    flat_map f (flat_map g xs) ≡ flat_map (λ x. flat_map f (g x)) xs
flat_flat f g [] = refl
flat_flat f g (x ∷ xs) = flat_map-append f (g x) (flat_map g xs) ∙ ap (λ (l : List ℕ). flat_map f (g x) ++ l) (flat_flat f g xs)

pub told_step : (xs : List code.Declaration.Declaration) (i : ℕ) (x : code.Declaration.Declaration) → i < length xs → x ≡ get_or xs i x →
    drop i (map told_declaration xs) ≡ told_declaration x ∷ drop (i + 1) (map told_declaration xs)
told_step [] i x h e = absurd (omega arith)
told_step (y ∷ xs) zero x h e = ap (λ (z : code.Declaration.Declaration). told_declaration z ∷ map told_declaration xs) (sym e)
told_step (y ∷ xs) (suc i) x h e =
    let next : suc (i + 1) ≡ suc i + 1 = omega arith in
    told_step xs i x (omega arith) e ∙ ap (λ (k : ℕ). told_declaration x ∷ drop k (map told_declaration (y ∷ xs))) next

-- The bytes written, before the rest of a table.
pub table_more : {X : Type 0} (f : X → List ℕ) (x : X) (rest : List X) (end old new : List ℕ) → new ≡ old ++ f x →
    new ++ (flat_map f rest ++ end) ≡ old ++ (flat_map f (x ∷ rest) ++ end)
table_more f x rest end old new e =
    ap (λ (l : List ℕ). l ++ (flat_map f rest ++ end)) e ∙ append_assoc old (f x) (flat_map f rest ++ end)
    ∙ ap (λ (l : List ℕ). old ++ l) (sym (append_assoc (f x) (flat_map f rest) end))

-- Maps with one more key

at_same : (k : ℕ) → is_at (nat_cmp k) k ≡ true
at_same k = grind (arith, common_steps)

-- A property of each key's value.
pub keys_more : {X : Type 0} (P : ℕ → X → Type 0) (old new : BTreeMap ℕ X) (k : ℕ) (v : X) →
    ((q : ℕ) (n : X) → get nat_cmp old q ≡ Some n → P q n) → P k v →
    ((q : ℕ) → get nat_cmp new q ≡ cond (is_at (nat_cmp k) q) (Some v) (get nat_cmp old q)) → (q : ℕ) (n : X) →
    get nat_cmp new q ≡ Some n → P q n
keys_more P old new k v before now is q n e = ⊎_elim
    (λ (same : k ≡ q).
    let found : get nat_cmp new q ≡ Some v = is q ∙ ap (λ (x : ℕ). cond (is_at (nat_cmp k) x) (Some v) (get nat_cmp old q)) (sym same)
    ∙ ap (λ (b : Bool). cond b (Some v) (get nat_cmp old q)) (at_same k) in
    subst (λ (x : _). P q x) (same_Some _ _ (sym found ∙ e)) (subst (λ (x : ℕ). P x v) same now))
    (λ (ne : k ≢ q).
    before q n (sym (is q ∙ ap (λ (b : Bool). cond b (Some v) (get nat_cmp old q)) (at_key k q ne)) ∙ e))
    (cases_eq k q)

-- Whether a key is in the map.
pub key_more : {X : Type 0} (old new : BTreeMap ℕ X) (k : ℕ) (v : X) →
    ((q : ℕ) → get nat_cmp new q ≡ cond (is_at (nat_cmp k) q) (Some v) (get nat_cmp old q)) → (q : ℕ) →
    is_some (get nat_cmp new q) ≡ (is_some (get nat_cmp old q) || (k == q))
key_more old new k v is q = ⊎_elim
    (λ (same : k ≡ q).
    ap is_some (is q ∙ ap (λ (x : ℕ). cond (is_at (nat_cmp k) x) (Some v) (get nat_cmp old q)) (sym same)
    ∙ ap (λ (b : Bool). cond b (Some v) (get nat_cmp old q)) (at_same k))
    ∙ sym (ap (λ (b : Bool). is_some (get nat_cmp old q) || b) (eq-eqb k q same) ∙ or_true (is_some (get nat_cmp old q))))
    (λ (ne : k ≢ q).
    ap is_some (is q ∙ ap (λ (b : Bool). cond b (Some v) (get nat_cmp old q)) (at_key k q ne))
    ∙ sym (ap (λ (b : Bool). is_some (get nat_cmp old q) || b) (ne_eqb k q ne) ∙ or_false (is_some (get nat_cmp old q))))
    (cases_eq k q) where
      or_true : (b : Bool) → (b || true) ≡ true
      or_true true = refl
      or_true false = refl

      or_false : (b : Bool) → (b || false) ≡ b
      or_false true = refl
      or_false false = refl

-- Own entries

oks_joined : (abbrevs : List ℕ) (ws : List Walked) (w : Walked) (u : Unit) → unit_of abbrevs w ≡ Ok u →
    oks (map (unit_of abbrevs) (ws ++ w ∷ [])) ≡ oks (map (unit_of abbrevs) ws) ++ u ∷ []
oks_joined abbrevs [] w u e = ap (λ (r : Result Unit Trouble). oks (r ∷ [])) e
oks_joined abbrevs (x ∷ ws) w u e = step (unit_of abbrevs x) (oks_joined abbrevs ws w u e) where
  step : (r : Result Unit Trouble) → oks (map (unit_of abbrevs) (ws ++ w ∷ [])) ≡ oks (map (unit_of abbrevs) ws) ++ u ∷ [] →
      oks (r ∷ map (unit_of abbrevs) (ws ++ w ∷ [])) ≡ oks (r ∷ map (unit_of abbrevs) ws) ++ u ∷ []
  step (Ok v) f = ap (λ (l : List Unit). v ∷ l) f
  step (Err t) f = f

or_nothing : (b : Bool) → (b || false) ≡ b
or_nothing true = refl
or_nothing false = refl

-- One more unit.
pub own_more : (abbrevs : List ℕ) (ws : List Walked) (w : Walked) (u : Unit) (q : ℕ) → unit_of abbrevs w ≡ Ok u →
    names_own abbrevs (ws ++ w ∷ []) q ≡ (names_own abbrevs ws q || is_own_of q u)
own_more abbrevs ws w u q e =
    ap (list_any (is_own_of q)) (oks_joined abbrevs ws w u e) ∙ list_any-append (is_own_of q) (oks (map (unit_of abbrevs) ws)) (u ∷ [])
    ∙ ap (λ (b : Bool). list_any (is_own_of q) (oks (map (unit_of abbrevs) ws)) || b) (or_nothing (is_own_of q u))

abbrev pub own_test : ℕ → Option OwnEntry → Bool
own_test q None = false
own_test q (Some o) = o.declaration == q

-- By its own entry.
pub own_by : (q : ℕ) (u : Unit) (o : Option OwnEntry) → o ≡ option_map own_places (own_entry u) → is_own_of q u ≡ own_test q o
own_by q u o e = step (own_entry u) ∙ ap (own_test q) (sym e) where
  step : (x : Option Entry) → option_map_or (λ (e : Entry). e.declaration.place == q) x false ≡ own_test q (option_map own_places x)
  step None = refl
  step (Some y) = refl

-- Offsets that ascend

pub below_offset : (offsets : List ℕ) (i d : ℕ) → IsStrictlyIncreasing offsets → i < length offsets →
    filter (λ o. nat_lt o (get_or offsets i d)) offsets ≡ take i offsets
below_offset offsets i d rising h = below_it 0 i d offsets (ascends_from 0 offsets rising (λ h. omega arith)) h
