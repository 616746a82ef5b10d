-- Steps of walks over attributes, entries and units that are written.
use Rattle.std.proofs.Common.{◌≡◌, ◌<◌, ◌≤◌, ◌+◌, ◌++◌, ◌∙◌, ℕ, zero, suc, List, [], ◌∷◌, Option, Some, None, Ok, Err, Result, IfOk, IfSome}
use Rattle.std.proofs.Common.{MatchOption, refl, ap, sym, subst, arith, length, drop, map, get_or, append_assoc}
use Rattle.std.proofs.lemmas.List.{drop_more}
use Rattle.std.specs.Prelude.{flat_map}
use Rattle.table_core.proofs.Numbers.{same_value, same_left}
use Rattle.table_core.specs.DebugUnits.{Walked}
use Rattle.table_core.specs.ReadSteps.{and_so, oks, with_head}
use Rattle.dw_unit.specs.declared.trouble.Trouble.{Trouble}
use Rattle.dw_unit.specs.Trouble.{Read, sound_if}
use Rattle.dw_unit.specs.Changes.{Patch}
use Rattle.dw_unit.specs.CompUnits.{Entry, Unit, header_at, header_of, end_of, unit_of}
use Rattle.dw_unit.specs.Declarations.{Table, table_at}
use Rattle.dw_unit.specs.EntryChanges.{AreBehind}
use Rattle.dw_unit.specs.OwnPlaces.{AllRead}
use Rattle.dw_unit.specs.Walking.{entries_at, unit_bounds}
use Rattle.dw_unit.proofs.UnitsRead.{IsRead, unit_read}

-- The patches of one more element.
pub patches_step : {X : Type 0} (f : X → List Patch) (xs : List X) (i : ℕ) (d : X) (ps : List Patch) → i < length xs →
    flat_map f (drop i xs) ++ ps ≡ f (get_or xs i d) ++ (flat_map f (drop (i + 1) xs) ++ ps)
patches_step f xs i d ps h =
    ap (λ (l : List _). flat_map f l ++ ps) (drop_more xs i d h) ∙ append_assoc (f (get_or xs i d)) (flat_map f (drop (i + 1) xs)) ps

-- A property of an option's value.
pub if_some : {X : Type 0} (o : Option X) (x : X) (P : X → Type 0) → o ≡ Some x → IfSome o P → P x
if_some o x P e p = subst (λ (o : Option _). IfSome o P) e p

pub match_some : {X : Type 0} (o : Option X) (x : X) (A : Type 0) (P : X → Type 0) → o ≡ Some x → MatchOption o A P → P x
match_some o x A P e p = subst (λ (o : Option _). MatchOption o A P) e p

pub match_none : {X : Type 0} (o : Option X) (A : Type 0) (P : X → Type 0) → o ≡ None → MatchOption o A P → A
match_none o A P e p = subst (λ (o : Option _). MatchOption o A P) e p

pub ok_map2 : {X E : Type 0} (r : Result X E) (P Q R : X → Type 0) → ((x : X) → P x → Q x → R x) → IfOk r P → IfOk r Q → IfOk r R
ok_map2 (Ok x) P Q R f p q = f x p q
ok_map2 (Err e) P Q R f p q = p

-- The entries of a unit whose header was read.
pub record IsBehindHeader (w : Walked) (u : Unit) (offset : ℕ) (table : Table) (left : List ℕ) : Type 0 where
  pub at : u.abbrev_offset ≡ offset
  pub place : u.place ≡ w.place
  pub entries : entries_at (unit_bounds w.place (end_of w) table) 0 left ≡ Ok u.entries

pub entries_of : (abbrevs : List ℕ) (w : Walked) (u : Unit) (offset : ℕ) (table : Table) (left : List ℕ) → unit_of abbrevs w ≡ Ok u →
    header_of w ≡ Ok (offset, left) →
    table_at abbrevs offset ≡ table → IsBehindHeader w u offset table left
entries_of abbrevs w u offset table left e h t =
    let r : IsRead abbrevs w u = unit_read abbrevs w u e in
    let again : ◌≡◌ {A = Read ℕ} (Ok (u.abbrev_offset, r.left)) (Ok (offset, left)) =
    sym r.header ∙ sym (ap (λ (o : Option (List ℕ)). and_so (sound_if o) header_at) r.is) ∙ h in
    let offset_is : u.abbrev_offset ≡ offset = same_value _ _ _ _ again in
    let left_is : r.left ≡ left = same_left _ _ _ _ again in
    record {
      at = offset_is;
      place = r.place;
      entries =
          ap (λ (t : Table). entries_at (unit_bounds w.place (end_of w) t) 0 left) (sym (ap (table_at abbrevs) offset_is ∙ t))
          ∙ ap (λ (l : List ℕ). entries_at (unit_bounds w.place (end_of w) (table_at abbrevs u.abbrev_offset)) 0 l) (sym left_is)
          ∙ r.entries;
    }

-- The entries by an offset and an end that are the unit's.
pub entries_there : (abbrevs : List ℕ) (w : Walked) (u : Unit) (offset place end : ℕ) (table : Table) (left : List ℕ) →
    unit_of abbrevs w ≡ Ok u →
    header_of w ≡ Ok (offset, left) → table_at abbrevs offset ≡ table → place ≡ w.place → end ≡ end_of w →
    entries_at (unit_bounds place end table) 0 left ≡ Ok u.entries
entries_there abbrevs w u offset place end table left e h t p q =
    ap (λ (k : ℕ). entries_at (unit_bounds k end table) 0 left) p
    ∙ ap (λ (k : ℕ). entries_at (unit_bounds w.place k table) 0 left) q ∙ (entries_of abbrevs w u offset table left e h t).entries

abbrev pub or_entries : List Entry → Result (List Entry) Trouble → List Entry
or_entries d (Ok l) = l
or_entries d (Err t) = d

-- The entries after the first.
pub record IsWithHead (e : Entry) (r : Result (List Entry) Trouble) (es : List Entry) : Type 0 where
  pub rest : List Entry
  pub read : r ≡ Ok rest
  pub is : es ≡ e ∷ rest

pub with_head_parts : (e : Entry) (r : Result (List Entry) Trouble) (es : List Entry) → with_head e r ≡ Ok es → IsWithHead e r es
with_head_parts e (Err t) es f = absurd (cc)
with_head_parts e (Ok xs) es f = record { rest = xs; read = refl; is = sym (ap (or_entries es) f) }

-- Units that can all be read.

pub read_at : (abbrevs : List ℕ) (ws : List Walked) (i : ℕ) (d : Walked) → AllRead abbrevs ws → i < length ws →
    (u : Unit) × (unit_of abbrevs (get_or ws i d) ≡ Ok u)
read_at abbrevs [] i d r h = absurd (omega arith)
read_at abbrevs (w ∷ ws) zero d r h = r.0
read_at abbrevs (w ∷ ws) (suc i) d r h = read_at abbrevs ws i d r.1 (omega arith)

pub oks_step : (abbrevs : List ℕ) (w : Walked) (ws : List Walked) (u : Unit) → unit_of abbrevs w ≡ Ok u →
    oks (map (unit_of abbrevs) (w ∷ ws)) ≡ u ∷ oks (map (unit_of abbrevs) ws)
oks_step abbrevs w ws u e = ap (λ (r : Result Unit Trouble). oks (r ∷ map (unit_of abbrevs) ws)) e

pub behind_less : (from less to : ℕ) (ws : List Walked) → less ≤ from → AreBehind from to ws → AreBehind less to ws
behind_less from less to [] h b = omega arith
behind_less from less to (w ∷ ws) h b = let g = b.0 in (omega arith, b.1, b.2)
