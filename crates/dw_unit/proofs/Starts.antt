-- The starts of tables, with one more table read.
use Rattle.std.proofs.Common.{◌≡◌, ◌≢◌, ◌∙◌, ◌<◌, ◌≤◌, ◌+◌, ◌++◌, ⊎_elim, inr, ℕ, zero, suc, Bool, true, cond, Some, List, []}
use Rattle.std.proofs.Common.{◌∷◌, BTreeMap, nat_cmp, refl, sym, ap, subst, arith, length, length-append}
use Rattle.std.specs.Prelude.{slice_get}
use Rattle.std.specs.BTreeMap.{get, is_at}
use Rattle.std.proofs.lemmas.Bool.{cases_eq}
use Rattle.std.proofs.lemmas.Grind.{common_steps}
use Rattle.std.proofs.lemmas.Option.{same_Some}
use Rattle.rb_bytes.proofs.ListLemmas.{slice_get_found}
use Rattle.rb_bytes.proofs.Tests.{at_key}
use Rattle.answer_runs.specs.Choices.{least}
use Rattle.dw_unit.specs.declared.start.Start.{Start}
use Rattle.dw_unit.specs.declared.indexed_table.IndexedTable.{IndexedTable}
use Rattle.dw_unit.specs.Declarations.{Declaration, Table, table_at, has_bad_form, has_bad_high}
use Rattle.dw_unit.specs.Faults.{places_with}
use Rattle.dw_unit.specs.TableStarts.{table_from, IsFrom, IsMark, IsStart, AreStarts, AreMarked}
use Rattle.dw_unit.specs.Told.{told_table}
use Rattle.dw_unit.proofs.TableSuffixes.{table_from_declaration}

get-kept : {X : Type 0} (xs ys : List X) (i : ℕ) → i < length xs → slice_get (xs ++ ys) i ≡ slice_get xs i
get-kept [] ys i h = absurd (omega arith)
get-kept (x ∷ xs) ys zero h = refl
get-kept (x ∷ xs) ys (suc i) h = get-kept xs ys i (omega arith)

get-last : {X : Type 0} (xs : List X) (x : X) → slice_get (xs ++ x ∷ []) (length xs) ≡ Some x
get-last [] x = refl
get-last (y ∷ xs) x = get-last xs x

at_same : (k : ℕ) → is_at (nat_cmp k) k ≡ true
at_same k = grind (arith, common_steps)

module _ (section : List ℕ) (old : List IndexedTable) (t : IndexedTable) (from : ℕ) (inside : from ≤ length section)
    (read : told_table t.table ≡ table_at section from) where
  abbrev new : List IndexedTable
  new = old ++ t ∷ []

  longer : length new ≡ length old + 1
  longer = length-append old (t ∷ [])

  -- A start in a table that was there before.
  kept : (q : ℕ) (s : Start) → IsStart section old q s → IsStart section new q s
  kept q s is = record {
    within = let g = is.within in omega (arith, longer);
    table = λ x e. is.table x (sym (get-kept old (t ∷ []) s.number is.within) ∙ e);
    from = λ x e. is.from x (sym (get-kept old (t ∷ []) s.number is.within) ∙ e);
  }

  -- The table of a start in the last table read.
  last_is : (s : Start) (x : IndexedTable) → s.number ≡ length old → slice_get new s.number ≡ Some x → t ≡ x
  last_is s x n e = same_Some _ _ (sym (get-last old t) ∙ ap (slice_get new) (sym n) ∙ e)

  -- The start of another table in the last one.
  marked : (q : ℕ) (s : Start) → IsMark (told_table t.table) (length old) q s → IsStart section new q s
  marked q s is =
      let there = slice_get_found (told_table t.table).list s.index is.within in
      let d : Declaration = there.0 in
      let place_is : d.place ≡ q = is.there d there.1 in
      let begins : table_at section q ≡ table_from s.index (told_table t.table) =
      ap (table_at section) (sym place_is)
      ∙ table_from_declaration section from s.index d inside (ap (λ (t : Table). slice_get t.list s.index) (sym read) ∙ there.1)
      ∙ ap (table_from s.index) (sym read) in
      record {
        within = omega (arith, longer, is.number_is);
        table = λ x e. subst (λ (x : IndexedTable). table_at section q ≡ table_from s.index (told_table x.table))
            (last_is s x is.number_is e) begins;
        from = λ x e. subst (λ (x : IndexedTable). IsFrom (told_table x.table) s) (last_is s x is.number_is e) is.from;
      }

  -- The start of the last one itself.
  pub first : (q : ℕ) (s : Start) → table_at section q ≡ table_at section from → s.number ≡ length old → s.index ≡ 0 →
      s.form ≡ least (places_with has_bad_form (told_table t.table).list) →
      s.high ≡ least (places_with has_bad_high (told_table t.table).list) →
      IsStart section new q s
  first q s same n i f h =
      let begins : table_at section q ≡ table_from s.index (told_table t.table) =
      same ∙ sym read ∙ ap (λ (k : ℕ). table_from k (told_table t.table)) (sym i) in
      let says : IsFrom (told_table t.table) s = record {
        form = f ∙ ap (λ (k : ℕ). least (places_with has_bad_form (table_from k (told_table t.table)).list)) (sym i);
        high = h ∙ ap (λ (k : ℕ). least (places_with has_bad_high (table_from k (told_table t.table)).list)) (sym i);
      } in
      record {
        within = omega (arith, longer, n);
        table = λ x e. subst (λ (x : IndexedTable). table_at section q ≡ table_from s.index (told_table x.table))
            (last_is s x n e) begins;
        from = λ x e. subst (λ (x : IndexedTable). IsFrom (told_table x.table) s) (last_is s x n e) says;
      }

  one_of : (starts mid : BTreeMap ℕ Start) → AreStarts section old starts → AreMarked (told_table t.table) (length old) starts mid →
      AreStarts section new mid
  one_of starts mid are marks q s e = ⊎_elim
      (λ (f : get nat_cmp starts q ≡ Some s). kept q s (are q s f))
      (λ (m : IsMark (told_table t.table) (length old) q s). marked q s m)
      (marks q s e)

  pub starts_more : (starts mid last : BTreeMap ℕ Start) (offset : ℕ) (s0 : Start) → AreStarts section old starts →
      AreMarked (told_table t.table) (length old) starts mid → ((q : ℕ) →
      get nat_cmp last q ≡ cond (is_at (nat_cmp offset) q) (Some s0) (get nat_cmp mid q)) →
      IsStart section new offset s0 → AreStarts section new last
  starts_more starts mid last offset s0 are marks made is q s e = ⊎_elim
      (λ (same : offset ≡ q).
      let here : get nat_cmp last q ≡ Some s0 =
      made q ∙ ap (λ (b : Bool). cond b (Some s0) (get nat_cmp mid q)) (ap (is_at (nat_cmp offset)) (sym same) ∙ at_same offset) in
      subst (λ (s : Start). IsStart section new q s) (same_Some _ _ (sym here ∙ e)) (subst (λ (q : ℕ). IsStart section new q s0) same is))
      (λ (ne : offset ≢ q).
      one_of starts mid are marks q s (sym (made q ∙ ap (λ (b : Bool). cond b (Some s0) (get nat_cmp mid q)) (at_key offset q ne)) ∙ e))
      (cases_eq offset q)

-- One more mark.
pub mark_more : (t : Table) (number : ℕ) (old starts new : BTreeMap ℕ Start) (place : ℕ) (s0 : Start) → AreMarked t number old starts →
    ((q : ℕ) → get nat_cmp new q ≡ cond (is_at (nat_cmp place) q) (Some s0) (get nat_cmp starts q)) → IsMark t number place s0 →
    AreMarked t number old new
mark_more t number old starts new place s0 are made is q s e = ⊎_elim
    (λ (same : place ≡ q).
    let here : get nat_cmp new q ≡ Some s0 =
    made q ∙ ap (λ (b : Bool). cond b (Some s0) (get nat_cmp starts q)) (ap (is_at (nat_cmp place)) (sym same) ∙ at_same place) in
    inr (subst (λ (s : Start). IsMark t number q s) (same_Some _ _ (sym here ∙ e)) (subst (λ (q : ℕ). IsMark t number q s0) same is)))
    (λ (ne : place ≢ q). are q s (sym (made q ∙ ap (λ (b : Bool). cond b (Some s0) (get nat_cmp starts q)) (at_key place q ne)) ∙ e))
    (cases_eq place q)
