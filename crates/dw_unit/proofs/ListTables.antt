-- Lists found by numbers of their entries and attributes.
use Rattle.std.proofs.Common.{◌≡◌, ◌≢◌, ◌<◌, ◌^◌, ◌∙◌, ℕ, List, ◌∷◌, Bool, true, false, cond, Some, BTreeMap, nat_cmp, refl, ap}
use Rattle.std.proofs.Common.{sym, arith, option_map, inl, inr}
use Rattle.std.specs.Prelude.{◌==◌, ◌⊎◌, ◌&&◌, if◌then◌else◌}
use Rattle.std.specs.List.{find}
use Rattle.std.specs.BTreeMap.{get, is_at}
use Rattle.std.proofs.lemmas.Bool.{cases_eq, eq-eqb, ne_eqb}
use Rattle.std.proofs.lemmas.Grind.{common_steps}
use Rattle.rb_bytes.proofs.Tests.{at_key}
use Rattle.table_core.specs.declared.written.ListAt.{ListAt}
use Rattle.dw_unit.specs.EntryMoves.{is_list_of, new_list_offset}
use Rattle.dw_unit.specs.ListKeys.{Offsets, list_key}

at_same : (k : ℕ) → is_at (nat_cmp k) k ≡ true
at_same k = grind (arith, common_steps)

-- One more list in front.
pub offsets_more : (l : ListAt) (lists : List ListAt) (old new : BTreeMap ℕ ℕ) → l.attr < 2 ^ 64 → Offsets lists old →
    ((q : ℕ) → get nat_cmp new q ≡ cond (is_at (nat_cmp (list_key l.entry l.attr)) q) (Some l.offset) (get nat_cmp old q)) →
    Offsets (l ∷ lists) new
offsets_more l lists old new small before updates = λ entry attr h.
    by_entry entry attr h (cases_eq l.entry entry) (cases_eq l.attr attr) where
      found : (entry attr : ℕ) (b : Bool) → (l.entry == entry && l.attr == attr) ≡ b →
          new_list_offset (l ∷ lists) entry attr ≡ (if b then Some l.offset else new_list_offset lists entry attr)
      found entry attr true e = ap (λ (b : Bool). option_map (λ (l : ListAt). l.offset)
          (if b then Some l else find (is_list_of entry attr) lists)) e
      found entry attr false e = ap (λ (b : Bool). option_map (λ (l : ListAt). l.offset)
          (if b then Some l else find (is_list_of entry attr) lists)) e

      other : (entry attr : ℕ) → attr < 2 ^ 64 → list_key l.entry l.attr ≢ list_key entry attr →
          (l.entry == entry && l.attr == attr) ≡ false →
          get nat_cmp new (list_key entry attr) ≡ new_list_offset (l ∷ lists) entry attr
      other entry attr h ne e =
          updates (list_key entry attr)
          ∙ ap (λ (b : Bool). cond b (Some l.offset) (get nat_cmp old (list_key entry attr)))
          (at_key (list_key l.entry l.attr) (list_key entry attr) ne)
          ∙ before entry attr h ∙ sym (found entry attr false e)

      and_false : (a b : Bool) → b ≡ false → (a && b) ≡ false
      and_false true b e = e
      and_false false b e = refl

      false_and : (a b : Bool) → a ≡ false → (a && b) ≡ false
      false_and true b e = absurd (cc)
      false_and false b e = refl

      by_entry : (entry attr : ℕ) → attr < 2 ^ 64 → (l.entry ≡ entry) ⊎ (l.entry ≢ entry) → (l.attr ≡ attr) ⊎ (l.attr ≢ attr) →
          get nat_cmp new (list_key entry attr) ≡ new_list_offset (l ∷ lists) entry attr
      by_entry entry attr h (inl e) (inl f) =
          let same : list_key l.entry l.attr ≡ list_key entry attr = ap (λ (n : ℕ). list_key n l.attr) e ∙ ap (list_key entry) f in
          let both : (l.entry == entry && l.attr == attr) ≡ true = ap (λ (b : Bool). b && (l.attr == attr)) (eq-eqb l.entry entry e)
          ∙ eq-eqb l.attr attr f in
          ap (get nat_cmp new) (sym same) ∙ updates (list_key l.entry l.attr)
          ∙ ap (λ (b : Bool). cond b (Some l.offset) (get nat_cmp old (list_key l.entry l.attr))) (at_same (list_key l.entry l.attr))
          ∙ sym (found entry attr true both)
      by_entry entry attr h (inl e) (inr f) =
          other entry attr h (λ same. absurd (omega arith)) (and_false (l.entry == entry) (l.attr == attr) (ne_eqb l.attr attr f))
      by_entry entry attr h (inr e) g =
          other entry attr h (λ same. absurd (omega arith)) (false_and (l.entry == entry) (l.attr == attr) (ne_eqb l.entry entry e))
