-- Attributes with names that no rewrite changes are the same in the written file.
use Rattle.std.proofs.Common.{◌≡◌, ◌∙◌, ℕ, ◌+◌, Bool, true, false, List, [], ◌∷◌, ◌++◌, Option, Some, None, refl, sym, ap, subst}
use Rattle.std.specs.Prelude.{◌==◌, ◌&&◌, ◌||◌, not, flat_map, unwrap_or, if◌then◌else◌}
use Rattle.std.specs.List.{find}
use Rattle.std.specs.Option.{option_or}
use Rattle.std.proofs.lemmas.Bool.{eqb-true, eq-eqb}
use Rattle.answer_runs.specs.CarriedAnswers.{Agree}
use Rattle.table_core.specs.declared.form.TheConstants.{DW_FORM_addr, DW_FORM_string, DW_FORM_sec_offset, DW_FORM_data4}
use Rattle.table_core.specs.declared.written.TheConstants.{DW_AT_stmt_list}
use Rattle.dw_unit.specs.declared.entry.Attr.{Attr}
use Rattle.dw_unit.specs.declared.attribute.TheConstants as at
use Rattle.dw_unit.specs.Declarations.{has_spec}
use Rattle.dw_unit.specs.EntryMoves.{Moves, moved_address, new_list_offset}
use Rattle.dw_unit.specs.CompUnits.{Entry, value_bytes}
use Rattle.dw_unit.specs.Changes.{changed_attr, ranges_attrs, keeps_low, names_base, new_address, new_list, new_name, new_value}
use Rattle.dw_unit.specs.Changes.{no_line_unit}
use Rattle.inline_frames.proofs.KeptChains.{IsKeptAttr, IsPlain, IsStable}
use Rattle.inline_frames.proofs.Pairs.{AllOf, agree_to}

-- Tests of names.

flip : (a b : ℕ) → (a == b) ≡ false → (b == a) ≡ false
flip a b e = by (b == a) refl
  where
    by : (t : Bool) → (b == a) ≡ t → (b == a) ≡ false
    by false h = h
    by true h = absurd (contra (eq-eqb a b (sym (eqb-true b a h))))
      where
        contra : (a == b) ≡ true → ⊥
        contra g = absurd (cc)

-- A name other than `n`.
apart : (n x c : ℕ) → (x == c) ≡ true → (c == n) ≡ false → (x == n) ≡ false
apart n x c is other = ap (λ z. z == n) (eqb-true x c is) ∙ other

-- The name `n` is no other name.
is_other : (n x c : ℕ) → (x == n) ≡ true → (c == n) ≡ false → (x == c) ≡ false
is_other n x c is other = ap (λ z. z == c) (eqb-true x n is) ∙ flip c n other

find_skip : {A : Type 0} (t : A → Bool) (x : A) (xs : List A) → t x ≡ false → find t (x ∷ xs) ≡ find t xs
find_skip t x xs e = ap (λ b. if b then Some x else find t xs) e

-- The bytes of a text in an entry are kept.
abbrev pub KeepsText : List ℕ → List ℕ → Attr → Type 0
KeepsText i f a = (a.form == DW_FORM_string) ≡ true → (a.name == at.DW_AT_high_pc) ≡ false → value_bytes f a ≡ value_bytes i a

module _ (m : Moves) (own first : Bool) (e : Entry) (i f : List ℕ) (n : ℕ) where
  abbrev pub changed : Attr → Attr
  changed a = record {
    name = new_name own e.declaration a.name;
    form = a.form;
    place = a.place;
    len = a.len;
    value = unwrap_or (new_value m own first e a) a.value;
  }

  abbrev named : Attr → Bool
  named a = a.name == n

  -- An attribute with the name, and the attribute that it became.
  pub record IsChanged (a b : Attr) : Type 0 where
    pub is : b ≡ changed a
    pub name : named a ≡ true
    pub text : KeepsText i f a

  module _ (stable : IsStable n) where
    -- The new name is `n` if and only if the old one is.
    name_test : (x : ℕ) → (new_name own e.declaration x == n) ≡ (x == n)
    name_test x = by (x == at.DW_AT_low_pc) (has_spec at.DW_AT_high_pc e.declaration) (not (keeps_low own e.declaration))
        (has_spec at.DW_AT_entry_pc e.declaration) (x == at.DW_AT_macros) (x == at.DW_AT_GNU_locviews)
        (λ is. apart n x at.DW_AT_low_pc is stable.low) (λ is. apart n x at.DW_AT_macros is stable.macros)
        (λ is. apart n x at.DW_AT_GNU_locviews is stable.views)
      where
        by : (b1 b2 b3 b4 b5 b6 : Bool) → (b1 ≡ true → (x == n) ≡ false) → (b5 ≡ true → (x == n) ≡ false) →
            (b6 ≡ true → (x == n) ≡ false) →
            ((if b1 && b2 && b3 then (if b4 then at.DW_AT_unused_low else at.DW_AT_entry_pc)
            else (if b5 || b6 then at.DW_AT_unused_table else x)) == n) ≡ (x == n)
        by true true true true b5 b6 l v w = stable.unused_low ∙ sym (l refl)
        by true true true false b5 b6 l v w = stable.entry ∙ sym (l refl)
        by true true false b4 true b6 l v w = stable.unused_table ∙ sym (l refl)
        by true true false b4 false true l v w = stable.unused_table ∙ sym (l refl)
        by true true false b4 false false l v w = refl
        by true false b3 b4 true b6 l v w = stable.unused_table ∙ sym (l refl)
        by true false b3 b4 false true l v w = stable.unused_table ∙ sym (l refl)
        by true false b3 b4 false false l v w = refl
        by false b2 b3 b4 true b6 l v w = stable.unused_table ∙ sym (v refl)
        by false b2 b3 b4 false true l v w = stable.unused_table ∙ sym (w refl)
        by false b2 b3 b4 false false l v w = refl

    -- The ranges in place of a high address have other names.
    ranges_skipped : (a : Attr) (xs : List Attr) → find named (ranges_attrs m e a ++ xs) ≡ find named xs
    ranges_skipped a xs = by (a.len == 8)
      where
        unused : Attr
        unused = record { name = at.DW_AT_unused_high; form = DW_FORM_data4; place = a.place + 4; len = 4; value = 0 }

        ranges : Attr
        ranges = record {
          name = at.DW_AT_ranges;
          form = DW_FORM_sec_offset;
          place = a.place;
          len = 4;
          value = unwrap_or (new_list_offset m.lists e.place at.DW_AT_ranges) 0;
        }

        by : (b : Bool) → find named (record {
          name = at.DW_AT_ranges;
          form = DW_FORM_sec_offset;
          place = a.place;
          len = 4;
          value = unwrap_or (new_list_offset m.lists e.place at.DW_AT_ranges) 0;
        } ∷ (if b then record { name = at.DW_AT_unused_high; form = DW_FORM_data4; place = a.place + 4; len = 4; value = 0 } ∷ [] else [])
            ++ xs)
            ≡ find named xs
        by true = find_skip named _ (_ ∷ xs) stable.ranges ∙ find_skip named _ xs stable.unused_high
        by false = find_skip named _ xs stable.ranges

    pub found_changed : (xs : List Attr) → AllOf (KeepsText i f) xs →
        Agree IsChanged (find named xs) (find named (flat_map (changed_attr m own first e) xs))
    found_changed [] texts = tt
    found_changed (a ∷ xs) texts = by (a.name == at.DW_AT_high_pc) refl (found_changed xs texts.1)
      where
        one : (b c : Bool) → named a ≡ b → c ≡ b →
            Agree IsChanged (find named xs) (find named (flat_map (changed_attr m own first e) xs)) →
            Agree IsChanged (if b then Some a else find named xs)
            (if c then Some (changed a) else find named (flat_map (changed_attr m own first e) xs))
        one true true is q more = record { is = refl; name = is; text = texts.0 }
        one false false is q more = more
        one true false is q more = absurd (cc)
        one false true is q more = absurd (cc)

        by : (b : Bool) → (a.name == at.DW_AT_high_pc) ≡ b →
            Agree IsChanged (find named xs) (find named (flat_map (changed_attr m own first e) xs)) →
            Agree IsChanged (find named (a ∷ xs))
            (find named ((if b then ranges_attrs m e a else changed a ∷ []) ++ flat_map (changed_attr m own first e) xs))
        by true is more =
            subst (λ o. Agree IsChanged (find named (a ∷ xs)) o) (sym (ranges_skipped a (flat_map (changed_attr m own first e) xs)))
            (subst (λ o. Agree IsChanged o (find named (flat_map (changed_attr m own first e) xs)))
            (sym (find_skip named a xs (apart n a.name at.DW_AT_high_pc is stable.high))) more)
        by false is more = one (named a) (named (changed a)) refl (name_test a.name) more

    -- It is kept as a text.
    text_kept : (a b : Attr) → IsChanged a b → (a.form == DW_FORM_string) ≡ true → value_bytes f b ≡ value_bytes i a
    text_kept a b h is =
        ap (value_bytes f) h.is ∙ h.text is (is_other n a.name at.DW_AT_high_pc h.name stable.high)

  module _ (plain : IsPlain n) where
    -- It gets no list.
    no_list : (a : Attr) → named a ≡ true → new_list m first e a ≡ None
    no_list a is = by (a.name == DW_AT_stmt_list) (a.name == at.DW_AT_ranges) (a.name == at.DW_AT_location)
        (a.name == at.DW_AT_frame_base) (a.name == at.DW_AT_rnglists_base) (a.name == at.DW_AT_loclists_base)
        (is_other n a.name DW_AT_stmt_list is plain.stmt) (is_other n a.name at.DW_AT_ranges is plain.stable.ranges)
        (is_other n a.name at.DW_AT_location is plain.location) (is_other n a.name at.DW_AT_frame_base is plain.frame_base)
        (is_other n a.name at.DW_AT_rnglists_base is plain.rnglists) (is_other n a.name at.DW_AT_loclists_base is plain.loclists)
      where
        by : (b1 b2 b3 b4 b5 b6 : Bool) → b1 ≡ false → b2 ≡ false → b3 ≡ false → b4 ≡ false → b5 ≡ false → b6 ≡ false →
            (if b1 then Some (unwrap_or (new_list_offset m.lists a.value DW_AT_stmt_list) no_line_unit)
            else (if b2 || (b3 || b4) then new_list_offset m.lists e.place a.name
            else (if (b5 || b6) && first then new_list_offset m.lists e.place a.name else None))) ≡ None
        by false false false false false false e1 e2 e3 e4 e5 e6 = refl
        by true b2 b3 b4 b5 b6 e1 e2 e3 e4 e5 e6 = absurd (cc)
        by false true b3 b4 b5 b6 e1 e2 e3 e4 e5 e6 = absurd (cc)
        by false false true b4 b5 b6 e1 e2 e3 e4 e5 e6 = absurd (cc)
        by false false false true b5 b6 e1 e2 e3 e4 e5 e6 = absurd (cc)
        by false false false false true b6 e1 e2 e3 e4 e5 e6 = absurd (cc)
        by false false false false false true e1 e2 e3 e4 e5 e6 = absurd (cc)

    -- A base gets no new address, nor does a value that is no address.
    value_kept : (a : Attr) → named a ≡ true → (a.form == DW_FORM_addr && not (names_base a.name)) ≡ false →
        unwrap_or (new_value m own first e a) a.value ≡ a.value
    value_kept a is other =
        ap (λ (o : Option ℕ). unwrap_or (if a.form == DW_FORM_addr then new_address m own e a
        else (if a.form == DW_FORM_sec_offset then o else None)) a.value) (no_list a is)
        ∙ by (a.form == DW_FORM_addr) (a.form == DW_FORM_sec_offset) (names_base a.name) (a.name == at.DW_AT_low_pc) other
        (is_other n a.name at.DW_AT_low_pc is plain.stable.low)
      where
        by : (b c base low : Bool) → (b && not base) ≡ false → low ≡ false →
            unwrap_or (if b then (if low && own && has_spec at.DW_AT_high_pc e.declaration then Some 0
            else (if base then None
            else (if a.name == at.DW_AT_call_return_pc then option_or (m.call_end a.value) (moved_address m a.value)
            else moved_address m a.value))) else (if c then None else None)) a.value ≡ a.value
        by true c true false e1 e2 = refl
        by true c false low e1 e2 = absurd (cc)
        by true c true true e1 e2 = absurd (cc)
        by false true base low e1 e2 = refl
        by false false base low e1 e2 = refl

    pub attr_kept : (a b : Attr) → IsChanged a b → IsKeptAttr i f a b
    attr_kept a b h = record {
      form = ap (λ (x : Attr). x.form) h.is;
      len = ap (λ (x : Attr). x.len) h.is;
      value = λ other. ap (λ (x : Attr). x.value) h.is ∙ value_kept a h.name other;
      text = text_kept plain.stable a b h;
    }

    pub find_kept : (xs : List Attr) → AllOf (KeepsText i f) xs →
        Agree (IsKeptAttr i f) (find named xs) (find named (flat_map (changed_attr m own first e) xs))
    find_kept xs texts =
        agree_to IsChanged (IsKeptAttr i f) attr_kept (find named xs) (find named (flat_map (changed_attr m own first e) xs))
        (found_changed plain.stable xs texts)
