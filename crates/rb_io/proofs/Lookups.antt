-- Lookups by name after one name was changed.
use Rattle.std.proofs.Common.{◌≡◌, ◌≢◌, ◌∙◌, refl, sym, ap, Bool, true, false, rules, ℕ, List, Option, None, Some, String}
use Rattle.std.specs.BTreeMap.{BTreeMap, UpdatesBy, get_by_text}
use Rattle.std.specs.Cmp.Lexicographic.{slice_cmp}
use Rattle.std.specs.Ordering.{nat_cmp}
use Rattle.std.specs.Prelude.{string_bytes, option_map, option_and_then}
use Rattle.std.specs.Str.{bytes_eq}
use Rattle.std.specs.String.{string_cmp}
use Rattle.std.specs.declared.alloc.Global.{Global}
use Rattle.rb_io.specs.Slot.{content_of, room_of}
use Rattle.rb_io.specs.Slots.{content_at, room_at}
use Rattle.rb_io.specs.declared.slot.Slot.{Slot}
use Rattle.std.proofs.lemmas.Bool.{false_from_ne_true, cond-true, cond-false}
use Rattle.std.proofs.lemmas.Map.Text.{btree_map_updates_text}
use Rattle.std.proofs.lemmas.Slice.Eq.{bytes_eq-Decides}

-- The map changed at name bs, to w.
abbrev pub ChangesAt : {Y X : Type 0} → List ℕ → BTreeMap (String Y) X → BTreeMap (String Y) X → Option X → Type 0
ChangesAt bs m n w = UpdatesBy string_cmp (λ k. slice_cmp nat_cmp bs (string_bytes k)) m n w

same_bytes : (xs ys : List ℕ) → bytes_eq xs ys ≡ true → xs ≡ ys
same_bytes xs ys test = search (rules, bytes_eq-Decides)

-- Other names are unchanged.
pub get_by_text-others : {Y X : Type 0} (m n : BTreeMap (String Y) X) (w : Option X) (bs : List ℕ) →
    ChangesAt bs m n w → (cs : List ℕ) → cs ≢ bs → get_by_text n cs ≡ get_by_text m cs
get_by_text-others m n w bs changed cs apart =
    btree_map_updates_text bs m n w changed cs
    ∙ cond-false _ _ _ (false_from_ne_true (bytes_eq bs cs) (λ test. apart (sym (same_bytes bs cs test))))

-- A component that the change keeps is the same for each name.
pub get_by_text-part : {Y X A : Type 0} (part : Option X → A) (m n : BTreeMap (String Y) X) (w : Option X) (bs : List ℕ) →
    ChangesAt bs m n w → part w ≡ part (get_by_text m bs) → (cs : List ℕ) → part (get_by_text n cs) ≡ part (get_by_text m cs)
get_by_text-part {Y = Y} {X = X} {A = A} part m n w bs changed same cs = by_test (bytes_eq bs cs) refl
  where
    by_test : (b : Bool) → bytes_eq bs cs ≡ b → part (get_by_text n cs) ≡ part (get_by_text m cs)
    by_test true test =
        ap part (btree_map_updates_text bs m n w changed cs ∙ cond-true _ _ _ test) ∙ same
        ∙ ap (λ name. part (get_by_text m name)) (same_bytes bs cs test)
    by_test false test = ap part (btree_map_updates_text bs m n w changed cs ∙ cond-false _ _ _ test)

-- A name with no room has no content.
pub content_at-none : (slots : BTreeMap (String Global) Slot) (name : List ℕ) → room_at slots name ≡ None →
    content_at slots name ≡ None
content_at-none slots name no_room = none_of (get_by_text slots name) no_room
  where
    none_of : (found : Option Slot) → option_map room_of found ≡ None → option_and_then content_of found ≡ None
    none_of None no_room = refl
    none_of (Some slot) no_room = cc
