-- The lists of a unit as they are read, one offset after another.
use Rattle.std.proofs.Common.{◌≡◌, ◌≢◌, ◌∙◌, ◌==◌, ◌||◌, ◌&&◌, ◌++◌, ◌∷◌, [], ℕ, Bool, true, false, List, Option, Some, None, BTreeMap}
use Rattle.std.proofs.Common.{refl, sym, ap, arith, map, filter, append-nil, append_assoc, cond, nat_cmp, subst}
use Rattle.std.specs.Prelude.{if◌then◌else◌, filter_map, is_some}
use Rattle.std.specs.BTreeMap.{IsEmpty, get, is_at}
use Rattle.std.specs.List.{find, cons_option}
use Rattle.std.specs.Map.{lookup}
use Rattle.std.specs.Option.{option_map_or}
use Rattle.std.proofs.lemmas.Bool.{and_parts}
use Rattle.std.proofs.lemmas.Bool.Decides.{nat_tests}
use Rattle.std.proofs.lemmas.List.{map-append}
use Rattle.std.proofs.lemmas.List.Elements.{filter-append, filter_map-append}
use Rattle.std.proofs.lemmas.List.Folds.{list_any-append}
use Rattle.rb_bytes.proofs.Tests.{at_key}
use Rattle.table_core.specs.declared.form.TheConstants.{DW_FORM_sec_offset, DW_FORM_loclistx}
use Rattle.table_core.specs.AttributeForms.{is_block}
use Rattle.dw_unit.specs.declared.entry.Attr.{Attr}
use Rattle.dw_unit.specs.CompUnits.{Unit}
use Rattle.dw_unit.specs.Faults.{implies, is_located}
use Rattle.cover_lists.specs.declared.kept_list.KeptList.{KeptList}
use Rattle.dw_lists.specs.Faults.{ListSections}
use Rattle.cover_lists.specs.KeptLists.{list_says, Says, all_say}
use Rattle.dw_lists.specs.KnownLists.{location_list}
use Rattle.cover_lists.specs.ListRuns.{is_among}
use Rattle.dw_lists.specs.Lists.{locations_kind, has_list, list_offset}
use Rattle.cover_lists.specs.Located.{Located, in_force}
use Rattle.list_units.specs.ReadLists.{firsts, said_at, can_read, read_at, offsets_in, AreListed, IsOffsetAmong, is_formed, are_formed}
use Rattle.list_units.proofs.FirstOffsets.{same_of, itself, firsts_more}
use Rattle.dw_lists.proofs.RangeLists.{at_same}
use Rattle.cover_lists.proofs.SmallSteps.{or_false, or_true}

-- One more number, by whether it was there

other_is : (n m : ℕ) → n == m ≡ false → n ≢ m
other_is n m e = grind (arith, nat_tests)

among_more : (ns : List ℕ) (n q : ℕ) → is_among (ns ++ n ∷ []) q ≡ (is_among ns q || (n == q))
among_more ns n q = list_any-append (λ m. m == q) ns (n ∷ []) ∙ ap (λ (b : Bool). is_among ns q || b) (or_false (n == q))

among_again : (ns : List ℕ) (n q : ℕ) → is_among ns n ≡ true → is_among (ns ++ n ∷ []) q ≡ is_among ns q
among_again ns n q there = among_more ns n q ∙ step (n == q) refl
  where
    step : (b : Bool) → n == q ≡ b → (is_among ns q || b) ≡ is_among ns q
    step false e = or_false (is_among ns q)
    step true e = or_true (is_among ns q) ∙ sym (ap (is_among ns) (sym (same_of n q e)) ∙ there)

firsts_again : (ns : List ℕ) (n : ℕ) → is_among ns n ≡ true → firsts (ns ++ n ∷ []) ≡ firsts ns
firsts_again ns n there =
    firsts_more ns n ∙ ap (λ (b : Bool). firsts ns ++ (if b then [] else n ∷ [])) there ∙ append-nil (firsts ns)

firsts_new : (ns : List ℕ) (n : ℕ) → is_among ns n ≡ false → firsts (ns ++ n ∷ []) ≡ firsts ns ++ n ∷ []
firsts_new ns n away = firsts_more ns n ∙ ap (λ (b : Bool). firsts ns ++ (if b then [] else n ∷ [])) away

module _ (s : ListSections) (u : Unit) where
  read_append : (xs ys : List ℕ) → read_at s u (xs ++ ys) ≡ read_at s u xs ++ read_at s u ys
  read_append xs ys =
      ap (map (said_at s u)) (filter-append (can_read s u) xs ys)
      ∙ map-append (said_at s u) (filter (can_read s u) xs) (filter (can_read s u) ys)

  -- One list is read

  pub read_one : (olds : List KeptList) (l : KeptList) (ls : List Located) (at : ℕ) → location_list s u at ≡ Some ls → Says l ls →
      all_say (olds ++ l ∷ []) ≡ all_say olds ++ read_at s u (at ∷ [])
  read_one olds l ls at is says =
      map-append list_says olds (l ∷ [])
      ∙ ap (λ (x : List (ℕ → List (List ℕ))). all_say olds ++ x)
      ((λ i. (λ (a : ℕ). says a i) ∷ [])
      ∙ sym (ap (λ (b : Bool). map (said_at s u) (if b then at ∷ [] else [])) (ap is_some is)
      ∙ ap (λ (o : Option (List Located)). (λ (a : ℕ). option_map_or (λ ls. in_force ls a) o []) ∷ []) is))

  pub read_none : (olds : List KeptList) (at : ℕ) → location_list s u at ≡ None → all_say olds ≡ all_say olds ++ read_at s u (at ∷ [])
  read_none olds at is =
      sym (ap (λ (o : Option (List Located)). all_say olds ++ map (said_at s u) (if is_some o then at ∷ [] else [])) is
      ∙ append-nil (all_say olds))

  -- Nothing is known yet.
  pub listed_none : (lists : List KeptList) (known : BTreeMap ℕ (Option ℕ)) → IsEmpty known → AreListed s u [] lists lists known
  listed_none lists known empty = record {
    keys = λ at. ap (λ (es : List (ℕ × Option ℕ)). is_some (lookup (is_at (nat_cmp at)) es)) empty;
    kept = sym (append-nil (all_say lists));
  }

  -- A list that is known.
  pub listed_again : (offsets : List ℕ) (first lists : List KeptList) (known : BTreeMap ℕ (Option ℕ)) (at : ℕ) →
      is_some (get nat_cmp known at) ≡ true → AreListed s u offsets first lists known → AreListed s u (offsets ++ at ∷ []) first lists known
  listed_again offsets first lists known at there x =
      let among : is_among offsets at ≡ true = sym (x.keys at) ∙ there in
      record {
        keys = λ q. x.keys q ∙ sym (among_again offsets at q among);
        kept = x.kept ∙ ap (λ (l : List ℕ). all_say first ++ read_at s u l) (sym (firsts_again offsets at among));
      }

  -- A list that was referred to before.
  pub listed_still : (offsets : List ℕ) (first lists : List KeptList) (known : BTreeMap ℕ (Option ℕ)) (at : ℕ) →
      is_among offsets at ≡ true → AreListed s u (offsets ++ at ∷ []) first lists known → AreListed s u offsets first lists known
  listed_still offsets first lists known at among x = record {
    keys = λ q. x.keys q ∙ among_again offsets at q among;
    kept = x.kept ∙ ap (λ (l : List ℕ). all_say first ++ read_at s u l) (firsts_again offsets at among);
  }

  -- A list that is read.
  pub listed_new : (offsets : List ℕ) (first olds news : List KeptList) (was known : BTreeMap ℕ (Option ℕ)) (at : ℕ) (o : Option ℕ) →
      get nat_cmp was at ≡ None → ((q : ℕ) → get nat_cmp known q ≡ cond (is_at (nat_cmp at) q) (Some o) (get nat_cmp was q)) →
      all_say news ≡ all_say olds ++ read_at s u (at ∷ []) → AreListed s u offsets first olds was →
      AreListed s u (offsets ++ at ∷ []) first news known
  listed_new offsets first olds news was known at o none made read x =
      let away : is_among offsets at ≡ false = sym (x.keys at) ∙ ap is_some none in
      record {
        keys = λ q. ap is_some (made q) ∙ key q (at == q) refl ∙ sym (among_more offsets at q);
        kept = read ∙ ap (λ (l : List (ℕ → List (List ℕ))). l ++ read_at s u (at ∷ [])) x.kept
            ∙ append_assoc (all_say first) (read_at s u (firsts offsets)) (read_at s u (at ∷ []))
            ∙ ap (λ (l : List (ℕ → List (List ℕ))). all_say first ++ l)
            (sym (read_append (firsts offsets) (at ∷ [])) ∙ ap (read_at s u) (sym (firsts_new offsets at away)));
      }
    where
      key : (q : ℕ) (b : Bool) → at == q ≡ b → is_some (cond (is_at (nat_cmp at) q) (Some o) (get nat_cmp was q)) ≡
          (is_among offsets q || (at == q))
      key q true e =
          ap (λ (k : ℕ). is_some (cond (is_at (nat_cmp at) k) (Some o) (get nat_cmp was k))) (sym (same_of at q e))
          ∙ ap (λ (b : Bool). is_some (cond b (Some o) (get nat_cmp was at))) (at_same at)
          ∙ sym (ap (λ (b : Bool). is_among offsets q || b) e ∙ or_true (is_among offsets q))
      key q false e =
          ap (λ (b : Bool). is_some (cond b (Some o) (get nat_cmp was q))) (at_key at q (other_is at q e)) ∙ x.keys q
          ∙ sym (ap (λ (b : Bool). is_among offsets q || b) e ∙ or_false (is_among offsets q))

  -- attributes

  offsets_append : (xs ys : List Attr) → offsets_in s u (xs ++ ys) ≡ offsets_in s u xs ++ offsets_in s u ys
  offsets_append xs ys =
      ap (filter_map (list_offset locations_kind s.locations u)) (filter-append (has_list locations_kind) xs ys)
      ∙ filter_map-append (list_offset locations_kind s.locations u) (filter (has_list locations_kind) xs)
      (filter (has_list locations_kind) ys)

  module _ (attrs : List Attr) (a : Attr) where
    pub offsets_past : has_list locations_kind a ≡ false → offsets_in s u (attrs ++ a ∷ []) ≡ offsets_in s u attrs
    offsets_past past =
        offsets_append attrs (a ∷ [])
        ∙ ap (λ (b : Bool). offsets_in s u attrs ++ filter_map (list_offset locations_kind s.locations u) (if b then a ∷ [] else [])) past
        ∙ append-nil (offsets_in s u attrs)

    one_offset : (o : Option ℕ) → has_list locations_kind a ≡ true → list_offset locations_kind s.locations u a ≡ o →
        offsets_in s u (attrs ++ a ∷ []) ≡ offsets_in s u attrs ++ cons_option o []
    one_offset o names offset =
        offsets_append attrs (a ∷ [])
        ∙ ap (λ (b : Bool). offsets_in s u attrs ++ filter_map (list_offset locations_kind s.locations u) (if b then a ∷ [] else [])) names
        ∙ ap (λ (o : Option ℕ). offsets_in s u attrs ++ cons_option o []) offset

    pub offsets_none : has_list locations_kind a ≡ true → list_offset locations_kind s.locations u a ≡ None →
        offsets_in s u (attrs ++ a ∷ []) ≡ offsets_in s u attrs
    offsets_none names offset = one_offset None names offset ∙ append-nil (offsets_in s u attrs)

    pub offsets_one : (at : ℕ) → has_list locations_kind a ≡ true → list_offset locations_kind s.locations u a ≡ Some at →
        offsets_in s u (attrs ++ a ∷ []) ≡ offsets_in s u attrs ++ at ∷ []
    offsets_one at names offset = one_offset (Some at) names offset

  -- The list of an attribute is counted with the others.

  pub names_list : (a : Attr) → is_located a.name ≡ true → is_formed a ≡ true → is_block a.form ≡ false → has_list locations_kind a ≡ true
  names_list a name formed block =
      ap (λ (b : Bool). b && (a.form == DW_FORM_sec_offset || a.form == DW_FORM_loclistx)) name
      ∙ sym (λ i. implies (name i) (block i || a.form == DW_FORM_sec_offset || a.form == DW_FORM_loclistx)) ∙ formed

  among_there : (a : Attr) (attrs : List Attr) (at : ℕ) → has_list locations_kind a ≡ true →
      list_offset locations_kind s.locations u a ≡ Some at →
      is_among (offsets_in s u (a ∷ attrs)) at ≡ true
  among_there a attrs at names offset =
      ap (λ (b : Bool). is_among (filter_map (list_offset locations_kind s.locations u)
      (if b then a ∷ filter (has_list locations_kind) attrs else filter (has_list locations_kind) attrs)) at) names
      ∙ ap (λ (o : Option ℕ). is_among (cons_option o (offsets_in s u attrs)) at) offset
      ∙ ap (λ (b : Bool). b || is_among (offsets_in s u attrs) at) (itself at)

  among_behind : (a : Attr) (attrs : List Attr) (at : ℕ) → is_among (offsets_in s u attrs) at ≡ true →
      is_among (offsets_in s u (a ∷ attrs)) at ≡ true
  among_behind a attrs at there = step (has_list locations_kind a)
    where
      by_offset : (o : Option ℕ) → is_among (cons_option o (offsets_in s u attrs)) at ≡ true
      by_offset None = there
      by_offset (Some n) = ap (λ (b : Bool). (n == at) || b) there ∙ or_true (n == at)

      step : (b : Bool) → is_among (filter_map (list_offset locations_kind s.locations u)
          (if b then a ∷ filter (has_list locations_kind) attrs else filter (has_list locations_kind) attrs)) at ≡ true
      step true = by_offset (list_offset locations_kind s.locations u a)
      step false = there

  found_among : (name : ℕ) (attrs : List Attr) (a : Attr) → is_located name ≡ true → are_formed attrs ≡ true →
      find (λ (x : Attr). x.name == name) attrs ≡ Some a → IsOffsetAmong s u (offsets_in s u attrs) a
  found_among name [] a located formed found = absurd (cc)
  found_among name (x ∷ attrs) a located formed found =
      let formed_both = and_parts (is_formed x) (are_formed attrs) formed in
      step (x.name == name) refl found (λ f. found_among name attrs a located formed_both.1 f) formed_both.0
    where
      same_some : {X : Type 0} (y z : X) → Some y ≡ Some z → y ≡ z
      same_some y z e = cc

      step : (b : Bool) → x.name == name ≡ b → (if b then Some x else find (λ (x : Attr). x.name == name) attrs) ≡ Some a →
          (find (λ (x : Attr). x.name == name) attrs ≡ Some a → IsOffsetAmong s u (offsets_in s u attrs) a) → is_formed x ≡ true →
          IsOffsetAmong s u (offsets_in s u (x ∷ attrs)) a
      step true e f ih good = λ block at offset.
          let same : x ≡ a = same_some x a f in
          let named : is_located x.name ≡ true = ap is_located (same_of x.name name e) ∙ located in
          among_there x attrs at (names_list x named good (ap (λ (y : Attr). is_block y.form) same ∙ block))
          (ap (λ (y : Attr). list_offset locations_kind s.locations u y) same ∙ offset)
      step false e f ih good = λ block at offset. among_behind x attrs at (ih f block at offset)

  -- An attribute that is found is a location, in a form that is read.
  pub found_formed : (name : ℕ) (attrs : List Attr) (a : Attr) → is_located name ≡ true → are_formed attrs ≡ true →
      find (λ (x : Attr). x.name == name) attrs ≡ Some a → (is_located a.name ≡ true) × (is_formed a ≡ true)
  found_formed name [] a located formed found = absurd (cc)
  found_formed name (x ∷ attrs) a located formed found =
      let formed_both = and_parts (is_formed x) (are_formed attrs) formed in
      step (x.name == name) refl found (λ f. found_formed name attrs a located formed_both.1 f) formed_both.0
    where
      same_some : {X : Type 0} (y z : X) → Some y ≡ Some z → y ≡ z
      same_some y z e = cc

      step : (b : Bool) → x.name == name ≡ b → (if b then Some x else find (λ (x : Attr). x.name == name) attrs) ≡ Some a →
          (find (λ (x : Attr). x.name == name) attrs ≡ Some a → (is_located a.name ≡ true) × (is_formed a ≡ true)) → is_formed x ≡ true →
          (is_located a.name ≡ true) × (is_formed a ≡ true)
      step true e f ih good =
          let same : x ≡ a = same_some x a f in (
            sym (ap (λ (y : Attr). is_located y.name) same) ∙ ap is_located (same_of x.name name e) ∙ located,
            subst (λ (y : Attr). is_formed y ≡ true) same good,
          )
      step false e f ih good = ih f

  pub named_among : (before attrs : List Attr) (name : ℕ) (a : Attr) → is_located name ≡ true → are_formed attrs ≡ true →
      find (λ (x : Attr). x.name == name) attrs ≡ Some a → IsOffsetAmong s u (offsets_in s u (before ++ attrs)) a
  named_among before attrs name a located formed found = λ block at offset.
      ap (λ (l : List ℕ). is_among l at) (offsets_append before attrs)
      ∙ list_any-append (λ m. m == at) (offsets_in s u before) (offsets_in s u attrs)
      ∙ ap (λ (b : Bool). is_among (offsets_in s u before) at || b) (found_among name attrs a located formed found block at offset)
      ∙ or_true (is_among (offsets_in s u before) at)
