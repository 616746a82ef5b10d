-- The faults of attributes' lists, with one more attribute.
use Rattle.std.proofs.Common.{◌≡◌, ◌∙◌, ◌||◌, ◌&&◌, ◌++◌, ◌∷◌, [], ℕ, Bool, true, false, List, Option, Some, sym, ap}
use Rattle.std.proofs.Common.{◌+◌, ◌<◌, append-nil, append_assoc, length, get_or, take, refl, map, filter}
use Rattle.std.proofs.lemmas.List.{take_more}
use Rattle.std.specs.Prelude.{None, if◌then◌else◌, not, is_some, flat_map, filter_map}
use Rattle.std.specs.List.{list_any, cons_option}
use Rattle.std.proofs.lemmas.List.Folds.{list_any-append}
use Rattle.std.proofs.lemmas.List.Concat.{flat_map-append}
use Rattle.answer_runs.specs.Choices.{lower, least}
use Rattle.dw_unit.specs.declared.entry.Attr.{Attr}
use Rattle.dw_unit.specs.CompUnits.{Entry, Unit}
use Rattle.dw_unit.proofs.Leasts.{least-append}
use Rattle.dw_lists.specs.declared.unit_ranges.ListFaults.{ListFaults}
use Rattle.dw_lists.specs.Faults.{table_place, lacks_offset, bad_list_tables}
use Rattle.dw_lists.specs.KnownLists.{AreNoted, lacks_list, bad_list, bad_at}
use Rattle.dw_lists.specs.Lists.{Kind, has_list, list_offset, list_at}
use Rattle.cover_lists.proofs.SmallSteps.{or_false, lower_none}

module _ (k : Kind) (section addr : List ℕ) (u : Unit) (attrs : List Attr) (a : Attr) (f g : ListFaults)
    (noted : AreNoted k section addr u attrs f) where
  noted_more : g.lacks_offset ≡ (f.lacks_offset || lacks_list k section u a) → g.bad ≡ lower f.bad (least (bad_list k section addr u a)) →
      AreNoted k section addr u (attrs ++ a ∷ []) g
  noted_more lacks bad = record {
    lacks = lacks ∙ ap (λ (b : Bool). b || lacks_list k section u a) noted.lacks
        ∙ ap (λ (b : Bool). list_any (lacks_list k section u) attrs || b) (sym (or_false (lacks_list k section u a)))
        ∙ sym (list_any-append (lacks_list k section u) attrs (a ∷ []));
    bad = bad ∙ ap (λ (o : Option ℕ). lower o (least (bad_list k section addr u a))) noted.bad
        ∙ ap (λ (l : List ℕ). lower (least (flat_map (bad_list k section addr u) attrs)) (least l))
        (sym (append-nil (bad_list k section addr u a)))
        ∙ sym (least-append (flat_map (bad_list k section addr u) attrs) (flat_map (bad_list k section addr u) (a ∷ [])))
        ∙ ap least (sym (flat_map-append (bad_list k section addr u) attrs (a ∷ [])));
  }

  module _ (at : ℕ) (named : has_list k a ≡ true) (offset : list_offset k section u a ≡ Some at) where
    lacks_none : lacks_list k section u a ≡ false
    lacks_none = λ i. named i && not (is_some (offset i))

    bad_is : bad_list k section addr u a ≡ bad_at k section addr u (Some at)
    bad_is = λ i. if named i then bad_at k section addr u (offset i) else []

    pub noted_sound : is_some (list_at k section addr u at) ≡ true → g ≡ f → AreNoted k section addr u (attrs ++ a ∷ []) g
    noted_sound some same = noted_more
        (ap (λ (x : ListFaults). x.lacks_offset) same ∙ sym (ap (λ (b : Bool). f.lacks_offset || b) lacks_none ∙ or_false f.lacks_offset))
        (ap (λ (x : ListFaults). x.bad) same ∙ sym (ap (λ (l : List ℕ). lower f.bad (least l))
        (bad_is ∙ ap (λ (b : Bool). if b then [] else table_place section at ∷ []) some) ∙ lower_none f.bad))

    pub noted_bad : is_some (list_at k section addr u at) ≡ false → g.lacks_offset ≡ f.lacks_offset →
        g.bad ≡ lower f.bad (Some (table_place section at)) →
        AreNoted k section addr u (attrs ++ a ∷ []) g
    noted_bad none lacks bad = noted_more
        (lacks ∙ sym (ap (λ (b : Bool). f.lacks_offset || b) lacks_none ∙ or_false f.lacks_offset))
        (bad ∙ sym (ap (λ (l : List ℕ). lower f.bad (least l))
        (bad_is ∙ ap (λ (b : Bool). if b then [] else table_place section at ∷ []) none)))

pub one_more : (before ats : List Attr) (i : ℕ) (d : Attr) → i < length ats →
    (before ++ take i ats) ++ get_or ats i d ∷ [] ≡ before ++ take (i + 1) ats
one_more before ats i d h =
    append_assoc before (take i ats) (get_or ats i d ∷ []) ∙ ap (λ (l : List Attr). before ++ l) (sym (take_more ats i d h))

-- All attributes of a unit, and those that refer to lists

any_filtered : (h t : Attr → Bool) (ats : List Attr) → list_any (λ a. h a && t a) ats ≡ list_any t (filter h ats)
any_filtered h t [] = refl
any_filtered h t (a ∷ ats) = step (h a) (any_filtered h t ats) where
  step : (b : Bool) → list_any (λ a. h a && t a) ats ≡ list_any t (filter h ats) →
      ((b && t a) || list_any (λ a. h a && t a) ats) ≡ list_any t (if b then a ∷ filter h ats else filter h ats)
  step true e = ap (λ (b : Bool). t a || b) e
  step false e = e

module _ (k : Kind) (section addr : List ℕ) (u : Unit) where
  abbrev bad_of : List ℕ → List ℕ
  bad_of offsets = map (table_place section) (filter (λ at. not (is_some (list_at k section addr u at))) offsets)

  abbrev offsets_of : List Attr → List ℕ
  offsets_of ats = filter_map (list_offset k section u) ats

  one_bad : (at : ℕ) (offsets rest : List ℕ) (b : Bool) → rest ≡ bad_of offsets → ((if b then [] else table_place section at ∷ []) ++ rest)
      ≡ map (table_place section) (if not b then at ∷ filter (λ at. not (is_some (list_at k section addr u at))) offsets
      else filter (λ at. not (is_some (list_at k section addr u at))) offsets)
  one_bad at offsets rest true e = e
  one_bad at offsets rest false e = ap (λ (l : List ℕ). table_place section at ∷ l) e

  bad_front : (o : Option ℕ) (offsets rest : List ℕ) → rest ≡ bad_of offsets → bad_at k section addr u o ++ rest
      ≡ bad_of (cons_option o offsets)
  bad_front None offsets rest e = e
  bad_front (Some at) offsets rest e = one_bad at offsets rest (is_some (list_at k section addr u at)) e

  bads : (ats : List Attr) → flat_map (bad_list k section addr u) ats ≡ bad_of (offsets_of (filter (has_list k) ats))
  bads [] = refl
  bads (a ∷ ats) = step (has_list k a) (bads ats) where
    step : (b : Bool) → flat_map (bad_list k section addr u) ats ≡ bad_of (offsets_of (filter (has_list k) ats)) →
        ((if b then bad_at k section addr u (list_offset k section u a) else []) ++ flat_map (bad_list k section addr u) ats)
        ≡ bad_of (offsets_of (if b then a ∷ filter (has_list k) ats else filter (has_list k) ats))
    step true e =
        bad_front (list_offset k section u a) (offsets_of (filter (has_list k) ats)) (flat_map (bad_list k section addr u) ats) e
    step false e = e

  module _ (attrs : List Attr) (f : ListFaults) (all : flat_map (λ (e : Entry). e.attrs) u.entries
      ≡ attrs) (noted : AreNoted k section addr u attrs f) where
    pub lacks_all : f.lacks_offset ≡ lacks_offset k section u
    lacks_all = noted.lacks ∙ any_filtered (has_list k) (λ a. not (is_some (list_offset k section u a))) attrs
        ∙ ap (λ (l : List Attr). list_any (λ a. not (is_some (list_offset k section u a))) (filter (has_list k) l)) (sym all)

    pub bad_all : f.bad ≡ least (bad_list_tables k section addr u)
    bad_all = noted.bad ∙ ap least (bads attrs) ∙ ap (λ (l : List Attr). least (bad_of (offsets_of (filter (has_list k) l)))) (sym all)
