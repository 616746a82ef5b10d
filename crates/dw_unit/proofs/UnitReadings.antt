-- The result of reading one more unit.
use Rattle.std.proofs.Common.{◌≡◌, ◌∙◌, ◌++◌, ℕ, Bool, true, false, Option, Some, None, Ok, Err, Result, List, [], ◌∷◌, refl, sym, ap}
use Rattle.std.proofs.Common.{subst, map, option_map}
use Rattle.std.specs.Prelude.{flat_map, MatchOption, not, if◌then◌else◌, filter}
use Rattle.std.specs.Global.{Vec}
use Rattle.std.specs.List.{find}
use Rattle.std.specs.Option.{option_or}
use Rattle.std.proofs.lemmas.List.{append-nil, map-append}
use Rattle.std.proofs.lemmas.List.Concat.{flat_map-append}
use Rattle.std.proofs.lemmas.List.Elements.{filter-append}
use Rattle.std.proofs.lemmas.List.Folds.{find-append}
use Rattle.answer_runs.specs.Choices.{lower, least}
use Rattle.table_core.specs.ReadSteps.{oks}
use Rattle.table_core.specs.DebugUnits.{Walked, walked, first_place}
use Rattle.dw_unit.specs.declared.trouble.Trouble.{Trouble}
use Rattle.dw_unit.specs.declared.unit_reading.UnitReading.{UnitReading}
use Rattle.dw_unit.specs.declared.unit_reading.Readings.{Readings}
use Rattle.dw_unit.specs.CompUnits.{Sections, Unit, unit_of}
use Rattle.dw_unit.specs.Declarations.{Declaration, has_bad_form, has_bad_high}
use Rattle.dw_unit.specs.Faults.{declarations_of, places_with, unformed, fails, is_sound_unit, is_bad, bad_address_table}
use Rattle.dw_unit.specs.Faults.{HasDwarfFault, unit_fault_places}
use Rattle.rb_bytes.specs.FirstFault.{IsFree}
use Rattle.rb_bytes.specs.declared.fault.FaultKind.TheVariants as fault
use Rattle.rb_bytes.proofs.Results.{same_ok}
use Rattle.rb_bytes.proofs.Options.{both_none}
use Rattle.dw_unit.specs.ListedEntries.{ListedEntry, listed, listed_entries}
use Rattle.dw_unit.specs.ListedUnits.{listed_unit, plain_unit}
use Rattle.dw_unit.specs.UnitReadings.{IsBehind, IsReading, AreReadings, listed_all}
use Rattle.dw_unit.proofs.Leasts.{least-append}
use Rattle.dw_unit.proofs.SoundUnits.{sound_listed}

-- One unit

-- After a header

found_sound : (addr : List ℕ) (es : List ListedEntry) (r : Result Unit Trouble) → listed_unit r ≡ Ok es → (b : Bool) →
    is_sound_unit addr (plain_unit es) ≡ b →
    (fails (is_sound_unit addr) r ≡ not b) × (least (unformed r) ≡ None)
found_sound addr es (Ok u) e b is = (
  ap not (sym (sound_listed addr u.place u.abbrev_offset u.entries)
      ∙ ap (λ (l : List ListedEntry). is_sound_unit addr (plain_unit l)) (same_ok e) ∙ is),
  refl,
)
found_sound addr es (Err t) e b is = absurd (cc)

-- A unit that can be read, but fails a test.
pub unsound_unit : (addr : List ℕ) (u : Result Unit Trouble) (es : List ListedEntry) (x : UnitReading) → listed_unit u ≡ Ok es →
    is_sound_unit addr (plain_unit es) ≡ false → x.unformed ≡ None → x.entries ≡ None → IsBehind addr u x
unsound_unit addr u es x e t unformed_is none = let f = found_sound addr es u e false t in record {
  unformed = unformed_is ∙ sym f.1;
  entries = subst (λ o. MatchOption o (fails (is_sound_unit addr) u ≡ true)
      (λ es. (fails (is_sound_unit addr) u ≡ false) × (listed_unit u ≡ Ok es.items)))
      (sym none) f.0;
}

-- A unit that passes the test.
pub sound_unit : (addr : List ℕ) (u : Result Unit Trouble) (x : UnitReading) (es : Vec ListedEntry) → listed_unit u ≡ Ok es.items →
    is_sound_unit addr (plain_unit es.items) ≡ true → x.unformed ≡ None → x.entries ≡ Some es → IsBehind addr u x
sound_unit addr u x es e t unformed_is some = let f = found_sound addr es.items u e true t in record {
  unformed = unformed_is ∙ sym f.1;
  entries = subst (λ o. MatchOption o (fails (is_sound_unit addr) u ≡ true)
      (λ es. (fails (is_sound_unit addr) u ≡ false) × (listed_unit u ≡ Ok es.items)))
      (sym some) (f.0, e);
}

-- Several units

places_append : (test : Declaration → Bool) (xs ys : List Declaration) → places_with test (xs ++ ys) ≡ places_with test xs
    ++ places_with test ys
places_append test xs ys = ap (map (λ (d : Declaration). d.place)) (filter-append test xs ys)
    ∙ map-append (λ (d : Declaration). d.place) (filter test xs) (filter test ys)

pub flat-more : {X Y : Type 0} (f : X → List Y) (xs : List X) (x : X) → flat_map f (xs ++ x ∷ []) ≡ flat_map f xs ++ f x
flat-more f xs x = flat_map-append f xs (x ∷ []) ∙ ap (λ l. flat_map f xs ++ l) (append-nil (f x))

pub places_more : (test : Declaration → Bool) (abbrevs : List ℕ) (ws : List Walked) (w : Walked) →
    least (places_with test (flat_map (declarations_of abbrevs) (ws ++ w ∷ [])))
    ≡ lower (least (places_with test (flat_map (declarations_of abbrevs) ws))) (least (places_with test (declarations_of abbrevs w)))
places_more test abbrevs ws w =
    ap (λ (ds : List Declaration). least (places_with test ds)) (flat-more (declarations_of abbrevs) ws w)
    ∙ ap least (places_append test (flat_map (declarations_of abbrevs) ws) (declarations_of abbrevs w))
    ∙ least-append (places_with test (flat_map (declarations_of abbrevs) ws)) (places_with test (declarations_of abbrevs w))

pub unformed_more : (abbrevs : List ℕ) (ws : List Walked) (w : Walked) →
    least (flat_map (λ w. unformed (unit_of abbrevs w)) (ws ++ w ∷ []))
    ≡ lower (least (flat_map (λ w. unformed (unit_of abbrevs w)) ws)) (least (unformed (unit_of abbrevs w)))
unformed_more abbrevs ws w =
    ap least (flat-more (λ (w : Walked). unformed (unit_of abbrevs w)) ws w)
    ∙ least-append (flat_map (λ (w : Walked). unformed (unit_of abbrevs w)) ws) (unformed (unit_of abbrevs w))

first_more : (test : Walked → Bool) (ws : List Walked) (w : Walked) →
    first_place test (ws ++ w ∷ []) ≡ option_or (first_place test ws) (first_place test (w ∷ []))
first_more test ws w = ap (option_map (λ (u : Walked). u.place)) (find-append test ws (w ∷ []))
    ∙ step (find test ws) (find test (w ∷ [])) where
      step : (x y : Option Walked) → option_map (λ (u : Walked). u.place) (option_or x y) ≡ option_or
          (option_map (λ (u : Walked). u.place) x)
          (option_map (λ (u : Walked). u.place) y)
      step None y = refl
      step (Some x) y = refl

-- A unit before was bad.
pub bad_before : (test : Walked → Bool) (ws : List Walked) (w : Walked) (place : ℕ) → first_place test ws ≡ Some place →
    first_place test (ws ++ w ∷ []) ≡ Some place
bad_before test ws w place e = first_more test ws w ∙ ap (λ (o : Option ℕ). option_or o (first_place test (w ∷ []))) e

-- This unit is the first bad one.
pub bad_now : (test : Walked → Bool) (ws : List Walked) (w : Walked) → first_place test ws ≡ None → test w ≡ true →
    first_place test (ws ++ w ∷ []) ≡ Some w.place
bad_now test ws w e t = first_more test ws w ∙ ap (λ (o : Option ℕ). option_or o (first_place test (w ∷ []))) e
    ∙ ap (λ (b : Bool). option_map (λ (u : Walked). u.place) (if b then Some w else None)) t

pub still_good : (test : Walked → Bool) (ws : List Walked) (w : Walked) → first_place test ws ≡ None → test w ≡ false →
    first_place test (ws ++ w ∷ []) ≡ None
still_good test ws w e t = first_more test ws w ∙ ap (λ (o : Option ℕ). option_or o (first_place test (w ∷ []))) e
    ∙ ap (λ (b : Bool). option_map (λ (u : Walked). u.place) (if b then Some w else None)) t

pub oks-append : {X : Type 0} (xs ys : List (Result X Trouble)) → oks (xs ++ ys) ≡ oks xs ++ oks ys
oks-append [] ys = refl
oks-append (Ok x ∷ xs) ys = ap (λ l. x ∷ l) (oks-append xs ys)
oks-append (Err e ∷ xs) ys = oks-append xs ys

one_listed : (r : Result Unit Trouble) (es : List ListedEntry) → listed_unit r ≡ Ok es →
    map listed (flat_map (λ (u : Unit). u.entries) (oks (r ∷ []))) ≡ es
one_listed (Ok u) es e = ap (map listed) (append-nil u.entries) ∙ same e where
  same : ◌≡◌ {A = Result (List ListedEntry) Trouble} (Ok (map listed u.entries)) (Ok es) → map listed u.entries ≡ es
  same e = same_ok e
one_listed (Err t) es e = absurd (cc)

pub listed_more : (abbrevs : List ℕ) (ws : List Walked) (w : Walked) (es : List ListedEntry) →
    listed_unit (unit_of abbrevs w) ≡ Ok es →
    listed_all abbrevs (ws ++ w ∷ []) ≡ listed_all abbrevs ws ++ es
listed_more abbrevs ws w es e =
    let of = unit_of abbrevs in
    ap (λ (rs : List (Result Unit Trouble)). map listed (flat_map (λ (u : Unit). u.entries) (oks rs))) (map-append of ws (w ∷ []))
    ∙ ap (λ (us : List Unit). map listed (flat_map (λ (u : Unit). u.entries) us)) (oks-append (map of ws) (of w ∷ []))
    ∙ ap (map listed) (flat_map-append (λ (u : Unit). u.entries) (oks (map of ws)) (oks (of w ∷ [])))
    ∙ map-append listed (flat_map (λ (u : Unit). u.entries) (oks (map of ws))) (flat_map (λ (u : Unit). u.entries) (oks (of w ∷ [])))
    ∙ ap (λ (l : List ListedEntry). listed_all abbrevs ws ++ l) (one_listed (of w) es e)

-- One more unit

module _ (abbrevs addr : List ℕ) (ws : List Walked) (w : Walked) (r : Readings) (x : UnitReading) (y : Readings)
    (are : AreReadings abbrevs addr ws r) (is : IsReading abbrevs addr w x) (form : y.bad_form ≡ lower r.bad_form x.bad_form)
    (high : y.bad_high ≡ lower r.bad_high x.bad_high) (unformed_is : y.unformed ≡ lower r.unformed x.unformed) where
  abbrev fails_here : Walked → Bool
  fails_here w = fails (is_sound_unit addr) (unit_of abbrevs w)

  abbrev two : Option ℕ → Option ℕ → Option ℕ
  two a b = lower a b

  with_bad : y.bad ≡ first_place fails_here (ws ++ w ∷ []) → (y.bad ≡ None → y.entries.items ≡ listed_all abbrevs (ws ++ w ∷ [])) →
      AreReadings abbrevs addr (ws ++ w ∷ []) y
  with_bad bad_is entries_are = record {
    form = form ∙ ap (λ (o : Option ℕ). two o x.bad_form) are.form
        ∙ ap (two (least (places_with has_bad_form (flat_map (declarations_of abbrevs) ws)))) is.form
        ∙ sym (places_more has_bad_form abbrevs ws w);
    high = high ∙ ap (λ (o : Option ℕ). two o x.bad_high) are.high
        ∙ ap (two (least (places_with has_bad_high (flat_map (declarations_of abbrevs) ws)))) is.high
        ∙ sym (places_more has_bad_high abbrevs ws w);
    unformed = unformed_is ∙ ap (λ (o : Option ℕ). two o x.unformed) are.unformed
        ∙ ap (two (least (flat_map (λ w. unformed (unit_of abbrevs w)) ws))) is.behind.unformed ∙ sym (unformed_more abbrevs ws w);
    bad = bad_is;
    entries = entries_are;
  }

  pub bad_stays : (place : ℕ) → r.bad ≡ Some place → y.bad ≡ Some place → AreReadings abbrevs addr (ws ++ w ∷ []) y
  bad_stays place before now = with_bad (now ∙ sym (bad_before fails_here ws w place (sym are.bad ∙ before)))
      (λ none. let e : None ≡ Some place = sym none ∙ now in absurd (cc))

  entries_by : (o : Option (Vec ListedEntry)) → x.entries ≡ o → MatchOption o (fails_here w ≡ true)
      (λ es. (fails_here w ≡ false) × (listed_unit (unit_of abbrevs w) ≡ Ok es.items))
  entries_by o e = subst (λ o. MatchOption o (fails_here w ≡ true)
      (λ es. (fails_here w ≡ false) × (listed_unit (unit_of abbrevs w) ≡ Ok es.items)))
      e is.behind.entries

  pub bad_first : r.bad ≡ None → x.entries ≡ None → y.bad ≡ Some w.place → AreReadings abbrevs addr (ws ++ w ∷ []) y
  bad_first before none now = with_bad (now ∙ sym (bad_now fails_here ws w (sym are.bad ∙ before) (entries_by None none)))
      (λ none. let e : None ≡ Some w.place = sym none ∙ now in absurd (cc))

  pub good_more : (es : Vec ListedEntry) → r.bad ≡ None → x.entries ≡ Some es → y.bad ≡ None →
      y.entries.items ≡ r.entries.items ++ es.items →
      AreReadings abbrevs addr (ws ++ w ∷ []) y
  good_more es before some now more =
      let read = entries_by (Some es) some in
      with_bad (now ∙ sym (still_good fails_here ws w (sym are.bad ∙ before) read.0))
      (λ none. more ∙ ap (λ (l : List ListedEntry). l ++ es.items) (are.entries before)
      ∙ sym (listed_more abbrevs ws w es.items read.1))

-- The entries of a file without faults

pub all_listed : (s : Sections) (r : Readings) → AreReadings s.abbrevs s.addr (walked 5 s.info) r →
    IsFree (HasDwarfFault (unit_fault_places s)) →
    r.entries.items ≡ listed_entries s
all_listed s r are free = are.entries (are.bad ∙ (both_none (first_place (is_bad s) (walked 5 s.info)) (bad_address_table s.addr)
    (none (unit_fault_places s).bad refl)).0) where
      none : (o : Option ℕ) → (unit_fault_places s).bad ≡ o → o ≡ None
      none None e = refl
      none (Some place) e = absurd (free fault.DwarfFault place e)
