-- The offsets in headers are the abbreviation offsets of units.
use Rattle.std.proofs.Common.{◌≡◌, ◌∙◌, ◌<◌, ◌≤◌, ◌+◌, ⊎_elim, ℕ, zero, suc, Bool, true, false, Option, Some, None, Ok, Err}
use Rattle.std.proofs.Common.{Result, List, [], ◌∷◌, refl, sym, ap, subst, arith, length, map}
use Rattle.std.specs.Prelude.{◌==◌, ◌||◌, if◌then◌else◌, option_map}
use Rattle.std.specs.List.{find, list_any}
use Rattle.std.specs.Option.{option_or}
use Rattle.std.specs.List.Sorted.{IsStrictlyIncreasing}
use Rattle.std.proofs.lemmas.Bool.{cases_lt, eq-eqb, eqb-true}
use Rattle.std.proofs.lemmas.List.{drop_all}
use Rattle.rb_bytes.specs.Readers.{and_then}
use Rattle.rb_bytes.specs.FirstFault.{IsFree}
use Rattle.rb_bytes.specs.declared.fault.FaultKind.TheVariants as fault
use Rattle.answer_runs.proofs.Ascending.{AreBelow, among, range_filter, ascends_from}
use Rattle.table_core.specs.ReadSteps.{oks, and_so}
use Rattle.table_core.specs.DebugUnits.{Walked, walked}
use Rattle.dw_unit.specs.declared.trouble.Trouble.{Trouble}
use Rattle.dw_unit.specs.Trouble.{Read, sound_if}
use Rattle.dw_unit.specs.Declarations.{Table, table_at, table_within}
use Rattle.dw_unit.specs.CompUnits.{Sections, Unit, Entry, unit_of, unit_by, units, header_of, end_of, entries_within}
use Rattle.dw_unit.specs.Faults.{HasDwarfFault, unit_fault_places, fails, is_bad, is_sound_unit, bad_address_table}
use Rattle.dw_unit.specs.Changes.{table_offsets}
use Rattle.dw_unit.specs.NamedOffsets.{offset_read, offset_of, is_of, is_named_by}

-- A sound section's units are those of its headers, each with a table that ends.

nothing_there : (section : List ℕ) (n size : ℕ) → table_within n size [] ≡ record { list = []; end = None }
unfolding table_within
nothing_there section zero size = refl
nothing_there section (suc n) size = refl

-- A table that ends begins within the section.
pub ends_inside : (section : List ℕ) (offset end : ℕ) → (table_at section offset).end ≡ Some end → offset < length section
ends_inside section offset end e = ⊎_elim (λ (h : offset < length section). h)
    (λ (h : length section ≤ offset).
    let none : None ≡ Some end = sym (ap (λ (t : Table). t.end)
    (ap (table_within (length section) (length section)) (drop_all offset section h)
    ∙ nothing_there section (length section) (length section))) ∙ e in absurd (cc))
    (cases_lt offset (length section))

-- A unit that can be read, and its abbreviation offset.
record IsNamed (abbrevs : List ℕ) (w : Walked) (u : Unit) : Type 0 where
  offset : offset_of w ≡ Some u.abbrev_offset
  inside : u.abbrev_offset < length abbrevs

module _ (abbrevs : List ℕ) (place end : ℕ) where
  by_entries : (offset : ℕ) (r : Result (List Entry) Trouble) (u : Unit) →
      and_so r (λ entries. Ok (record { place = place; abbrev_offset = offset; entries = entries })) ≡ Ok u → u.abbrev_offset ≡ offset
  by_entries offset (Err t) u e = absurd (cc)
  by_entries offset (Ok es) u e = sym (ap (or_offset offset) e) where
    or_offset : ℕ → Result Unit Trouble → ℕ
    or_offset n (Ok u) = u.abbrev_offset
    or_offset n (Err t) = n

  by_end : (offset : ℕ) (left : List ℕ) (o : Option ℕ) (u : Unit) → (table_at abbrevs offset).end ≡ o →
      and_so (sound_if o) (λ _. and_so (entries_within (record { place = place; end = end; table = table_at abbrevs offset })
      (length left) 0 left) (λ entries.
      Ok (record { place = place; abbrev_offset = offset; entries = entries }))) ≡ Ok u →
      (u.abbrev_offset ≡ offset) × (offset < length abbrevs)
  by_end offset left None u is e = absurd (cc)
  by_end offset left (Some n) u is e = (
    by_entries offset (entries_within (record { place = place; end = end; table = table_at abbrevs offset }) (length left) 0 left) u e,
    ends_inside abbrevs offset n is,
  )

  by_header : (r : Read ℕ) (u : Unit) → and_then r (λ offset left. unit_by place end offset (table_at abbrevs offset) left) ≡ Ok u →
      (offset_read r ≡ Some u.abbrev_offset) × (u.abbrev_offset < length abbrevs)
  by_header (Err t) u e = absurd (cc)
  by_header (Ok read) u e =
      let p = by_end read.0 read.1 (table_at abbrevs read.0).end u refl e in
      (ap (λ (n : ℕ). Some n) (sym p.0), subst (λ (n : ℕ). n < length abbrevs) (sym p.0) p.1)

named_unit : (abbrevs : List ℕ) (w : Walked) (u : Unit) → unit_of abbrevs w ≡ Ok u → IsNamed abbrevs w u
named_unit abbrevs w u e = let p = by_header abbrevs w.place (end_of w) (header_of w) u e in record { offset = p.0; inside = p.1 }

module _ (abbrevs : List ℕ) (test : Unit → Bool) where
  abbrev bad : Walked → Bool
  bad w = fails test (unit_of abbrevs w)

  -- None of the units is bad.
  none_here : (w : Walked) (ws : List Walked) → find bad (w ∷ ws) ≡ None → (bad w ≡ false) × (find bad ws ≡ None)
  none_here w ws e = step (bad w) refl e where
    step : (b : Bool) → bad w ≡ b → (if b then Some w else find bad ws) ≡ None → (bad w ≡ false) × (find bad ws ≡ None)
    step true f e = absurd (cc)
    step false f e = (f, e)

  read_here : (w : Walked) (r : Result Unit Trouble) → unit_of abbrevs w ≡ r → bad w ≡ false →
      (u : Unit) × (r ≡ Ok u) × IsNamed abbrevs w u
  read_here w (Ok u) is f = (u, refl, named_unit abbrevs w u is)
  read_here w (Err t) is f = let g : true ≡ false = sym (ap (fails test) is) ∙ f in absurd (cc)

  pub named_units : (q : ℕ) (ws : List Walked) → find bad ws ≡ None →
      list_any (λ (u : Unit). u.abbrev_offset == q) (oks (map (unit_of abbrevs) ws)) ≡ is_named_by q ws
  named_units q [] e = refl
  named_units q (w ∷ ws) e =
      let p = none_here w ws e in
      let r = read_here w (unit_of abbrevs w) refl p.0 in
      let u = r.0 in
      ap (λ (x : Result Unit Trouble). list_any (λ (u : Unit). u.abbrev_offset == q) (oks (x ∷ map (unit_of abbrevs) ws))) r.1
      ∙ ap (λ (b : Bool). (u.abbrev_offset == q) || b) (named_units q ws p.1)
      ∙ sym (ap (λ (o : Option ℕ). is_of q o || is_named_by q ws) r.2.offset)

  inside_by : (offset q : ℕ) (rest b : Bool) → (offset == q) ≡ b → offset < length abbrevs → (rest ≡ true → q < length abbrevs) →
      (b || rest) ≡ true → q < length abbrevs
  inside_by offset q rest true e h f t = subst (λ (n : ℕ). n < length abbrevs) (eqb-true offset q e) h
  inside_by offset q rest false e h f t = f t

  pub named_inside : (q : ℕ) (ws : List Walked) → find bad ws ≡ None → is_named_by q ws ≡ true → q < length abbrevs
  named_inside q [] e t = absurd (cc)
  named_inside q (w ∷ ws) e t =
      let p = none_here w ws e in
      let r = read_here w (unit_of abbrevs w) refl p.0 in
      let u = r.0 in
      inside_by u.abbrev_offset q (is_named_by q ws) (u.abbrev_offset == q) refl r.2.inside (named_inside q ws p.1)
      (sym (ap (λ (o : Option ℕ). is_of q o || is_named_by q ws) r.2.offset) ∙ t)

-- The abbreviation offsets of a sound file's units

no_bad : (s : Sections) → IsFree (HasDwarfFault (unit_fault_places s)) → find (is_bad s) (walked 5 s.info) ≡ None
no_bad s free = step (find (is_bad s) (walked 5 s.info)) refl where
  step : (o : Option Walked) → find (is_bad s) (walked 5 s.info) ≡ o → o ≡ None
  step None e = refl
  step (Some w) e = absurd (free fault.DwarfFault w.place
      (ap (λ (o : Option Walked). option_or (option_map (λ (u : Walked). u.place) o) (bad_address_table s.addr)) e))

all_below : (n : ℕ) (xs : List ℕ) → ((q : ℕ) → among q xs ≡ true → q < n) → AreBelow n xs
all_below n [] h = tt
all_below n (x ∷ xs) h = (
  h x (ap (λ (b : Bool). b || among x xs) (eq-eqb x x refl)),
  all_below n xs
      (λ q e. h q (later_among (x == q) (among q xs) e)),
) where
  later_among : (a b : Bool) → b ≡ true → (a || b) ≡ true
  later_among true b e = refl
  later_among false b e = e

pub offsets_are : (s : Sections) (os : List ℕ) → IsFree (HasDwarfFault (unit_fault_places s)) → IsStrictlyIncreasing os →
    ((q : ℕ) → among q os ≡ is_named_by q (walked 5 s.info)) → table_offsets s ≡ os
offsets_are s os free up named =
    let good = no_bad s free in
    let ws : List Walked = walked 5 s.info in
    let whole : length s.abbrevs ≡ 0 + length s.abbrevs = omega arith in
    range_filter (λ q. list_any (λ (u : Unit). u.abbrev_offset == q) (units s)) (length s.abbrevs) 0 os
    (ascends_from 0 os up (λ h. omega arith))
    (subst (λ (n : ℕ). AreBelow n os) whole (all_below (length s.abbrevs) os
    (λ q e. named_inside s.abbrevs (is_sound_unit s.addr) q ws good (sym (named q) ∙ e))))
    (λ q h l. named q ∙ sym (named_units s.abbrevs (is_sound_unit s.addr) q ws good))
