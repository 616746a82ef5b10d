-- Units that were read: their headers, tables and entries.
use Rattle.std.proofs.Common.{◌≡◌, ◌∙◌, ℕ, List, [], ◌∷◌, Bool, true, false, Option, Some, None, Ok, Err, IsOk, Result, refl, ap, sym}
use Rattle.std.proofs.Common.{subst, length, map}
use Rattle.std.specs.Prelude.{if◌then◌else◌, not}
use Rattle.std.specs.List.{find, AllZip}
use Rattle.rb_bytes.specs.Readers.{and_then}
use Rattle.table_core.specs.ReadSteps.{oks, and_so}
use Rattle.table_core.specs.DebugUnits.{Walked}
use Rattle.dw_unit.specs.declared.trouble.Trouble.{Trouble}
use Rattle.dw_unit.specs.Trouble.{Read, sound_if}
use Rattle.dw_unit.specs.Declarations.{table_at}
use Rattle.dw_unit.specs.CompUnits.{Unit, Entry, header_at, header_of, end_of, unit_of, unit_by, entries_within}
use Rattle.dw_unit.specs.Faults.{fails}
use Rattle.dw_unit.specs.Walking.{unit_bounds}
use Rattle.dw_unit.specs.OwnPlaces.{AllRead}

pub record IsRead (abbrevs : List ℕ) (w : Walked) (u : Unit) : Type 0 where
  pub bytes : List ℕ
  pub is : w.bytes ≡ Some bytes
  pub left : List ℕ
  pub header : header_at bytes ≡ Ok (u.abbrev_offset, left)
  pub end : ℕ
  pub ends : (table_at abbrevs u.abbrev_offset).end ≡ Some end
  pub entries : entries_within (unit_bounds w.place (end_of w) (table_at abbrevs u.abbrev_offset)) (length left) 0 left ≡ Ok u.entries
  pub place : u.place ≡ w.place

module _ (abbrevs : List ℕ) (w : Walked) (bytes : List ℕ) (is : w.bytes ≡ Some bytes) (offset : ℕ) (left : List ℕ)
    (header : header_at bytes ≡ Ok (offset, left)) where
  abbrev or_unit : Unit → Result Unit Trouble → Unit
  or_unit x (Ok u) = u
  or_unit x (Err t) = x

  by_entries : (end : ℕ) (r : Result (List Entry) Trouble) (u : Unit) → (table_at abbrevs offset).end ≡ Some end →
      entries_within (unit_bounds w.place (end_of w) (table_at abbrevs offset)) (length left) 0 left ≡ r →
      and_so r (λ entries. Ok (record { place = w.place; abbrev_offset = offset; entries = entries })) ≡ Ok u → IsRead abbrevs w u
  by_entries end (Err t) u ends read e = absurd (cc)
  by_entries end (Ok es) u ends read e =
      let made : Unit = record { place = w.place; abbrev_offset = offset; entries = es } in
      subst (λ (u : Unit). IsRead abbrevs w u) (ap (or_unit made) e)
      (record { bytes = bytes; is = is; left = left; header = header; end = end; ends = ends; entries = read; place = refl })

  by_end : (o : Option ℕ) (u : Unit) → (table_at abbrevs offset).end ≡ o →
      and_so (sound_if o) (λ _. and_so (entries_within (unit_bounds w.place (end_of w) (table_at abbrevs offset)) (length left) 0 left)
      (λ entries.
      Ok (record { place = w.place; abbrev_offset = offset; entries = entries }))) ≡ Ok u → IsRead abbrevs w u
  by_end None u is e = absurd (cc)
  by_end (Some end) u is e = by_entries end (entries_within (unit_bounds w.place (end_of w) (table_at abbrevs offset))
      (length left) 0 left) u is refl e

by_header : (abbrevs : List ℕ) (w : Walked) (bytes : List ℕ) (r : Read ℕ) (u : Unit) → w.bytes ≡ Some bytes → header_at bytes ≡ r →
    and_then r (λ offset left. unit_by w.place (end_of w) offset (table_at abbrevs offset) left) ≡ Ok u → IsRead abbrevs w u
by_header abbrevs w bytes (Err t) u is header e = absurd (cc)
by_header abbrevs w bytes (Ok read) u is header e =
    by_end abbrevs w bytes is read.0 read.1 header (table_at abbrevs read.0).end u refl e

pub unit_read : (abbrevs : List ℕ) (w : Walked) (u : Unit) → unit_of abbrevs w ≡ Ok u → IsRead abbrevs w u
unit_read abbrevs w u e = by_bytes w.bytes refl e where
  by_bytes : (o : Option (List ℕ)) → w.bytes ≡ o → and_then (and_so (sound_if o) header_at)
      (λ offset left. unit_by w.place (end_of w) offset (table_at abbrevs offset) left) ≡ Ok u →
      IsRead abbrevs w u
  by_bytes None is e = absurd (cc)
  by_bytes (Some bytes) is e = by_header abbrevs w bytes (header_at bytes) u is refl e

pub header_read : (abbrevs : List ℕ) (w : Walked) (u : Unit) → unit_of abbrevs w ≡ Ok u → IsOk (header_of w)
header_read abbrevs w u e =
    let r : IsRead abbrevs w u = unit_read abbrevs w u e in
    subst (λ (o : Option (List ℕ)). IsOk (and_so (sound_if o) header_at)) (sym r.is) (subst (λ (h : Read ℕ). IsOk h) (sym r.header) refl)

-- The converse.
pub unit_again : (abbrevs : List ℕ) (w : Walked) (bytes left : List ℕ) (offset end : ℕ) (es : List Entry) → w.bytes ≡ Some bytes →
    header_at bytes ≡ Ok (offset, left) →
    (table_at abbrevs offset).end ≡ Some end → entries_within (unit_bounds w.place (end_of w) (table_at abbrevs offset))
    (length left) 0 left ≡ Ok es →
    unit_of abbrevs w ≡ Ok (record { place = w.place; abbrev_offset = offset; entries = es })
unit_again abbrevs w bytes left offset end es is header ends read =
    ap (λ (o : Option (List ℕ)). and_then (and_so (sound_if o) header_at)
    (λ offset left. unit_by w.place (end_of w) offset (table_at abbrevs offset) left)) is
    ∙ ap (λ (r : Read ℕ). and_then r (λ offset left. unit_by w.place (end_of w) offset (table_at abbrevs offset) left)) header
    ∙ ap (λ (o : Option ℕ). and_so (sound_if o) (λ _. and_so (entries_within (unit_bounds w.place (end_of w) (table_at abbrevs offset))
    (length left) 0 left) (λ entries.
    Ok (record { place = w.place; abbrev_offset = offset; entries = entries })))) ends
    ∙ ap (λ (r : Result (List Entry) Trouble). and_so r (λ entries. Ok
    (record { place = w.place; abbrev_offset = offset; entries = entries }))) read

-- Sections of which each unit can be read, and passes a test

module _ (abbrevs : List ℕ) (test : Unit → Bool) where
  abbrev pub IsGoodUnit : Walked → Unit → Type 0
  IsGoodUnit w u = (unit_of abbrevs w ≡ Ok u) × (test u ≡ true)

  none_here : (w : Walked) (ws : List Walked) → find (λ w. fails test (unit_of abbrevs w)) (w ∷ ws) ≡ None →
      (fails test (unit_of abbrevs w) ≡ false) × (find (λ w. fails test (unit_of abbrevs w)) ws ≡ None)
  none_here w ws e = step (fails test (unit_of abbrevs w)) refl e where
    step : (b : Bool) → fails test (unit_of abbrevs w) ≡ b → (if b then Some w else find (λ w. fails test (unit_of abbrevs w)) ws) ≡ None
        →
        (fails test (unit_of abbrevs w) ≡ false) × (find (λ w. fails test (unit_of abbrevs w)) ws ≡ None)
    step true f e = absurd (cc)
    step false f e = (f, e)

  passes : (b : Bool) → not b ≡ false → b ≡ true
  passes true e = refl
  passes false e = absurd (cc)

  read_here : (w : Walked) (r : Result Unit Trouble) → unit_of abbrevs w ≡ r → fails test r ≡ false → (u : Unit) × IsGoodUnit w u
  read_here w (Ok u) is f = (u, (is, passes (test u) f))
  read_here w (Err t) is f = absurd (cc)

  pub all_read : (ws : List Walked) → find (λ w. fails test (unit_of abbrevs w)) ws ≡ None →
      AllZip IsGoodUnit ws (oks (map (unit_of abbrevs) ws))
  all_read [] e = tt
  all_read (w ∷ ws) e =
      let p = none_here w ws e in
      let r = read_here w (unit_of abbrevs w) refl p.0 in
      subst (λ (x : Result Unit Trouble). AllZip IsGoodUnit (w ∷ ws) (oks (x ∷ map (unit_of abbrevs) ws))) (sym r.1.0)
      (r.1, all_read ws p.1)

  pub oks_read : (ws : List Walked) (us : List Unit) → AllZip IsGoodUnit ws us → oks (map (unit_of abbrevs) ws) ≡ us
  oks_read [] [] z = refl
  oks_read [] (u ∷ us) z = absurd z
  oks_read (w ∷ ws) [] z = absurd z
  oks_read (w ∷ ws) (u ∷ us) z =
      ap (λ (x : Result Unit Trouble). oks (x ∷ map (unit_of abbrevs) ws)) z.0.0 ∙ ap (λ (l : List Unit). u ∷ l) (oks_read ws us z.1)

  pub none_bad : (ws : List Walked) (us : List Unit) → AllZip IsGoodUnit ws us → find (λ w. fails test (unit_of abbrevs w)) ws ≡ None
  none_bad [] [] z = refl
  none_bad [] (u ∷ us) z = absurd z
  none_bad (w ∷ ws) [] z = absurd z
  none_bad (w ∷ ws) (u ∷ us) z =
      let f : fails test (unit_of abbrevs w) ≡ false = ap (fails test) z.0.0 ∙ ap not z.0.1 in
      ap (λ (b : Bool). if b then Some w else find (λ w. fails test (unit_of abbrevs w)) ws) f ∙ none_bad ws us z.1

  pub zip_read : (ws : List Walked) (us : List Unit) → AllZip IsGoodUnit ws us → AllRead abbrevs ws
  zip_read [] us z = tt
  zip_read (w ∷ ws) [] z = absurd z
  zip_read (w ∷ ws) (u ∷ us) z = ((u, z.0.0), zip_read ws us z.1)
