-- The offsets of the lists of entries whose ranges were written, by the runs of each in its order.
use Rattle.std.proofs.Common.{◌≡◌, ◌∙◌, ◌+◌, ◌*◌, ◌^◌, ◌<◌, ◌≤◌, ◌∷◌, [], ℕ, Bool, true, List, Option, Some, None, refl, sym, ap}
use Rattle.std.proofs.Common.{subst, arith, map, All, ⊎_elim}
use Rattle.std.specs.Prelude.{Contains}
use Rattle.std.specs.Global.{Vec}
use Rattle.byteorder.specs.Endian.{little_bytes}
use Rattle.rb_bytes.proofs.Members.{Contains-nil, Contains-cons_cases, Contains-there}
use Rattle.answer_runs.specs.declared.run.Run.{Run}
use Rattle.table_core.specs.declared.written.ListAt.{ListAt}
use Rattle.table_core.specs.WrittenUnits.{IsUnit, units_bytes}
use Rattle.dw_unit.specs.EntryMoves.{new_list_offset}
use Rattle.answer_runs.proofs.Ascending.{Ascends}
use Rattle.cover_lists.specs.declared.groups.RangedEntry.{RangedEntry}
use Rattle.dw_lists.specs.declared.indexed_unit.IndexedUnit.{IndexedUnit}
use Rattle.dw_lists.specs.declared.list_kind.ListKind.TheVariants.{Ranges}
use Rattle.dw_lists.specs.declared.named_list.NamedList.{NamedList}
use Rattle.dw_lists.specs.Faults.{is_list_table}
use Rattle.list_writer.specs.WrittenRanges.{named_by, runs_bytes}
use Rattle.list_writer.specs.WrittenTables.{bytes_in, key, AreInOrder, StandsAt, AreWritten}
use Rattle.list_writer.specs.WrittenTables as tables
use Rattle.range_loc_rewrite.proofs.KeptEntries.{kept_place}

-- An entry finds its list by the list's offset; or by its index and the base of its unit, at which the list of an entry
-- with the same index is found.
abbrev pub IsNamed : (RangedEntry → List (Run Bool)) → List (List ℕ) → List ListAt → List RangedEntry → RangedEntry → Option ℕ → Type 0
IsNamed order tables names all r None =
    (at : ℕ) × (new_list_offset names r.place 0x55 ≡ Some at) × StandsAt tables at (runs_bytes (order r))
IsNamed order tables names all r (Some i) =
    (base : ℕ) × (o : ℕ) × (like : RangedEntry) × (new_list_offset names r.own 0x74 ≡ Some base)
    × StandsAt tables (base + 4 * i) (little_bytes 4 o) × (o < 2 ^ 32) × (like.own ≡ r.own) × (like.index ≡ Some i)
    × Contains all like × StandsAt tables (base + o) (runs_bytes (order like))

pub record AreNamed (order : RangedEntry → List (Run Bool)) (kept : List RangedEntry) (bytes : List ℕ) (names : List ListAt) : Type 0 where
  pub tables : List (List ℕ)
  pub bytes_are : bytes ≡ units_bytes tables
  pub units : All (IsUnit 5) tables
  pub sound : All (λ b. is_list_table b ≡ true) tables
  pub each : (r : RangedEntry) → Contains kept r → IsNamed order tables names kept r r.index

pub contains_map : (number : RangedEntry → ℕ) (kept : List RangedEntry) (r : RangedEntry) → Contains kept r →
    Contains (map (named_by number) kept) (named_by number r)
contains_map number [] r c = absurd (Contains-nil r c)
contains_map number (x ∷ kept) r c = ⊎_elim
    (λ (same : x ≡ r). (0, omega arith, ap (named_by number) same))
    (λ (there : Contains kept r).
    Contains-there (named_by number x) (map (named_by number) kept) (named_by number r) (contains_map number kept r there))
    (Contains-cons_cases x kept r c)

pub map_contains : (number : RangedEntry → ℕ) (kept : List RangedEntry) (n : NamedList) → Contains (map (named_by number) kept) n →
    (r : RangedEntry) × Contains kept r × (named_by number r ≡ n)
map_contains number [] n c = absurd (Contains-nil n c)
map_contains number (x ∷ kept) n c = ⊎_elim
    (λ (same : named_by number x ≡ n). (x, (0, omega arith, refl), same))
    (λ (there : Contains (map (named_by number) kept) n).
    let p = map_contains number kept n there in (p.0, Contains-there x kept p.0 p.1, p.2))
    (Contains-cons_cases (named_by number x) (map (named_by number) kept) n c)

module _ (bs : List (Vec ℕ)) (order : RangedEntry → List (Run Bool)) (number : RangedEntry → ℕ) (kept : List RangedEntry)
    (bytes : List ℕ) (names : List ListAt)
    (us : List IndexedUnit) (w : AreWritten Ranges bs (map (named_by number) kept) us bytes names)
    (same : (r : RangedEntry) → Contains kept r → bytes_in bs (number r) ≡ runs_bytes (order r)) where
  kept_named : (r : RangedEntry) → Contains kept r → (i : Option ℕ) →
      tables.IsNamed Ranges bs w.tables names (map (named_by number) kept) (named_by number r) i →
      IsNamed order w.tables names kept r i
  kept_named r c None n = (n.0, n.1, subst (StandsAt w.tables n.0) (same r c) n.2)
  kept_named r c (Some i) n =
      let q = map_contains number kept n.2 n.8 in (
        n.0,
        n.1,
        q.0,
        n.3,
        n.4,
        n.5,
        ap (λ (x : NamedList). x.own) q.2 ∙ n.6,
        ap (λ (x : NamedList). x.index) q.2 ∙ n.7,
        q.1,
        subst (StandsAt w.tables (n.0 + n.1)) (ap (λ (x : NamedList). bytes_in bs x.list) (sym q.2) ∙ same q.0 q.1) n.9,
      )

  pub are_named : AreNamed order kept bytes names
  are_named = record {
    tables = w.tables;
    bytes_are = w.bytes_are;
    units = w.units;
    sound = w.sound;
    each = λ r c. kept_named r c r.index (w.each (named_by number r) (contains_map number kept r c));
  }

-- The attributes of entries are in order.
pub ranges_in_order : (number : RangedEntry → ℕ) (lo k : ℕ) (kept : List RangedEntry) → Ascends lo (map kept_place kept) → k ≤ key lo 0x55 →
    AreInOrder Ranges k (map (named_by number) kept)
ranges_in_order number lo k [] up h = tt
ranges_in_order number lo k (r ∷ kept) up h = (
  omega (arith, h, up.0),
  refl,
  ranges_in_order number (r.place + 1) (key r.place 0x55 + 1) kept up.1
      (omega arith),
)
