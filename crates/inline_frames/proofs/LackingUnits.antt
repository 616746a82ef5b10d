-- Units without any of some offsets have no link, and no naming, of an entry at one of these.
use Rattle.std.proofs.Common.{◌≡◌, ◌∙◌, ◌≤◌, ◌+◌, ℕ, Bool, true, false, cond, List, [], ◌∷◌, Some, None, Ok, Err, Result, refl, sym, ap}
use Rattle.std.proofs.Common.{arith, map}
use Rattle.std.specs.Prelude.{◌==◌, ◌||◌, if◌then◌else◌, option_map}
use Rattle.std.specs.BTreeSet.{BTreeSet, contains}
use Rattle.std.specs.List.{find}
use Rattle.std.specs.Ordering.{nat_cmp}
use Rattle.std.proofs.lemmas.Bool.Decides.{nat_tests}
use Rattle.std.proofs.lemmas.Bool.{and_right}
use Rattle.table_core.specs.DebugUnits.{Walked}
use Rattle.dw_unit.specs.CompUnits.{Entry, Unit, enclosing, end_of, unit_of}
use Rattle.dw_unit.specs.Faults.{fails}
use Rattle.dw_unit.specs.ListedEntries.{ListedEntry, listed}
use Rattle.dw_unit.specs.ListedUnits.{listed_unit, plain}
use Rattle.dw_unit.specs.declared.trouble.Trouble.{Trouble}
use Rattle.dw_unit.proofs.EntryPlaces.{Rise, unit_rises}
use Rattle.dw_unit.proofs.UnitsRead.{unit_read}
use Rattle.inline_frames.specs.Chains.{chain_in, outward}
use Rattle.inline_frames.specs.FileChains.{LacksPlaces, unit_links}
use Rattle.inline_frames.specs.Following.{listed_naming, unit_naming}
use Rattle.inline_frames.specs.UnitChains.{function_test, link_in}
use Rattle.inline_frames.specs.declared.tag.TheConstants.{DW_TAG_subprogram, DW_TAG_inlined_subroutine}
use Rattle.inline_frames.proofs.Pairs.{AllOf}

rise_within : (from to : ℕ) (es : List Entry) → Rise from to es → from ≤ to
rise_within from to [] r = r
rise_within from to (e ∷ es) r =
    let first = r.0 in
    let rest = rise_within (e.place + 1) to es r.1 in
    omega arith

no_chain : (test : Entry → Bool) (before es : List Entry) → AllOf (λ (e : Entry). test e ≡ false) es → chain_in test [] before es ≡ []
no_chain test before [] h = refl
no_chain test before (e ∷ es) h =
    ap (λ (b : Bool). chain_in test (if b then outward test (e ∷ enclosing e.depth before) else []) (e ∷ before) es) h.0
    ∙ no_chain test (e ∷ before) es h.1

-- Entries at none of some offsets.
module _ (places : BTreeSet ℕ) where
  abbrev pub AreElsewhere : List Entry → Type 0
  AreElsewhere es = AllOf (λ (e : Entry). contains nat_cmp places e.place ≡ false) es

  no_functions : (es : List Entry) → AreElsewhere es → AllOf (λ (e : Entry). function_test places e ≡ false) (map plain (map listed es))
  no_functions [] h = tt
  no_functions (e ∷ es) h = (
    and_right (e.declaration.tag == DW_TAG_subprogram || e.declaration.tag == DW_TAG_inlined_subroutine)
        (contains nat_cmp places e.place) h.0,
    no_functions es h.1,
  )

  pub no_links : (str_offsets : List ℕ) (es : List Entry) → AreElsewhere es → unit_links str_offsets places (map listed es) ≡ []
  no_links str_offsets es h =
      ap (map (link_in str_offsets (map listed es))) (no_chain (function_test places) [] (map plain (map listed es)) (no_functions es h))

  none_at : (q : ℕ) (es : List Entry) → contains nat_cmp places q ≡ true → AreElsewhere es →
      find (λ (e : ListedEntry). e.place == q) (map listed es) ≡ None
  none_at q [] wanted h = refl
  none_at q (e ∷ es) wanted h = by (e.place == q) refl (none_at q es wanted h.1) where
    by : (b : Bool) → (e.place == q) ≡ b → find (λ (e : ListedEntry). e.place == q) (map listed es) ≡ None →
        cond b (Some (listed e)) (find (λ (e : ListedEntry). e.place == q) (map listed es)) ≡ None
    by true t more =
        let at : e.place ≡ q = grind (arith, nat_tests) in
        let c : true ≡ false = sym wanted ∙ sym (ap (contains nat_cmp places) at) ∙ h.0 in
        absurd (cc)
    by false t more = more

  pub no_naming : (str_offsets : List ℕ) (q : ℕ) (es : List Entry) → contains nat_cmp places q ≡ true → AreElsewhere es →
      unit_naming str_offsets (map listed es) q ≡ None
  no_naming str_offsets q es wanted h = ap (option_map (listed_naming str_offsets (map listed es))) (none_at q es wanted h)

  -- The entries of a unit without any of the offsets.
  module _ (w : Walked) (lacks : LacksPlaces places w) where
    all_elsewhere : (from : ℕ) (es : List Entry) → w.place ≤ from → Rise from (end_of w) es → AreElsewhere es
    all_elsewhere from [] h r = tt
    all_elsewhere from (e ∷ es) h r =
        let first = r.0 in
        let within = rise_within (e.place + 1) (end_of w) es r.1 in
        (lacks e.place (omega arith) (omega arith), all_elsewhere (e.place + 1) es (omega arith) r.1)

    pub record IsElsewhere (abbrevs : List ℕ) : Type 0 where
      pub entries : List Entry
      pub listed_is : listed_unit (unit_of abbrevs w) ≡ Ok (map listed entries)
      pub elsewhere : AreElsewhere entries

    pub is_elsewhere : (abbrevs : List ℕ) (test : Unit → Bool) → fails test (unit_of abbrevs w) ≡ false → IsElsewhere abbrevs
    is_elsewhere abbrevs test good = by (unit_of abbrevs w) refl good where
      by : (r : Result Unit Trouble) → unit_of abbrevs w ≡ r → fails test r ≡ false → IsElsewhere abbrevs
      by (Err t) e g = absurd (cc)
      by (Ok u) e g = record {
        entries = u.entries;
        listed_is = ap listed_unit e;
        elsewhere = all_elsewhere w.place u.entries (omega arith) (unit_rises abbrevs w u (unit_read abbrevs w u e));
      }
