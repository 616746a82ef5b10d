-- Range lists by their groups and the addresses that come first in them: each gets a number once.
use Rattle.std.proofs.Common.{◌≡◌, ◌≢◌, ◌∙◌, ◌+◌, ◌^◌, ◌<◌, ◌++◌, ◌∷◌, [], ℕ, zero, suc, Bool, List, Option, Some, None, refl}
use Rattle.std.proofs.Common.{BTreeMap, nat_cmp, sym, ap, subst, arith, length, cond, map, ⊎_elim}
use Rattle.std.specs.Prelude.{Contains, slice_get, unwrap_or}
use Rattle.std.specs.BTreeMap.{get, is_at, IsEmpty}
use Rattle.std.specs.Global.{Vec}
use Rattle.std.proofs.lemmas.Bool.{cases_eq}
use Rattle.rb_bytes.proofs.Members.{Contains-nil, Contains-cons_cases}
use Rattle.addr_map.specs.declared.span.Span.{Span}
use Rattle.answer_runs.specs.declared.run.Run.{Run}
use Rattle.cover_lists.specs.declared.groups.RangedEntry.{RangedEntry}
use Rattle.cover_lists.specs.EntryOrders.{entry_first}
use Rattle.cover_lists.specs.GroupRuns.{runs_in}
use Rattle.cover_lists.specs.KeptLists.{items_in}
use Rattle.cover_lists.proofs.GroupFacts.{length_more, newest, older}
use Rattle.list_writer.specs.WrittenRanges.{AreKnownLists, AreNumberedLists, AreRangeLists, HasNumber, IsEntryPut, IsListOf, IsListPut}
use Rattle.list_writer.specs.WrittenRanges.{key, named_by, number_in, place_of, runs_bytes}
use Rattle.list_writer.specs.WrittenTables.{bytes_in}
use Rattle.dw_lists.specs.declared.named_list.NamedList.{NamedList}
use Rattle.list_writer.proofs.PutEntries.{contains_split, none_there}
use Rattle.list_writer.proofs.WrittenLists.{at_key, at_same, same_some}

by_items : (bs : List (Vec ℕ)) (n : ℕ) → bytes_in bs n ≡ unwrap_or (slice_get (items_in bs) n) []
by_items [] n = refl
by_items (b ∷ bs) zero = refl
by_items (b ∷ bs) (suc n) = by_items bs n

counted : (bs : List (Vec ℕ)) → length (items_in bs) ≡ length bs
counted [] = refl
counted (b ∷ bs) = ap suc (counted bs)

-- A key is that of one group and address.
same_key : (g h a b : ℕ) → a < 2 ^ 64 → b < 2 ^ 64 → key g a ≡ key h b → (g ≡ h) × (a ≡ b)
same_key g h a b low below e = (omega (arith, low, below, e), omega (arith, low, below, e))

-- A list more
module _ (groups : List (Vec (Run Bool))) (g0 at0 : ℕ) (low0 : at0 < 2 ^ 64) (olds news : List (Vec ℕ)) (old new : BTreeMap ℕ ℕ)
    (known : AreKnownLists groups olds old) (fresh : get nat_cmp old (key g0 at0) ≡ None)
    (spelled : items_in news ≡ items_in olds ++ runs_bytes (entry_first at0 (runs_in groups g0)) ∷ [])
    (inserted : (q : ℕ) → get nat_cmp new q ≡ cond (is_at (nat_cmp (key g0 at0)) q) (Some (length olds)) (get nat_cmp old q)) where
  abbrev more : List ℕ
  more = runs_bytes (entry_first at0 (runs_in groups g0))

  one_more : length news ≡ length olds + 1
  one_more = sym (counted news) ∙ ap length spelled ∙ length_more (items_in olds) more ∙ ap (λ (n : ℕ). n + 1) (counted olds)

  here : IsListOf groups g0 at0 news (length olds)
  here = record {
    below = omega (arith, one_more);
    bytes = by_items news (length olds) ∙ ap (λ (l : List (List ℕ)). unwrap_or (slice_get l (length olds)) []) spelled
        ∙ ap (λ (n : ℕ). unwrap_or (slice_get (items_in olds ++ more ∷ []) n) []) (sym (counted olds))
        ∙ ap (λ (o : Option (List ℕ)). unwrap_or o []) (newest (items_in olds) more);
  }

  still : (g a n : ℕ) → IsListOf groups g a olds n → IsListOf groups g a news n
  still g a n l =
      let below = l.below in
      record {
        below = omega (arith, one_more, below);
        bytes = by_items news n ∙ ap (λ (l : List (List ℕ)). unwrap_or (slice_get l n) []) spelled
            ∙ ap (λ (o : Option (List ℕ)). unwrap_or o [])
            (older (items_in olds) more n (subst (λ (m : ℕ). n < m) (sym (counted olds)) l.below))
            ∙ sym (by_items olds n) ∙ l.bytes;
      }

  at_new : get nat_cmp new (key g0 at0) ≡ Some (length olds)
  at_new =
      inserted (key g0 at0)
      ∙ ap (λ (b : Bool). cond b (Some (length olds)) (get nat_cmp old (key g0 at0))) (at_same (key g0 at0))

  at_other : (q : ℕ) → key g0 at0 ≢ q → get nat_cmp new q ≡ get nat_cmp old q
  at_other q ne = inserted q ∙ ap (λ (b : Bool). cond b (Some (length olds)) (get nat_cmp old q)) (at_key (key g0 at0) q ne)

  pub list_put : IsListPut groups g0 at0 olds old news new
  list_put = record {
    known = λ g a n low e. ⊎_elim
        (λ (same : key g0 at0 ≡ key g a).
        let p = same_key g0 g at0 a low0 low same in
        let number : length olds ≡ n = same_some (length olds) n (sym at_new ∙ ap (get nat_cmp new) same ∙ e) in
        subst (λ (m : ℕ). IsListOf groups g a news m) number
        (subst (λ (m : ℕ). IsListOf groups m a news (length olds)) p.0
        (subst (λ (b : ℕ). IsListOf groups g0 b news (length olds)) p.1 here)))
        (λ (ne : key g0 at0 ≢ key g a). still g a n (known g a n low (sym (at_other (key g a) ne) ∙ e)))
        (cases_eq (key g0 at0) (key g a));
    has = record { number = length olds; is = at_new; list = here };
    kept = λ g a h. ⊎_elim
        (λ (same : key g0 at0 ≡ key g a).
        let f : None ≡ Some h.number = sym fresh ∙ ap (get nat_cmp old) same ∙ h.is in absurd (cc))
        (λ (ne : key g0 at0 ≢ key g a). record {
          number = h.number;
          is = at_other (key g a) ne ∙ h.is;
          list = still g a h.number h.list;
        })
        (cases_eq (key g0 at0) (key g a));
  }

-- It was there
pub list_known : (groups : List (Vec (Run Bool))) (g at n : ℕ) → at < 2 ^ 64 → (lists : List (Vec ℕ)) (known : BTreeMap ℕ ℕ) →
    AreKnownLists groups lists known → get nat_cmp known (key g at) ≡ Some n → IsListPut groups g at lists known lists known
list_known groups g at n low lists known are is = record {
  known = are;
  has = record { number = n; is = is; list = are g at n low is };
  kept = λ h a has. has;
}

-- The lists of entries, one by one.

pub none_numbered : (spans : List Span) (groups : List (Vec (Run Bool))) (lists : List (Vec ℕ)) (known : BTreeMap ℕ ℕ) → IsEmpty known →
    AreNumberedLists spans groups [] lists known
none_numbered spans groups lists known empty = record {
  known_are = λ g a n low e. let f : None ≡ Some n = sym (none_there known (key g a) empty) ∙ e in absurd (cc);
  each = λ r c. absurd (Contains-nil r c);
}

pub one_numbered : (spans : List Span) (groups : List (Vec (Run Bool))) (rs next : List RangedEntry) (r : RangedEntry)
    (olds news : List (Vec ℕ)) (old new : BTreeMap ℕ ℕ) → next ≡ rs ++ r ∷ [] → AreNumberedLists spans groups rs olds old →
    IsEntryPut spans groups r olds old news new → AreNumberedLists spans groups next news new
one_numbered spans groups rs next r olds news old new is are put =
    subst (λ (l : List RangedEntry). AreNumberedLists spans groups l news new) (sym is) (record {
      known_are = put.known;
      each = λ q c. ⊎_elim
          (λ (there : Contains rs q). put.kept q.group (place_of spans groups q) (are.each q there))
          (λ (last : Contains (r ∷ []) q). ⊎_elim
          (λ (same : r ≡ q). subst (λ (x : RangedEntry). HasNumber groups news new x.group (place_of spans groups x)) same put.has)
          (λ (there : Contains [] q). absurd (Contains-nil q there))
          (Contains-cons_cases r [] q last))
          (contains_split rs (r ∷ []) q c);
    })

-- And their names.
pub lists_named : (spans : List Span) (groups : List (Vec (Run Bool))) (ranged : List RangedEntry) (lists : List (Vec ℕ))
    (known : BTreeMap ℕ ℕ) (named : List NamedList) → AreNumberedLists spans groups ranged lists known →
    named ≡ map (named_by (number_in spans groups known)) ranged → AreRangeLists spans groups ranged lists named
lists_named spans groups ranged lists known named are is = record {
  number = number_in spans groups known;
  named_are = is;
  bytes = λ r c.
      let h = are.each r c in
      ap (λ (o : Option ℕ). bytes_in lists (unwrap_or o 0)) h.is ∙ h.list.bytes;
}
