-- The locations of an entry of a written file are those of its original, and each list to which it refers can be read.
use Rattle.std.proofs.Common.{◌≡◌, ◌∙◌, ◌+◌, ◌*◌, ◌<◌, ◌==◌, ◌&&◌, ◌||◌, ◌∷◌, [], ℕ, Bool, true, false, List, Option, Some, None}
use Rattle.std.proofs.Common.{refl, sym, ap, subst, arith, length, map, All, ⊎_elim}
use Rattle.std.specs.Prelude.{flat_map, Contains, option_and_then, option_map, if◌then◌else◌, is_some, unwrap_or}
use Rattle.std.specs.Global.{Vec}
use Rattle.std.specs.List.{AllZip}
use Rattle.std.specs.Option.{option_map_or}
use Rattle.std.proofs.lemmas.Bool.{eqb-true, eq-eqb}
use Rattle.rb_bytes.proofs.Members.{Contains-nil, Contains-cons_cases}
use Rattle.addr_map.specs.declared.span.Span.{Span}
use Rattle.addr_map.specs.Spans.{owner}
use Rattle.answer_runs.specs.declared.run.Run.{Run}
use Rattle.answer_runs.specs.AnswerRuns.{run_at, carried, IsWithin}
use Rattle.answer_runs.specs.Choices.{unless_empty}
use Rattle.table_core.specs.declared.written.ListAt.{ListAt}
use Rattle.table_core.specs.AttributeForms.{is_block, shape_of}
use Rattle.table_core.specs.ReadSteps.{and_so}
use Rattle.table_core.specs.WrittenUnits.{IsUnit, units_bytes}
use Rattle.dw_unit.specs.declared.entry.Attr.{Attr}
use Rattle.dw_unit.specs.CompUnits.{Entry, Unit, units, attr, base, number_in, value_bytes}
use Rattle.dw_unit.specs.Changes.{is_own, is_first_of, new_value, new_address, new_list}
use Rattle.dw_unit.specs.ChangedEntries.{IsChangedEntry}
use Rattle.dw_unit.specs.EntryMoves.{Moves, new_list_offset}
use Rattle.dw_unit.specs.Trouble.{sound_if}
use Rattle.answer_runs.proofs.Ascending.{Ascends}
use Rattle.dw_unit.proofs.SoundEntries.{IsSoundEntry, AreSoundUnits}
use Rattle.cover_lists.specs.declared.kept_list.KeptList.{KeptList}
use Rattle.dw_lists.specs.declared.list_kind.ListKind.TheVariants.{Locations}
use Rattle.dw_lists.specs.declared.named_list.NamedList.{NamedList}
use Rattle.dw_lists.specs.Faults.{ListSections}
use Rattle.cover_lists.specs.KeptLists.{number_says}
use Rattle.list_writer.specs.ListBytes.{IsWritable, list_bytes, located_at}
use Rattle.list_units.specs.Listing.{ListItem, list_index, list_named, item_of, attr_items, entry_items, unit_items, all_items, IsNameOf}
use Rattle.cover_lists.specs.ListRuns.{list_answer}
use Rattle.dw_lists.specs.Lists.{locations_kind, has_list, list_offset, list_at, list_of, only_within, offset_of_index}
use Rattle.cover_lists.specs.Located.{Located, in_force}
use Rattle.dw_lists.specs.Locations.{content_at, content_read, block_of, expressions_of}
use Rattle.dw_lists.specs.UnitLists.{own_place}
use Rattle.list_writer.specs.WrittenLocations.{bounded}
use Rattle.list_writer.specs.WrittenTables.{bytes_in, StandsAt, IsNamed}
use Rattle.range_loc_rewrite.proofs.BasesStay.{base_stays}
use Rattle.range_loc_rewrite.proofs.ChangedAttrs.{IsOther, changed, from_other, location, frame_base, location_base}
use Rattle.list_writer.proofs.ForcedRuns.{forced_runs}
use Rattle.range_loc_rewrite.proofs.ItemsThere.{IsPlaceName, by_name, HasItem, has_item}
use Rattle.range_loc_rewrite.proofs.KeptLookups.{sound_at, all_of, place_of, own_unique}
use Rattle.list_writer.proofs.ListsThere.{list_there, list_inside, offset_there}
use Rattle.list_units.proofs.LocationFacts.{listed_expressions}
use Rattle.list_writer.proofs.PutEntries.{contains_split, flat_from}
use Rattle.range_loc_rewrite.proofs.RangesStay.{found_name, found_there, SoundTests, tests_of, plain_offset, index_offset}
use Rattle.range_loc_rewrite.proofs.SoundLists.{IsThere, AreThere}
use Rattle.list_units.proofs.Zips.{zip_left, zip_right}

-- The origin of an item

pub record IsItem (s : ListSections) (x : ListItem) : Type 0 where
  pub u : Unit
  pub unit : Contains (units s.units) u
  pub e : Entry
  pub entry : Contains u.entries e
  pub name : ℕ
  pub naming : IsPlaceName name
  pub a : Attr
  pub is : attr name e ≡ Some a
  pub own : x.own ≡ own_place u
  pub index : x.index ≡ list_index a
  pub list : list_named s u a ≡ Some x.list

module _ (s : ListSections) where
  item_by : (u : Unit) → Contains (units s.units) u → (e : Entry) → Contains u.entries e → (name : ℕ) → IsPlaceName name → (o : Option Attr) →
      attr name e ≡ o → (x : ListItem) → Contains (attr_items s u e.place name o) x → IsItem s x
  item_by u uc e ec name naming None is x c = absurd (Contains-nil x c)
  item_by u uc e ec name naming (Some a) is x c = by_list (list_named s u a) refl c
    where
      by_list : (o : Option (List Located)) → list_named s u a ≡ o → Contains (item_of e.place name (own_place u) (list_index a) o) x →
          IsItem s x
      by_list None f c = absurd (Contains-nil x c)
      by_list (Some ls) f c = ⊎_elim
          (λ (same : record { place = e.place; attr = name; own = own_place u; index = list_index a; list = ls } ≡ x). record {
            u = u;
            unit = uc;
            e = e;
            entry = ec;
            name = name;
            naming = naming;
            a = a;
            is = is;
            own = sym (ap (λ (y : ListItem). y.own) same);
            index = sym (ap (λ (y : ListItem). y.index) same);
            list = f ∙ ap (λ (y : ListItem). Some y.list) same;
          })
          (λ (there : Contains [] x). absurd (Contains-nil x there))
          (Contains-cons_cases (record { place = e.place; attr = name; own = own_place u; index = list_index a; list = ls }) [] x c)

  pub is_item : (x : ListItem) → Contains (all_items s) x → IsItem s x
  is_item x c =
      let p = flat_from (unit_items s) (units s.units) x c in
      let q = flat_from (entry_items s p.0) p.0.entries x p.2 in
      ⊎_elim
      (λ (here : Contains (attr_items s p.0 q.0.place 0x02 (attr 0x02 q.0)) x). item_by p.0 p.1 q.0 q.1 0x02 refl (attr 0x02 q.0) refl x here)
      (λ (there : Contains (attr_items s p.0 q.0.place 0x40 (attr 0x40 q.0)) x). item_by p.0 p.1 q.0 q.1 0x40 refl (attr 0x40 q.0) refl x there)
      (contains_split (attr_items s p.0 q.0.place 0x02 (attr 0x02 q.0)) (attr_items s p.0 q.0.place 0x40 (attr 0x40 q.0)) x q.2)

-- New values

abbrev GetsOffset : Moves → (own first : Bool) → Entry → Attr → ℕ → Type 0
GetsOffset m own first d a k = (at : ℕ) → a.name ≡ k → a.form ≡ 0x17 → new_list_offset m.lists d.place k ≡ Some at →
    (changed m own first d a).value ≡ at

new_by : (k : ℕ) → IsPlaceName k → (m : Moves) (own first : Bool) (d : Entry) (a : Attr) → GetsOffset m own first d a k
new_by k name m own first d a =
    by_name (GetsOffset m own first d a) k name
    (λ at n f given. ap (λ (x : Attr). unwrap_or (new_value m own first d x) x.value)
    (λ i. record { name = n i; form = f i; place = a.place; len = a.len; value = a.value })
    ∙ ap (λ (o : Option ℕ). unwrap_or o a.value) given)
    (λ at n f given. ap (λ (x : Attr). unwrap_or (new_value m own first d x) x.value)
    (λ i. record { name = n i; form = f i; place = a.place; len = a.len; value = a.value })
    ∙ ap (λ (o : Option ℕ). unwrap_or o a.value) given)

kept_value : (m : Moves) (own first : Bool) (d : Entry) (a : Attr) → (a.form == 0x01) ≡ false → (a.form == 0x17) ≡ false →
    new_value m own first d a ≡ None
kept_value m own first d a e f = (λ i. if e i then new_address m own d a else (if f i then new_list m first d a else None))

other_form : (f g : ℕ) → is_block f ≡ true → is_block g ≡ false → (f == g) ≡ false
other_form f g e h = step (f == g) refl
  where
    clash : is_block f ≡ true → is_block f ≡ false → ⊥
    clash x y = let z : true ≡ false = sym x ∙ y in absurd (cc)

    step : (b : Bool) → (f == g) ≡ b → b ≡ false
    step true is = absurd (clash e (ap is_block (eqb-true f g is) ∙ h))
    step false is = refl

-- A list in the tables

pub record IsIndexed (o : Option ℕ) (i : ℕ) (a : Attr) : Type 0 where
  pub form : (a.form == 0x22) ≡ true
  pub value : a.value ≡ i

pub indexed : (a : Attr) (i : ℕ) → list_index a ≡ Some i → IsIndexed (list_index a) i a
indexed a i e = step (a.form == 0x22) refl e
  where
    same : (m n : ℕ) → Some m ≡ Some n → m ≡ n
    same m n e = cc

    step : (b : Bool) → (a.form == 0x22) ≡ b → (if b then Some a.value else None) ≡ Some i → IsIndexed (list_index a) i a
    step true f e = record { form = f; value = same a.value i e }
    step false f e = absurd (cc)

some_list : (b : Bool) (o : Option (List Located)) (ls : List Located) → (if b then o else None) ≡ Some ls → o ≡ Some ls
some_list true o ls e = e
some_list false o ls e = absurd (cc)

same_list : (ls ks : List Located) → Some ls ≡ Some ks → ls ≡ ks
same_list ls ks e = cc

unwrapped : (xs : List (List ℕ)) → unwrap_or (unless_empty xs) [] ≡ xs
unwrapped [] = refl
unwrapped (x ∷ xs) = refl

pub record AreSpelled (lists : List KeptList) (bs : List (Vec ℕ)) (spans : List Span) (runs : ℕ → List (Run (List (List ℕ))))
    (named : List NamedList) : Type 0 where
  pub bytes : (n : NamedList) → Contains named n → bytes_in bs n.list ≡ list_bytes Locations (bounded (runs n.list))
  pub writable : (n : NamedList) → Contains named n → All (IsWritable Locations) (bounded (runs n.list))
  pub within : (n : ℕ) → (end : ℕ) × IsWithin 0 (runs n) end
  pub says : (n p : ℕ) → run_at (runs n) p ≡ carried (list_answer lists n) spans p

module _ (s t : ListSections) (spans : List Span) (m : Moves) (tables : List (List ℕ)) (tables_are : All (IsUnit 5) tables)
    (locations_are : t.locations ≡ units_bytes tables)
    (lists : List KeptList) (bs : List (Vec ℕ)) (named : List NamedList) (names : List ListAt)
    (items : AllZip (IsNameOf lists) named (all_items s))
    (given : (e attr o : ℕ) → new_list_offset names e attr ≡ Some o → new_list_offset m.lists e attr ≡ Some o)
    (stands : (n : NamedList) → Contains named n → IsNamed Locations bs tables names named n n.index)
    (runs : ℕ → List (Run (List (List ℕ)))) (spelled : AreSpelled lists bs spans runs named)
    (sound_old : AreSoundUnits s.units.addr (units s.units)) (up : Ascends 0 (map place_of (all_of (units s.units))))
    (fine_old : (u : Unit) → Contains (units s.units) u → AreThere locations_kind s.locations s.units.addr u
    (flat_map (λ (e : Entry). e.attrs) u.entries)) where
  -- The list with a number, at its offset.
  module _ (q : NamedList) (qc : Contains named q) (at : ℕ) (there : StandsAt tables at (bytes_in bs q.list)) where
    placed : StandsAt tables at (list_bytes Locations (bounded (runs q.list)))
    placed = subst (StandsAt tables at) (spelled.bytes q qc) there

    listed : (v : Unit) → list_at locations_kind t.locations t.units.addr v at ≡ Some (map located_at (bounded (runs q.list)))
    listed v =
        ap (λ (l : List ℕ). list_at locations_kind l t.units.addr v at) locations_are
        ∙ list_there Locations tables at (bounded (runs q.list)) placed tables_are (spelled.writable q qc) t.units.addr v

    inside : at < length t.locations
    inside = subst (λ (l : List ℕ). at < length l) (sym locations_are)
        (list_inside Locations tables at (bounded (runs q.list)) placed tables_are)

    forced : (p o : ℕ) → owner spans p ≡ Some o → in_force (map located_at (bounded (runs q.list))) p ≡ number_says lists q.list o
    forced p o owned =
        forced_runs 0 (runs q.list) (spelled.within q.list).0 p (spelled.within q.list).1
        ∙ ap (λ (x : Option (List (List ℕ))). unwrap_or x []) (spelled.says q.list p
        ∙ ap (option_and_then (list_answer lists q.list)) owned)
        ∙ unwrapped (number_says lists q.list o)

  -- An attribute with a name, and the same attribute of the written file.
  pub record Same (u v : Unit) (d e : Entry) (k : ℕ) : Type 0 where
    pub said : (p o : ℕ) → owner spans p ≡ Some o →
        option_map_or (λ (x : Attr). expressions_of t v x p) (attr k e) [] ≡ option_map_or (λ (x : Attr). expressions_of s u x o)
        (attr k d) []
    pub there : (x : Attr) → attr k e ≡ Some x → has_list locations_kind x ≡ true → IsThere locations_kind t.locations t.units.addr v x

  module _ (u v : Unit) (uc : Contains (units s.units) u)
      (zip : AllZip (λ x y. IsChangedEntry s.units t.units.info m (is_first_of u x) x y) u.entries v.entries) (d e : Entry)
      (dc : Contains u.entries d)
      (c : IsChangedEntry s.units t.units.info m (is_first_of u d) d e) (k : ℕ) (name : IsPlaceName k) where
    abbrev own : Bool
    own = is_own s.units d.declaration

    abbrev new : Attr → Attr
    new = changed m own (is_first_of u d) d

    from : attr k e ≡ option_map new (attr k d)
    from = from_other s.units t.units.info m (is_first_of u d) d e c k (by_name IsOther k name location frame_base)

    sound : (x : Entry) → Contains u.entries x → IsSoundEntry s.units.addr u x
    sound x xc = sound_at s.units.addr (units s.units) u x sound_old uc xc

    -- The entry hasn't it.
    same_none : attr k d ≡ None → Same u v d e k
    same_none is =
        let none : attr k e ≡ None = from ∙ ap (option_map new) is in
        record {
          said = λ p o owned. ap (λ (x : Option Attr). option_map_or (λ (x : Attr). expressions_of t v x p) x []) none
              ∙ sym (ap (λ (x : Option Attr). option_map_or (λ (x : Attr). expressions_of s u x o) x []) is);
          there = λ x there h. let f : None ≡ Some x = sym none ∙ there in absurd (cc);
        }

    module _ (a : Attr) (is : attr k d ≡ Some a) where
      named_so : a.name ≡ k
      named_so = found_name k d.attrs a is

      new_is : attr k e ≡ Some (new a)
      new_is = from ∙ ap (option_map new) is

      tests : SoundTests s.units.addr u a
      tests = tests_of s.units.addr u d k a (sound d dc) is

      only : (x : Attr) → attr k e ≡ Some x → new a ≡ x
      only x there = same (sym new_is ∙ there)
        where
          same : Some (new a) ≡ Some x → new a ≡ x
          same f = cc

      -- It has an expression.
      same_block : is_block a.form ≡ true → Same u v d e k
      same_block block =
          let kept : new_value m own (is_first_of u d) d a ≡ None =
          kept_value m own (is_first_of u d) d a (other_form a.form 0x01 block refl) (other_form a.form 0x17 block refl) in
          let bytes : value_bytes t.units.info a ≡ value_bytes s.units.info a =
          c.bytes a (found_there k d.attrs a is) (high, kept) in
          let blocks : block_of t.units.info (new a) ≡ block_of s.units.info a = block_by bytes in
          record {
            said = λ p o owned.
                ap (λ (x : Option Attr). option_map_or (λ (x : Attr). expressions_of t v x p) x []) new_is
                ∙ ap (λ (b : Bool). if b then block_of t.units.info (new a) ∷ [] else option_map_or (λ ls. in_force ls p)
                (list_of locations_kind t.locations t.units.addr v (new a)) []) block
                ∙ ap (λ (l : List ℕ). l ∷ []) blocks
                ∙ sym (ap (λ (x : Option Attr). option_map_or (λ (x : Attr). expressions_of s u x o) x []) is
                ∙ ap (λ (b : Bool). if b then block_of s.units.info a ∷ [] else option_map_or (λ ls. in_force ls o)
                (list_of locations_kind s.locations s.units.addr u a) []) block);
            there = λ x there h. absurd (unlisted (subst (λ (y : Attr). has_list locations_kind y ≡ true) (sym (only x there)) h));
          }
        where
          high : a.name ≡ 0x12 → ⊥
          high f = by_name (λ (k : ℕ). k ≡ 0x12 → ⊥) k name (λ e. absurd (omega (arith, e))) (λ e. absurd (omega (arith, e))) (sym named_so
              ∙ f)

          block_by : value_bytes t.units.info a ≡ value_bytes s.units.info a → block_of t.units.info (new a) ≡ block_of s.units.info a
          block_by bytes = ap (λ (l : List ℕ). content_read (and_so (sound_if (shape_of a.form)) (λ shape. content_at shape l))) bytes

          second : (b x : Bool) → (b && x) ≡ true → x ≡ true
          second true x f = f
          second false x f = absurd (cc)

          neither : (x y : Bool) → x ≡ false → y ≡ false → (x || y) ≡ true → ⊥
          neither true y f g h = absurd (cc)
          neither false true f g h = absurd (cc)
          neither false false f g h = absurd (cc)

          unlisted : has_list locations_kind (new a) ≡ true → ⊥
          unlisted h =
              neither (a.form == 0x17) (a.form == 0x22) (other_form a.form 0x17 block refl) (other_form a.form 0x22 block refl)
              (second ((new a).name == 0x02 || (new a).name == 0x40) (a.form == 0x17 || a.form == 0x22) h)

      -- It refers to a list.
      module _ (block : is_block a.form ≡ false) (lists_it : has_list locations_kind a ≡ true) where
        found : HasItem s u d k a
        found = has_item s fine_old u uc d dc k name a is lists_it

        abbrev item : ListItem
        item = record { place = d.place; attr = k; own = own_place u; index = list_index a; list = found.list }

        -- By the offset of its list.
        same_by : (q : NamedList) → Contains named q → (at : ℕ) → StandsAt tables at (bytes_in bs q.list) →
            list_offset locations_kind t.locations v (new a) ≡ Some at →
            ((o : ℕ) → number_says lists q.list o ≡ in_force found.list o) → Same u v d e k
        same_by q qc at placed offset says = record {
          said = λ p o owned.
              ap (λ (x : Option Attr). option_map_or (λ (x : Attr). expressions_of t v x p) x []) new_is
              ∙ listed_expressions t v (new a) (Some at) p block offset
              ∙ ap (λ (x : Option (List Located)). option_map_or (λ ls. in_force ls p) x []) (listed q qc at placed v)
              ∙ forced q qc at placed p o owned ∙ says o
              ∙ sym (ap (λ (x : Option Attr). option_map_or (λ (x : Attr). expressions_of s u x o) x []) is
              ∙ ap (λ (b : Bool). if b then block_of s.units.info a ∷ [] else option_map_or (λ ls. in_force ls o)
              (list_of locations_kind s.locations s.units.addr u a) []) block
              ∙ ap (λ (x : Option (List Located)). option_map_or (λ ls. in_force ls o) x []) found.said);
          there = λ x there h. subst (IsThere locations_kind t.locations t.units.addr v) (only x there)
              (record { at = at; offset = offset; read = ap is_some (listed q qc at placed v) });
        }

        same_offset : a.form ≡ 0x17 → Same u v d e k
        same_offset form =
            let n = zip_right (IsNameOf lists) named (all_items s) item items found.there in
            let index : n.0.index ≡ None = n.2.index ∙ ap (λ (f : ℕ). if f == 0x22 then Some a.value else None) form in
            let w = subst (IsNamed Locations bs tables names named n.0) index (stands n.0 n.1) in
            let offset : new_list_offset m.lists d.place k ≡ Some w.0 =
            (λ i. new_list_offset m.lists (sym n.2.place i) (sym n.2.attr i)) ∙ given n.0.place n.0.attr w.0 w.1 in
            same_by n.0 n.1 w.0 w.2
            (plain_offset locations_kind t.locations v (new a) w.0 (ap (λ (f : ℕ). f == 0x22) form)
            (new_by k name m own (is_first_of u d) d a w.0 named_so form offset) (inside n.0 n.1 w.0 w.2))
            n.2.says

        same_index : a.form ≡ 0x22 → Same u v d e k
        same_index form =
            let n = zip_right (IsNameOf lists) named (all_items s) item items found.there in
            let index : n.0.index ≡ Some a.value = n.2.index ∙ ap (λ (f : ℕ). if f == 0x22 then Some a.value else None) form in
            let w = subst (IsNamed Locations bs tables names named n.0) index (stands n.0 n.1) in
            let here : (a.form == 0x22) ≡ true = eq-eqb a.form 0x22 form in
            let based : base 0x8c v ≡ Some w.0 =
            base_stays s t m u v zip sound 0x8c location_base refl d dc (tests.location here) w.0
            (ap (λ (n : ℕ). new_list_offset m.lists n 0x8c) (sym n.2.own) ∙ given n.0.own 0x8c w.0 w.3) in
            let number = subst (λ (l : List ℕ). number_in 4 (w.0 + 4 * a.value) l ≡ Some w.1) (sym locations_are)
            (offset_there tables (w.0 + 4 * a.value) w.1 w.4 tables_are w.5) in
            let kept : new_value m own (is_first_of u d) d a ≡ None =
            kept_value m own (is_first_of u d) d a (ap (λ (f : ℕ). f == 0x01) form) (ap (λ (f : ℕ). f == 0x17) form) in
            same_by w.2 w.8 (w.0 + w.1) w.9
            (index_offset locations_kind t.locations v (new a) a.value w.0 w.1 here (ap (λ (o : Option ℕ). unwrap_or o a.value) kept) based
            number
            (inside w.2 w.8 (w.0 + w.1) w.9))
            (like n.0 n.2 w.2 w.8 w.6 w.7)
          where
            like : (n : NamedList) → IsNameOf lists n item → (q : NamedList) → Contains named q → q.own ≡ n.own → q.index ≡ Some a.value →
                (o : ℕ) →
                number_says lists q.list o ≡ in_force found.list o
            like n is_n q qc own_is index_is o =
                let x = zip_left (IsNameOf lists) named (all_items s) q items qc in
                let y = is_item s x.0 x.1 in
                let unit : y.u ≡ u = own_unique 0 (units s.units) y.u u y.e d up y.unit y.entry uc dc (sym y.own ∙ sym x.2.own ∙ own_is
                ∙ is_n.own) in
                let by_index = indexed y.a a.value (sym y.index ∙ sym x.2.index ∙ index_is) in
                let list : list_of locations_kind s.locations s.units.addr y.u y.a ≡ Some x.0.list =
                some_list (has_list locations_kind y.a) (list_of locations_kind s.locations s.units.addr y.u y.a) x.0.list y.list in
                let same : list_of locations_kind s.locations s.units.addr y.u y.a ≡ list_of locations_kind s.locations s.units.addr u a =
                of_index y.u y.a by_index.form
                ∙ (λ i. option_and_then (list_at locations_kind s.locations s.units.addr (unit i))
                (option_and_then (only_within s.locations) (offset_of_index locations_kind s.locations (unit i) (by_index.value i))))
                ∙ sym (of_index u a (eq-eqb a.form 0x22 form)) in
                x.2.says o ∙ ap (λ (ls : List Located). in_force ls o) (same_list x.0.list found.list (sym list ∙ same ∙ found.said))
              where
                of_index : (u : Unit) (a : Attr) → (a.form == 0x22) ≡ true → list_of locations_kind s.locations s.units.addr u a
                    ≡ option_and_then (list_at locations_kind s.locations s.units.addr u)
                    (option_and_then (only_within s.locations) (offset_of_index locations_kind s.locations u a.value))
                of_index u a f =
                    ap (λ (b : Bool). option_and_then (list_at locations_kind s.locations s.units.addr u)
                    (option_and_then (only_within s.locations) (if b then offset_of_index locations_kind s.locations u a.value else Some
                    a.value))) f

      same_some : Same u v d e k
      same_some = by_block (is_block a.form) refl
          (tests.located (ap (λ (n : ℕ). n == 0x02 || n == 0x40) named_so ∙ name))
        where
          both : (x y : Bool) → x ≡ true → y ≡ true → (x && y) ≡ true
          both true y f g = g
          both false y f g = absurd (cc)

          by_form : is_block a.form ≡ false → (x y : Bool) → (a.form == 0x17) ≡ x → (a.form == 0x22) ≡ y → (x || y) ≡ true →
              has_list locations_kind a ≡ true → Same u v d e k
          by_form block true y f g h l = same_offset block l (eqb-true a.form 0x17 f)
          by_form block false true f g h l = same_index block l (eqb-true a.form 0x22 g)
          by_form block false false f g h l = absurd (cc)

          by_block : (b : Bool) → is_block a.form ≡ b → (b || a.form == 0x17 || a.form == 0x22) ≡ true → Same u v d e k
          by_block true f h = same_block f
          by_block false f h =
              by_form f (a.form == 0x17) (a.form == 0x22) refl refl h
              (both (a.name == 0x02 || a.name == 0x40) (a.form == 0x17 || a.form == 0x22) (ap (λ (n : ℕ). n == 0x02 || n == 0x40) named_so
              ∙ name) h)

    pub same : Same u v d e k
    same = by (attr k d) refl
      where
        by : (o : Option Attr) → attr k d ≡ o → Same u v d e k
        by None is = same_none is
        by (Some a) is = same_some a is
