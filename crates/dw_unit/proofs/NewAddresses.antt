-- The changed `.debug_addr` has the tables of the old one.
use Rattle.std.proofs.Common.{◌≡◌, ◌≤◌, ◌+◌, ◌-◌, ◌*◌, ◌/◌, ◌%◌, ◌++◌, ◌∙◌, ℕ, zero, suc, List, [], ◌∷◌, Bool, true, false, Option, Some}
use Rattle.std.proofs.Common.{None, refl, ap, sym, subst, arith, length, take, drop, length-append, length-drop, append_assoc, unwrap_or}
use Rattle.std.specs.Prelude.{⊤, ◌==◌, ◌&&◌, not, nat_le, if◌then◌else◌}
use Rattle.std.specs.List.{find}
use Rattle.std.specs.Option.{option_map_or}
use Rattle.std.proofs.lemmas.Bool.Decides.{nat_tests}
use Rattle.std.proofs.lemmas.List.{take-append-drop, length-take-le}
use Rattle.std.proofs.lemmas.Option.{same_Some}
use Rattle.byteorder.specs.Endian.{little_number, little_bytes}
use Rattle.byteorder.specs.Numbers.{length-bytes_low_first}
use Rattle.table_core.specs.DebugUnits.{Walked, walked}
use Rattle.table_core.proofs.UnitsBack.{same-front}
use Rattle.dw_unit.specs.CompUnits.{end_of}
use Rattle.dw_unit.specs.EntryMoves.{Moves, moved_address}
use Rattle.dw_unit.specs.Changes.{Patch, patched, address_patches, table_patches, changed_addr}
use Rattle.dw_unit.specs.Faults.{is_address_table}
use Rattle.dw_unit.proofs.Patched.{From, from_less, patched-behind, patched-over}
use Rattle.dw_unit.proofs.RenewedUnits.{IsRenewed, IsNew, AreNew, IsSection, all_renewed, section_renewed}
use Rattle.dw_unit.proofs.WholeUnits.{AreGood, AreWhole, units_again, units_whole, whole_good}

module _ (m : Moves) where
  record IsMoved (n place : ℕ) (left : List ℕ) : Type 0 where
    new : List ℕ
    size : length new ≡ length left
    starts : (qs : List Patch) → From (place + length left) qs → From place (address_patches m n place left ++ qs)
    are : (after : List ℕ) (qs : List Patch) → From (place + length left) qs →
        patched place (address_patches m n place left ++ qs) (left ++ after) ≡ new ++ patched (place + length left) qs after

  abbrev first_patch : ℕ → List ℕ → Patch
  first_patch place left = record {
    place = place;
    bytes = little_bytes 8 (unwrap_or (moved_address m (little_number 8 left)) (little_number 8 left));
  }

  nil_of : (xs : List ℕ) → length xs ≡ 0 → xs ≡ []
  nil_of [] e = refl
  nil_of (x ∷ xs) e = absurd (omega arith)

  none_moved : (place : ℕ) (left : List ℕ) → length left ≡ 0 → ((left : List ℕ) → address_patches m 0 place left ≡ []) →
      IsMoved 0 place left
  none_moved place left e none =
      let same : place + length left ≡ place = omega arith in
      record {
        new = [];
        size = sym e;
        starts = λ qs from. subst (λ (ps : List Patch). From place (ps ++ qs)) (sym (none left)) (subst (λ (k : ℕ). From k qs) same from);
        are = λ after qs from.
            ap (λ (ps : List Patch). patched place (ps ++ qs) (left ++ after)) (none left)
            ∙ ap (λ (l : List ℕ). patched place qs (l ++ after)) (nil_of left e)
            ∙ ap (λ (k : ℕ). patched k qs after) (sym same);
      }

  one_moved : (n place : ℕ) (left : List ℕ) → length left ≡ suc n * 8 → address_patches m (suc n) place left ≡ first_patch place left
      ∷ address_patches m n (place + 8) (drop 8 left) →
      IsMoved n (place + 8) (drop 8 left) → IsMoved (suc n) place left
  one_moved n place left e step r =
      let p : Patch = first_patch place left in
      let body : List ℕ = take 8 left in
      let rest : List ℕ = drop 8 left in
      let ps : List Patch = address_patches m n (place + 8) rest in
      let bytes_is : length p.bytes ≡ 8 = length-bytes_low_first 0 8
      (unwrap_or (moved_address m (little_number 8 left)) (little_number 8 left)) in
      let body_is : length body ≡ 8 = length-take-le 8 left (omega arith) in
      let rest_is : length rest ≡ length left - 8 = length-drop 8 left in
      let size = r.size in
      let end_is : place + 8 + length rest ≡ place + length left = omega arith in
      let long = length-append p.bytes r.new in
      record {
        new = p.bytes ++ r.new;
        size = omega arith;
        starts = λ qs from. subst (λ (l : List Patch). From place (l ++ qs)) (sym step) (omega arith);
        are = λ after qs from.
            let from2 : From (place + 8 + length rest) qs = subst (λ (k : ℕ). From k qs) (sym end_is) from in
            ap (λ (l : List Patch). patched place (l ++ qs) (left ++ after)) step
            ∙ ap (λ (l : List ℕ). patched place (p ∷ (ps ++ qs)) l) (ap (λ (l : List ℕ). l ++ after) (sym (take-append-drop 8 left))
            ∙ append_assoc body rest after)
            ∙ patched-over place (place + 8) [] body (rest ++ after) p (ps ++ qs) (omega arith) (omega arith) (omega arith)
            ∙ ap (λ (l : List ℕ). p.bytes ++ l) (r.are after qs from2 ∙ ap (λ (k : ℕ). r.new ++ patched k qs after) end_is)
            ∙ sym (append_assoc p.bytes r.new (patched (place + length left) qs after));
      }

  all_moved : (n place : ℕ) (left : List ℕ) → length left ≡ n * 8 → IsMoved n place left
  unfolding address_patches
  all_moved zero place left e = none_moved place left (omega arith) (λ left. refl)
  all_moved (suc n) place left e =
      let rest_is : length (drop 8 left) ≡ length left - 8 = length-drop 8 left in
      one_moved n place left e refl (all_moved n (place + 8) (drop 8 left) (omega arith))

-- A table's header comes first, and is unchanged.
next_two : (lead xs ys : List ℕ) → length lead ≡ 4 → little_number 2 (drop 2 (lead ++ xs)) ≡ little_number 2 (drop 2 (lead ++ ys))
next_two [] xs ys e = absurd (omega arith)
next_two (a ∷ []) xs ys e = absurd (omega arith)
next_two (a ∷ b ∷ []) xs ys e = absurd (omega arith)
next_two (a ∷ b ∷ c ∷ []) xs ys e = absurd (omega arith)
next_two (a ∷ b ∷ c ∷ d ∷ lead) xs ys e = refl

and_parts : (a b c : Bool) → (a && b && c) ≡ true → (a ≡ true) × (c ≡ true)
and_parts true true c e = (refl, e)
and_parts true false c e = absurd (cc)
and_parts false b c e = absurd (cc)

whole_eights : (n : ℕ) → (n % 8 == 0) ≡ true → n ≡ n / 8 * 8
whole_eights n e = let g : n % 8 ≡ 0 = grind (arith, nat_tests) in omega arith

four_at_least : (n : ℕ) → nat_le 4 n ≡ true → 4 ≤ n
four_at_least n e = grind (arith, nat_tests)

-- A table's new bytes pass the tests of a table.
abbrev pub IsTable : Walked → Walked → List ℕ → Type 0
IsTable w x new = is_address_table new ≡ true

module _ (m : Moves) (w : Walked) (bytes : List ℕ) (is : w.bytes ≡ Some bytes) (table : is_address_table bytes ≡ true) where
  parts : (nat_le 4 (length bytes) ≡ true) × (((length bytes - 4) % 8 == 0) ≡ true)
  parts = and_parts (nat_le 4 (length bytes)) (little_number 2 (drop 2 bytes) == 8) ((length bytes - 4) % 8 == 0) table

  enough : 4 ≤ length bytes
  enough = four_at_least (length bytes) parts.0

  abbrev addresses : List ℕ
  addresses = drop 4 bytes

  abbrev count : ℕ
  count = (length bytes - 4) / 8

  moved : IsMoved m count (w.place + 8) addresses
  moved = let g = length-drop 4 bytes in all_moved m count (w.place + 8) addresses (g ∙ whole_eights (length bytes - 4) parts.1)

  abbrev head : List ℕ
  head = take 4 bytes

  head_size : length head ≡ 4
  head_size = length-take-le 4 bytes enough

  split : bytes ≡ head ++ addresses
  split = sym (take-append-drop 4 bytes)

  abbrev new_bytes : List ℕ
  new_bytes = head ++ moved.new

  new_size : length new_bytes ≡ length bytes
  new_size =
      let a = length-append head moved.new in
      let b = moved.size in
      let c = length-drop 4 bytes in
      let d = head_size in
      let e = enough in
      omega arith

  end_is : end_of w ≡ w.place + 8 + length addresses
  end_is =
      let a : end_of w ≡ w.place + 4 + length bytes = ap (λ (o : Option (List ℕ)). end_of
      (record { place = w.place; bytes = o; is_other = w.is_other })) is in
      let b = length-drop 4 bytes in
      let c = enough in
      omega arith

  patches_are : table_patches m w ≡ address_patches m count (w.place + 8) addresses
  patches_are = ap (λ (o : Option (List ℕ)). option_map_or (λ bytes. address_patches m ((length bytes - 4) / 8) (w.place + 8)
      (drop 4 bytes)) o []) is

  renewal : IsRenewed w (table_patches m w) bytes new_bytes
  renewal = record {
    size = new_size;
    version = same-front head moved.new addresses head_size ∙ sym (ap (little_number 2) split);
    starts = λ qs from. subst (λ (ps : List Patch). From w.place (ps ++ qs)) (sym patches_are)
        (from_less (w.place + 8) w.place (address_patches m count (w.place + 8) addresses ++ qs) (omega arith)
        (moved.starts qs (subst (λ (k : ℕ). From k qs) end_is from)));
    are = λ lead after qs four from.
        let ps : List Patch = address_patches m count (w.place + 8) addresses in
        let from2 : From (w.place + 8 + length addresses) qs = subst (λ (k : ℕ). From k qs) end_is from in
        let size = length-append lead head in
        let h = head_size in
        ap (λ (l : List Patch). patched w.place (l ++ qs) ((lead ++ bytes) ++ after)) patches_are
        ∙ ap (λ (l : List ℕ). patched w.place (ps ++ qs) ((lead ++ l) ++ after)) split
        ∙ ap (λ (l : List ℕ). patched w.place (ps ++ qs) l) (ap (λ (l : List ℕ). l ++ after) (sym (append_assoc lead head addresses))
        ∙ append_assoc (lead ++ head) addresses after)
        ∙ patched-behind w.place (w.place + 8) (lead ++ head) (addresses ++ after) (ps ++ qs) (omega arith) (moved.starts qs from2)
        ∙ ap (λ (l : List ℕ). (lead ++ head) ++ l) (moved.are after qs from2)
        ∙ sym (append_assoc (lead ++ head) moved.new (patched (w.place + 8 + length addresses) qs after))
        ∙ ap (λ (l : List ℕ). l ++ patched (w.place + 8 + length addresses) qs after) (append_assoc lead head moved.new)
        ∙ ap (λ (k : ℕ). (lead ++ new_bytes) ++ patched k qs after) (sym end_is);
  }

  table_again : is_address_table new_bytes ≡ true
  table_again =
      ap (λ (n : ℕ). nat_le 4 n && little_number 2 (drop 2 new_bytes) == 8 && (n - 4) % 8 == 0) new_size
      ∙ ap (λ (k : ℕ). nat_le 4 (length bytes) && k == 8 && (length bytes - 4) % 8 == 0)
      (next_two head moved.new addresses head_size ∙ sym (ap (λ (l : List ℕ). little_number 2 (drop 2 l)) split))
      ∙ table

  table_new : IsNew (table_patches m) IsTable w w new_bytes
  table_new = record {
    renewal = λ b e. subst (λ (b : List ℕ). IsRenewed w (table_patches m w) b new_bytes) (same_Some bytes b (sym is ∙ e)) renewal;
    says = table_again;
  }

-- All tables

abbrev pub AreTables : List Walked → Type 0
AreTables [] = ⊤
AreTables (w ∷ ws) = (option_map_or is_address_table w.bytes false ≡ true) × AreTables ws

pub tables_good : (ws : List Walked) → find (λ w. not (option_map_or is_address_table w.bytes false)) ws ≡ None → AreTables ws
tables_good [] e = tt
tables_good (w ∷ ws) e = by_test (option_map_or is_address_table w.bytes false) e (tables_good ws) where
  by_test : (b : Bool) → (if not b then Some w else find (λ w. not (option_map_or is_address_table w.bytes false)) ws) ≡ None →
      (find (λ w. not (option_map_or is_address_table w.bytes false)) ws ≡ None → AreTables ws) → (b ≡ true) × AreTables ws
  by_test true f ih = (refl, ih f)
  by_test false f ih = absurd (cc)

pub good_tables : (ws : List Walked) → AreTables ws → find (λ w. not (option_map_or is_address_table w.bytes false)) ws ≡ None
good_tables [] t = refl
good_tables (w ∷ ws) t =
    ap (λ (b : Bool). if not b then Some w else find (λ w. not (option_map_or is_address_table w.bytes false)) ws) t.0
    ∙ good_tables ws t.1

module _ (m : Moves) where
  one_new : (w : Walked) (o : Option (List ℕ)) → w.bytes ≡ o → option_map_or is_address_table o false ≡ true →
      (new : List ℕ) × IsNew (table_patches m) IsTable w w new
  one_new w None is e = absurd (cc)
  one_new w (Some bytes) is e = (new_bytes m w bytes is e, table_new m w bytes is e)

  all_new : (ws : List Walked) → AreTables ws → (ns : List (List ℕ)) × AreNew (table_patches m) IsTable ws ws ns
  all_new [] t = ([], tt)
  all_new (w ∷ ws) t =
      let x = one_new w w.bytes refl t.0 in
      let xs = all_new ws t.1 in
      (x.0 ∷ xs.0, (x.1, xs.1))

  renewed_tables : (ws xs : List Walked) (ns : List (List ℕ)) → AreNew (table_patches m) IsTable ws xs ns → AreTables (all_renewed ws ns)
  renewed_tables [] xs ns are = tt
  renewed_tables (w ∷ ws) [] ns are = absurd are
  renewed_tables (w ∷ ws) (x ∷ xs) [] are = absurd are
  renewed_tables (w ∷ ws) (x ∷ xs) (n ∷ ns) are = (are.0.says, renewed_tables ws xs ns are.1)

  -- The new section has as many bytes as the old one, and its tables.
  pub record AreNewTables (addr : List ℕ) : Type 0 where
    pub size : length (changed_addr m addr) ≡ length addr
    pub good : AreGood (walked 5 (changed_addr m addr))
    pub tables : AreTables (walked 5 (changed_addr m addr))

  pub addresses_new : (addr : List ℕ) → AreGood (walked 5 addr) → AreTables (walked 5 addr) → AreNewTables addr
  addresses_new addr good tables =
      let ws : List Walked = walked 5 addr in
      let whole : AreWhole 0 ws addr = units_whole (length addr) 0 addr (omega arith) good in
      let news = all_new ws tables in
      let r : IsSection (table_patches m) IsTable 0 ws ws news.0 addr = section_renewed (table_patches m) IsTable 0 ws ws news.0 addr
      whole news.1 in
      let size : length (changed_addr m addr) ≡ length addr = ap length r.are ∙ r.size in
      let again : walked 5 (changed_addr m addr) ≡ all_renewed ws news.0 =
      ap (walked 5) r.are ∙ units_again (length r.new) 0 (all_renewed ws news.0) r.new (omega arith) r.whole in
      record {
        size = size;
        good = subst AreGood (sym again) (whole_good 0 (all_renewed ws news.0) r.new r.whole);
        tables = subst AreTables (sym again) (renewed_tables ws ws news.0 news.1);
      }
