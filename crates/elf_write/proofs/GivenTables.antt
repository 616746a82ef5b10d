-- The sections of the input in a written file: a name of a debug table means the same section, and one with a given table holds
-- that.
use Rattle.std.proofs.Common.{◌≡◌, ℕ, zero, suc, ◌<◌, List, [], ◌∷◌, ◌++◌, length, Option, Some, None, Bool, true, false}
use Rattle.std.proofs.Common.{refl, sym, ap, ◌∙◌, subst, arith, inl, inr, ◌⊎◌, get_or}
use Rattle.std.specs.Prelude.{◌==◌, ◌&&◌, ◌||◌, not, slice_get, find, position, nat_eq, if◌then◌else◌, String, Vec, string_bytes}
use Rattle.std.specs.Prelude.{codes, take}
use Rattle.std.specs.Option.{option_map_or}
use Rattle.std.specs.List.{starts_with, position_or_len}
use Rattle.std.specs.Str.{bytes_eq}
use Rattle.std.specs.Cmp.Lexicographic.{same_text}
use Rattle.std.proofs.lemmas.Bool.{and_parts, eqb-true, eq-eqb, lt-ltb, ltb-true, false_from_ne_true, and_right}
use Rattle.std.proofs.lemmas.List.Folds.{find_at}
use Rattle.std.proofs.lemmas.List.Quantifiers.{position-Some}
use Rattle.std.proofs.lemmas.Option.{slice_get_within, slice_get-get_or, get_or_from_slice_get, same_Some}
use Rattle.std.proofs.Math.Dec.{ltb}
use Rattle.rb_bytes.proofs.ListLemmas.{slice_get_found}
use Rattle.rb_bytes.proofs.Tests.{bool_same, clash}
use Rattle.elf_image.specs.declared.elf.Elf.{Elf}
use Rattle.elf_image.specs.declared.section.Section.{Section}
use Rattle.elf_image.specs.declared.section.TheConstants.{SHF_ALLOC}
use Rattle.elf_image.specs.file.Header.{e_shstrndx, is_set}
use Rattle.elf_image.specs.file.SectionNames.{is_called, is_loaded, is_meant_by, names_debug, names_frames, section_called}
use Rattle.elf_image.specs.file.Sections.{holds_code}
use Rattle.elf_plan.specs.declared.area.Area.{Area}
use Rattle.elf_plan.specs.declared.area.Shift.{Shift}
use Rattle.elf_plan.specs.declared.sections.Contents.{Contents}
use Rattle.elf_plan.specs.declared.sections.Contents.TheVariants.{Dropped, Inactive, Kept, Copied, SectionNames, Symbols, SymbolNames}
use Rattle.elf_plan.specs.declared.sections.Contents.TheVariants.{Given}
use Rattle.elf_plan.specs.Contents.{contents_of, is_at, is_left_out, own_contents, place_replaced, section_bytes}
use Rattle.elf_plan.specs.NameTables.{place_of_names, place_of_symbols}
use Rattle.elf_plan.specs.NewSections.{AreNewSections, Follows, bytes_called, flags_left, without_code}
use Rattle.elf_plan.specs.OldNames.{is_renamed, new_name, old_name}
use Rattle.elf_write.specs.TablePlaces.{takes_table}

pub same_bytes : (xs ys : List ℕ) → bytes_eq xs ys ≡ true → xs ≡ ys
same_bytes xs ys h = same_text xs ys (sym h)

-- A debug table isn't one of unwinding, nor is a name that begins with `.old`.

other_second : (b c d : ℕ) (x y : Bool) → nat_eq c d ≡ false → (nat_eq c b && x) ≡ true → (nat_eq d b && y) ≡ true → ⊥
other_second b c d x y differs h k =
    let p = eqb-true c b ((and_parts (nat_eq c b) x h).0) in
    let q = eqb-true d b ((and_parts (nat_eq d b) y k).0) in
    let e : nat_eq c d ≡ true = eq-eqb c d (omega (arith, p, q)) in
    clash (nat_eq c d) e differs

dotted : (c : ℕ) (xs name : List ℕ) → nat_eq c 100 ≡ false → names_debug name ≡ true → bytes_eq (46 ∷ c ∷ xs) name ≡ true → ⊥
dotted c xs [] differs d h = absurd (cc)
dotted c xs (a ∷ []) differs d h = clash (nat_eq 46 a && false) h (and_right (nat_eq 46 a) false refl)
dotted c xs (a ∷ b ∷ rest) differs d h =
    other_second b c 100 (bytes_eq xs rest) (bytes_eq (101 ∷ 98 ∷ 117 ∷ 103 ∷ 95 ∷ []) (take 5 rest)) differs
    ((and_parts (nat_eq 46 a) (nat_eq c b && bytes_eq xs rest) h).1)
    ((and_parts (nat_eq 46 a) (nat_eq 100 b && bytes_eq (101 ∷ 98 ∷ 117 ∷ 103 ∷ 95 ∷ []) (take 5 rest)) d).1)

old_other : (x name : List ℕ) → names_debug name ≡ true → bytes_eq (old_name x) name ≡ false
old_other x name d = false_from_ne_true (bytes_eq (old_name x) name) (by (starts_with nat_eq x (codes ".")))
  where
    by : (b : Bool) → bytes_eq (if b then codes ".old" ++ x else codes ".old." ++ x) name ≡ true → ⊥
    by true h = dotted 111 (108 ∷ 100 ∷ x) name refl d h
    by false h = dotted 111 (108 ∷ 100 ∷ 46 ∷ x) name refl d h

-- no name of a debug table is one of unwinding
pub no_frames : (name : List ℕ) → names_debug name ≡ true → names_frames name ≡ false
no_frames name d =
    false_from_ne_true (names_frames name) (by (bytes_eq name (codes ".eh_frame")) (bytes_eq name (codes ".eh_frame_hdr")) refl refl)
  where
    one : (other : List ℕ) → names_debug other ≡ false → bytes_eq name other ≡ true → ⊥
    one other none h = clash (names_debug other) (ap names_debug (sym (same_bytes name other h)) ∙ d) none

    by : (a b : Bool) → bytes_eq name (codes ".eh_frame") ≡ a → bytes_eq name (codes ".eh_frame_hdr") ≡ b → (a || b) ≡ true → ⊥
    by true b is_a is_b h = one (codes ".eh_frame") refl is_a
    by false true is_a is_b h = one (codes ".eh_frame_hdr") refl is_b
    by false false is_a is_b h = absurd (cc)

-- First of several.

pub found_first : {X : Type 0} (q : X → Bool) (ys : List X) (i : ℕ) (y : X) → slice_get ys i ≡ Some y → q y ≡ true →
    ((k : ℕ) (z : X) → k < i → slice_get ys k ≡ Some z → q z ≡ false) → find q ys ≡ Some y
found_first q [] i y at is never = absurd (cc)
found_first {X} q (x ∷ xs) zero y at is never = rw (ap q (same_Some x y at) ∙ is) at
found_first q (x ∷ xs) (suc i) y at is never =
    let fails : q x ≡ false = never 0 x (omega arith) refl in
    rw fails (found_first q xs i y at is (λ k z less there. never (suc k) z (omega (arith, less)) there))

pub record FirstAt {X : Type 0} (p : X → Bool) (xs : List X) (x : X) : Type 0 where
  pub i : ℕ
  pub place : position p xs ≡ Some i
  pub at : slice_get xs i ≡ Some x

pub first_at : {X : Type 0} (p : X → Bool) (xs : List X) (x : X) → find p xs ≡ Some x → FirstAt p xs x
first_at p xs x found =
    let at : slice_get xs (position_or_len p xs) ≡ Some x = sym (find_at p xs) ∙ found in
    let inside = lt-ltb (position_or_len p xs) (length xs) (slice_get_within xs (position_or_len p xs) x at) in
    record { i = position_or_len p xs; place = rw inside refl; at = at }

-- what a search by another test finds, which gives the same answers
given_is_called : {X : Type 0} (p q : X → Bool) (xs : List X) (x : X) → find q xs ≡ Some x → ((y : X) → p y ≡ q y) →
    (t : ℕ) × (position p xs ≡ Some t) × (slice_get xs t ≡ Some x)
given_is_called p q xs x found same =
    let f = first_at p xs x (same_find xs ∙ found) in
    (f.i, f.place, f.at)
  where
    same_find : (ys : List _) → find p ys ≡ find q ys
    same_find ys = ap {B = Option _} (λ (test : _ → Bool). find test ys) (let all : p ≡ q = λ i y. same y i in all)

-- nor does such a search find anything where the other doesn't
pub not_found : {X : Type 0} (p q : X → Bool) (xs : List X) → find q xs ≡ None → ((y : X) → p y ≡ q y) → position p xs ≡ None
not_found {X} p q xs none same =
    by (ltb (position_or_len p xs) (length xs)) refl
    (sym (find_at p xs) ∙ ap (λ (test : X → Bool). find test xs) (let all : p ≡ q = λ i y. same y i in all) ∙ none)
  where
    by : (b : Bool) → ltb (position_or_len p xs) (length xs) ≡ b → slice_get xs (position_or_len p xs) ≡ None →
        (if b then Some (position_or_len p xs) else None) ≡ None
    by true less none =
        let (x, is) = slice_get_found xs (position_or_len p xs) (ltb-true (position_or_len p xs) (length xs) less) in
        let c : Some x ≡ None = sym is ∙ none in
        absurd (cc)
    by false less none = refl

-- What the flags of a section of the input become.

pub data FlagsOf (s n : Section) : Type 0 where
  kept_flags : n.flags ≡ s.flags → FlagsOf s n
  no_code : n.flags ≡ without_code s.flags → FlagsOf s n
  few_flags : n.flags ≡ flags_left s → FlagsOf s n

-- a section that is none of names or symbols, and isn't left out, gets its table
given_by : (a b c d : Bool) (own : Contents) (t : ℕ) → (not (a || (b || c)) && not d) ≡ true →
    (if a then SectionNames else if b then Symbols else if c then SymbolNames else if d then Dropped
    else option_map_or Given (Some t) own) ≡ Given t
given_by true b c d own t h = absurd (cc)
given_by false true c d own t h = absurd (cc)
given_by false false true d own t h = absurd (cc)
given_by false false false true own t h = absurd (cc)
given_by false false false false own t h = refl

-- Sections that keep their places.

module _ {Y Z : Type 0} (elf new : Elf) (tables : List (String Y × Vec ℕ Z)) (area : Area) (shift : Shift) (code : List ℕ)
    (are : AreNewSections elf new tables area shift code) where
  flags_by : (c : Contents) (s n : Section) → Follows tables shift elf.file.now new.file.now c s n → FlagsOf s n
  flags_by Dropped s n f = few_flags f.flags
  flags_by Inactive s n f = kept_flags f.same.flags
  flags_by Kept s n f = kept_flags f.same.flags
  flags_by Copied s n f = kept_flags f.same.flags
  flags_by SectionNames s n f = no_code f.own.flags
  flags_by Symbols s n f = no_code f.flags
  flags_by SymbolNames s n f = no_code f.own.flags
  flags_by (Given t) s n f = kept_flags f.same.flags

  pub flags_of : (k : ℕ) (s n : Section) → slice_get elf.sections.items k ≡ Some s → slice_get new.sections.items k ≡ Some n →
      FlagsOf s n
  flags_of k s n at at_new = flags_by (contents_of elf tables area shift k s) s n (are.follows k s n at at_new)

  -- without code flags stay, or few are left
  flags_stay : (s n : Section) → holds_code s.flags ≡ false → FlagsOf s n → (n.flags ≡ s.flags) ⊎ (n.flags ≡ flags_left s)
  flags_stay s n plain (kept_flags e) = inl e
  flags_stay s n plain (no_code e) = inl (e ∙ rw plain refl)
  flags_stay s n plain (few_flags e) = inr e

  module _ (name : List ℕ) (debug : names_debug name ≡ true) where
    other : names_frames name ≡ false
    other = no_frames name debug

    meant : (s : Section) → is_meant_by name s ≡ (not (is_loaded s) && not (holds_code s.flags))
    meant s = rw (other, debug) refl

    -- the name means it by its flags
    meant_so : (s n : Section) → (not (is_loaded n) && not (holds_code n.flags)) ≡ (not (is_loaded s) && not (holds_code s.flags)) →
        n.name.now ≡ s.name.now → is_called name n ≡ is_called name s
    meant_so s n same kept =
        ap (λ (x : List ℕ). bytes_eq x name && is_meant_by name n) kept
        ∙ ap (λ (b : Bool). bytes_eq s.name.now name && b) (meant n ∙ same ∙ sym (meant s))

    -- what is left of a header is meant where the section was
    left_meant : (loaded known : Bool) (s n : Section) → is_loaded s ≡ loaded → names_debug s.name.now ≡ known →
        n.flags ≡ flags_left s → holds_code s.flags ≡ false → n.name.now ≡ s.name.now → is_called name n ≡ is_called name s
    left_meant false known s n is_l is_k left plain kept =
        let none : n.flags ≡ 0 = left ∙ rw is_l refl in meant_so s n (rw (none, is_l, plain) refl) kept
    left_meant true true s n is_l is_k left plain kept =
        let one : n.flags ≡ SHF_ALLOC = left ∙ rw (is_l, is_k) refl in meant_so s n (rw (one, is_l) refl) kept
    left_meant true false s n is_l is_k left plain kept =
        let differs : bytes_eq s.name.now name ≡ false =
        false_from_ne_true (bytes_eq s.name.now name) (λ h. clash (names_debug s.name.now)
        (ap names_debug (same_bytes s.name.now name h) ∙ debug) is_k) in
        ap (λ (b : Bool). b && is_meant_by name n) (ap (λ (x : List ℕ). bytes_eq x name) kept ∙ differs)
        ∙ sym (ap (λ (b : Bool). b && is_meant_by name s) differs)

    plain_called : (s n : Section) → holds_code s.flags ≡ false → n.name.now ≡ s.name.now →
        (n.flags ≡ s.flags) ⊎ (n.flags ≡ flags_left s) → is_called name n ≡ is_called name s
    plain_called s n plain kept (inl same) =
        meant_so s n (ap (λ (x : ℕ). not (is_set SHF_ALLOC x) && not (holds_code x)) same) kept
    plain_called s n plain kept (inr left) = left_meant (is_loaded s) (names_debug s.name.now) s n refl refl left plain kept

    -- one of them is called so where it was
    called_same : (s n : Section) → n.name.now ≡ new_name s → FlagsOf s n →
        is_called name n ≡ is_called name s
    called_same s n named flags = by_code (holds_code s.flags) refl
      where
        renamed : is_renamed s ≡ true → is_called name n ≡ false
        renamed is =
            let differs : bytes_eq n.name.now name ≡ false =
            ap (λ (x : List ℕ). bytes_eq x name) (named ∙ rw is refl) ∙ old_other s.name.now name debug in
            ap (λ (b : Bool). b && is_meant_by name n) differs

        by_frames : (b : Bool) → names_frames s.name.now ≡ b → holds_code s.flags ≡ false → is_called name n ≡ is_called name s
        by_frames true e plain =
            renamed (rw (plain, e) refl) ∙ sym (ap (λ (b : Bool). b && is_meant_by name s)
            (false_from_ne_true (bytes_eq s.name.now name) (λ same.
            clash (names_frames name) (ap names_frames (sym (same_bytes s.name.now name same)) ∙ e) other)))
        by_frames false e plain =
            plain_called s n plain (named ∙ rw (plain, e) refl) (flags_stay s n plain flags)

        by_code : (b : Bool) → holds_code s.flags ≡ b → is_called name n ≡ is_called name s
        by_code true e =
            let none : is_meant_by name s ≡ false =
            meant s ∙ and_right (not (is_loaded s)) (not (holds_code s.flags)) (ap not e) in
            renamed (rw e refl) ∙ sym (and_right (bytes_eq s.name.now name) (is_meant_by name s) none)
        by_code false e = by_frames (names_frames s.name.now) refl e

    pub same_at : (k : ℕ) (x y : Section) → slice_get elf.sections.items k ≡ Some x → slice_get new.sections.items k ≡ Some y →
        is_called name y ≡ is_called name x
    same_at k x y old there =
        called_same x y (are.called k x y old there) (flags_of k x y old there)

    module _ (i : ℕ) (first : position (is_called name) elf.sections.items ≡ Some i) (s n : Section)
        (at : slice_get elf.sections.items i ≡ Some s) (at_new : slice_get new.sections.items i ≡ Some n) where
      called_i : is_called name s ≡ true
      called_i =
          let h = position-Some (is_called name) elf.sections.items i s first in
          ap (is_called name) (sym (get_or_from_slice_get elf.sections.items i s s at)) ∙ h.1

      -- the section of the name is the same
      pub new_called : section_called new.sections.items name ≡ Some n
      new_called =
          found_first (is_called name) new.sections.items i n at_new (same_at i s n at at_new ∙ called_i)
          (λ k z less there.
          let h = position-Some (is_called name) elf.sections.items i s first in
          let x = get_or elf.sections.items k s in
          let inside = slice_get_within elf.sections.items i s at in
          same_at k x z (slice_get-get_or elf.sections.items k s (omega (arith, less, inside))) there ∙ h.2 k less)

      -- a table has this place if it has the name
      pub same_table : (x : List ℕ) → is_at i (place_replaced elf.sections.items x) ≡ bytes_eq x name
      same_table x = bool_same (is_at i (place_replaced elf.sections.items x)) (bytes_eq x name) (to (names_frames x) refl) from
        where
          from : bytes_eq x name ≡ true → is_at i (place_replaced elf.sections.items x) ≡ true
          from h =
              ap (λ (y : List ℕ). is_at i (place_replaced elf.sections.items y)) (same_bytes x name h)
              ∙ subst (λ (c : Bool). is_at i (if c then None else position (is_called name) elf.sections.items) ≡ true)
              (sym other)
              (subst (λ (o : Option ℕ). is_at i o ≡ true) (sym first) (eq-eqb i i refl))

          at_place : (o : Option ℕ) → position (is_called x) elf.sections.items ≡ o → is_at i o ≡ true → bytes_eq x name ≡ true
          at_place None e h = absurd (cc)
          at_place (Some j) e h =
              let same : j ≡ i = eqb-true j i h in
              let p = position-Some (is_called x) elf.sections.items j s e in
              let called : is_called x s ≡ true =
              ap (is_called x) (sym (get_or_from_slice_get elf.sections.items i s s at))
              ∙ ap (λ (k : ℕ). is_called x (get_or elf.sections.items k s)) (sym same) ∙ p.1 in
              let of_x = same_bytes s.name.now x (and_parts (bytes_eq s.name.now x) (is_meant_by x s) called).0 in
              let of_name = (and_parts (bytes_eq s.name.now name) (is_meant_by name s) called_i).0 in
              ap (λ (y : List ℕ). bytes_eq y name) (sym of_x) ∙ of_name

          to : (b : Bool) → names_frames x ≡ b →
              is_at i (if names_frames x then None else position (is_called x) elf.sections.items) ≡ true →
              bytes_eq x name ≡ true
          to true e h = absurd (let k : is_at i (if true then None else position (is_called x) elf.sections.items) ≡ true =
              subst (λ (c : Bool). is_at i (if c then None else position (is_called x) elf.sections.items) ≡ true) e h in cc)
          to false e h = at_place (position (is_called x) elf.sections.items) refl
              (subst (λ (c : Bool). is_at i (if c then None else position (is_called x) elf.sections.items) ≡ true) e h)

      -- where it can take the table with this name, it has its contents
      pub given_stands : (table : String Y × Vec ℕ Z) → find (λ t. bytes_eq (string_bytes t.0) name) tables ≡ Some table →
          takes_table elf i s ≡ true → section_bytes new.file.now n ≡ bytes_called tables name
      given_stands table found takes =
          let (t, place, there) = given_is_called (λ (u : String Y × Vec ℕ Z). is_at i
          (place_replaced elf.sections.items (string_bytes u.0)))
          (λ u. bytes_eq (string_bytes u.0) name) tables table found (λ u. same_table (string_bytes u.0)) in
          let given : contents_of elf tables area shift i s ≡ Given t =
          ap (λ (o : Option ℕ). if e_shstrndx elf.file.now == i then SectionNames
          else if is_at i (place_of_symbols elf) then Symbols
          else if is_at i (place_of_names elf) then SymbolNames
          else if is_left_out s then Dropped
          else option_map_or Given o (own_contents elf.segments.items area shift s)) place
          ∙ given_by (e_shstrndx elf.file.now == i) (is_at i (place_of_symbols elf)) (is_at i (place_of_names elf)) (is_left_out s)
          (own_contents elf.segments.items area shift s) t takes in
          let f : Follows tables shift elf.file.now new.file.now (Given t) s n =
          subst (λ (c : Contents). Follows tables shift elf.file.now new.file.now c s n) given (are.follows i s n at at_new) in
          f.contents.contents ∙ rw (there, found) refl
