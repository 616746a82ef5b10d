-- The list of tables, looked up by their names.
use Rattle.std.proofs.Common.{◌≡◌, ◌∙◌, ap, append_assoc, refl, sym, ℕ, List, [], ◌∷◌, ◌++◌, Option, Some, None, Bool, true, false, length}
use Rattle.std.proofs.Common.{map, cond}
use Rattle.std.proofs.lemmas.Bool.{false_from_ne_true}
use Rattle.std.specs.Prelude.{find, is_some, option_map, string_bytes, unwrap_or, codes}
use Rattle.std.specs.Option.{option_map_or}
use Rattle.std.specs.List.{list_any}
use Rattle.std.specs.Prelude.{◌||◌}
use Rattle.std.specs.Str.{bytes_eq}
use Rattle.elf_image.specs.file.SectionNames.{names_debug}
use Rattle.elf_write.specs.NewSections.{bytes_called}
use Rattle.elf_write.specs.TablePlaces.{is_given}
use Rattle.elf_write.specs.TableSizes.{table_size}
use Rattle.table_set.specs.KeptData.{is_one_of, written_names}
use Rattle.bolt_core.specs.GivenTables.{DebugContents, ReadTable, debug_listed, listed, table_if, table_seen}
use Rattle.rb_bytes.proofs.Tests.{clash}
use Rattle.elf_write.proofs.GivenTables.{same_bytes}

-- the first table with a name
abbrev pub seen : List ℕ → List (List ℕ × List ℕ) → Option (List ℕ × List ℕ)
seen name xs = find (λ (x : List ℕ × List ℕ). bytes_eq x.0 name) xs

abbrev found : List ℕ → List ReadTable → Option ReadTable
found name tables = find (λ (t : ReadTable). bytes_eq (string_bytes t.0) name) tables

find_seen : (name : List ℕ) (tables : List ReadTable) → option_map table_seen (found name tables) ≡ seen name (map table_seen tables)
find_seen name [] = refl
find_seen name (t ∷ ts) = by (bytes_eq (string_bytes t.0) name) (find_seen name ts)
  where
    by : (b : Bool) → option_map table_seen (found name ts) ≡ seen name (map table_seen ts) →
        option_map table_seen (cond b (Some t) (found name ts))
        ≡ cond b (Some (table_seen t)) (seen name (map table_seen ts))
    by true rest = refl
    by false rest = rest

size_by : (o : Option ReadTable) →
    option_map (λ (t : ReadTable). length t.1.items) o ≡ option_map (λ (x : List ℕ × List ℕ). length x.1) (option_map table_seen o)
size_by None = refl
size_by (Some t) = refl

bytes_by : (o : Option ReadTable) →
    option_map_or (λ (t : ReadTable). t.1.items) o [] ≡ option_map_or (λ (x : List ℕ × List ℕ). x.1) (option_map table_seen o) []
bytes_by None = refl
bytes_by (Some t) = refl

given_by : (o : Option ReadTable) → is_some o ≡ is_some (option_map table_seen o)
given_by None = refl
given_by (Some t) = refl

-- The names of all differ.

-- a table with another name is skipped
past_if : (name other : List ℕ) (o : Option (List ℕ)) (rest : List (List ℕ × List ℕ)) → bytes_eq other name ≡ false →
    seen name (table_if other o ++ rest) ≡ seen name rest
past_if name other None rest e = refl
past_if name other (Some bytes) rest e = rw e refl

-- a table that is found in a list is found in a longer list
kept_front : (name : List ℕ) (xs rest : List (List ℕ × List ℕ)) (x : List ℕ × List ℕ) → seen name xs ≡ Some x →
    seen name (xs ++ rest) ≡ Some x
kept_front name [] rest x e = absurd (cc)
kept_front name (y ∷ xs) rest x e = by (bytes_eq y.0 name) e (kept_front name xs rest x)
  where
    by : (b : Bool) → cond b (Some y) (seen name xs) ≡ Some x → (seen name xs ≡ Some x → seen name (xs ++ rest) ≡ Some x) →
        cond b (Some y) (seen name (xs ++ rest)) ≡ Some x
    by true e more = e
    by false e more = more e

abbrev size_of : Option (List ℕ × List ℕ) → Option ℕ
size_of o = option_map (λ (x : List ℕ × List ℕ). length x.1) o

abbrev bytes_of : Option (List ℕ × List ℕ) → List ℕ
bytes_of o = option_map_or (λ (x : List ℕ × List ℕ). x.1) o []

size_front : (name : List ℕ) (o : Option (List ℕ)) (rest : List (List ℕ × List ℕ)) → bytes_eq name name ≡ true → seen name rest ≡ None →
    size_of (seen name (table_if name o ++ rest)) ≡ option_map length o
size_front name None rest same none = ap size_of none
size_front name (Some bytes) rest same none = rw same refl

bytes_front : (name : List ℕ) (o : Option (List ℕ)) (rest : List (List ℕ × List ℕ)) → bytes_eq name name ≡ true → seen name rest ≡ None →
    bytes_of (seen name (table_if name o ++ rest)) ≡ unwrap_or o []
bytes_front name None rest same none = ap bytes_of none
bytes_front name (Some bytes) rest same none = rw same refl

given_front : (name : List ℕ) (o : Option (List ℕ)) → bytes_eq name name ≡ true → is_some (seen name (table_if name o)) ≡ is_some o
given_front name None same = refl
given_front name (Some bytes) same = rw same refl

none_if : (name other : List ℕ) (o : Option (List ℕ)) → bytes_eq other name ≡ false → seen name (table_if other o) ≡ None
none_if name other None e = refl
none_if name other (Some bytes) e = rw e refl

module _ (frames index ranges : Option (List ℕ)) (debug : DebugContents) where
  abbrev all : List (List ℕ × List ℕ)
  all = listed frames index ranges debug

  abbrev behind : List (List ℕ × List ℕ)
  behind = debug_listed debug ++ table_if (codes ".debug_rnglists") ranges

  -- the first two tables, one after another
  in_row : all ≡ table_if (codes ".eh_frame") frames ++ (table_if (codes ".eh_frame_hdr") index ++ behind)
  in_row = append_assoc (table_if (codes ".eh_frame") frames) (table_if (codes ".eh_frame_hdr") index) behind

  size_frames : size_of (seen (codes ".eh_frame") all) ≡ option_map length frames
  size_frames =
      ap (λ (xs : List (List ℕ × List ℕ)). size_of (seen (codes ".eh_frame") xs)) in_row
      ∙ size_front (codes ".eh_frame") frames (table_if (codes ".eh_frame_hdr") index ++ behind) refl
      (past_if (codes ".eh_frame") (codes ".eh_frame_hdr") index behind refl
      ∙ none_if (codes ".eh_frame") (codes ".debug_rnglists") ranges refl)

  bytes_frames : bytes_of (seen (codes ".eh_frame") all) ≡ unwrap_or frames []
  bytes_frames =
      ap (λ (xs : List (List ℕ × List ℕ)). bytes_of (seen (codes ".eh_frame") xs)) in_row
      ∙ bytes_front (codes ".eh_frame") frames (table_if (codes ".eh_frame_hdr") index ++ behind) refl
      (past_if (codes ".eh_frame") (codes ".eh_frame_hdr") index behind refl
      ∙ none_if (codes ".eh_frame") (codes ".debug_rnglists") ranges refl)

  size_index : size_of (seen (codes ".eh_frame_hdr") all) ≡ option_map length index
  size_index =
      ap (λ (xs : List (List ℕ × List ℕ)). size_of (seen (codes ".eh_frame_hdr") xs)) in_row
      ∙ ap size_of (past_if (codes ".eh_frame_hdr") (codes ".eh_frame") frames (table_if (codes ".eh_frame_hdr") index ++ behind) refl)
      ∙ size_front (codes ".eh_frame_hdr") index behind refl (none_if (codes ".eh_frame_hdr") (codes ".debug_rnglists") ranges refl)

  bytes_index : bytes_of (seen (codes ".eh_frame_hdr") all) ≡ unwrap_or index []
  bytes_index =
      ap (λ (xs : List (List ℕ × List ℕ)). bytes_of (seen (codes ".eh_frame_hdr") xs)) in_row
      ∙ ap bytes_of (past_if (codes ".eh_frame_hdr") (codes ".eh_frame") frames (table_if (codes ".eh_frame_hdr") index ++ behind) refl)
      ∙ bytes_front (codes ".eh_frame_hdr") index behind refl (none_if (codes ".eh_frame_hdr") (codes ".debug_rnglists") ranges refl)

  -- any other name is looked up after these two
  seen_behind : (name : List ℕ) → bytes_eq (codes ".eh_frame") name ≡ false → bytes_eq (codes ".eh_frame_hdr") name ≡ false →
      seen name all ≡ seen name behind
  seen_behind name a b =
      ap (seen name) in_row
      ∙ past_if name (codes ".eh_frame") frames (table_if (codes ".eh_frame_hdr") index ++ behind) a
      ∙ past_if name (codes ".eh_frame_hdr") index behind b

-- two names that differ, in either order
other_way : (x name : List ℕ) → bytes_eq name x ≡ false → bytes_eq x name ≡ false
other_way x name e =
    false_from_ne_true (bytes_eq x name) (λ h. let same = same_bytes x name h in
    clash (bytes_eq name x) (ap (λ (y : List ℕ). bytes_eq y x) (sym same) ∙ ap (bytes_eq x) same ∙ h) e)

no_debug : (x name : List ℕ) → names_debug x ≡ false → names_debug name ≡ true → bytes_eq x name ≡ false
no_debug x name e debug =
    false_from_ne_true (bytes_eq x name) (λ h. clash (names_debug x) (ap names_debug (same_bytes x name h) ∙ debug) e)

-- a name that isn't in a list is skipped
pass_all : (name : List ℕ) (xs rest : List (List ℕ × List ℕ)) →
    list_any (bytes_eq name) (map (λ (x : List ℕ × List ℕ). x.0) xs) ≡ false → seen name (xs ++ rest) ≡ seen name rest
pass_all name [] rest e = refl
pass_all name (x ∷ xs) rest e =
    let parts = neither (bytes_eq name x.0) (list_any (bytes_eq name) (map (λ (y : List ℕ × List ℕ). y.0) xs)) e in
    rw (other_way x.0 name parts.0) (pass_all name xs rest parts.1)
  where
    neither : (a b : Bool) → (a || b) ≡ false → (a ≡ false) × (b ≡ false)
    neither false b h = (refl, h)
    neither true b h = absurd (cc)

any_snoc : (p : List ℕ → Bool) (xs : List (List ℕ)) (x : List ℕ) → list_any p (xs ++ x ∷ []) ≡ false →
    (list_any p xs ≡ false) × (p x ≡ false)
any_snoc p [] x e = by (p x) e
  where
    by : (b : Bool) → (b || false) ≡ false → (false ≡ false) × (b ≡ false)
    by false h = (refl, refl)
    by true h = absurd (cc)
any_snoc p (y ∷ xs) x e = by (p y) e (any_snoc p xs x)
  where
    by : (b : Bool) → (b || list_any p (xs ++ x ∷ [])) ≡ false →
        (list_any p (xs ++ x ∷ []) ≡ false → (list_any p xs ≡ false) × (p x ≡ false)) →
        ((b || list_any p xs) ≡ false) × (p x ≡ false)
    by false h more = more h
    by true h more = absurd (cc)

-- the list has all tables that are rewritten
unlisted : (name : List ℕ) (ranges : Option (List ℕ)) (debug : DebugContents) → is_one_of written_names name ≡ false →
    seen name (debug_listed debug ++ table_if (codes ".debug_rnglists") ranges) ≡ None
unlisted name ranges debug other =
    let parts = any_snoc (bytes_eq name) (map (λ (x : List ℕ × List ℕ). x.0) (debug_listed debug)) (codes ".debug_rnglists") other in
    pass_all name (debug_listed debug) (table_if (codes ".debug_rnglists") ranges) parts.0
    ∙ none_if name (codes ".debug_rnglists") ranges (other_way (codes ".debug_rnglists") name parts.1)

module _ (tables : List ReadTable) (frames index ranges : Option (List ℕ)) (debug : DebugContents)
    (are : map table_seen tables ≡ listed frames index ranges debug) where
  same : (name : List ℕ) → option_map table_seen (found name tables) ≡ seen name (listed frames index ranges debug)
  same name = find_seen name tables ∙ ap (seen name) are

  pub frames_size : table_size tables (codes ".eh_frame") ≡ option_map length frames
  frames_size =
      size_by (found (codes ".eh_frame") tables) ∙ ap size_of (same (codes ".eh_frame"))
      ∙ size_frames frames index ranges debug

  pub index_size : table_size tables (codes ".eh_frame_hdr") ≡ option_map length index
  index_size =
      size_by (found (codes ".eh_frame_hdr") tables) ∙ ap size_of (same (codes ".eh_frame_hdr"))
      ∙ size_index frames index ranges debug

  pub frames_bytes : bytes_called tables (codes ".eh_frame") ≡ unwrap_or frames []
  frames_bytes =
      bytes_by (found (codes ".eh_frame") tables) ∙ ap bytes_of (same (codes ".eh_frame"))
      ∙ bytes_frames frames index ranges debug

  pub index_bytes : bytes_called tables (codes ".eh_frame_hdr") ≡ unwrap_or index []
  index_bytes =
      bytes_by (found (codes ".eh_frame_hdr") tables) ∙ ap bytes_of (same (codes ".eh_frame_hdr"))
      ∙ bytes_index frames index ranges debug

  module _ (name : List ℕ) (is_debug : names_debug name ≡ true) where
    of_debug : option_map table_seen (found name tables)
        ≡ seen name (debug_listed debug ++ table_if (codes ".debug_rnglists") ranges)
    of_debug =
        same name
        ∙ seen_behind frames index ranges debug name (no_debug (codes ".eh_frame") name refl is_debug)
        (no_debug (codes ".eh_frame_hdr") name refl is_debug)

    -- a table that is always in the list
    pub debug_bytes : (x : List ℕ × List ℕ) → seen name (debug_listed debug) ≡ Some x → bytes_called tables name ≡ x.1
    debug_bytes x is =
        bytes_by (found name tables)
        ∙ ap bytes_of (of_debug ∙ kept_front name (debug_listed debug) (table_if (codes ".debug_rnglists") ranges) x is)

    pub debug_given : (x : List ℕ × List ℕ) → seen name (debug_listed debug) ≡ Some x → is_given tables name ≡ true
    debug_given x is =
        given_by (found name tables)
        ∙ ap is_some (of_debug ∙ kept_front name (debug_listed debug) (table_if (codes ".debug_rnglists") ranges) x is)

    pub not_given : is_one_of written_names name ≡ false → is_given tables name ≡ false
    not_given other = given_by (found name tables) ∙ ap is_some (of_debug ∙ unlisted name ranges debug other)

  pub ranges_bytes : bytes_called tables (codes ".debug_rnglists") ≡ unwrap_or ranges []
  ranges_bytes =
      bytes_by (found (codes ".debug_rnglists") tables) ∙ ap bytes_of (of_debug (codes ".debug_rnglists") refl)
      ∙ by ranges
    where
      by : (o : Option (List ℕ)) → bytes_of (seen (codes ".debug_rnglists") (table_if (codes ".debug_rnglists") o)) ≡ unwrap_or o []
      by None = refl
      by (Some bytes) = refl

  pub ranges_given_is : is_given tables (codes ".debug_rnglists") ≡ is_some ranges
  ranges_given_is =
      given_by (found (codes ".debug_rnglists") tables) ∙ ap is_some (of_debug (codes ".debug_rnglists") refl)
      ∙ given_front (codes ".debug_rnglists") ranges refl
