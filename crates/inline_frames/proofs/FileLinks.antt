-- The links found unit by unit are the chain of the file, with how their names are found.
use Rattle.std.proofs.Common.{◌≡◌, ◌∙◌, ℕ, zero, suc, Bool, true, false, cond, List, [], ◌∷◌, Option, Some, None, refl, sym, ap, subst, map}
use Rattle.std.specs.Prelude.{◌==◌, ◌&&◌, ◌||◌, flat_map, if◌then◌else◌, option_and_then, option_map}
use Rattle.std.specs.BTreeSet.{BTreeSet, contains}
use Rattle.std.specs.List.{AllZip, find}
use Rattle.std.specs.Option.{option_or}
use Rattle.std.specs.Ordering.{nat_cmp}
use Rattle.std.proofs.lemmas.List.Folds.{find-append}
use Rattle.rb_bytes.specs.FirstFault.{IsFree}
use Rattle.answer_runs.specs.Choices.{first_of}
use Rattle.table_core.specs.declared.form.TheConstants.{DW_FORM_sec_offset}
use Rattle.table_core.specs.declared.written.TheConstants.{DW_AT_stmt_list}
use Rattle.dw_unit.specs.declared.attribute.TheConstants.{DW_AT_str_offsets_base}
use Rattle.dw_unit.specs.declared.entry.Attr.{Attr}
use Rattle.dw_unit.specs.CompUnits.{Entry, Unit, attr, base, enclosing, own_entry, units}
use Rattle.dw_unit.specs.Faults.{HasDwarfFault, unit_fault_places}
use Rattle.dw_unit.specs.ListedEntries.{ListedEntry, listed}
use Rattle.dw_unit.specs.ListedUnits.{plain}
use Rattle.range_loc_rewrite.specs.Faults.{ListSections}
use Rattle.range_loc_rewrite.specs.Ranges.{covers, ranges_of}
use Rattle.range_loc_rewrite.specs.Located.{hold}
use Rattle.inline_frames.specs.Chains.{chain, chain_in, is_function_at, last_chain, outward}
use Rattle.inline_frames.specs.FileChains.{file_links, or_before, unit_links}
use Rattle.inline_frames.specs.Following as following
use Rattle.inline_frames.specs.Following.{file_naming, followed_by, listed_naming, unit_naming}
use Rattle.inline_frames.specs.Frames.{named_line_unit}
use Rattle.inline_frames.specs.Links.{link_of, own_says}
use Rattle.inline_frames.specs.Names.{NameSections, unit_of_entry}
use Rattle.inline_frames.specs.Naming.{followed, followed_times, naming_in, naming_of, naming_or_none}
use Rattle.inline_frames.specs.UnitChains.{function_test, link_in, unit_chain}
use Rattle.inline_frames.specs.declared.link.Link.{Link}
use Rattle.inline_frames.specs.declared.naming.Naming.{Naming}
use Rattle.inline_frames.specs.declared.naming.Naming.TheVariants.{Named, Refers}
use Rattle.inline_frames.specs.declared.tag.TheConstants.{DW_TAG_subprogram, DW_TAG_inlined_subroutine}
use Rattle.inline_frames.proofs.AlikeChains.{IsAlike, chain_in_each}
use Rattle.inline_frames.proofs.CoveredEntries.{Covered, all_covered}
use Rattle.inline_frames.proofs.FiledEntries.{IsFiled, units_filed}
use Rattle.inline_frames.proofs.Pairs.{AllOf}

-- The fields of a unit's own entry

own_base : (es : List Entry) →
    (own_says (map listed es)).text_base ≡ option_map (λ (a : Attr). a.value) (option_and_then (attr DW_AT_str_offsets_base) (first_of es))
own_base [] = refl
own_base (e ∷ es) = refl

own_line : (es : List Entry) →
    (own_says (map listed es)).line_unit
    ≡ option_and_then (λ (a : Attr). if a.form == DW_FORM_sec_offset then Some a.value else None)
    (option_and_then (attr DW_AT_stmt_list) (first_of es))
own_line [] = refl
own_line (e ∷ es) = refl

module _ (s : NameSections) (u : Unit) (e : Entry) (filed : unit_of_entry s e ≡ Some u) where
  base_is : option_and_then (base DW_AT_str_offsets_base) (unit_of_entry s e) ≡ (own_says (map listed u.entries)).text_base
  base_is = ap (option_and_then (base DW_AT_str_offsets_base)) filed ∙ sym (own_base u.entries)

  line_is : named_line_unit s e ≡ (own_says (map listed u.entries)).line_unit
  line_is =
      ap (λ (o : Option Unit). option_and_then (λ (a : Attr). if a.form == DW_FORM_sec_offset then Some a.value else None)
      (option_and_then (attr DW_AT_stmt_list) (option_and_then own_entry o))) filed
      ∙ sym (own_line u.entries)

  link_is : link_of s e ≡ link_in s.str_offsets (map listed u.entries) (plain (listed e))
  link_is = λ i. record {
    naming = naming_in s.str_offsets (base_is i) e.unit e.attrs;
    file = (link_of s e).file;
    line = (link_of s e).line;
    column = (link_of s e).column;
    line_unit = line_is i;
  }

  naming_is : naming_of s e ≡ listed_naming s.str_offsets (map listed u.entries) (listed e)
  naming_is = ap (λ (b : Option ℕ). naming_in s.str_offsets b e.unit e.attrs) base_is

-- A chain that is found, or the one before it

pick : List Entry → List Entry → List Entry
pick [] before = before
pick (x ∷ xs) before = x ∷ xs

picked_links : (f : Entry → Link) (xs before : List Entry) → map f (pick xs before) ≡ or_before (map f xs) (map f before)
unfolding pick
picked_links f [] before = refl
picked_links f (x ∷ xs) before = refl

pick_once : (xs ys before : List Entry) (y : Entry) → pick (pick xs (y ∷ ys)) before ≡ pick xs (y ∷ ys)
unfolding pick
pick_once [] ys before y = refl
pick_once (x ∷ xs) ys before y = refl

module _ (test : Entry → Bool) where
  outward_some : (e : Entry) (es : List Entry) → test e ≡ true → (more : List Entry) × (outward test (e ∷ es) ≡ e ∷ more)
  outward_some e es t = by (e.declaration.tag == DW_TAG_subprogram) refl where
    by : (b : Bool) → (e.declaration.tag == DW_TAG_subprogram) ≡ b → (more : List Entry) × (outward test (e ∷ es) ≡ e ∷ more)
    by true s = ([], λ i. if t i then (if s i then e ∷ [] else e ∷ outward test es) else outward test es)
    by false s = (outward test es, λ i. if t i then (if s i then e ∷ [] else e ∷ outward test es) else outward test es)

  chain_picked : (found before es : List Entry) → chain_in test found before es ≡ pick (chain_in test [] before es) found
  unfolding pick
  chain_picked found before [] = refl
  chain_picked found before (e ∷ es) = by (test e) refl (λ f. chain_picked f (e ∷ before) es) where
    out : List Entry
    out = outward test (e ∷ enclosing e.depth before)

    by : (b : Bool) → test e ≡ b → ((f : List Entry) → chain_in test f (e ∷ before) es ≡ pick (chain_in test [] (e ∷ before) es) f) →
        chain_in test (if b then outward test (e ∷ enclosing e.depth before) else found) (e ∷ before) es
        ≡ pick (chain_in test (if b then outward test (e ∷ enclosing e.depth before) else []) (e ∷ before) es) found
    by false t ih = ih found
    by true t ih =
        let some = outward_some e (enclosing e.depth before) t in
        ih (outward test (e ∷ enclosing e.depth before))
        ∙ ap (pick (chain_in test [] (e ∷ before) es)) some.1
        ∙ sym (pick_once (chain_in test [] (e ∷ before) es) some.0 found e)
        ∙ sym (ap (λ (l : List Entry). pick l found) (ih (outward test (e ∷ enclosing e.depth before))
        ∙ ap (pick (chain_in test [] (e ∷ before) es)) some.1))

-- The links of a file

mapped_zip : (f g : Entry → Link) (xs ys : List Entry) → AllZip (λ x y. f x ≡ g y) xs ys → map f xs ≡ map g ys
mapped_zip f g [] [] h = refl
mapped_zip f g [] (y ∷ ys) h = absurd h
mapped_zip f g (x ∷ xs) [] h = absurd h
mapped_zip f g (x ∷ xs) (y ∷ ys) h = λ i. h.0 i ∷ mapped_zip f g xs ys h.1 i

module _ (s : NameSections) (l : ListSections) (a : ℕ) (covering : BTreeSet ℕ)
    (has : (d : ℕ) → contains nat_cmp covering d ≡ covers l d a) where
  abbrev Kept : Unit → Entry → Entry → Type 0
  Kept u x y = link_of s x ≡ link_in s.str_offsets (map listed u.entries) y

  alike : (u : Unit) (es : List Entry) → AllOf (λ (e : Entry). unit_of_entry s e ≡ Some u) es →
      AllOf (λ (e : Entry). covers l e.place a ≡ hold (ranges_of l u e) a) es →
      AllZip (IsAlike (is_function_at l a u) (function_test covering) (Kept u)) es (map plain (map listed es))
  alike u [] filed covered = tt
  alike u (e ∷ es) filed covered = (
    record {
      kept = link_is s u e filed.0;
      depth = refl;
      tag = refl;
      test = ap (λ (b : Bool). (e.declaration.tag == DW_TAG_subprogram || e.declaration.tag == DW_TAG_inlined_subroutine) && b)
          (has e.place ∙ covered.0);
    },
    alike u es filed.1 covered.1,
  )

  unit_is : (u : Unit) → IsFiled s u → Covered l a u →
      unit_links s.str_offsets covering (map listed u.entries) ≡ map (link_of s) (chain_in (is_function_at l a u) [] [] u.entries)
  unit_is u filed covered =
      sym (mapped_zip (link_of s) (link_in s.str_offsets (map listed u.entries)) (chain_in (is_function_at l a u) [] [] u.entries)
      (unit_chain covering (map listed u.entries))
      (chain_in_each (is_function_at l a u) (function_test covering) (Kept u) [] [] tt [] [] tt u.entries
      (map plain (map listed u.entries)) (alike u u.entries filed covered)))

  all_links : (us : List Unit) (found : List Entry) → AllOf (IsFiled s) us → AllOf (Covered l a) us →
      file_links s.str_offsets covering (map (link_of s) found) (map (λ (u : Unit). map listed u.entries) us)
      ≡ map (link_of s) (last_chain l a found us)
  all_links [] found filed covered = refl
  all_links (u ∷ us) found filed covered =
      ap (λ (ls : List Link). file_links s.str_offsets covering ls (map (λ (u : Unit). map listed u.entries) us))
      (ap (λ (ls : List Link). or_before ls (map (link_of s) found)) (unit_is u filed.0 covered.0)
      ∙ sym (picked_links (link_of s) (chain_in (is_function_at l a u) [] [] u.entries) found)
      ∙ sym (ap (map (link_of s)) (chain_picked (is_function_at l a u) found [] u.entries)))
      ∙ all_links us (chain_in (is_function_at l a u) found [] u.entries) filed.1 covered.1

-- The links of the chain at an address.
pub chain_links : (s : NameSections) (l : ListSections) (a : ℕ) (covering : BTreeSet ℕ) → l.units ≡ s.units →
    IsFree (HasDwarfFault (unit_fault_places s.units)) → ((d : ℕ) → contains nat_cmp covering d ≡ covers l d a) →
    file_links s.str_offsets covering [] (map (λ (u : Unit). map listed u.entries) (units s.units)) ≡ map (link_of s) (chain l a)
chain_links s l a covering same free has =
    all_links s l a covering has (units s.units) [] (units_filed s free)
    (subst (λ us. AllOf (Covered l a) (units us)) same (all_covered l a
    (subst (λ us. IsFree (HasDwarfFault (unit_fault_places us))) (sym same) free)))
    ∙ ap (λ us. map (link_of s) (last_chain l a [] (units us))) (sym same)

-- How names are found

or_map : (f : Entry → Naming) (x y : Option Entry) → option_or (option_map f x) (option_map f y) ≡ option_map f (option_or x y)
or_map f None y = refl
or_map f (Some e) y = refl

module _ (s : NameSections) (q : ℕ) where
  abbrev at_place : Entry → Bool
  at_place x = x.place == q

  unit_names : (u : Unit) (es : List Entry) → AllOf (λ (e : Entry). unit_of_entry s e ≡ Some u) es →
      option_map (listed_naming s.str_offsets (map listed u.entries)) (find (λ (e : ListedEntry). e.place == q) (map listed es))
      ≡ option_map (naming_of s) (find at_place es)
  unit_names u [] filed = refl
  unit_names u (e ∷ es) filed = by (e.place == q) (unit_names u es filed.1) where
    by : (b : Bool) →
        option_map (listed_naming s.str_offsets (map listed u.entries)) (find (λ (e : ListedEntry). e.place == q) (map listed es))
        ≡ option_map (naming_of s) (find at_place es) →
        option_map (listed_naming s.str_offsets (map listed u.entries))
        (cond b (Some (listed e)) (find (λ (e : ListedEntry). e.place == q) (map listed es)))
        ≡ option_map (naming_of s) (cond b (Some e) (find at_place es))
    by true more = ap (λ (n : Naming). Some n) (sym (naming_is s u e filed.0))
    by false more = more

  all_names : (us : List Unit) → AllOf (IsFiled s) us →
      file_naming s.str_offsets (map (λ (u : Unit). map listed u.entries) us) q
      ≡ option_map (naming_of s) (find at_place (flat_map (λ (u : Unit). u.entries) us))
  all_names [] filed = refl
  all_names (u ∷ us) filed =
      (λ i. option_or (unit_names u u.entries filed.0 i) (all_names us filed.1 i))
      ∙ or_map (naming_of s) (find at_place u.entries) (find at_place (flat_map (λ (u : Unit). u.entries) us))
      ∙ sym (ap (option_map (naming_of s)) (find-append at_place u.entries (flat_map (λ (u : Unit). u.entries) us)))

module _ (s : NameSections) (free : IsFree (HasDwarfFault (unit_fault_places s.units))) where
  abbrev listed_all : List (List ListedEntry)
  listed_all = map (λ (u : Unit). map listed u.entries) (units s.units)

  once : (n : Naming) → followed_by (file_naming s.str_offsets listed_all) n ≡ followed s n
  once (Named t) = refl
  once (Refers place) = ap naming_or_none (all_names s place (units s.units) (units_filed s free))

  pub times_are : (k : ℕ) (n : Naming) → following.followed_times s.str_offsets listed_all k n ≡ followed_times s k n
  times_are zero n = refl
  times_are (suc k) n =
      ap (following.followed_times s.str_offsets listed_all k) (once n) ∙ times_are k (followed s n)
