-- Headers and units, read in parts.
use Rattle.std.proofs.Common.{◌≡◌, ◌∙◌, ◌<◌, ◌-◌, ℕ, Bool, true, false, List, [], ◌∷◌, Option, Some, None, Ok, Err, Result, refl, sym, ap}
use Rattle.std.proofs.Common.{arith, length, take, drop, ◌⊎◌, inl, inr}
use Rattle.std.specs.Prelude.{◌==◌, ◌&&◌, nat_lt, if◌then◌else◌}
use Rattle.std.specs.List.{list_all}
use Rattle.std.proofs.lemmas.List.{length-map}
use Rattle.std.proofs.lemmas.Bool.Decides.{nat_tests}
use Rattle.std.proofs.lemmas.Grind.{common_steps}
use Rattle.std.proofs.lemmas.Bool.{and_left, and_right}
use Rattle.rb_bytes.specs.Options.{only_if}
use Rattle.rb_bytes.specs.declared.gap.Gap.{Gap}
use Rattle.rb_bytes.specs.declared.gap.Gap.TheVariants.{Short}
use Rattle.rb_bytes.specs.Readers.{bytes_at, number_read}
use Rattle.line_rewrite.specs.declared.coding.Coding.{Coding}
use Rattle.line_rewrite.specs.declared.entry.Entry.{Entry}
use Rattle.line_rewrite.specs.declared.header.Header as code
use Rattle.line_rewrite.specs.Operations.{operations, is_whole}
use Rattle.line_rewrite.specs.LineMachine.{sound_from, start}
use Rattle.line_rewrite.specs.Entries.{◌>>=◌, ok, Named, Strings, table_at}
use Rattle.line_rewrite.specs.LineUnits.{Header, LineUnit, header_in, unit_of, is_sound_program, coding_at, header_behind}
use Rattle.line_rewrite.specs.KeptEntries.{told_entry, told_entries}
use Rattle.line_rewrite.specs.KeptUnits.{are_filed, told_header, tables_at, Outer, outer_at, unit_with}
use Rattle.line_rewrite.specs.SoundPrograms.{is_sound}

-- The first part of a reading, as a part of its own.
split : {A B C : Type 0} (o : Option A) (f : A → Option B) (k : B → Option C) (h : A → Option C) → ((a : A) → (f a >>= k) ≡ h a) →
    ((o >>= f) >>= k) ≡ (o >>= h)
split None f k h e = refl
split (Some a) f k h e = e a

abbrev header_then : Strings → (Coding × ℕ) × List ℕ → Option Header
header_then strings c = header_behind strings c.0.0 c.0.1 c.1

pub header_split : (strings : Strings) (bytes : List ℕ) → (coding_at bytes >>= header_then strings) ≡ header_in strings bytes
unfolding header_in
header_split strings bytes = refl

abbrev unit_then : Strings → Outer → Option LineUnit
unit_then strings o = header_in strings o.fields >>= (λ header.
    only_if (o.address_size == 8 && o.segment_size == 0 && is_sound_program header o.program) (unit_with header o.program))

pub unit_split : (strings : Strings) (bytes : List ℕ) → (outer_at bytes >>= unit_then strings) ≡ unit_of strings bytes
unfolding unit_of
unit_split strings bytes =
    split (ok (number_read 2 bytes)) _ (unit_then strings) _ (λ version.
    split (ok (number_read 1 version.1)) _ (unit_then strings) _ (λ address_size.
    split (ok (number_read 1 address_size.1)) _ (unit_then strings) _ (λ segment_size.
    split (ok (number_read 4 segment_size.1)) _ (unit_then strings) _ (λ size.
    split (ok (bytes_at size.0 size.1)) _ (unit_then strings) _ (λ fields. refl)))))

-- The directories of files, by what is kept of them.
told_filed : (strings : Strings) (n m : ℕ) (files : List Entry) → n ≡ m
    → list_all (λ f. nat_lt f.directory n) (told_entries strings files) ≡ are_filed m files
told_filed strings n m [] e = refl
told_filed strings n m (f ∷ files) e = ap (λ (k : ℕ). nat_lt f.directory k && list_all (λ g. nat_lt g.directory n)
    (told_entries strings files)) e
    ∙ ap (λ (b : Bool). nat_lt f.directory m && b) (told_filed strings n m files e)

pub told_count : (strings : Strings) (es : List Entry) → length (told_entries strings es) ≡ length es
told_count strings es = length-map es (told_entry strings)

pub filed_is : (strings : Strings) (directories files : List Entry)
    → list_all (λ f. nat_lt f.directory (length (told_entries strings directories))) (told_entries strings files) ≡ are_filed
    (length directories) files
filed_is strings directories files = told_filed strings (length (told_entries strings directories)) (length directories) files
    (told_count strings directories)

-- A header, by the parts that were read

module _ (strings : Strings) (bytes : List ℕ) where
  pub header_from : (coding : Coding) (maximum : ℕ) (left : List ℕ) → coding_at bytes ≡ Some ((coding, maximum), left)
      → header_in strings bytes ≡ header_behind strings coding maximum left
  header_from coding maximum left e = sym (header_split strings bytes)
      ∙ ap (λ (o : Option ((Coding × ℕ) × List ℕ)). o >>= header_then strings) e

  pub header_lacks : coding_at bytes ≡ None → header_in strings bytes ≡ None
  header_lacks e = sym (header_split strings bytes) ∙ ap (λ (o : Option ((Coding × ℕ) × List ℕ)). o >>= header_then strings) e

  pub unit_from : (o : Outer) → outer_at bytes ≡ Some o → unit_of strings bytes ≡ unit_then strings o
  unit_from o e = sym (unit_split strings bytes) ∙ ap (λ (o : Option Outer). o >>= unit_then strings) e

  pub unit_lacks : outer_at bytes ≡ None → unit_of strings bytes ≡ None
  unit_lacks e = sym (unit_split strings bytes) ∙ ap (λ (o : Option Outer). o >>= unit_then strings) e

fails : {A B : Type 0} (o : Option A) (f : A → Option B) → ((a : A) → f a ≡ None) → (o >>= f) ≡ None
fails None f e = refl
fails (Some a) f e = e a

-- The conditions on the numbers.
abbrev pub are_numbers : Coding → ℕ → Bool
are_numbers coding maximum = maximum == 1 && nat_lt 0 coding.line_range && nat_lt 0 coding.opcode_base

module _ (strings : Strings) (coding : Coding) (maximum : ℕ) (left : List ℕ) where
  abbrev filed : List Named → List Named → Bool
  filed directories files = list_all (λ f. nat_lt f.directory (length directories)) files

  pub not_numbers : are_numbers coding maximum ≡ false → header_behind strings coding maximum left ≡ None
  not_numbers e = fails (ok (bytes_at (coding.opcode_base - 1) left)) _ (λ lengths. fails (table_at strings lengths.1) _ (λ directories.
      fails (table_at strings directories.1) _ (λ files. rw (and_left (are_numbers coding maximum) (filed directories.0 files.0) e) refl)))

  pub no_lengths : (gap : Gap) → bytes_at (coding.opcode_base - 1) left ≡ Err gap → header_behind strings coding maximum left ≡ None
  no_lengths gap e = rw e refl

  module _ (lengths rest : List ℕ) (here : bytes_at (coding.opcode_base - 1) left ≡ Ok (lengths, rest)) where
    pub no_directories : table_at strings rest ≡ None → header_behind strings coding maximum left ≡ None
    no_directories e = rw (here, e) refl

    pub no_files : (directories : List Named) (l : List ℕ) → table_at strings rest ≡ Some (directories, l) → table_at strings l ≡ None
        → header_behind strings coding maximum left ≡ None
    no_files directories l d e = rw (here, d, e) refl

    module _ (directories files : List Named) (l m : List ℕ) (d : table_at strings rest ≡ Some (directories, l))
        (f : table_at strings l ≡ Some (files, m)) where
      pub header_is : header_behind strings coding maximum left
          ≡ only_if (are_numbers coding maximum && filed directories files)
          (record {
            coding = coding;
            lengths = lengths;
            tables = take (length rest - length m) rest;
            directories = directories;
            files = files;
          })
      header_is = rw (here, d, f) refl

      pub tables_are : tables_at strings rest ≡ Some (directories, files, length rest - length m)
      unfolding tables_at
      tables_are = rw (d, f) refl

-- Taking all bytes left

abbrev read_as : List ℕ → List ℕ → Result (List ℕ × List ℕ) Gap
read_as xs ys = Ok (xs, ys)

abbrev front : Result (List ℕ × List ℕ) Gap → List ℕ
front (Ok read) = read.0
front (Err gap) = []

pub all_taken : (n : ℕ) (left taken after : List ℕ) → n ≡ length left → bytes_at n left ≡ Ok (taken, after) → taken ≡ left
all_taken n left taken after is e =
    let t : nat_lt (length left) n ≡ false = grind (arith, nat_tests) in
    let whole : take n left ≡ left = grind (arith, common_steps) in
    first (sym (ap (λ (b : Bool). if b then Err Short else Ok (take n left, drop n left)) t) ∙ e) ∙ whole
  where
    first : {xs ys : List ℕ} → read_as xs ys ≡ Ok (taken, after) → taken ≡ xs
    first f = sym (ap front f)

-- A kept header, by its fields.
pub header_made : (strings : Strings) (bytes left lengths ls behind rest l m : List ℕ) (coding : Coding) (maximum n : ℕ)
    (ds fs : List Entry)
    → coding_at bytes ≡ Some ((coding, maximum), left) → are_numbers coding maximum ≡ true →
    bytes_at (coding.opcode_base - 1) left ≡ Ok (lengths, behind)
    → ls ≡ lengths → rest ≡ behind → table_at strings behind ≡ Some (told_entries strings ds, l) →
    table_at strings l ≡ Some (told_entries strings fs, m)
    → are_filed (length ds) fs ≡ true → n ≡ length behind - length m
    → header_in strings bytes ≡ Some (record {
      coding = coding;
      lengths = ls;
      tables = take n rest;
      directories = told_entries strings ds;
      files = told_entries strings fs;
    })
header_made strings bytes left lengths ls behind rest l m coding maximum n ds fs numbers good here es er d f filed size =
    header_from strings bytes coding maximum left numbers
    ∙ header_is strings coding maximum left lengths behind here (told_entries strings ds) (told_entries strings fs) l m d f
    ∙ rw (good, filed_is strings ds fs ∙ filed, es, er, size) refl

pub tables_made : (strings : Strings) (behind rest l m : List ℕ) (n : ℕ) (ds fs : List Entry) → rest ≡ behind
    → table_at strings behind ≡ Some (told_entries strings ds, l) → table_at strings l ≡ Some (told_entries strings fs, m) →
    n ≡ length behind - length m
    → tables_at strings rest ≡ Some (told_entries strings ds, told_entries strings fs, n)
unfolding tables_at
tables_made strings behind rest l m n ds fs er d f size = rw (er, d, f, size) refl

pub header_unfiled : (strings : Strings) (bytes left lengths behind l m : List ℕ) (coding : Coding) (maximum : ℕ) (ds fs : List Entry)
    → coding_at bytes ≡ Some ((coding, maximum), left) → bytes_at (coding.opcode_base - 1) left ≡ Ok (lengths, behind)
    → table_at strings behind ≡ Some (told_entries strings ds, l) → table_at strings l ≡ Some (told_entries strings fs, m)
    → are_filed (length ds) fs ≡ false → header_in strings bytes ≡ None
header_unfiled strings bytes left lengths behind l m coding maximum ds fs numbers here d f filed =
    header_from strings bytes coding maximum left numbers
    ∙ header_is strings coding maximum left lengths behind here (told_entries strings ds) (told_entries strings fs) l m d f
    ∙ rw (filed_is strings ds fs ∙ filed, and_no (are_numbers coding maximum)) refl
  where
    and_no : (b : Bool) → (b && false) ≡ false
    and_no true = refl
    and_no false = refl

-- a unit, by its parts

sound_is : (strings : Strings) (h : code.Header) (program : List ℕ)
    → is_sound_program (told_header strings h) program ≡ is_sound h.coding (length h.files.items) h.lengths.items program
sound_is strings h program =
    ap (λ (n : ℕ). is_whole h.coding.opcode_base h.lengths.items program
    && sound_from h.coding n None (start h.coding) (operations h.coding.opcode_base h.lengths.items program))
    (told_count strings h.files.items)

module _ (strings : Strings) (bytes : List ℕ) (o : Outer) (outer : outer_at bytes ≡ Some o) where
  pub unit_headless : header_in strings o.fields ≡ None → unit_of strings bytes ≡ None
  unit_headless e = unit_from strings bytes o outer ∙ rw e refl

  module _ (h : code.Header) (header : header_in strings o.fields ≡ Some (told_header strings h)) where
    by_tests : (sizes sound : Bool) → (o.address_size == 8 && o.segment_size == 0) ≡ sizes →
        is_sound h.coding (length h.files.items) h.lengths.items o.program ≡ sound
        → unit_of strings bytes ≡ only_if (sizes && sound) (unit_with (told_header strings h) o.program)
    by_tests sizes sound a b =
        unit_from strings bytes o outer ∙ rw header refl
        ∙ ap (λ (t : Bool). only_if (t && is_sound_program (told_header strings h) o.program) (unit_with (told_header strings h) o.program))
        a
        ∙ ap (λ (t : Bool). only_if (sizes && t) (unit_with (told_header strings h) o.program)) (sound_is strings h o.program ∙ b)

    pub unit_sized : (o.address_size == 8 && o.segment_size == 0) ≡ false → unit_of strings bytes ≡ None
    unit_sized e = by_tests false (is_sound h.coding (length h.files.items) h.lengths.items o.program) e refl

    pub unit_unsound : is_sound h.coding (length h.files.items) h.lengths.items o.program ≡ false → unit_of strings bytes ≡ None
    unit_unsound e = by_tests (o.address_size == 8 && o.segment_size == 0) false refl e ∙ none (o.address_size == 8 && o.segment_size == 0)
      where
        none : (b : Bool) → only_if (b && false) (unit_with (told_header strings h) o.program) ≡ None
        none true = refl
        none false = refl

    pub unit_made : (program : List ℕ) → o.address_size ≡ 8 → o.segment_size ≡ 0 →
        is_sound h.coding (length h.files.items) h.lengths.items o.program ≡ true → program ≡ o.program
        → unit_of strings bytes ≡ Some (unit_with (told_header strings h) program)
    unit_made program a b s e =
        by_tests true true (rw (a, b) refl) s ∙ ap (λ (p : List ℕ). Some (unit_with (told_header strings h) p)) (sym e)

-- The tests of the numbers and sizes

pub numbers_true : (coding : Coding) (maximum : ℕ) → maximum ≡ 1 → 0 < coding.line_range → 0 < coding.opcode_base →
    are_numbers coding maximum ≡ true
numbers_true coding maximum a b d =
    let t : nat_lt 0 coding.line_range ≡ true = grind (arith, nat_tests) in
    let u : nat_lt 0 coding.opcode_base ≡ true = grind (arith, nat_tests) in
    rw (a, t, u) refl

not_one : (n : ℕ) → (n ≡ 1 → ⊥) → (n == 1) ≡ false
not_one n f = by (n == 1) refl
  where
    by : (b : Bool) → (n == 1) ≡ b → (n == 1) ≡ false
    by true e = absurd (f (grind (arith, nat_tests)))
    by false e = e

not_eight : (n : ℕ) → (n ≡ 8 → ⊥) → (n == 8) ≡ false
not_eight n f = by (n == 8) refl
  where
    by : (b : Bool) → (n == 8) ≡ b → (n == 8) ≡ false
    by true e = absurd (f (grind (arith, nat_tests)))
    by false e = e

not_nothing : (n : ℕ) → (n ≡ 0 → ⊥) → (n == 0) ≡ false
not_nothing n f = by (n == 0) refl
  where
    by : (b : Bool) → (n == 0) ≡ b → (n == 0) ≡ false
    by true e = absurd (f (grind (arith, nat_tests)))
    by false e = e

pub numbers_false : (coding : Coding) (maximum : ℕ) → (maximum ≡ 1 → ⊥)
    ⊎ (((maximum ≡ 1) × (coding.line_range ≡ 0)) ⊎ ((maximum ≡ 1) × (coding.line_range ≡ 0 → ⊥) × (coding.opcode_base ≡ 0))) →
    are_numbers coding maximum ≡ false
numbers_false coding maximum (inl f) =
    and_left (maximum == 1 && nat_lt 0 coding.line_range) (nat_lt 0 coding.opcode_base)
    (and_left (maximum == 1) (nat_lt 0 coding.line_range) (not_one maximum f))
numbers_false coding maximum (inr (inl e)) =
    and_left (maximum == 1 && nat_lt 0 coding.line_range) (nat_lt 0 coding.opcode_base)
    (and_right (maximum == 1) (nat_lt 0 coding.line_range) (ap (nat_lt 0) e.1))
numbers_false coding maximum (inr (inr e)) = and_right (maximum == 1 && nat_lt 0 coding.line_range) (nat_lt 0 coding.opcode_base)
    (ap (nat_lt 0) e.2)

pub sizes_false : (a b : ℕ) → (a ≡ 8 → ⊥) ⊎ ((a ≡ 8) × (b ≡ 0 → ⊥)) → (a == 8 && b == 0) ≡ false
sizes_false a b (inl f) = and_left (a == 8) (b == 0) (not_eight a f)
sizes_false a b (inr f) = and_right (a == 8) (b == 0) (not_nothing b f.1)

clash : (xs ys : List ℕ) (gap : Gap) → read_as xs ys ≡ Err gap → ⊥
clash xs ys gap e = cc

-- All bytes left can be taken.
pub no_gap : (n : ℕ) (left : List ℕ) (gap : Gap) → n ≡ length left → bytes_at n left ≡ Err gap → ⊥
no_gap n left gap is e =
    let t : nat_lt (length left) n ≡ false = grind (arith, nat_tests) in
    clash (take n left) (drop n left) gap (sym (ap (λ (b : Bool). if b then Err Short else Ok (take n left, drop n left)) t) ∙ e)

pub taken_length : (n : ℕ) (left taken after : List ℕ) → bytes_at n left ≡ Ok (taken, after) → length taken ≡ n
taken_length n left taken after e = by (nat_lt (length left) n) refl e
  where
    first : {xs ys : List ℕ} → read_as xs ys ≡ Ok (taken, after) → xs ≡ taken
    first f = ap front f

    by : (b : Bool) → nat_lt (length left) n ≡ b → (if b then Err Short else read_as (take n left) (drop n left)) ≡ Ok (taken, after) →
        length taken ≡ n
    by true t f = absurd (cc)
    by false t f =
        let size : length (take n left) ≡ n = grind (arith, nat_tests, common_steps) in
        ap length (sym (first f)) ∙ size
