-- The rows in force that a kept line table finds: there are some, their files are entries of the table, and each has an answer.
use Rattle.std.proofs.Common.{◌≡◌, ◌∙◌, ◌≤◌, ◌<◌, ◌-◌, ◌==◌, ◌&&◌, ◌++◌, ℕ, zero, suc, Bool, true, false, cond, List, [], ◌∷◌, Option}
use Rattle.std.proofs.Common.{Some, None, refl, sym, ap, subst, arith, length, nat_le, nat_lt, max}
use Rattle.std.specs.Prelude.{All, filter, filter_map, find, slice_get}
use Rattle.std.specs.List.{list_all, cons_option}
use Rattle.std.specs.Option.{option_or}
use Rattle.std.proofs.lemmas.Bool.Decides.{nat_tests}
use Rattle.std.proofs.lemmas.List.Elements.{All-head, All-tail}
use Rattle.rb_bytes.specs.Options.{only_if}
use Rattle.answer_runs.specs.AddressRanges.{holds_address}
use Rattle.line_rewrite.specs.declared.registers.Registers.{Registers}
use Rattle.line_rewrite.specs.declared.unit.Unit as kept
use Rattle.line_rewrite.specs.LineMachine.{in_force, reached, greatest_address}
use Rattle.line_rewrite.specs.LineAnswers.{first_address, row_said}
use Rattle.line_rewrite.specs.Entries.{◌>>=◌, Named, Strings, is_absolute, directory_path, path_of, slash}
use Rattle.line_rewrite.specs.KeptUnits.{HasTables, told_unit}
use Rattle.line_rewrite.specs.LineUnits.{LineUnit}
use Rattle.line_rewrite.specs.SequenceIndex.{Numbered, all_numbered, kept_range, numbered_at, numbered_rows, unit_sequence}
use Rattle.line_rewrite.specs.Written.{IsRow, moved}
use Rattle.line_rewrite.proofs.Ascending.{Follow}
use Rattle.line_rewrite.proofs.FirstSequence.{Stands, found_stands}
use Rattle.line_rewrite.proofs.Headers.{told_count, filed_is}
use Rattle.line_rewrite.proofs.LineLookups.{sequence_kept, sequence_follows}
use Rattle.line_rewrite.proofs.Strands.{ArePieceRows}

-- Rows whose files are below a number.
abbrev pub Filed : ℕ → List Registers → Type 0
Filed files [] = Unit {0}
Filed files (r ∷ rows) = (r.file < files) × Filed files rows

follow_filed : (files : ℕ) (last : Option ℕ) (rows : List Registers) → Follow files last rows → Filed files rows
follow_filed files last [] f = tt
follow_filed files last (r ∷ rows) f =
    let t : nat_lt r.file files ≡ true = f.1 in
    let h : r.file < files = grind (arith, nat_tests) in
    (h, follow_filed files (Some r.address) rows f.2)

filter_filed : (files : ℕ) (p : Registers → Bool) (rows : List Registers) → Filed files rows → Filed files (filter p rows)
filter_filed files p [] f = tt
filter_filed files p (r ∷ rows) f = by (p r) (filter_filed files p rows f.1)
  where
    by : (b : Bool) → Filed files (filter p rows) → Filed files (cond b (r ∷ filter p rows) (filter p rows))
    by true more = (f.0, more)
    by false more = more

force_filed : (files a : ℕ) (rows : List Registers) → Filed files rows → Filed files (in_force a rows)
unfolding in_force
force_filed files a rows f =
    filter_filed files (λ r. r.address == greatest_address (reached a rows)) (reached a rows)
    (filter_filed files (λ r. nat_le r.address a) rows f)

-- The greatest address is a row's

abbrev at_greatest : ℕ → List Registers → List Registers
at_greatest m rows = filter (λ r. r.address == m) rows

filter_kept : (b : Bool) (r : Registers) (rows : List Registers) → 0 < length rows → 0 < length (cond b (r ∷ rows) rows)
filter_kept true r rows h = omega arith
filter_kept false r rows h = h

some_greatest : (r : Registers) (rows : List Registers) → 0 < length (at_greatest (greatest_address (r ∷ rows)) (r ∷ rows))
some_greatest r [] =
    let t : (r.address == max r.address 0) ≡ true = grind (arith, nat_tests) in
    rw t (omega arith)
some_greatest r (s ∷ rows) = by (nat_le (greatest_address (s ∷ rows)) r.address) refl (some_greatest s rows)
  where
    by : (b : Bool) → nat_le (greatest_address (s ∷ rows)) r.address ≡ b → 0 < length (at_greatest (greatest_address (s ∷ rows)) (s ∷ rows))
        → 0 < length (at_greatest (max r.address (greatest_address (s ∷ rows))) (r ∷ s ∷ rows))
    by true t more =
        let e : (r.address == max r.address (greatest_address (s ∷ rows))) ≡ true = grind (arith, nat_tests) in
        rw e (omega arith)
    by false t more =
        let e : max r.address (greatest_address (s ∷ rows)) ≡ greatest_address (s ∷ rows) = grind (arith, nat_tests) in
        subst (λ (m : ℕ). 0 < length (at_greatest m (r ∷ s ∷ rows))) (sym e)
        (filter_kept (r.address == greatest_address (s ∷ rows)) r (at_greatest (greatest_address (s ∷ rows)) (s ∷ rows)) more)

some_reached : (a : ℕ) (rows : List Registers) → 0 < length rows → first_address rows 0 ≤ a → 0 < length (reached a rows)
some_reached a [] h low = absurd (omega arith)
some_reached a (r ∷ rows) h low =
    let t : nat_le r.address a ≡ true = grind (arith, nat_tests) in
    rw t (omega arith)

some_force : (rows : List Registers) → 0 < length rows → 0 < length (at_greatest (greatest_address rows) rows)
some_force [] h = absurd (omega arith)
some_force (r ∷ rows) h = some_greatest r rows

some_in_force : (a end : ℕ) (rows : List Registers) → first_address rows end ≤ a → a < end → 0 < length (in_force a rows)
unfolding in_force
some_in_force a end [] low high = absurd (omega arith)
some_in_force a end (r ∷ rows) low high = some_force (reached a (r ∷ rows)) (some_reached a (r ∷ rows) (omega arith) low)

-- A sequence that was found

found_passes : {X : Type 0} (p : X → Bool) (xs : List X) (x : X) → find p xs ≡ Some x → p x ≡ true
found_passes p [] x e = absurd (cc)
found_passes p (y ∷ xs) x e = by (p y) refl e (found_passes p xs x)
  where
    by : (b : Bool) → p y ≡ b → cond b (Some y) (find p xs) ≡ Some x → (find p xs ≡ Some x → p x ≡ true) → p x ≡ true
    by true t f more = let same : y ≡ x = cc in ap p (sym same) ∙ t
    by false t f more = more f

module _ (us : List kept.Unit) (a : ℕ) (x : Numbered) (found : numbered_at us a ≡ Some x) where
  stands : Stands us 0 x
  stands = found_stands us a x found

  pub unit_stands : slice_get us x.number ≡ Some x.unit
  unit_stands = let z : x.number - 0 ≡ x.number = omega arith in ap (slice_get us) (sym z) ∙ stands.unit

  pub rows_filed : Filed (length x.unit.header.files.items) (numbered_rows x a)
  rows_filed =
      force_filed (length x.unit.header.files.items) a (unit_sequence x.unit x.sequence).rows
      (follow_filed (length x.unit.header.files.items) None (unit_sequence x.unit x.sequence).rows
      (sequence_follows x.unit x.sequence x.index stands.sequence))

  pub some_rows : 0 < length (numbered_rows x a)
  some_rows =
      let holds : (nat_le x.sequence.low a && nat_lt a x.sequence.end) ≡ true =
      found_passes (λ y. holds_address a (kept_range y)) (all_numbered 0 us) x found in
      let low : x.sequence.low ≡ first_address (unit_sequence x.unit x.sequence).rows x.sequence.end =
      (sequence_kept x.unit x.sequence x.index stands.sequence).low in
      let from : x.sequence.low ≤ a = grind (arith, nat_tests) in
      let to : a < x.sequence.end = grind (arith, nat_tests) in
      some_in_force a x.sequence.end (unit_sequence x.unit x.sequence).rows (subst (λ (n : ℕ). n ≤ a) low from) to

-- The rows of a piece

pub piece_rows : (files a : ℕ) (rows : List Registers) → Filed files rows → All IsRow (moved a rows) → ArePieceRows files a (moved a rows)
piece_rows files a [] f are = tt
piece_rows files a (r ∷ rows) f are = (
  All-head IsRow (record r { address = a }) (moved a rows) are,
  refl,
  f.0,
  piece_rows files a rows f.1 (All-tail IsRow (record r { address = a }) (moved a rows) are),
)

pub moved_count : (a : ℕ) (rows : List Registers) → length (moved a rows) ≡ length rows
moved_count a [] = refl
moved_count a (r ∷ rows) = ap suc (moved_count a rows)

-- Each row has an answer

record IsThere {X : Type 0} (o : Option X) : Type 0 where
  x : X
  is : o ≡ Some x

item_there : {X : Type 0} (xs : List X) (i : ℕ) → i < length xs → IsThere (slice_get xs i)
item_there [] i h = absurd (omega arith)
item_there (x ∷ xs) zero h = record { x = x; is = refl }
item_there (x ∷ xs) (suc i) h = item_there xs i (omega arith)

has_directory : (directories files : List Named) (i : ℕ) (f : Named) → list_all (λ g. nat_lt g.directory (length directories)) files ≡ true
    → slice_get files i ≡ Some f → f.directory < length directories
has_directory directories [] i f all e = absurd (cc)
has_directory directories (g ∷ files) zero f all e =
    let same : g ≡ f = cc in
    subst (λ (n : Named). n.directory < length directories) same (here (nat_lt g.directory (length directories)) refl all)
  where
    here : (b : Bool) → nat_lt g.directory (length directories) ≡ b
        → (b && list_all (λ h. nat_lt h.directory (length directories)) files) ≡ true
        → g.directory < length directories
    here true t a = grind (arith, nat_tests)
    here false t a = absurd (cc)
has_directory directories (g ∷ files) (suc i) f all e =
    has_directory directories files i f (more (nat_lt g.directory (length directories)) all) e
  where
    more : (b : Bool) → (b && list_all (λ h. nat_lt h.directory (length directories)) files) ≡ true
        → list_all (λ h. nat_lt h.directory (length directories)) files ≡ true
    more true a = a
    more false a = absurd (cc)

path_there : (directories : List Named) (file : Named) → file.directory < length directories → IsThere (path_of directories file)
path_there directories file h = by (is_absolute file.name)
  where
    first : IsThere (slice_get directories 0)
    first = item_there directories 0 (omega arith)

    directory : IsThere (slice_get directories file.directory)
    directory = item_there directories file.directory h

    by : (b : Bool) → IsThere
        (option_or (only_if b file.name) (slice_get directories 0 >>= (λ compiled_in. slice_get directories file.directory >>= (λ directory.
        Some (directory_path compiled_in.name file.directory directory.name ++ slash ∷ file.name)))))
    by true = record { x = file.name; is = refl }
    by false = record {
      x = directory_path first.x.name file.directory directory.x.name ++ slash ∷ file.name;
      is = rw (first.is, directory.is) refl;
    }

row_there : (u : LineUnit) (r : Registers) → r.file < length u.files
    → list_all (λ f. nat_lt f.directory (length u.directories)) u.files ≡ true → IsThere (row_said u r)
row_there u r h all =
    let file = item_there u.files r.file h in
    let path = path_there u.directories file.x (has_directory u.directories u.files r.file file.x all file.is) in
    record {
      x = record {
        path = path.x;
        line = r.line;
        column = r.column;
        stmt = r.is_stmt;
        block = r.basic_block;
        prologue = r.prologue_end;
        epilogue = r.epilogue_begin;
        isa = r.isa;
        disc = r.discriminator;
      };
      is = rw (file.is, path.is) refl;
    }

all_said : (u : LineUnit) (rows : List Registers) → Filed (length u.files) rows
    → list_all (λ f. nat_lt f.directory (length u.directories)) u.files ≡ true
    → length (filter_map (row_said u) rows) ≡ length rows
all_said u [] f all = refl
all_said u (r ∷ rows) f all =
    let there = row_there u r f.0 all in
    rw there.is (ap suc (all_said u rows f.1 all))

pub rows_said_count : (strings : Strings) (u : kept.Unit) (rows : List Registers) → HasTables strings u.header
    → Filed (length u.header.files.items) rows
    → length (filter_map (row_said (told_unit strings u)) rows) ≡ length rows
rows_said_count strings u rows has f =
    all_said (told_unit strings u) rows (subst (λ (n : ℕ). Filed n rows) (sym (told_count strings u.header.files.items)) f)
    (filed_is strings u.header.directories.items u.header.files.items ∙ has.filed)

-- The answer of a row doesn't depend on its address.
pub moved_said : (u : LineUnit) (a : ℕ) (rows : List Registers) → filter_map (row_said u) (moved a rows) ≡ filter_map (row_said u) rows
moved_said u a [] = refl
moved_said u a (r ∷ rows) = ap (cons_option (row_said u r)) (moved_said u a rows)
