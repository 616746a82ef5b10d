-- What the code says of the first entry that holds an address.
use Rattle.std.proofs.Common.{◌≡◌, ◌∙◌, ℕ, Bool, true, List, [], ◌∷◌, map, Option, Some, None, option_map, refl, sym, ap, arith, length}
use Rattle.std.proofs.Common.{get_or, ◌<◌}
use Rattle.std.proofs.lemmas.Bool.Decides.{nat_tests}
use Rattle.std.proofs.lemmas.Option.{none-some, same_Some, slice_get-map, slice_get-get_or}
use Rattle.std.specs.Prelude.{nat_lt, IfOk, Result, Ok, Err, slice_get, option_and_then, position}
use Rattle.std.specs.List.{find}
use Rattle.answer_runs.specs.declared.range.Range.{Range}
use Rattle.answer_runs.specs.AddressRanges.{holds_address}
use Rattle.answer_runs.specs.FirstRanges.{first_range}
use Rattle.answer_runs.specs.declared.first_range.FirstRange.{FirstRange}
use Rattle.answer_runs.proofs.FoundFirst.{found_first}
use Rattle.cfi_rows.specs.declared.frame_table.Fde.{Fde as ReadFde}
use Rattle.cfi_rows.specs.FrameRows.{RowValue, row_at}
use Rattle.cfi_rows.specs.Entries.{Fde, is_in_range, range_of}
use Rattle.cfi_rows.specs.ReadEntries.{fde_of}
use Rattle.frame_rewrite.specs.FrameAnswers.{FrameAnswer, answer_at, answer_of}
use Rattle.frame_rewrite.specs.FrameLookups.{told_at, told_by, answer_by}

pub told-none : (index : FirstRange) (list : List Fde) (a : ℕ) →
    first_range index a ≡ position (holds_address a) (map range_of list) →
    first_range index a ≡ None → told_at list a ≡ None
told-none index list a is e =
    ap (option_and_then (told_by a)) (found_first index range_of list a is ∙ ap (option_and_then (slice_get list)) e)

-- by the row that is found of the entry of an index
pub told-found : (index : FirstRange) (list : List Fde) (a i : ℕ) → first_range index a ≡ position (holds_address a) (map range_of list)
    → first_range index a ≡ Some i → told_at list a ≡ option_and_then (told_by a) (slice_get list i)
told-found index list a i is e =
    ap (option_and_then (told_by a)) (found_first index range_of list a is ∙ ap (option_and_then (slice_get list)) e)

abbrev row_there : ℕ → Option Fde → Option RowValue
row_there a o = option_and_then (λ f. row_at a f.rows None) o

pub no-row : (index : FirstRange) (list : List Fde) (a i : ℕ) → first_range index a ≡ position (holds_address a) (map range_of list)
    → first_range index a ≡ Some i → row_there a (slice_get list i) ≡ None → told_at list a ≡ None
no-row index list a i is e g = told-found index list a i is e ∙ at (slice_get list i) g where
  at : (o : Option Fde) → row_there a o ≡ None → option_and_then (told_by a) o ≡ None
  at None h = refl
  at (Some f) h = ap (option_map (λ row. (fde_of f, row))) h

pub some-row : (index : FirstRange) (list : List Fde) (a i : ℕ) (fde : ReadFde) (row : RowValue) →
    first_range index a ≡ position (holds_address a) (map range_of list) → first_range index a ≡ Some i →
    slice_get (map fde_of list) i ≡ Some fde → row_there a (slice_get list i) ≡ Some row → Some (fde, row) ≡ told_at list a
some-row index list a i fde row is e g r =
    at (slice_get list i) (sym (slice_get-map fde_of list i) ∙ g) r ∙ sym (told-found index list a i is e) where
      at : (o : Option Fde) → option_map fde_of o ≡ Some fde → row_there a o ≡ Some row → Some (fde, row) ≡ option_and_then (told_by a) o
      at None h k = absurd (none-some fde h)
      at (Some f) h k = sym (ap (option_map (λ row. (fde_of f, row))) k ∙ ap (λ (x : ReadFde). Some (x, row)) (same_Some _ _ h))

pub told-alike : (index : FirstRange) (list : List Fde) (a b i : ℕ)
    → ((a : ℕ) → first_range index a ≡ position (holds_address a) (map range_of list))
    → first_range index a ≡ Some i → first_range index b ≡ Some i
    → ((f : Fde) → slice_get list i ≡ Some f → row_at a f.rows None ≡ row_at b f.rows None) → told_at list a ≡ told_at list b
told-alike index list a b i is e g h =
    told-found index list a i (is a) e ∙ at (slice_get list i) refl ∙ sym (told-found index list b i (is b) g) where
      at : (o : Option Fde) → slice_get list i ≡ o → option_and_then (told_by a) o ≡ option_and_then (told_by b) o
      at None k = refl
      at (Some f) k = ap (option_map (λ row. (fde_of f, row))) (h f k)

-- the answer made of it
abbrev answer_of_told : (ReadFde → Bool) → ReadFde × RowValue → FrameAnswer
answer_of_told mark t = answer_by t.0 t.1 (mark t.0)

pub answered : (is_marked : Fde → Bool) (mark : ReadFde → Bool) (list : List Fde) (a : ℕ) →
    ((f : Fde) → mark (fde_of f) ≡ is_marked f) →
    option_map (answer_of_told mark) (told_at list a) ≡ answer_at is_marked list a
answered is_marked mark list a same = by-entry (find (λ f. is_in_range f a) list) where
  by-row : (f : Fde) (o : Option RowValue) → option_map (answer_of_told mark) (option_map (λ row. (fde_of f, row)) o)
      ≡ option_map (λ row. answer_by (fde_of f) row (is_marked f)) o
  by-row f None = refl
  by-row f (Some row) = ap (λ b. Some (answer_by (fde_of f) row b)) (same f)

  by-entry : (o : Option Fde) →
      option_map (answer_of_told mark) (option_and_then (told_by a) o) ≡ option_and_then (λ f. answer_of is_marked f a) o
  by-entry None = refl
  by-entry (Some f) = by-row f (row_at a f.rows None)

-- two parts that say the same give equal answers
pub answered-alike : (is_marked : Fde → Bool) (mark : ReadFde → Bool) (list : List Fde) (a b : ℕ)
    → ((f : Fde) → mark (fde_of f) ≡ is_marked f) → told_at list a ≡ told_at list b
    → answer_at is_marked list a ≡ answer_at is_marked list b
answered-alike is_marked mark list a b same e =
    sym (answered is_marked mark list a same) ∙ ap (option_map (answer_of_told mark)) e ∙ answered is_marked mark list b same

-- the answer, if an entry is found
pub told-answer : (is_marked : Fde → Bool) (mark : ReadFde →
    Bool) (list : List Fde) (a : ℕ) (fde : ReadFde) (row : RowValue) (answer : FrameAnswer) →
    ((f : Fde) → mark (fde_of f) ≡ is_marked f) → Some (fde, row) ≡ told_at list a → answer ≡ answer_by fde row (mark fde) →
    Some answer ≡ answer_at is_marked list a
told-answer is_marked mark list a fde row answer same e f =
    ap (λ (x : FrameAnswer). Some x) f ∙ ap (option_map (answer_of_told mark)) e ∙ answered is_marked mark list a same

-- a list as it is kept has the ranges of the entries
pub same-ranges : {X : Type 0} (f : ReadFde → X) (list : List Fde) → map f (map fde_of list) ≡ map (λ x. f (fde_of x)) list
same-ranges f [] = refl
same-ranges f (x ∷ xs) = ap (λ zs. f (fde_of x) ∷ zs) (same-ranges f xs)

abbrev kept_range : ReadFde → Range
kept_range f = record { low = f.start; high = f.end }

pub index-of : {E : Type 0} (r : Result FirstRange E) (kept : List ReadFde) (ranges : List Range) →
    IfOk r (λ index. (a : ℕ) → first_range index a ≡ position (holds_address a) ranges) → ranges ≡ map kept_range kept →
    IfOk r (λ index. (list : List Fde) → kept ≡ map fde_of list → (a : ℕ) →
    first_range index a ≡ position (holds_address a) (map range_of list))
index-of (Err e) kept ranges h g = tt
index-of (Ok index) kept ranges h g = λ list e a.
    h a ∙ ap (position (holds_address a)) (g ∙ ap (map kept_range) e ∙ same-ranges kept_range list)

-- the entry at an index
pub item-at : (xs kept : List ReadFde) (i : ℕ) (fde : ReadFde) → true ≡ nat_lt i (length xs) → fde ≡ get_or xs i fde →
    xs ≡ kept →
    slice_get kept i ≡ Some fde
item-at xs kept i fde t e f =
    let within : i < length xs = grind (arith, nat_tests) in
    ap (λ ys. slice_get ys i) (sym f) ∙ slice_get-get_or xs i fde within ∙ ap (λ (x : ReadFde). Some x) (sym e)

-- a table that lists nothing
pub nothing-read : (list : List Fde) (kept : List ReadFde) → map fde_of list ≡ kept → length kept ≡ 0 → list ≡ []
nothing-read [] kept e h = refl
nothing-read (f ∷ fs) kept e h = absurd (omega (arith, ap length e, h))
