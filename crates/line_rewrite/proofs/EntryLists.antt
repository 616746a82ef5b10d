-- Lists of fields and of entries, read one at a time.
use Rattle.std.proofs.Common.{◌≡◌, ◌<◌, ◌≤◌, ◌+◌, ◌-◌, ◌++◌, ℕ, zero, suc, Bool, true, false, List, [], ◌∷◌, refl, sym, ap, arith, length}
use Rattle.std.proofs.Common.{drop, get_or, append_assoc, add-one, drop-cons, Option, Some, None, Ok, Err}
use Rattle.std.specs.Prelude.{◌&&◌, nat_le}
use Rattle.std.proofs.lemmas.Grind.{common_steps}
use Rattle.rb_bytes.specs.declared.gap.Gap.{Gap}
use Rattle.rb_bytes.specs.Readers.{number_read}
use Rattle.rb_bytes.specs.Leb.{uleb_at}
use Rattle.rb_bytes.specs.Options.{only_if}
use Rattle.rb_bytes.proofs.Tests.{less_one}
use Rattle.line_rewrite.specs.declared.field.Field.{Field}
use Rattle.line_rewrite.specs.declared.content.TheConstants.{DW_LNCT_path, DW_LNCT_MD5}
use Rattle.line_rewrite.specs.declared.trouble.Trouble.{Trouble}
use Rattle.line_rewrite.specs.declared.trouble.Trouble.TheVariants.{Malformed, Memory}
use Rattle.line_rewrite.specs.Troubles.{Tells}
use Rattle.line_rewrite.specs.Entries.{◌>>=◌, ok, Value, Contents, Format, Named, Strings, form_here, read_value, format_at, entries_at}
use Rattle.line_rewrite.specs.Entries.{table_at, contents_at, named}
use Rattle.line_rewrite.specs.KeptEntries.{told_field, told_format}
use Rattle.line_rewrite.specs.EntrySteps.{times, field_at, entry_at, Found, found_more, found_at}

-- The elements read, followed by those still to be read.
abbrev pub with_front : {X : Type 0} → List X → Option (List X × List ℕ) → Option (List X × List ℕ)
with_front xs None = None
with_front xs (Some read) = Some (xs ++ read.0, read.1)

-- A consequence of a failed reading.
pub tells_map : (e : Trouble) (P Q : Type 0) → (P → Q) → Tells e P → Tells e Q
tells_map Malformed P Q f t = f t
tells_map Memory P Q f t = tt

pub front_none : {X : Type 0} (o : Option (List X × List ℕ)) → with_front [] o ≡ o
front_none None = refl
front_none (Some read) = refl

next_of : {X : Type 0} (xs : List X) (x : X) (o : Option (List X × List ℕ))
    → with_front xs (o >>= (λ more. Some (x ∷ more.0, more.1))) ≡ with_front (xs ++ x ∷ []) o
next_of xs x None = refl
next_of xs x (Some read) = ap (λ (l : List _). Some (l, read.1)) (sym (append_assoc xs (x ∷ []) read.0))

pub times_more : {X : Type 0} (step : List ℕ → Option (X × List ℕ)) (n i : ℕ) (left rest : List ℕ) (x : X) (xs : List X) → i < n
    → step left ≡ Some (x, rest) → with_front xs (times step (n - i) left) ≡ with_front (xs ++ x ∷ []) (times step (n - (i + 1)) rest)
times_more step n i left rest x xs h e = rw (less_one n i h, e) (next_of xs x (times step (n - (i + 1)) rest))

pub times_none : {X : Type 0} (step : List ℕ → Option (X × List ℕ)) (n i : ℕ) (left : List ℕ) (xs : List X) → i < n
    → step left ≡ None → with_front xs (times step (n - i) left) ≡ None
times_none step n i left xs h e = rw (less_one n i h, e) refl

abbrev pub lacking : (Y : Type 0) → Option Y
lacking Y = None

pub nothing_more : {X Y : Type 0} (o : Option X) → (o >>= (λ x. lacking Y)) ≡ None
nothing_more None = refl
nothing_more (Some x) = refl

abbrev put : {X : Type 0} → X → List X × List ℕ → Option (List X × List ℕ)
put x more = Some (x ∷ more.0, more.1)

-- One, and `n` more.
abbrev then_times : {X : Type 0} → (List ℕ → Option (X × List ℕ)) → ℕ → X × List ℕ → Option (List X × List ℕ)
then_times step n x = times step n x.1 >>= put x.0

-- fields

abbrev is_content : ℕ → Bool
is_content t = nat_le DW_LNCT_path t && nat_le t DW_LNCT_MD5

abbrev put_field : Bool → ℕ × ℕ → Format × List ℕ → Option (Format × List ℕ)
put_field b x more = only_if b (x ∷ more.0, more.1)

abbrev one_field : Bool → ℕ × ℕ → List ℕ → Option ((ℕ × ℕ) × List ℕ)
one_field b x left = only_if b (x, left)

abbrev fields_behind : ℕ → ℕ → ℕ × List ℕ → Option (Format × List ℕ)
fields_behind n t form = format_at n form.1 >>= put_field (is_content t) (t, form.0)

abbrev field_behind : ℕ → ℕ × List ℕ → Option ((ℕ × ℕ) × List ℕ)
field_behind t form = one_field (is_content t) (t, form.0) form.1

field_then : (n : ℕ) (x : ℕ × ℕ) (left : List ℕ) (b : Bool) → format_at n left ≡ times field_at n left
    → (format_at n left >>= put_field b x) ≡ (one_field b x left >>= then_times field_at n)
field_then n x left true e = ap (λ (o : Option (Format × List ℕ)). o >>= put x) e
field_then n x left false e = nothing_more (format_at n left)

form_then : (n t : ℕ) (o : Option (ℕ × List ℕ)) → ((left : List ℕ) → format_at n left ≡ times field_at n left)
    → (o >>= fields_behind n t) ≡ ((o >>= field_behind t) >>= then_times field_at n)
form_then n t None e = refl
form_then n t (Some form) e = field_then n (t, form.0) form.1 (is_content t) (e form.1)

abbrev fields_from : ℕ → ℕ × List ℕ → Option (Format × List ℕ)
fields_from n type = ok (uleb_at type.1) >>= fields_behind n type.0

abbrev field_from : ℕ × List ℕ → Option ((ℕ × ℕ) × List ℕ)
field_from type = ok (uleb_at type.1) >>= field_behind type.0

type_then : (n : ℕ) (o : Option (ℕ × List ℕ)) → ((left : List ℕ) → format_at n left ≡ times field_at n left)
    → (o >>= fields_from n) ≡ ((o >>= field_from) >>= then_times field_at n)
type_then n None e = refl
type_then n (Some type) e = form_then n type.0 (ok (uleb_at type.1)) e

pub format_times : (n : ℕ) (left : List ℕ) → format_at n left ≡ times field_at n left
format_times zero left = refl
format_times (suc n) left = type_then n (ok (uleb_at left)) (format_times n)

-- entries

abbrev with_rest : List ℕ → Named → Option (Named × List ℕ)
with_rest left entry = Some (entry, left)

abbrev entries_behind : Strings → Format → ℕ → List ℕ → Named → Option (List Named × List ℕ)
entries_behind strings format n left entry = entries_at strings format n left >>= put entry

entry_then : (strings : Strings) (format : Format) (n : ℕ) (left : List ℕ) (o : Option Named)
    → entries_at strings format n left ≡ times (entry_at strings format) n left
    → (o >>= entries_behind strings format n left) ≡ ((o >>= with_rest left) >>= then_times (entry_at strings format) n)
entry_then strings format n left None e = refl
entry_then strings format n left (Some entry) e = ap (λ (o : Option (List Named × List ℕ)). o >>= put entry) e

abbrev entries_from : Strings → Format → ℕ → Contents × List ℕ → Option (List Named × List ℕ)
entries_from strings format n contents = named strings contents.0 >>= entries_behind strings format n contents.1

abbrev entry_from : Strings → Contents × List ℕ → Option (Named × List ℕ)
entry_from strings contents = named strings contents.0 >>= with_rest contents.1

contents_then : (strings : Strings) (format : Format) (n : ℕ) (o : Option (Contents × List ℕ))
    → ((left : List ℕ) → entries_at strings format n left ≡ times (entry_at strings format) n left)
    → (o >>= entries_from strings format n) ≡ ((o >>= entry_from strings) >>= then_times (entry_at strings format) n)
contents_then strings format n None e = refl
contents_then strings format n (Some contents) e = entry_then strings format n contents.1 (named strings contents.0) (e contents.1)

pub entries_times : (strings : Strings) (format : Format) (n : ℕ) (left : List ℕ) →
    entries_at strings format n left ≡ times (entry_at strings format) n left
entries_times strings format zero left = refl
entries_times strings format (suc n) left = contents_then strings format n (contents_at format left) (entries_times strings format n)

-- the contents of an entry, one at a time

fields_left : (format : List Field) (i : ℕ) (d : Field) → i < length format
    → told_format (drop i format) ≡ told_field (get_or format i d) ∷ told_format (drop (i + 1) format)
fields_left format i d h = let e : drop i format ≡ get_or format i d ∷ drop (i + 1) format = rw (add-one, drop-cons format i d) refl in
    ap told_format e

module _ (strings : Strings) (format : List Field) (i : ℕ) (d : Field) (h : i < length format) (f : Found) (left : List ℕ) where
  pub found_step : (form : ℕ) (l1 l2 : List ℕ) (v : Value) (more : Found) → form_here (get_or format i d).form left ≡ Some (form, l1) →
      read_value form l1 ≡ Some (v, l2)
      → found_more strings (get_or format i d).content v f ≡ Some more
      → found_at strings (told_format (drop i format)) f left ≡ found_at strings (told_format (drop (i + 1) format)) more l2
  unfolding found_at
  found_step form l1 l2 v more a b m = rw (fields_left format i d h, a, b, m) refl

  pub found_no_form : form_here (get_or format i d).form left ≡ None → found_at strings (told_format (drop i format)) f left ≡ None
  unfolding found_at
  found_no_form a = rw (fields_left format i d h, a) refl

  pub found_no_value : (form : ℕ) (l1 : List ℕ) → form_here (get_or format i d).form left ≡ Some (form, l1) → read_value form l1 ≡ None
      → found_at strings (told_format (drop i format)) f left ≡ None
  unfolding found_at
  found_no_value form l1 a b = rw (fields_left format i d h, a, b) refl

  pub found_no_more : (form : ℕ) (l1 l2 : List ℕ) (v : Value) → form_here (get_or format i d).form left ≡ Some (form, l1) →
      read_value form l1 ≡ Some (v, l2)
      → found_more strings (get_or format i d).content v f ≡ None → found_at strings (told_format (drop i format)) f left ≡ None
  unfolding found_at
  found_no_more form l1 l2 v a b m = rw (fields_left format i d h, a, b, m) refl

pub found_end : (strings : Strings) (format : List Field) (i : ℕ) (f : Found) (left : List ℕ) → length format ≤ i
    → found_at strings (told_format (drop i format)) f left ≡ Some (f, left)
unfolding found_at
found_end strings format i f left h = rw (none) refl
  where
    none : drop i format ≡ []
    none = grind (arith, common_steps)

-- tables

module _ (strings : Strings) (left : List ℕ) where
  pub table_no_fields : (gap : Gap) → number_read 1 left ≡ Err gap → table_at strings left ≡ None
  unfolding table_at
  table_no_fields gap e = rw e refl

  module _ (fields : ℕ) (l : List ℕ) (f : number_read 1 left ≡ Ok (fields, l)) where
    pub table_no_format : format_at fields l ≡ None → table_at strings left ≡ None
    unfolding table_at
    table_no_format e = rw (f, e) refl

    module _ (format : Format) (m : List ℕ) (g : format_at fields l ≡ Some (format, m)) where
      pub table_no_count : (gap : Gap) → uleb_at m ≡ Err gap → table_at strings left ≡ None
      unfolding table_at
      table_no_count gap e = rw (f, g, e) refl

      pub table_from : (count : ℕ) (n : List ℕ) → uleb_at m ≡ Ok (count, n) → table_at strings left ≡ entries_at strings format count n
      unfolding table_at
      table_from count n e = rw (f, g, e) refl
