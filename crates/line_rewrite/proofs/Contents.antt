-- The contents of an entry, taken one at a time or together.
use Rattle.std.proofs.Common.{◌≡◌, ◌∙◌, ℕ, Bool, true, false, List, [], ◌∷◌, refl, sym, ap, Option, Some, None, is_some, arith}
use Rattle.std.specs.Prelude.{◌==◌, ◌&&◌, if◌then◌else◌, option_map}
use Rattle.std.specs.List.{list_all}
use Rattle.std.proofs.lemmas.Bool.Decides.{nat_tests}
use Rattle.std.specs.Option.{option_or}
use Rattle.rb_bytes.specs.Options.{only_if}
use Rattle.answer_runs.proofs.Grown.{or_none}
use Rattle.line_rewrite.specs.declared.entry.Text.{Text}
use Rattle.line_rewrite.specs.declared.content.TheConstants.{DW_LNCT_path, DW_LNCT_directory_index}
use Rattle.line_rewrite.specs.Entries.{◌>>=◌, Value, Contents, Format, Named, Strings, text_of, index_of, form_here, read_value}
use Rattle.line_rewrite.specs.Entries.{contents_at, named, last_of, is_sound_content}
use Rattle.line_rewrite.specs.KeptEntries.{told_name}
use Rattle.line_rewrite.specs.EntrySteps.{entry_at, Found, nothing_found, with_path, with_directory, found_more, found_at, found_named}

-- The contents, taken one at a time.
abbrev over : Strings → Found → Contents → Option Found
over strings f [] = Some f
over strings f (c ∷ cs) = found_more strings c.0 c.1 f >>= (λ g. over strings g cs)

abbrev from_here : Strings → Contents → Found → Option Found
from_here strings cs g = over strings g cs

abbrev with_left : List ℕ → Found → Option (Found × List ℕ)
with_left left g = Some (g, left)

abbrev taken : Strings → Found → Contents × List ℕ → Option (Found × List ℕ)
taken strings f c = over strings f c.0 >>= with_left c.1

-- Reading them one at a time.
abbrev found_over : Strings → Format → Found → List ℕ → Option (Found × List ℕ)
found_over strings format f left = contents_at format left >>= taken strings f

abbrev put_content : ℕ → Value → Contents × List ℕ → Option (Contents × List ℕ)
put_content type v more = Some ((type, v) ∷ more.0, more.1)

abbrev contents_behind : ℕ → Format → Value × List ℕ → Option (Contents × List ℕ)
contents_behind type format value = contents_at format value.1 >>= put_content type value.0

abbrev contents_from : ℕ → Format → ℕ × List ℕ → Option (Contents × List ℕ)
contents_from type format form = read_value form.0 form.1 >>= contents_behind type format

abbrev found_behind : Strings → Format → List ℕ → Found → Option (Found × List ℕ)
found_behind strings format left g = found_at strings format g left

abbrev found_after : Strings → ℕ → Format → Found → Value × List ℕ → Option (Found × List ℕ)
found_after strings type format f value = found_more strings type value.0 f >>= found_behind strings format value.1

abbrev found_from : Strings → ℕ → Format → Found → ℕ × List ℕ → Option (Found × List ℕ)
found_from strings type format f form = read_value form.0 form.1 >>= found_after strings type format f

-- The contents after one that gives `g`.
behind_some : (strings : Strings) (type : ℕ) (v : Value) (f g : Found) (r : Option (Contents × List ℕ)) →
    found_more strings type v f ≡ Some g
    → (r >>= taken strings g) ≡ ((r >>= put_content type v) >>= taken strings f)
behind_some strings type v f g None e = refl
behind_some strings type v f g (Some more) e =
    sym (ap (λ (o : Option Found). (o >>= from_here strings more.0) >>= with_left more.1) e)

behind_not : (strings : Strings) (type : ℕ) (v : Value) (f : Found) (r : Option (Contents × List ℕ)) → found_more strings type v f ≡ None
    → ((r >>= put_content type v) >>= taken strings f) ≡ None
behind_not strings type v f None e = refl
behind_not strings type v f (Some more) e =
    ap (λ (o : Option Found). (o >>= from_here strings more.0) >>= with_left more.1) e

abbrev Reads : Strings → Format → Type 0
Reads strings format = (g : Found) (left : List ℕ) → found_at strings format g left ≡ found_over strings format g left

more_then : (strings : Strings) (type : ℕ) (format : Format) (f : Found) (v : Value) (left : List ℕ) (m : Option Found) →
    found_more strings type v f ≡ m
    → Reads strings format
    → (m >>= found_behind strings format left) ≡ ((contents_at format left >>= put_content type v) >>= taken strings f)
more_then strings type format f v left None is e = sym (behind_not strings type v f (contents_at format left) is)
more_then strings type format f v left (Some g) is e = e g left ∙ behind_some strings type v f g (contents_at format left) is

value_then : (strings : Strings) (type : ℕ) (format : Format) (f : Found) (o : Option (Value × List ℕ)) → Reads strings format
    → (o >>= found_after strings type format f) ≡ ((o >>= contents_behind type format) >>= taken strings f)
value_then strings type format f None e = refl
value_then strings type format f (Some value) e = more_then strings type format f value.0 value.1 (found_more strings type value.0 f) refl e

form_then : (strings : Strings) (type : ℕ) (format : Format) (f : Found) (o : Option (ℕ × List ℕ)) → Reads strings format
    → (o >>= found_from strings type format f) ≡ ((o >>= contents_from type format) >>= taken strings f)
form_then strings type format f None e = refl
form_then strings type format f (Some form) e = value_then strings type format f (read_value form.0 form.1) e

found_is : (strings : Strings) (format : Format) (f : Found) (left : List ℕ) →
    found_at strings format f left ≡ found_over strings format f left
unfolding found_at
found_is strings [] f left = refl
found_is strings (field ∷ format) f left = form_then strings field.0 format f (form_here field.1 left) (found_is strings format)

-- All contents together, if each is sound

abbrev path_or : Strings → Option (List ℕ) → Option Value → Option (List ℕ)
path_or strings name None = name
path_or strings name (Some v) = text_of strings v

abbrev directory_or : Option ℕ → Option Value → Option ℕ
directory_or n None = n
directory_or n (Some v) = index_of (Some v)

abbrev found_of : Strings → Found → Option Value → Option Value → Found
found_of strings f path directory = record { path = path_or strings f.path path; directory = directory_or f.directory directory }

abbrev together : Strings → Found → Contents → Found
together strings f cs = found_of strings f (last_of DW_LNCT_path cs) (last_of DW_LNCT_directory_index cs)

-- The last value of a type, and one before it.
path_more : (strings : Strings) (name text : Option (List ℕ)) (v : Value) (last : Option Value) → text_of strings v ≡ text
    → path_or strings name (option_or last (Some v)) ≡ path_or strings text last
path_more strings name text v None e = e
path_more strings name text v (Some w) e = refl

directory_more : (n m : Option ℕ) (v : Value) (last : Option Value) → index_of (Some v) ≡ m →
    directory_or n (option_or last (Some v)) ≡ directory_or m last
directory_more n m v None e = e
directory_more n m v (Some w) e = refl

abbrev Joins : Strings → Contents → Type 0
Joins strings cs = (f : Found) → over strings f cs ≡ only_if (list_all (is_sound_content strings) cs) (together strings f cs)

-- The result of all contents: the last values, or those from before.
abbrev all_say : Strings → Contents → Found → Option Value → Option Value → Bool → Option Found
all_say strings cs f path directory sound = only_if (sound && list_all (is_sound_content strings) cs)
    (found_of strings f (option_or (last_of DW_LNCT_path cs) path) (option_or (last_of DW_LNCT_directory_index cs) directory))

path_content : (strings : Strings) (v : Value) (f : Found) (cs : Contents) (text : Option (List ℕ)) → text_of strings v ≡ text →
    Joins strings cs
    → (with_path f text >>= from_here strings cs) ≡ all_say strings cs f (Some v) None (is_some text)
path_content strings v f cs None e j = refl
path_content strings v f cs (Some name) e j =
    j (record { path = Some name; directory = f.directory })
    ∙ ap (only_if (list_all (is_sound_content strings) cs)) (λ i. record {
      path = sym (path_more strings f.path (Some name) v (last_of DW_LNCT_path cs) e) i;
      directory = ap (directory_or f.directory) (sym (or_none (last_of DW_LNCT_directory_index cs))) i;
    })

directory_content : (strings : Strings) (v : Value) (f : Found) (cs : Contents) (n : Option ℕ) → index_of (Some v) ≡ n → Joins strings cs
    → (with_directory f n >>= from_here strings cs) ≡ all_say strings cs f None (Some v) (is_some n)
directory_content strings v f cs None e j = refl
directory_content strings v f cs (Some n) e j =
    j (record { path = f.path; directory = Some n })
    ∙ ap (only_if (list_all (is_sound_content strings) cs)) (λ i. record {
      path = ap (path_or strings f.path) (sym (or_none (last_of DW_LNCT_path cs))) i;
      directory = sym (directory_more f.directory (Some n) v (last_of DW_LNCT_directory_index cs) e) i;
    })

other_content : (strings : Strings) (f : Found) (cs : Contents) → Joins strings cs → over strings f cs ≡ all_say strings cs f None None true
other_content strings f cs j =
    j f ∙ ap (only_if (list_all (is_sound_content strings) cs)) (λ i. record {
      path = ap (path_or strings f.path) (sym (or_none (last_of DW_LNCT_path cs))) i;
      directory = ap (directory_or f.directory) (sym (or_none (last_of DW_LNCT_directory_index cs))) i;
    })

-- By the two tests of a type.
abbrev one_more : Strings → Value → Found → Bool → Bool → Option Found
one_more strings v f p d = if p then with_path f (text_of strings v) else (if d then with_directory f (index_of (Some v)) else Some f)

abbrev one_sound : Strings → Value → Bool → Bool → Bool
one_sound strings v p d = if p then is_some (text_of strings v) else (if d then is_some (index_of (Some v)) else true)

one_content : (strings : Strings) (v : Value) (f : Found) (cs : Contents) (p d : Bool) → (p ≡ true → d ≡ false) → Joins strings cs
    → (one_more strings v f p d >>= from_here strings cs) ≡ all_say strings cs f (only_if p v) (only_if d v) (one_sound strings v p d)
one_content strings v f cs true true apart j = absurd (cc (apart refl))
one_content strings v f cs true false apart j = path_content strings v f cs (text_of strings v) refl j
one_content strings v f cs false true apart j = directory_content strings v f cs (index_of (Some v)) refl j
one_content strings v f cs false false apart j = other_content strings f cs j

apart : (t : ℕ) → (t == DW_LNCT_path) ≡ true → (t == DW_LNCT_directory_index) ≡ false
apart t e = grind (arith, nat_tests)

joins : (strings : Strings) (cs : Contents) → Joins strings cs
joins strings [] f = refl
joins strings (c ∷ cs) f = one_content strings c.1 f cs (c.0 == DW_LNCT_path) (c.0 == DW_LNCT_directory_index) (apart c.0)
    (joins strings cs)

-- The last steps of the definition.
abbrev with_index : List ℕ → ℕ → Option Named
with_index name n = Some (record { name = name; directory = n })

abbrev with_name : Option Value → List ℕ → Option Named
with_name d name = index_of d >>= with_index name

abbrev by_path : Strings → Option Value → Value → Option Named
by_path strings d path = text_of strings path >>= with_name d

abbrev by_values : Strings → Option Value → Option Value → Contents → Option Named
by_values strings p d sound = p >>= by_path strings d

named_by : (strings : Strings) (cs : Contents) (b : Bool) (p d : Option Value)
    → (only_if b (found_of strings nothing_found p d) >>= found_named) ≡ (only_if b cs >>= by_values strings p d)
named_by strings cs false p d = refl
named_by strings cs true None d = refl
named_by strings cs true (Some v) None = refl
named_by strings cs true (Some v) (Some w) = refl

named_is : (strings : Strings) (cs : Contents) → (over strings nothing_found cs >>= found_named) ≡ named strings cs
named_is strings cs =
    ap (λ (o : Option Found). o >>= found_named) (joins strings cs nothing_found)
    ∙ named_by strings cs (list_all (is_sound_content strings) cs) (last_of DW_LNCT_path cs) (last_of DW_LNCT_directory_index cs)

-- An entry, from its contents one at a time

abbrev with_rest : List ℕ → Named → Option (Named × List ℕ)
with_rest left e = Some (e, left)

abbrev as_entry : Found × List ℕ → Option (Named × List ℕ)
as_entry f = found_named f.0 >>= with_rest f.1

abbrev entry_from : Strings → Contents × List ℕ → Option (Named × List ℕ)
entry_from strings contents = named strings contents.0 >>= with_rest contents.1

end : (rest : List ℕ) (o : Option Found) → ((o >>= with_left rest) >>= as_entry) ≡ ((o >>= found_named) >>= with_rest rest)
end rest None = refl
end rest (Some g) = refl

entry_by : (strings : Strings) (o : Option (Contents × List ℕ)) →
    ((o >>= taken strings nothing_found) >>= as_entry) ≡ (o >>= entry_from strings)
entry_by strings None = refl
entry_by strings (Some c) =
    end c.1 (over strings nothing_found c.0) ∙ ap (λ (o : Option Named). o >>= with_rest c.1) (named_is strings c.0)

pub entry_is : (strings : Strings) (format : Format) (left : List ℕ) →
    (found_at strings format nothing_found left >>= as_entry) ≡ entry_at strings format left
entry_is strings format left =
    ap (λ (o : Option (Found × List ℕ)). o >>= as_entry) (found_is strings format nothing_found left)
    ∙ entry_by strings (contents_at format left)

-- If the contents can be read and have a path.
pub entry_of : (strings : Strings) (format : Format) (left rest : List ℕ) (f : Found) →
    found_at strings format nothing_found left ≡ Some (f, rest)
    → entry_at strings format left ≡ (found_named f >>= with_rest rest)
entry_of strings format left rest f e = sym (entry_is strings format left) ∙ ap (λ (o : Option (Found × List ℕ)). o >>= as_entry) e

pub no_entry : (strings : Strings) (format : Format) (left : List ℕ) → found_at strings format nothing_found left ≡ None →
    entry_at strings format left ≡ None
no_entry strings format left e = sym (entry_is strings format left) ∙ ap (λ (o : Option (Found × List ℕ)). o >>= as_entry) e

pub entry_read : (strings : Strings) (format : Format) (left rest : List ℕ) (path : Option Text) (text : Text) (directory : ℕ)
    → found_at strings format nothing_found left ≡ Some (
      record { path = option_map (told_name strings) path; directory = Some directory },
      rest,
    ) → path ≡ Some text
    → entry_at strings format left ≡ Some (record { name = told_name strings text; directory = directory }, rest)
entry_read strings format left rest path text directory e is =
    entry_of strings format left rest (record { path = option_map (told_name strings) path; directory = Some directory }) e ∙ rw is refl

pub entry_pathless : (strings : Strings) (format : Format) (left rest : List ℕ) (path : Option Text) (directory : ℕ)
    → found_at strings format nothing_found left ≡ Some (
      record { path = option_map (told_name strings) path; directory = Some directory },
      rest,
    ) → path ≡ None
    → entry_at strings format left ≡ None
entry_pathless strings format left rest path directory e is =
    entry_of strings format left rest (record { path = option_map (told_name strings) path; directory = Some directory }) e ∙ rw is refl
