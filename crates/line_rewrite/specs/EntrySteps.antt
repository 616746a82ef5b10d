-- Steps of reading the tables of directories and files.
use Rattle.std.specs.Prelude.{◌==◌, ◌&&◌, ℕ, zero, suc, List, [], ◌∷◌, nat_le, if◌then◌else◌, Option, Some, None}
use Rattle.std.specs.Prelude.{option_map}
use Rattle.rb_bytes.specs.Leb.{uleb_at}
use Rattle.rb_bytes.specs.Options.{only_if}
use Rattle.line_rewrite.specs.declared.content.TheConstants.{DW_LNCT_path, DW_LNCT_directory_index, DW_LNCT_MD5}
use Rattle.line_rewrite.specs.declared.entry.Found as code
use Rattle.line_rewrite.specs.Entries.{◌>>=◌, ok, Value, Format, Named, Strings, text_of, index_of, form_here}
use Rattle.line_rewrite.specs.Entries.{read_value, contents_at, named}
use Rattle.line_rewrite.specs.KeptEntries.{told_name}

-- A step, done `n` times.
abbrev pub times : {X : Type 0} → (List ℕ → Option (X × List ℕ)) → ℕ → List ℕ → Option (List X × List ℕ)
times step zero left = Some ([], left)
times step (suc n) left = do
  x ← step left
  more ← times step n x.1
  Some (x.0 ∷ more.0, more.1)

-- Reads a field of a format.
abbrev pub field_at : List ℕ → Option ((ℕ × ℕ) × List ℕ)
field_at left = do
  type ← ok (uleb_at left)
  form ← ok (uleb_at type.1)
  only_if (nat_le DW_LNCT_path type.0 && nat_le type.0 DW_LNCT_MD5) ((type.0, form.0), form.1)

-- Reads an entry of a format.
abbrev pub entry_at : Strings → Format → List ℕ → Option (Named × List ℕ)
entry_at strings format left = do
  contents ← contents_at format left
  entry ← named strings contents.0
  Some (entry, contents.1)

-- The path and the directory in the contents so far.
pub record Found : Type 0 where
  pub path : Option (List ℕ)
  pub directory : Option ℕ

abbrev pub nothing_found : Found
nothing_found = record { path = None; directory = Some 0 }

abbrev pub told_found : Strings → code.Found → Found
told_found strings f = record { path = option_map (told_name strings) f.path; directory = Some f.directory }

abbrev pub with_path : Found → Option (List ℕ) → Option Found
with_path f name = option_map (λ name. record { path = Some name; directory = f.directory }) name

abbrev pub with_directory : Found → Option ℕ → Option Found
with_directory f index = option_map (λ n. record { path = f.path; directory = Some n }) index

-- One more content.
abbrev pub found_more : Strings → ℕ → Value → Found → Option Found
found_more strings type v f =
    if type == DW_LNCT_path then with_path f (text_of strings v)
    else (if type == DW_LNCT_directory_index then with_directory f (index_of (Some v)) else Some f)

-- The contents of an entry.
unfoldable pub found_at : Strings → Format → Found → List ℕ → Option (Found × List ℕ)
found_at strings [] f left = Some (f, left)
found_at strings (field ∷ format) f left = do
  form ← form_here field.1 left
  value ← read_value form.0 form.1
  more ← found_more strings field.0 value.0 f
  found_at strings format more value.1

-- The directory or file, if its contents have a path.
abbrev pub found_named : Found → Option Named
found_named f = do
  name ← f.path
  directory ← f.directory
  Some (record { name = name; directory = directory })
