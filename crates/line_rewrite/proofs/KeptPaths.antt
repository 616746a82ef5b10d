-- The paths of files, by what is kept of them.
use Rattle.std.proofs.Common.{◌≡◌, ◌∙◌, ◌++◌, ℕ, List, [], ◌∷◌, Some, false, refl, sym, ap, append_assoc}
use Rattle.std.specs.Prelude.{slice_get, option_map}
use Rattle.std.proofs.lemmas.Option.{slice_get-map}
use Rattle.line_rewrite.specs.declared.entry.Entry.{Entry}
use Rattle.line_rewrite.specs.Entries.{Strings, slash, is_absolute, directory_path, path_of}
use Rattle.line_rewrite.specs.KeptEntries.{told_name, told_entry, told_entries}

-- A relative path.
pub path_is : (strings : Strings) (ds : List Entry) (file root d : Entry) (made path : List ℕ) →
    is_absolute (told_name strings file.text) ≡ false
    → slice_get ds 0 ≡ Some root → slice_get ds file.directory ≡ Some d
    → made ≡ directory_path (told_name strings root.text) file.directory (told_name strings d.text) →
    path ≡ (made ++ slash ∷ []) ++ told_name strings file.text
    → Some path ≡ path_of (told_entries strings ds) (told_entry strings file)
path_is strings ds file root d made path relative r at is e =
    let first = slice_get-map (told_entry strings) ds 0 ∙ ap (option_map (told_entry strings)) r in
    let own = slice_get-map (told_entry strings) ds file.directory ∙ ap (option_map (told_entry strings)) at in
    let whole : path ≡ directory_path (told_name strings root.text) file.directory (told_name strings d.text) ++ slash
    ∷ told_name strings file.text =
    e ∙ append_assoc made (slash ∷ []) (told_name strings file.text) ∙ ap (λ (l : List ℕ). l ++ slash ∷ told_name strings file.text) is in
    ap Some whole ∙ sym (rw (relative, first, own) refl)
