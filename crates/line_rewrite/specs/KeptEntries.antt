-- The contents of the directories and files that the code keeps.
use Rattle.std.specs.Prelude.{ℕ, List, [], map, Option, Some, None}
use Rattle.line_rewrite.specs.declared.text.Texts.{Texts}
use Rattle.line_rewrite.specs.declared.entry.Text.{Text}
use Rattle.line_rewrite.specs.declared.entry.Text.TheVariants as text
use Rattle.line_rewrite.specs.declared.entry.Entry.{Entry}
use Rattle.line_rewrite.specs.declared.value.Value as code
use Rattle.line_rewrite.specs.declared.value.Value.TheVariants as value
use Rattle.line_rewrite.specs.declared.field.Field.{Field}
use Rattle.line_rewrite.specs.Entries.{Value, Number, TextIn, AtStr, AtLineStr, Other, Named, Strings, Format, text_of}

abbrev pub or_empty : Option (List ℕ) → List ℕ
or_empty None = []
or_empty (Some text) = text

abbrev pub strings_held : (str line_str : List ℕ) → Strings
strings_held str line_str = record { str = str; line_str = line_str }

abbrev pub texts_strings : Texts → Strings
texts_strings t = strings_held t.str.now t.line_str.now

abbrev pub told_value : code.Value → Value
told_value (value.Number n) = Number n
told_value (value.Text text) = TextIn text.now
told_value (value.AtStr n) = AtStr n
told_value (value.AtLineStr n) = AtLineStr n
told_value value.Other = Other

abbrev pub told_text : Text → Value
told_text (text.Own name) = TextIn name.items
told_text (text.Str offset) = AtStr offset
told_text (text.LineStr offset) = AtLineStr offset

abbrev pub told_name : Strings → Text → List ℕ
told_name strings t = or_empty (text_of strings (told_text t))

abbrev pub told_entry : Strings → Entry → Named
told_entry strings e = record { name = told_name strings e.text; directory = e.directory }

abbrev pub told_entries : Strings → List Entry → List Named
told_entries strings es = map (told_entry strings) es

abbrev pub told_field : Field → ℕ × ℕ
told_field f = (f.content, f.form)

abbrev pub told_format : List Field → Format
told_format fs = map told_field fs
