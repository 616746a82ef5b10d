-- The fields of a line, in the terms of the code.
use Rattle.std.specs.Prelude.{ℕ, List, [], ◌∷◌, Option, Some, None}
use Rattle.rb_bytes.specs.Text.{hex_number}
use Rattle.edge_profile.specs.declared.fields.EightFields.{EightFields}
use Rattle.edge_profile.specs.declared.fields.Line.{Line}
use Rattle.edge_profile.specs.declared.fields.Place.{Place}
use denote.Ref.{Bor}
use Rattle.edge_profile.specs.Grammar.{NamedPlace, BranchLine, fields, named_place}

abbrev pub place_read : Place → NamedPlace
place_read p = record { name = p.name.now; offset = p.offset }

abbrev pub line_read : Line → BranchLine
line_read l = record { from = place_read l.from; to = place_read l.to; count = l.count }

abbrev pub named_place_of : List ℕ → List ℕ → Option NamedPlace
named_place_of name offset = named_place name (hex_number offset)

-- the fields of the rest of a line
abbrev pub fields_in : Option (Bor (List ℕ)) → List (List ℕ)
fields_in None = []
fields_in (Some line) = fields line.now

abbrev pub list_of_eight : EightFields → List (List ℕ)
list_of_eight f =
    f.from_is_symbol.now ∷ f.from.now ∷ f.from_offset.now ∷ f.to_is_symbol.now ∷ f.to.now ∷ f.to_offset.now
    ∷ f.mispredictions.now ∷ f.count.now ∷ []
