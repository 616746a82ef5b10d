use Rattle.std.proofs.Common.{◌≡◌, ℕ, List, length, rules}
use Rattle.std.proofs.lemmas.List.{nil_from_length}
use Rattle.line_rewrite.specs.Tables.{line_sections_held}
use Rattle.line_rewrite.proofs.TableReads.{silent}
use Rattle.line_rewrite.proofs.line_table.LinesByAddress.is_silent.Goals as goal

pub returns : goal.returns
returns c = λ t a.
    let inside = c.self.inside in
    let line : List ℕ = inside.line.items in
    let empty : length line ≡ 0 = search rules in
    rw (← c.self.view_is)
    (silent (line_sections_held inside.line.items inside.str.items inside.line_str.items) (nil_from_length line empty) a)
