-- The last of some rows.
use Rattle.std.proofs.Common.{◌≡◌, ◌∙◌, ◌-◌, suc, List, [], ◌∷◌, refl, ap, arith, length}
use Rattle.std.specs.Prelude.{slice_get}
use Rattle.line_rewrite.specs.LineAnswers.{RowSaid}
use Rattle.inline_frames.specs.Frames.{last_row}

pub last_is : (rows : List RowSaid) → slice_get rows (length rows - 1) ≡ last_row rows
last_is [] = refl
last_is (r ∷ []) = refl
last_is (r ∷ (s ∷ rows)) =
    let here : length rows ≡ length (s ∷ rows) - 1 = omega arith in
    let more : length (r ∷ (s ∷ rows)) - 1 ≡ suc (length rows) = omega arith in
    ap (slice_get (r ∷ (s ∷ rows))) more ∙ ap (slice_get (s ∷ rows)) here ∙ last_is (s ∷ rows)
