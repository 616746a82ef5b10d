-- Rows and runs that are written one after another.
use Rattle.std.proofs.Common.{◌≡◌, ◌<◌, ◌≤◌, ◌==◌, ◌+◌, ◌++◌, ℕ, List, [], ◌∷◌, sym, ◌∙◌, ap, arith, subst, append_assoc}
use Rattle.std.proofs.Common.{false, length, drop, take, get_or, Some}
use Rattle.std.specs.Prelude.{All}
use Rattle.std.proofs.lemmas.Bool.Decides.{nat_tests}
use Rattle.std.proofs.lemmas.Grind.{common_steps}
use Rattle.std.proofs.lemmas.List.{at_drop_more, take_more, map-append}
use Rattle.std.proofs.lemmas.List.Elements.{All-push}
use Rattle.line_rewrite.specs.declared.coding.Coding.{Coding}
use Rattle.line_rewrite.specs.declared.registers.Registers.{Registers}
use Rattle.line_rewrite.specs.declared.run_writer.Going.{Going}
use Rattle.line_rewrite.specs.LineMachine.{after_row}
use Rattle.line_rewrite.specs.Written.{IsRow, moved, row_ops, rows_ops, all_spelled}
use Rattle.line_rewrite.specs.WrittenPrograms.{after_rows, close_ops, open_ops, run_ops}
use Rattle.line_rewrite.proofs.RowOps.{spelled_append, spelled_more}

module _ (a i : ℕ) (rows : List Registers) (item row : Registers) (h : i < length rows)
    (is : row ≡ record (get_or rows i item) { address = a }) where
  next_rows : moved a (drop i rows) ≡ row ∷ moved a (drop (i + 1) rows)
  next_rows = at_drop_more (moved a) rows i item h ∙ ap (λ (r : Registers). r ∷ moved a (drop (i + 1) rows)) (sym is)

  pub written_next : (out new want : List ℕ) (present next : Registers) → new ≡ out ++ all_spelled (row_ops present row)
      → next ≡ after_row row
      → out ++ all_spelled (rows_ops present (moved a (drop i rows))) ≡ want
      → new ++ all_spelled (rows_ops next (moved a (drop (i + 1) rows))) ≡ want
  written_next out new want present next e n inv =
      ap (λ (r : Registers). new ++ all_spelled (rows_ops r (moved a (drop (i + 1) rows)))) n
      ∙ ap (λ (l : List ℕ). l ++ all_spelled (rows_ops (after_row row) (moved a (drop (i + 1) rows)))) e
      ∙ append_assoc out (all_spelled (row_ops present row)) (all_spelled (rows_ops (after_row row) (moved a (drop (i + 1) rows))))
      ∙ sym (ap (λ (l : List ℕ). out ++ l) (spelled_append (row_ops present row) (rows_ops (after_row row) (moved a (drop (i + 1) rows)))))
      ∙ sym (ap (λ (l : List Registers). out ++ all_spelled (rows_ops present l)) next_rows)
      ∙ inv

  pub after_next : (present next want : Registers) → next ≡ after_row row → after_rows present (moved a (drop i rows)) ≡ want
      → after_rows next (moved a (drop (i + 1) rows)) ≡ want
  after_next present next want n inv =
      ap (λ (r : Registers). after_rows r (moved a (drop (i + 1) rows))) n
      ∙ sym (ap (after_rows present) next_rows) ∙ inv

  pub fits_next : All IsRow (moved a (take i rows)) → IsRow row → All IsRow (moved a (take (i + 1) rows))
  fits_next all fits =
      let split : moved a (take (i + 1) rows) ≡ moved a (take i rows) ++ row ∷ [] =
      ap (moved a) (take_more rows i item h)
      ∙ map-append (λ (r : Registers). record r { address = a }) (take i rows) (get_or rows i item ∷ [])
      ∙ ap (λ (r : Registers). moved a (take i rows) ++ r ∷ []) (sym is) in
      subst (All IsRow) (sym split) (All-push IsRow (moved a (take i rows)) row all fits)

pub fits_all : (a i : ℕ) (rows : List Registers) → length rows ≤ i → All IsRow (moved a (take i rows)) → All IsRow (moved a rows)
fits_all a i rows h all = subst (λ (l : List Registers). All IsRow (moved a l)) whole all
  where
    whole : take i rows ≡ rows
    whole = grind (arith, common_steps)

-- A run that doesn't begin at the end of the sequence.
pub written_apart : (coding : Coding) (g : Going) (a : ℕ) (rows : List Registers) (out middle new : List ℕ) → (g.end ≡ a → ⊥)
    → middle ≡ out ++ all_spelled (close_ops g) → new ≡ middle ++ all_spelled (open_ops coding a rows)
    → new ≡ out ++ all_spelled (run_ops coding (Some g) a rows)
written_apart coding g a rows out middle new apart e f =
    let t : (g.end == a) ≡ false = grind (arith, nat_tests) in
    rw t (spelled_more out middle new (close_ops g) (open_ops coding a rows) e f)
