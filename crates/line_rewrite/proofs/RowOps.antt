-- The operations for a row, register by register.
use Rattle.std.proofs.Common.{◌≡◌, ◌==◌, ◌++◌, ℕ, List, [], ◌∷◌, refl, sym, ◌∙◌, ap, append_assoc, not}
use Rattle.std.specs.Bool.{beq}
use Rattle.line_rewrite.specs.declared.registers.Registers.{Registers}
use Rattle.line_rewrite.specs.declared.operation.LineOp.{LineOp}
use Rattle.line_rewrite.specs.declared.operation.LineOp.TheVariants.{SetFile, SetColumn, NegateStmt, SetBasicBlock, SetPrologueEnd}
use Rattle.line_rewrite.specs.declared.operation.LineOp.TheVariants.{SetEpilogueBegin, SetIsa, SetDiscriminator}
use Rattle.line_rewrite.specs.Written.{unless, spelled, all_spelled}

pub spelled_append : (xs ys : List LineOp) → all_spelled (xs ++ ys) ≡ all_spelled xs ++ all_spelled ys
spelled_append [] ys = refl
spelled_append (x ∷ xs) ys =
    ap (λ (l : List ℕ). spelled x ++ l) (spelled_append xs ys) ∙ sym (append_assoc (spelled x) (all_spelled xs) (all_spelled ys))

-- Bytes that grew by some operations, and then by others.
pub spelled_more : (out middle new : List ℕ) (xs ys : List LineOp) → middle ≡ out ++ all_spelled xs → new ≡ middle ++ all_spelled ys
    → new ≡ out ++ all_spelled (xs ++ ys)
spelled_more out middle new xs ys e f =
    f ∙ ap (λ (l : List ℕ). l ++ all_spelled ys) e
    ∙ append_assoc out (all_spelled xs) (all_spelled ys)
    ∙ sym (ap (λ (l : List ℕ). out ++ l) (spelled_append xs ys))

-- The operations before a row, up to each register.
abbrev pub first2 : Registers → Registers → List LineOp
first2 r row = unless (r.file == row.file) (SetFile row.file) ++ unless (r.column == row.column) (SetColumn row.column)

abbrev pub first3 : Registers → Registers → List LineOp
first3 r row = first2 r row ++ unless (beq r.is_stmt row.is_stmt) NegateStmt

abbrev pub first4 : Registers → Registers → List LineOp
first4 r row = first3 r row ++ unless (not row.basic_block) SetBasicBlock

abbrev pub first5 : Registers → Registers → List LineOp
first5 r row = first4 r row ++ unless (not row.prologue_end) SetPrologueEnd

abbrev pub first6 : Registers → Registers → List LineOp
first6 r row = first5 r row ++ unless (not row.epilogue_begin) SetEpilogueBegin

abbrev pub first7 : Registers → Registers → List LineOp
first7 r row = first6 r row ++ unless (r.isa == row.isa) (SetIsa row.isa)

abbrev pub first8 : Registers → Registers → List LineOp
first8 r row = first7 r row ++ unless (row.discriminator == 0) (SetDiscriminator row.discriminator)
