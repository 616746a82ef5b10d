-- The rows of a sound program: their addresses don't fall, and their files are entries of the table.
use Rattle.std.proofs.Common.{◌≡◌, ◌≤◌, ◌&&◌, ℕ, Bool, true, List, [], ◌∷◌, Option, Some, None, arith}
use Rattle.std.proofs.lemmas.Bool.Decides.{nat_tests}
use Rattle.std.proofs.lemmas.List.Elements.{All-nil, All-cons}
use Rattle.std.proofs.lemmas.Bool.{and_parts}
use Rattle.std.specs.Prelude.{All, nat_lt}
use Rattle.line_rewrite.specs.declared.coding.Coding.{Coding}
use Rattle.line_rewrite.specs.declared.registers.Registers.{Registers}
use Rattle.line_rewrite.specs.declared.effect.Effect.{Effect}
use Rattle.line_rewrite.specs.declared.effect.Effect.TheVariants.{Appends, Ends, Sets}
use Rattle.line_rewrite.specs.declared.operation.LineOp.{LineOp}
use Rattle.line_rewrite.specs.LineMachine.{Sequence, start, after_op, after_row, effect_of, rows_from, rows_behind, sequences}
use Rattle.line_rewrite.specs.LineMachine.{sequences_from, sequences_behind, sound_from, sound_behind, follows}
use Rattle.line_rewrite.specs.Walks.{Ascends}

-- Rows that may follow a last address, in a unit with a number of files.
abbrev pub Follow : ℕ → Option ℕ → List Registers → Type 0
Follow files last [] = Unit {0}
Follow files last (r ∷ rows) = (follows last r.address ≡ true) × (nat_lt r.file files ≡ true) × Follow files (Some r.address) rows

rows_more : (sound : Option ℕ → Registers → Bool) (others : Bool) (files : ℕ) (rows : Registers → List Registers) (last : Option ℕ)
    (e : Effect) (o : Option Registers)
    → ((last : Option ℕ) (r : Registers) → sound last r ≡ true → Follow files last (rows r))
    → sound_behind sound others files last e o ≡ true → Follow files last (rows_behind rows e o)
rows_more sound others files rows last e None more h = tt
rows_more sound others files rows last Appends (Some r) more h =
    let p = and_parts (follows last r.address && nat_lt r.file files) (sound (Some r.address) (after_row r)) h in
    let q = and_parts (follows last r.address) (nat_lt r.file files) p.0 in
    (q.0, q.1, more (Some r.address) (after_row r) p.1)
rows_more sound others files rows last Ends (Some r) more h = tt
rows_more sound others files rows last Sets (Some r) more h = more last r h

rows_follow : (coding : Coding) (files : ℕ) (last : Option ℕ) (r : Registers) (ops : List LineOp)
    → sound_from coding files last r ops ≡ true
    → Follow files last (rows_from coding r ops)
unfolding sound_from rows_from
rows_follow coding files last r [] h = tt
rows_follow coding files last r (op ∷ ops) h =
    rows_more (λ last r. sound_from coding files last r ops) (sound_from coding files None (start coding) ops) files
    (λ r. rows_from coding r ops) last
    (effect_of op) (after_op coding op r) (λ last r. rows_follow coding files last r ops) h

-- Sequences with such rows.
abbrev pub AllFollow : ℕ → List Sequence → Type 0
AllFollow files ss = All (λ s. Follow files None s.rows) ss

sequences_more : (sound : Option ℕ → Registers → Bool) (others : Bool) (files : ℕ) (list : Registers → List Sequence) (next : List Sequence)
    (rows : List Registers) (last : Option ℕ)
    (e : Effect) (o : Option Registers) → Follow files None rows
    → ((last : Option ℕ) (r : Registers) → sound last r ≡ true → AllFollow files (list r)) → (others ≡ true → AllFollow files next)
    → sound_behind sound others files last e o ≡ true → AllFollow files (sequences_behind list next rows e o)
sequences_more sound others files list next rows last e None up more rest h = All-nil (λ (s : Sequence). Follow files None s.rows)
sequences_more sound others files list next rows last Appends (Some r) up more rest h =
    more (Some r.address) (after_row r) (and_parts (follows last r.address && nat_lt r.file files) (sound (Some r.address) (after_row r))
    h).1
sequences_more sound others files list next rows last Ends (Some r) up more rest h =
    All-cons (λ (s : Sequence). Follow files None s.rows) (record { rows = rows; end = r.address }) next up
    (rest (and_parts (follows last r.address) others h).1)
sequences_more sound others files list next rows last Sets (Some r) up more rest h = more last r h

from_follow : (coding : Coding) (files : ℕ) (rows : List Registers) (last : Option ℕ) (r : Registers) (ops : List LineOp)
    → Follow files None rows
    → sound_from coding files last r ops ≡ true → AllFollow files (sequences_from coding rows r ops)
unfolding sound_from sequences_from
from_follow coding files rows last r [] up h = All-nil (λ (s : Sequence). Follow files None s.rows)
from_follow coding files rows last r (op ∷ ops) up h =
    sequences_more (λ last r. sound_from coding files last r ops) (sound_from coding files None (start coding) ops) files
    (λ r. sequences_from coding rows r ops) (sequences coding ops) rows last
    (effect_of op) (after_op coding op r) up (λ last r. from_follow coding files rows last r ops up)
    (λ sound. from_follow coding files (rows_from coding (start coding) ops) None (start coding) ops
    (rows_follow coding files None (start coding) ops sound) sound) h

-- The sequences of a sound program.
pub sequences_follow : (coding : Coding) (files : ℕ) (ops : List LineOp) → sound_from coding files None (start coding) ops ≡ true
    → AllFollow files (sequences coding ops)
sequences_follow coding files ops h =
    from_follow coding files (rows_from coding (start coding) ops) None (start coding) ops
    (rows_follow coding files None (start coding) ops h) h

abbrev pub or_zero : Option ℕ → ℕ
or_zero None = 0
or_zero (Some n) = n

follows_up : (last : Option ℕ) (a : ℕ) → follows last a ≡ true → or_zero last ≤ a
follows_up None a e = omega arith
follows_up (Some n) a e = grind (arith, nat_tests)

pub follow_ascends : (files : ℕ) (last : Option ℕ) (rows : List Registers) → Follow files last rows → Ascends (or_zero last) rows
follow_ascends files last [] f = tt
follow_ascends files last (r ∷ rows) f = (follows_up last r.address f.0, follow_ascends files (Some r.address) rows f.2)
