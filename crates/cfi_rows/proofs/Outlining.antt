-- An outline goes as its state does.
use Rattle.std.proofs.Common.{◌≡◌, ◌∙◌, ◌+◌, ◌^◌, ℕ, suc, ℤ, Bool, true, false, cond, List, [], ◌∷◌, Option, Some, None, option_map, refl}
use Rattle.std.proofs.Common.{ap, arith, length, map}
use Rattle.std.specs.Prelude.{option_and_then, nat_lt, nat_le}
use Rattle.std.proofs.lemmas.Option.{same_Some}
use Rattle.cfi_rows.specs.declared.outline.FrameKind.{FrameKind}
use Rattle.cfi_rows.specs.declared.row.Cfa.{Cfa}
use Rattle.cfi_rows.specs.declared.row.Cfa.TheVariants.{Reg, Expr}
use Rattle.cfi_rows.specs.declared.instruction.Instruction.{Instruction}
use Rattle.cfi_rows.specs.declared.instruction.Instruction.TheVariants.{Advance, SetLoc, DefCfa, DefCfaRegister, DefCfaOffset}
use Rattle.cfi_rows.specs.declared.instruction.Instruction.TheVariants.{SetRule, Restore, RememberState, RestoreState, Nop}
use Rattle.cfi_rows.specs.FrameRows.{Rules, Known, nothing_known, State, begins, step, moved_to, with_register, with_offset, with_cfa}
use Rattle.cfi_rows.specs.FrameRows.{take_back, ends_row, PlacedRow, rows, row_from, prepended, and_rows, then_rows, known_after}
use Rattle.cfi_rows.specs.Outlines.{Outline, kind_of, outline_of, moved_outline, went_to, if_register, taken_back, outline_step}
use Rattle.cfi_rows.specs.Outlines.{outline_after, outline_rows, counted, has_rule, frame_after}

-- Steps

moved : (b : Bool) (a : ℕ) (s : State) → nat_lt a (2 ^ 64) ≡ b → option_map outline_of (moved_to a s) ≡ moved_outline a (outline_of s)
moved true a s e = rw e refl
moved false a s e = rw e refl

went : (b : Bool) (a : ℕ) (s : State) → nat_le s.location a ≡ b →
    option_map outline_of (cond (nat_le s.location a) (moved_to a s) None) ≡ went_to a (outline_of s)
went true a s e = rw e (moved (nat_lt a (2 ^ 64)) a s refl)
went false a s e = rw e refl

state : ℕ → Option Cfa → Rules → List Known → State
state location cfa rules saved = record { location = location; known = record { cfa = cfa; rules = rules }; saved = saved }

registered : (r location : ℕ) (cfa : Option Cfa) (rules : Rules) (saved : List Known) →
    option_map outline_of (option_map (with_cfa (state location cfa rules saved)) (with_register r cfa)) ≡
    if_register (kind_of cfa) (outline_of (state location cfa rules saved))
unfolding state
registered r location None rules saved = refl
registered r location (Some (Reg q n)) rules saved = refl
registered r location (Some (Expr b)) rules saved = refl

offset : (n : ℤ) (location : ℕ) (cfa : Option Cfa) (rules : Rules) (saved : List Known) →
    option_map outline_of (option_map (with_cfa (state location cfa rules saved)) (with_offset n cfa)) ≡
    if_register (kind_of cfa) (outline_of (state location cfa rules saved))
unfolding state
offset n location None rules saved = refl
offset n location (Some (Reg q m)) rules saved = refl
offset n location (Some (Expr b)) rules saved = refl

took : (s : State) (ks : List Known) → option_map outline_of (take_back s ks) ≡ taken_back (outline_of s)
    (map (λ (k : Known). kind_of k.cfa) ks)
took s [] = refl
took s (k ∷ ks) = refl

pub outlined : (initial : Rules) (i : Instruction) (s : State) → option_map outline_of (step initial i s) ≡ outline_step i (outline_of s)
unfolding state
outlined initial (Advance n) s = moved (nat_lt (s.location + n) (2 ^ 64)) (s.location + n) s refl
outlined initial (SetLoc a) s = went (nat_le s.location a) a s refl
outlined initial (DefCfa cfa) s = refl
outlined initial (DefCfaRegister r) s = registered r s.location s.known.cfa s.known.rules s.saved
outlined initial (DefCfaOffset n) s = offset n s.location s.known.cfa s.known.rules s.saved
outlined initial (SetRule r rule) s = refl
outlined initial (Restore r) s = refl
outlined initial RememberState s = refl
outlined initial RestoreState s = took s s.saved
outlined initial Nop s = refl

-- After the instructions of a CIE

frame_of : Option Outline → Option FrameKind
frame_of o = option_map (λ (p : Outline). p.frame) o

known-kinds : (is : List Instruction) (s : Option State) →
    option_map (λ (k : Known). kind_of k.cfa) (known_after is s) ≡ frame_of (option_and_then (outline_after is) (option_map outline_of s))
unfolding frame_of
known-kinds [] None = refl
known-kinds [] (Some s) = refl
known-kinds (i ∷ is) None = refl
known-kinds (i ∷ is) (Some s) = known-kinds is (step [] i s)
    ∙ ap (λ r. option_map (λ (p : Outline). p.frame) (option_and_then (outline_after is) r)) (outlined [] i s)

pub record KnownFrame (is : List Instruction) (k : FrameKind) : Type 0 where
  pub known : Known
  pub known_is : known_after is (Some (begins 0 nothing_known)) ≡ Some known
  pub kind : kind_of known.cfa ≡ k

kinds : (is : List Instruction) → option_map (λ (k : Known). kind_of k.cfa) (known_after is (Some (begins 0 nothing_known))) ≡ frame_after
    is
unfolding frame_of
kinds is = known-kinds is (Some (begins 0 nothing_known))

known-some : (is : List Instruction) (k : FrameKind) (o : Option Known) → known_after is (Some (begins 0 nothing_known)) ≡ o →
    option_map (λ (k : Known). kind_of k.cfa) o ≡ Some k → KnownFrame is k
known-some is k None e f = absurd (cc)
known-some is k (Some known) e f = record { known = known; known_is = e; kind = same_Some _ _ f }

pub known-frame : (is : List Instruction) (k : FrameKind) → frame_after is ≡ Some k → KnownFrame is k
known-frame is k e = known-some is k (known_after is (Some (begins 0 nothing_known))) refl (kinds is ∙ e)

known-none : (o : Option Known) → option_map (λ (k : Known). kind_of k.cfa) o ≡ None → o ≡ None
known-none None e = refl
known-none (Some known) e = absurd (cc)

pub unknown : (is : List Instruction) → frame_after is ≡ None → known_after is (Some (begins 0 nothing_known)) ≡ None
unknown is e = known-none (known_after is (Some (begins 0 nothing_known))) (kinds is ∙ e)

-- Rows

one-row : (a : ℕ) (cfa : Option Cfa) (rules : Rules) →
    option_map length (prepended a (row_from cfa rules) (Some [])) ≡ cond (has_rule (kind_of cfa)) (Some 1) None
one-row a None rules = refl
one-row a (Some (Reg r n)) rules = refl
one-row a (Some (Expr b)) rules = refl

more-rows : (a : ℕ) (cfa : Option Cfa) (rules : Rules) (more : Option (List PlacedRow)) →
    option_map length (prepended a (row_from cfa rules) more) ≡ counted true (kind_of cfa) (option_map length more)
more-rows a None rules more = refl
more-rows a (Some (Reg r n)) rules None = refl
more-rows a (Some (Expr b)) rules None = refl
more-rows a (Some (Reg r n)) rules (Some rs) = let e : suc (length rs) ≡ length rs + 1 = omega arith in ap (λ m. Some m) e
more-rows a (Some (Expr b)) rules (Some rs) = let e : suc (length rs) ≡ length rs + 1 = omega arith in ap (λ m. Some m) e

with-row : (b : Bool) (s : State) (more : Option (List PlacedRow)) →
    option_map length (and_rows b s more) ≡ counted b (kind_of s.known.cfa) (option_map length more)
with-row true s more = more-rows s.location s.known.cfa s.known.rules more
with-row false s more = refl

then-count : (initial : Rules) (is : List Instruction) (r : Option State) →
    ((s : State) → option_map length (rows initial is s) ≡ outline_rows is (outline_of s)) →
    option_map length (then_rows r (rows initial is)) ≡ option_and_then (outline_rows is) (option_map outline_of r)
then-count initial is None h = refl
then-count initial is (Some s) h = h s

rows-count : (initial : Rules) (is : List Instruction) (s : State) →
    option_map length (rows initial is s) ≡ outline_rows is (outline_of s)
rows-count initial [] s = one-row s.location s.known.cfa s.known.rules
rows-count initial (i ∷ is) s =
    with-row (ends_row i) s (then_rows (step initial i s) (rows initial is))
    ∙ ap (counted (ends_row i) (kind_of s.known.cfa)) (then-count initial is (step initial i s) (rows-count initial is)
    ∙ ap (option_and_then (outline_rows is)) (outlined initial i s))

pub record CountedRows (initial : Rules) (is : List Instruction) (s : State) (n : ℕ) : Type 0 where
  pub list : List PlacedRow
  pub rows_are : rows initial is s ≡ Some list
  pub count : length list ≡ n

rows-some : (initial : Rules) (is : List Instruction) (s : State) (n : ℕ) (o : Option (List PlacedRow)) → rows initial is s ≡ o →
    option_map length o ≡ Some n → CountedRows initial is s n
rows-some initial is s n None e f = absurd (cc)
rows-some initial is s n (Some rs) e f = record { list = rs; rows_are = e; count = same_Some _ _ f }

pub counted-rows : (initial : Rules) (is : List Instruction) (s : State) (n : ℕ) → outline_rows is (outline_of s) ≡ Some n →
    CountedRows initial is s n
counted-rows initial is s n e = rows-some initial is s n (rows initial is s) refl (rows-count initial is s ∙ e)

rows-none : (o : Option (List PlacedRow)) → option_map length o ≡ None → o ≡ None
rows-none None e = refl
rows-none (Some rs) e = absurd (cc)

pub no-rows : (initial : Rules) (is : List Instruction) (s : State) → outline_rows is (outline_of s) ≡ None → rows initial is s ≡ None
no-rows initial is s e = rows-none (rows initial is s) (rows-count initial is s ∙ e)
