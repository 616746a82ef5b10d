-- Instructions that are written are read back.
use Rattle.std.proofs.Common.{ℕ, zero, suc, ℤ, negsuc, ◌*ℤ◌, ◌*◌, ◌+◌, ◌-◌, ◌^◌, ◌≤◌, ◌<◌, ◌≡◌, List, [], ◌∷◌, ◌++◌, Ok, refl, sym, ◌∙◌}
use Rattle.std.proofs.Common.{ap, subst, arith, length, append_assoc, length-append, FitsSigned, map, Option, Some, None}
use Rattle.std.specs.Prelude.{All, Bool, true, false, filter, nat_lt, ◌==◌, ◌/◌, ◌%◌, if◌then◌else◌}
use Rattle.std.specs.Int.{w64, cast_signed, int_wrap, int_wrapping_neg}
use Rattle.std.specs.Ordering.{int_eq}
use Rattle.std.proofs.Math.IntN.{neg_ℤ, *ℤ-one, *ℤ-negsuc, neg_ℤ-neg_ℤ}
use Rattle.std.proofs.lemmas.Int.{int_wrap_fits, int_wrap-mul_left, wrapping_neg_is, SFits-int_wrap, to_z-of_z}
use Rattle.std.proofs.lemmas.Bool.{and_parts, ltb-true}
use Rattle.std.proofs.lemmas.Bool.Decides.{nat_tests}
use Rattle.std.proofs.lemmas.List.{append-nil}
use Rattle.std.proofs.lemmas.List.Elements.{All-head, All-tail}
use Rattle.byteorder.specs.Endian.{little_bytes}
use Rattle.rb_bytes.specs.Readers.{and_then}
use Rattle.rb_bytes.specs.Leb.{uleb}
use Rattle.answer_runs.specs.declared.run.Run.{Run}
use Rattle.table_core.specs.ReadSteps.{with_head}
use Rattle.cfi_rows.specs.declared.row.Cfa.{Cfa}
use Rattle.cfi_rows.specs.declared.row.Cfa.TheVariants.{Reg, Expr}
use Rattle.cfi_rows.specs.declared.row.Rule.{Rule}
use Rattle.cfi_rows.specs.declared.row.Rule.TheVariants as rule
use Rattle.cfi_rows.specs.declared.instruction.Instruction.{Instruction}
use Rattle.cfi_rows.specs.declared.instruction.Instruction.TheVariants.{Advance, DefCfa, DefCfaOffset, SetRule, Restore}
use Rattle.cfi_rows.specs.declared.instruction.Instruction.TheVariants.{RememberState, RestoreState, Nop}
use Rattle.cfi_rows.specs.declared.encoding.Encoding.{Encoding}
use Rattle.cfi_rows.specs.FrameRows.{RowValue, Rules, Known}
use Rattle.cfi_rows.specs.FrameInstructions.{Read, Context, instruction_of, instruction_at, instructions_in, instructions_at}
use Rattle.cfi_rows.specs.FrameInstructions.{advance, unsigned_offset, rule_by_unsigned}
use Rattle.frame_rewrite.specs.FrameAnswers.{FrameAnswer}
use Rattle.frame_rewrite.specs.SpelledFits.{CfaFits, RuleFits, RulesFit, RowFits, Near}
use Rattle.frame_rewrite.specs.SpelledFrames.{spelled_block, up, down, spelled_cfa, spelled_cfa_from, spelled_rule, spelled_rules}
use Rattle.frame_rewrite.specs.SpelledFrames.{spelled_restores, spelled_change, spelled_advance, spelled_rows, are_low, gone_rules}
use Rattle.frame_rewrite.specs.SpelledFrames.{other_rules, known_by, known_behind, spelled_row_before, zeros}
use Rattle.frame_rewrite.proofs.NumbersBack.{byte-back, uleb-back, block-back, number-back, length-zeros}

-- the bits of a number that fits
bits-fit : (n : ℤ) → FitsSigned w64 n → up n < 2 ^ 64
bits-fit (ℤ.pos n) f = omega (arith, f)
bits-fit (negsuc n) f = omega arith

-- how addresses are encoded, and the address at which an entry ends
abbrev pub Ending : Type 0
Ending = Encoding × ℕ

-- what the writer's entries are read under
abbrev pub plain : Ending → Context
plain end = record { code = 1; «data» = negsuc 0; encoding = end.0; end = end.1 }

-- Offsets

pub up-fits : (n : ℤ) → FitsSigned w64 n → up n < 2 ^ 64
up-fits n f = bits-fit n f

pub up-back : (n : ℤ) → FitsSigned w64 n → cast_signed w64 (up n) ≡ n
up-back n f = to_z-of_z w64 n f

down-is : (n : ℤ) → FitsSigned w64 n → int_wrapping_neg w64 n ≡ int_wrap w64 (neg_ℤ n)
down-is n f = wrapping_neg_is w64 n f

down-wraps : (n : ℤ) → FitsSigned w64 n → FitsSigned w64 (int_wrapping_neg w64 n)
down-wraps n f = subst (FitsSigned w64) (sym (down-is n f)) (SFits-int_wrap w64 (neg_ℤ n))

pub down-fits : (n : ℤ) → FitsSigned w64 n → down n < 2 ^ 64
down-fits n f = bits-fit (int_wrapping_neg w64 n) (down-wraps n f)

twice : (n : ℤ) → neg_ℤ n *ℤ negsuc 0 ≡ n
unfolding Rattle.std.proofs.Math.IntN.one
twice n = *ℤ-negsuc (neg_ℤ n) 0 ∙ ap neg_ℤ (*ℤ-one (neg_ℤ n)) ∙ neg_ℤ-neg_ℤ n

pub down-back : (end : Ending) (n : ℤ) → FitsSigned w64 n → unsigned_offset (plain end) (down n) ≡ n
down-back end n f =
    ap (λ (m : ℤ). int_wrap w64 (m *ℤ negsuc 0)) (to_z-of_z w64 (int_wrapping_neg w64 n) (down-wraps n f) ∙ down-is n f)
    ∙ int_wrap-mul_left w64 (neg_ℤ n) (negsuc 0)
    ∙ ap (int_wrap w64) (twice n)
    ∙ int_wrap_fits w64 n f

opens : (c : Context) (op : ℕ) (xs rest : List ℕ) → instruction_at c (op ∷ xs ++ rest) ≡ instruction_of c op (xs ++ rest)
opens c op xs rest = ap (λ (r : Read ℕ). and_then r (instruction_of c)) (byte-back op (xs ++ rest))

abbrev set_read : ℕ → Rule → List ℕ → Read Instruction
set_read r v rest = Ok (SetRule r v, rest)

rule-back : (end : Ending) (r : ℕ) (v : Rule) (rest : List ℕ) → r < 2 ^ 64 → RuleFits v
    → instruction_at (plain end) (spelled_rule r v ++ rest) ≡ Ok (SetRule r v, rest)
rule-back end r rule.Undefined rest h f = opens (plain end) 0x07 (uleb r) rest ∙ uleb-back r rest _ h
rule-back end r rule.Same rest h f = opens (plain end) 0x08 (uleb r) rest ∙ uleb-back r rest _ h
rule-back end r (rule.Offset n) rest h f = by (nat_lt r 64) refl where
  read : (m : ℕ) → m < 2 ^ 64 → unsigned_offset (plain end) m ≡ n
      → rule_by_unsigned (plain end) rule.Offset r (uleb m ++ rest) ≡ Ok (SetRule r (rule.Offset n), rest)
  read m l e = uleb-back m rest _ l ∙ ap (λ (x : ℤ). set_read r (rule.Offset x) rest) e

  by : (b : Bool) → nat_lt r 64 ≡ b
      → instruction_at (plain end) ((if nat_lt r 64 then (128 + r) ∷ uleb (down n) else 0x05 ∷ (uleb r ++ uleb (down n))) ++ rest)
      ≡ Ok (SetRule r (rule.Offset n), rest)
  by true e =
      let low : r < 64 = ltb-true r 64 e in
      let kind : (128 + r) / 64 ≡ 2 = omega arith in
      let register : (128 + r) % 64 ≡ r = omega arith in
      rw e (opens (plain end) (128 + r) (uleb (down n)) rest
      ∙ saved (128 + r) (uleb (down n) ++ rest) kind register ∙ read (down n) (down-fits n f) (down-back end n f)) where
        saved : (op : ℕ) (left : List ℕ) → op / 64 ≡ 2 → op % 64 ≡ r
            → instruction_of (plain end) op left ≡ rule_by_unsigned (plain end) rule.Offset r left
        saved op left kind register = rw (kind, register) refl
  by false e =
      rw e (opens (plain end) 0x05 (uleb r ++ uleb (down n)) rest
      ∙ ap (instruction_of (plain end) 0x05) (append_assoc (uleb r) (uleb (down n)) rest)
      ∙ uleb-back r (uleb (down n) ++ rest) _ h ∙ read (down n) (down-fits n f) (down-back end n f))
rule-back end r (rule.ValOffset n) rest h f =
    opens (plain end) 0x14 (uleb r ++ uleb (down n)) rest ∙ ap (instruction_of (plain end) 0x14)
    (append_assoc (uleb r) (uleb (down n)) rest)
    ∙ uleb-back r (uleb (down n) ++ rest) _ h ∙ uleb-back (down n) rest _ (down-fits n f)
    ∙ ap (λ (m : ℤ). set_read r (rule.ValOffset m) rest) (down-back end n f)
rule-back end r (rule.Reg q) rest h f =
    opens (plain end) 0x09 (uleb r ++ uleb q) rest ∙ ap (instruction_of (plain end) 0x09)
    (append_assoc (uleb r) (uleb q) rest)
    ∙ uleb-back r (uleb q ++ rest) _ h ∙ uleb-back q rest _ f
rule-back end r (rule.Expr b) rest h f =
    opens (plain end) 0x10 (uleb r ++ spelled_block b) rest
    ∙ ap (instruction_of (plain end) 0x10) (append_assoc (uleb r) (spelled_block b) rest)
    ∙ uleb-back r (spelled_block b ++ rest) _ h ∙ ap (λ (x : Read (List ℕ)). and_then x
    (λ y more. set_read r (rule.Expr y) more)) (block-back b rest f)
rule-back end r (rule.ValExpr b) rest h f =
    opens (plain end) 0x16 (uleb r ++ spelled_block b) rest
    ∙ ap (instruction_of (plain end) 0x16) (append_assoc (uleb r) (spelled_block b) rest)
    ∙ uleb-back r (spelled_block b ++ rest) _ h ∙ ap (λ (x : Read (List ℕ)). and_then x
    (λ y more. set_read r (rule.ValExpr y) more)) (block-back b rest f)

abbrev cfa_read : Cfa → List ℕ → Read Instruction
cfa_read v rest = Ok (DefCfa v, rest)

cfa-back : (end : Ending) (v : Cfa) (rest : List ℕ) → CfaFits v
    → instruction_at (plain end) (spelled_cfa v ++ rest) ≡ Ok (DefCfa v, rest)
cfa-back end (Reg r n) rest f =
    opens (plain end) 0x0c (uleb r ++ uleb (up n)) rest ∙ ap (instruction_of (plain end) 0x0c)
    (append_assoc (uleb r) (uleb (up n)) rest)
    ∙ uleb-back r (uleb (up n) ++ rest) _ f.0 ∙ uleb-back (up n) rest _ (up-fits n f.1)
    ∙ ap (λ (m : ℤ). cfa_read (Reg r m) rest) (up-back n f.1)
cfa-back end (Expr b) rest f =
    opens (plain end) 0x0f (spelled_block b) rest ∙ ap (λ (x : Read (List ℕ)). and_then x
    (λ y more. cfa_read (Expr y) more)) (block-back b rest f)

-- only the offset
offset-back : (end : Ending) (n : ℤ) (rest : List ℕ) → FitsSigned w64 n
    → instruction_at (plain end) (0x0e ∷ (uleb (up n) ++ rest)) ≡ Ok (DefCfaOffset n, rest)
offset-back end n rest f =
    opens (plain end) 0x0e (uleb (up n)) rest ∙ uleb-back (up n) rest _ (up-fits n f)
    ∙ ap (λ (m : ℤ). the_offset m) (up-back n f) where
      the_offset : ℤ → Read Instruction
      the_offset m = Ok (DefCfaOffset m, rest)

-- the location moves on
advance-back : (end : Ending) (n : ℕ) (rest : List ℕ) → n < 2 ^ 32
    → instruction_at (plain end) (spelled_advance n ++ rest) ≡ Ok (Advance n, rest)
advance-back end n rest h = by (nat_lt n 64) (nat_lt n 256) (nat_lt n 65536) refl refl refl where
  moved : (m : ℕ) (left : List ℕ) → m ≡ n → advance (m * 1) left ≡ Ok (Advance n, left)
  moved m left e =
      let t : nat_lt (n * 1) (2 ^ 64) ≡ true = grind (arith, nat_tests) in
      let k : n * 1 ≡ n = omega arith in
      ap (λ (x : ℕ). advance (x * 1) left) e ∙ rw (t, k) refl

  short : (op : ℕ) (left : List ℕ) → op / 64 ≡ 1 → op % 64 ≡ n
      → instruction_of (plain end) op left ≡ advance (op % 64 * 1) left
  short op left kind low = rw kind refl

  by : (b c d : Bool) → nat_lt n 64 ≡ b → nat_lt n 256 ≡ c → nat_lt n 65536 ≡ d
      → instruction_at (plain end) (spelled_advance n ++ rest) ≡ Ok (Advance n, rest)
  by true c d e f g =
      let low : n < 64 = ltb-true n 64 e in
      let kind : (64 + n) / 64 ≡ 1 = omega arith in
      let is : (64 + n) % 64 ≡ n = omega arith in
      rw e (opens (plain end) (64 + n) [] rest ∙ short (64 + n) rest kind is ∙ moved ((64 + n) % 64) rest is)
  by false true d e f g =
      let low : n < 256 = ltb-true n 256 f in
      rw (e, f) (opens (plain end) 0x02 (n ∷ []) rest
      ∙ ap (λ (r : Read ℕ). and_then r (λ m left. advance (m * 1) left)) (byte-back n rest) ∙ moved n rest refl)
  by false false true e f g =
      let low : n < 65536 = ltb-true n 65536 g in
      rw (e, f, g) (opens (plain end) 0x03 (little_bytes 2 n) rest
      ∙ ap (λ (r : Read ℕ). and_then r (λ m left. advance (m * 1) left)) (number-back 2 n rest (omega arith)) ∙ moved n rest refl)
  by false false false e f g =
      rw (e, f, g) (opens (plain end) 0x04 (little_bytes 4 n) rest
      ∙ ap (λ (r : Read ℕ). and_then r (λ m left. advance (m * 1) left)) (number-back 4 n rest (omega arith)) ∙ moved n rest refl)

-- Sequences

-- some bytes spell some instructions, whatever follows
pub record Spells (end : Ending) (bytes : List ℕ) (is : List Instruction) : Type 0 where
  pub reads : (n : ℕ) (rest : List ℕ) (more : List Instruction) → length (bytes ++ rest) ≤ n →
      ((m : ℕ) → length rest ≤ m → instructions_in (plain end) m rest ≡ Ok more) →
      instructions_in (plain end) n (bytes ++ rest) ≡ Ok (is ++ more)

in-step : (c : Context) (n : ℕ) (bs rest : List ℕ) (i : Instruction) (is : List Instruction)
    → instruction_at c bs ≡ Ok (i, rest) → 0 < n → 0 < length bs
    → instructions_in c (n - 1) rest ≡ Ok is → instructions_in c n bs ≡ Ok (i ∷ is)
unfolding instructions_in
in-step c n [] rest i is e h l more = absurd (omega arith)
in-step c zero (b ∷ bs) rest i is e h l more = absurd (omega arith)
in-step c (suc n) (b ∷ bs) rest i is e h l more = let k : suc n - 1 ≡ n = omega arith in
    ap (λ (r : Read Instruction). and_then r (λ i rest. with_head i (instructions_in c n rest))) e
    ∙ ap (with_head i) (ap (λ (m : ℕ). instructions_in c m rest) (sym k) ∙ more)

in-end : (c : Context) (n : ℕ) → instructions_in c n [] ≡ Ok []
unfolding instructions_in
in-end c zero = refl
in-end c (suc n) = refl

spells-nothing : (end : Ending) → Spells end [] []
spells-nothing end = record { reads = λ n rest more h f. f n h }

spells-one : (end : Ending) (bytes : List ℕ) (i : Instruction) → 0 < length bytes →
    ((rest : List ℕ) → instruction_at (plain end) (bytes ++ rest) ≡ Ok (i, rest)) → Spells end bytes (i ∷ [])
spells-one end bytes i l e = record {
  reads = λ n rest more h f.
      let s : length (bytes ++ rest) ≡ length bytes + length rest = length-append bytes rest in
      in-step (plain end) n (bytes ++ rest) rest i more (e rest) (positive _ _ _ n s l h) (longer _ _ _ s l)
      (f (n - 1) (fewer _ _ _ n s l h));
} where
  positive : (x y z n : ℕ) → x ≡ y + z → 0 < y → x ≤ n → 0 < n
  positive x y z n s l h = omega arith

  longer : (x y z : ℕ) → x ≡ y + z → 0 < y → 0 < x
  longer x y z s l = omega arith

  fewer : (x y z n : ℕ) → x ≡ y + z → 0 < y → x ≤ n → z ≤ n - 1
  fewer x y z n s l h = omega arith

spells-both : (end : Ending) (xs ys : List ℕ) (is js : List Instruction) → Spells end xs is → Spells end ys js
    → Spells end (xs ++ ys) (is ++ js)
spells-both end xs ys is js a b = record {
  reads = λ n rest more h f.
      let t : (xs ++ ys) ++ rest ≡ xs ++ (ys ++ rest) = append_assoc xs ys rest in
      ap (instructions_in (plain end) n) t
      ∙ a.reads n (ys ++ rest) (js ++ more) (subst (λ (l : List ℕ). length l ≤ n) t h) (λ m g. b.reads m rest more g f)
      ∙ ap (λ (l : List Instruction). Ok l) (sym (append_assoc is js more));
}

rule_length : (r : ℕ) (v : Rule) → 0 < length (spelled_rule r v)
rule_length r rule.Undefined = omega arith
rule_length r rule.Same = omega arith
rule_length r (rule.Offset n) = by (nat_lt r 64) where
  by : (b : Bool) → 0 < length (if b then (128 + r) ∷ uleb (down n) else 0x05 ∷ (uleb r ++ uleb (down n)))
  by true = omega arith
  by false = omega arith
rule_length r (rule.ValOffset n) = omega arith
rule_length r (rule.Reg q) = omega arith
rule_length r (rule.Expr b) = omega arith
rule_length r (rule.ValExpr b) = omega arith

cfa_length : (v : Cfa) → 0 < length (spelled_cfa v)
cfa_length (Reg r n) = omega arith
cfa_length (Expr b) = omega arith

advance_length : (n : ℕ) → 0 < length (spelled_advance n)
advance_length n = by (nat_lt n 64) (nat_lt n 256) (nat_lt n 65536) where
  by : (b c d : Bool) → 0 < length (if b then (64 + n) ∷ [] else (if c then 0x02 ∷ n ∷ []
      else (if d then 0x03 ∷ little_bytes 2 n else 0x04 ∷ little_bytes 4 n)))
  by true c d = omega arith
  by false true d = omega arith
  by false false true = omega arith
  by false false false = omega arith

abbrev pub rule_list : Rules → List Instruction
rule_list rules = map (λ (x : ℕ × Rule). SetRule x.0 x.1) rules

abbrev pub restore_list : Rules → List Instruction
restore_list rules = map (λ (x : ℕ × Rule). Restore x.0) rules

abbrev pub cfa_list : Option Cfa → Cfa → List Instruction
cfa_list None cfa = DefCfa cfa ∷ []
cfa_list (Some (Expr c)) cfa = DefCfa cfa ∷ []
cfa_list (Some (Reg q m)) (Expr b) = DefCfa (Expr b) ∷ []
cfa_list (Some (Reg q m)) (Reg r n) =
    if q == r then (if int_eq m n then [] else DefCfaOffset n ∷ []) else DefCfa (Reg r n) ∷ []

abbrev pub change_list : Known → RowValue → List Instruction
change_list known row =
    cfa_list known.cfa row.cfa
    ++ (restore_list (gone_rules known.rules row.rules) ++ rule_list (other_rules known.rules row.rules))

-- a row after which the location moves on
abbrev pub before_list : Known → RowValue → ℕ → List Instruction
before_list known row n =
    if are_low row.rules then change_list known row ++ Advance n ∷ []
    else RememberState ∷ (change_list known row ++ (Advance n ∷ RestoreState ∷ []))

abbrev pub program : Known → ℕ → RowValue → List (Run FrameAnswer) → List Instruction
program known at row [] = change_list known row
program known at row (r ∷ rs) =
    before_list known row (r.start - at) ++ program (known_behind known row) r.start r.answer.row rs

abbrev pub nops : ℕ → List Instruction
nops zero = []
nops (suc n) = Nop ∷ nops n

spells-rules : (end : Ending) (least : ℕ) (rules : Rules) → RulesFit least rules → Spells end (spelled_rules rules) (rule_list rules)
spells-rules end least [] f = spells-nothing end
spells-rules end least (x ∷ xs) f =
    spells-both end (spelled_rule x.0 x.1) (spelled_rules xs) (SetRule x.0 x.1 ∷ []) (rule_list xs)
    (spells-one end (spelled_rule x.0 x.1) (SetRule x.0 x.1) (rule_length x.0 x.1)
    (λ rest. rule-back end x.0 x.1 rest f.1 f.2))
    (spells-rules end (x.0 + 1) xs f.3)

remembers : (end : Ending) → Spells end (0x0a ∷ []) (RememberState ∷ [])
remembers end = spells-one end (0x0a ∷ []) RememberState (omega arith) (λ rest. opens (plain end) 0x0a [] rest)

restores : (end : Ending) → Spells end (0x0b ∷ []) (RestoreState ∷ [])
restores end = spells-one end (0x0b ∷ []) RestoreState (omega arith) (λ rest. opens (plain end) 0x0b [] rest)

spells-cfa : (end : Ending) (o : Option Cfa) (v : Cfa) → CfaFits v → Spells end (spelled_cfa_from o v) (cfa_list o v)
spells-cfa end o v f = by o v f where
  whole : (v : Cfa) → CfaFits v → Spells end (spelled_cfa v) (DefCfa v ∷ [])
  whole v f = spells-one end (spelled_cfa v) (DefCfa v) (cfa_length v) (λ rest. cfa-back end v rest f)

  from : (r : ℕ) (n : ℤ) (b c : Bool) → CfaFits (Reg r n)
      → Spells end (if b then (if c then [] else 0x0e ∷ uleb (up n)) else spelled_cfa (Reg r n))
      (if b then (if c then [] else DefCfaOffset n ∷ []) else DefCfa (Reg r n) ∷ [])
  from r n true true f = spells-nothing end
  from r n true false f = spells-one end (0x0e ∷ uleb (up n)) (DefCfaOffset n) (omega arith) (λ rest. offset-back end n rest f.1)
  from r n false c f = whole (Reg r n) f

  by : (o : Option Cfa) (v : Cfa) → CfaFits v → Spells end (spelled_cfa_from o v) (cfa_list o v)
  by None v f = whole v f
  by (Some (Expr c)) v f = whole v f
  by (Some (Reg q m)) (Expr b) f = whole (Expr b) f
  by (Some (Reg q m)) (Reg r n) f = from r n (q == r) (int_eq m n) f

-- the short form of DW_CFA_restore has the register in its opcode
restore-back : (end : Ending) (r : ℕ) (rest : List ℕ) → r < 64 → instruction_of (plain end) (192 + r) rest ≡ Ok (Restore r, rest)
restore-back end r rest h =
    let kind : (192 + r) / 64 ≡ 3 = omega arith in
    let low : (192 + r) % 64 ≡ r = omega arith in
    rw (kind, low) refl

spells-restores : (end : Ending) (rules : Rules) → are_low rules ≡ true → Spells end (spelled_restores rules) (restore_list rules)
spells-restores end [] low = spells-nothing end
spells-restores end (x ∷ xs) low =
    let both = and_parts (nat_lt x.0 32) (are_low xs) low in
    let small : x.0 < 32 = ltb-true x.0 32 both.0 in
    spells-both end ((192 + x.0) ∷ []) (spelled_restores xs) (Restore x.0 ∷ []) (restore_list xs)
    (spells-one end ((192 + x.0) ∷ []) (Restore x.0) (omega arith)
    (λ rest. opens (plain end) (192 + x.0) [] rest ∙ restore-back end x.0 rest (omega arith)))
    (spells-restores end xs both.1)

spells-change : (end : Ending) (known : Known) (row : RowValue) → are_low (gone_rules known.rules row.rules) ≡ true → RowFits row
    → RulesFit 0 (other_rules known.rules row.rules) → Spells end (spelled_change known row) (change_list known row)
spells-change end known row low f g =
    spells-both end (spelled_cfa_from known.cfa row.cfa)
    (spelled_restores (gone_rules known.rules row.rules) ++ spelled_rules (other_rules known.rules row.rules))
    (cfa_list known.cfa row.cfa)
    (restore_list (gone_rules known.rules row.rules) ++ rule_list (other_rules known.rules row.rules))
    (spells-cfa end known.cfa row.cfa f.cfa)
    (spells-both end (spelled_restores (gone_rules known.rules row.rules)) (spelled_rules (other_rules known.rules row.rules))
    (restore_list (gone_rules known.rules row.rules)) (rule_list (other_rules known.rules row.rules))
    (spells-restores end (gone_rules known.rules row.rules) low)
    (spells-rules end 0 (other_rules known.rules row.rules) g))

spells-advance : (end : Ending) (n : ℕ) → n < 2 ^ 32 → Spells end (spelled_advance n) (Advance n ∷ [])
spells-advance end n h = spells-one end (spelled_advance n) (Advance n) (advance_length n) (λ rest. advance-back end n rest h)

chosen-low : (P : ℕ × Rule → Bool) (xs : Rules) → are_low xs ≡ true → are_low (filter P xs) ≡ true
chosen-low P [] low = refl
chosen-low P (x ∷ xs) low =
    let both = and_parts (nat_lt x.0 32) (are_low xs) low in by (P x) refl both.0 (chosen-low P xs both.1) where
      by : (b : Bool) → P x ≡ b → nat_lt x.0 32 ≡ true → are_low (filter P xs) ≡ true → are_low (filter P (x ∷ xs)) ≡ true
      by true e h more = rw (e, h) more
      by false e h more = rw e more

chosen-fit : (P : ℕ × Rule → Bool) (lo low : ℕ) (xs : Rules) → low ≤ lo → RulesFit lo xs → RulesFit low (filter P xs)
chosen-fit P lo low [] l f = tt
chosen-fit P lo low (x ∷ xs) l f =
    let h : lo ≤ x.0 = f.0 in
    by (P x) refl (omega arith) (chosen-fit P (x.0 + 1) (x.0 + 1) xs (omega arith) f.3)
    (chosen-fit P (x.0 + 1) low xs (omega arith) f.3) where
      by : (b : Bool) → P x ≡ b → low ≤ x.0 → RulesFit (x.0 + 1) (filter P xs) → RulesFit low (filter P xs)
          → RulesFit low (filter P (x ∷ xs))
      by true e h kept more = rw e (h, f.1, f.2, kept)
      by false e h kept more = rw e more

spells-before : (end : Ending) (known : Known) (row : RowValue) (n : ℕ) → n < 2 ^ 32
    → Spells end (spelled_change known row) (change_list known row)
    → Spells end (spelled_row_before known row n) (before_list known row n)
spells-before end known row n h change = by (are_low row.rules) where
  by : (b : Bool) → Spells end (if b then spelled_change known row ++ spelled_advance n
      else 0x0a ∷ (spelled_change known row ++ (spelled_advance n ++ 0x0b ∷ [])))
      (if b then change_list known row ++ Advance n ∷ []
      else RememberState ∷ (change_list known row ++ (Advance n ∷ RestoreState ∷ [])))
  by true = spells-both end (spelled_change known row) (spelled_advance n) (change_list known row) (Advance n ∷ []) change
      (spells-advance end n h)
  by false =
      spells-both end (0x0a ∷ []) _ (RememberState ∷ []) _ (remembers end)
      (spells-both end (spelled_change known row) _ (change_list known row) _ change
      (spells-both end (spelled_advance n) (0x0b ∷ []) (Advance n ∷ []) (RestoreState ∷ []) (spells-advance end n h)
      (restores end)))

-- the known state has only low registers
known-low : (known : Known) (row : RowValue) → are_low known.rules ≡ true → are_low (known_behind known row).rules ≡ true
known-low known row low = by (are_low row.rules) refl where
  by : (b : Bool) → are_low row.rules ≡ b → are_low (if b then known_by row else known).rules ≡ true
  by true e = e
  by false e = low

spells-rows : (end : Ending) (known : Known) (at : ℕ) (row : RowValue) (more : List (Run FrameAnswer))
    → are_low known.rules ≡ true → RowFits row → Near at more → All (λ (r : Run FrameAnswer). RowFits r.answer.row) more
    → Spells end (spelled_rows known at row more) (program known at row more)
spells-rows end known at row [] low f h g =
    spells-change end known row (chosen-low _ known.rules low) f (chosen-fit _ 0 0 row.rules (omega arith) f.rules)
spells-rows end known at row (r ∷ rs) low f h g =
    spells-both end (spelled_row_before known row (r.start - at))
    (spelled_rows (known_behind known row) r.start r.answer.row rs) (before_list known row (r.start - at))
    (program (known_behind known row) r.start r.answer.row rs)
    (spells-before end known row (r.start - at) h.0
    (spells-change end known row (chosen-low _ known.rules low) f (chosen-fit _ 0 0 row.rules (omega arith) f.rules)))
    (spells-rows end (known_behind known row) r.start r.answer.row rs (known-low known row low)
    (All-head (λ (r : Run FrameAnswer). RowFits r.answer.row) r rs g) h.1
    (All-tail (λ (r : Run FrameAnswer). RowFits r.answer.row) r rs g))

pub nops-in : (end : Ending) (k n : ℕ) → k ≤ n → instructions_in (plain end) n (zeros k) ≡ Ok (nops k)
nops-in end zero n h = in-end (plain end) n
nops-in end (suc k) n h =
    in-step (plain end) n (0 ∷ zeros k) (zeros k) Nop (nops k) (opens (plain end) 0 [] (zeros k)) (omega arith)
    (omega arith) (nops-in end k (n - 1) (omega arith))

-- only a frame address
pub cfa-alone : (end : Ending) (v : Cfa) → CfaFits v → instructions_at (plain end) (spelled_cfa v) ≡ Ok (DefCfa v ∷ [])
cfa-alone end v f =
    subst (λ (l : List ℕ). instructions_in (plain end) (length (spelled_cfa v)) l ≡ Ok (DefCfa v ∷ []))
    (append-nil (spelled_cfa v))
    ((spells-cfa end None v f).reads (length (spelled_cfa v)) [] [] (long (spelled_cfa v)) (λ m l. in-end (plain end) m)) where
      long : (xs : List ℕ) → length (xs ++ []) ≤ length xs
      long xs = let e = length-append xs [] in omega arith

-- and nops after it
pub cfa-nops : (end : Ending) (k : ℕ) (v : Cfa) → CfaFits v
    → instructions_at (plain end) (spelled_cfa v ++ zeros k) ≡ Ok (DefCfa v ∷ nops k)
cfa-nops end k v f =
    (spells-cfa end None v f).reads (length (spelled_cfa v ++ zeros k)) (zeros k) (nops k)
    (omega arith) (λ m l. nops-in end k m (let e : length (zeros k) ≡ k = length-zeros k in omega arith))

-- all instructions of an entry
pub program-back : (end : Ending) (k : ℕ) (known : Known) (at : ℕ) (row : RowValue) (more : List (Run FrameAnswer))
    → are_low known.rules ≡ true → RowFits row → Near at more → All (λ (r : Run FrameAnswer). RowFits r.answer.row) more
    → instructions_at (plain end) (spelled_rows known at row more ++ zeros k) ≡ Ok (program known at row more ++ nops k)
program-back end k known at row more low f h g =
    (spells-rows end known at row more low f h g).reads (length (spelled_rows known at row more ++ zeros k)) (zeros k) (nops k)
    (omega arith) (λ m l. nops-in end k m (let e : length (zeros k) ≡ k = length-zeros k in omega arith))
