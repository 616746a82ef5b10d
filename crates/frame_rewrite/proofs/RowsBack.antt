-- The instructions of an entry describe its rows: each changes the known state to the next row.
use Rattle.std.proofs.Common.{ℕ, zero, suc, ℤ, ◌+◌, ◌-◌, ◌^◌, ◌≤◌, ◌<◌, ◌≡◌, List, [], ◌∷◌, ◌++◌, Option, Some, None, ltb, refl, ◌∙◌}
use Rattle.std.proofs.Common.{ap, arith, append_assoc, map, Bool, true, false}
use Rattle.std.specs.Prelude.{◌==◌, if◌then◌else◌}
use Rattle.std.specs.Ordering.{int_eq}
use Rattle.std.proofs.lemmas.Bool.Decides.{nat_tests, Decides-int_eq}
use Rattle.answer_runs.specs.declared.run.Run.{Run}
use Rattle.cfi_rows.specs.declared.row.Cfa.{Cfa}
use Rattle.cfi_rows.specs.declared.row.Cfa.TheVariants.{Reg, Expr}
use Rattle.cfi_rows.specs.declared.instruction.Instruction.{Instruction}
use Rattle.cfi_rows.specs.declared.instruction.Instruction.TheVariants.{Advance, DefCfa, DefCfaOffset, RememberState, RestoreState}
use Rattle.cfi_rows.specs.FrameRows.{RowValue, Rules, Known, State, begins, rows, prepended, PlacedRow}
use Rattle.cfi_rows.specs.RuleChanges.{over}
use Rattle.cfi_rows.specs.RuleEntries.{Ascend}
use Rattle.frame_rewrite.specs.FrameAnswers.{FrameAnswer}
use Rattle.frame_rewrite.specs.SpelledFits.{RulesFit}
use Rattle.frame_rewrite.specs.SpelledFrames.{are_low, known_by, known_behind, gone_rules, other_rules}
use Rattle.frame_rewrite.proofs.ChangedRules.{without_all, changed}
use Rattle.frame_rewrite.proofs.InstructionsBack.{rule_list, restore_list, cfa_list, change_list, before_list, program, nops}

pub fit-ascend : (lo : ℕ) (xs : Rules) → RulesFit lo xs → Ascend lo xs
fit-ascend lo [] f = tt
fit-ascend lo (x ∷ xs) f = (f.0, fit-ascend (x.0 + 1) xs f.3)

abbrev at_point : ℕ → Option Cfa → Rules → List Known → State
at_point start cfa rules saved = record { location = start; known = record { cfa = cfa; rules = rules }; saved = saved }

-- A change of the known state

cfa-run : (start : ℕ) (o : Option Cfa) (v : Cfa) (rules : Rules) (saved : List Known) (more : List Instruction)
    → rows [] (cfa_list o v ++ more) (at_point start o rules saved) ≡ rows [] more (at_point start (Some v) rules saved)
cfa-run start None v rules saved more = refl
cfa-run start (Some (Expr c)) v rules saved more = refl
cfa-run start (Some (Reg q m)) (Expr b) rules saved more = refl
cfa-run start (Some (Reg q m)) (Reg r n) rules saved more = by (q == r) (int_eq m n) refl refl where
  by : (b c : Bool) → (q == r) ≡ b → int_eq m n ≡ c
      → rows [] ((if b then (if c then [] else DefCfaOffset n ∷ []) else DefCfa (Reg r n) ∷ []) ++ more)
      (at_point start (Some (Reg q m)) rules saved) ≡ rows [] more (at_point start (Some (Reg r n)) rules saved)
  by true true e f =
      let s : q ≡ r = grind (arith, nat_tests) in
      ap (λ (k : ℕ). rows [] more (at_point start (Some (Reg k m)) rules saved)) s
      ∙ ap (λ (k : ℤ). rows [] more (at_point start (Some (Reg r k)) rules saved)) ((Decides-int_eq m n).0 f)
  by true false e f =
      let s : q ≡ r = grind (arith, nat_tests) in
      ap (λ (k : ℕ). rows [] more (at_point start (Some (Reg k n)) rules saved)) s
  by false c e f = refl

restores-run : (start : ℕ) (cfa : Option Cfa) (xs cur : Rules) (saved : List Known) (more : List Instruction)
    → rows [] (restore_list xs ++ more) (at_point start cfa cur saved)
    ≡ rows [] more (at_point start cfa (without_all xs cur) saved)
restores-run start cfa [] cur saved more = refl
restores-run start cfa (x ∷ xs) cur saved more = restores-run start cfa xs _ saved more

sets-run : (start : ℕ) (cfa : Option Cfa) (xs cur : Rules) (saved : List Known) (more : List Instruction)
    → rows [] (rule_list xs ++ more) (at_point start cfa cur saved) ≡ rows [] more (at_point start cfa (over cur xs) saved)
sets-run start cfa [] cur saved more = refl
sets-run start cfa (x ∷ xs) cur saved more = sets-run start cfa xs _ saved more

change-run : (start : ℕ) (known : Known) (row : RowValue) (saved : List Known) (more : List Instruction)
    → Ascend 0 known.rules → RulesFit 0 row.rules
    → rows [] (change_list known row ++ more) (at_point start known.cfa known.rules saved)
    ≡ rows [] more (at_point start (Some row.cfa) row.rules saved)
change-run start known row saved more a f =
    let gone : Rules = gone_rules known.rules row.rules in
    let other : Rules = other_rules known.rules row.rules in
    ap (λ (is : List Instruction). rows [] is (at_point start known.cfa known.rules saved))
    (append_assoc (cfa_list known.cfa row.cfa)
    (restore_list (gone_rules known.rules row.rules) ++ rule_list (other_rules known.rules row.rules)) more
    ∙ ap (λ (l : List Instruction). cfa_list known.cfa row.cfa ++ l)
    (append_assoc (restore_list (gone_rules known.rules row.rules)) (rule_list (other_rules known.rules row.rules)) more))
    ∙ cfa-run start known.cfa row.cfa known.rules saved
    (restore_list (gone_rules known.rules row.rules) ++ (rule_list (other_rules known.rules row.rules) ++ more))
    ∙ restores-run start (Some row.cfa) (gone_rules known.rules row.rules) known.rules saved
    (rule_list (other_rules known.rules row.rules) ++ more)
    ∙ sets-run start (Some row.cfa) (other_rules known.rules row.rules)
    (without_all (gone_rules known.rules row.rules) known.rules) saved more
    ∙ ap (λ (l : Rules). rows [] more (at_point start (Some row.cfa) l saved))
    (changed known.rules row.rules a (fit-ascend 0 row.rules f))

-- The rows

nops-run : (start k : ℕ) (row : RowValue) → rows [] (nops k) (at_point start (Some row.cfa) row.rules [])
    ≡ Some (record { start = start; row = row } ∷ [])
nops-run start zero row = refl
nops-run start (suc k) row = nops-run start k row

-- the rows of further runs
abbrev pub placed : List (Run FrameAnswer) → List PlacedRow
placed rs = map (λ (r : Run FrameAnswer). record { start = r.start; row = r.answer.row }) rs

-- the locations of further runs ascend, from one on, and their rules do
abbrev pub Follow : ℕ → List (Run FrameAnswer) → Type 0
Follow at [] = Unit {0}
Follow at (r ∷ rs) = (at ≤ r.start) × (r.start < 2 ^ 64) × RulesFit 0 r.answer.row.rules × Follow r.start rs

-- a row ends as the location moves on
advance-run : (at to : ℕ) (row : RowValue) (saved : List Known) (more : List Instruction) → at ≤ to → to < 2 ^ 64
    → rows [] (Advance (to - at) ∷ more) (at_point at (Some row.cfa) row.rules saved)
    ≡ prepended at (Some row) (rows [] more (at_point to (Some row.cfa) row.rules saved))
advance-run at to row saved more l h =
    let is : at + (to - at) ≡ to = omega arith in
    let t : ltb to (2 ^ 64) ≡ true = grind (arith, nat_tests) in
    rw (is, t) refl

-- a row after which the location moves on
before-run : (at to : ℕ) (known : Known) (row : RowValue) (more : List Instruction) → Ascend 0 known.rules
    → RulesFit 0 row.rules → at ≤ to → to < 2 ^ 64
    → rows [] (before_list known row (to - at) ++ more) (begins at known)
    ≡ prepended at (Some row) (rows [] more (begins to (known_behind known row)))
before-run at to known row more a f l h = by (are_low row.rules) where
  by : (b : Bool) → rows [] ((if b then change_list known row ++ Advance (to - at) ∷ []
      else RememberState ∷ (change_list known row ++ (Advance (to - at) ∷ RestoreState ∷ []))) ++ more) (begins at known)
      ≡ prepended at (Some row) (rows [] more (begins to (if b then known_by row else known)))
  by true =
      ap (λ (is : List Instruction). rows [] is (begins at known))
      (append_assoc (change_list known row) (Advance (to - at) ∷ []) more)
      ∙ change-run at known row [] (Advance (to - at) ∷ more) a f ∙ advance-run at to row [] more l h
  by false =
      ap (λ (is : List Instruction). rows [] is (at_point at known.cfa known.rules (known ∷ [])))
      (append_assoc (change_list known row) (Advance (to - at) ∷ RestoreState ∷ []) more)
      ∙ change-run at known row (known ∷ []) (Advance (to - at) ∷ RestoreState ∷ more) a f
      ∙ advance-run at to row (known ∷ []) (RestoreState ∷ more) l h

known-ascend : (known : Known) (row : RowValue) → Ascend 0 known.rules → Ascend 0 row.rules
    → Ascend 0 (known_behind known row).rules
known-ascend known row a c = by (are_low row.rules) where
  by : (b : Bool) → Ascend 0 (if b then known_by row else known).rules
  by true = c
  by false = a

pub rows-back : (start k : ℕ) (known : Known) (row : RowValue) (more : List (Run FrameAnswer)) → Ascend 0 known.rules
    → RulesFit 0 row.rules → Follow start more
    → rows [] (program known start row more ++ nops k) (begins start known)
    ≡ Some (record { start = start; row = row } ∷ placed more)
rows-back start k known row [] a f follow = change-run start known row [] (nops k) a f ∙ nops-run start k row
rows-back start k known row (r ∷ rs) a f follow =
    ap (λ (is : List Instruction). rows [] is (begins start known))
    (append_assoc (before_list known row (r.start - start)) (program (known_behind known row) r.start r.answer.row rs) (nops k))
    ∙ before-run start r.start known row (program (known_behind known row) r.start r.answer.row rs ++ nops k) a f follow.0
    follow.1
    ∙ ap (prepended start (Some row)) (rows-back r.start k (known_behind known row) r.answer.row rs
    (known-ascend known row a (fit-ascend 0 row.rules f)) follow.2 follow.3)
