-- Steps that keep rows by the changes of rules.
use Rattle.std.proofs.Common.{◌≡◌, ◌∙◌, ◌+◌, ◌-◌, ◌<◌, ◌≤◌, ◌++◌, ℕ, zero, suc, List, [], ◌∷◌, map, length, take, drop, reverse, get_or}
use Rattle.std.proofs.Common.{Option, Some, None, option_map, refl, sym, ap, subst, arith, length-append}
use Rattle.std.specs.Prelude.{All, Result, Ok, Err, OnOk, slice_get, slice_index_or}
use Rattle.std.specs.Rc.{rc_value}
use Rattle.std.proofs.lemmas.List.{append-nil, take-append-le, take-append-drop, get_or-reverse, length-reverse, length-map, drop_more}
use Rattle.std.proofs.lemmas.Option.{slice_get-map, slice_get-get_or}
use Rattle.std.proofs.lemmas.Simd.{map-map}
use Rattle.std.proofs.lemmas.List.Elements.{All-head, All-tail, All-weaker}
use Rattle.cfi_rows.specs.declared.rules.Change.{Change}
use Rattle.cfi_rows.specs.declared.row.Rule.{Rule}
use Rattle.cfi_rows.specs.declared.machine.Machine.{Machine}
use Rattle.cfi_rows.specs.declared.machine.Saved.{Saved}
use Rattle.cfi_rows.specs.declared.cie_program.CieProgram.{CieProgram}
use Rattle.cfi_rows.specs.declared.program.Program.{Program}
use Rattle.cfi_rows.specs.declared.instruction.Instruction.{Instruction}
use Rattle.cfi_rows.specs.declared.instruction.Instruction.TheVariants.{RestoreState}
use Rattle.cfi_rows.specs.declared.row_history.KeptRow.{KeptRow}
use Rattle.cfi_rows.specs.declared.row_history.KeptRules.{KeptRules}
use Rattle.cfi_rows.specs.declared.row_history.RowHistory.{RowHistory}
use Rattle.cfi_rows.specs.FrameRows.{Rules, restored, Known, State, RowValue, begins, step, take_back, PlacedRow, prepended, row_of, rows}
use Rattle.cfi_rows.specs.FrameRows.{row_at}
use Rattle.cfi_rows.specs.FramePrograms.{rows_of}
use Rattle.cfi_rows.specs.RuleEntries.{Ascend}
use Rattle.cfi_rows.specs.RowMachines.{known_of, remembered, state_of}
use Rattle.cfi_rows.specs.RuleChanges.{after_changes, over}
use Rattle.cfi_rows.specs.RowHistories.{rules_after, told_row, told, before, IsRight, Keeps, Goes, row_over}
use Rattle.cfi_rows.proofs.OverRules.{rows-over}
use Rattle.cfi_rows.proofs.RowLists as lists

pub after-append : (rules : Rules) (xs ys : List Change) → after_changes rules (xs ++ ys) ≡ after_changes (after_changes rules xs) ys
after-append rules [] ys = refl
after-append rules (c ∷ cs) ys = after-append (restored c.register (option_map rc_value c.rule) rules) cs ys

-- What was kept stays right after more changes.

rules-stay : (xs ys : List Change) (n : ℕ) → n ≤ length xs → rules_after (xs ++ ys) n ≡ rules_after xs n
rules-stay xs ys n l = ap (after_changes []) (take-append-le n xs ys l)

longer : (xs ys : List Change) (n : ℕ) → n ≤ length xs → n ≤ length (xs ++ ys)
longer xs ys n l = let e = length-append xs ys in omega (arith, e, l)

right-stays : (xs ys : List Change) (k : KeptRules) → IsRight xs k → IsRight (xs ++ ys) k
right-stays xs ys k r = record { within = longer xs ys k.changes r.within; rules = r.rules ∙ sym (rules-stay xs ys k.changes r.within) }

rows-stay : (xs ys : List Change) (rs : List KeptRow) → All (λ (r : KeptRow). r.changes ≤ length xs) rs
    → map (told_row (xs ++ ys)) rs ≡ map (told_row xs) rs
rows-stay xs ys [] a = refl
rows-stay xs ys (r ∷ rs) a =
    ap (λ (rules : Rules). record { start = r.start; row = record { cfa = rc_value r.cfa; rules = rules } }
    ∷ map (told_row (xs ++ ys)) rs)
    (rules-stay xs ys r.changes (All-head (λ (r : KeptRow). r.changes ≤ length xs) r rs a))
    ∙ ap (λ more. told_row xs r ∷ more) (rows-stay xs ys rs (All-tail (λ (r : KeptRow). r.changes ≤ length xs) r rs a))

pub goes-on : (old new : RowHistory) (rules after : Rules) (steps : List Change) → new.rows.items ≡ old.rows.items
    → new.kept.items ≡ old.kept.items → new.changes.items ≡ old.changes.items ++ steps → after_changes rules steps ≡ after
    → Keeps old rules → Goes old new after
goes-on old new rules after steps r k c e h = record {
  keeps = record {
    now = ap (after_changes []) c ∙ after-append [] old.changes.items steps ∙ ap (λ (x : Rules). after_changes x steps) h.now ∙ e;
    within = subst (λ (cs : List Change). All (λ (x : KeptRow). x.changes ≤ length cs) new.rows.items) (sym c)
        (subst (All (λ (x : KeptRow). x.changes ≤ length (old.changes.items ++ steps))) (sym r)
        (All-weaker (λ (x : KeptRow). x.changes ≤ length old.changes.items)
        (λ (x : KeptRow). x.changes ≤ length (old.changes.items ++ steps))
        (λ x. longer old.changes.items steps x.changes) old.rows.items h.within));
    right = subst (λ (cs : List Change). All (IsRight cs) new.kept.items) (sym c)
        (subst (All (IsRight (old.changes.items ++ steps))) (sym k)
        (All-weaker (IsRight old.changes.items) (IsRight (old.changes.items ++ steps))
        (right-stays old.changes.items steps) old.kept.items h.right));
  };
  same = ap (λ (cs : List Change). map (told_row cs) new.rows.items) c
      ∙ ap (map (told_row (old.changes.items ++ steps))) r ∙ rows-stay old.changes.items steps old.rows.items h.within;
}

pub goes-to : (a b : RowHistory) (rules after : Rules) → rules ≡ after → Goes a b rules → Goes a b after
goes-to a b rules after e g = subst (Goes a b) e g

pub goes-both : (a b c : RowHistory) (x y : Rules) → Goes a b x → (Keeps b x → Goes b c y) → Goes a c y
goes-both a b c x y g f = let h = f g.keeps in record { keeps = h.keeps; same = h.same ∙ g.same }

-- A row more

-- Rules that are found again

pub found-again : (changes : List Change) (rules : Rules) (from count : ℕ) → from ≤ count → count ≤ length changes
    → rules ≡ rules_after changes from → after_changes rules (drop from (take count changes)) ≡ rules_after changes count
found-again changes rules from count l m e =
    ap (λ (r : Rules). after_changes r (drop from (take count changes))) (e ∙ ap (after_changes []) (sym (shorter from count changes l)))
    ∙ sym (after-append [] (take from (take count changes)) (drop from (take count changes)))
    ∙ ap (after_changes []) (take-append-drop from (take count changes)) where
      shorter : (n m : ℕ) (xs : List Change) → n ≤ m → take n (take m xs) ≡ take n xs
      shorter zero m xs l = refl
      shorter (suc n) zero xs l = absurd (omega arith)
      shorter (suc n) (suc m) [] l = refl
      shorter (suc n) (suc m) (x ∷ xs) l = ap (λ ys. x ∷ ys) (shorter n m xs (omega arith))

-- Changes that are taken back

restored-rules : (location : ℕ) (known : Known) (rules : Rules) (cs : List Change) (ss : List Saved) (t : State)
    → take_back (record { location = location; known = known; saved = remembered rules cs ss }) (remembered rules cs ss) ≡ Some t
    → after_changes rules cs ≡ t.known.rules
restored-rules location known rules cs [] t e = absurd (cc)
restored-rules location known rules cs (s ∷ ss) t e = ap (λ (o : Option State). rules_in o) e where
  rules_in : Option State → Rules
  rules_in None = []
  rules_in (Some t) = t.known.rules

pub taken-back : {X E : Type 0} (r : Result X E) (old new : RowHistory) (m : Machine) (i : Instruction) (cs : List Change)
    → i ≡ RestoreState
    → cs ≡ m.changes.items → OnOk r ((rules : Rules) → Keeps old rules → Goes old new (after_changes rules (reverse cs)))
    → OnOk r ((t : State) → Keeps old m.rules → step [] i (state_of m) ≡ Some t → Goes old new t.known.rules)
taken-back (Err e) old new m i cs k c h = tt
taken-back (Ok x) old new m i cs k c h = λ t keeps e.
    goes-to old new _ t.known.rules (ap (λ (xs : List Change). after_changes m.rules (reverse xs)) c
    ∙ restored-rules m.location (record { cfa = option_map rc_value m.cfa; rules = m.rules }) m.rules (reverse m.changes.items)
    (reverse m.saved.items) t (ap (λ (x : Instruction). step [] x (state_of m)) (sym k) ∙ e)) (h m.rules keeps)

-- one change is taken back, of the many that are left
pub one-undone : (start old new : RowHistory) (rules : Rules) (cs : List Change) (k : ℕ) (c : Change) (rule : Option Rule) → k < length cs
    → get_or cs (length cs - 1 - k) c ≡ c → rule ≡ option_map rc_value c.rule
    → Goes start old (after_changes [] old.changes.items)
    × (after_changes (after_changes [] old.changes.items) (drop k (reverse cs)) ≡ after_changes rules (reverse cs))
    → ((rules : Rules) → Keeps old rules → Goes old new (restored c.register rule rules))
    → Goes start new (after_changes [] new.changes.items)
    × (after_changes (after_changes [] new.changes.items) (drop (k + 1) (reverse cs)) ≡ after_changes rules (reverse cs))
one-undone start old new rules cs k c rule l g e far goes =
    let step = goes (after_changes [] old.changes.items) far.0.keeps in
    let now = step.keeps.now in
    let n = length-reverse cs in
    let m : k < length (reverse cs) = omega (arith, n, l) in
    let first = drop_more (reverse cs) k c m ∙ ap (λ (x : Change). x ∷ drop (k + 1) (reverse cs)) (get_or-reverse cs k c l ∙ g) in (
      goes-to start new _ _ (sym now) (goes-both start old new (after_changes [] old.changes.items) _ far.0 (λ kept. step)),
      ap (λ (r : Rules). after_changes r (drop (k + 1) (reverse cs)))
          (now ∙ ap (λ (o : Option Rule). restored c.register o (after_changes [] old.changes.items)) e)
          ∙ ap (after_changes (after_changes [] old.changes.items)) (sym first) ∙ far.1,
    )

-- All rows of a program

pub all-told : (is : List Instruction) (k : ℕ) (start : State) (m : Machine) (old new : RowHistory) → length is ≤ k
    → rows [] is start ≡ before (told old) (rows [] (drop k is) (state_of m))
    → ((more : Option (List PlacedRow)) → before (told old) (prepended m.location (row_of (state_of m).known) more)
    ≡ before (told new) more)
    → rows [] is start ≡ Some (told new)
all-told is k start m old new l e f =
    e ∙ ap (before (told old)) (lists.rows-end is k (state_of m) l) ∙ f (Some [])
    ∙ ap (λ (rs : List PlacedRow). Some rs) (append-nil (told new))

run-over : (known : Known) (start : ℕ) (is : List Instruction) (rs : List PlacedRow) → Ascend 0 known.rules
    → rows [] is (begins start (record { cfa = known.cfa; rules = [] })) ≡ Some rs
    → rows known.rules is (begins start known) ≡ Some (map (row_over known.rules) rs)
run-over known start is rs a e =
    rows-over known.rules is (begins start (record { cfa = known.cfa; rules = [] })) a (record { known = tt; saved = tt })
    ∙ ap (option_map (map (row_over known.rules))) e

pub run-kept : (p : Program) (read made : CieProgram) (rs : List PlacedRow) → read ≡ rc_value p.initial → made ≡ rc_value p.initial
    → Ascend 0 read.known.rules
    → rows [] p.instructions.items (begins p.start (record { cfa = (known_of read.known).cfa; rules = [] })) ≡ Some rs
    → rows_of p ≡ Some (map (row_over made.known.rules) rs)
run-kept p read made rs e f a h =
    ap (λ (x : CieProgram). rows (known_of x.known).rules p.instructions.items (begins p.start (known_of x.known))) (sym e)
    ∙ run-over (known_of read.known) p.start p.instructions.items rs a h
    ∙ ap (λ (x : CieProgram). Some (map (row_over x.known.rules) rs)) (e ∙ sym f)

-- The row at an address

pub row-at : (initial : Rules) (changes : List Change) (kept : List KeptRow) (now : List PlacedRow) (a n : ℕ)
    → map (row_over initial) (map (told_row changes) kept) ≡ now → n ≤ length kept
    → ((k : ℕ) (d : KeptRow) → k < n → (slice_index_or kept k d).start ≤ a)
    → ((k : ℕ) (d : KeptRow) → n ≤ k → k < length kept → a < (slice_index_or kept k d).start)
    → row_at a now None ≡ lists.last_of n now None
row-at initial changes kept now a n e l h g =
    let f = map-map (row_over initial) (told_row changes) kept in
    subst (λ (rs : List PlacedRow). row_at a rs None ≡ lists.last_of n rs None) (sym f ∙ e)
    (lists.row-counted (λ r. row_over initial (told_row changes r)) a kept n None l h g)

pub none-before : (a n : ℕ) (now : List PlacedRow) → n ≡ 0 → row_at a now None ≡ lists.last_of n now None → row_at a now None ≡ None
none-before a n now e h = h ∙ ap (λ m. lists.last_of m now None) e

pub last-before : (a n : ℕ) (now : List PlacedRow) → 0 < n → row_at a now None ≡ lists.last_of n now None
    → row_at a now None ≡ option_map (λ r. r.row) (slice_get now (n - 1))
last-before a n now l h = let e : n ≡ suc (n - 1) = omega arith in h ∙ ap (λ m. lists.last_of m now None) e

pub row-of : (initial : Rules) (changes : List Change) (kept : List KeptRow) (now : List PlacedRow) (i : ℕ) (k : KeptRow) (row : RowValue)
    → map (row_over initial) (map (told_row changes) kept) ≡ now → i < length now → k ≡ get_or kept i k
    → row ≡ record { cfa = rc_value k.cfa; rules = over initial (rules_after changes k.changes) }
    → option_map (λ r. r.row) (slice_get now i) ≡ Some row
row-of initial changes kept now i k row e l g h =
    ap (λ (rs : List PlacedRow). option_map (λ r. r.row) (slice_get rs i)) (sym e ∙ map-map (row_over initial) (told_row changes) kept)
    ∙ ap (option_map (λ r. r.row)) (slice_get-map (λ r. row_over initial (told_row changes r)) kept i
    ∙ ap (option_map (λ r. row_over initial (told_row changes r))) (slice_get-get_or kept i k within
    ∙ ap (λ (x : KeptRow). Some x) (sym g)))
    ∙ ap (λ (x : RowValue). Some x) (sym h) where
      within : i < length kept
      within =
          let m = ap length e in
          let n = length-map (map (told_row changes) kept) (row_over initial) in
          let o = length-map kept (told_row changes) in
          omega (arith, l, m, n, o)
