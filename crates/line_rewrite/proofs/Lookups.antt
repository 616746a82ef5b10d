-- The kept state from which rows in force are found.
use Rattle.std.proofs.Common.{◌≡◌, ◌<◌, ◌≤◌, ◌-◌, ◌+◌, ⊎_elim, ℕ, List, [], ◌∷◌, zero, suc, refl, arith, sym, ◌∙◌, ap, subst}
use Rattle.std.proofs.Common.{length, drop, take, get_or, length-drop, nat_le, nat_lt, Bool, true, false, cond}
use Rattle.std.proofs.lemmas.Bool.Decides.{nat_tests}
use Rattle.std.proofs.lemmas.List.{drop-drop}
use Rattle.std.specs.List.Sorted.{IsNonDecreasingBy}
use Rattle.std.proofs.lemmas.Bool.{cases_lt}
use Rattle.std.proofs.lemmas.Grind.{common_steps}
use Rattle.line_rewrite.specs.declared.coding.Coding.{Coding}
use Rattle.line_rewrite.specs.declared.registers.Registers.{Registers}
use Rattle.line_rewrite.specs.declared.kept.Kept.{Kept}
use Rattle.line_rewrite.specs.LineMachine.{reached, greatest_address}
use Rattle.line_rewrite.specs.Walks.{Ascends}
use Rattle.line_rewrite.specs.LineAnswers.{first_address}
use Rattle.line_rewrite.specs.Keeping.{IsBefore, AreKept, row_at, rows_at_place}
use Rattle.line_rewrite.proofs.InForce.{AllBelow, all_below}

-- The row of a state, and the rows after it.
pub record Before (coding : Coding) (lengths bytes : List ℕ) (rows : List Registers) (i : ℕ) (k : Kept) : Type 0 where
  pub within : k.place ≤ length bytes
  pub first : Registers
  pub others : List Registers
  pub follow : rows_at_place coding lengths bytes k.registers k.place ≡ first ∷ others
  pub are : drop i rows ≡ first ∷ others
  pub address : first.address ≡ k.address
  pub above : AllBelow k.address (take i rows)

before : (coding : Coding) (lengths bytes : List ℕ) (rows : List Registers) (i : ℕ) (k : Kept) → IsBefore coding lengths bytes rows i k
    → Before coding lengths bytes rows i k
before coding lengths bytes rows i k b = split (drop i rows) refl
  where
    split : (left : List Registers) → drop i rows ≡ left → Before coding lengths bytes rows i k
    split [] e = let n : length (drop i rows) ≡ length rows - i = length-drop i rows in let z : length (drop i rows) ≡ 0 =
        ap length e in let s : i < length rows = b.some in absurd (omega arith)
    split (r ∷ others) e = record {
      within = b.within;
      first = r;
      others = others;
      follow = b.follow ∙ e;
      are = e;
      address = sym (ap (λ (l : List Registers). first_address l 0) e) ∙ b.address;
      above = all_below k.address (take i rows) b.above;
    }

pub kept_get : (coding : Coding) (lengths bytes : List ℕ) (rows : List Registers) (kept : List Kept) (j : ℕ) (d : Kept)
    → AreKept coding lengths bytes rows kept → j < length kept
    → Before coding lengths bytes rows (get_or kept j d).index (get_or kept j d)
kept_get coding lengths bytes rows kept j d a h = before coding lengths bytes rows (get_or kept j d).index (get_or kept j d) (a.each j d h)

pub drop_none : (n : ℕ) → drop {A = Registers} n [] ≡ []
drop_none zero = refl
drop_none (suc n) = refl

-- A row is at or past the address from which rows ascend.
pub from_below : (n from : ℕ) (rows : List Registers) (r : Registers) (others : List Registers) → Ascends from rows
    → drop n rows ≡ r ∷ others → from ≤ r.address
from_below n from [] r others up e = absurd (cc (drop_none n))
from_below zero from (x ∷ rows) r others up e = let f : x ≡ r = cc in subst (λ (q : Registers). from ≤ q.address) f up.0
from_below (suc n) from (x ∷ rows) r others up e = let h : x.address ≤ r.address =
    from_below n x.address rows r others up.1 e in let i : from ≤ x.address = up.0 in omega arith

kept_reach : (t : Bool) (x r : Registers) (rows : List Registers) → r.address ≤ greatest_address rows
    → r.address ≤ greatest_address (cond t (x ∷ rows) rows)
kept_reach true x r rows h = grind (arith, nat_tests)
kept_reach false x r rows h = h

-- A row that is reached.
pub row_reached : (n a : ℕ) (rows : List Registers) (r : Registers) (others : List Registers) → drop n rows ≡ r ∷ others → r.address ≤ a
    → r.address ≤ greatest_address (reached a rows)
row_reached n a [] r others e h = absurd (cc (drop_none n))
row_reached zero a (x ∷ rows) r others e h =
    let f : x ≡ r = cc in
    let g : x.address ≤ a = subst (λ (q : Registers). q.address ≤ a) (sym f) h in
    let t : nat_le x.address a ≡ true = grind (arith, nat_tests) in
    subst (λ (q : Registers). q.address ≤ greatest_address (reached a (x ∷ rows))) f (rw t (grind (arith, nat_tests)))
row_reached (suc n) a (x ∷ rows) r others e h = kept_reach (nat_le x.address a) x r (reached a rows) (row_reached n a rows r others e h)

-- The indexes of the rows of states; after the last state, the number of rows

row_get : (kept : List Kept) (count j : ℕ) (d : Kept) → j < length kept → row_at kept count j ≡ (get_or kept j d).index
row_get [] count j d h = absurd (omega arith)
row_get (k ∷ kept) count zero d h = refl
row_get (k ∷ kept) count (suc j) d h = row_get kept count j d (omega arith)

row_out : (kept : List Kept) (count j : ℕ) → length kept ≤ j → row_at kept count j ≡ count
row_out [] count j h = refl
row_out (k ∷ kept) count zero h = absurd (omega arith)
row_out (k ∷ kept) count (suc j) h = row_out kept count j (omega arith)

pub row_some : (kept : List Kept) (count j : ℕ) (k : Kept) → true ≡ nat_lt j (length kept) → k ≡ get_or kept j k
    → k.index ≡ row_at kept count j
row_some kept count j k t e =
    let h : j < length kept = grind (arith, nat_tests) in
    ap (λ (x : Kept). x.index) e ∙ sym (row_get kept count j k h)

pub row_none : (kept : List Kept) (count j : ℕ) → length kept ≤ j → count ≡ row_at kept count j
row_none kept count j h = sym (row_out kept count j h)

module _ (coding : Coding) (lengths bytes : List ℕ) (rows : List Registers) (kept : List Kept) (count : ℕ) where
  pub row_rises : (i j : ℕ) (d : Kept) → AreKept coding lengths bytes rows kept → count ≡ length rows → i ≤ j → i < length kept
      → (get_or kept i d).index ≤ row_at kept count j
  row_rises i j d are counted h k = ⊎_elim
      (λ (in_kept : j < length kept). subst (λ (n : ℕ). (get_or kept i d).index ≤ n) (sym (row_get kept count j d in_kept))
      (are.rise i j d h in_kept))
      (λ (out : length kept ≤ j).
      let some : (get_or kept i d).index < length rows = (are.each i d k).some in
      subst (λ (n : ℕ). (get_or kept i d).index ≤ n) (sym (row_out kept count j out)) (omega arith))
      (cases_lt j (length kept))

  pub next_past : (j b : ℕ) (d : Kept) → AreKept coding lengths bytes rows kept → count ≡ length rows
      → ((k : Kept) → j < length kept → b < (get_or kept j k).address) → b < first_address (drop (row_at kept count j) rows) (b + 1)
  next_past j b d are counted past = ⊎_elim
      (λ (in_kept : j < length kept).
      let s : Before coding lengths bytes rows (get_or kept j d).index (get_or kept j d) =
      kept_get coding lengths bytes rows kept j d are in_kept in
      subst (λ (n : ℕ). b < first_address (drop n rows) (b + 1)) (sym (row_get kept count j d in_kept))
      (subst (λ (l : List Registers). b < first_address l (b + 1)) (sym s.are) (subst (λ (n : ℕ). b < n) (sym s.address) (past d in_kept))))
      (λ (out : length kept ≤ j).
      let none : drop (row_at kept count j) rows ≡ [] = drop_all (row_at kept count j) rows (omega (arith, row_out kept count j out)) in
      subst (λ (l : List Registers). b < first_address l (b + 1)) (sym none) (omega arith))
      (cases_lt j (length kept))
    where
      drop_all : (n : ℕ) (l : List Registers) → length l ≤ n → drop n l ≡ []
      drop_all n l h = grind (arith, common_steps)

ascends_past : (n from : ℕ) (rows : List Registers) → Ascends from rows → (to : ℕ) × Ascends to (drop n rows)
ascends_past zero from [] up = (from, tt)
ascends_past (suc n) from [] up = (from, tt)
ascends_past zero from (r ∷ rows) up = (from, up)
ascends_past (suc n) from (r ∷ rows) up = ascends_past n r.address rows up.1

-- The addresses of states don't fall.
pub kept_rise : (coding : Coding) (lengths bytes : List ℕ) (rows : List Registers) (kept : List Kept)
    → AreKept coding lengths bytes rows kept → Ascends 0 rows → IsNonDecreasingBy (λ (k : Kept). k.address) kept
kept_rise coding lengths bytes rows kept are up i j d le within =
    let n : ℕ = (get_or kept i d).index in
    let m : ℕ = (get_or kept j d).index in
    let rise : n ≤ m = are.rise i j d le within in
    let s : Before coding lengths bytes rows n (get_or kept i d) = kept_get coding lengths bytes rows kept i d are (omega arith) in
    let t : Before coding lengths bytes rows m (get_or kept j d) = kept_get coding lengths bytes rows kept j d are within in
    let sum : n + (m - n) ≡ m = omega arith in
    let there : drop (m - n) (s.first ∷ s.others) ≡ t.first ∷ t.others =
    ap (drop (m - n)) (sym s.are) ∙ drop-drop (m - n) n rows ∙ ap (λ (k : ℕ). drop k rows) sum ∙ t.are in
    let past : (to : ℕ) × Ascends to (drop n rows) = ascends_past n 0 rows up in
    let from : Ascends past.0 (s.first ∷ s.others) = subst (Ascends past.0) s.are past.1 in
    let own : Ascends s.first.address (s.first ∷ s.others) = (omega arith, from.1) in
    let low : s.first.address ≤ t.first.address =
    from_below (m - n) s.first.address (s.first ∷ s.others) t.first t.others own there in
    omega (arith, low, s.address, t.address)

-- A default, for an index past the end of a list.
abbrev pub no_state : Kept
no_state = record {
  place = 0;
  index = 0;
  address = 0;
  registers = record {
    address = 0;
    file = 0;
    line = 0;
    column = 0;
    is_stmt = false;
    basic_block = false;
    prologue_end = false;
    epilogue_begin = false;
    isa = 0;
    discriminator = 0;
  };
}
