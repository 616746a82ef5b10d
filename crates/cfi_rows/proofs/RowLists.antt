-- The starts of a program's rows, and the last row that begins at or before an address.
use Rattle.std.proofs.Common.{◌≡◌, ◌∙◌, ◌+◌, ◌<◌, ◌≤◌, ℕ, zero, suc, Bool, true, false, cond, List, [], ◌∷◌, map, Option, Some, None}
use Rattle.std.proofs.Common.{option_map, refl, sym, ap, subst, arith, drop, length}
use Rattle.std.proofs.lemmas.Bool.Decides.{nat_tests}
use Rattle.std.proofs.lemmas.List.{drop_all}
use Rattle.std.specs.Prelude.{nat_le, nat_lt, ◌^◌, slice_get, slice_index_or}
use Rattle.std.specs.List.Sorted.{IsNonDecreasingBy}
use Rattle.cfi_rows.specs.declared.row.Cfa.{Cfa}
use Rattle.cfi_rows.specs.declared.instruction.Instruction.{Instruction}
use Rattle.cfi_rows.specs.declared.instruction.Instruction.TheVariants.{Advance, SetLoc, DefCfa, DefCfaRegister, DefCfaOffset, SetRule}
use Rattle.cfi_rows.specs.declared.instruction.Instruction.TheVariants.{Restore, RememberState, RestoreState, Nop}
use Rattle.cfi_rows.specs.FrameRows.{Rules, Known, State, moved_to, with_cfa, with_register, with_offset, take_back, step, row_of}
use Rattle.cfi_rows.specs.FrameRows.{RowValue, PlacedRow, ends_row, prepended, and_rows, then_rows, rows, row_at}

pub rows-end : (xs : List Instruction) (k : ℕ) (s : State) → length xs ≤ k
    → rows [] (drop k xs) s ≡ prepended s.location (row_of s.known) (Some [])
rows-end xs k s h = ap (λ is. rows [] is s) (drop_all k xs h)

-- The starts of rows

abbrev place_of : Option State → ℕ
place_of None = 0
place_of (Some s) = s.location

cfa-stays : (s t : State) (o : Option Cfa) → option_map (with_cfa s) o ≡ Some t → t.location ≡ s.location
cfa-stays s t None e = absurd (cc)
cfa-stays s t (Some c) e = sym (ap place_of e)

back-stays : (s t : State) (ks : List Known) → take_back s ks ≡ Some t → t.location ≡ s.location
back-stays s t [] e = absurd (cc)
back-stays s t (k ∷ ks) e = sym (ap place_of e)

-- an instruction that ends no row doesn't move the location
pub stays : (initial : Rules) (i : Instruction) (s t : State) → step initial i s ≡ Some t → ends_row i ≡ false →
    t.location ≡ s.location
stays initial (Advance n) s t e f = absurd (cc)
stays initial (SetLoc a) s t e f = absurd (cc)
stays initial (DefCfa c) s t e f = sym (ap place_of e)
stays initial (DefCfaRegister r) s t e f = cfa-stays s t (with_register r s.known.cfa) e
stays initial (DefCfaOffset n) s t e f = cfa-stays s t (with_offset n s.known.cfa) e
stays initial (SetRule r v) s t e f = sym (ap place_of e)
stays initial (Restore r) s t e f = sym (ap place_of e)
stays initial RememberState s t e f = sym (ap place_of e)
stays initial RestoreState s t e f = back-stays s t s.saved e
stays initial Nop s t e f = sym (ap place_of e)

abbrev known_of : Option State → Known → Known
known_of None k = k
known_of (Some s) k = s.known

record Moved (s t : State) : Type 0 where
  known : t.known ≡ s.known
  onward : s.location ≤ t.location

moved : (a : ℕ) (b : Bool) (s t : State) → s.location ≤ a →
    cond b (Some (record { location = a; known = s.known; saved = s.saved })) None ≡ Some t → Moved s t
moved a true s t l e = let p : a ≡ t.location = ap place_of e in
    record { known = sym (ap (λ o. known_of o s.known) e); onward = omega arith }
moved a false s t l e = absurd (cc)

moved-to : (a : ℕ) (b : Bool) (s t : State) → nat_le s.location a ≡ b → cond b (moved_to a s) None ≡ Some t → Moved s t
moved-to a true s t l e = moved a (nat_lt a (2 ^ 64)) s t (grind (arith, nat_tests)) e
moved-to a false s t l e = absurd (cc)

-- one that does only moves it on
moves : (initial : Rules) (i : Instruction) (s t : State) → step initial i s ≡ Some t → ends_row i ≡ true → Moved s t
moves initial (Advance n) s t e f = moved (s.location + n) (nat_lt (s.location + n) (2 ^ 64)) s t (omega arith) e
moves initial (SetLoc a) s t e f = moved-to a (nat_le s.location a) s t refl e
moves initial (DefCfa c) s t e f = absurd (cc)
moves initial (DefCfaRegister r) s t e f = absurd (cc)
moves initial (DefCfaOffset n) s t e f = absurd (cc)
moves initial (SetRule r v) s t e f = absurd (cc)
moves initial (Restore r) s t e f = absurd (cc)
moves initial RememberState s t e f = absurd (cc)
moves initial RestoreState s t e f = absurd (cc)
moves initial Nop s t e f = absurd (cc)

-- rows that begin at a location, in ascending order
abbrev Rising : ℕ → List PlacedRow → Type 0
Rising lo [] = Unit {0}
Rising lo (r ∷ rs) = (lo ≤ r.start) × Rising r.start rs

abbrev IfRising : ℕ → Option (List PlacedRow) → Type 0
IfRising lo None = Unit {0}
IfRising lo (Some rs) = Rising lo rs

lower : (lo n : ℕ) (rs : List PlacedRow) → lo ≤ n → Rising n rs → Rising lo rs
lower lo n [] l h = tt
lower lo n (r ∷ rs) l h = let m = h.0 in (omega arith, h.1)

if-lower : (lo n : ℕ) (o : Option (List PlacedRow)) → lo ≤ n → IfRising n o → IfRising lo o
if-lower lo n None l h = tt
if-lower lo n (Some rs) l h = lower lo n rs l h

prepended-rising : (a : ℕ) (o : Option RowValue) (more : Option (List PlacedRow)) → IfRising a more → IfRising a (prepended a o more)
prepended-rising a None more h = tt
prepended-rising a (Some r) None h = tt
prepended-rising a (Some r) (Some rs) h = (omega arith, h)

rising-by : (is : List Instruction) (i : Instruction) (s : State) (b : Bool) (r : Option State) → ends_row i ≡ b → step [] i s ≡ r
    → ((t : State) → IfRising t.location (rows [] is t)) → IfRising s.location (and_rows b s (then_rows r (rows [] is)))
rising-by is i s true None e f h = prepended-rising s.location (row_of s.known) None tt
rising-by is i s false None e f h = tt
rising-by is i s true (Some t) e f h =
    prepended-rising s.location (row_of s.known) (rows [] is t)
    (if-lower s.location t.location (rows [] is t) (moves [] i s t f e).onward (h t))
rising-by is i s false (Some t) e f h = subst (λ n. IfRising n (rows [] is t)) (stays [] i s t f e) (h t)

rising : (is : List Instruction) (s : State) → IfRising s.location (rows [] is s)
rising [] s = prepended-rising s.location (row_of s.known) (Some []) tt
rising (i ∷ is) s = rising-by is i s (ends_row i) (step [] i s) refl refl (rising is)

from-rising : {X : Type 0} (f : X → PlacedRow) (xs : List X) (lo : ℕ) → Rising lo (map f xs) → (j : ℕ) (d : X) → j < length xs
    → lo ≤ (f (slice_index_or xs j d)).start
from-rising f [] lo h j d l = absurd (omega arith)
from-rising f (x ∷ xs) lo h zero d l = h.0
from-rising f (x ∷ xs) lo h (suc j) d l =
    let m = h.0 in
    let n : (f x).start ≤ (f (slice_index_or xs j d)).start = from-rising f xs (f x).start h.1 j d (omega arith) in omega arith

pair-by : {X : Type 0} (f : X → PlacedRow) (x : X) (xs : List X) → Rising (f x).start (map f xs)
    → IsNonDecreasingBy (λ y. (f y).start) xs → (i j : ℕ) (d : X) → i ≤ j → j < length (x ∷ xs)
    → (f (slice_index_or (x ∷ xs) i d)).start ≤ (f (slice_index_or (x ∷ xs) j d)).start
pair-by f x xs h more zero zero d l m = omega arith
pair-by f x xs h more zero (suc j) d l m = from-rising f xs (f x).start h j d (omega arith)
pair-by f x xs h more (suc i) zero d l m = absurd (omega arith)
pair-by f x xs h more (suc i) (suc j) d l m = more i j d (omega arith) (omega arith)

pair-rising : {X : Type 0} (f : X → PlacedRow) (xs : List X) (lo : ℕ) → Rising lo (map f xs) → IsNonDecreasingBy (λ x. (f x).start) xs
pair-rising f [] lo h = λ i j d l m. absurd (omega arith)
pair-rising f (x ∷ xs) lo h = λ i j d. pair-by f x xs h.1 (pair-rising f xs (f x).start h.1) i j d

-- the starts of all rows of a program don't fall
pub starts-rise : {X : Type 0} (f : X → PlacedRow) (xs : List X) (is : List Instruction) (s : State) → rows [] is s ≡ Some (map f xs)
    → IsNonDecreasingBy (λ x. (f x).start) xs
starts-rise f xs is s e = pair-rising f xs s.location (subst (IfRising s.location) e (rising is s))

-- The last of n rows, or the one found before.

abbrev pub last_of : ℕ → List PlacedRow → Option RowValue → Option RowValue
last_of zero rs found = found
last_of (suc m) rs found = option_map (λ r. r.row) (slice_get rs m)

last-next : (r : PlacedRow) (rs : List PlacedRow) (m : ℕ) (found : Option RowValue)
    → last_of m rs (Some r.row) ≡ last_of (suc m) (r ∷ rs) found
last-next r rs zero found = refl
last-next r rs (suc m) found = refl

row-step : (a : ℕ) (r : PlacedRow) (rs : List PlacedRow) (found : Option RowValue) (b : Bool) → nat_le r.start a ≡ b
    → row_at a (r ∷ rs) found ≡ row_at a rs (cond b (Some r.row) found)
row-step a r rs found b e = ap (λ (t : Bool). row_at a rs (cond t (Some r.row) found)) e

-- if the first n rows begin at or before an address, and the others after it
pub row-counted : {X : Type 0} (f : X → PlacedRow) (a : ℕ) (xs : List X) (n : ℕ) (found : Option RowValue) → n ≤ length xs
    → ((k : ℕ) (d : X) → k < n → (f (slice_index_or xs k d)).start ≤ a)
    → ((k : ℕ) (d : X) → n ≤ k → k < length xs → a < (f (slice_index_or xs k d)).start)
    → row_at a (map f xs) found ≡ last_of n (map f xs) found
row-counted f a [] zero found l h g = refl
row-counted f a [] (suc n) found l h g = absurd (omega arith)
row-counted f a (x ∷ xs) zero found l h g =
    let m : a < (f x).start = g 0 x (omega arith) (omega arith) in
    let e : nat_le (f x).start a ≡ false = grind (arith, nat_tests) in
    row-step a (f x) (map f xs) found false e
    ∙ row-counted f a xs 0 found (omega arith) (λ k d p. absurd (omega arith)) (λ k d p q. g (suc k) d (omega arith) (omega arith))
row-counted f a (x ∷ xs) (suc n) found l h g =
    let m : (f x).start ≤ a = h 0 x (omega arith) in
    let e : nat_le (f x).start a ≡ true = grind (arith, nat_tests) in
    row-step a (f x) (map f xs) found true e
    ∙ row-counted f a xs n (Some (f x).row) (omega arith) (λ k d p. h (suc k) d (omega arith))
    (λ k d p q. g (suc k) d (omega arith) (omega arith))
    ∙ last-next (f x) (map f xs) n found
