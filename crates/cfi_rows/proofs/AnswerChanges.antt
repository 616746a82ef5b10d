-- The answers of a frame table change at the start of a row, or at the end of a range.
use Rattle.std.proofs.Common.{◌≡◌, ℕ, zero, ◌<◌, ◌≤◌, ◌⊎◌, ◌∙◌, inl, inr, List, [], ◌∷◌, refl, sym, ap, subst}
use Rattle.std.proofs.Common.{arith, Option, Some, None, Bool, true, false, cond}
use Rattle.std.specs.Prelude.{Contains, nat_le}
use Rattle.std.specs.List.{find}
use Rattle.std.proofs.lemmas.Bool.{cases_lt}
use Rattle.std.proofs.lemmas.Grind.{common_steps}
use Rattle.rb_bytes.proofs.Members.{Contains-there}
use Rattle.rb_bytes.proofs.Searches.{find-found}
use Rattle.cfi_rows.specs.declared.instruction.Instruction.{Instruction}
use Rattle.cfi_rows.specs.FrameRows.{PlacedRow, RowValue, Rules, State, row_at, rows, row_of, prepended, and_rows, then_rows, step}
use Rattle.cfi_rows.specs.FrameRows.{ends_row}
use Rattle.cfi_rows.specs.Entries.{Fde, is_in_range, is_strictly_in}
use Rattle.cfi_rows.proofs.RowLists.{stays}

-- between an address and a later one
abbrev pub Between : ℕ → ℕ → ℕ → Type 0
Between z a c = (z < c) × (c ≤ a)

low : (n a : ℕ) → n ≤ a → nat_le n a ≡ true
low n a le = grind (arith, common_steps)

high : (n a : ℕ) → a < n → nat_le n a ≡ false
high n a lt = grind (arith, common_steps)

-- Rows.

pub row_change : (z a : ℕ) → z < a → (rs : List PlacedRow) → (found : Option RowValue) →
    (row_at z rs found ≡ row_at a rs found) ⊎ ((r : PlacedRow) × (Contains rs r) × Between z a r.start)
row_change z a less [] found = inl refl
row_change z a less (r ∷ rs) found =
    by (λ o. row_change z a less rs o) (cases_lt z r.start) (cases_lt a r.start)
  where
    more : (o : Option RowValue) → row_at z (r ∷ rs) found ≡ row_at z rs o → row_at a (r ∷ rs) found ≡ row_at a rs o →
        (row_at z rs o ≡ row_at a rs o) ⊎ ((q : PlacedRow) × (Contains rs q) × Between z a q.start) →
        (row_at z (r ∷ rs) found ≡ row_at a (r ∷ rs) found) ⊎ ((q : PlacedRow) × (Contains (r ∷ rs) q) × Between z a q.start)
    more o e f (inl same) = inl (e ∙ (same ∙ sym f))
    more o e f (inr (q, c, b)) = inr (q, Contains-there r rs q c, b)

    by : ((o : Option RowValue) →
        (row_at z rs o ≡ row_at a rs o) ⊎ ((q : PlacedRow) × (Contains rs q) × Between z a q.start)) →
        (z < r.start) ⊎ (r.start ≤ z) → (a < r.start) ⊎ (r.start ≤ a) →
        (row_at z (r ∷ rs) found ≡ row_at a (r ∷ rs) found) ⊎ ((q : PlacedRow) × (Contains (r ∷ rs) q) × Between z a q.start)
    by ih (inl x) (inl y) = more found (rw (high r.start z x) refl) (rw (high r.start a y) refl) (ih found)
    by ih (inl x) (inr y) = inr (r, (zero, omega arith, refl), (x, y))
    by ih (inr x) (inl y) = absurd (omega (arith, less, x, y))
    by ih (inr x) (inr y) = more (Some r.row) (rw (low r.start z x) refl) (rw (low r.start a y) refl) (ih (Some r.row))

-- the first row begins at the start of the rows
pub record FirstRow (rs : List PlacedRow) (a : ℕ) : Type 0 where
  pub r : PlacedRow
  pub among : Contains rs r
  pub start : r.start ≡ a

first_prepended : (a : ℕ) (row : Option RowValue) (more : Option (List PlacedRow)) (rs : List PlacedRow) →
    prepended a row more ≡ Some rs → FirstRow rs a
first_prepended a None more rs is = absurd (cc)
first_prepended a (Some row) None rs is = absurd (cc)
first_prepended a (Some row) (Some rest) rs is =
    let e : record { start = a; row = row } ∷ rest ≡ rs = cc in
    subst (λ (l : List PlacedRow). FirstRow l a) e
    (record { r = record { start = a; row = row }; among = (zero, omega arith, refl); start = refl })

pub first_row : (initial : Rules) (is : List Instruction) (s : State) (rs : List PlacedRow) → rows initial is s ≡ Some rs →
    FirstRow rs s.location
first_row initial [] s rs is = first_prepended s.location (row_of s.known) (Some []) rs is
first_row initial (i ∷ is) s rs made = by (λ t. first_row initial is t rs) (ends_row i) refl made where
  on : ((t : State) → rows initial is t ≡ Some rs → FirstRow rs t.location) → ends_row i ≡ false → (o : Option State) →
      step initial i s ≡ o → then_rows o (rows initial is) ≡ Some rs → FirstRow rs s.location
  on ih e None f g = absurd (cc)
  on ih e (Some t) f g = subst (λ (a : ℕ). FirstRow rs a) (stays initial i s t f e) (ih t g)

  by : ((t : State) → rows initial is t ≡ Some rs → FirstRow rs t.location) → (b : Bool) → ends_row i ≡ b →
      and_rows b s (then_rows (step initial i s) (rows initial is)) ≡ Some rs → FirstRow rs s.location
  by ih true e f = first_prepended s.location (row_of s.known) (then_rows (step initial i s) (rows initial is)) rs f
  by ih false e f = on ih e (step initial i s) refl f

-- Ranges.

bounds : (f : Fde) (a : ℕ) → is_in_range f a ≡ true → (f.start ≤ a) × (a < f.end)
bounds f a e = grind (arith, common_steps)

inside : (f : Fde) (a : ℕ) → f.start ≤ a → a < f.end → is_in_range f a ≡ true
inside f a x y = grind (arith, common_steps)

below : (f : Fde) (a : ℕ) → a < f.start → is_in_range f a ≡ false
below f a x = grind (arith, common_steps)

above : (f : Fde) (a : ℕ) → f.end ≤ a → is_in_range f a ≡ false
above f a x = grind (arith, common_steps)

strictly : (f : Fde) (a : ℕ) → f.start < a → a < f.end → is_strictly_in f a ≡ true
strictly f a x y = grind (arith, common_steps)

pub data Change (list : List Fde) (z a : ℕ) (f : Fde) : Type 0 where
  Same : find (λ g. is_in_range g z) list ≡ Some f → Change list z a f
  Starts : Between z a f.start → Change list z a f
  Ends : (g : Fde) → Contains list g → is_strictly_in f g.end ≡ true → Between z a g.end → Change list z a f

-- An entry answers at an address. At an earlier one it does so too, or it begins between them, or another one ends there.
pub entry_change : (z a : ℕ) → z < a → (list : List Fde) (f : Fde) → find (λ g. is_in_range g a) list ≡ Some f → Change list z a f
entry_change z a less [] f found = absurd (cc)
entry_change z a less (g ∷ gs) f found =
    by (λ e. entry_change z a less gs f e) (is_in_range g a) refl found
  where
    own : (g ≡ f) → is_in_range g a ≡ true → (z < g.start) ⊎ (g.start ≤ z) → Change (g ∷ gs) z a f
    own e h (inl x) = Starts (subst (λ (u : Fde). Between z a u.start) e (x, (bounds g a h).0))
    own e h (inr x) = Same (rw (inside g z x (let y = (bounds g a h).1 in omega (arith, y, less))) (ap (λ (u : Fde). Some u) e))

    -- it isn't the one, and comes before a or after it
    later : Change gs z a f → is_in_range g z ≡ false → Change (g ∷ gs) z a f
    later (Same e) h = Same (rw h e)
    later (Starts b) h = Starts b
    later (Ends k c s b) h = Ends k (Contains-there g gs k c) s b

    ended : g.start ≤ z → z < g.end → g.end ≤ a → is_in_range f a ≡ true → (z < f.start) ⊎ (f.start ≤ z) → Change (g ∷ gs) z a f
    ended x y u h (inl v) = Starts (v, (bounds f a h).0)
    ended x y u h (inr v) =
        Ends g (zero, omega arith, refl)
        (strictly f g.end (omega (arith, v, y)) (let w = (bounds f a h).1 in omega (arith, u, w))) (y, u)

    other : (find (λ g. is_in_range g a) gs ≡ Some f) → Change gs z a f → is_in_range g a ≡ false → (z < g.start) ⊎ (g.start ≤ z) →
        (z < g.end) ⊎ (g.end ≤ z) → (a < g.end) ⊎ (g.end ≤ a) → Change (g ∷ gs) z a f
    other found ih h (inl x) y u = later ih (below g z x)
    other found ih h (inr x) (inr y) u = later ih (above g z y)
    other found ih h (inr x) (inl y) (inl u) = absurd (let t = inside g a (omega (arith, x, less)) u in cc (t, h))
    other found ih h (inr x) (inl y) (inr u) =
        ended x y u (find-found (λ g. is_in_range g a) gs f found).0 (cases_lt z f.start)

    by : (find (λ g. is_in_range g a) gs ≡ Some f → Change gs z a f) → (b : Bool) → is_in_range g a ≡ b →
        cond b (Some g) (find (λ g. is_in_range g a) gs) ≡ Some f → Change (g ∷ gs) z a f
    by ih true e found = own (let s : g ≡ f = cc in s) e (cases_lt z g.start)
    by ih false e found = other found (ih found) e (cases_lt z g.start) (cases_lt z g.end) (cases_lt a g.end)
