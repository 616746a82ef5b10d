-- The rows in force, for rows that ascend.
use Rattle.std.proofs.Common.{◌≡◌, ◌<◌, ◌≤◌, ◌==◌, ◌++◌, ℕ, List, [], ◌∷◌, refl, arith, sym, ◌∙◌, ap, append_assoc, Bool, true, false, cond}
use Rattle.std.proofs.Common.{nat_le, max, subst, ◌⊎◌, inl, inr}
use Rattle.std.specs.Prelude.{All, filter}
use Rattle.std.proofs.lemmas.Grind.{common_steps}
use Rattle.std.proofs.lemmas.Bool.Decides.{nat_tests}
use Rattle.std.proofs.lemmas.List.Elements.{All-cons, All-head, All-nil, All-tail, filter-append}
use Rattle.line_rewrite.specs.declared.registers.Registers.{Registers}
use Rattle.line_rewrite.specs.LineMachine.{in_force, reached, greatest_address}
use Rattle.line_rewrite.specs.Walks.{latest, Ascends}

-- Every address is below `m`.
abbrev pub AllBelow : ℕ → List Registers → Type 0
AllBelow m [] = Unit {0}
AllBelow m (r ∷ rows) = (r.address < m) × AllBelow m rows

pub below_all : (m : ℕ) (rows : List Registers) → AllBelow m rows → All (λ (r : Registers). r.address < m) rows
below_all m [] b = All-nil (λ (r : Registers). r.address < m)
below_all m (r ∷ rows) b = All-cons (λ (r : Registers). r.address < m) r rows b.0 (below_all m rows b.1)

pub all_below : (m : ℕ) (rows : List Registers) → All (λ (r : Registers). r.address < m) rows → AllBelow m rows
all_below m [] b = tt
all_below m (r ∷ rows) b =
    (All-head (λ (r : Registers). r.address < m) r rows b, all_below m rows (All-tail (λ (r : Registers). r.address < m) r rows b))

abbrev pub AllAt : ℕ → List Registers → Type 0
AllAt m [] = Unit {0}
AllAt m (r ∷ rows) = (r.address ≡ m) × AllAt m rows

abbrev pub at_address : ℕ → List Registers → List Registers
at_address m rows = filter (λ r. r.address == m) rows

greatest_append : (xs ys : List Registers) → greatest_address (xs ++ ys) ≡ max (greatest_address xs) (greatest_address ys)
greatest_append [] ys = grind (arith, nat_tests)
greatest_append (x ∷ xs) ys = let h : greatest_address (xs ++ ys) ≡ max (greatest_address xs) (greatest_address ys) = greatest_append xs ys
    in grind (arith, nat_tests)

greatest_below : (m : ℕ) (xs : List Registers) → AllBelow m xs → greatest_address xs ≤ m
greatest_below m [] b = omega arith
greatest_below m (x ∷ xs) b = let h : greatest_address xs ≤ m = greatest_below m xs b.1 in let i : x.address < m = b.0 in
    grind (arith, nat_tests)

none_at : (m g : ℕ) (xs : List Registers) → AllBelow m xs → m ≤ g → at_address g xs ≡ []
none_at m g [] b h = refl
none_at m g (x ∷ xs) b h =
    let t : (x.address == g) ≡ false = let i : x.address < m = b.0 in grind (arith, nat_tests) in
    rw t (none_at m g xs b.1 h)

below_kept : (m : ℕ) (t : Bool) (x : Registers) (xs : List Registers) → x.address < m → AllBelow m xs → AllBelow m (cond t (x ∷ xs) xs)
below_kept m true x xs h b = (h, b)
below_kept m false x xs h b = b

reached_below : (m a : ℕ) (xs : List Registers) → AllBelow m xs → AllBelow m (reached a xs)
reached_below m a [] b = tt
reached_below m a (x ∷ xs) b = below_kept m (nat_le x.address a) x (reached a xs) b.0 (reached_below m a xs b.1)

-- Rows before all those in force don't matter.
pub front_drop : (m a : ℕ) (front rows : List Registers) → AllBelow m front → m ≤ greatest_address (reached a rows) →
    in_force a (front ++ rows) ≡ in_force a rows
unfolding in_force
front_drop m a front rows b h =
    let split : reached a (front ++ rows) ≡ reached a front ++ reached a rows = filter-append (λ r. nat_le r.address a) front rows in
    let below : AllBelow m (reached a front) = reached_below m a front b in
    let low : greatest_address (reached a front) ≤ m = greatest_below m (reached a front) below in
    let same : greatest_address (reached a front ++ reached a rows) ≡ greatest_address (reached a rows) =
    greatest_append (reached a front) (reached a rows) ∙ grind (arith, nat_tests) in
    ap (λ (l : List Registers). at_address (greatest_address l) l) split
    ∙ ap (λ (g : ℕ). at_address g (reached a front ++ reached a rows)) same
    ∙ filter-append (λ r. r.address == greatest_address (reached a rows)) (reached a front) (reached a rows)
    ∙ ap (λ (l : List Registers). l ++ at_address (greatest_address (reached a rows)) (reached a rows))
    (none_at m (greatest_address (reached a rows)) (reached a front) below h)

pub none_reached : (from a : ℕ) (rows : List Registers) → Ascends from rows → a < from → reached a rows ≡ []
none_reached from a [] w h = refl
none_reached from a (r ∷ rows) w h =
    let i : from ≤ r.address = w.0 in
    let t : nat_le r.address a ≡ false = grind (arith, nat_tests) in
    rw t (none_reached r.address a rows w.1 (omega arith))

all_reached : (m a : ℕ) (rows : List Registers) → AllAt m rows → m ≤ a → reached a rows ≡ rows
all_reached m a [] w h = refl
all_reached m a (r ∷ rows) w h =
    let i : r.address ≡ m = w.0 in
    let t : nat_le r.address a ≡ true = grind (arith, nat_tests) in
    rw t (ap (λ (l : List Registers). r ∷ l) (all_reached m a rows w.1 h))

greatest_at : (m : ℕ) (r : Registers) (rows : List Registers) → AllAt m (r ∷ rows) → greatest_address (r ∷ rows) ≡ m
greatest_at m r [] w = let i : r.address ≡ m = w.0 in grind (arith, nat_tests)
greatest_at m r (s ∷ rows) w = let i : r.address ≡ m = w.0 in let k : greatest_address (s ∷ rows) ≡ m = greatest_at m s rows w.1 in
    grind (arith, nat_tests)

all_at : (m : ℕ) (rows : List Registers) → AllAt m rows → at_address m rows ≡ rows
all_at m [] w = refl
all_at m (r ∷ rows) w =
    let i : r.address ≡ m = w.0 in
    let t : (r.address == m) ≡ true = grind (arith, nat_tests) in
    rw t (ap (λ (l : List Registers). r ∷ l) (all_at m rows w.1))

-- Rows at one address are in force together, even if rows that aren't reached follow them.
pub found_stay : (m a : ℕ) (f : Registers) (found rows : List Registers) → AllAt m (f ∷ found) → m ≤ a → reached a rows ≡ [] →
    in_force a ((f ∷ found) ++ rows) ≡ f ∷ found
unfolding in_force
found_stay m a f found rows w h none =
    let split : reached a ((f ∷ found) ++ rows) ≡ f ∷ found =
    filter-append (λ r. nat_le r.address a) (f ∷ found) rows ∙ ap (λ (l : List Registers). reached a (f ∷ found) ++ l) none
    ∙ grind (arith, common_steps) ∙ all_reached m a (f ∷ found) w h in
    ap (λ (l : List Registers). at_address (greatest_address l) l) split
    ∙ ap (λ (g : ℕ). at_address g (f ∷ found)) (greatest_at m f found w)
    ∙ all_at m (f ∷ found) w

pub at-below : (m n : ℕ) (rows : List Registers) → AllAt m rows → m < n → AllBelow n rows
at-below m n [] w h = tt
at-below m n (r ∷ rows) w h = let i : r.address ≡ m = w.0 in (omega arith, at-below m n rows w.1 h)

at-snoc : (m : ℕ) (rows : List Registers) (r : Registers) → AllAt m rows → r.address ≡ m → AllAt m (rows ++ r ∷ [])
at-snoc m [] r w h = (h, tt)
at-snoc m (x ∷ rows) r w h = (w.0, at-snoc m rows r w.1 h)

mutual_cases : (m x a : ℕ) → m ≤ x → ((a < x) × (nat_le x a ≡ false))
    ⊎ (((m ≡ x) × (x ≤ a) × (nat_le x a ≡ true) × ((m == x) ≡ true)) ⊎ ((m < x) × (x ≤ a) × (nat_le x a ≡ true) × ((m == x) ≡ false)))
mutual_cases m x a h = grind (arith, nat_tests)

latest_from : (m a : ℕ) (f : Registers) (found rows : List Registers) → AllAt m (f ∷ found) → m ≤ a → Ascends m rows →
    latest (f ∷ found) a rows ≡ in_force a ((f ∷ found) ++ rows)
unfolding latest
latest_from m a f found [] w h up = sym (found_stay m a f found [] w h refl)
latest_from m a f found (r ∷ rows) w h up =
    let first : f.address ≡ m = w.0 in
    elim (mutual_cases m r.address a up.0) [
      | inl past ↦ rw past.1 (sym (found_stay m a f found (r ∷ rows) w h (rw past.1 (none_reached r.address a rows up.1 past.0))))
      | inr on ↦ elim on [
        | inl same ↦
            let test : (f.address == r.address) ≡ true = grind (arith, nat_tests) in
            rw (same.2, test) (latest_from m a f (found ++ r ∷ []) rows (w.0, at-snoc m found r w.1 (sym same.0)) h
            (subst (λ (n : ℕ). Ascends n rows) (sym same.0) up.1)
            ∙ ap (in_force a) (ap (λ (l : List Registers). f ∷ l) (append_assoc found (r ∷ []) rows)))
        | inr more ↦
            let test : (f.address == r.address) ≡ false = grind (arith, nat_tests) in
            let reach : r.address ≤ greatest_address (reached a (r ∷ rows)) = rw more.2 (grind (arith, nat_tests)) in
            rw (more.2, test) (latest_from r.address a r [] rows (refl, tt) more.1 up.1
            ∙ sym (front_drop r.address a (f ∷ found) (r ∷ rows) (at-below m r.address (f ∷ found) w more.0) reach))
      ]
    ]

latest_first : (n a : ℕ) (r : Registers) (rows : List Registers) → r.address ≤ a → nat_le r.address a ≡ true → Ascends r.address rows →
    latest [] a (r ∷ rows) ≡ in_force a (r ∷ rows)
unfolding latest
latest_first n a r rows h t up = rw t (latest_from r.address a r [] rows (refl, tt) h up)

pub latest_is : (from a : ℕ) (rows : List Registers) → Ascends from rows → latest [] a rows ≡ in_force a rows
unfolding latest in_force
latest_is from a [] up = refl
latest_is from a (r ∷ rows) up =
    elim (mutual_cases r.address r.address a (omega arith)) [
      | inl past ↦ rw (past.1, none_reached r.address a rows up.1 past.0) refl
      | inr on ↦ elim on [
        | inl same ↦ latest_first r.address a r rows same.1 same.2 up.1
        | inr more ↦ absurd (omega arith)
      ]
    ]
