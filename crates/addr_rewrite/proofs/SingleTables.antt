-- Stretches that ascend by their units give each unit one table.
use Rattle.std.proofs.Common.{◌≡◌, ◌<◌, ◌≤◌, ◌==◌, ℕ, zero, suc, Bool, true, false, List, [], ◌∷◌, refl, subst, arith}
use Rattle.std.proofs.Common.{drop, get_or, length}
use Rattle.std.specs.Prelude.{All, AllPairs, if◌then◌else◌}
use Rattle.std.specs.List.Sorted.{IsNonDecreasingBy}
use Rattle.std.proofs.lemmas.Bool.Decides.{nat_tests}
use Rattle.std.proofs.lemmas.List.Elements.{All-cons, All-nil, All-weaker}
use Rattle.std.proofs.lemmas.List.Kept.{AllPairs-cons}
use Rattle.addr_rewrite.specs.Aranges.{AddressTable}
use Rattle.addr_rewrite.specs.WrittenAranges.{count_of}
use Rattle.addr_rewrite.specs.declared.stretch.Stretch.{Stretch}
use Rattle.addr_rewrite.proofs.TablesBack.{told_tables}

abbrev Rises : ℕ → List Stretch → Type 0
Rises lo [] = Unit {0}
Rises lo (s ∷ ss) = (lo ≤ s.unit) × Rises s.unit ss

rises_of : (lo : ℕ) (ss : List Stretch) → ((k : ℕ) (d : Stretch) → k < length ss → lo ≤ (get_or ss k d).unit) →
    IsNonDecreasingBy (λ (s : Stretch). s.unit) ss → Rises lo ss
rises_of lo [] low up = tt
rises_of lo (s ∷ ss) low up = (
  low 0 s (omega arith),
  rises_of s.unit ss (λ k d h. up 0 (suc k) d (omega arith) (omega arith)) (λ i j d le h. up (suc i) (suc j) d (omega arith) (omega arith)),
)

-- After the stretches of a unit there are those of greater units.
behind_unit : (u : ℕ) (ss : List Stretch) → Rises u ss → Rises (suc u) (drop (count_of u ss) ss)
behind_unit u [] up = tt
behind_unit u (s ∷ ss) up = by (s.unit == u) refl (behind_unit u ss) where
  by : (b : Bool) → (s.unit == u) ≡ b → (Rises u ss → Rises (suc u) (drop (count_of u ss) ss)) →
      Rises (suc u) (drop (if b then suc (count_of u ss) else 0) (s ∷ ss))
  by true e more = let same : s.unit ≡ u = grind (arith, nat_tests) in more (subst (λ (n : ℕ). Rises n ss) same up.1)
  by false e more = let le : u ≤ s.unit = up.0 in (grind (arith, nat_tests), up.1)

abbrev Above : ℕ → List AddressTable → Type 0
Above lo [] = Unit {0}
Above lo (t ∷ ts) = (lo ≤ t.unit) × Above (suc t.unit) ts

told_above : (n lo : ℕ) (ss : List Stretch) → Rises lo ss → Above lo (told_tables n ss)
unfolding told_tables
told_above zero lo [] up = tt
told_above (suc n) lo [] up = tt
told_above zero lo (s ∷ ss) up = tt
told_above (suc n) lo (s ∷ ss) up = (up.0, told_above n (suc s.unit) (drop (count_of s.unit ss) ss) (behind_unit s.unit ss up.1))

all_above : (lo : ℕ) (ts : List AddressTable) → Above lo ts → All (λ (t : AddressTable). lo ≤ t.unit) ts
all_above lo [] up = All-nil (λ (t : AddressTable). lo ≤ t.unit)
all_above lo (t ∷ ts) up =
    let le : lo ≤ t.unit = up.0 in
    All-cons (λ (t : AddressTable). lo ≤ t.unit) t ts le
    (All-weaker (λ (x : AddressTable). suc t.unit ≤ x.unit) (λ (x : AddressTable). lo ≤ x.unit) (λ x h. omega arith) ts
    (all_above (suc t.unit) ts up.1))

pairs_above : (lo : ℕ) (ts : List AddressTable) → Above lo ts → AllPairs (λ (t u : AddressTable). t.unit < u.unit) ts
pairs_above lo [] up = λ i j d less within. absurd (omega arith)
pairs_above lo (t ∷ ts) up =
    AllPairs-cons (λ (t u : AddressTable). t.unit < u.unit) t ts
    (All-weaker (λ (x : AddressTable). suc t.unit ≤ x.unit) (λ (x : AddressTable). t.unit < x.unit) (λ x h. omega arith) ts
    (all_above (suc t.unit) ts up.1))
    (pairs_above (suc t.unit) ts up.1)

pub told_once : (n : ℕ) (ss : List Stretch) → IsNonDecreasingBy (λ (s : Stretch). s.unit) ss →
    AllPairs (λ (t u : AddressTable). t.unit < u.unit) (told_tables n ss)
told_once n ss up = pairs_above 0 (told_tables n ss) (told_above n 0 ss (rises_of 0 ss (λ k d h. omega arith) up))
