-- The lowest result of a function for the indices below a count, index by index, and the lowest place if the function
-- returns the lowest place for each index.
use Rattle.std.proofs.Common.{◌≡◌, subst, sym, refl, ℕ, ◌+◌, ◌≤◌, ◌<◌, ⊎_elim, Option, Some, None, min, IfSome, IsSomeAnd, arith, rules}
use Rattle.std.proofs.lemmas.Bool.{cases_lt}
use Rattle.elf_image.specs.faults.LowestPlace.{IsLowest, SomeBelow, lower}
use Rattle.elf_image.specs.internal.Folds.{IsLowestOf}
use Rattle.elf_image.proofs.LowestPlaces.{least_left, least_right}

pub IsLowestOf-begin : (Gives : ℕ → Option ℕ → Type 0) → IsLowestOf Gives 0 None
IsLowestOf-begin Gives = record { given = search rules; least = λ i below. absurd (omega arith) }

given-lower : (Gives : ℕ → Option ℕ → Type 0) (n : ℕ) (a b : Option ℕ) → IfSome a (λ p. (i : ℕ) × (i < n) × Gives i (Some p)) →
    Gives n b → IfSome (lower a b) (λ p. (i : ℕ) × (i < n + 1) × Gives i (Some p))
given-lower Gives n None None given here = search rules
given-lower Gives n None (Some b) given here = (n, omega arith, here)
given-lower Gives n (Some a) None given here = let below : given.0 < n = given.1 in (given.0, omega arith, given.2)
given-lower Gives n (Some a) (Some b) given here =
    let Given : ℕ → Type 0 = λ p. (i : ℕ) × (i < n + 1) × Gives i (Some p) in
    let below : given.0 < n = given.1 in
    ⊎_elim
    (λ (less : a < b). let e : a ≡ min a b = omega arith in subst Given e (given.0, omega arith, given.2))
    (λ (more : b ≤ a). let e : b ≡ min a b = omega arith in subst Given e (n, omega arith, here))
    (cases_lt a b)

here_least : (b : Option ℕ) (p : ℕ) → b ≡ Some p → IsSomeAnd b (λ l. l ≤ p)
here_least b p e = let here : p ≤ p = omega arith in subst (λ (o : Option ℕ). IsSomeAnd o (λ l. l ≤ p)) (sym e) here

pub IsLowestOf-next : (Gives : ℕ → Option ℕ → Type 0) (n : ℕ) (a b r : Option ℕ) → r ≡ lower a b → Gives n b →
    IsLowestOf Gives n a → IsLowestOf Gives (n + 1) r
IsLowestOf-next Gives n a b r e here before =
    let Is : Option ℕ → Type 0 = λ o. IsLowestOf Gives (n + 1) o in
    subst Is (sym e) (record {
      given = given-lower Gives n a b before.given here;
      least = λ i below. ⊎_elim
          (λ (earlier : i < n). let one = before.least i earlier in (one.0, one.1, λ p same. least_left a b p (one.2 p same)))
          (λ (last : n ≤ i).
          let same : n ≡ i = omega arith in
          (b, subst (λ (j : ℕ). Gives j b) same here, λ p given. least_right a b p (here_least b p given)))
          (cases_lt i n);
    })

pub IsLowestOf-all : (Gives : ℕ → Option ℕ → Type 0) (n count : ℕ) (o : Option ℕ) → n ≡ count → IsLowestOf Gives n o →
    IsLowestOf Gives count o
IsLowestOf-all Gives n count o same is = let All : ℕ → Type 0 = λ k. IsLowestOf Gives k o in subst All same is

at_or_below : (o : Option ℕ) (p q : ℕ) → p ≤ q → IsSomeAnd o (λ l. l ≤ p) → IsSomeAnd o (λ l. l ≤ q)
at_or_below None p q below is = absurd is
at_or_below (Some l) p q below is = let least : l ≤ p = is in omega arith

chosen : (o r : Option ℕ) (q : ℕ) → IsSomeAnd r (λ l. l ≤ q) → ((p : ℕ) → r ≡ Some p → IsSomeAnd o (λ l. l ≤ p)) →
    IsSomeAnd o (λ l. l ≤ q)
chosen o None q below least = absurd below
chosen o (Some p) q below least = at_or_below o p q below (least p refl)

given-present : (S : ℕ → ℕ → Type 0) (Gives : ℕ → Option ℕ → Type 0) (count : ℕ) (o : Option ℕ) →
    ((i : ℕ) (r : Option ℕ) → i < count → Gives i r → IsLowest (S i) r) →
    IfSome o (λ p. (i : ℕ) × (i < count) × Gives i (Some p)) → IfSome o (SomeBelow count S)
given-present S Gives count None each given = search rules
given-present S Gives count (Some p) each given = (given.0, given.1, (each given.0 (Some p) given.1 given.2).present)

-- The function returns the lowest place for each index.
pub IsLowest-of : (S : ℕ → ℕ → Type 0) (Gives : ℕ → Option ℕ → Type 0) (count : ℕ) (o : Option ℕ) →
    ((i : ℕ) (r : Option ℕ) → i < count → Gives i r → IsLowest (S i) r) → IsLowestOf Gives count o →
    IsLowest (SomeBelow count S) o
IsLowest-of S Gives count o each is = record {
  present = given-present S Gives count o each is.given;
  least = λ place here.
      let one = is.least here.0 here.1 in
      chosen o one.0 place ((each here.0 one.0 here.1 one.1).least place here.2) one.2;
}
