-- Named addresses whose spans are empty.
use Rattle.std.proofs.Common.{◌≡◌, ◌≢◌, ◌<◌, ◌≤◌, ◌∙◌, ℕ, suc, zero, Bool, true, false, List, [], ◌∷◌, length, get_or, arith, refl, ap, sym}
use Rattle.std.proofs.Common.{subst, cond, inl, inr, ⊎_elim, ◌⊎◌, Option, Some, None, IfNone, IsTrue, if◌then◌else◌, find, rules}
use Rattle.std.specs.Prelude.{Any, ◌==◌}
use Rattle.std.specs.List.{count_by}
use Rattle.std.specs.List.Sorted.{IsNonDecreasingBy, IsPermutation}
use Rattle.std.specs.Option.{option_map_or}
use Rattle.std.proofs.lemmas.Bool.{cases_eq, cases_lt, cases_Bool, eq-eqb, ne_eqb, eqb-true}
use Rattle.std.proofs.lemmas.List.{get_or_default}
use Rattle.std.proofs.lemmas.List.Sorted.{sum_by-IsPermutation, All-permutation, IsPermutation-sym}
use Rattle.rv_code.specs.layout.ProgramCode.{ProgramCode, IsHeld, by_role, by_cell, by_entry, IsNamed, is_code_address}
use Rattle.elf_image.specs.faults.LowestPlace.{IsLowest, SomeBelow, lower}
use Rattle.elf_image.proofs.LowestPlaces.{IsLowest-same, IsLowest-none, IsLowest-one, IsLowest-lower}
use Rattle.addr_map.specs.declared.span.Span.{Span}
use Rattle.addr_map.specs.Spans.{is_of, IsPlaced, ShareNoByte, IsMap}
use Rattle.rb_bytes.proofs.Permuted.{AllPairs-permutation}
use Rattle.addr_map.proofs.Orders.{disjoint_flip}
use Rattle.map_check.specs.BadSpans.{IsMiscounted, IsMisplaced, IsSharing, IsBadSpan, IsOneOf}
use Rattle.map_check.specs.internal.EmptySpans.{is_empty_at, NamedByRoles, NamedByCells, IsHeldEmpty}
use Rattle.map_check.proofs.SpanCounts.{counted, counted_twice}
use Rattle.map_check.proofs.ValidMaps.{map_from_none}

-- Looking up.

find_none : (a : ℕ) (xs : List Span) → ((k : ℕ) (d : Span) → k < length xs → (get_or xs k d).input ≢ a) → find (is_of a) xs ≡ None
find_none a [] none = refl
find_none a (x ∷ xs) none =
    ap (λ t. cond t (Some x) (find (is_of a) xs)) (ne_eqb x.input a (none zero x (omega arith)))
    ∙ find_none a xs (λ k d within. none (suc k) d (omega arith))

find_at : (a : ℕ) (xs : List Span) (k : ℕ) (d : Span) → k < length xs → ((j : ℕ) (e : Span) → j < k → (get_or xs j e).input ≢ a) →
    (get_or xs k d).input ≡ a → find (is_of a) xs ≡ Some (get_or xs k d)
find_at a [] k d within before here = absurd (omega arith)
find_at a (x ∷ xs) zero d within before here = ap (λ t. cond t (Some x) (find (is_of a) xs)) (eq-eqb x.input a here)
find_at a (x ∷ xs) (suc k) d within before here =
    ap (λ t. cond t (Some x) (find (is_of a) xs)) (ne_eqb x.input a (before zero x (omega arith)))
    ∙ find_at a xs k d (omega arith) (λ j e less. before (suc j) e (omega arith)) here

-- if all spans before the index k are below a, and the span at k isn't, then it is the one that is looked up
pub found_at : (a k : ℕ) (xs : List Span) (d : Span) → ((j : ℕ) (e : Span) → j < k → (get_or xs j e).input < a) → k < length xs →
    (get_or xs k d).input ≡ a → find (is_of a) xs ≡ Some (get_or xs k d)
found_at a k xs d before within here =
    find_at a xs k d within (λ j e less same. let low = before j e less in omega (arith, same, low)) here

pub found_nowhere : (a k : ℕ) (xs : List Span) → IsNonDecreasingBy (λ s. s.input) xs →
    ((j : ℕ) (e : Span) → j < k → (get_or xs j e).input < a) →
    ((d : Span) → k < length xs → a ≤ (get_or xs k d).input) → ((d : Span) → k < length xs → (get_or xs k d).input ≢ a) →
    find (is_of a) xs ≡ None
found_nowhere a k xs sorted before from other = find_none a xs (λ j d within same. ⊎_elim
    (λ (less : j < k). let low = before j d less in omega (arith, same, low))
    (λ (more : k ≤ j).
    let inside : k < length xs = omega arith in
    let up = sorted k j d more within in
    let least = from d inside in
    other d inside (omega (arith, same, up, least)))
    (cases_lt j k))

pub find_some : (a : ℕ) (xs : List Span) (s : Span) → find (is_of a) xs ≡ Some s →
    (k : ℕ) × (k < length xs) × (get_or xs k s ≡ s) × (s.input ≡ a)
find_some a [] s found = absurd (cc)
find_some a (x ∷ xs) s found = by (x.input == a) refl found (find_some a xs s)
  where
    by : (t : Bool) → (x.input == a) ≡ t → cond t (Some x) (find (is_of a) xs) ≡ Some s →
        (find (is_of a) xs ≡ Some s → (k : ℕ) × (k < length xs) × (get_or xs k s ≡ s) × (s.input ≡ a)) →
        (k : ℕ) × (k < suc (length xs)) × (get_or (x ∷ xs) k s ≡ s) × (s.input ≡ a)
    by true is here rest =
        let same : x ≡ s = cc in (zero, omega arith, same, ap (λ (t : Span). t.input) (sym same) ∙ eqb-true x.input a is)
    by false is here rest =
        let r = rest here in let within : r.0 < length xs = r.1 in (suc r.0, omega arith, r.2, r.3)

pub find_not_none : (a : ℕ) (xs : List Span) (k : ℕ) (d : Span) → k < length xs → (get_or xs k d).input ≡ a → find (is_of a) xs ≡ None → ⊥
find_not_none a [] k d within here none = omega arith
find_not_none a (x ∷ xs) zero d within here none =
    let is : find (is_of a) (x ∷ xs) ≡ Some x = ap (λ t. cond t (Some x) (find (is_of a) xs)) (eq-eqb x.input a here) in cc
find_not_none a (x ∷ xs) (suc k) d within here none = ⊎_elim
    (λ (first : (x.input == a) ≡ true).
    let is : find (is_of a) (x ∷ xs) ≡ Some x = ap (λ t. cond t (Some x) (find (is_of a) xs)) first in
    let never : Some x ≡ None = sym is ∙ none in absurd (cc))
    (λ (other : (x.input == a) ≡ false).
    let is : find (is_of a) (x ∷ xs) ≡ find (is_of a) xs = ap (λ t. cond t (Some x) (find (is_of a) xs)) other in
    find_not_none a xs k d (omega arith) here (sym is ∙ none))
    (cases_Bool (x.input == a))

-- Names.

pub one_name : (spans : List Span) (a : ℕ) (r : Option ℕ) → r ≡ (if is_empty_at spans a then Some a else None) →
    IsLowest (λ b. (a ≡ b) × IsTrue (is_empty_at spans b)) r
one_name spans a r is = by (is_empty_at spans a) refl is
  where
    by : (t : Bool) → is_empty_at spans a ≡ t → r ≡ cond t (Some a) None → IsLowest (λ b. (a ≡ b) × IsTrue (is_empty_at spans b)) r
    by true empty is = subst (IsLowest (λ b. (a ≡ b) × IsTrue (is_empty_at spans b))) (sym is)
        (IsLowest-one a (refl, empty) (λ p here. sym here.0))
    by false full is = subst (IsLowest (λ b. (a ≡ b) × IsTrue (is_empty_at spans b))) (sym is)
        (IsLowest-none (λ p here.
        let yes_it : is_empty_at spans a ≡ true = subst (λ (b : ℕ). is_empty_at spans b ≡ true) (sym here.0) here.1 in
        let never : false ≡ true = sym full ∙ yes_it in cc))

pub two_names : (spans : List Span) (a b : ℕ) (x y r : Option ℕ) → r ≡ lower x y →
    IsLowest (λ c. (a ≡ c) × IsTrue (is_empty_at spans c)) x → IsLowest (λ c. (b ≡ c) × IsTrue (is_empty_at spans c)) y →
    IsLowest (λ c. ((a ≡ c) ⊎ (b ≡ c)) × IsTrue (is_empty_at spans c)) r
two_names spans a b x y r is left right = IsLowest-same r
    (λ c either. ⊎_elim (λ (l : (a ≡ c) × IsTrue (is_empty_at spans c)). (inl l.0, l.1))
    (λ (m : (b ≡ c) × IsTrue (is_empty_at spans c)). (inr m.0, m.1)) either)
    (λ c both. ⊎_elim (λ (l : a ≡ c). inl (l, both.1)) (λ (m : b ≡ c). inr (m, both.1)) both.0)
    (IsLowest-lower x y r is left right)

module _ {X : Type 0} (Names : X → ℕ → Type 0) (spans : List Span) (xs : List X) where
  -- the i-th item names the address, and the address has an empty span
  abbrev pub NamedAt : ℕ → ℕ → Type 0
  NamedAt i a = ((d : X) → Names (get_or xs i d) a) × IsTrue (is_empty_at spans a)

  pub named_here : (i : ℕ) (d : X) (r : Option ℕ) → i < length xs →
      IsLowest (λ a. Names (get_or xs i d) a × IsTrue (is_empty_at spans a)) r →
      IsLowest (NamedAt i) r
  named_here i d r within is = IsLowest-same r
      (λ a here. ((λ e. subst (λ (x : X). Names x a) (get_or_default xs i d e within) here.0), here.1))
      (λ a here. (here.0 d, here.1)) is

  -- an item of a list names the address
  any_from : (a k : ℕ) → k < length xs → ((d : X) → Names (get_or xs k d) a) → Any (λ x. Names x a) xs
  any_from a k within names = from xs k within names
    where
      from : (ys : List X) (j : ℕ) → j < length ys → ((d : X) → Names (get_or ys j d) a) → Any (λ x. Names x a) ys
      from [] j inside is = absurd (omega arith)
      from (y ∷ ys) j inside is = (j, get_or (y ∷ ys) j y, inside, get_or_default (y ∷ ys) j (get_or (y ∷ ys) j y) y inside, is y)

  pub named_all : (i : ℕ) (r : Option ℕ) → i ≡ length xs → IsLowest (SomeBelow i NamedAt) r →
      IsLowest (λ a. Any (λ x. Names x a) xs × IsTrue (is_empty_at spans a)) r
  named_all i r all is = IsLowest-same r
      (λ a some. let below : some.0 < i = some.1 in (any_from a some.0 (omega (arith, below)) (some.2).0, (some.2).1))
      (λ a both.
      let found = both.0 in
      let within : found.0 < length xs = found.2 in (
        found.0,
        omega (arith, within),
        (
          (λ d. subst (λ (x : X). Names x a)
              (sym (get_or_default xs found.0 d found.1 within ∙ found.3)) found.4),
          both.1,
        ),
      )) is

pub held_lowest : (code : ProgramCode) (spans : List Span) (x y z held r : Option ℕ) → held ≡ lower x y → r ≡ lower held z →
    IsLowest (NamedByRoles spans code.roles) x → IsLowest (NamedByCells spans code.cells) y →
    IsLowest (λ a. (code.entry ≡ a) × IsTrue (is_empty_at spans a)) z → IsLowest (IsHeldEmpty code spans) r
held_lowest code spans x y z held r first last roles cells entry = IsLowest-same r to from
    (IsLowest-lower held z r last (IsLowest-lower x y held first roles cells) entry)
  where
    to : (a : ℕ) → (NamedByRoles spans code.roles a ⊎ NamedByCells spans code.cells a) ⊎ ((code.entry ≡ a) × IsTrue (is_empty_at spans a)) →
        IsHeldEmpty code spans a
    to a (inl (inl role)) = (by_role role.0, role.1)
    to a (inl (inr cell)) = (by_cell cell.0, cell.1)
    to a (inr entry) = (by_entry entry.0, entry.1)

    from : (a : ℕ) → IsHeldEmpty code spans a →
        (NamedByRoles spans code.roles a ⊎ NamedByCells spans code.cells a) ⊎ ((code.entry ≡ a) × IsTrue (is_empty_at spans a))
    from a held = by held.0
      where
        by : IsHeld code a →
            (NamedByRoles spans code.roles a ⊎ NamedByCells spans code.cells a) ⊎ ((code.entry ≡ a) × IsTrue (is_empty_at spans a))
        by (by_role any) = inl (inl (any, held.1))
        by (by_cell any) = inl (inr (any, held.1))
        by (by_entry same) = inr (same, held.1)

-- All kinds of bad spans together.

empty_found : (spans : List Span) (a : ℕ) → IsTrue (is_empty_at spans a) →
    (s : Span) × (k : ℕ) × (k < length spans) × (get_or spans k s ≡ s) × (s.input ≡ a) × (s.len ≡ 0)
empty_found spans a empty = by (find (is_of a) spans) refl empty
  where
    by : (o : Option Span) → find (is_of a) spans ≡ o → IsTrue (option_map_or (λ s. s.len == 0) o false) →
        (s : Span) × (k : ℕ) × (k < length spans) × (get_or spans k s ≡ s) × (s.input ≡ a) × (s.len ≡ 0)
    by None found is = absurd (let never : false ≡ true = is in cc)
    by (Some s) found is =
        let f = find_some a spans s found in (s, f.0, f.1, f.2, f.3, eqb-true s.len 0 is)

module _ (code : ProgramCode) (spans : List Span) where
  abbrev AnyBad : ℕ → Type 0
  AnyBad a = IsMiscounted code.funcs spans a ⊎ (IsMisplaced spans a ⊎ (IsSharing spans a ⊎ IsHeldEmpty code spans a))

  to_bad : (a : ℕ) → AnyBad a → IsBadSpan code spans a
  to_bad a (inl wrong) = inl wrong
  to_bad a (inr (inl wrong)) = inr (inl wrong)
  to_bad a (inr (inr (inl wrong))) = inr (inr (inl wrong))
  to_bad a (inr (inr (inr (held, empty)))) = by (is_code_address code.funcs a) refl
    where
      found : (s : Span) × (k : ℕ) × (k < length spans) × (get_or spans k s ≡ s) × (s.input ≡ a) × (s.len ≡ 0)
      found = empty_found spans a empty

      by : (b : Bool) → is_code_address code.funcs a ≡ b → IsBadSpan code spans a
      by true is = inr (inr (inr (
        record { code_address = is; held = held },
        λ all.
            let s = found.0 in
            let at : (get_or spans found.1 s).input ≡ a = ap (λ (t : Span). t.input) found.3 ∙ found.4 in
            let has = all found.1 s found.2 at in
            let len = ap (λ (t : Span). t.len) found.3 ∙ found.5 in
            omega (arith, has, len),
      )))
      by false is = inl (λ same.
          let s = found.0 in
          let at : (get_or spans found.1 s).input ≡ a = ap (λ (t : Span). t.input) found.3 ∙ found.4 in
          let some = counted (is_of a) spans found.1 s found.2 (eq-eqb (get_or spans found.1 s).input a at) in
          let none = same ∙ ap (λ (b : Bool). cond b 1 0) is in
          omega (arith, some, none))

  -- a named address with one span has an empty span if not all its spans have bytes
  from_bad : (a : ℕ) → IsBadSpan code spans a → AnyBad a
  from_bad a (inl wrong) = inl wrong
  from_bad a (inr (inl wrong)) = inr (inl wrong)
  from_bad a (inr (inr (inl wrong))) = inr (inr (inl wrong))
  from_bad a (inr (inr (inr (named, wrong)))) = ⊎_elim
      (λ (empty : is_empty_at spans a ≡ true). inr (inr (inr (named.held, empty))))
      (λ (full : is_empty_at spans a ≡ false). inl (λ same.
      let one = same ∙ ap (λ (b : Bool). cond b 1 0) named.code_address in
      wrong (λ k d within at. by (find (is_of a) spans) refl full k d within at one)))
      (cases_Bool (is_empty_at spans a))
    where
      by : (o : Option Span) → find (is_of a) spans ≡ o → option_map_or (λ s. s.len == 0) o false ≡ false → (k : ℕ) (d : Span) →
          k < length spans → (get_or spans k d).input ≡ a → count_by (is_of a) spans ≡ 1 → 0 < (get_or spans k d).len
      by None found is k d within at one = absurd (find_not_none a spans k d within at found)
      by (Some s) found is k d within at one =
          let f = find_some a spans s found in
          let s_at : (get_or spans f.0 d) ≡ s = get_or_default spans f.0 d s f.1 ∙ f.2 in
          let s_in : (get_or spans f.0 d).input ≡ a = ap (λ (t : Span). t.input) s_at ∙ f.3 in
          let some : 0 < s.len = positive s.len is in
          ⊎_elim
          (λ (same : k ≡ f.0).
          let len = ap (λ (t : Span). t.len) (ap (λ (i : ℕ). get_or spans i d) same ∙ s_at) in omega (arith, len, some))
          (λ (apart : k ≢ f.0). absurd (⊎_elim
          (λ (less : k < f.0).
          let two = counted_twice (is_of a) spans k f.0 d less f.1 (eq-eqb (get_or spans k d).input a at)
          (eq-eqb (get_or spans f.0 d).input a s_in) in
          omega (arith, two, one))
          (λ (more : f.0 ≤ k).
          let less : f.0 < k = omega arith in
          let two = counted_twice (is_of a) spans f.0 k d less within (eq-eqb (get_or spans f.0 d).input a s_in)
          (eq-eqb (get_or spans k d).input a at) in
          omega (arith, two, one))
          (cases_lt k f.0)))
          (cases_eq k f.0)
        where
          positive : (n : ℕ) → (n == 0) ≡ false → 0 < n
          positive zero is = absurd (let never : true ≡ false = is in cc)
          positive (suc n) is = omega arith

  pub bad_lowest : (m p h l shared placed r : Option ℕ) → shared ≡ lower h l → placed ≡ lower p shared → r ≡ lower m placed →
      IsLowest (IsMiscounted code.funcs spans) m → IsLowest (IsMisplaced spans) p → IsLowest (IsSharing spans) h →
      IsLowest (IsHeldEmpty code spans) l → IsLowest (IsBadSpan code spans) r
  bad_lowest m p h l shared placed r one two three miscounted misplaced sharing held = IsLowest-same r to_bad from_bad
      (IsLowest-lower m placed r three miscounted
      (IsLowest-lower p shared placed two misplaced (IsLowest-lower h l shared one sharing held)))

-- The order of the spans doesn't matter.
module _ (code : ProgramCode) (xs ys : List Span) (same : IsPermutation xs ys) where
  sharing_flip : (a : ℕ) (s t : Span) → (IsOneOf a s t → ShareNoByte s t) → IsOneOf a t s → ShareNoByte t s
  sharing_flip a s t no_byte (inl one) = disjoint_flip s t (no_byte (inr one))
  sharing_flip a s t no_byte (inr one) = disjoint_flip s t (no_byte (inl one))

  pub bad_permuted : (a : ℕ) → IsBadSpan code ys a → IsBadSpan code xs a
  bad_permuted a (inl wrong) = inl (λ is. wrong (sum_by-IsPermutation (λ s. cond (is_of a s) 1 0) xs ys same ∙ is))
  bad_permuted a (inr (inl wrong)) = inr (inl (λ all. wrong (All-permutation (λ s. s.input ≡ a → IsPlaced s) xs ys same all)))
  bad_permuted a (inr (inr (inl wrong))) = inr (inr (inl (λ pairs. wrong (AllPairs-permutation
      (λ s t. IsOneOf a s t → ShareNoByte s t) (sharing_flip a) xs ys same pairs))))
  bad_permuted a (inr (inr (inr (named, wrong)))) = inr (inr (inr (
    named,
    λ all.
        wrong (All-permutation (λ s. s.input ≡ a → 0 < s.len) xs ys same all),
  )))

pub bad_lowest_permuted : (code : ProgramCode) (xs ys : List Span) (o : Option ℕ) → IsPermutation xs ys →
    IsLowest (IsBadSpan code ys) o → IsLowest (IsBadSpan code xs) o
bad_lowest_permuted code xs ys o same is =
    IsLowest-same o (bad_permuted code xs ys same) (bad_permuted code ys xs (IsPermutation-sym xs ys same)) is

pub map_if_none : (code : ProgramCode) (xs : List Span) (o : Option ℕ) → IsLowest (IsBadSpan code xs) o →
    IfNone o (IsMap (λ a. IsTrue (is_code_address code.funcs a)) (IsNamed code) xs)
map_if_none code xs None is = map_from_none code xs (λ a bad. is.least a bad)
map_if_none code xs (Some a) is = search rules
