-- The bytes of groups, before and after a write.
use Rattle.std.proofs.lemmas.Grind.{common_steps}
use Rattle.std.proofs.Common.{◌≡◌, ◌∙◌, sym, ap, refl, ℕ, ◌+◌, ◌*◌, ◌/◌, ◌%◌, ◌≤◌, ◌<◌, Bool, true, false, List, [], ◌∷◌, ◌++◌, rules}
use Rattle.std.proofs.Common.{length, get_or, Option, Some, None, arith, inl, inr, length-append}
use Rattle.std.specs.Prelude.{◌&&◌, ◌==◌, nat_le, nat_lt, if◌then◌else◌, option_map, slice_set}
use Rattle.std.specs.Option.{option_and_then, is_some}
use Rattle.std.proofs.lemmas.List.{get_or_append_left, get_or-append_right, get_or-set_same, get_or-set_other}
use Rattle.std.proofs.lemmas.Bool.{eqb-true, eqb-false, le-leb, lt-ltb, leb-true, ltb-true, false_from_ne_true, and_parts, cases_lt}
use Rattle.rv_memory.proofs.OneMoreNumber.{number_last, number_before}
use Rattle.rv_memory.specs.PageIndex.{place_of}
use Rattle.rv_memory.specs.declared.page_index.PageIndex.{PageIndex}
use Rattle.sym_machine.specs.declared.other_bytes.OtherByte.{OtherByte}
use Rattle.sym_machine.specs.declared.other_bytes.OtherBytes.{OtherBytes}
use Rattle.sym_machine.specs.internal.Memory.{as_byte}
use Rattle.sym_machine.specs.internal.OtherBytes.{byte_in, other_byte, has_group, cleared_between}

pub byte_in-same : (index : PageIndex) (slots : List (Option OtherByte)) (old : OtherBytes) → slots ≡ old.slots.items →
    ((q : ℕ) → place_of index q ≡ place_of old.index q) → (q : ℕ) → byte_in index slots q ≡ other_byte old q
unfolding byte_in
byte_in-same index slots old same places q = rw (same, places (q / 8)) refl

pub other_byte-none : (others : OtherBytes) (a : ℕ) → place_of others.index (a / 8) ≡ None → other_byte others a ≡ None
unfolding byte_in
other_byte-none others a none = rw none refl

pub other_byte-some : (others : OtherBytes) (a i : ℕ) → place_of others.index (a / 8) ≡ Some i →
    other_byte others a ≡ get_or others.slots.items (i * 8 + a % 8) None
unfolding byte_in
other_byte-some others a i found = rw found refl

pub in_groups : (others : OtherBytes) (a i : ℕ) → place_of others.index (a / 8) ≡ Some i →
    i * 8 + a % 8 < length others.slots.items
in_groups others a i found = search rules

pub none_of_false : {A : Type 0} (o : Option A) → is_some o ≡ false → o ≡ None
none_of_false None e = refl
none_of_false (Some x) e = absurd (cc)

-- if the group of an address isn't there, the addresses of this group have no byte
pub no_group : (others : OtherBytes) (a q : ℕ) → has_group others a ≡ false → q / 8 ≡ a / 8 → other_byte others q ≡ None
no_group others a q none same = other_byte-none others q (ap (place_of others.index) same ∙ none_of_false _ none)

-- one byte was written
pub byte_set : (old : OtherBytes) (slots : List (Option OtherByte)) (a i : ℕ) (c : Option OtherByte) →
    place_of old.index (a / 8) ≡ Some i →
    slots ≡ slice_set old.slots.items (i * 8 + a % 8) c → (q : ℕ) →
    byte_in old.index slots q ≡ (if q == a then c else other_byte old q)
unfolding byte_in
byte_set old slots a i c found is q = rw is (cases (q == a) refl)
  where
    xs : List (Option OtherByte)
    xs = old.slots.items

    other : (r : Option ℕ) → place_of old.index (q / 8) ≡ r → (q ≡ a → ⊥) →
        option_and_then (λ place. get_or (slice_set xs (i * 8 + a % 8) c) (place * 8 + q % 8) None) r
        ≡ option_and_then (λ place. get_or xs (place * 8 + q % 8) None) r
    other None e apart = refl
    other (Some j) e apart =
        get_or-set_other xs (i * 8 + a % 8) (j * 8 + q % 8) c None
        (λ same.
        let first : i ≡ j = omega arith in
        let last : a % 8 ≡ q % 8 = omega arith in
        let group : get_or old.numbers.items i 0 ≡ a / 8 = old.numbered (a / 8) i found in
        let group' : get_or old.numbers.items j 0 ≡ q / 8 = old.numbered (q / 8) j e in
        let both = ap (λ k. get_or old.numbers.items k 0) first in
        absurd (apart (omega arith)))

    cases : (t : Bool) → (q == a) ≡ t →
        option_and_then (λ place. get_or (slice_set xs (i * 8 + a % 8) c) (place * 8 + q % 8) None) (place_of old.index (q / 8))
        ≡ (if t then c else option_and_then (λ place. get_or xs (place * 8 + q % 8) None) (place_of old.index (q / 8)))
    cases true test =
        let same : q ≡ a = eqb-true q a test in
        ap (λ k. option_and_then (λ place. get_or (slice_set xs (i * 8 + a % 8) c) (place * 8 + k % 8) None)
        (place_of old.index (k / 8))) same
        ∙ ap (option_and_then (λ place. get_or (slice_set xs (i * 8 + a % 8) c) (place * 8 + a % 8) None)) found
        ∙ get_or-set_same xs (i * 8 + a % 8) c None (in_groups old a i found)
    cases false test = other (place_of old.index (q / 8)) refl (eqb-false q a test)

-- nothing changes if the address has no group
pub byte_unset : (old : OtherBytes) (a : ℕ) → place_of old.index (a / 8) ≡ None → (q : ℕ) →
    other_byte old q ≡ (if q == a then None else other_byte old q)
byte_unset old a none q = cases (q == a) refl
  where
    cases : (t : Bool) → (q == a) ≡ t → other_byte old q ≡ (if t then None else other_byte old q)
    cases true test = ap (other_byte old) (eqb-true q a test) ∙ other_byte-none old a none
    cases false test = refl

-- One group was added.

pub sized_more : (numbers : List ℕ) (slots more : List (Option OtherByte)) (n : ℕ) → length slots ≡ length numbers * 8 →
    length more ≡ 8 → length (slots ++ more) ≡ length (numbers ++ n ∷ []) * 8
sized_more numbers slots more n size whole = omega (arith, length-append numbers (n ∷ []), length-append slots more)

pub marked_more : (numbers recent : List ℕ) (n k : ℕ) → length recent ≡ 8192 →
    ((i : ℕ) → i < length numbers → 0 < get_or recent (get_or numbers i 0 % 8192) 0) → k ≡ n % 8192 →
    (i : ℕ) → i < length (numbers ++ n ∷ []) →
    0 < get_or (slice_set recent k (length numbers + 1)) (get_or (numbers ++ n ∷ []) i 0 % 8192) 0
marked_more numbers recent n k size marked at i within = cases (get_or (numbers ++ n ∷ []) i 0 % 8192 == k) refl
  where
    old : (get_or (numbers ++ n ∷ []) i 0 % 8192 ≡ k → ⊥) → 0 < get_or recent (get_or (numbers ++ n ∷ []) i 0 % 8192) 0
    old apart = elim (cases_lt i (length numbers)) [
      | inl less ↦ let here = marked i less in
          let same = ap (λ (x : ℕ). get_or recent (x % 8192) 0) (number_before numbers n i less) in omega arith
      | inr more ↦
          let same : i ≡ length numbers = omega (arith, within, length-append numbers (n ∷ [])) in
          absurd (apart (ap (λ (x : ℕ). get_or (numbers ++ n ∷ []) x 0 % 8192) same ∙ ap (λ (x : ℕ). x % 8192) (number_last numbers n)
          ∙ sym at))
    ]

    cases : (t : Bool) → (get_or (numbers ++ n ∷ []) i 0 % 8192 == k) ≡ t →
        0 < get_or (slice_set recent k (length numbers + 1)) (get_or (numbers ++ n ∷ []) i 0 % 8192) 0
    cases true test = search (rules, eqb-true, get_or-set_same)
    cases false test =
        let apart = eqb-false _ k test in
        let is : get_or (slice_set recent k (length numbers + 1)) (get_or (numbers ++ n ∷ []) i 0 % 8192) 0
        ≡ get_or recent (get_or (numbers ++ n ∷ []) i 0 % 8192) 0 =
        get_or-set_other recent k _ (length numbers + 1) 0 apart in
        let here = old apart in
        omega arith

module _ (place next : ℕ → Option ℕ) (numbers : List ℕ) (slots more : List (Option OtherByte)) (n : ℕ)
    (held : (q i : ℕ) → place q ≡ Some i → i < length numbers) (absent : place n ≡ None)
    (is : (q : ℕ) → next q ≡ (if q == n then Some (length numbers) else place q)) where
  next-is : (q : ℕ) (t : Bool) → (q == n) ≡ t → next q ≡ (if t then Some (length numbers) else place q)
  next-is q t test = is q ∙ ap (λ b. if b then Some (length numbers) else place q) test

  pub group_added : length slots ≡ length numbers * 8 → ((k : ℕ) → get_or more k None ≡ None) → (q : ℕ) →
      option_and_then (λ i. get_or (slots ++ more) (i * 8 + q % 8) None) (next (q / 8))
      ≡ option_and_then (λ i. get_or slots (i * 8 + q % 8) None) (place (q / 8))
  group_added size empty q = cases (q / 8 == n) refl
    where
      old : (r : Option ℕ) → place (q / 8) ≡ r → option_and_then (λ i. get_or (slots ++ more) (i * 8 + q % 8) None) r
          ≡ option_and_then (λ i. get_or slots (i * 8 + q % 8) None) r
      old None e = refl
      old (Some i) e = let here = held (q / 8) i e in get_or_append_left slots more None (i * 8 + q % 8) (omega arith)

      cases : (t : Bool) → (q / 8 == n) ≡ t →
          option_and_then (λ i. get_or (slots ++ more) (i * 8 + q % 8) None) (next (q / 8))
          ≡ option_and_then (λ i. get_or slots (i * 8 + q % 8) None) (place (q / 8))
      cases true e =
          ap (option_and_then (λ i. get_or (slots ++ more) (i * 8 + q % 8) None)) (next-is (q / 8) true e)
          ∙ get_or-append_right slots more (length numbers * 8) (length numbers * 8 + q % 8) None size (omega arith)
          ∙ empty _
          ∙ sym (ap (option_and_then (λ i. get_or slots (i * 8 + q % 8) None)) (ap place (eqb-true (q / 8) n e) ∙ absent))
      cases false e =
          ap (option_and_then (λ i. get_or (slots ++ more) (i * 8 + q % 8) None)) (next-is (q / 8) false e) ∙ old (place (q / 8)) refl

pub byte_in-added : (old : OtherBytes) (index : PageIndex) (slots : List (Option OtherByte)) (n : ℕ)
    (more : List (Option OtherByte)) → place_of old.index n ≡ None →
    ((q : ℕ) → place_of index q ≡ (if q == n then Some (length old.numbers.items) else place_of old.index q)) →
    slots ≡ old.slots.items ++ more → ((k : ℕ) → get_or more k None ≡ None) → (q : ℕ) → byte_in index slots q ≡ other_byte old q
unfolding byte_in
byte_in-added old index slots n more absent is added empty q = grind (arith, common_steps, group_added)

-- Runs that are cleared.

abbrev pub in_run : ℕ → ℕ → ℕ → Bool
in_run from to q = nat_le from q && nat_lt q to

pub in_run-true : (from to q : ℕ) → from ≤ q → q < to → in_run from to q ≡ true
in_run-true from to q low high = rw (le-leb from q low, lt-ltb q to high) refl

pub in_run-below : (from to q : ℕ) → q < from → in_run from to q ≡ false
in_run-below from to q low = false_from_ne_true (in_run from to q)
    (λ e. let from_is = leb-true from q (and_parts (nat_le from q) (nat_lt q to) e).0 in omega arith)

pub in_run-past : (from to q : ℕ) → to ≤ q → in_run from to q ≡ false
in_run-past from to q high = false_from_ne_true (in_run from to q)
    (λ e. let to_is = ltb-true q to (and_parts (nat_le from q) (nat_lt q to) e).1 in omega arith)

pub cleared_none : (x : Option OtherByte) (from to q : ℕ) → to ≤ from → x ≡ (if nat_le from q && nat_lt q to then None else x)
cleared_none x from to q back = search (rules, in_run-below, in_run-past)

pub cleared_join : (x : Option OtherByte) (from at to q : ℕ) → from ≤ at → at ≤ to →
    (if nat_le at q && nat_lt q to then None else (if nat_le from q && nat_lt q at then None else x))
    ≡ (if nat_le from q && nat_lt q to then None else x)
cleared_join x from at to q first second = search (rules, in_run-below, in_run-true, in_run-past)

pub cleared_one : (x : Option OtherByte) (from at q : ℕ) → from ≤ at →
    (if q == at then None else (if nat_le from q && nat_lt q at then None else x))
    ≡ (if nat_le from q && nat_lt q (at + 1) then None else x)
cleared_one x from at q first = cases (q == at) refl
  where
    cases : (t : Bool) → (q == at) ≡ t → (if t then None else (if nat_le from q && nat_lt q at then None else x))
        ≡ (if nat_le from q && nat_lt q (at + 1) then None else x)
    cases true test = let same = eqb-true q at test in rw (in_run-true from (at + 1) q (omega arith) (omega arith)) refl
    cases false test =
        let apart = eqb-false q at test in
        elim (cases_lt q from) [
          | inl low ↦ rw (in_run-below from at q low, in_run-below from (at + 1) q low) refl
          | inr high ↦ elim (cases_lt q at) [
            | inl before ↦ rw (in_run-true from at q high before, in_run-true from (at + 1) q high (omega arith)) refl
            | inr after ↦ rw (in_run-past from at q after, in_run-past from (at + 1) q (omega (arith, apart))) refl
          ]
        ]

-- a run of addresses without bytes is already cleared
pub cleared_nothing : (others : OtherBytes) (from to : ℕ) → ((q : ℕ) → from ≤ q → q < to → other_byte others q ≡ None) → (q : ℕ) →
    other_byte others q ≡ cleared_between others from to q
cleared_nothing others from to none q = search (rules, in_run-below, in_run-true, in_run-past)

pub map_if : (t : Bool) (x : OtherByte) (o : Option OtherByte) →
    option_map as_byte (if t then Some x else o) ≡ (if t then Some (as_byte x) else option_map as_byte o)
map_if true x o = refl
map_if false x o = refl
