-- Whole units that follow one another fill their section, and a walk finds them again.
use Rattle.std.proofs.Common.{◌≡◌, ◌<◌, ◌≤◌, ◌+◌, ◌-◌, ◌++◌, ◌∙◌, ℕ, zero, suc, List, [], ◌∷◌, Bool, true, false, Option, Some, None}
use Rattle.std.proofs.Common.{refl, ap, sym, subst, arith, length, take, drop, length-append, length-drop}
use Rattle.std.specs.Prelude.{⊤, ◌==◌, ◌&&◌, ◌||◌, not, nat_le, if◌then◌else◌, is_some}
use Rattle.std.proofs.lemmas.Bool.Decides.{nat_tests}
use Rattle.std.proofs.lemmas.Grind.{common_steps}
use Rattle.std.proofs.lemmas.List.{take-append-drop, length-take-le, take_at, drop_at, drop-drop}
use Rattle.std.proofs.lemmas.Bool.{and_parts, not-true}
use Rattle.byteorder.specs.Endian.{little_number}
use Rattle.table_core.proofs.Numbers.{little_from-take}
use Rattle.table_core.specs.DebugUnits.{Walked, units_from, unit_length, is_whole_unit, is_other_version, unit_bytes, DWARF64}
use Rattle.table_core.proofs.UnitsBack.{two-front}
use Rattle.dw_unit.specs.CompUnits.{end_of}

-- A unit at the front of some bytes, after its length.
pub record IsWhole (place : ℕ) (w : Walked) (left rest : List ℕ) : Type 0 where
  pub size : List ℕ
  pub bytes : List ℕ
  pub is : left ≡ size ++ (bytes ++ rest)
  pub size_is : length size ≡ 4
  pub says : little_number 4 size ≡ length bytes
  pub walked : w ≡ record { place = place; bytes = Some bytes; is_other = false }
  pub version : little_number 2 bytes ≡ 5
  pub some : 2 ≤ length bytes
  pub known : (length bytes == DWARF64) ≡ false

abbrev pub AreWhole : ℕ → List Walked → List ℕ → Type 0
AreWhole place [] left = left ≡ []
AreWhole place (w ∷ ws) left = (rest : List ℕ) × (IsWhole place w left rest) × AreWhole (end_of w) ws rest

-- Units of the version that is read, with their bytes.
abbrev pub AreGood : List Walked → Type 0
AreGood [] = ⊤
AreGood (w ∷ ws) = (is_some w.bytes ≡ true) × (w.is_other ≡ false) × AreGood ws

le_of : (n m : ℕ) → nat_le n m ≡ true → n ≤ m
le_of n m e = grind (arith, nat_tests)

no_bytes : (b : Bool) (bytes : List ℕ) → is_some (if b then Some bytes else None) ≡ true → b ≡ true
no_bytes true bytes e = refl
no_bytes false bytes e = absurd (cc)

is_five : (a b c k d : Bool) (n : ℕ) → (n == 5) ≡ d → a ≡ true → b ≡ true → c ≡ true → (a && (k || (b && c && not d))) ≡ false → n ≡ 5
is_five true true true false true n e f g h i = grind (arith, nat_tests)
is_five true true true false false n e f g h i = absurd (cc)
is_five true true true true d n e f g h i = absurd (cc)
is_five false b c k d n e f g h i = absurd (cc)
is_five true false c k d n e f g h i = absurd (cc)
is_five true true false k d n e f g h i = absurd (cc)

le_true : (n m : ℕ) → n ≤ m → nat_le n m ≡ true
le_true n m h = grind (arith, nat_tests)

-- The tests of a unit at the front.
record IsFront (left : List ℕ) : Type 0 where
  inside : unit_length left + 4 ≤ length left
  some : 2 ≤ unit_length left
  known : (unit_length left == DWARF64) ≡ false
  version : little_number 2 (drop 4 left) ≡ 5
  whole : is_whole_unit left ≡ true

front_of : (left : List ℕ) → is_some (unit_bytes left) ≡ true → is_other_version 5 left ≡ false → IsFront left
front_of left e f =
    let d : ℕ = unit_length left in
    let size : ℕ = length left in
    let both = and_parts (is_whole_unit left) (nat_le 2 d) (no_bytes (is_whole_unit left && nat_le 2 d) (take d (drop 4 left)) e) in
    let tests = and_parts (nat_le 4 size && not (d == DWARF64)) (nat_le (d + 4) size) both.0 in
    let first = and_parts (nat_le 4 size) (not (d == DWARF64)) tests.0 in
    let inside : d + 4 ≤ size = le_of (d + 4) size tests.1 in
    let some : 2 ≤ d = le_of 2 d both.1 in
    record {
      inside = inside;
      some = some;
      known = not-true (d == DWARF64) first.1;
      version = is_five (nat_le 4 size) (nat_le 6 size) (nat_le 2 d) (d == DWARF64) (little_number 2 (drop 4 left) == 5)
          (little_number 2 (drop 4 left))
          refl first.0 (le_true 6 size (omega arith)) both.1 f;
      whole = both.0;
    }

abbrev unit_at : ℕ → List ℕ → Walked
unit_at place bytes = record { place = place; bytes = Some bytes; is_other = false }

is_whole : (place : ℕ) (left : List ℕ) → is_some (unit_bytes left) ≡ true → is_other_version 5 left ≡ false →
    IsWhole place (record { place = place; bytes = unit_bytes left; is_other = is_other_version 5 left }) left
    (drop (unit_length left + 4) left)
is_whole place left e f =
    let i : IsFront left = front_of left e f in
    let d : ℕ = unit_length left in
    let size : List ℕ = take 4 left in
    let behind : List ℕ = drop 4 left in
    let bytes : List ℕ = take d behind in
    let inside = i.inside in
    let long : length behind ≡ length left - 4 = length-drop 4 left in
    let bytes_is : length bytes ≡ d = length-take-le d behind (omega arith) in
    let rest_is : drop d behind ≡ drop (d + 4) left = drop-drop d 4 left ∙ ap (λ (k : ℕ). drop k left) (omega arith) in
    let full : (is_whole_unit left && nat_le 2 d) ≡ true = ap (λ (b : Bool). b && nat_le 2 d) i.whole ∙ le_true 2 d i.some in
    let some_is : unit_bytes left ≡ Some bytes = ap (λ (b : Bool). if b then Some bytes else None) full in
    record {
      size = size;
      bytes = bytes;
      is = sym (take-append-drop 4 left) ∙ ap (λ (l : List ℕ). size ++ l) (sym (take-append-drop d behind)
          ∙ ap (λ (l : List ℕ). bytes ++ l) rest_is);
      size_is = length-take-le 4 left (omega arith);
      says = little_from-take 4 0 4 left (omega arith) ∙ sym bytes_is;
      walked = ap (λ (o : Option (List ℕ)). record { place = place; bytes = o; is_other = is_other_version 5 left }) some_is
          ∙ ap (λ (b : Bool). record { place = place; bytes = Some bytes; is_other = b }) f;
      version = little_from-take 2 0 d behind (let g = i.some in omega arith) ∙ i.version;
      some = subst (λ (n : ℕ). 2 ≤ n) (sym bytes_is) i.some;
      known = ap (λ (n : ℕ). n == DWARF64) bytes_is ∙ i.known;
    }

-- Good units fill the bytes in which they are found.
module _ (n place : ℕ) (left : List ℕ) (some : 0 < length left)
    (ih : (place : ℕ) (left : List ℕ) → length left ≤ n → AreGood (units_from n 5 place left) →
    AreWhole place (units_from n 5 place left) left) where
  whole_step : (whole : Bool) → length left ≤ suc n → is_whole_unit left ≡ whole →
      AreGood (record { place = place; bytes = unit_bytes left; is_other = is_other_version 5 left }
      ∷ (if whole then units_from n 5 (place + (unit_length left + 4)) (drop (unit_length left + 4) left) else [])) →
      AreWhole place (record { place = place; bytes = unit_bytes left; is_other = is_other_version 5 left }
      ∷ (if whole then units_from n 5 (place + (unit_length left + 4)) (drop (unit_length left + 4) left) else [])) left
  unfolding is_whole
  whole_step false h is good =
      let i : IsFront left = front_of left good.0 good.1 in
      let e : true ≡ false = sym i.whole ∙ is in absurd (cc)
  whole_step true h is good =
      let i : IsFront left = front_of left good.0 good.1 in
      let w : IsWhole place (record { place = place; bytes = unit_bytes left; is_other = is_other_version 5 left }) left
      (drop (unit_length left + 4) left) =
      is_whole place left good.0 good.1 in
      let size = i.inside in
      let less : length (drop (unit_length left + 4) left) ≤ n = let g = length-drop (unit_length left + 4) left in omega arith in
      let bytes_is : length w.bytes ≡ unit_length left = sym w.says ∙ little_from-take 4 0 4 left (omega arith) in
      let end_is : end_of (record { place = place; bytes = unit_bytes left; is_other = is_other_version 5 left }) ≡ place +
      (unit_length left + 4) =
      ap end_of w.walked ∙ (omega arith) in (
        drop (unit_length left + 4) left,
        w,
        subst (λ (k : ℕ). AreWhole k (units_from n 5 (place + (unit_length left + 4)) (drop (unit_length left + 4) left))
            (drop (unit_length left + 4) left)) (sym end_is)
            (ih (place + (unit_length left + 4)) (drop (unit_length left + 4) left) less good.2),
      )

pub units_whole : (n place : ℕ) (left : List ℕ) → length left ≤ n → AreGood (units_from n 5 place left) →
    AreWhole place (units_from n 5 place left) left
unfolding units_from
units_whole zero place [] h good = refl
units_whole zero place (b ∷ left) h good = absurd (omega arith)
units_whole (suc n) place [] h good = refl
units_whole (suc n) place (b ∷ left) h good =
    whole_step n place (b ∷ left) (omega arith) (λ place left h good. units_whole n place left h good)
    (is_whole_unit (b ∷ left)) h refl good

-- The converse.

tests_whole : (d size : ℕ) → d + 4 ≤ size → (d == DWARF64) ≡ false → (nat_le 4 size && not (d == DWARF64) && nat_le (d + 4) size) ≡ true
tests_whole d size inside known = rw known (grind (arith, nat_tests, common_steps))

tests_other : (d size : ℕ) → (d == DWARF64) ≡ false → (nat_le 4 size && ((d == DWARF64) || (nat_le 6 size && nat_le 2 d && not (5 == 5))))
    ≡ false
tests_other d size known = rw known (by_tests (nat_le 4 size) (nat_le 6 size) (nat_le 2 d)) where
  by_tests : (a b c : Bool) → (a && (b && c && false)) ≡ false
  by_tests false b c = refl
  by_tests true false c = refl
  by_tests true true false = refl
  by_tests true true true = refl

front_again : (n place : ℕ) (left : List ℕ) (d : ℕ) → unit_length left ≡ d → little_number 2 (drop 4 left) ≡ 5 → d + 4 ≤ length left →
    2 ≤ d → (d == DWARF64) ≡ false →
    units_from (suc n) 5 place left ≡ unit_at place (take d (drop 4 left)) ∷ units_from n 5 (place + (d + 4)) (drop (d + 4) left)
unfolding units_from
front_again n place [] d is other inside some known = absurd (omega arith)
front_again n place (b ∷ rest) d is other inside some known =
    rw (is, other, tests_whole d (length (b ∷ rest)) inside known, tests_other d (length (b ∷ rest)) known, le_true 2 d some) refl

nothing_left : (n place : ℕ) → units_from n 5 place [] ≡ []
unfolding units_from
nothing_left zero place = refl
nothing_left (suc n) place = refl

four_front : (xs ys : List ℕ) → length xs ≡ 4 → little_number 4 (xs ++ ys) ≡ little_number 4 xs
four_front xs ys e = sym (little_from-take 4 0 4 (xs ++ ys) (omega arith)) ∙ ap (λ (l : List ℕ). little_number 4 l) (take_at xs ys 4 e)

pub units_again : (n place : ℕ) (ws : List Walked) (left : List ℕ) → length left ≤ n → AreWhole place ws left →
    units_from n 5 place left ≡ ws
units_again n place [] left h whole = ap (λ (l : List ℕ). units_from n 5 place l) whole ∙ nothing_left n place
units_again zero place (w ∷ ws) left h (rest, i, more) =
    let g = ap length i.is ∙ length-append i.size (i.bytes ++ rest) in let s = i.size_is in absurd (omega arith)
units_again (suc n) place (w ∷ ws) left h (rest, i, more) =
    let d : ℕ = length i.bytes in
    let behind : List ℕ = i.bytes ++ rest in
    let four = i.size_is in
    let size : length left ≡ length i.size + (length i.bytes + length rest) =
    ap length i.is ∙ length-append i.size behind ∙ ap (λ (k : ℕ). length i.size + k) (length-append i.bytes rest) in
    let d4 : drop 4 left ≡ behind = ap (drop 4) i.is ∙ drop_at i.size behind 4 four in
    let says : unit_length left ≡ d = ap unit_length i.is ∙ four_front i.size behind four ∙ i.says in
    let other : little_number 2 (drop 4 left) ≡ 5 = ap (little_number 2) d4 ∙ two-front i.bytes rest i.some ∙ i.version in
    let bytes_is : take d (drop 4 left) ≡ i.bytes = ap (take d) d4 ∙ take_at i.bytes rest d refl in
    let four_d : 4 + d ≡ d + 4 = omega arith in
    let rest_is : drop (d + 4) left ≡ rest = ap (λ (k : ℕ). drop k left) (sym four_d)
    ∙ sym (drop-drop d 4 left ∙ ap (λ (k : ℕ). drop k left) refl) ∙ ap (drop d) d4 ∙ drop_at i.bytes rest d refl in
    let end_is : place + (d + 4) ≡ end_of w = sym (ap end_of i.walked ∙ (omega arith)) in
    front_again n place left d says other (omega arith) i.some i.known
    ∙ ap (λ (bytes : List ℕ). unit_at place bytes ∷ units_from n 5 (place + (d + 4)) (drop (d + 4) left)) bytes_is
    ∙ ap (λ (l : List ℕ). unit_at place i.bytes ∷ units_from n 5 (place + (d + 4)) l) rest_is
    ∙ ap (λ (k : ℕ). unit_at place i.bytes ∷ units_from n 5 k rest) end_is
    ∙ ap (λ (l : List Walked). unit_at place i.bytes ∷ l) (units_again n (end_of w) ws rest (omega arith) more)
    ∙ ap (λ (x : Walked). x ∷ ws) (sym i.walked)

-- None of them is of another version, and each has its bytes.
pub whole_good : (place : ℕ) (ws : List Walked) (left : List ℕ) → AreWhole place ws left → AreGood ws
whole_good place [] left whole = tt
whole_good place (w ∷ ws) left (rest, i, more) =
    (ap (λ (x : Walked). is_some x.bytes) i.walked, ap (λ (x : Walked). x.is_other) i.walked, whole_good (end_of w) ws rest more)
