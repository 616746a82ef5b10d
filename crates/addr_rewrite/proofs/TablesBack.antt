-- Written tables are read back.
use Rattle.std.proofs.Common.{◌≡◌, ◌∙◌, ◌<◌, ◌≤◌, ◌-◌, ◌+◌, ◌*◌, ◌^◌, ◌==◌, ◌&&◌, ◌++◌, ℕ, zero, suc, List, [], ◌∷◌, Bool, false}
use Rattle.std.proofs.Common.{Some, None, Ok, Result, refl, ap, arith, length, take, drop, map, length-append}
use Rattle.std.specs.Prelude.{All, if◌then◌else◌}
use Rattle.std.proofs.lemmas.Bool.Decides.{nat_tests}
use Rattle.std.proofs.lemmas.Grind.{common_steps}
use Rattle.std.proofs.lemmas.List.Elements.{All-cons, All-nil, All-head, All-tail, All-take, All-drop}
use Rattle.byteorder.specs.Endian.{little_number, little_bytes}
use Rattle.byteorder.specs.Numbers.{little_number-reads_back}
use Rattle.rb_bytes.specs.Readers.{bytes_at}
use Rattle.rb_bytes.proofs.SpelledBack.{length-little, number_back, bytes_back}
use Rattle.answer_runs.specs.declared.range.Range.{Range}
use Rattle.table_core.specs.WrittenUnits.{IsUnit}
use Rattle.table_core.specs.ReadSteps.{with_head}
use Rattle.dw_unit.specs.declared.trouble.Trouble.{Trouble}
use Rattle.addr_rewrite.specs.Aranges.{AddressTable, pairs_within, table_in}
use Rattle.addr_rewrite.specs.ArangesReading.{pair_at}
use Rattle.addr_rewrite.specs.WrittenAranges.{count_of, pairs_bytes, table_bytes, tables_of}
use Rattle.addr_rewrite.specs.declared.stretch.Stretch.{Stretch}
use Rattle.addr_rewrite.proofs.PairSteps.{by_pair, unfold_pairs}

padding_back : (rest : List ℕ) → bytes_at 4 (little_bytes 4 0 ++ rest) ≡ Ok (little_bytes 4 0, rest)
padding_back rest = bytes_back (little_bytes 4 0) rest

-- Pairs

-- A stretch whose pair doesn't end a table.
pub record IsStretch (s : Stretch) : Type 0 where
  pub start : s.start < 2 ^ 64
  pub some : 0 < s.len
  pub len : s.len < 2 ^ 64

abbrev pub range_of : Stretch → Range
range_of s = record { low = s.start; high = s.start + s.len }

pair_back : (x y : ℕ) (rest : List ℕ) → x < 2 ^ 64 → y < 2 ^ 64 →
    pair_at (little_bytes 8 x ++ (little_bytes 8 y ++ rest))
    ≡ Ok ((if x == 0 && y == 0 then None else Some (record { low = x; high = x + y })), rest)
pair_back x y rest h k = rw (number_back 8 x (little_bytes 8 y ++ rest) h, number_back 8 y rest k) refl

some_pair : (x y : ℕ) → 0 < y → (x == 0 && y == 0) ≡ false
some_pair x y h = grind (arith, nat_tests, common_steps)

stretch_back : (s : Stretch) (rest : List ℕ) → IsStretch s →
    pair_at (little_bytes 8 s.start ++ (little_bytes 8 s.len ++ rest)) ≡ Ok (Some (range_of s), rest)
stretch_back s rest is =
    pair_back s.start s.len rest is.start is.len
    ∙ ap (λ (b : Bool). Ok ((if b then None else Some (range_of s)), rest)) (some_pair s.start s.len is.some)

pub pairs_back : (n : ℕ) (ss : List Stretch) → All IsStretch ss → length ss < n →
    pairs_within n (pairs_bytes ss) ≡ Ok (map range_of ss)
unfolding pairs_bytes
pairs_back zero ss are h = absurd (omega arith)
pairs_back (suc n) [] are h =
    unfold_pairs n (little_bytes 8 0 ++ (little_bytes 8 0 ++ []))
    ∙ ap (by_pair (pairs_within n)) (pair_back 0 0 [] (omega arith) (omega arith))
pairs_back (suc n) (s ∷ ss) are h =
    unfold_pairs n (little_bytes 8 s.start ++ (little_bytes 8 s.len ++ pairs_bytes ss))
    ∙ ap (by_pair (pairs_within n)) (stretch_back s (pairs_bytes ss) (All-head IsStretch s ss are))
    ∙ ap (with_head (range_of s)) (pairs_back n ss (All-tail IsStretch s ss are) (omega arith))

pub pairs_size : (ss : List Stretch) → length (pairs_bytes ss) ≡ 16 + 16 * length ss
unfolding pairs_bytes
pairs_size [] = omega arith
pairs_size (s ∷ ss) =
    let more = pairs_size ss in
    let a = length-append (little_bytes 8 s.start) (little_bytes 8 s.len ++ pairs_bytes ss) in
    let b = length-append (little_bytes 8 s.len) (pairs_bytes ss) in
    let c = length-little 8 s.start in
    let d = length-little 8 s.len in
    omega (arith, more, a, b, c, d)

-- Tables

pub table_size : (unit : ℕ) (ss : List Stretch) → length (table_bytes unit ss) ≡ 28 + 16 * length ss
unfolding table_bytes
table_size unit ss =
    let pairs = pairs_size ss in
    let a = length-append (little_bytes 2 2) (little_bytes 4 unit ++ (little_bytes 2 8 ++ (little_bytes 4 0 ++ pairs_bytes ss))) in
    let b = length-append (little_bytes 4 unit) (little_bytes 2 8 ++ (little_bytes 4 0 ++ pairs_bytes ss)) in
    let c = length-append (little_bytes 2 8) (little_bytes 4 0 ++ pairs_bytes ss) in
    let d = length-append (little_bytes 4 0) (pairs_bytes ss) in
    let e = length-little 2 2 in
    let f = length-little 4 unit in
    let g = length-little 2 8 in
    let h = length-little 4 0 in
    omega (arith, pairs, a, b, c, d, e, f, g, h)

pub table_back : (unit : ℕ) (ss : List Stretch) → unit < 2 ^ 32 → All IsStretch ss →
    table_in (table_bytes unit ss) ≡ Ok (record { unit = unit; ranges = map range_of ss })
unfolding table_bytes
table_back unit ss h are =
    let enough : length ss < length (pairs_bytes ss) = omega (arith, pairs_size ss) in
    rw (
      number_back 2 2 (little_bytes 4 unit ++ (little_bytes 2 8 ++ (little_bytes 4 0 ++ pairs_bytes ss))) (omega arith),
      number_back 4 unit (little_bytes 2 8 ++ (little_bytes 4 0 ++ pairs_bytes ss)) h,
      number_back 2 8 (little_bytes 4 0 ++ pairs_bytes ss) (omega arith),
      padding_back (pairs_bytes ss),
      pairs_back (length (pairs_bytes ss)) ss are enough,
    ) refl

version_back : (unit : ℕ) (ss : List Stretch) → little_number 2 (table_bytes unit ss) ≡ 2
unfolding table_bytes
version_back unit ss =
    little_number-reads_back 2 2 (little_bytes 4 unit ++ (little_bytes 2 8 ++ (little_bytes 4 0 ++ pairs_bytes ss))) (omega arith)

pub table_is_unit : (unit : ℕ) (ss : List Stretch) → 28 + 16 * length ss < 2 ^ 32 - 1 → IsUnit 2 (table_bytes unit ss)
table_is_unit unit ss h = let n = table_size unit ss in record {
  is_version = version_back unit ss;
  some = omega (arith, n);
  small = omega (arith, n);
}

-- All tables

-- The tables that are read from the written ones.
unfoldable pub told_tables : ℕ → List Stretch → List AddressTable
told_tables n [] = []
told_tables zero (s ∷ ss) = []
told_tables (suc n) (s ∷ ss) =
    record { unit = s.unit; ranges = map range_of (s ∷ take (count_of s.unit ss) ss) }
    ∷ told_tables n (drop (count_of s.unit ss) ss)

abbrev pub IsWritten : Stretch → Type 0
IsWritten s = IsStretch s × (s.unit < 2 ^ 32)

all_stretches : (ss : List Stretch) → All IsWritten ss → All IsStretch ss
all_stretches [] are = All-nil IsStretch
all_stretches (s ∷ ss) are = All-cons IsStretch s ss (All-head IsWritten s ss are).0 (all_stretches ss (All-tail IsWritten s ss are))

front_written : (k : ℕ) (s : Stretch) (ss : List Stretch) → All IsWritten (s ∷ ss) → All IsWritten (s ∷ take k ss)
front_written k s ss are =
    All-cons IsWritten s (take k ss) (All-head IsWritten s ss are) (All-take IsWritten k ss (All-tail IsWritten s ss are))

pub fewer : (k : ℕ) (ss : List Stretch) → length (drop k ss) ≤ length ss
fewer k ss = grind (arith, common_steps)

pub front_fewer : (k : ℕ) (ss : List Stretch) → length (take k ss) ≤ length ss
front_fewer k ss = grind (arith, common_steps)

pub all_units : (n : ℕ) (ss : List Stretch) → 28 + 16 * length ss < 2 ^ 32 - 1 → All (IsUnit 2) (tables_of n ss)
unfolding tables_of
all_units zero [] h = All-nil (IsUnit 2)
all_units (suc n) [] h = All-nil (IsUnit 2)
all_units zero (s ∷ ss) h = All-nil (IsUnit 2)
all_units (suc n) (s ∷ ss) h =
    let k : ℕ = count_of s.unit ss in
    let less = front_fewer k ss in
    let rest = fewer k ss in
    All-cons (IsUnit 2) (table_bytes s.unit (s ∷ take k ss)) (tables_of n (drop k ss))
    (table_is_unit s.unit (s ∷ take k ss) (omega (arith, less)))
    (all_units n (drop k ss) (omega (arith, rest)))

abbrev pub sound : AddressTable → Result AddressTable Trouble
sound t = Ok t

pub all_told : (n : ℕ) (ss : List Stretch) → All IsWritten ss → map table_in (tables_of n ss) ≡ map sound (told_tables n ss)
unfolding tables_of told_tables
all_told zero [] are = refl
all_told (suc n) [] are = refl
all_told zero (s ∷ ss) are = refl
all_told (suc n) (s ∷ ss) are =
    let k : ℕ = count_of s.unit ss in
    let here = table_back s.unit (s ∷ take k ss) (All-head IsWritten s ss are).1 (all_stretches (s ∷ take k ss) (front_written k s ss are))
    in
    let more = all_told n (drop k ss) (All-drop IsWritten k ss (All-tail IsWritten s ss are)) in
    λ i. here i ∷ more i
