-- Offsets of units in tables of `.debug_aranges` have 32 bits.
use Rattle.std.proofs.Common.{◌≡◌, ◌<◌, ◌+◌, ◌^◌, ℕ, zero, suc, Bool, true, false, List, [], ◌∷◌, Option, Some, None, Ok, Err, Result}
use Rattle.std.proofs.Common.{refl, sym, subst, arith, cond, get_or, length, drop, take, map, nat_lt, nat_le, option_map}
use Rattle.std.specs.Prelude.{◌==◌, ◌&&◌, All, find, if◌then◌else◌}
use Rattle.std.specs.List.{list_any}
use Rattle.std.proofs.lemmas.List.{get_or-drop}
use Rattle.std.proofs.lemmas.List.Elements.{All-cons, All-nil, All-head, All-tail}
use Rattle.byteorder.specs.Endian.{little_number}
use Rattle.byteorder.specs.Numbers.{little_from-lt}
use Rattle.rb_bytes.specs.declared.gap.Gap.{Gap}
use Rattle.rb_bytes.specs.declared.gap.Gap.TheVariants.{Short}
use Rattle.rb_bytes.specs.Readers.{and_then, bytes_at, number_read}
use Rattle.answer_runs.specs.AddressRanges.{holds_address}
use Rattle.answer_runs.specs.declared.range.Range.{Range}
use Rattle.table_core.specs.DebugUnits.{Walked, is_other_version, is_whole_unit, unit_bytes, unit_length, units_from, walked}
use Rattle.table_core.specs.ReadSteps.{and_so, oks}
use Rattle.dw_unit.specs.declared.trouble.Trouble.{Trouble}
use Rattle.dw_unit.specs.declared.trouble.Trouble.TheVariants.{Unsound}
use Rattle.dw_unit.specs.Trouble.{sound_if, whole}
use Rattle.addr_rewrite.specs.Aranges.{AddressTable, address_tables, pairs_within, table_in, table_of, unit_at}

abbrev Bytes : List ℕ → Type 0
Bytes left = (k : ℕ) → get_or left k 0 < 256

behind : (n : ℕ) (left : List ℕ) → Bytes left → Bytes (drop n left)
behind n left bytes k = subst (λ (x : ℕ). x < 256) (sym (get_or-drop n left k 0)) (bytes (n + k))

front : (n : ℕ) (left : List ℕ) → Bytes left → Bytes (take n left)
front zero left bytes k = omega arith
front (suc n) [] bytes k = omega arith
front (suc n) (b ∷ left) bytes zero = bytes 0
front (suc n) (b ∷ left) bytes (suc k) = front n left (λ j. bytes (suc j)) k

-- The bytes of tables that a walk finds

abbrev HasBytes : Walked → Type 0
HasBytes w = (b : List ℕ) → w.bytes ≡ Some b → Bytes b

unit_has : (test : Bool) (n : ℕ) (left b : List ℕ) → Bytes left → (if test then Some (take n (drop 4 left)) else None) ≡ Some b → Bytes b
unit_has true n left b bytes e =
    let same : take n (drop 4 left) ≡ b = cc in
    subst Bytes same (front n (drop 4 left) (behind 4 left bytes))
unit_has false n left b bytes e = absurd (cc)

all_have : (n version place : ℕ) (left : List ℕ) → Bytes left → All HasBytes (units_from n version place left)
unfolding units_from
all_have zero version place left bytes = All-nil HasBytes
all_have (suc n) version place [] bytes = All-nil HasBytes
all_have (suc n) version place (b ∷ rest) bytes =
    All-cons HasBytes (record { place = place; bytes = unit_bytes (b ∷ rest); is_other = is_other_version version (b ∷ rest) }) _
    (λ l e. unit_has (is_whole_unit (b ∷ rest) && nat_le 2 (unit_length (b ∷ rest))) (unit_length (b ∷ rest)) (b ∷ rest) l bytes e)
    (rest_has (is_whole_unit (b ∷ rest)) (λ p l h. all_have n version p l h)) where
      rest_has : (whole : Bool) → ((p : ℕ) (l : List ℕ) → Bytes l → All HasBytes (units_from n version p l)) →
          All HasBytes (if whole then units_from n version (place + (unit_length (b ∷ rest) + 4))
          (drop (unit_length (b ∷ rest) + 4) (b ∷ rest)) else [])
      rest_has true ih =
          ih (place + (unit_length (b ∷ rest) + 4)) (drop (unit_length (b ∷ rest) + 4) (b ∷ rest))
          (behind (unit_length (b ∷ rest) + 4) (b ∷ rest) bytes)
      rest_has false ih = All-nil HasBytes

-- The unit of a table

abbrev IsSmall : AddressTable → Type 0
IsSmall t = t.unit < 2 ^ 32

abbrev Tables : Type 0
Tables = Result AddressTable Trouble

small_pairs : (unit : ℕ) (r : Result (List Range) Trouble) (t : AddressTable) → unit < 2 ^ 32 →
    ◌≡◌ {A = Tables} (and_so r (λ ranges. Ok (record { unit = unit; ranges = ranges }))) (Ok t) → IsSmall t
small_pairs unit (Err e) t h is = absurd (cc)
small_pairs unit (Ok ranges) t h is =
    let same : record { unit = unit; ranges = ranges } ≡ t = cc in
    subst IsSmall same h

small_behind : (unit : ℕ) (test : Bool) (left : List ℕ) (t : AddressTable) → unit < 2 ^ 32 →
    ◌≡◌ {A = Tables} (if test then and_so (pairs_within (length left) left) (λ ranges. Ok (record { unit = unit; ranges = ranges })) else
    Err Unsound) (Ok t) →
    IsSmall t
small_behind unit true left t h is = small_pairs unit (pairs_within (length left) left) t h is
small_behind unit false left t h is = absurd (cc)

small_padded : (unit sizes : ℕ) (r : Result (List ℕ × List ℕ) Gap) (t : AddressTable) → unit < 2 ^ 32 →
    ◌≡◌ {A = Tables} (and_then (whole r) (λ _ left4.
    if sizes == 8 then and_so (pairs_within (length left4) left4) (λ ranges. Ok (record { unit = unit; ranges = ranges })) else Err
    Unsound)) (Ok t) →
    IsSmall t
small_padded unit sizes (Err gap) t h is = absurd (cc)
small_padded unit sizes (Ok read) t h is = small_behind unit (sizes == 8) read.1 t h is

small_sized : (unit : ℕ) (r : Result (ℕ × List ℕ) Gap) (t : AddressTable) → unit < 2 ^ 32 →
    ◌≡◌ {A = Tables} (and_then (whole r) (λ sizes left3. and_then (whole (bytes_at 4 left3)) (λ _ left4.
    if sizes == 8 then and_so (pairs_within (length left4) left4) (λ ranges. Ok (record { unit = unit; ranges = ranges })) else Err
    Unsound))) (Ok t) →
    IsSmall t
small_sized unit (Err gap) t h is = absurd (cc)
small_sized unit (Ok read) t h is = small_padded unit read.0 (bytes_at 4 read.1) t h is

small_number : (short : Bool) (left : List ℕ) (t : AddressTable) → Bytes left →
    ◌≡◌ {A = Tables} (and_then (whole (cond short (Err Short) (Ok (little_number 4 left, drop 4 left)))) (λ unit left2.
    and_then (whole (number_read 2 left2)) (λ sizes left3. and_then (whole (bytes_at 4 left3)) (λ _ left4.
    if sizes == 8 then and_so (pairs_within (length left4) left4) (λ ranges. Ok (record { unit = unit; ranges = ranges })) else Err
    Unsound)))) (Ok t) →
    IsSmall t
small_number true left t bytes is = absurd (cc)
small_number false left t bytes is =
    let n = little_from-lt 0 4 left bytes in
    small_sized (little_number 4 left) (number_read 2 (drop 4 left)) t (omega arith) is

small_in : (short : Bool) (left : List ℕ) (t : AddressTable) → Bytes left →
    ◌≡◌ {A = Tables} (and_then (whole (cond short (Err Short) (Ok (little_number 2 left, drop 2 left)))) (λ version left1.
    and_then (whole (number_read 4 left1)) (λ unit left2.
    and_then (whole (number_read 2 left2)) (λ sizes left3. and_then (whole (bytes_at 4 left3)) (λ _ left4.
    if sizes == 8 then and_so (pairs_within (length left4) left4) (λ ranges. Ok (record { unit = unit; ranges = ranges })) else Err
    Unsound))))) (Ok t) →
    IsSmall t
small_in true left t bytes is = absurd (cc)
small_in false left t bytes is =
    small_number (nat_lt (length (drop 2 left)) 4) (drop 2 left) t (behind 2 left bytes) is

small_of : (o : Option (List ℕ)) (t : AddressTable) → ((b : List ℕ) → o ≡ Some b → Bytes b) →
    ◌≡◌ {A = Tables} (and_so (sound_if o) table_in) (Ok t) → IsSmall t
small_of None t bytes is = absurd (cc)
small_of (Some b) t bytes is = small_in (nat_lt (length b) 2) b t (bytes b refl) is

all_small : (ws : List Walked) → All HasBytes ws → All IsSmall (oks (map table_of ws))
all_small [] have = All-nil IsSmall
all_small (w ∷ ws) have = by (table_of w) refl (all_small ws (All-tail HasBytes w ws have)) where
  by : (r : Tables) → table_of w ≡ r → All IsSmall (oks (map table_of ws)) → All IsSmall (oks (r ∷ map table_of ws))
  by (Ok t) e more = All-cons IsSmall t (oks (map table_of ws)) (small_of w.bytes t (All-head HasBytes w ws have) e) more
  by (Err e) f more = more

found_small : (p : AddressTable → Bool) (ts : List AddressTable) (u : ℕ) → All IsSmall ts →
    option_map (λ (t : AddressTable). t.unit) (find p ts) ≡ Some u → u < 2 ^ 32
found_small p [] u small e = absurd (cc)
found_small p (t ∷ ts) u small e = by (p t) (found_small p ts u (All-tail IsSmall t ts small)) e where
  by : (b : Bool) → (option_map (λ (t : AddressTable). t.unit) (find p ts) ≡ Some u → u < 2 ^ 32) →
      option_map (λ (t : AddressTable). t.unit) (cond b (Some t) (find p ts)) ≡ Some u → u < 2 ^ 32
  by true more e =
      let same : t.unit ≡ u = cc in
      subst (λ (n : ℕ). n < 2 ^ 32) same (All-head IsSmall t ts small)
  by false more e = more e

pub units_small : (section : List ℕ) → ((k : ℕ) → get_or section k 0 < 256) → (a u : ℕ) → unit_at section a ≡ Some u → u < 2 ^ 32
units_small section bytes a u e =
    found_small (λ (t : AddressTable). list_any (holds_address a) t.ranges) (address_tables section) u
    (all_small (walked 2 section) (all_have (length section) 2 0 section bytes)) e
