-- Written numbers and entries are read back.
use Rattle.std.proofs.Common.{ℕ, ◌^◌, ◌<◌, ◌≡◌, List, [], ◌∷◌, ◌++◌, Ok, Result, ltb, false, refl, sym, ◌∙◌, ap, arith, length, take, drop}
use Rattle.std.proofs.Common.{append_assoc, length-append}
use Rattle.std.proofs.lemmas.Bool.Decides.{nat_tests}
use Rattle.std.proofs.lemmas.Grind.{common_steps}
use Rattle.byteorder.specs.Endian.{little_number, little_bytes}
use Rattle.byteorder.specs.Numbers.{little_number-reads_back, length-bytes_low_first}
use Rattle.rb_bytes.specs.Readers.{number_read, bytes_at, and_then}
use Rattle.rb_bytes.specs.Leb.{uleb}
use Rattle.rb_bytes.proofs.UnsignedLeb.{IsShortestUleb-uleb}
use Rattle.dw_unit.specs.Trouble.{Read, whole}
use Rattle.dw_lists.specs.declared.list_bound.Address.TheVariants.{Here}
use Rattle.dw_lists.specs.declared.list_bound.Bound.{Bound}
use Rattle.dw_lists.specs.declared.list_bound.Bound.TheVariants.{Onward}
use Rattle.dw_lists.specs.declared.list_kind.ListKind.{ListKind}
use Rattle.dw_lists.specs.declared.list_kind.ListKind.TheVariants.{Ranges, Locations}
use Rattle.list_writer.specs.ListBytes.{Bounded, IsWritable, stretch_bytes, entry_bytes}
use Rattle.dw_lists.specs.ListEntries.{Item, uleb_then, onward_at, expression_at}
use Rattle.dw_lists.specs.ListReading.{item_of}

drop_all : (xs ys : List ℕ) (n : ℕ) → n ≡ length xs → drop n (xs ++ ys) ≡ ys
drop_all xs ys n e = grind (arith, common_steps)

take_all : (xs ys : List ℕ) (n : ℕ) → n ≡ length xs → take n (xs ++ ys) ≡ xs
take_all xs ys n e = grind (arith, common_steps)

read_pair : {X : Type 0} (a b : X) (r t : List ℕ) → a ≡ b → r ≡ t → ◌≡◌ {A = Read X} (Ok (a, r)) (Ok (b, t))
read_pair a b r t e f = cc

pub length-little : (n d : ℕ) → length (little_bytes n d) ≡ n
length-little n d = length-bytes_low_first 0 n d

number-back : (n d : ℕ) (rest : List ℕ) → d < 256 ^ n → whole (number_read n (little_bytes n d ++ rest)) ≡ Ok (d, rest)
number-back n d rest f =
    let l : n ≡ length (little_bytes n d) = sym (length-little n d) in
    let v : little_number n (little_bytes n d ++ rest) ≡ d = little_number-reads_back n d rest f in
    let r : drop n (little_bytes n d ++ rest) ≡ rest = drop_all (little_bytes n d) rest n l in
    let t : ltb (length (little_bytes n d ++ rest)) n ≡ false = grind (arith, nat_tests, length-append {A = ℕ}) in
    rw t (read_pair _ d _ rest v r)

pub byte-back : (b : ℕ) (rest : List ℕ) → whole (number_read 1 (b ∷ rest)) ≡ Ok (b, rest)
byte-back b rest =
    let t : ltb (length (b ∷ rest)) 1 ≡ false = grind (arith, nat_tests) in
    let v : little_number 1 (b ∷ rest) ≡ b = omega arith in
    rw t (read_pair _ b _ rest v refl)

uleb-back : {X : Type 0} (n : ℕ) (rest : List ℕ) (next : ℕ → List ℕ → Read X) → n < 2 ^ 64 → uleb_then (uleb n ++ rest) next ≡ next n rest
uleb-back n rest next h = ap (λ (r : Result (ℕ × List ℕ) _). and_then (whole r) next) ((IsShortestUleb-uleb n h).reads_back rest)

bytes-back : (b rest : List ℕ) → whole (bytes_at (length b) (b ++ rest)) ≡ Ok (b, rest)
bytes-back b rest =
    let t : ltb (length (b ++ rest)) (length b) ≡ false = grind (arith, nat_tests, length-append {A = ℕ}) in
    rw t (read_pair _ b _ rest (take_all b rest (length b) refl) (drop_all b rest (length b) refl))

-- Addresses, after the kind of their entry.
stretch-back : (start len : ℕ) (rest : List ℕ) → start < 2 ^ 64 → len < 2 ^ 64 →
    onward_at false (stretch_bytes start len ++ rest) ≡ Ok (Onward (Here start) len, rest)
stretch-back start len rest s l =
    ap (onward_at false) (append_assoc (little_bytes 8 start) (uleb len) rest)
    ∙ ap (λ (r : Read ℕ). and_then (and_then r (λ n left. Ok (Here n, left)))
    (λ a left1. uleb_then left1 (λ n left2. Ok (Onward a n, left2))))
    (number-back 8 start (uleb len ++ rest) s)
    ∙ uleb-back len rest _ l

-- An entry, and the bytes after its kind.
abbrev pub item_at : Bounded → Item
item_at b = record { bound = Onward (Here b.start) b.len; expression = b.expression }

abbrev pub entry_kind : ListKind → ℕ
entry_kind Ranges = 7
entry_kind Locations = 8

abbrev pub entry_rest : ListKind → Bounded → List ℕ
entry_rest Ranges b = stretch_bytes b.start b.len
entry_rest Locations b = stretch_bytes b.start b.len ++ (uleb (length b.expression) ++ b.expression)

pub entry_parts : (kind : ListKind) (b : Bounded) → entry_bytes kind b ≡ entry_kind kind ∷ entry_rest kind b
entry_parts Ranges b = refl
entry_parts Locations b = refl

pub entry-back : (kind : ListKind) (b : Bounded) (rest : List ℕ) → IsWritable kind b →
    item_of kind (entry_kind kind) (entry_rest kind b ++ rest) ≡ Ok (item_at b, rest)
entry-back Ranges b rest w =
    ap (λ (r : Read Bound). and_then r (λ c left. Ok (record { bound = c; expression = [] }, left)))
    (stretch-back b.start b.len rest w.start w.len)
    ∙ ap (λ (x : List ℕ). Ok (record { bound = Onward (Here b.start) b.len; expression = x }, rest)) (sym w.expression)
entry-back Locations b rest w =
    ap (item_of Locations 8) (assoc (stretch_bytes b.start b.len) (uleb (length b.expression)) b.expression rest)
    ∙ ap (λ (r : Read Bound). and_then r (λ c left. expressed c (expression_at c left)))
    (stretch-back b.start b.len (uleb (length b.expression) ++ (b.expression ++ rest)) w.start w.len)
    ∙ ap (expressed (Onward (Here b.start) b.len)) (uleb-back (length b.expression) (b.expression ++ rest) _ w.expression
    ∙ bytes-back b.expression rest)
  where
    expressed : Bound → Read (List ℕ) → Read Item
    expressed c read = and_then read (λ y left. Ok (record { bound = c; expression = y }, left))

    assoc : (x y z r : List ℕ) → ((x ++ (y ++ z)) ++ r) ≡ x ++ (y ++ (z ++ r))
    assoc x y z r = simp append_assoc
