-- Values in memory: the bytes that a store writes of a value are represented by the bytes of its number, and the value that a load reads is
-- represented by the number of its bytes.
use Rattle.std.proofs.Common.{◌≡◌, ℕ, zero, suc, ◌+◌, ◌*◌, ◌/◌, ◌%◌, ◌^◌, ◌<◌, ◌≤◌, List, [], ◌∷◌, length, Some}
use Rattle.std.proofs.Common.{None, Bool, true, false, refl, sym, ap, ◌∙◌, arith, inl, inr, ◌⊎◌, div-one}
use Rattle.std.specs.Prelude.{if◌then◌else◌, ◌==◌, ◌&&◌, nat_le, IfSome, map}
use Rattle.std.proofs.Math.Nat.{div-div-eq-div-mul, one-le-pow}
use Rattle.std.proofs.lemmas.Bool.{eqb-true, and_parts, leb-true}
use Rattle.rv_code.specs.declared.action.Extension.{Extension}
use Rattle.rv_code.specs.declared.action.Extension.TheVariants.{Signed8, Signed16, Signed32, Whole64, Zero8, Zero16, Zero32}
use Rattle.rv_code.specs.isa.Extension.{bytes_of, extended}
use Rattle.rv_code.specs.machine.Machine.{little, low_bytes}
use Rattle.rv_code.specs.isa.TwosComplement.{unsigned64}
use Rattle.std.specs.Int.{w8, w16, w32, cast_signed}
use Rattle.std.proofs.lemmas.Grind.{common_steps}
use Rattle.sym_machine.specs.declared.value.Pointer.{Pointer}
use Rattle.sym_machine.specs.declared.value.Pointer.TheVariants.{Code, Ret}
use Rattle.sym_machine.specs.declared.value.Comparing.{Comparing}
use Rattle.sym_machine.specs.declared.value.Comparing.TheVariants.{Sub, Xor}
use Rattle.sym_machine.specs.declared.value.Signedness.{Signedness}
use Rattle.sym_machine.specs.declared.value.Signedness.TheVariants.{Signed, Unsigned}
use Rattle.sym_machine.specs.declared.value.CodeSymbol.{CodeSymbol}
use Rattle.sym_machine.specs.declared.value.CodeSymbol.TheVariants.{Points, Hi, Abs, Diff, Apart}
use Rattle.sym_machine.specs.declared.value.Value.{Value}
use Rattle.sym_machine.specs.declared.value.Value.TheVariants.{Num, Sym, Piece}
use Rattle.sym_machine.specs.declared.value.MemoryByte.{MemoryByte}
use Rattle.sym_machine.specs.declared.value.MemoryByte.TheVariants.{Byte, SymbolByte, Hidden}
use Rattle.sym_machine.specs.Values.{same_pointer, same_comparing, same_symbol, numbers, symbol_bytes, are_symbol_bytes}
use Rattle.sym_machine.specs.Values.{stored, IsSymbol, IsWidth}
use Rattle.sym_machine.specs.Rules.{piece, loaded_symbol, loaded}
use Rattle.move_law.specs.Rewrite.{Rewrite}
use Rattle.move_law.specs.RelocatedValues.{number_of_symbol, extension_of, bytes_from}
use Rattle.move_law.specs.SimulationRelation.{IsGiven, StandsFor, StandsForByte}
use Rattle.rv_code.proofs.machine.LowBytes.{low_rest, little_low_bytes}
use Rattle.rv_code.proofs.machine.RelatedMemory.{Alike}
use Rattle.move_law.proofs.values.Arithmetic.{Symbols, only_stands, number_stands}

same_pointer-true : (p q : Pointer) → same_pointer p q ≡ true → p ≡ q
same_pointer-true (Code a) (Code b) e = ap Code (eqb-true a b e)
same_pointer-true (Ret a) (Ret b) e = ap Ret (eqb-true a b e)
same_pointer-true (Code a) (Ret b) e = absurd (cc)
same_pointer-true (Ret a) (Code b) e = absurd (cc)

same_comparing-true : (b c : Comparing) → same_comparing b c ≡ true → b ≡ c
same_comparing-true Sub Sub e = refl
same_comparing-true Xor Xor e = refl
same_comparing-true Sub Xor e = absurd (cc)
same_comparing-true Xor Sub e = absurd (cc)

pub same_symbol-true : (y z : CodeSymbol) → same_symbol y z ≡ true → y ≡ z
same_symbol-true (Points p) (Points q) e = ap Points (same_pointer-true p q e)
same_symbol-true (Hi a) (Hi b) e = ap Hi (eqb-true a b e)
same_symbol-true (Abs a) (Abs b) e = ap Abs (eqb-true a b e)
same_symbol-true (Diff a c) (Diff b d) e = grind (arith, common_steps, and_parts, eqb-true)
same_symbol-true (Apart b p q) (Apart c s t) e = grind (arith, common_steps, and_parts, same_comparing-true, same_pointer-true)
same_symbol-true _ _ e = absurd (cc)

-- the next byte of a number
next_byte : (x m i : ℕ) → x ≡ m / 256 ^ i → x / 256 ≡ m / 256 ^ suc i
next_byte x m i e = let p : 256 ^ suc i ≡ 256 ^ i * 256 = grind arith in rw (e, p) (div-div-eq-div-mul m (256 ^ i) 256)

-- Numbers.

pub bytes_alike : (r : Rewrite) (bs : List ℕ) → Alike (StandsForByte r) (map Byte bs) bs
bytes_alike r [] = tt
bytes_alike r (b ∷ bs) = (record { made = tt; given = tt; byte = refl }, bytes_alike r bs)

pub numbers_alike : (r : Rewrite) (cs : List MemoryByte) (bs : List ℕ) → Alike (StandsForByte r) cs bs →
    IfSome (numbers cs) (λ ns. bs ≡ ns)
numbers_alike r [] [] h = refl
numbers_alike r [] (b ∷ bs) h = absurd h
numbers_alike r (d ∷ cs) [] h = absurd h
numbers_alike r (SymbolByte y w i ∷ cs) (b ∷ bs) h = tt
numbers_alike r (Hidden ∷ cs) (b ∷ bs) h = tt
numbers_alike r (Byte a ∷ cs) (b ∷ bs) h = grind (arith, common_steps, numbers_alike r cs bs h.1)

-- Stores.

parts_alike : (r : Rewrite) (y : CodeSymbol) (w i n x : ℕ) → IsSymbol y → IsGiven r y → IsWidth w → i + n ≤ w →
    x ≡ number_of_symbol r y / 256 ^ i → Alike (StandsForByte r) (symbol_bytes y w i n) (low_bytes n x)
unfolding symbol_bytes low_bytes
parts_alike r y w i zero x s g wide fits e = tt
parts_alike r y w i (suc n) x s g wide fits e = (
  record { made = (s, wide, omega (arith, fits)); given = g; byte = rw e (one_byte (number_of_symbol r y / 256 ^ i)) },
  parts_alike r y w (suc i) n (x / 256) s g wide (omega (arith, fits)) (next_byte x (number_of_symbol r y) i e),
)
  where
    one_byte : (m : ℕ) → m % 256 ≡ m % 256 ^ 1
    one_byte m = omega arith

-- the sizes of stores
abbrev pub IsSize : ℕ → Type 0
IsSize n = (n ≡ 1) ⊎ ((n ≡ 2) ⊎ ((n ≡ 4) ⊎ (n ≡ 8)))

size_fits : (n : ℕ) → IsSize n → 0 + n ≤ (if n == 4 then 4 else 8)
size_fits n (inl e) = rw e (omega arith)
size_fits n (inr (inl e)) = rw e (omega arith)
size_fits n (inr (inr (inl e))) = rw e (omega arith)
size_fits n (inr (inr (inr e))) = rw e (omega arith)

width_is : (n : ℕ) → IsWidth (if n == 4 then 4 else 8)
width_is n = grind (arith, common_steps)

low_bytes_same : (n x y : ℕ) → x % 256 ^ n ≡ y % 256 ^ n → low_bytes n x ≡ low_bytes n y
unfolding low_bytes
low_bytes_same zero x y e = refl
low_bytes_same (suc n) x y e =
    let p : 256 ^ suc n ≡ 256 * 256 ^ n = grind arith in
    let h : 0 < 256 ^ n = one-le-pow n 256 (omega arith) in
    let sums : x % 256 + 256 * (x / 256 % 256 ^ n) ≡ y % 256 + 256 * (y / 256 % 256 ^ n) = low_rest x (256 ^ n) h
    ∙ ap (λ (d : ℕ). x % d) (sym p) ∙ e ∙ ap (λ (d : ℕ). y % d) p ∙ sym (low_rest y (256 ^ n) h) in
    let first : x % 256 ≡ y % 256 = omega (arith, sums) in
    let rest : x / 256 % 256 ^ n ≡ y / 256 % 256 ^ n = omega (arith, sums) in
    let others = low_bytes_same n (x / 256) (y / 256) rest in
    rw (first, others) refl

of_one : (n x m : ℕ) → n ≤ 1 → x % 256 ≡ m % 256 → x % 256 ^ n ≡ m % 256 ^ n
of_one zero x m h e = omega arith
of_one (suc zero) x m h e = omega (arith, e)
of_one (suc (suc n)) x m h e = absurd (omega (arith, h))

of_two : (n x m : ℕ) → n ≤ 2 → x % 65536 ≡ m % 65536 → x % 256 ^ n ≡ m % 256 ^ n
of_two (suc (suc zero)) x m h e = omega (arith, e)
of_two zero x m h e = omega arith
of_two (suc zero) x m h e = omega (arith, e)
of_two (suc (suc (suc n))) x m h e = absurd (omega (arith, h))

of_four : (n x m : ℕ) → n ≤ 4 → x % 4294967296 ≡ m % 4294967296 → x % 256 ^ n ≡ m % 256 ^ n
of_four zero x m h e = omega arith
of_four (suc zero) x m h e = omega (arith, e)
of_four (suc (suc zero)) x m h e = omega (arith, e)
of_four (suc (suc (suc zero))) x m h e = omega (arith, e)
of_four (suc (suc (suc (suc zero)))) x m h e = omega (arith, e)
of_four (suc (suc (suc (suc (suc n))))) x m h e = absurd (omega (arith, h))

small8 : (x : ℕ) → x < 256 → unsigned64 (cast_signed w8 x) % 256 ≡ x
small8 x h = grind (arith, common_steps)

signed8 : (m : ℕ) → unsigned64 (cast_signed w8 (m % 256 ^ 1)) % 256 ≡ m % 256
signed8 m = small8 (m % 256 ^ 1) (omega arith) ∙ omega arith

small16 : (x : ℕ) → x < 65536 → unsigned64 (cast_signed w16 x) % 65536 ≡ x
small16 x h = grind (arith, common_steps)

signed16 : (m : ℕ) → unsigned64 (cast_signed w16 (m % 256 ^ 2)) % 65536 ≡ m % 65536
signed16 m = small16 (m % 256 ^ 2) (omega arith) ∙ omega arith

small32 : (x : ℕ) → x < 4294967296 → unsigned64 (cast_signed w32 x) % 4294967296 ≡ x
small32 x h = grind (arith, common_steps)

signed32 : (m : ℕ) → unsigned64 (cast_signed w32 (m % 256 ^ 4)) % 4294967296 ≡ m % 4294967296
signed32 m = small32 (m % 256 ^ 4) (omega arith) ∙ omega arith

-- the low bytes of a piece are bytes of the number of its symbol
low_of_piece : (n k m : ℕ) (e : Signedness) → n ≤ k → (k ≡ 1) ⊎ ((k ≡ 2) ⊎ (k ≡ 4)) →
    extended (extension_of k e) (m % 256 ^ k) % 256 ^ n ≡ m % 256 ^ n
low_of_piece n k m Signed h (inl e) = grind (arith, common_steps, of_one, signed8)
low_of_piece n k m Signed h (inr (inl e)) = grind (arith, common_steps, of_two, signed16)
low_of_piece n k m Signed h (inr (inr e)) = grind (arith, common_steps, of_four, signed32)
low_of_piece n k m Unsigned h (inl e) = rw e (of_one n (m % 256 ^ 1) m (omega (arith, h, e)) (omega arith))
low_of_piece n k m Unsigned h (inr (inl e)) = rw e (of_two n (m % 256 ^ 2) m (omega (arith, h, e)) (omega arith))
low_of_piece n k m Unsigned h (inr (inr e)) = rw e (of_four n (m % 256 ^ 4) m (omega (arith, h, e)) (omega arith))

pub stored_stands : (r : Rewrite) → Symbols r → (n : ℕ) (v : Value) (x : ℕ) → IsSize n → StandsFor r v x →
    IfSome (stored n v) (λ cells. Alike (StandsForByte r) cells (low_bytes n x))
stored_stands r f n (Num y) x size h = rw h.number (bytes_alike r (low_bytes n y))
stored_stands r f n (Sym y) x size h = grind (arith, common_steps, parts_alike, width_is, size_fits, div-one)
stored_stands r f n (Piece y w i k e) x size h = cases (nat_le n k) refl
  where
    cases : (t : Bool) → nat_le n k ≡ t →
        IfSome (if t then Some (symbol_bytes y w i n) else None) (λ cells. Alike (StandsForByte r) cells (low_bytes n x))
    cases false g = tt
    cases true g =
        let fits : n ≤ k = leb-true n k g in
        let inside = (h.value.1).2 in
        let low : low_bytes n x ≡ low_bytes n (number_of_symbol r y / 256 ^ i) =
        low_bytes_same n x (number_of_symbol r y / 256 ^ i)
        (rw h.number (low_of_piece n k (number_of_symbol r y / 256 ^ i) e fits (h.value.1).1)) in
        rw low (parts_alike r y w i n (number_of_symbol r y / 256 ^ i) h.value.0 h.given (h.value.1).0
        (omega (arith, fits, inside)) refl)

-- Loads.

-- bytes that represent parts of a symbol are the bytes of its number
parts_bytes : (r : Rewrite) (y : CodeSymbol) (w i x : ℕ) (cs : List MemoryByte) (bs : List ℕ) →
    x ≡ number_of_symbol r y / 256 ^ i → Alike (StandsForByte r) cs bs → are_symbol_bytes y w i cs ≡ true →
    bs ≡ low_bytes (length cs) x
unfolding low_bytes
parts_bytes r y w i x [] [] e h p = refl
parts_bytes r y w i x [] (b ∷ bs) e h p = absurd h
parts_bytes r y w i x (d ∷ cs) [] e h p = absurd h
parts_bytes r y w i x (Byte a ∷ cs) (b ∷ bs) e h p = absurd (cc)
parts_bytes r y w i x (Hidden ∷ cs) (b ∷ bs) e h p = absurd (cc)
parts_bytes r y w i x (SymbolByte z v j ∷ cs) (b ∷ bs) e h p =
    grind (arith, common_steps, and_parts, next_byte, same_symbol-true, eqb-true, parts_bytes r y w (suc i) (x / 256) cs bs)

-- the parts are within the symbol's width
parts_inside : (r : Rewrite) (y : CodeSymbol) (w i : ℕ) (cs : List MemoryByte) (bs : List ℕ) → i ≤ w →
    Alike (StandsForByte r) cs bs → are_symbol_bytes y w i cs ≡ true → i + length cs ≤ w
parts_inside r y w i [] bs inside h p = omega (arith, inside)
parts_inside r y w i (d ∷ cs) [] inside h p = absurd h
parts_inside r y w i (Byte a ∷ cs) (b ∷ bs) inside h p = absurd (cc)
parts_inside r y w i (Hidden ∷ cs) (b ∷ bs) inside h p = absurd (cc)
parts_inside r y w i (SymbolByte z v j ∷ cs) (b ∷ bs) inside h p =
    let p1 = and_parts (same_symbol y z && (w == v) && (i == j)) (are_symbol_bytes y w (suc i) cs) p in
    let p2 = and_parts (same_symbol y z && (w == v)) (i == j) p1.0 in
    let p3 = and_parts (same_symbol y z) (w == v) p2.0 in
    let at : i ≡ j = eqb-true i j p2.1 in
    let wide : w ≡ v = eqb-true w v p3.1 in
    let below : j < v = (h.0.made).2 in
    let rest = parts_inside r y w (suc i) cs bs (omega (arith, at, wide, below)) h.1 p1.1 in
    omega (arith, rest)

pub piece_stands : (r : Rewrite) → Symbols r → (e : Extension) (y : CodeSymbol) (w i x : ℕ) → IsSymbol y → IsGiven r y →
    IsWidth w → i + bytes_of e ≤ w → x ≡ bytes_from (number_of_symbol r y) i (bytes_of e) →
    IfSome (piece e y w i) (λ v. StandsFor r v (extended e x))
piece_stands r f Whole64 y w i x s g wide fits is = grind (arith, common_steps, only_stands, and_parts, eqb-true)
piece_stands r f Signed32 y w i x s g wide fits is = grind (arith, common_steps, and_parts, eqb-true)
piece_stands r f Zero32 y w i x s g wide fits is = grind (arith, common_steps, and_parts, eqb-true)
piece_stands r f Signed16 y w i x s g wide fits is = grind (arith, common_steps)
piece_stands r f Zero16 y w i x s g wide fits is = record { value = (s, (wide, inr (inl refl), fits)); given = g; number = is }
piece_stands r f Signed8 y w i x s g wide fits is = grind (arith, common_steps)
piece_stands r f Zero8 y w i x s g wide fits is = record { value = (s, (wide, inl refl, fits)); given = g; number = is }

loaded_symbol_stands : (r : Rewrite) → Symbols r → (e : Extension) (cs : List MemoryByte) (bs : List ℕ) →
    length cs ≡ bytes_of e → Alike (StandsForByte r) cs bs →
    IfSome (loaded_symbol e cs) (λ v. StandsFor r v (extended e (little bs)))
unfolding low_bytes
loaded_symbol_stands r f e [] bs len h = tt
loaded_symbol_stands r f e (Byte a ∷ cs) bs len h = tt
loaded_symbol_stands r f e (Hidden ∷ cs) bs len h = tt
loaded_symbol_stands r f e (SymbolByte y w i ∷ cs) [] len h = absurd h
loaded_symbol_stands r f e (SymbolByte y w i ∷ cs) (b ∷ bs) len h = cases (are_symbol_bytes y w (suc i) cs) refl
  where
    one_byte : (m : ℕ) → m % 256 ^ 1 ≡ m % 256
    one_byte m = omega arith

    m : ℕ
    m = number_of_symbol r y / 256 ^ i

    cases : (t : Bool) → are_symbol_bytes y w (suc i) cs ≡ t →
        IfSome (if t then piece e y w i else None) (λ v. StandsFor r v (extended e (little (b ∷ bs))))
    cases false g = tt
    cases true g =
        let rest : bs ≡ low_bytes (length cs) (m / 256) = parts_bytes r y w (suc i) (m / 256) cs bs
        (next_byte m (number_of_symbol r y) i refl) h.1 g in
        let first : b ≡ m % 256 = h.0.byte ∙ one_byte m in
        let bytes : b ∷ bs ≡ low_bytes (suc (length cs)) m = rw (first, rest) refl in
        let below : suc i ≤ w = (h.0.made).2 in
        let inside = parts_inside r y w (suc i) cs bs below h.1 g in
        piece_stands r f e y w i (little (b ∷ bs)) (h.0.made).0 h.0.given (h.0.made).1 (rw (sym len) (omega (arith, inside)))
        (ap little bytes ∙ little_low_bytes (suc (length cs)) m ∙ ap (λ (n : ℕ). m % 256 ^ n) len)

pub loaded_stands : (r : Rewrite) → Symbols r → (e : Extension) (cs : List MemoryByte) (bs : List ℕ) →
    length cs ≡ bytes_of e → Alike (StandsForByte r) cs bs → IfSome (loaded e cs) (λ v. StandsFor r v (extended e (little bs)))
loaded_stands r f e cs bs len h = grind (arith, common_steps, numbers_alike, loaded_symbol_stands, number_stands)
