-- Numbers in the memory that a file describes, from their first byte on.
use Rattle.std.proofs.Common.{◌≡◌, ◌∙◌, sym, ap, subst, refl, ℕ, zero, suc, ◌+◌, ◌*◌, ◌^◌, ◌<◌, ◌≤◌, List, Option, Some, None}
use Rattle.std.proofs.Common.{IsSome, length, slice_index, arith}
use Rattle.std.specs.Option.{option_map}
use Rattle.std.proofs.Math.Nat.{pow-suc, pow-le-pow_right}
use Rattle.byteorder.specs.Endian.{little_from}
use Rattle.rv_code.specs.machine.Machine.{little}
use Rattle.elf_image.specs.declared.elf.Elf.{Elf}
use Rattle.elf_image.specs.memory.LoadedBytes.{byte_at}
use Rattle.elf_code.specs.LoadedNumbers.{loaded_number}
use Rattle.rv_code.specs.machine.MemoryNumbers.{bytes_in, and_more}
use Rattle.rv_code.specs.layout.FunctionLists.{address_end}
use Rattle.code_starts.specs.LoadedMemory.{IsLow, AreBytesFrom}

begins : (elf : Elf) (a : ℕ) → Some 0 ≡ loaded_number elf a zero
unfolding bytes_in little
begins elf a = refl

goes_on : (elf : Elf) (a n : ℕ) → bytes_in (byte_at elf) a (suc n) ≡ and_more (byte_at elf a) (bytes_in (byte_at elf) (a + 1) n)
unfolding bytes_in
goes_on elf a n = refl

pub number-begin : (elf : Elf) (a n : ℕ) → n ≡ 0 → Some 0 ≡ loaded_number elf a n
number-begin elf a n none = begins elf a ∙ ap (λ (k : ℕ). loaded_number elf a k) (sym none)

more : (first : Option ℕ) (rest : Option (List ℕ)) (b x : ℕ) → first ≡ Some b → option_map little rest ≡ Some x →
    Some (b + 256 * x) ≡ option_map little (and_more first rest)
unfolding little
more None rest b x e f = absurd (cc)
more (Some c) None b x e f = absurd (cc)
more (Some c) (Some bs) b x e f =
    let same : c ≡ b = cc in
    let value : little bs ≡ x = cc in
    let sum : b + 256 * x ≡ c + 256 * little bs = omega arith in
    ap Some sum

no_rest : (first : Option ℕ) (rest : Option (List ℕ)) → option_map little rest ≡ None →
    None ≡ option_map little (and_more first rest)
no_rest None rest e = refl
no_rest (Some c) None e = refl
no_rest (Some c) (Some bs) e = absurd (cc)

whole : (elf : Elf) (a n m : ℕ) → n ≡ suc m →
    option_map little (and_more (byte_at elf a) (bytes_in (byte_at elf) (a + 1) m)) ≡ loaded_number elf a n
whole elf a n m is = ap (option_map little) (sym (goes_on elf a m)) ∙ ap (λ (k : ℕ). loaded_number elf a k) (sym is)

pub number-more : (elf : Elf) (a n m b x : ℕ) → n ≡ suc m → byte_at elf a ≡ Some b → loaded_number elf (a + 1) m ≡ Some x →
    Some (b + 256 * x) ≡ loaded_number elf a n
number-more elf a n m b x is first rest =
    more (byte_at elf a) (bytes_in (byte_at elf) (a + 1) m) b x first rest ∙ whole elf a n m is

-- A number whose bytes are in a range of loaded bytes.
pub number-there : (elf : Elf) (a i n b : ℕ) (bytes : List ℕ) → AreBytesFrom elf a bytes → b ≡ a + i → i + n ≤ length bytes →
    Some (little_from i n bytes) ≡ loaded_number elf b n
number-there elf a i zero b bytes are at within = begins elf b
number-there elf a i (suc n) b bytes are at within =
    number-more elf b (suc n) n (slice_index bytes i) (little_from (suc i) n bytes) refl
    (ap (λ (k : ℕ). byte_at elf k) at ∙ are i (omega arith))
    (sym (number-there elf a (suc i) n (b + 1) bytes are (omega arith) (omega arith)))

pub number-no_rest : (elf : Elf) (a n m : ℕ) → n ≡ suc m → loaded_number elf (a + 1) m ≡ None → None ≡ loaded_number elf a n
number-no_rest elf a n m is rest = no_rest (byte_at elf a) (bytes_in (byte_at elf) (a + 1) m) rest ∙ whole elf a n m is

pub number-no_first : (elf : Elf) (a n m : ℕ) → n ≡ suc m → byte_at elf a ≡ None → None ≡ loaded_number elf a n
number-no_first elf a n m is first =
    ap (λ (o : Option ℕ). option_map little (and_more o (bytes_in (byte_at elf) (a + 1) m))) (sym first) ∙ whole elf a n m is

pub power-more : (b x n m : ℕ) → n ≡ suc m → b < 256 → x < 256 ^ m → b + 256 * x < 256 ^ n
power-more b x n m is low below =
    let p : 256 ^ suc m ≡ 256 ^ m * 256 = pow-suc 256 m in
    let q : 256 ^ n ≡ 256 ^ suc m = ap (λ (k : ℕ). 256 ^ k) is in
    omega arith

pub power-seven : (x m : ℕ) → m ≤ 7 → x < 256 ^ m → x < 256 ^ 7
power-seven x m small below =
    let positive : 0 < 256 = omega arith in
    let p : 256 ^ m ≤ 256 ^ 7 = pow-le-pow_right positive small in
    omega arith

first_byte : (elf : Elf) (a : ℕ) (o : Option ℕ) (rest : Option (List ℕ)) (x : ℕ) → byte_at elf a ≡ o →
    option_map little (and_more o rest) ≡ Some x → IsSome (byte_at elf a)
first_byte elf a None rest x is loaded = absurd (cc)
first_byte elf a (Some b) rest x is loaded = subst (λ (o : Option ℕ). IsSome o) (sym is) refl

-- A loaded number is below the end of loadable addresses.
pub number-low : (elf : Elf) (a m x : ℕ) → IsLow elf → loaded_number elf a (suc m) ≡ Some x → a < address_end
number-low elf a m x low loaded =
    low.below a (first_byte elf a (byte_at elf a) (bytes_in (byte_at elf) (a + 1) m) x refl
    (ap (option_map little) (sym (goes_on elf a m)) ∙ loaded))
