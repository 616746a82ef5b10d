-- The outcomes of loads, stores and jumps, by the tests that the machine makes.
use Rattle.std.proofs.Common.{◌≡◌, ap, refl, ℕ, suc, Bool, true, false, List, [], ◌∷◌, Option, Some, None}
use Rattle.std.specs.Prelude.{if◌then◌else◌, option_map}
use Rattle.std.specs.List.{list_any}
use Rattle.rv_code.specs.declared.action.Extension.{Extension}
use Rattle.rv_code.specs.declared.placed.Role.{Role}
use Rattle.rv_code.specs.declared.placed.Func.{Func}
use Rattle.rv_code.specs.isa.Extension.{bytes_of, extended}
use Rattle.rv_code.specs.machine.Machine.{all_may, may_read, memory_bytes, little}
use Rattle.sym_machine.specs.declared.memory.SymbolBytes.{SymbolBytes}
use Rattle.sym_machine.specs.declared.value.Pointer.{Pointer}
use Rattle.sym_machine.specs.declared.value.Value.{Value}
use Rattle.sym_machine.specs.declared.value.Value.TheVariants.{Num}
use Rattle.sym_machine.specs.declared.value.MemoryByte.{MemoryByte}
use Rattle.sym_machine.specs.declared.value.MemoryByte.TheVariants.{Byte, SymbolByte, Hidden}
use Rattle.sym_machine.specs.Values.{numbers, and_byte, is_hidden, are_symbol_bytes}
use Rattle.sym_machine.specs.Rules.{goal, pointer, destination, loaded_symbol, piece}
use Rattle.sym_machine.specs.SymStep.{SymState, jumps, jumps_to, loads_at, writes_register}
use Rattle.sym_machine.specs.internal.Accesses.{symbol_piece}
use Rattle.sym_machine.specs.internal.Memory.{symbol_in}

-- numbers are not hidden
pub numbers_open : (held : List MemoryByte) (bytes : List ℕ) → numbers held ≡ Some bytes → list_any is_hidden held ≡ false
numbers_open [] bytes is = refl
numbers_open (Byte b ∷ held) bytes is = by (numbers held) refl is (λ rest e. numbers_open held rest e)
  where
    by : (o : Option (List ℕ)) → numbers held ≡ o → and_byte (Byte b) o ≡ Some bytes →
        ((rest : List ℕ) → numbers held ≡ Some rest → list_any is_hidden held ≡ false) → list_any is_hidden held ≡ false
    by None e is open_rest = absurd (cc)
    by (Some rest) e is open_rest = open_rest rest e
numbers_open (SymbolByte y w i ∷ held) bytes is = absurd (cc)
numbers_open (Hidden ∷ held) bytes is = absurd (cc)

pub loads_number : (s : SymState) (next : ℕ) (e : Extension) (rd a n : ℕ) → all_may (may_read s) a (bytes_of e) ≡ true →
    Some n ≡ option_map little (numbers (memory_bytes s.memory a (bytes_of e))) →
    loads_at s next e rd a ≡ writes_register s next rd (Num (extended e n))
loads_number s next e rd a n may is = by (numbers (memory_bytes s.memory a (bytes_of e))) refl is
  where
    by : (o : Option (List ℕ)) → numbers (memory_bytes s.memory a (bytes_of e)) ≡ o → Some n ≡ option_map little o →
        loads_at s next e rd a ≡ writes_register s next rd (Num (extended e n))
    by None found is = absurd (cc)
    by (Some bytes) found is =
        let n_is : n ≡ little bytes = cc in
        rw (may, numbers_open (memory_bytes s.memory a (bytes_of e)) bytes found, found, n_is) refl

pub loaded_is : (e : Extension) (held : List MemoryByte) (b : SymbolBytes) → symbol_in held ≡ Some b →
    symbol_piece e b ≡ loaded_symbol e held
loaded_is e [] b is = absurd (cc)
loaded_is e (Byte n ∷ held) b is = absurd (cc)
loaded_is e (Hidden ∷ held) b is = absurd (cc)
loaded_is e (SymbolByte y w i ∷ held) b is = by (are_symbol_bytes y w (suc i) held) is
  where
    by : (t : Bool) →
        (◌≡◌ {A = Option SymbolBytes} (if t then Some (record { symbol = y; width = w; first = i }) else None) (Some b)) →
        symbol_piece e b ≡ (if t then piece e y w i else None)
    by true same = let this : b ≡ record { symbol = y; width = w; first = i } = cc in ap (symbol_piece e) this
    by false same = absurd (cc)

pub jumps_found : (funcs : List Func) (s : SymState) (role : Role) (rd offset : ℕ) (base v : Value) (p : Pointer) (t : ℕ) →
    goal funcs role base ≡ Some v →
    pointer role offset v ≡ Some p → destination funcs p ≡ Some t → jumps_to funcs s role rd base offset ≡ jumps s rd t
jumps_found funcs s role rd offset base v p t goal_is pointer_is destination_is = rw (goal_is, pointer_is, destination_is) refl
