-- The bytes of memory with numbers in pages and other bytes, also after each way of writing.
use Rattle.std.proofs.Common.{◌≡◌, ◌∙◌, ap, refl, ℕ, zero, suc, ◌+◌, ◌-◌, ◌<◌, Bool, true, false, List, [], ◌∷◌, length, rules}
use Rattle.std.proofs.Common.{Option, Some, None, arith}
use Rattle.std.specs.Prelude.{◌&&◌, ◌||◌, ◌==◌, not, nat_le, nat_lt, if◌then◌else◌, replicate, is_none, map}
use Rattle.std.specs.List.{list_any}
use Rattle.std.proofs.lemmas.Bool.{and_parts, eqb-true, leb-true, ltb-true}
use Rattle.rv_code.specs.machine.Machine.{plus, memory_bytes, put, all_may}
use Rattle.sym_machine.specs.declared.value.CodeSymbol.{CodeSymbol}
use Rattle.sym_machine.specs.declared.value.MemoryByte.{MemoryByte}
use Rattle.sym_machine.specs.declared.value.MemoryByte.TheVariants.{Byte, SymbolByte, Hidden}
use Rattle.sym_machine.specs.declared.other_bytes.OtherByte.{OtherByte}
use Rattle.sym_machine.specs.declared.other_bytes.OtherByte.TheVariants as other
use Rattle.sym_machine.specs.internal.Memory.{byte_over, other_bytes, symbol_in, symbol_byte, is_byte_of}
use Rattle.sym_machine.specs.declared.memory.SymbolBytes.{SymbolBytes}
use Rattle.sym_machine.specs.Values.{numbers, and_byte, is_hidden, symbol_bytes, are_symbol_bytes}

-- Reading.

pub memory_step : (memory : ℕ → MemoryByte) (a n : ℕ) → 0 < n →
    memory_bytes memory a n ≡ memory a ∷ memory_bytes memory (plus a 1) (n - 1)
unfolding memory_bytes
memory_step memory a zero h = absurd (omega arith)
memory_step memory a (suc n) h = let e : suc n - 1 ≡ n = omega arith in rw e refl

pub memory_none : (memory : ℕ → MemoryByte) (a n : ℕ) → n ≡ 0 → memory_bytes memory a n ≡ []
unfolding memory_bytes
memory_none memory a n e = rw e refl

-- Bytes of one symbol.

bytes_cons : (y : CodeSymbol) (w i : ℕ) (c : MemoryByte) (cs : List MemoryByte) →
    are_symbol_bytes y w i (c ∷ cs) ≡ is_byte_of c y w i && are_symbol_bytes y w (suc i) cs
bytes_cons y w i (Byte b) cs = refl
bytes_cons y w i (SymbolByte z v j) cs = refl
bytes_cons y w i Hidden cs = refl

pub bytes_step : (memory : ℕ → MemoryByte) (y : CodeSymbol) (w i a n : ℕ) → 0 < n →
    are_symbol_bytes y w i (memory_bytes memory a n) ≡ is_byte_of (memory a) y w i
    && are_symbol_bytes y w (i + 1) (memory_bytes memory (plus a 1) (n - 1))
bytes_step memory y w i a n some = search (rules, memory_step, bytes_cons)

-- the symbol of the first byte, if the other bytes follow it
abbrev followed : Option SymbolBytes → List MemoryByte → Option SymbolBytes
followed None cs = None
followed (Some b) cs = if are_symbol_bytes b.symbol b.width (suc b.first) cs then Some b else None

symbol_cons : (c : MemoryByte) (cs : List MemoryByte) → symbol_in (c ∷ cs) ≡ followed (symbol_byte c) cs
symbol_cons (Byte b) cs = refl
symbol_cons (SymbolByte z v j) cs = refl
symbol_cons Hidden cs = refl

pub symbol_none : (memory : ℕ → MemoryByte) (a n : ℕ) → 0 < n → symbol_byte (memory a) ≡ None →
    symbol_in (memory_bytes memory a n) ≡ None
symbol_none memory a n some none = search (rules, memory_step, symbol_cons)

pub symbol_some : (memory : ℕ → MemoryByte) (a n : ℕ) (b : SymbolBytes) (follow : Bool) → 0 < n →
    symbol_byte (memory a) ≡ Some b →
    are_symbol_bytes b.symbol b.width (b.first + 1) (memory_bytes memory (plus a 1) (n - 1)) ≡ follow →
    symbol_in (memory_bytes memory a n) ≡ (if follow then Some b else None)
symbol_some memory a n b follow some is follow_is = search (rules, memory_step, symbol_cons)

module _ (others : ℕ → Option OtherByte) (memory : ℕ → ℕ) where
  abbrev pub over : ℕ → MemoryByte
  over a = byte_over (others a) (memory a)

  pub numbers_all : (a n : ℕ) → all_may (λ q. is_none (others q)) a n ≡ true →
      numbers (memory_bytes over a n) ≡ Some (memory_bytes memory a n)
  unfolding all_may memory_bytes
  numbers_all a zero all = refl
  numbers_all a (suc n) all = numbers_first (others a) refl
      (numbers_all (plus a 1) n (and_parts (is_none (others a)) (all_may (λ q. is_none (others q)) (plus a 1) n) all).1)
    where
      numbers_first : (o : Option OtherByte) → others a ≡ o →
          numbers (memory_bytes over (plus a 1) n) ≡ Some (memory_bytes memory (plus a 1) n) →
          and_byte (over a) (numbers (memory_bytes over (plus a 1) n)) ≡ Some (memory a ∷ memory_bytes memory (plus a 1) n)
      numbers_first None e rest = rw (e, rest) refl
      numbers_first (Some c) e rest =
          absurd (let first = (and_parts (is_none (others a)) (all_may (λ q. is_none (others q)) (plus a 1) n) all).0 in
          let other : is_none (others a) ≡ false = ap is_none e in
          cc)

  pub numbers_none : (a n : ℕ) → all_may (λ q. is_none (others q)) a n ≡ false → numbers (memory_bytes over a n) ≡ None
  unfolding all_may memory_bytes
  numbers_none a zero none = absurd (cc)
  numbers_none a (suc n) none = by (others a) refl (numbers_none (plus a 1) n)
    where
      by : (o : Option OtherByte) → others a ≡ o →
          (all_may (λ q. is_none (others q)) (plus a 1) n ≡ false → numbers (memory_bytes over (plus a 1) n) ≡ None) →
          and_byte (over a) (numbers (memory_bytes over (plus a 1) n)) ≡ None
      by None e rest =
          let later : all_may (λ q. is_none (others q)) (plus a 1) n ≡ false = rw (ap is_none e) at none in
          rw (e, rest later) refl
      by (Some (other.Symbol y w i)) e rest = rw e refl
      by (Some other.Hidden) e rest = rw e refl

  pub hidden_any : (a n : ℕ) → list_any is_hidden (memory_bytes over a n) ≡ not (all_may (λ q. not (is_hidden (over q))) a n)
  unfolding all_may memory_bytes
  hidden_any a zero = refl
  hidden_any a (suc n) = step (is_hidden (over a)) (hidden_any (plus a 1) n)
    where
      step : (b : Bool) →
          list_any is_hidden (memory_bytes over (plus a 1) n) ≡ not (all_may (λ q. not (is_hidden (over q))) (plus a 1) n) →
          (b || list_any is_hidden (memory_bytes over (plus a 1) n))
          ≡ not (not b && all_may (λ q. not (is_hidden (over q))) (plus a 1) n)
      step true rest = refl
      step false rest = rest

  -- Writing.

  -- numbers are put over a run without other bytes
  pub put_numbers : (a q : ℕ) (bytes : List ℕ) →
      byte_over (put others a (replicate (length bytes) None) q) (put memory a bytes q) ≡ put over a (map Byte bytes) q
  unfolding put
  put_numbers a q [] = refl
  put_numbers a q (b ∷ bytes) = by (q == a) (put_numbers (plus a 1) q bytes)
    where
      by : (t : Bool) → byte_over (put others (plus a 1) (replicate (length bytes) None) q) (put memory (plus a 1) bytes q)
          ≡ put over (plus a 1) (map Byte bytes) q →
          byte_over (if t then None else put others (plus a 1) (replicate (length bytes) None) q)
          (if t then b else put memory (plus a 1) bytes q)
          ≡ (if t then Byte b else put over (plus a 1) (map Byte bytes) q)
      by true rest = refl
      by false rest = rest

  -- bytes of a symbol are put
  pub put_symbols : (a q : ℕ) (y : CodeSymbol) (w i n : ℕ) →
      byte_over (put others a (other_bytes y w i n) q) (memory q) ≡ put over a (symbol_bytes y w i n) q
  unfolding put other_bytes symbol_bytes
  put_symbols a q y w i zero = refl
  put_symbols a q y w i (suc n) = by (q == a) (put_symbols (plus a 1) q y w (suc i) n)
    where
      by : (t : Bool) → byte_over (put others (plus a 1) (other_bytes y w (suc i) n) q) (memory q)
          ≡ put over (plus a 1) (symbol_bytes y w (suc i) n) q →
          byte_over (if t then Some (other.Symbol y w i) else put others (plus a 1) (other_bytes y w (suc i) n) q) (memory q)
          ≡ (if t then SymbolByte y w i else put over (plus a 1) (symbol_bytes y w (suc i) n) q)
      by true rest = refl
      by false rest = rest

-- A run that is written from its end.

pub put_nothing : (others : ℕ → Option OtherByte) (a n q : ℕ) → n ≡ 0 → others q ≡ put others a (replicate n None) q
unfolding put
put_nothing others a n q e = rw e refl

pub put_none_next : (others : ℕ → Option OtherByte) (a i n q : ℕ) → i < n →
    put others (plus a i) (replicate (n - i) None) q
    ≡ (if q == plus a i then None else put others (plus a (i + 1)) (replicate (n - (i + 1)) None) q)
unfolding put
put_none_next others a i n q h = search rules

none_only : (o : Option OtherByte) → is_none o ≡ true → o ≡ None
none_only None e = refl
none_only (Some x) e = absurd (cc)

pub put_none_same : (others : ℕ → Option OtherByte) (a n q : ℕ) → all_may (λ q. is_none (others q)) a n ≡ true →
    others q ≡ put others a (replicate n None) q
unfolding put all_may
put_none_same others a zero q all = refl
put_none_same others a (suc n) q all = by (q == a) refl (put_none_same others (plus a 1) n q parts.1)
  where
    parts : (is_none (others a) ≡ true) × (all_may (λ q. is_none (others q)) (plus a 1) n ≡ true)
    parts = and_parts (is_none (others a)) (all_may (λ q. is_none (others q)) (plus a 1) n) all

    by : (t : Bool) → (q == a) ≡ t → others q ≡ put others (plus a 1) (replicate n None) q →
        others q ≡ (if t then None else put others (plus a 1) (replicate n None) q)
    by true e rest = ap others (eqb-true q a e) ∙ none_only (others a) parts.0
    by false e rest = rest

pub put_symbol_nothing : (others : ℕ → Option OtherByte) (a n q : ℕ) (y : CodeSymbol) (w i : ℕ) → n ≡ 0 →
    others q ≡ put others a (other_bytes y w i n) q
unfolding put other_bytes
put_symbol_nothing others a n q y w i e = rw e refl

pub put_symbol_next : (others : ℕ → Option OtherByte) (a i n q : ℕ) (y : CodeSymbol) (w first : ℕ) → i < n →
    put others (plus a i) (other_bytes y w (first + i) (n - i)) q
    ≡ (if q == plus a i then Some (other.Symbol y w (first + i))
    else put others (plus a (i + 1)) (other_bytes y w (first + (i + 1)) (n - (i + 1))) q)
unfolding put other_bytes
put_symbol_next others a i n q y w first h = search rules

-- The break.

never_within : (from q : ℕ) → nat_le from q ≡ true → nat_lt q from ≡ true → ⊥
never_within from q low high = let l = leb-true from q low in let h = ltb-true q from high in omega arith

pub break_bytes : (others : ℕ → Option OtherByte) (memory : ℕ → ℕ) (from to q : ℕ) (stands : Bool) →
    byte_over (if nat_le from q && nat_lt q (if stands then to else from) then None else others q)
    (if stands then (if nat_le from q && nat_lt q to then 0 else memory q) else memory q)
    ≡ (if stands then (if nat_le from q && nat_lt q to then Byte 0 else byte_over (others q) (memory q))
    else byte_over (others q) (memory q))
break_bytes others memory from to q true = by (nat_le from q && nat_lt q to)
  where
    by : (t : Bool) → byte_over (if t then None else others q) (if t then 0 else memory q)
        ≡ (if t then Byte 0 else byte_over (others q) (memory q))
    by true = refl
    by false = refl
break_bytes others memory from to q false = by (nat_le from q && nat_lt q from) refl
  where
    by : (t : Bool) → (nat_le from q && nat_lt q from) ≡ t →
        byte_over (if t then None else others q) (memory q) ≡ byte_over (others q) (memory q)
    by true e = let parts = and_parts (nat_le from q) (nat_lt q from) e in absurd (never_within from q parts.0 parts.1)
    by false e = refl
