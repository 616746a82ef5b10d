-- The outcomes of actions of the two machines, from related states.
use Rattle.std.proofs.Common.{◌≡◌, ℕ, zero, suc, ◌%◌, ◌<◌, ◌≤◌, List, [], ◌∷◌, length, Option, Some, None, Bool, true, false}
use Rattle.std.proofs.Common.{refl, sym, ap, ◌∙◌, arith}
use Rattle.std.specs.Prelude.{if◌then◌else◌, ◌==◌, ◌&&◌, ◌||◌, not, nat_le, nat_lt, IsTrue, IfSome, min, map, take, drop}
use Rattle.std.specs.List.{list_any}
use Rattle.std.proofs.lemmas.Bool.{and_parts, and_from, leb-true, ltb-true, lt-ltb, le-leb, cases_lt}
use Rattle.rv_code.specs.declared.action.Extension.{Extension}
use Rattle.rv_code.specs.isa.Extension.{bytes_of, extended}
use Rattle.rv_code.specs.machine.Machine.{plus, all_may, memory_bytes, put, little, low_bytes, Space, may_read, may_write, with_break}
use Rattle.rv_code.specs.machine.Machine.{Event, Call, Read, Write, Exit, Brk, Unknown, call_of, most_moved, Ended}
use Rattle.rv_code.specs.machine.Step.{ByteState, ByteOutcome, a0, a1, a2, a7, buffer_size}
use Rattle.rv_code.specs.machine.Step as byte
use Rattle.elf_image.specs.declared.segment.TheConstants.{PF_W}
use Rattle.elf_image.specs.memory.Image.{is_loaded_with}
use Rattle.elf_image.specs.memory.Break.{break_start, break_bound}
use Rattle.sym_machine.specs.declared.outcome.Reason.TheVariants as reason
use Rattle.sym_machine.specs.declared.value.Value.{Value}
use Rattle.sym_machine.specs.declared.value.Value.TheVariants.{Num, Sym, Piece}
use Rattle.sym_machine.specs.declared.value.MemoryByte.{MemoryByte}
use Rattle.sym_machine.specs.declared.value.MemoryByte.TheVariants.{Byte}
use Rattle.sym_machine.specs.Values.{number, numbers, stored, is_hidden}
use Rattle.sym_machine.specs.Rules.{loaded}
use Rattle.sym_machine.specs.SymStep.{SymState, SymOutcome, needs}
use Rattle.sym_machine.specs.SymStep as symbol
use Rattle.move_law.specs.Rewrite.{Rewrite}
use Rattle.elf_image.specs.memory.Executables.{memory_of}
use Rattle.move_law.specs.SimulationRelation.{StandsFor, StandsForByte, has_right, RelatedData, RelatedPc}
use Rattle.rv_code.proofs.machine.LowBytes.{length_low_bytes}
use Rattle.rv_code.proofs.machine.RelatedMemory.{Alike, put_alike, put_keeps}
use Rattle.move_law.proofs.values.Arithmetic.{Symbols, number_stands}
use Rattle.move_law.proofs.values.StoredValues.{IsSize, bytes_alike, numbers_alike, stored_stands, loaded_stands}
use Rattle.move_law.proofs.steps.Outcomes.{SameSpaces, Follows, needs_found, checks_follows, stored_data, reads_alike, reads_can}
use Rattle.move_law.proofs.steps.Outcomes.{writes_can, gives_follows, fixed_not_written, break_start_same, break_bound_same, lt_le}
use Rattle.std.proofs.lemmas.Option.{same_Some}
use Rattle.std.proofs.lemmas.Grind.{common_steps}
use Rattle.rb_bytes.proofs.ListLemmas.{if_found, taken_less}

-- the number of a value that is a number
pub number_is : (r : Rewrite) (v : Value) (x n : ℕ) → StandsFor r v x → number v ≡ Some n → x ≡ n
number_is r (Num m) x n h e = h.number ∙ same_Some m n e
number_is r (Sym y) x n h e = absurd (cc)
number_is r (Piece y w i k g) x n h e = absurd (cc)

length_bytes : {C : Type 0} (memory : ℕ → C) (a n : ℕ) → length (memory_bytes memory a n) ≡ n
unfolding memory_bytes
length_bytes memory a zero = refl
length_bytes memory a (suc n) = ap suc (length_bytes memory (plus a 1) n)

returns_follows : (r : Rewrite) (L : ℕ → ℕ → Type 0) (s : SymState) (u : ByteState) (next from : ℕ) (e g : Event) →
    RelatedData r s u → RelatedPc r L next from → e ≡ g → Follows r L (symbol.returns s next e) (byte.returns u from g)
returns_follows r L s u next from e g rel leads same = grind (arith, common_steps, gives_follows, number_stands)

-- bytes of the input are put into a buffer
read_data : (r : Rewrite) → SameSpaces r → (s : SymState) (u : ByteState) → RelatedData r s u →
    (a n : ℕ) (bs rest : List ℕ) → all_may (may_write s) a n ≡ true → length bs ≤ n →
    RelatedData r (record s { memory = put s.memory a (map Byte bs); input = rest })
    (record u { memory = put u.memory a bs; input = rest })
read_data r spaces s u rel a n bs rest can fits = record {
  zero_is = rel.zero_is;
  registers = rel.registers;
  memory =
      λ x right. put_alike (StandsForByte r) s.memory u.memory a x (map Byte bs) bs (bytes_alike r bs) (rel.memory x right);
  input = refl;
  break_is = rel.break_is;
  break_fits = rel.break_fits;
  input_rights = rel.input_rights;
  output_rights = rel.output_rights;
  loaded =
      λ x byte e h. put_keeps u.memory (may_write s) a n x bs can fits (fixed_not_written r spaces s u rel x byte e h)
      ∙ rel.loaded x byte e h;
}

le_le : (x y z : ℕ) → x ≤ y → y ≤ z → x ≤ z
le_le x y z h k = omega (arith, h, k)

-- a right that an address has after the break moved, it had before, unless the break gained the address
had : (reads writes executes from to old : Bool) → (to ≡ true → old ≡ true) →
    (reads || (from && to)) || (writes || (from && to)) || executes ≡ true →
    (reads || (from && old)) || (writes || (from && old)) || executes ≡ true
had r w x false t o f h = h
had r w x true true o f h = rw (f refl) h
had r w x true false false f h = h
had true w x true false true f h = refl
had false w x true false true f h = refl

not_gained : (p a to : ℕ) → (nat_le p a && nat_lt a to) ≡ false → nat_lt a to ≡ true → nat_lt a p ≡ true
not_gained p a to e h = grind (arith, common_steps, cases_lt, lt-ltb, and_from, le-leb)

-- the break moves
break_data : (r : Rewrite) → SameSpaces r → (s : SymState) (u : ByteState) → RelatedData r s u → (to : ℕ) →
    RelatedData r (with_break (Byte 0) to s) (with_break 0 to u)
break_data r spaces s u rel to =
    by (nat_le u.space.break_start to && nat_le to u.space.break_bound) refl
    (nat_le s.space.break_start to && nat_le to s.space.break_bound)
    (rw (break_start_same r spaces s u rel, break_bound_same r spaces s u rel) refl)
  where
    -- the states after the break moved
    s' : SymState
    s' = record s { program_break = to; memory = λ a. if nat_le s.program_break a && nat_lt a to then Byte 0 else s.memory a }

    u' : ByteState
    u' = record u { program_break = to; memory = λ a. if nat_le u.program_break a && nat_lt a to then 0 else u.memory a }

    byte_zero : StandsForByte r (Byte 0) 0
    byte_zero = record { made = tt; given = tt; byte = refl }

    -- an address that has a right afterwards had one before, or the break gained it
    memory : (a : ℕ) → IsTrue (has_right s' a) → StandsForByte r (s'.memory a) (u'.memory a)
    memory a right = cases (nat_le u.program_break a && nat_lt a to) refl (rw (rel.break_is) refl)
      where
        cases : (t : Bool) → (nat_le u.program_break a && nat_lt a to) ≡ t →
            (nat_le s.program_break a && nat_lt a to) ≡ (nat_le u.program_break a && nat_lt a to) →
            StandsForByte r (if nat_le s.program_break a && nat_lt a to then Byte 0 else s.memory a)
            (if nat_le u.program_break a && nat_lt a to then 0 else u.memory a)
        cases true e same = rw (same, e) byte_zero
        cases false e same =
            rw (same, e)
            (rel.memory a (had (s.space.reads a) (s.space.writes a) (s.space.executes a) (nat_le s.space.break_start a)
            (nat_lt a to) (nat_lt a s.program_break) (not_gained s.program_break a to (same ∙ e)) right))

    unchanged : (a byte : ℕ) → is_loaded_with PF_W r.output.segments a ≡ false → memory_of r.output a ≡ Some byte →
        (nat_le u.space.break_start to ≡ true) × (nat_le to u.space.break_bound ≡ true) →
        (if nat_le u.program_break a && nat_lt a to then 0 else u.memory a) ≡ byte
    unchanged a byte w h parts = cases (nat_le u.program_break a && nat_lt a to) refl
      where
        cases : (t : Bool) → (nat_le u.program_break a && nat_lt a to) ≡ t → (if t then 0 else u.memory a) ≡ byte
        cases false e = rel.loaded a byte w h
        cases true e =
            let inside = and_parts (nat_le u.program_break a) (nat_lt a to) e in
            let from : u.program_break ≤ a = leb-true u.program_break a inside.0 in
            let below : a < to = ltb-true a to inside.1 in
            let low = rel.break_fits.0 in
            let high : to ≤ u.space.break_bound = leb-true to u.space.break_bound parts.1 in
            let start_is : u.space.break_start ≡ break_start r.output.segments =
            ap (λ (s : Space). s.break_start) rel.output_rights in
            let bound_is : u.space.break_bound ≡ break_bound r.output.segments =
            ap (λ (s : Space). s.break_bound) rel.output_rights in
            absurd ((spaces.fixed a byte w h).1 (rw (sym start_is) (le_le u.space.break_start u.program_break a low from))
            (rw (sym bound_is) (lt_le a to u.space.break_bound below high)))

    by : (t : Bool) → (nat_le u.space.break_start to && nat_le to u.space.break_bound) ≡ t → (q : Bool) →
        q ≡ (nat_le u.space.break_start to && nat_le to u.space.break_bound) →
        RelatedData r (if q then s' else s) (if nat_le u.space.break_start to && nat_le to u.space.break_bound then u' else u)
    by false e q same = rw (same, e) rel
    by true e q same = rw (same, e) (record {
      zero_is = rel.zero_is;
      registers = rel.registers;
      memory = memory;
      input = rel.input;
      break_is = refl;
      break_fits =
          let parts = and_parts (nat_le u.space.break_start to) (nat_le to u.space.break_bound) e in
          (leb-true u.space.break_start to parts.0, leb-true to u.space.break_bound parts.1);
      input_rights = rel.input_rights;
      output_rights = rel.output_rights;
      loaded = λ a byte w h. unchanged a byte w h (and_parts (nat_le u.space.break_start to) (nat_le to u.space.break_bound) e);
    })

-- s and u are before an action; after it they go on at `next` and at `from`.
module _ (r : Rewrite) (L : ℕ → ℕ → Type 0) (symbols : Symbols r) (spaces : SameSpaces r) (s : SymState) (u : ByteState)
    (rel : RelatedData r s u) (next from : ℕ) (leads : RelatedPc r L next from) where
  pub computes : (rd x : ℕ) (o : Option Value) → IfSome o (λ v. StandsFor r v x) →
      Follows r L (needs s reason.Operate o (symbol.writes_register s next rd)) (byte.writes_register u from rd x)
  computes rd x None is = tt
  computes rd x (Some v) is = gives_follows r L s u next from rd x v None rel leads (λ k e. is)

  pub loads : (e : Extension) (rd a : ℕ) (o : Option Value) → IfSome o (λ v. (n : ℕ) → number v ≡ Some n → a ≡ n) →
      Follows r L (symbol.loads s next e rd o) (byte.loads u from rd e a (all_may (may_read u) a (bytes_of e)))
  loads e rd a None is = tt
  loads e rd a (Some v) is =
      needs_found r L s reason.Access (number v) (symbol.loads_at s next e rd)
      (byte.loads u from rd e a (all_may (may_read u) a (bytes_of e))) (λ n k. at n (is n k))
    where
      at : (n : ℕ) → a ≡ n →
          Follows r L (symbol.loads_at s next e rd n) (byte.loads u from rd e a (all_may (may_read u) a (bytes_of e)))
      at n same =
          rw same (checks_follows r L s reason.Access (all_may (may_read s) n (bytes_of e)) _ _ (λ can.
          let could : all_may (may_read u) n (bytes_of e) ≡ true = reads_can r spaces s u rel n (bytes_of e) can in
          rw could (checks_follows r L s reason.Hidden (not (list_any is_hidden (memory_bytes s.memory n (bytes_of e)))) _
          _ (λ seen.
          needs_found r L s reason.Mixed (loaded e (memory_bytes s.memory n (bytes_of e)))
          (symbol.writes_register s next rd) _ (λ w found.
          gives_follows r L s u next from rd (extended e (little (memory_bytes u.memory n (bytes_of e)))) w None rel leads
          (λ k z.
          if_found (λ w. StandsFor r w (extended e (little (memory_bytes u.memory n (bytes_of e)))))
          (loaded e (memory_bytes s.memory n (bytes_of e))) w found
          (loaded_stands r symbols e (memory_bytes s.memory n (bytes_of e)) (memory_bytes u.memory n (bytes_of e))
          (length_bytes s.memory n (bytes_of e)) (reads_alike r spaces s u rel n (bytes_of e) can))))))))

  pub stores : (n a x : ℕ) (v : Value) (o : Option Value) → IsSize n → StandsFor r v x →
      IfSome o (λ w. (m : ℕ) → number w ≡ Some m → a ≡ m) →
      Follows r L (symbol.stores s next n v o) (byte.stores u from a (low_bytes n x) (all_may (may_write u) a n))
  stores n a x v None size is at = tt
  stores n a x v (Some w) size is at =
      needs_found r L s reason.Operate (stored n v)
      (λ cells. needs s reason.Access (number w) (symbol.stores_at s next n cells)) _ (λ cells found.
      needs_found r L s reason.Access (number w) (symbol.stores_at s next n cells) _ (λ m k.
      there cells m (at m k) (if_found (λ cells. Alike (StandsForByte r) cells (low_bytes n x)) (stored n v) cells found
      (stored_stands r symbols n v x size is))))
    where
      there : (cells : List MemoryByte) (m : ℕ) → a ≡ m → Alike (StandsForByte r) cells (low_bytes n x) →
          Follows r L (symbol.stores_at s next n cells m) (byte.stores u from a (low_bytes n x) (all_may (may_write u) a n))
      there cells m same alike =
          rw same (checks_follows r L s reason.Access (all_may (may_write s) m n) _ _ (λ can.
          let could : all_may (may_write u) m n ≡ true = writes_can r spaces s u rel m n can in
          let len : length (low_bytes n x) ≡ n = length_low_bytes n x in
          rw could (
            refl,
            stored_data r spaces s u rel m n next from cells (low_bytes n x) can (omega (arith, len)) alike,
            leads,
          )))

  -- System calls.

  pub argument : (i : ℕ) (rest : ℕ → SymOutcome) (o : ByteOutcome) →
      ((n : ℕ) → u.registers i ≡ n → Follows r L (rest n) o) → Follows r L (symbol.argument s i rest) o
  argument i rest o f = grind (arith, common_steps, needs_found, number_is)

  refuses : (n file at size : ℕ) → u.registers a0 ≡ file → u.registers a1 ≡ at → u.registers a2 ≡ size →
      Follows r L (symbol.refuses_file s next n file at size) (byte.refuses_file u from n)
  refuses n file at size e0 e1 e2 = grind (arith, common_steps, returns_follows)

  reads_input : (at size : ℕ) → u.registers a1 ≡ at → u.registers a2 ≡ size →
      Follows r L (symbol.reads_input s next at size (take (min size most_moved) s.input))
      (byte.reads_input u from (u.registers a1) (take (buffer_size u) u.input)
      (all_may (may_write u) (u.registers a1) (buffer_size u)))
  reads_input at size e1 e2 =
      checks_follows r L s reason.Access (all_may (may_write s) at (min size most_moved)) _ _ (λ can.
      let could : all_may (may_write u) at (min size most_moved) ≡ true =
      writes_can r spaces s u rel at (min size most_moved) can in
      rw (e1, e2, could, e2, sym rel.input)
      (returns_follows r L
      (record s {
        memory = put s.memory at (map Byte (take (min size most_moved) s.input));
        input = drop (length (take (min size most_moved) s.input)) s.input;
      })
      (record u {
        memory = put u.memory at (take (min size most_moved) s.input);
        input = drop (length (take (min size most_moved) s.input)) s.input;
      })
      next from
      (symbol.moving_event 63 0 at size (take (min size most_moved) s.input))
      (symbol.moving_event 63 0 at size (take (min size most_moved) s.input))
      (read_data r spaces s u rel at (min size most_moved) (take (min size most_moved) s.input)
      (drop (length (take (min size most_moved) s.input)) s.input) can (taken_less (min size most_moved) s.input))
      leads refl))

  read_call : (file at size : ℕ) → u.registers a0 ≡ file → u.registers a1 ≡ at → u.registers a2 ≡ size →
      Follows r L (symbol.read_call s next file at size) (byte.read_call u from (u.registers a0 == 0))
  read_call file at size e0 e1 e2 = grind (arith, common_steps, reads_input, refuses)

  writes_output : (file at size : ℕ) → u.registers a0 ≡ file → u.registers a1 ≡ at → u.registers a2 ≡ size →
      Follows r L (symbol.writes_output s next file at size (memory_bytes s.memory at (min size most_moved)))
      (byte.writes_output u from (u.registers a0) (memory_bytes u.memory (u.registers a1) (buffer_size u))
      (all_may (may_read u) (u.registers a1) (buffer_size u)))
  writes_output file at size e0 e1 e2 =
      checks_follows r L s reason.Access (all_may (may_read s) at (min size most_moved)) _ _ (λ can.
      let could : all_may (may_read u) at (min size most_moved) ≡ true =
      reads_can r spaces s u rel at (min size most_moved) can in
      checks_follows r L s reason.Hidden (not (list_any is_hidden (memory_bytes s.memory at (min size most_moved)))) _ _
      (λ seen.
      needs_found r L s reason.CallArg (numbers (memory_bytes s.memory at (min size most_moved))) _ _ (λ bytes found.
      let same : memory_bytes u.memory at (min size most_moved) ≡ bytes =
      if_found (λ ns. memory_bytes u.memory at (min size most_moved) ≡ ns)
      (numbers (memory_bytes s.memory at (min size most_moved))) bytes found
      (numbers_alike r (memory_bytes s.memory at (min size most_moved)) (memory_bytes u.memory at (min size most_moved))
      (reads_alike r spaces s u rel at (min size most_moved) can)) in
      rw (e0, e1, e2, could, same, e1, e2) (returns_follows r L s u next from (symbol.moving_event 64 file at size bytes)
      (symbol.moving_event 64 file at size bytes) rel leads refl))))

  write_call : (file at size : ℕ) → u.registers a0 ≡ file → u.registers a1 ≡ at → u.registers a2 ≡ size →
      Follows r L (symbol.write_call s next file at size) (byte.write_call u from (u.registers a0 == 1 || u.registers a0 == 2))
  write_call file at size e0 e1 e2 = grind (arith, common_steps, writes_output, refuses)

  three : (rest : ℕ → ℕ → ℕ → SymOutcome) (o : ByteOutcome) →
      ((x y z : ℕ) → u.registers a0 ≡ x → u.registers a1 ≡ y → u.registers a2 ≡ z → Follows r L (rest x y z) o) →
      Follows r L (symbol.three_arguments s rest) o
  three rest o f = grind (arith, common_steps, argument)

  calls : (n : ℕ) (k : Call) → u.registers a7 ≡ n → Follows r L (symbol.calls s next n k) (byte.calls u from k)
  calls n Read e = three (symbol.read_call s next) (byte.read_call u from (u.registers a0 == 0)) read_call
  calls n Write e = grind (arith, common_steps, three, write_call)
  calls n Exit e = argument a0 (λ x. Ended (x % 256)) (Ended (u.registers a0 % 256)) (λ x h. ap (λ (m : ℕ). m % 256) (sym h))
  calls n Brk e =
      argument a0 (λ x. symbol.sets_break s next x (with_break (Byte 0) x s))
      (byte.sets_break u from (with_break 0 (u.registers a0) u)) (λ x h.
      let rest_related = break_data r spaces s u rel x in
      let broken : (with_break (Byte 0) x s).program_break ≡ (with_break 0 x u).program_break = rest_related.break_is in
      rw h (returns_follows r L (with_break (Byte 0) x s) (with_break 0 x u) next from
      (record { number = 214; used = x ∷ []; moved = []; result = (with_break (Byte 0) x s).program_break })
      (record { number = 214; used = x ∷ []; moved = []; result = (with_break 0 x u).program_break })
      rest_related leads (rw broken refl)))
  calls n Unknown e = grind (arith, common_steps, returns_follows)

  pub system_call : Follows r L (symbol.argument s a7 (λ n. symbol.calls s next n (call_of n)))
      (byte.calls u from (call_of (u.registers a7)))
  system_call = grind (arith, common_steps, argument, calls)
