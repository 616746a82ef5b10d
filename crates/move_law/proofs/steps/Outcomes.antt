-- States that are related except for their pcs, outcomes of steps, and lemmas for showing that one outcome follows another.
use Rattle.std.proofs.Common.{◌≡◌, ℕ, zero, suc, ◌<◌, ◌≤◌, List, length, Option, Some, None, Bool, true, false, refl, sym, ap, ◌∙◌, arith}
use Rattle.std.specs.Prelude.{◌||◌, nat_le, nat_lt}
use Rattle.std.proofs.lemmas.Bool.{and_parts, leb-true, ltb-true, ne_eqb}
use Rattle.std.proofs.lemmas.Grind.{common_steps}
use Rattle.rv_code.specs.machine.Machine.{set_register, all_may, memory_bytes, put, Space, may_read, may_write, in_break, Event}
use Rattle.rv_code.specs.machine.Machine.{Going, Ended, Halts}
use Rattle.rv_code.specs.machine.Step.{ByteState, ByteOutcome}
use Rattle.elf_image.specs.declared.segment.TheConstants.{PF_W}
use Rattle.elf_image.specs.memory.Image.{is_loaded_with}
use Rattle.elf_image.specs.memory.Break.{break_start, break_bound}
use Rattle.rv_memory.specs.Start.{space_of}
use Rattle.sym_machine.specs.declared.outcome.Reason.{Reason}
use Rattle.sym_machine.specs.declared.value.Value.{Value}
use Rattle.sym_machine.specs.declared.value.Value.TheVariants.{Num}
use Rattle.sym_machine.specs.declared.value.MemoryByte.{MemoryByte}
use Rattle.sym_machine.specs.SymStep.{SymState, SymOutcome, needs, checks}
use Rattle.move_law.specs.Rewrite.{Rewrite}
use Rattle.elf_image.specs.memory.Executables.{memory_of}
use Rattle.move_law.specs.SimulationRelation.{StandsFor, StandsForByte, RelatedData, RelatedPc}
use Rattle.rv_code.proofs.machine.RelatedMemory.{Alike, set_alike, bytes_alike, put_alike, put_keeps, all_may_implied}

-- The rights that the two files give a program.
pub record SameSpaces (r : Rewrite) : Type 0 where
  pub reads : (a : ℕ) → (space_of r.input.segments.items).reads a ≡ true → (space_of r.output.segments).reads a ≡ true
  pub writes : (a : ℕ) → (space_of r.input.segments.items).writes a ≡ true → (space_of r.output.segments).writes a ≡ true
  pub break_start_is : break_start r.input.segments.items ≡ break_start r.output.segments
  pub break_bound_is : break_bound r.input.segments.items ≡ break_bound r.output.segments
  -- a byte that the output loads and that may not be written is at no address that the input's program may write, nor in the break's range
  pub fixed : (a byte : ℕ) → is_loaded_with PF_W r.output.segments a ≡ false → memory_of r.output a ≡ Some byte →
      ((space_of r.input.segments.items).writes a ≡ true → ⊥)
      × (break_start r.output.segments ≤ a → a < break_bound r.output.segments → ⊥)

-- an outcome of the byte machine follows an outcome of the symbol machine
abbrev pub Follows : Rewrite → (ℕ → ℕ → Type 0) → SymOutcome → ByteOutcome → Type 0
Follows r L (Halts p why) o = Unit {0}
Follows r L (Going d e) (Going t f) = (e ≡ f) × RelatedData r d t × RelatedPc r L d.pc t.pc
Follows r L (Going d e) (Ended k) = ⊥
Follows r L (Going d e) (Halts p why) = ⊥
Follows r L (Ended j) (Ended k) = j ≡ k
Follows r L (Ended j) (Going t f) = ⊥
Follows r L (Ended j) (Halts p why) = ⊥

-- Conditions.

-- a condition that needs a value, with the equation for the value
pub needs_found : {A : Type 0} (r : Rewrite) (L : ℕ → ℕ → Type 0) (s : SymState) (why : Reason) (o : Option A)
    (rest : A → SymOutcome) (b : ByteOutcome) → ((x : A) → o ≡ Some x → Follows r L (rest x) b) →
    Follows r L (needs s why o rest) b
needs_found r L s why None rest b f = tt
needs_found r L s why (Some x) rest b f = f x refl

pub checks_follows : (r : Rewrite) (L : ℕ → ℕ → Type 0) (s : SymState) (why : Reason) (t : Bool) (rest : SymOutcome)
    (b : ByteOutcome) → (t ≡ true → Follows r L rest b) → Follows r L (checks s why t rest) b
checks_follows r L s why false rest b f = tt
checks_follows r L s why true rest b f = f refl

-- Rights.

or_last : (x y : Bool) → y ≡ true → x || y ≡ true
or_last true y h = refl
or_last false y h = h

pub lt_le : (x y z : ℕ) → x < y → y ≤ z → x < z
lt_le x y z h k = omega arith

module _ (r : Rewrite) (spaces : SameSpaces r) (c : SymState) (b : ByteState) (rel : RelatedData r c b) where
  pub break_start_same : c.space.break_start ≡ b.space.break_start
  break_start_same = grind (arith, common_steps)

  pub break_bound_same : c.space.break_bound ≡ b.space.break_bound
  break_bound_same = grind (arith, common_steps)

  in_break_same : (a : ℕ) → in_break c a ≡ in_break b a
  in_break_same a = rw (break_start_same, rel.break_is) refl

  pub may_read_kept : (a : ℕ) → may_read c a ≡ true → may_read b a ≡ true
  may_read_kept a may = grind (arith, common_steps, in_break_same, or_last)

  pub may_write_kept : (a : ℕ) → may_write c a ≡ true → may_write b a ≡ true
  may_write_kept a may = grind (arith, common_steps, in_break_same, or_last)

  -- a byte that may not be written isn't written
  pub fixed_not_written : (a byte : ℕ) → is_loaded_with PF_W r.output.segments a ≡ false →
      memory_of r.output a ≡ Some byte → may_write c a ≡ true → ⊥
  fixed_not_written a byte e h may = by (c.space.writes a) refl
    where
      by : (t : Bool) → c.space.writes a ≡ t → ⊥
      by true k = (spaces.fixed a byte e h).0 (sym (ap (λ (s : Space). s.writes a) rel.input_rights) ∙ k)
      by false k =
          let g : in_break b a ≡ true = sym (in_break_same a) ∙ (rw k at may) in
          let parts = and_parts (nat_le b.space.break_start a) (nat_lt a b.program_break) g in
          let from : b.space.break_start ≤ a = leb-true b.space.break_start a parts.0 in
          let to : a < b.program_break = ltb-true a b.program_break parts.1 in
          let start_is : b.space.break_start ≡ break_start r.output.segments =
          ap (λ (s : Space). s.break_start) rel.output_rights in
          let bound_is : b.space.break_bound ≡ break_bound r.output.segments =
          ap (λ (s : Space). s.break_bound) rel.output_rights in
          let fits = rel.break_fits.1 in
          (spaces.fixed a byte e h).1 (rw (sym start_is) from)
          (rw (sym bound_is) (lt_le a b.program_break b.space.break_bound to fits))

  -- Loads read related bytes.
  pub reads_alike : (a n : ℕ) → all_may (may_read c) a n ≡ true →
      Alike (StandsForByte r) (memory_bytes c.memory a n) (memory_bytes b.memory a n)
  reads_alike a n can = grind (arith, common_steps, bytes_alike)

  pub reads_can : (a n : ℕ) → all_may (may_read c) a n ≡ true → all_may (may_read b) a n ≡ true
  reads_can a n can = all_may_implied (may_read c) (may_read b) a n may_read_kept can

  pub writes_can : (a n : ℕ) → all_may (may_write c) a n ≡ true → all_may (may_write b) a n ≡ true
  writes_can a n can = all_may_implied (may_write c) (may_write b) a n may_write_kept can

  -- Stores keep states related.
  pub stored_data : (a n p q : ℕ) (cells : List MemoryByte) (bytes : List ℕ) → all_may (may_write c) a n ≡ true →
      length bytes ≤ n → Alike (StandsForByte r) cells bytes →
      RelatedData r (record c { pc = p; memory = put c.memory a cells }) (record b { pc = q; memory = put b.memory a bytes })
  stored_data a n p q cells bytes can fits alike = record {
    zero_is = rel.zero_is;
    registers = rel.registers;
    memory = λ x right. put_alike (StandsForByte r) c.memory b.memory a x cells bytes alike (rel.memory x right);
    input = rel.input;
    break_is = rel.break_is;
    break_fits = rel.break_fits;
    input_rights = rel.input_rights;
    output_rights = rel.output_rights;
    loaded =
        λ x byte e h. put_keeps b.memory (may_write c) a n x bytes can fits (fixed_not_written x byte e h)
        ∙ rel.loaded x byte e h;
  }

-- the relation doesn't depend on the pcs
pub moved_data : (r : Rewrite) (c : SymState) (b : ByteState) (p q : ℕ) → RelatedData r c b →
    RelatedData r (record c { pc = p }) (record b { pc = q })
moved_data r c b p q rel = grind (arith, common_steps)

pub written_data : (r : Rewrite) (c : SymState) (b : ByteState) (p q rd x : ℕ) (v : Value) → RelatedData r c b →
    ((k : ℕ) → rd ≡ suc k → StandsFor r v x) →
    RelatedData r (record c { pc = p; registers = set_register rd v c.registers })
    (record b { pc = q; registers = set_register rd x b.registers })
written_data r c b p q rd x v rel is = record {
  zero_is = zero_kept rd;
  registers = set_alike (StandsFor r) rd v x c.registers b.registers is rel.registers;
  memory = rel.memory;
  input = rel.input;
  break_is = rel.break_is;
  break_fits = rel.break_fits;
  input_rights = rel.input_rights;
  output_rights = rel.output_rights;
  loaded = rel.loaded;
}
  where
    zero_kept : (n : ℕ) → set_register n v c.registers 0 ≡ Num 0
    zero_kept zero = rel.zero_is
    zero_kept (suc n) = rw (ne_eqb 0 (suc n) (λ e. absurd (omega (arith, e)))) rel.zero_is

pub goes_follows : (r : Rewrite) (L : ℕ → ℕ → Type 0) (c : SymState) (b : ByteState) (p q : ℕ) (e : Option Event) →
    RelatedData r c b → RelatedPc r L p q → Follows r L (Going (record c { pc = p }) e) (Going (record b { pc = q }) e)
goes_follows r L c b p q e rel leads = (refl, moved_data r c b p q rel, leads)

pub gives_follows : (r : Rewrite) (L : ℕ → ℕ → Type 0) (c : SymState) (b : ByteState) (p q rd x : ℕ) (v : Value)
    (e : Option Event) → RelatedData r c b → RelatedPc r L p q → ((k : ℕ) → rd ≡ suc k → StandsFor r v x) →
    Follows r L (Going (record c { pc = p; registers = set_register rd v c.registers }) e)
    (Going (record b { pc = q; registers = set_register rd x b.registers }) e)
gives_follows r L c b p q rd x v e rel leads is = (refl, written_data r c b p q rd x v rel is, leads)
