-- Code that a program can't write keeps its bytes.
use Rattle.std.proofs.Common.{◌≡◌, ◌∙◌, sym, ap, refl, ℕ, zero, suc, ◌+◌, ◌-◌, ◌*◌, ◌/◌, ◌%◌, ◌^◌, ◌<◌, ◌≤◌, Bool, true, false}
use Rattle.std.proofs.Common.{List, length, Option, Some, None, arith}
use Rattle.std.specs.Prelude.{◌&&◌, ◌==◌, nat_le, nat_lt, if◌then◌else◌, unwrap_or, slice_index, Result, Ok, Err, IsOk, OnErr}
use Rattle.std.specs.Option.{option_map}
use Rattle.std.proofs.lemmas.Bool.{and_parts, and_from, leb-true, ltb-true, le-leb, lt-ltb, false_from_ne_true, eqb-true, or_parts}
use Rattle.rv_code.specs.machine.Machine.{plus, all_may}
use Rattle.elf_image.specs.declared.segment.TheConstants.{PF_W}
use Rattle.elf_image.specs.memory.Image.{image_byte, is_loaded_with}
use Rattle.rv_memory.specs.Start.{in_stack, stack_end, stack_size}
use Rattle.rv_memory.specs.declared.memory.Memory.{Memory}
use Rattle.rv_memory.specs.CodeRange.{is_in_code}
use Rattle.rv_memory.specs.Memory.{memory_of, is_zero_filled, unwritten_byte, writes, executes, Keeps}
use Rattle.std.proofs.Common.{drop, get_or}
use Rattle.std.proofs.lemmas.List.{get_or-drop}
use Rattle.elf_image.specs.file.Header.{number_at}
use Rattle.rv_code.specs.machine.Machine.{little, memory_bytes}
use Rattle.rv_memory.proofs.PageBytes.{little_from-is}
use Rattle.rv_memory.proofs.AddressRuns.{all_may-run, or_second}
use Rattle.rv_code.proofs.machine.RelatedMemory.{all_may_implied}
use Rattle.rv_memory.proofs.StackMemory.{in_stack-both}
use Rattle.rb_bytes.proofs.Tests.{clash}
use Rattle.rv_memory.specs.Pages.{page_byte, is_within, byte_put, cleared_between}
use Rattle.std.proofs.lemmas.Grind.{common_steps}

pub all_may_at : (may : ℕ → Bool) (a n k : ℕ) → all_may may a n ≡ true → k < n → a + k < 2 ^ 64 → may (a + k) ≡ true
unfolding all_may
all_may_at may a zero k all within room = absurd (omega arith)
all_may_at may a (suc n) zero all within room =
    let here : a + 0 ≡ a = omega arith in ap may here ∙ (and_parts (may a) (all_may may (plus a 1) n) all).0
all_may_at may a (suc n) (suc k) all within room =
    let next : plus a 1 ≡ a + 1 = omega arith in
    let rest : all_may may (a + 1) n ≡ true = rw next at (and_parts (may a) (all_may may (plus a 1) n) all).1 in
    let there : a + suc k ≡ a + 1 + k = omega arith in
    ap may there ∙ all_may_at may (a + 1) n k rest (omega arith) (omega arith)

-- Each address of a range, which may wrap.
pub all_may_each : (may : ℕ → Bool) (a n k : ℕ) → a < 2 ^ 64 → all_may may a n ≡ true → k < n → may (plus a k) ≡ true
unfolding all_may
all_may_each may a zero k low all within = absurd (omega arith)
all_may_each may a (suc n) zero low all within = grind (arith, common_steps, and_parts)
all_may_each may a (suc n) (suc k) low all within =
    let there : plus a (suc k) ≡ plus (plus a 1) k = omega arith in
    ap may there
    ∙ all_may_each may (plus a 1) n k (omega arith) (and_parts (may a) (all_may may (plus a 1) n) all).1 (omega arith)

-- The first addresses of a range.
pub all_may_front : (may : ℕ → Bool) (a m n : ℕ) → m ≤ n → all_may may a n ≡ true → all_may may a m ≡ true
unfolding all_may
all_may_front may a zero n few all = refl
all_may_front may a (suc m) zero few all = absurd (omega arith)
all_may_front may a (suc m) (suc n) few all =
    let parts = and_parts (may a) (all_may may (plus a 1) n) all in
    rw parts.0 (all_may_front may (plus a 1) m n (omega arith) parts.1)

not_gained : (from to bound q : ℕ) → to ≤ bound → (nat_le from q && nat_lt q bound) ≡ false →
    (nat_le from q && nat_lt q to) ≡ false
not_gained from to bound q below apart = grind (arith, common_steps, false_from_ne_true, and_parts, ltb-true, clash, and_from, lt-ltb)

fixed_parts : (m : Memory) (q : ℕ) → is_in_code m.code q ≡ true → (is_loaded_with PF_W m.elf.now.segments.items q ≡ false)
    × (in_stack q ≡ false) × ((nat_le m.break_start q && nat_lt q m.break_bound) ≡ false)
fixed_parts m q here = grind (arith, common_steps, or_parts)

pub unwritable : (m : Memory) (q : ℕ) → is_in_code m.code q ≡ true → writes m q ≡ false
unwritable m q here = grind (arith, common_steps, fixed_parts, not_gained)

pub not_zero_filled : (m : Memory) (q : ℕ) → is_in_code m.code q ≡ true → is_zero_filled m q ≡ false
not_zero_filled m q here = grind (arith, common_steps, fixed_parts, not_gained)

pub unwritten_code : (m : Memory) (q : ℕ) → is_in_code m.code q ≡ true →
    unwritten_byte m q ≡ unwrap_or (image_byte m.elf.now.file.now m.elf.now.segments.items q) 0
unwritten_code m q here = grind (arith, common_steps, not_zero_filled)

-- Code is read as it was loaded.
pub code_is : (m : Memory) (q : ℕ) → is_in_code m.code q ≡ true →
    memory_of m q ≡ unwrap_or (image_byte m.elf.now.file.now m.elf.now.segments.items q) 0
code_is m q here = cases (page_byte m.pages q) refl
  where
    cases : (r : Option ℕ) → page_byte m.pages q ≡ r →
        unwrap_or r (unwritten_byte m q) ≡ unwrap_or (image_byte m.elf.now.file.now m.elf.now.segments.items q) 0
    cases None is = unwritten_code m q here
    cases (Some byte) is = m.code_stays q byte here is

-- No written address is in the code.
not_written : (m : Memory) (a n : ℕ) → a + n ≤ 2 ^ 64 → all_may (writes m) a n ≡ true → (q : ℕ) → is_in_code m.code q ≡ true →
    is_within a n q ≡ false
not_written m a n room all q here =
    false_from_ne_true (is_within a n q) (λ e.
    let parts = and_parts (nat_le a q) (nat_lt q (a + n)) e in
    let low = leb-true a q parts.0 in
    let high = ltb-true q (a + n) parts.1 in
    let there : a + (q - a) ≡ q = omega arith in
    clash (writes m q) (ap (writes m) (sym there) ∙ all_may_at (writes m) a n (q - a) all (omega arith) (omega arith))
    (unwritable m q here))

pub code_put : (m : Memory) (new : ℕ → Option ℕ) (a : ℕ) (bytes : List ℕ) → a + length bytes ≤ 2 ^ 64 →
    all_may (writes m) a (length bytes) ≡ true → ((q : ℕ) → new q ≡ byte_put m.pages a bytes q) →
    (q byte : ℕ) → is_in_code m.code q ≡ true →
    new q ≡ Some byte → byte ≡ unwrap_or (image_byte m.elf.now.file.now m.elf.now.segments.items q) 0
code_put m new a bytes room all is q byte here found =
    m.code_stays q byte here
    (sym (is q ∙ ap (λ t. if t then Some (slice_index bytes (q - a)) else page_byte m.pages q)
    (not_written m a (length bytes) room all q here)) ∙ found)

pub code_put_byte : (m : Memory) (new : ℕ → Option ℕ) (a b : ℕ) → writes m a ≡ true →
    ((q : ℕ) → new q ≡ (if q == a then Some b else page_byte m.pages q)) → (q byte : ℕ) →
    is_in_code m.code q ≡ true → new q ≡ Some byte → byte ≡ unwrap_or (image_byte m.elf.now.file.now m.elf.now.segments.items q) 0
code_put_byte m new a b may is q byte here found =
    let other : (q == a) ≡ false =
    false_from_ne_true (q == a) (λ e. clash (writes m q) (ap (writes m) (eqb-true q a e) ∙ may) (unwritable m q here)) in
    m.code_stays q byte here (sym (is q ∙ ap (λ t. if t then Some b else page_byte m.pages q) other) ∙ found)

pub code_cleared : (m : Memory) (new : ℕ → Option ℕ) (to : ℕ) → to ≤ m.break_bound →
    ((q : ℕ) → new q ≡ cleared_between m.pages m.program_break to q) → (q byte : ℕ) →
    is_in_code m.code q ≡ true → new q ≡ Some byte →
    byte ≡ unwrap_or (image_byte m.elf.now.file.now m.elf.now.segments.items q) 0
code_cleared m new to below is q byte here found =
    let parts = fixed_parts m q here in
    let from = m.break_from in
    let apart : (nat_le m.program_break q && nat_lt q to) ≡ false =
    false_from_ne_true (nat_le m.program_break q && nat_lt q to) (λ e.
    let both = and_parts (nat_le m.program_break q) (nat_lt q to) e in
    let low = leb-true m.program_break q both.0 in
    let high = ltb-true q to both.1 in
    clash (nat_le m.break_start q && nat_lt q m.break_bound)
    (and_from (nat_le m.break_start q) (nat_lt q m.break_bound) (le-leb m.break_start q (omega arith))
    (lt-ltb q m.break_bound (omega arith))) parts.2) in
    m.code_stays q byte here
    (sym (is q ∙ ap (λ t. if t then option_map (λ b. 0) (page_byte m.pages q) else page_byte m.pages q) apart) ∙ found)

pub code_taken : {T E : Type 0} (m : Memory) (r : Result T E) (new : ℕ → Option ℕ) (n : ℕ) (page : List ℕ) →
    (IsOk r → (q : ℕ) → new q ≡ (if q / 4096 == n then Some (slice_index page (q % 4096)) else page_byte m.pages q)) →
    OnErr r ((q : ℕ) → new q ≡ page_byte m.pages q) →
    ((k : ℕ) → k < 4096 → slice_index page k ≡ unwritten_byte m (n * 4096 + k)) →
    (q byte : ℕ) → is_in_code m.code q ≡ true → new q ≡ Some byte →
    byte ≡ unwrap_or (image_byte m.elf.now.file.now m.elf.now.segments.items q) 0
code_taken m (Err e) new n page added kept bytes q byte here found = m.code_stays q byte here (sym (kept q) ∙ found)
code_taken m (Ok x) new n page added kept bytes q byte here found = cases (q / 4096 == n) refl
  where
    cases : (t : Bool) → (q / 4096 == n) ≡ t → byte ≡ unwrap_or (image_byte m.elf.now.file.now m.elf.now.segments.items q) 0
    cases false test =
        m.code_stays q byte here
        (sym (added refl q ∙ ap (λ t. if t then Some (slice_index page (q % 4096)) else page_byte m.pages q) test) ∙ found)
    cases true test =
        let same : q / 4096 ≡ n = eqb-true (q / 4096) n test in
        let whole : n * 4096 + q % 4096 ≡ q = omega arith in
        let is : Some byte ≡ Some (slice_index page (q % 4096)) = sym found ∙ added refl q
        ∙ ap (λ t. if t then Some (slice_index page (q % 4096)) else page_byte m.pages q) test in
        let value : byte ≡ slice_index page (q % 4096) = cc in
        value ∙ bytes (q % 4096) (omega arith) ∙ ap (unwritten_byte m) whole ∙ unwritten_code m q here

pub writes-keeps : (old new : Memory) → Keeps old new → (q : ℕ) → writes new q ≡ writes old q
writes-keeps old new keeps q = rw (keeps.elf_is, keeps.start_is, keeps.break_is) refl

-- The bytes of the code are the file's bytes.
pub code_half_is : (m : Memory) (a : ℕ) → m.code.from ≤ a → a + 2 ≤ m.code.to → a + 2 ≤ 2 ^ 64 →
    number_at m.elf.now.file.now (m.code.offset + (a - m.code.from)) 2 ≡ little (memory_bytes (memory_of m) a 2)
code_half_is m a low high room =
    let file = m.elf.now.file.now in
    let at = m.code.offset + (a - m.code.from) in
    little_from-is (memory_of m) (drop at file) 2 0 a (omega arith)
    (λ k less.
    let here : is_in_code m.code (a + k) ≡ true =
    and_from (nat_le m.code.from (a + k)) (nat_lt (a + k) m.code.to) (le-leb m.code.from (a + k) (omega arith))
    (lt-ltb (a + k) m.code.to (omega arith)) in
    let place : m.code.offset + (a + k - m.code.from) ≡ at + (0 + k) = omega arith in
    code_is m (a + k) here ∙ m.code_bytes (a + k) here ∙ ap (λ (j : ℕ). get_or file j 0) place
    ∙ sym (get_or-drop at file (0 + k) 0))

pub code_runs_at : (m : Memory) (a n : ℕ) → m.code.from ≤ a → a + n ≤ m.code.to → a + n ≤ 2 ^ 64 → all_may (executes m) a n ≡ true
code_runs_at m a n low high room = grind (arith, common_steps, all_may-run, and_from, le-leb, lt-ltb)

pub code_half_next : (m : Memory) (a : ℕ) → m.code.from ≤ a → a + 4 ≤ m.code.to → a + 4 ≤ 2 ^ 64 →
    number_at m.elf.now.file.now (m.code.offset + (a - m.code.from) + 2) 2 ≡ little (memory_bytes (memory_of m) (plus a 2) 2)
code_half_next m a low high room =
    let next : plus a 2 ≡ a + 2 = omega arith in
    let place : m.code.offset + (a - m.code.from) + 2 ≡ m.code.offset + (a + 2 - m.code.from) = omega arith in
    ap (λ (at : ℕ). number_at m.elf.now.file.now at 2) place ∙ code_half_is m (a + 2) (omega arith) (omega arith) (omega arith)
    ∙ ap (λ (b : ℕ). little (memory_bytes (memory_of m) b 2)) (sym next)

pub code_runs_next : (m : Memory) (a : ℕ) → m.code.from ≤ a → a + 4 ≤ m.code.to → a + 4 ≤ 2 ^ 64 →
    all_may (executes m) (plus a 2) 2 ≡ true
code_runs_next m a low high room = grind (arith, common_steps, code_runs_at)

-- A write that may or may not be made.
pub code_put_if : (m : Memory) (done : Bool) (new : ℕ → Option ℕ) (a n : ℕ) (bytes : List ℕ) → length bytes ≡ n → a + n ≤ 2 ^ 64 →
    all_may (writes m) a n ≡ true → (done ≡ true → (q : ℕ) → new q ≡ byte_put m.pages a bytes q) →
    (done ≡ false → (q : ℕ) → new q ≡ page_byte m.pages q) → (q byte : ℕ) → is_in_code m.code q ≡ true → new q ≡ Some byte →
    byte ≡ unwrap_or (image_byte m.elf.now.file.now m.elf.now.segments.items q) 0
code_put_if m true new a n bytes size room all put kept =
    code_put m new a bytes (omega arith) (ap (all_may (writes m) a) size ∙ all) (put refl)
code_put_if m false new a n bytes size room all put kept =
    λ q byte here found. m.code_stays q byte here (sym (kept refl q) ∙ found)

pub writable-keeps : (old new : Memory) → Keeps old new → (a n : ℕ) → all_may (writes old) a n ≡ true →
    all_may (writes new) a n ≡ true
writable-keeps old new keeps a n all = grind (arith, common_steps, all_may_implied, writes-keeps)

pub stack_writable : (m : Memory) (a n : ℕ) → stack_end - stack_size ≤ a → a + n ≤ stack_end → all_may (writes m) a n ≡ true
stack_writable m a n low high = grind (arith, common_steps, all_may-run, or_second, in_stack-both, le-leb, lt-ltb)
