-- Ranges of addresses that don't wrap.
use Rattle.std.proofs.Common.{◌≡◌, ◌∙◌, ◌⊎◌, inl, inr, ap, refl, ℕ, zero, suc, ◌+◌, ◌-◌, ◌*◌, ◌^◌, ◌<◌, ◌≤◌, Bool, true}
use Rattle.std.proofs.Common.{false, IsTrue, List, [], ◌∷◌, length, Option, Some, None, arith}
use Rattle.std.specs.Prelude.{◌&&◌, ◌||◌, ◌==◌, nat_le, nat_lt, if◌then◌else◌, unwrap_or, slice_index, max}
use Rattle.std.proofs.Common.{◌++◌}
use Rattle.std.proofs.lemmas.List.{get_or_append_left, get_or-append_right}
use Rattle.std.specs.List.{list_all, find}
use Rattle.std.specs.Prelude.{Result, Ok, Err, IsOk, OnErr}
use Rattle.std.proofs.Common.{◌/◌, ◌%◌}
use Rattle.std.specs.Option.{option_map, option_map_or}
use Rattle.std.proofs.lemmas.Bool.{and_parts, leb-true, leb-false, ltb-true, ltb-false, eqb-true, eqb-false, eq-eqb, le-leb}
use Rattle.std.proofs.lemmas.Bool.{lt-ltb, false_from_ne_true, cases_lt, or_cases}
use Rattle.rv_code.specs.machine.Machine.{plus, put, all_may}
use Rattle.elf_image.specs.declared.segment.Segment.{Segment}
use Rattle.elf_image.specs.declared.elf.Elf.{Elf}
use Rattle.elf_image.specs.memory.Image.{end_of, loads_address, segment_of, byte_of, image_byte, has_flag, is_loaded_with}
use Rattle.elf_image.proofs.LoadLemmas.{loads-parts, loads-from_parts, same_segment}
use Rattle.rv_memory.specs.Pages.{is_within}
use Rattle.rv_memory.specs.BlankPages.{misses}
use Rattle.std.proofs.lemmas.Grind.{common_steps}

pub all_may-run : (may : ℕ → Bool) (a n : ℕ) → a + n ≤ 2 ^ 64 →
    ((q : ℕ) → a ≤ q → q < a + n → may q ≡ true) → all_may may a n ≡ true
unfolding all_may
all_may-run may a zero room each = refl
all_may-run may a (suc zero) room each = rw (each a (omega arith) (omega arith)) refl
all_may-run may a (suc (suc n)) room each =
    let next : plus a 1 ≡ a + 1 = omega arith in
    rw (each a (omega arith) (omega arith), next)
    (all_may-run may (a + 1) (suc n) (omega arith) (λ q from to. each q (omega arith) (omega arith)))

pub or_first : (x y z : Bool) → x ≡ true → ((x || y) || z) ≡ true
or_first x y z is = rw is refl

pub or_second : (x y z : Bool) → y ≡ true → ((x || y) || z) ≡ true
or_second true y z is = refl
or_second false y z is = rw is refl

pub or_third : (x y z : Bool) → z ≡ true → ((x || y) || z) ≡ true
or_third true y z is = refl
or_third false true z is = refl
or_third false false z is = is

-- Bytes that are written over others.
pub put_in : (memory : ℕ → ℕ) (a q : ℕ) (bytes : List ℕ) → a + length bytes ≤ 2 ^ 64 → a ≤ q → q < a + length bytes →
    put memory a bytes q ≡ slice_index bytes (q - a)
unfolding put
put_in memory a q [] room from to = absurd (omega arith)
put_in memory a q (b ∷ []) room from to =
    let same : q ≡ a = omega arith in
    let first : q - a ≡ 0 = omega arith in
    rw (eq-eqb q a same, first) refl
put_in memory a q (b ∷ c ∷ bytes) room from to =
    let next : plus a 1 ≡ a + 1 = omega arith in
    cases (q == a) refl
    (λ after. ap (λ p. put memory p (c ∷ bytes) q) next ∙ put_in memory (a + 1) q (c ∷ bytes) (omega arith) after (omega arith))
  where
    cases : (t : Bool) → (q == a) ≡ t →
        (a + 1 ≤ q → put memory (plus a 1) (c ∷ bytes) q ≡ slice_index (c ∷ bytes) (q - (a + 1))) →
        (if t then b else put memory (plus a 1) (c ∷ bytes) q) ≡ slice_index (b ∷ c ∷ bytes) (q - a)
    cases true test rest =
        let same : q ≡ a = eqb-true q a test in
        let first : q - a ≡ 0 = omega arith in
        rw first refl
    cases false test rest =
        let apart = eqb-false q a test in
        let after : a + 1 ≤ q = omega (arith, apart) in
        let one : q - a ≡ suc (q - (a + 1)) = omega arith in
        rw one (rest after)

pub put_out : (memory : ℕ → ℕ) (a q : ℕ) (bytes : List ℕ) → a + length bytes ≤ 2 ^ 64 → (q < a) ⊎ (a + length bytes ≤ q) →
    put memory a bytes q ≡ memory q
unfolding put
put_out memory a q [] room out = refl
put_out memory a q (b ∷ []) room out =
    let other : (q == a) ≡ false =
    false_from_ne_true (q == a) (λ e. let same = eqb-true q a e in elim out [ inl low ↦ omega arith | inr high ↦ omega arith ]) in
    rw other refl
put_out memory a q (b ∷ c ∷ bytes) room out =
    let next : plus a 1 ≡ a + 1 = omega arith in
    let other : (q == a) ≡ false =
    false_from_ne_true (q == a) (λ e. let same = eqb-true q a e in elim out [ inl low ↦ omega arith | inr high ↦ omega arith ]) in
    let past : (q < a + 1) ⊎ (a + 1 + length (c ∷ bytes) ≤ q) =
    elim out [ inl low ↦ inl (omega arith) | inr high ↦ inr (omega arith) ] in
    rw (other, next) (put_out memory (a + 1) q (c ∷ bytes) (omega arith) past)

-- The bytes of pages and of unwritten memory after a write to one page.
pub put_pages : (old new : ℕ → Option ℕ) (unwritten : ℕ → ℕ) (a : ℕ) (bytes : List ℕ) → a + length bytes ≤ 2 ^ 64 →
    ((q : ℕ) → new q ≡ (if is_within a (length bytes) q then Some (slice_index bytes (q - a)) else old q)) → (q : ℕ) →
    unwrap_or (new q) (unwritten q) ≡ put (λ p. unwrap_or (old p) (unwritten p)) a bytes q
put_pages old new unwritten a bytes room is q = grind (arith, common_steps, put_in, ltb-true, put_out, ltb-false, leb-true, leb-false)

pub loaded_run : (elf : Elf) (flag a n : ℕ) (p : Segment) → segment_of elf.segments.items a ≡ Some p →
    IsTrue (loads_address a p) →
    has_flag flag p ≡ true → p.vaddr ≤ a → a + n ≤ end_of p → a + n ≤ 2 ^ 64 →
    all_may (is_loaded_with flag elf.segments.items) a n ≡ true
loaded_run elf flag a n p found loads flagged from to room =
    all_may-run (is_loaded_with flag elf.segments.items) a n room
    (λ q low high.
    ap (λ r. option_map_or (has_flag flag) r false)
    (same_segment elf a q p found (loads-from_parts q p (loads-parts a p loads).0 (omega arith) (omega arith)))
    ∙ flagged)

missed : (from q : ℕ) (p : Segment) → misses from p ≡ true → IsTrue (loads_address q p) → q < from + 4096 →
    p.vaddr + p.filesz ≤ from
missed from q p clear loads high = grind (arith, common_steps, loads-parts, or_cases, leb-true)

-- A page with no byte of the file.
pub blank_byte : (file : List ℕ) (segments : List Segment) (from q : ℕ) → list_all (misses from) segments ≡ true → from ≤ q →
    q < from + 4096 → unwrap_or (image_byte file segments q) 0 ≡ 0
blank_byte file [] from q all low high = refl
blank_byte file (p ∷ ps) from q all low high =
    cases (blank_byte file ps from q (and_parts (misses from p) (list_all (misses from) ps) all).1 low high)
    (loads_address q p) refl
  where
    cases : unwrap_or (image_byte file ps q) 0 ≡ 0 → (t : Bool) → loads_address q p ≡ t →
        unwrap_or (option_map (byte_of file q) (if t then Some p else find (loads_address q) ps)) 0 ≡ 0
    cases rest false test = rest
    cases rest true test =
        let past = missed from q p (and_parts (misses from p) (list_all (misses from) ps) all).0 test high in
        let zero : nat_lt (q - p.vaddr) p.filesz ≡ false =
        false_from_ne_true (nat_lt (q - p.vaddr) p.filesz) (λ e. let inside = ltb-true (q - p.vaddr) p.filesz e in omega arith) in
        rw zero refl

-- Memory doesn't change when a page is added.
pub page_taken : {T E : Type 0} (r : Result T E) (old new : ℕ → Option ℕ) (unwritten : ℕ → ℕ) (n : ℕ) (page : List ℕ) →
    (IsOk r → (q : ℕ) → new q ≡ (if q / 4096 == n then Some (slice_index page (q % 4096)) else old q)) →
    OnErr r ((q : ℕ) → new q ≡ old q) → ((k : ℕ) → k < 4096 → slice_index page k ≡ unwritten (n * 4096 + k)) →
    ((q : ℕ) → q / 4096 ≡ n → old q ≡ None) → (q : ℕ) → unwrap_or (new q) (unwritten q) ≡ unwrap_or (old q) (unwritten q)
page_taken (Err e) old new unwritten n page added kept bytes absent q = ap (λ b. unwrap_or b (unwritten q)) (kept q)
page_taken (Ok x) old new unwritten n page added kept bytes absent q = grind (arith, common_steps, eqb-true)

-- One more byte of a list whose bytes are the values of a function.
pub pushed_more : (f : ℕ → ℕ) (xs : List ℕ) (b k : ℕ) → length xs ≡ k → b ≡ f k →
    ((j : ℕ) → j < k → slice_index xs j ≡ f j) → (j : ℕ) → j < k + 1 → slice_index (xs ++ b ∷ []) j ≡ f j
pushed_more f xs b k size is each j within = grind (arith, common_steps, cases_lt, get_or_append_left, get_or-append_right)

-- The bytes of pages and of unwritten memory after the break was raised or lowered.
pub break_moved : (p : Option ℕ) (stack : Bool) (image start now top to q : ℕ) → start ≤ now → now ≤ top →
    unwrap_or (if nat_le now q && nat_lt q to then option_map (λ b. 0) p else p)
    (if stack || (nat_le start q && nat_lt q (max top to)) then 0 else image)
    ≡ (if nat_le now q && nat_lt q to then 0 else unwrap_or p (if stack || (nat_le start q && nat_lt q top) then 0 else image))
break_moved p stack image start now top to q low high =
    grind (arith, common_steps, cases_lt, lt-ltb, le-leb, false_from_ne_true, ltb-true, and_parts, leb-true)
