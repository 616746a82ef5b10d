-- The new area with its tables takes at most the bytes that are needed.
use Rattle.std.proofs.Common.{◌∙◌, ℕ, ◌+◌, ◌-◌, ◌≤◌, List, Option, Some, None, Bool, length, arith, sym}
use Rattle.std.specs.Prelude.{All, IsTrue, nat_le, nat_lt}
use Rattle.std.proofs.lemmas.Bool.{and_parts, ltb-true}
use Rattle.rb_bytes.proofs.ListLemmas.{all_of}
use Rattle.std.proofs.lemmas.List.Elements.{All-contains}
use Rattle.elf_image.specs.declared.segment.Segment.{Segment}
use Rattle.elf_image.specs.memory.Break.{rounded_up}
use Rattle.addr_map.specs.declared.span.Span.{Span}
use Rattle.addr_map.specs.Spans.{IsStretch, is_new_code}
use Rattle.area_room.specs.Room.{area_start_of}
use Rattle.elf_write.specs.Area.{area_of}
use Rattle.cfi_rows.specs.Entries.{Fde}
use Rattle.bolt_core.specs.internal.GivenIndex.{frames_at, index_at}

up_8 : (n : ℕ) → rounded_up 8 n ≤ n + 7
up_8 n = omega arith

up_4 : (n : ℕ) → rounded_up 4 n ≤ n + 3
up_4 n = omega arith

-- the address of the index, by the bytes before it
index_upto : (n eh p : ℕ) → p ≤ n + 7 → rounded_up 4 (p + eh) ≤ n + eh + 10
index_upto n eh p x = let y = up_4 (p + eh) in omega (arith, x, y)

pub index_within : (start code end : ℕ) (eh : List ℕ) → start + code + (length eh + 10) ≤ end → index_at start code eh ≤ end
index_within start code end eh low =
    let y = index_upto (start + code) (length eh) (frames_at start code) (up_8 (start + code)) in
    omega (arith, y, low)

-- the greatest sizes of tables, with the padding between them
abbrev pub SizesFit : Option ℕ → Option ℕ → ℕ → Type 0
SizesFit None None more = Unit {0}
SizesFit None (Some index) more = ⊥
SizesFit (Some eh) None more = eh + 10 ≤ more
SizesFit (Some eh) (Some index) more = eh + index + 10 ≤ more

pub area_fits : (segments : List Segment) (tight : Bool) (code code_need more : ℕ) (frames index : Option ℕ) →
    code ≤ code_need → SizesFit frames index more →
    (area_of segments tight code frames index).end - (area_of segments tight code frames index).start ≤ code_need + more
area_fits segments tight code code_need more None None c s = by (area_start_of segments tight)
  where
    by : (start : ℕ) → start + code - start ≤ code_need + more
    by start = omega (arith, c)
area_fits segments tight code code_need more None (Some index) c s = absurd s
area_fits segments tight code code_need more (Some eh) None c s =
    by (area_start_of segments tight) (rounded_up 8 (area_start_of segments tight + code)) (up_8 (area_start_of segments tight + code))
  where
    by : (start p : ℕ) → p ≤ start + code + 7 → p + eh - start ≤ code_need + more
    by start p x = omega (arith, x, c, s)
area_fits segments tight code code_need more (Some eh) (Some index) c s =
    by (area_start_of segments tight) (rounded_up 8 (area_start_of segments tight + code))
    (rounded_up 4 (rounded_up 8 (area_start_of segments tight + code) + eh)) (up_8 (area_start_of segments tight + code))
    (up_4 (rounded_up 8 (area_start_of segments tight + code) + eh))
  where
    by : (start p q : ℕ) → p ≤ start + code + 7 → q ≤ p + eh + 3 → q + index - start ≤ code_need + more
    by start p q x y = omega (arith, x, y, c, s)

-- Entries that start in the new code start before its end.
pub starts_low : (spans : List Span) (start end limit : ℕ) (list : List Fde) → IsStretch spans start end → end ≤ limit →
    All (λ (f : Fde). IsTrue (is_new_code spans f.start)) list → All (λ (f : Fde). f.start ≤ limit) list
starts_low spans start end limit list stretch low starts =
    all_of (λ (f : Fde). f.start ≤ limit) list (λ f has.
    let in_code = All-contains (λ (g : Fde). IsTrue (is_new_code spans g.start)) list f starts has in
    let below = ltb-true f.start end
    ((and_parts (nat_le start f.start) (nat_lt f.start end) (sym (stretch f.start) ∙ in_code)).1) in
    omega (arith, below, low))
