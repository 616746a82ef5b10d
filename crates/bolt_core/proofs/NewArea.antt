-- The address of new code that has room.
use Rattle.std.proofs.Common.{◌≡◌, refl, ℕ, ◌+◌, ◌-◌, ◌*◌, ◌/◌, ◌%◌, ◌<◌, ◌≤◌, Some, None, Bool, true, false, List, cond, arith}
use Rattle.std.specs.Prelude.{◌&&◌, nat_lt}
use Rattle.std.proofs.lemmas.Bool.{ltb-false}
use Rattle.rb_bytes.specs.declared.fault.Fault.{Fault}
use Rattle.rv_code.specs.declared.placed.Block.{Block}
use Rattle.rv_code.specs.declared.placed.Func.{Func}
use Rattle.elf_image.specs.declared.elf.Elf.{Elf}
use Rattle.elf_image.specs.declared.segment.Segment.{Segment}
use Rattle.rv_code.specs.layout.FunctionLists.{address_end}
use Rattle.elf_image.specs.file.Header.{header_size}
use Rattle.elf_image.specs.memory.CodeSegment.{executable_end}
use Rattle.area_room.specs.Room.{area_start_of}
use Rattle.cfi_rows.specs.FrameNeed.{frame_need}
use Rattle.area_room.specs.Need.{code_need, need}
use Rattle.file_room.specs.Numbers.{capped}
use Rattle.area_room.specs.RoomFault.{has_no_room, no_room, no_room_fault}
use Rattle.area_room.specs.Room.{area_limit, area_start, code_end, is_tight, pages_from, room, room_above}
use Rattle.file_room.proofs.Limits.{fold-min-le}

low_limit : (segments : List Segment) → area_limit segments ≤ address_end
low_limit segments = fold-min-le (pages_from (code_end segments) segments) address_end

-- both conditions of room, as numbers
pub record Fits (n start have : ℕ) : Type 0 where
  pub within : n ≤ have
  pub low : start + n ≤ address_end

behind : (n limit start : ℕ) (none : Bool) → limit ≤ address_end → 0 < n → n ≤ cond none 0 (limit - start) → Fits n start
    (cond none 0 (limit - start))
behind n limit start true low some fits = absurd (omega (arith, some, fits))
behind n limit start false low some fits = record { within = fits; low = omega (arith, low, some, fits) }

no_fault : (b : Bool) (f : Fault) → cond b (Some f) None ≡ None → b ≡ false
no_fault true f e = absurd (cc)
no_fault false f e = refl

both_false : (a b : Bool) → a ≡ true → (a && b) ≡ false → b ≡ false
both_false true b h e = e
both_false false b h e = absurd (cc)

fits_in : (segments : List Segment) (n : ℕ) (tight : Bool) → is_tight segments n ≡ tight → has_no_room segments n ≡ false → 0
    < n →
    Fits n (area_start_of segments tight) (cond tight (room_above segments) (room segments))
fits_in segments n true is_so has some =
    let fits = ltb-false (room_above segments) n (both_false (is_tight segments n) (nat_lt (room_above segments) n) is_so has) in
    record { within = fits; low = omega (arith, some, fits) }
fits_in segments n false is_so has some =
    behind n (area_limit segments) (area_start segments) (nat_lt (executable_end segments) header_size) (low_limit segments) some
    (ltb-false (room segments) n is_so)

pub fits_somewhere : (segments : List Segment) (n : ℕ) → no_room segments n ≡ None → 0 < n →
    Fits n (area_start_of segments (is_tight segments n)) (cond (is_tight segments n) (room_above segments) (room segments))
fits_somewhere segments n none some =
    fits_in segments n (is_tight segments n) refl (no_fault (has_no_room segments n) (no_room_fault segments n) none) some

-- The code and its unwind table are at most as long as what is needed.

uncapped : (n limit : ℕ) → capped n ≤ limit → limit ≤ address_end → n ≤ capped n
uncapped n limit low high = omega (arith, low, high)

-- a sum that ends within the addresses doesn't saturate
pub needed : (n start : ℕ) → start + n ≤ address_end → n ≤ capped n
needed n start low = uncapped n address_end (omega (arith, low)) (omega arith)

pub record HasRoom (elf : Elf) (funcs : List Func) (blocks : List Block) : Type 0 where
  pub low : area_start_of elf.segments.items (is_tight elf.segments.items (need elf funcs blocks)) + code_need funcs blocks ≤
      address_end
  pub within : code_need funcs blocks ≤ cond (is_tight elf.segments.items (need elf funcs blocks))
      (room_above elf.segments.items) (room elf.segments.items)
  -- the code with the unwind table
  pub all : Fits (code_need funcs blocks + frame_need elf funcs blocks)
      (area_start_of elf.segments.items (is_tight elf.segments.items (need elf funcs blocks)))
      (cond (is_tight elf.segments.items (need elf funcs blocks)) (room_above elf.segments.items) (room elf.segments.items))

uncapped_fits : (n start have : ℕ) → Fits (capped n) start have → Fits n start have
uncapped_fits n start have fits =
    let within = fits.within in
    let low = fits.low in
    let all : n ≤ capped n = uncapped n (start + capped n) (omega arith) low in
    record { within = omega (arith, all, within); low = omega (arith, all, low) }

by_sum : (code more start have : ℕ) → Fits (code + more) start have → (start + code ≤ address_end) × (code ≤ have)
by_sum code more start have fits =
    let within = fits.within in
    let low = fits.low in
    (omega (arith, low), omega (arith, within))

some_capped : (code more : ℕ) → 0 < code → 0 < capped (code + more)
some_capped code more some = omega (arith, some)

pub has_room : (elf : Elf) (funcs : List Func) (blocks : List Block) → 0 < code_need funcs blocks →
    no_room elf.segments.items (need elf funcs blocks) ≡ None → HasRoom elf funcs blocks
has_room elf funcs blocks some none =
    let n : ℕ = need elf funcs blocks in
    let start = area_start_of elf.segments.items (is_tight elf.segments.items n) in
    let have = cond (is_tight elf.segments.items n) (room_above elf.segments.items) (room elf.segments.items) in
    let all = uncapped_fits (code_need funcs blocks + frame_need elf funcs blocks) start have
    (fits_somewhere elf.segments.items n none (some_capped (code_need funcs blocks) (frame_need elf funcs blocks) some)) in
    let both = by_sum (code_need funcs blocks) (frame_need elf funcs blocks) start have all in
    record { low = both.0; within = both.1; all = all }

-- The area starts at an even address.

even_up : (n : ℕ) → (n + 15) / 16 * 16 % 2 ≡ 0
even_up n = omega arith

pub start_even : (segments : List Segment) (tight : Bool) → area_start_of segments tight % 2 ≡ 0
start_even segments true = even_up _
start_even segments false = even_up _
