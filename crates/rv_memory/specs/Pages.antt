-- The byte of a page at an address.
use Rattle.std.specs.Prelude.{◌≡◌, ℕ, ◌+◌, ◌-◌, ◌*◌, ◌/◌, ◌%◌, ◌&&◌, nat_le, nat_lt, if◌then◌else◌, Bool, List, length}
use Rattle.std.specs.Prelude.{Option, Some, slice_index}
use Rattle.std.specs.Option.{option_map}
use Rattle.rv_memory.specs.PageIndex.{place_of}
use Rattle.rv_memory.specs.declared.page_index.PageIndex.{PageIndex}
use Rattle.rv_memory.specs.declared.pages.Pages.{Pages}

-- The page of an address has the number a / 4096. The bytes of all pages are in one list, ordered by page index.
unfoldable pub byte_in : PageIndex → List ℕ → ℕ → Option ℕ
byte_in index bytes a = option_map (λ place. slice_index bytes (place * 4096 + a % 4096)) (place_of index (a / 4096))

abbrev pub page_byte : Pages → ℕ → Option ℕ
page_byte pages a = byte_in pages.index pages.bytes.items a

-- The address is one of the n addresses from `a` on.
abbrev pub is_within : ℕ → ℕ → ℕ → Bool
is_within a n q = nat_le a q && nat_lt q (a + n)

-- The byte at an address after bytes were written from address `a` on.
abbrev pub byte_put : Pages → ℕ → List ℕ → ℕ → Option ℕ
byte_put pages a bytes q = if is_within a (length bytes) q then Some (slice_index bytes (q - a)) else page_byte pages q

-- The byte at an address after the n bytes from address `a` on were cleared.
abbrev pub byte_cleared : Pages → ℕ → ℕ → ℕ → Option ℕ
byte_cleared pages a n q = if is_within a n q then option_map (λ byte. 0) (page_byte pages q) else page_byte pages q

-- The byte at an address after the bytes from `from` to before `to` were cleared.
abbrev pub cleared_between : Pages → ℕ → ℕ → ℕ → Option ℕ
cleared_between pages from to q =
    if nat_le from q && nat_lt q to then option_map (λ byte. 0) (page_byte pages q) else page_byte pages q

-- The memory agrees with the bytes of the pages.
pub record IsLike (pages : Pages) (memory : ℕ → ℕ) : Type 0 where
  pub at : (q byte : ℕ) → page_byte pages q ≡ Some byte → memory q ≡ byte
