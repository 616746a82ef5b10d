-- Frame tables without augmentations. DWARF 5, section 6.4.1.
use Rattle.std.specs.Prelude.{◌≡◌, ℕ, IsTrue, List, All, true, false, Some, slice_get}
use Rattle.cfi_rows.specs.Entries.{RawEntry, is_cie, walked_entries}
use Rattle.frame_rewrite.specs.FrameAnswers.{FrameAnswer}

-- An answer that needs none: there is no handler, no exception table, and the frame isn't one of a signal handler.
pub record IsPlain (x : FrameAnswer) : Type 0 where
  pub handler : x.handler ≡ 0
  pub indirect : x.indirect ≡ false
  pub signal : x.signal ≡ false
  pub table : x.table ≡ 0

-- The text of a CIE's augmentation comes after its version and ends with a zero: here it is empty.
abbrev pub HasNoText : RawEntry → Type 0
HasNoText e = slice_get e.body 1 ≡ Some 0

-- no CIE of a `.debug_frame` has an augmentation
abbrev pub HasNoTexts : List ℕ → Type 0
HasNoTexts table = All (λ e. IsTrue (is_cie true e) → HasNoText e) (walked_entries true table).entries
