-- A marked range from 10078 to 10090. Its instruction at 1007c moved to 20000. Between the start of the range, which
-- didn't move, and that instruction there is code of another function.
use Rattle.std.proofs.Common.{◌≡◌, ℕ, pos, [], ◌∷◌, Option, Some, true, false, refl, sym, ap, subst, arith}
use Rattle.std.specs.Prelude.{IsTrue, unwrap_or}
use Rattle.addr_map.specs.declared.span.Span.{Span}
use Rattle.cfi_rows.specs.Entries.{Cie, Fde, is_in_range, no_augmentation}
use Rattle.cfi_rows.specs.FrameRows.{nothing_known}
use Rattle.frame_rewrite.specs.FrameAnswers.{is_marked_by}
use Rattle.frame_rewrite.specs.Index.{AreApart, last_from}
use Rattle.frame_rewrite.specs.Tables.{MovesWhole}

abbrev cie : Cie
cie = record {
  code = 1;
  «data» = pos 1;
  ra = 1;
  augmentation = no_augmentation;
  instructions = [];
  known = nothing_known;
}

abbrev fde : Fde
fde = record {
  place = 24;
  start = 0x10078;
  end = 0x10090;
  table = 0x12000;
  cie = cie;
  instructions = [];
  rows = [];
}

-- its range begins at a cut, and no cut is strictly inside
marked : is_marked_by (0x10078 ∷ 0x10090 ∷ []) fde ≡ true
marked = refl

unmarked : is_marked_by (0x10078 ∷ 0x10080 ∷ []) fde ≡ false
unmarked = refl

abbrev moved_apart : Span
moved_apart = record { out = 0x20000; len = 4; input = 0x1007c }

abbrev other_code : Span
other_code = record { out = 0x10100; len = 4; input = 0x30000 }

-- Each entry that starts at the start of the range and holds 20000 would hold 10100 too, which no entry held.
gap : MovesWhole (moved_apart ∷ other_code ∷ []) fde → ⊥
gap whole =
    let found = whole.no_gap moved_apart 0x10100 (0, omega arith, refl) refl (omega arith) (omega arith) in
    let same : found.0 ≡ 0x30000 = sym (ap (λ (o : Option ℕ). unwrap_or o 0) found.1) in
    let inside : is_in_range fde 0x30000 ≡ true = subst (λ (o : ℕ). IsTrue (is_in_range fde o)) same found.2 in
    absurd (cc)

-- A piece of it with the same start holds its first addresses too. A search for the address after the piece finds
-- the later one of the two.
abbrev piece : Fde
piece = record {
  place = 56;
  start = 0x10078;
  end = 0x1007c;
  table = 0x12000;
  cie = cie;
  instructions = [];
  rows = [];
}

shared : AreApart (fde ∷ piece ∷ []) → ⊥
shared apart = apart 0 1 fde (omega arith) (omega arith) 0x10078 refl refl

missed : last_from (fde ∷ piece ∷ []) 0x1007c ≡ Some piece
missed = refl
