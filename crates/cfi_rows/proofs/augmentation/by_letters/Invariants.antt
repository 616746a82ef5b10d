use Rattle.std.proofs.Common.{◌≡◌, drop}
use Rattle.cfi_rows.specs.Entries.{letters_at, with_data}
use Rattle.cfi_rows.specs.Augmentations.{augmentation_of}
use Rattle.cfi_rows.proofs.augmentation.by_letters.Given as goal

abbrev pub invariant-loop-letter : goal.invariant-loop-letter
invariant-loop-letter l = letters_at l.end l.fn.letters with_data l.fn.bytes ≡
    letters_at l.end (drop l.letter-index l.fn.letters) (augmentation_of l.augmentation) l.cursor.left
