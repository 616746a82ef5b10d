-- The fields of a CIE as the code keeps them.
use Rattle.cfi_rows.specs.declared.cie.Head.{Head as Kept}
use Rattle.cfi_rows.specs.Augmentations.{augmentation_of}
use Rattle.cfi_rows.specs.Entries.{Head}

abbrev pub head_of : Kept → Head
head_of h = record { code = h.code; «data» = h.«data»; ra = h.ra; augmentation = augmentation_of h.augmentation }
