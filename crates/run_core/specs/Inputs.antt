-- The input of a run: the bytes of a source, which may be opaque, up to the end that was found.
use Rattle.std.specs.Prelude.{◌≡◌, ◌<◌, ℕ, All, List, [], Bool, true, Option, None, Some}
use Rattle.std.specs.Io.KnownBytes.{IsAtEnd}
use Rattle.rb_io.specs.Views.{SourceSeen, SinkSeen}

-- What contracts see of the source and of the sink of a run.
pub record Outside : Type 0 where
  pub input : SourceSeen
  pub output : SinkSeen

-- The view of a source and a sink.
abbrev pub outside_of : SourceSeen → SinkSeen → Outside
outside_of input output = record { input = input; output = output }

-- What contracts see of a source with these bytes: the bytes if it is transparent, and None if it is opaque.
abbrev pub as_told : Option (List ℕ) → List ℕ → Option (List ℕ)
as_told None bytes = None
as_told (Some told) bytes = Some bytes

-- Possible bytes of the source, if it is opaque.
abbrev pub AreSomeBytes : Option (List ℕ) → List ℕ → Type 0
AreSomeBytes known bytes = known ≡ None → All (λ b. b < 256) bytes

-- Whether the end of the source was found.

-- If the end was found, no more bytes come.
abbrev pub MayCome : Bool → List ℕ → Type 0
MayCome ended bytes = ended ≡ true → bytes ≡ []

-- If the end was found, the source has no bytes left.
abbrev pub IsRightly : Bool → Option (List ℕ) → Type 0
IsRightly ended left = ended ≡ true → IsAtEnd left
