-- Bytes that are read piece by piece.
use Rattle.std.proofs.Common.{◌≡◌, ◌+◌, ◌<◌, subst, ℕ, List, Option, length, take, get_or, ◌++◌, Fits, w8, arith}
use Rattle.std.specs.Prelude.{All}
use Rattle.std.proofs.Math.Facts.{Fits-lt-pow}
use Rattle.std.proofs.lemmas.List.{get_or_default}
use Rattle.std.proofs.Math.Seq.{take-append-add}
use Rattle.std.specs.Io.KnownBytes.{prepend_known}
use Rattle.std.proofs.lemmas.Grind.{common_steps}
use Rattle.run_core.proofs.Told.{prepend_known-append}

-- The members of a slice of bytes are bytes.
pub are_bytes : (xs : List ℕ) → ((i : ℕ) → Fits w8 (get_or xs i 0)) → All (λ b. b < 256) xs
are_bytes xs fit = λ k d below. subst (λ n. n < 256) (get_or_default xs k 0 d below) (Fits-lt-pow (fit k))

-- The bytes read so far fill the front of a buffer, and the next n bytes are at the front of the rest.
pub prepend_known-more : (a b c : Option (List ℕ)) (front filled rest : List ℕ) (d n : ℕ) → length front ≡ d → front ≡ filled →
    a ≡ prepend_known filled b → b ≡ prepend_known (take n rest) c → a ≡ prepend_known (take (d + n) (front ++ rest)) c
prepend_known-more a b c front filled rest d n size same first next = grind (arith, common_steps, prepend_known-append, take-append-add)
