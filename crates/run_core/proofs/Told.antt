-- Known bytes of transparent sources and sinks.
use Rattle.std.proofs.Common.{◌≡◌, ◌∙◌, ◌<◌, refl, sym, ap, ℕ, List, [], ◌++◌, Option, Some, None, Bool, append-nil, append_assoc, arith}
use Rattle.std.specs.Prelude.{All}
use Rattle.std.proofs.lemmas.List.Elements.{All-append, All-nil}
use Rattle.std.specs.Io.KnownBytes.{append_known, prepend_known, IsAtEnd}
use Rattle.std.proofs.lemmas.Grind.{common_steps}
use Rattle.run_core.specs.Inputs.{as_told, AreSomeBytes, MayCome, IsRightly}

-- Possible bytes of a source, which are its bytes if it is transparent.
abbrev pub told : Option (List ℕ) → List ℕ
told None = []
told (Some bytes) = bytes

pub told_is : (known : Option (List ℕ)) → known ≡ as_told known (told known)
told_is None = refl
told_is (Some bytes) = refl

pub told_at_end : (known : Option (List ℕ)) → IsAtEnd known → told known ≡ []
told_at_end None end = refl
told_at_end (Some bytes) end = end

-- At most the known bytes come next.
pub told_may_come : (ended : Bool) (known : Option (List ℕ)) → IsRightly ended known → MayCome ended (told known)
told_may_come ended known rightly = λ e. told_at_end known (rightly e)

pub prepend_known-nil : (known : Option (List ℕ)) → known ≡ prepend_known [] known
prepend_known-nil None = refl
prepend_known-nil (Some bytes) = refl

pub append_known-nil : (known : Option (List ℕ)) → known ≡ append_known known []
append_known-nil None = refl
append_known-nil (Some bytes) = ap Some (sym (append-nil bytes))

pub prepend_known-append : (xs ys : List ℕ) (known : Option (List ℕ)) →
    prepend_known xs (prepend_known ys known) ≡ prepend_known (xs ++ ys) known
prepend_known-append xs ys None = refl
prepend_known-append xs ys (Some zs) = ap Some (sym (append_assoc xs ys zs))

-- The bytes read, and then the known rest.
pub told_bytes : (before after : Option (List ℕ)) (read : List ℕ) → before ≡ prepend_known read after →
    All (λ b. b < 256) read → AreSomeBytes before (read ++ told after)
told_bytes before None read is bytes = λ untold. All-append (λ b. b < 256) read [] bytes (All-nil (λ b. b < 256))
told_bytes before (Some rest) read is bytes = λ untold. absurd (cc)

-- Nothing was read.
pub none_told : (known : Option (List ℕ)) → AreSomeBytes known (told known)
none_told None = λ untold. All-nil (λ b. b < 256)
none_told (Some bytes) = λ untold. absurd (cc)

-- Before some bytes were read.
pub told_before : (before after : Option (List ℕ)) (read rest : List ℕ) → before ≡ prepend_known read after →
    after ≡ as_told after rest → before ≡ as_told before (read ++ rest)
told_before before None read rest is same = is ∙ ap (λ known. as_told known (read ++ rest)) (sym is)
told_before before (Some bytes) read rest is same = grind (arith, common_steps)

-- A source was transparent before a read if it is after it.
pub as_told-prepend : (before after : Option (List ℕ)) (read bytes : List ℕ) → before ≡ prepend_known read after →
    as_told after bytes ≡ as_told before bytes
as_told-prepend before None read bytes is = ap (λ known. as_told known bytes) (sym is)
as_told-prepend before (Some left) read bytes is = ap (λ known. as_told known bytes) (sym is)
