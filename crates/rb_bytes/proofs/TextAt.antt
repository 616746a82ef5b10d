-- The text at the front ends at the first zero byte that a search finds.
use Rattle.std.proofs.Common.{◌≡◌, ◌<◌, ◌+◌, ℕ, List, Some, None, Ok, Err, arith, take, drop, length}
use Rattle.std.proofs.lemmas.List.Sums.{position_or_len_is}
use Rattle.std.proofs.lemmas.Grind.{common_steps}
use Rattle.std.proofs.lemmas.Bool.{false_from_ne_true}
use Rattle.memchr.specs.Find.{IsFirstByte, is_byte}
use Rattle.rb_bytes.specs.declared.gap.Gap.TheVariants.{Short}
use Rattle.rb_bytes.specs.Readers.{text_at}
use Rattle.std.specs.List.{position_or_len}
use Rattle.std.specs.Prelude.{◌==◌}

pub text_at-found : (left : List ℕ) (n : ℕ) → IsFirstByte (is_byte 0) left (Some n) →
    text_at left ≡ Ok (take n left, drop (n + 1) left)
text_at-found left n found =
    let e : position_or_len (λ b. b == 0) left ≡ n = position_or_len_is _ left n 0 (omega (arith, found.0.high))
    (λ k lt. false_from_ne_true _ (found.0.before k (omega arith) lt)) (λ _. found.1) in
    let lt : n < length left = found.0.high in
    rw e (grind (arith, common_steps))

pub text_at-none : (left : List ℕ) → IsFirstByte (is_byte 0) left None → text_at left ≡ Err Short
text_at-none left none =
    let e : position_or_len (λ b. b == 0) left ≡ length left = position_or_len_is _ left (length left) 0 (omega arith)
    (λ k lt. false_from_ne_true _ (none k (omega arith) lt)) (λ lt. absurd (omega arith)) in
    rw e (grind (arith, common_steps))
