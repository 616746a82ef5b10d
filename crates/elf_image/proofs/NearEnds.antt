-- The first zero byte in a range of a string table.
use Rattle.std.proofs.Common.{◌≡◌, ◌∙◌, ℕ, ◌+◌, ◌-◌, ◌≤◌, ◌<◌, List, Some, length, get_or, take, drop, length-drop, arith, ap, sym}
use Rattle.std.proofs.lemmas.Bool.{eqb-true, eq-eqb}
use Rattle.std.proofs.lemmas.List.{get_or-drop, get_or-take, length-take-le}
use Rattle.memchr.specs.Find.{IsFirstByte, is_byte}
use Rattle.elf_image.specs.internal.TextEnds.{IsTextEnd}

module _ (table near : List ℕ) (index m : ℕ) (is : near ≡ take m (drop index table)) where
  byte_there : (k : ℕ) → k < m → get_or near k 0 ≡ get_or table (index + k) 0
  byte_there k below =
      ap (λ (l : List ℕ). get_or l k 0) is ∙ get_or-take m (drop index table) k 0 below ∙ get_or-drop index table k 0

  pub text_end : (n : ℕ) → m ≤ length (drop index table) → index ≤ length table → IsFirstByte (is_byte 0) near (Some n) →
      IsTextEnd table index (index + n)
  text_end n fits within first =
      let size : length near ≡ m = ap length is ∙ length-take-le m (drop index table) fits in
      let all = length-drop index table in
      let low = first.0.high in
      let inside : n < m = omega (arith, size, low) in
      record {
        within = omega (arith, inside, fits, all, within);
        after = λ _. omega arith;
        none = λ place from to zero.
            let k : ℕ = place - index in
            let same : index + k ≡ place = omega arith in
            first.0.before k (omega arith) (omega arith)
            (eq-eqb (get_or near k 0) 0 (byte_there k (omega (arith, inside)) ∙ ap (λ (p : ℕ). get_or table p 0) same ∙ zero));
        ends = λ lt. sym (byte_there n inside) ∙ eqb-true (get_or near n 0) 0 first.1;
      }
