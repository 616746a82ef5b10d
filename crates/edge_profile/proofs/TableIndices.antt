-- The indices of the names at the offsets of a string table.
use Rattle.std.proofs.Common.{◌≡◌, ◌<◌, ◌≤◌, ◌+◌, ◌-◌, ◌∙◌, ℕ, zero, suc, Bool, true, false, cond, not, List, [], ◌∷◌, ◌++◌, Option}
use Rattle.std.proofs.Common.{ap, refl, sym, length, get_or, drop, arith, take, length-append}
use Rattle.std.proofs.lemmas.Bool.{eqb-true}
use Rattle.std.proofs.lemmas.List.{get_or-append_right, get_or_append_left, drop_more, length-drop, length-take}
use Rattle.std.proofs.Math.Seq.{drop-length}
use Rattle.std.specs.List.{prefix_len}
use Rattle.std.specs.Prelude.{◌==◌}
use Rattle.elf_image.specs.file.Sections.{text_of}
use Rattle.edge_profile.specs.NameEnds.{Backward, index_of, indices_in, text_before}

pub length-indices_in : (names : Backward) (texts : List ℕ) → length (indices_in names texts) ≡ length texts
length-indices_in names [] = refl
length-indices_in names (b ∷ texts) =
    length-append (indices_in names texts) _ ∙ (let rest = length-indices_in names texts in omega (arith, rest))

-- the index at an offset
pub indices_in-at : (names : Backward) (texts : List ℕ) (place i : ℕ) (d : Option ℕ) → i + (place + 1) ≡ length texts →
    get_or (indices_in names texts) i d ≡ index_of names (text_of texts place)
indices_in-at names [] place i d is = absurd (omega (arith, is))
indices_in-at names (b ∷ texts) zero i d is =
    let count = length-indices_in names texts in
    get_or-append_right (indices_in names texts) (index_of names (text_of (b ∷ texts) 0) ∷ []) i i d (omega (arith, count, is))
    (omega arith)
    ∙ ap (λ (n : ℕ). get_or (index_of names (text_of (b ∷ texts) 0) ∷ []) n d) (zero_of i)
  where
    zero_of : (n : ℕ) → n - n ≡ 0
    zero_of n = omega arith
indices_in-at names (b ∷ texts) (suc place) i d is =
    let count = length-indices_in names texts in
    get_or_append_left (indices_in names texts) _ d i (omega (arith, count, is))
    ∙ indices_in-at names texts place i d (omega (arith, is))

-- past the end of the table
pub text_of-behind : (texts : List ℕ) (place : ℕ) → length texts ≤ place → text_of texts place ≡ []
text_of-behind texts place behind = ap (λ (l : List ℕ). text_of l 0) (none texts place behind)
  where
    none : (xs : List ℕ) (n : ℕ) → length xs ≤ n → drop n xs ≡ []
    none xs n past =
        let size = length-drop n xs in
        empty (drop n xs) (omega (arith, size, past))
      where
        empty : (l : List ℕ) → length l ≡ 0 → l ≡ []
        empty [] e = refl
        empty (x ∷ l) e = absurd (omega (arith, e))

-- a text isn't longer than the table
pub text_of-within : (texts : List ℕ) (place : ℕ) → length (text_of texts place) ≤ length texts
text_of-within texts place =
    let size = length-drop place texts in
    let text = length-take (prefix_len (λ x. not (x == 0)) (drop place texts)) (drop place texts) in
    omega (arith, size, text)

-- One more offset, towards the start.

text-cons : (b : ℕ) (texts : List ℕ) → text_of (b ∷ texts) 0 ≡ text_before b (text_of texts 0)
text-cons b texts = by (b == 0)
  where
    by : (t : Bool) → take (cond (not t) (1 + prefix_len (λ x. not (x == 0)) texts) 0) (b ∷ texts)
        ≡ cond t [] (b ∷ take (prefix_len (λ x. not (x == 0)) texts) texts)
    by true = refl
    by false =
        let more : 1 + prefix_len (λ x. not (x == 0)) texts ≡ suc (prefix_len (λ x. not (x == 0)) texts) = omega arith in
        ap (λ (n : ℕ). take n (b ∷ texts)) more

module _ (names : Backward) (texts : List ℕ) (count d : ℕ) (within : count < length texts) where
  abbrev here : ℕ
  here = length texts - 1 - count

  abbrev behind : ℕ
  behind = length texts - count

  abbrev byte : ℕ
  byte = get_or texts here d

  abbrev next : ℕ
  next = length texts - (count + 1)

  dropped : drop next texts ≡ byte ∷ drop behind texts
  dropped =
      ap (λ (k : ℕ). drop k texts) (omega (arith, within)) ∙ drop_more texts here d (omega (arith, within))
      ∙ ap (λ (k : ℕ). byte ∷ drop k texts) (omega (arith, within))

  pub text-more : text_before byte (text_of texts behind) ≡ text_of texts next
  text-more = sym (ap (λ (l : List ℕ). text_of l 0) dropped ∙ text-cons byte (drop behind texts))

  pub ends-more : byte ∷ drop behind texts ≡ drop next texts
  ends-more = sym dropped

  pub indices-more : (indices : List (Option ℕ)) (o : Option ℕ) → indices ≡ indices_in names (drop behind texts) →
      o ≡ index_of names (text_before byte (text_of texts behind)) → indices ++ o ∷ [] ≡ indices_in names (drop next texts)
  indices-more indices o were is =
      ap (λ (l : List (Option ℕ)). l ++ o ∷ []) were
      ∙ ap (λ (n : Option ℕ). indices_in names (drop behind texts) ++ n ∷ [])
      (is ∙ ap (index_of names) (sym (text-cons byte (drop behind texts))))
      ∙ ap (indices_in names) (sym dropped)

-- at the end, and at the start
pub none-left : (texts : List ℕ) → drop (length texts - 0) texts ≡ []
none-left texts = ap (λ (k : ℕ). drop k texts) (omega arith) ∙ drop-length texts

pub all-left : (texts : List ℕ) (count : ℕ) → length texts ≤ count → drop (length texts - count) texts ≡ texts
all-left texts count past = ap (λ (k : ℕ). drop k texts) (none (length texts - count) (omega (arith, past)))
  where
    none : (k : ℕ) → k ≡ 0 → k ≡ 0
    none k e = e

-- The text before a byte that is 0, and before one that isn't.

pub text-ends : (b : ℕ) (text : List ℕ) → b ≡ 0 → text_before b text ≡ []
text-ends b text none = ap (λ (b : ℕ). text_before b text) none

pub text-goes_on : (b : ℕ) (text : List ℕ) → (b ≡ 0 → ⊥) → text_before b text ≡ b ∷ text
text-goes_on b text other = by (b == 0) refl
  where
    by : (t : Bool) → (b == 0) ≡ t → cond t [] (b ∷ text) ≡ b ∷ text
    by true e = absurd (other (eqb-true b 0 e))
    by false e = refl
