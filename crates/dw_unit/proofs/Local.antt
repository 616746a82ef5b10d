-- Reading takes bytes off the front, and gives the same result whatever bytes of the same number follow.
use Rattle.std.proofs.Common.{◌≡◌, ◌<◌, ◌≤◌, ◌+◌, ◌^◌, ◌++◌, ℕ, zero, suc, List, [], ◌∷◌, Bool, true, false, cond, Ok, Err, Result, refl}
use Rattle.std.proofs.Common.{ap, sym, ◌∙◌, arith, length, take, drop, nat_lt, length-append, append_assoc}
use Rattle.std.specs.Prelude.{◌==◌}
use Rattle.std.specs.List.{position_or_len}
use Rattle.std.specs.Int.{w64, cast_unsigned}
use Rattle.std.proofs.lemmas.Grind.{common_steps}
use Rattle.std.proofs.lemmas.Bool.Decides.{nat_tests}
use Rattle.std.proofs.lemmas.List.{take_at, drop_at, take-append-drop, length-take-le}
use Rattle.byteorder.specs.Endian.{little_number}
use Rattle.rb_bytes.specs.declared.gap.Gap.{Gap}
use Rattle.rb_bytes.specs.declared.gap.Gap.TheVariants.{Short, Wide}
use Rattle.rb_bytes.specs.Readers.{bytes_at, number_read, text_at, and_then}
use Rattle.rb_bytes.specs.Leb.{uleb_at, sleb_at, leb_length, uleb_value, sleb_value, fits_i64, is_last}
use Rattle.std.proofs.Common.{add-one}
use Rattle.table_core.specs.AttributeForms.{gap_value_at}
use Rattle.table_core.specs.declared.shape.Shape.{Shape}
use Rattle.table_core.specs.declared.shape.Shape.TheVariants.{Number, Leb, SignedLeb, Opaque, Text, Block, LebBlock, Implicit, Indirect}
use Rattle.table_core.specs.ReadSteps.{or_trouble}
use Rattle.table_core.proofs.Numbers.{same_value, same_left, little_from-take}

-- `f` reads the value `x` from the front of `left`, with `rest` after it.
pub record Takes {X E : Type 0} (f : List ℕ → Result (X × List ℕ) E) (x : X) (left rest : List ℕ) : Type 0 where
  pub front : List ℕ
  pub is : left ≡ front ++ rest
  pub takes : (more : List ℕ) → length more ≡ length rest → f (front ++ more) ≡ Ok (x, more)

abbrev pub Local : {X E : Type 0} → (List ℕ → Result (X × List ℕ) E) → Type 0
Local {X = X} f = (x : X) (left rest : List ℕ) → f left ≡ Ok (x, rest) → Takes f x left rest

pub then_local : {X Y E : Type 0} (f : List ℕ → Result (X × List ℕ) E) (g : X → List ℕ → Result (Y × List ℕ) E) →
    Local f → ((x : X) → Local (g x)) → Local (λ left. and_then (f left) g)
then_local {X = X} {Y = Y} {E = E} f g l m y left rest e = step (f left) refl e where
  step : (found : Result (X × List ℕ) E) → f left ≡ found → and_then found g ≡ Ok (y, rest) →
      Takes (λ left. and_then (f left) g) y left rest
  step (Err gap) is e = absurd (cc)
  step (Ok read) is e =
      let a : Takes f read.0 left read.1 = l read.0 left read.1 is in
      let b : Takes (g read.0) y read.1 rest = m read.0 y read.1 rest e in
      record {
        front = a.front ++ b.front;
        is = a.is ∙ ap (λ (l : List ℕ). a.front ++ l) b.is ∙ sym (append_assoc a.front b.front rest);
        takes = λ more h.
            let long : length (b.front ++ more) ≡ length read.1 =
            length-append b.front more ∙ ap (λ (n : ℕ). length b.front + n) h ∙ sym (length-append b.front rest) ∙ sym (ap length b.is) in
            ap (λ (l : List ℕ). and_then (f l) g) (append_assoc a.front b.front more)
            ∙ ap (λ (r : Result (X × List ℕ) E). and_then r g) (a.takes (b.front ++ more) long)
            ∙ b.takes more h;
      }

pub ok_local : {X E : Type 0} (x : X) → Local {X = X} {E = E} (λ left. Ok (x, left))
ok_local {X = X} {E = E} x y left rest e = record {
  front = [];
  is = same_left _ _ _ _ e;
  takes = λ more h. ap (λ (z : X). Ok (z, more)) (same_value _ _ _ _ e);
}

pub err_local : {X E : Type 0} (e : E) → Local {X = X} {E = E} (λ left. Err e)
err_local {X = X} {E = E} gap y left rest e = absurd (cc)

pub cond_local : {X E : Type 0} (b : Bool) (f g : List ℕ → Result (X × List ℕ) E) → Local f → Local g →
    Local (λ left. cond b (f left) (g left))
cond_local true f g l m = l
cond_local false f g l m = m

pub trouble_local : {X E : Type 0} (t : E) (f : List ℕ → Result (X × List ℕ) Gap) → Local f → Local (λ left. or_trouble t (f left))
trouble_local {X = X} {E = E} t f l x left rest e = step (f left) refl e where
  step : (found : Result (X × List ℕ) Gap) → f left ≡ found → ◌≡◌ {A = Result (X × List ℕ) E} (or_trouble t found) (Ok (x, rest)) →
      Takes {X = X} {E = E} (λ left. or_trouble t (f left)) x left rest
  step (Err gap) is e = absurd (cc)
  step (Ok read) is e =
      let a : Takes f read.0 left read.1 = l read.0 left read.1 is in
      let same : read.1 ≡ rest = same_left _ _ _ _ e in
      record {
        front = a.front;
        is = a.is ∙ ap (λ (l : List ℕ). a.front ++ l) same;
        takes = λ more h. ap (or_trouble t) (a.takes more (h ∙ sym (ap length same)))
            ∙ ap (λ (z : X). Ok (z, more)) (same_value _ _ _ _ e);
      }

-- Reading `n` bytes

behind : (n : ℕ) (left rest : List ℕ) → drop n left ≡ rest → left ≡ take n left ++ rest
behind n left rest e = sym (take-append-drop n left) ∙ ap (λ (l : List ℕ). take n left ++ l) e

-- The length test, for the front of longer bytes.
not_short : (n : ℕ) (front more : List ℕ) → length front ≡ n → nat_lt (length (front ++ more)) n ≡ false
not_short n front more e = let g = length-append front more in grind (arith, nat_tests)

counted_local : {X : Type 0} (n : ℕ) (v : List ℕ → X) → ((left more : List ℕ) → n ≤ length left → v (take n left ++ more) ≡ v left) →
    Local (λ left. cond (nat_lt (length left) n) (Err Short) (Ok (v left, drop n left)))
counted_local {X = X} n v steady x left rest e = step (nat_lt (length left) n) refl e where
  step : (short : Bool) → nat_lt (length left) n ≡ short → ◌≡◌ {A = Result (X × List ℕ) Gap}
      (cond short (Err Short) (Ok (v left, drop n left))) (Ok (x, rest)) →
      Takes (λ left. cond (nat_lt (length left) n) (Err Short) (Ok (v left, drop n left))) x left rest
  step true is e = absurd (cc)
  step false is e =
      let long : n ≤ length left = grind (arith, nat_tests) in
      let size : length (take n left) ≡ n = length-take-le n left long in
      record {
        front = take n left;
        is = behind n left rest (same_left _ _ _ _ e);
        takes = λ more h. rw (not_short n (take n left) more size, steady left more long, drop_at (take n left) more n size)
            (ap (λ (z : X). Ok (z, more)) (same_value _ _ _ _ e));
      }

taken_again : (n : ℕ) (left more : List ℕ) → n ≤ length left → take n (take n left ++ more) ≡ take n left
taken_again n left more h = take_at (take n left) more n (length-take-le n left h)

pub bytes_local : (n : ℕ) → Local (bytes_at n)
bytes_local n = counted_local n (take n) (taken_again n)

pub number_local : (n : ℕ) → Local (number_read n)
number_local n = counted_local n (little_number n) (λ left more h.
    sym (little_from-take n 0 n (take n left ++ more) (omega arith)) ∙ ap (λ (l : List ℕ). little_number n l) (taken_again n left more h)
    ∙ little_from-take n 0 n left (omega arith))

-- The first byte that passes stays the first, whatever follows.
first_here : (p : ℕ → Bool) (b n : ℕ) (left more : List ℕ) (t : Bool) → p b ≡ t → suc n ≡ position_or_len p (b ∷ left) + 1 →
    (n ≡ position_or_len p left + 1 → position_or_len p (take n left ++ more) + 1 ≡ n) →
    position_or_len p (take (suc n) (b ∷ left) ++ more) + 1 ≡ suc n
first_here p b n left more true is e ih = let f : position_or_len p (b ∷ left) ≡ 0 = grind (arith, common_steps) in
    grind (arith, common_steps)
first_here p b n left more false is e ih =
    let f : position_or_len p (b ∷ left) ≡ position_or_len p left + 1 = grind (arith, common_steps) in
    let g : position_or_len p (take n left ++ more) + 1 ≡ n = ih (omega arith) in
    grind (arith, common_steps)

pub first_again : (p : ℕ → Bool) (n : ℕ) (left more : List ℕ) → n ≡ position_or_len p left + 1 → n ≤ length left →
    position_or_len p (take n left ++ more) + 1 ≡ n
first_again p n [] more e h = absurd (omega arith)
first_again p zero (b ∷ left) more e h = absurd (omega arith)
first_again p (suc n) (b ∷ left) more e h =
    first_here p b n left more (p b) refl e (λ f. first_again p n left more f (omega arith))

-- Numbers in LEB128 of n bytes, if the value fits.
abbrev pub leb_by : {X : Type 0} → (X → Bool) → (List ℕ → X) → ℕ → List ℕ → Result (X × List ℕ) Gap
leb_by fits v n l = cond (nat_lt (length l) n) (Err Short) (cond (fits (v (take n l))) (Ok (v (take n l), drop n l)) (Err Wide))

leb_step : {X : Type 0} (fits : X → Bool) (v : List ℕ → X) (x : X) (n : ℕ) (left rest : List ℕ) (short fit : Bool) → n ≡ leb_length left →
    nat_lt (length left) n ≡ short → fits (v (take n left)) ≡ fit →
    ◌≡◌ {A = Result (X × List ℕ) Gap} (cond short (Err Short) (cond fit (Ok (v (take n left), drop n left)) (Err Wide))) (Ok (x, rest)) →
    Takes (λ l. leb_by fits v (leb_length l) l) x left rest
leb_step fits v x n left rest true fit m is f e = absurd (cc)
leb_step fits v x n left rest false false m is f e = absurd (cc)
leb_step {X = X} fits v x n left rest false true m is f e =
    let long : n ≤ length left = grind (arith, nat_tests) in
    let size : length (take n left) ≡ n = length-take-le n left long in
    record {
      front = take n left;
      is = behind n left rest (same_left _ _ _ _ e);
      takes = λ more h.
          let again : leb_length (take n left ++ more) ≡ n = first_again is_last n left more m long in
          ap (λ (k : ℕ). leb_by fits v k (take n left ++ more)) again
          ∙ rw (not_short n (take n left) more size, taken_again n left more long, f, drop_at (take n left) more n size)
          (ap (λ (z : X). Ok (z, more)) (same_value _ _ _ _ e));
    }

pub uleb_local : Local uleb_at
uleb_local x left rest e = leb_step (λ n. nat_lt n (2 ^ 64)) uleb_value x (leb_length left) left rest _ _ refl refl refl e

pub sleb_local : Local sleb_at
sleb_local x left rest e = leb_step fits_i64 sleb_value x (leb_length left) left rest _ _ refl refl refl e

-- Texts

take_less : (n : ℕ) (left more : List ℕ) → n < length left → take n (take (suc n) left ++ more) ≡ take n left
take_less zero left more h = refl
take_less (suc n) [] more h = absurd (omega arith)
take_less (suc n) (b ∷ left) more h = ap (λ (l : List ℕ). b ∷ l) (take_less n left more (omega arith))

abbrev pub text_by : ℕ → List ℕ → Result (List ℕ × List ℕ) Gap
text_by n l = cond (nat_lt n (length l)) (Ok (take n l, drop (n + 1) l)) (Err Short)

text_step : (x : List ℕ) (n : ℕ) (left rest : List ℕ) (whole : Bool) → n ≡ position_or_len (λ b. b == 0) left →
    nat_lt n (length left) ≡ whole → ◌≡◌ {A = Result (List ℕ × List ℕ) Gap} (cond whole (Ok (take n left, drop (n + 1) left)) (Err Short))
    (Ok (x, rest)) →
    Takes text_at x left rest
text_step x n left rest false m is e = absurd (cc)
text_step x n left rest true m is e =
    let long : n + 1 ≤ length left = grind (arith, nat_tests) in
    let size : length (take (n + 1) left) ≡ n + 1 = length-take-le (n + 1) left long in
    record {
      front = take (n + 1) left;
      is = behind (n + 1) left rest (same_left _ _ _ _ e);
      takes = λ more h.
          let first : position_or_len (λ b. b == 0) (take (n + 1) left ++ more) + 1 ≡ n + 1 = first_again (λ b. b == 0) (n + 1) left more
          (omega arith) long in
          let again : position_or_len (λ b. b == 0) (take (n + 1) left ++ more) ≡ n = omega arith in
          let wide : nat_lt n (length (take (n + 1) left ++ more)) ≡ true = let g = length-append (take (n + 1) left) more in
          grind (arith, nat_tests) in
          let less : take n (take (n + 1) left ++ more) ≡ take n left = rw add-one (take_less n left more (omega arith)) in
          ap (λ (k : ℕ). text_by k (take (n + 1) left ++ more)) again
          ∙ rw (wide, less, drop_at (take (n + 1) left) more (n + 1) size) (ap (λ (z : List ℕ). Ok (z, more)) (same_value _ _ _ _ e));
    }

pub text_local : Local text_at
text_local x left rest e = text_step x (position_or_len (λ b. b == 0) left) left rest _ refl refl e

-- Values of attributes.

pub value_local : (implicit : ℕ) (shape : Shape) → Local (gap_value_at implicit shape)
value_local implicit (Number n) = number_local n
value_local implicit Leb = uleb_local
value_local implicit SignedLeb = then_local sleb_at (λ z rest. Ok (cast_unsigned w64 z, rest)) sleb_local
    (λ z. ok_local (cast_unsigned w64 z))
value_local implicit (Opaque n) = then_local (bytes_at n) (λ _ rest. Ok (0, rest)) (bytes_local n) (λ _. ok_local 0)
value_local implicit Text = then_local text_at (λ _ rest. Ok (0, rest)) text_local (λ _. ok_local 0)
value_local implicit (Block n) = then_local (number_read n) (λ count left1. and_then (bytes_at count left1) (λ _ rest. Ok (0, rest)))
    (number_local n)
    (λ count. then_local (bytes_at count) (λ _ rest. Ok (0, rest)) (bytes_local count) (λ _. ok_local 0))
value_local implicit LebBlock = then_local uleb_at (λ count left1. and_then (bytes_at count left1) (λ _ rest. Ok (0, rest))) uleb_local
    (λ count. then_local (bytes_at count) (λ _ rest. Ok (0, rest)) (bytes_local count) (λ _. ok_local 0))
value_local implicit Implicit = ok_local implicit
value_local implicit Indirect = err_local Short
