-- The fields of a line, each up to a byte that isn't in the field.
use Rattle.std.proofs.Common.{◌≡◌, ◌<◌, ◌^◌, ◌∙◌, ℕ, Bool, true, false, List, [], ◌∷◌, ◌++◌, All, refl, ap, sym}
use Rattle.std.proofs.Common.{append_assoc, Option, Some, None, IfNone, rules}
use Rattle.std.specs.Prelude.{◌==◌, codes, decimal}
use Rattle.std.specs.List.{list_all}
use Rattle.std.proofs.lemmas.Bool.{eq-eqb, eqb-true, and_parts}
use Rattle.std.proofs.lemmas.List.Elements.{All-head, All-tail}
use Rattle.rb_bytes.specs.Text.{hexadecimal, is_lower_hex_digit}
use Rattle.addr_map.specs.declared.span.Span.{Span}
use Rattle.addr_map.specs.MapText.{span_line}
use Rattle.rb_bytes.proofs.NumberTexts.{hex_lower, decimal_lower}

-- a text doesn't contain the byte c
pub Lacks : ℕ → List ℕ → Type 0
Lacks c [] = Unit {0}
Lacks c (x ∷ xs) = ((x == c) ≡ false) × Lacks c xs

pub lacks_from : (c : ℕ) (xs : List ℕ) → All (λ x. (x == c) ≡ false) xs → Lacks c xs
unfolding Lacks
lacks_from c [] all = tt
lacks_from c (x ∷ xs) all =
    (All-head (λ y. (y == c) ≡ false) x xs all, lacks_from c xs (All-tail (λ y. (y == c) ≡ false) x xs all))

-- a byte that isn't a hexadecimal digit isn't in digits
digit_other : (c d : ℕ) (b : Bool) → (d == c) ≡ b → is_lower_hex_digit c ≡ false → is_lower_hex_digit d ≡ true → b ≡ false
digit_other c d true is other digit = let same = ap is_lower_hex_digit (eqb-true d c is) in absurd (cc)
digit_other c d false is other digit = refl

digits_lack : (c : ℕ) (ds : List ℕ) → is_lower_hex_digit c ≡ false → list_all is_lower_hex_digit ds ≡ true → Lacks c ds
unfolding Lacks
digits_lack c [] other all = tt
digits_lack c (d ∷ ds) other all =
    let parts = and_parts (is_lower_hex_digit d) (list_all is_lower_hex_digit ds) all in
    (digit_other c d (d == c) refl other parts.0, digits_lack c ds other parts.1)

pub hex_lacks : (c n : ℕ) → is_lower_hex_digit c ≡ false → n < 2 ^ 64 → Lacks c (hexadecimal n)
hex_lacks c n other fits = digits_lack c (hexadecimal n) other (hex_lower n fits)

pub decimal_lacks : (c n : ℕ) → is_lower_hex_digit c ≡ false → n < 2 ^ 64 → Lacks c (decimal n)
decimal_lacks c n other fits = digits_lack c (decimal n) other (decimal_lower n fits)

-- a text with the byte c contains it
pub lacks_itself : (c : ℕ) (xs rest : List ℕ) → Lacks c (xs ++ c ∷ rest) → ⊥
unfolding Lacks
lacks_itself c [] rest lacks = let same : (c == c) ≡ true = eq-eqb c c refl in let other = lacks.0 in cc
lacks_itself c (x ∷ xs) rest lacks = lacks_itself c xs rest lacks.1

pub record SameParts (xs us ys vs : List ℕ) : Type 0 where
  pub before : xs ≡ us
  pub after : ys ≡ vs

-- A text can be split at the first byte c in only one way.
pub one_split : (c : ℕ) (xs ys us vs : List ℕ) → Lacks c xs → Lacks c us → xs ++ c ∷ ys ≡ us ++ c ∷ vs → SameParts xs us ys vs
unfolding Lacks
one_split c [] ys [] vs left right same = record { before = refl; after = cc }
one_split c [] ys (u ∷ us) vs left right same =
    let first : c ≡ u = cc in let is : (u == c) ≡ true = eq-eqb u c (sym first) in let other = right.0 in absurd (cc)
one_split c (x ∷ xs) ys [] vs left right same =
    let first : x ≡ c = cc in let is : (x == c) ≡ true = eq-eqb x c first in let other = left.0 in absurd (cc)
one_split c (x ∷ xs) ys (u ∷ us) vs left right same =
    let first : x ≡ u = cc in
    let rest : xs ++ c ∷ ys ≡ us ++ c ∷ vs = cc in
    let more = one_split c xs ys us vs left.1 right.1 rest in
    let before = more.before in
    record { before = cc; after = more.after }

-- the parts of a line that is followed by a text
pub line_spelled : (s : Span) (rest : List ℕ) →
    span_line s ++ rest ≡ hexadecimal s.out ++ 32 ∷ (decimal s.len ++ 32 ∷ (hexadecimal s.input ++ 10 ∷ rest))
line_spelled s rest = spelled (hexadecimal s.out) (decimal s.len) (hexadecimal s.input)
  where
    spelled : (a b c : List ℕ) → (a ++ codes " " ++ b ++ codes " " ++ c ++ codes "\n") ++ rest ≡ a ++ 32 ∷ (b ++ 32 ∷ (c ++ 10 ∷ rest))
    spelled a b c =
        append_assoc (a ++ codes " " ++ b ++ codes " " ++ c) (codes "\n") rest
        ∙ append_assoc (a ++ codes " " ++ b ++ codes " ") c (10 ∷ rest)
        ∙ append_assoc (a ++ codes " " ++ b) (codes " ") (c ++ 10 ∷ rest)
        ∙ append_assoc (a ++ codes " ") b (32 ∷ (c ++ 10 ∷ rest))
        ∙ append_assoc a (codes " ") (b ++ 32 ∷ (c ++ 10 ∷ rest))

pub in_none : {X : Type 0} (o : Option X) (P : Type 0) → P → IfNone o P
in_none None P holds = holds
in_none (Some x) P holds = search rules
