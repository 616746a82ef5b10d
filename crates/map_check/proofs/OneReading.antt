-- A text is the map of at most one list of spans.
use Rattle.std.proofs.Common.{◌≡◌, ◌<◌, ◌+◌, ◌^◌, ◌∙◌, ℕ, List, [], ◌∷◌, ◌++◌, All, arith, refl, ap, sym, Some, append-nil}
use Rattle.std.proofs.Common.{append_assoc, length}
use Rattle.std.specs.Prelude.{decimal}
use Rattle.std.proofs.lemmas.List.Elements.{All-head, All-tail}
use Rattle.rb_bytes.specs.Text.{hexadecimal, hex_number, decimal_number}
use Rattle.rb_bytes.proofs.NumberTexts.{hex_read, decimal_read}
use Rattle.addr_map.specs.declared.span.Span.{Span}
use Rattle.addr_map.specs.MapText.{span_line, map_text}
use Rattle.map_check.specs.MapReading.{BeginsWithLine, FitsLine, IsFirstBadLine, IsMapOfLines}
use Rattle.map_check.proofs.LineTexts.{line_spelled, one_split, hex_lacks, decimal_lacks}
use Rattle.map_check.proofs.MapTexts.{shorter}

hex_one : (m n : ℕ) → m < 2 ^ 64 → n < 2 ^ 64 → hexadecimal m ≡ hexadecimal n → m ≡ n
hex_one m n small fits same =
    let is : Some m ≡ Some n = sym (hex_read m small) ∙ ap hex_number same ∙ hex_read n fits in cc

decimal_one : (m n : ℕ) → m < 2 ^ 64 → n < 2 ^ 64 → decimal m ≡ decimal n → m ≡ n
decimal_one m n small fits same =
    let is : Some m ≡ Some n = sym (decimal_read m small) ∙ ap decimal_number same ∙ decimal_read n fits in cc

abbrev span : ℕ → ℕ → ℕ → Span
span out len input = record { out = out; len = len; input = input }

same_span : (s t : Span) → s.out ≡ t.out → s.len ≡ t.len → s.input ≡ t.input → s ≡ t
same_span s t outs lens inputs =
    ap (λ n. span n s.len s.input) outs ∙ ap (λ n. span t.out n s.input) lens ∙ ap (λ n. span t.out t.len n) inputs

record SameLine (s t : Span) (xs ys : List ℕ) : Type 0 where
  pub span : s ≡ t
  pub rest : xs ≡ ys

one_line : (s t : Span) (xs ys : List ℕ) → FitsLine s → FitsLine t → span_line s ++ xs ≡ span_line t ++ ys → SameLine s t xs ys
one_line s t xs ys left right same =
    let spelled = sym (line_spelled s xs) ∙ same ∙ line_spelled t ys in
    let one = one_split 32 (hexadecimal s.out) (decimal s.len ++ 32 ∷ (hexadecimal s.input ++ 10 ∷ xs))
    (hexadecimal t.out) (decimal t.len ++ 32 ∷ (hexadecimal t.input ++ 10 ∷ ys))
    (hex_lacks 32 s.out refl left.out) (hex_lacks 32 t.out refl right.out) spelled in
    let two = one_split 32 (decimal s.len) (hexadecimal s.input ++ 10 ∷ xs) (decimal t.len) (hexadecimal t.input ++ 10 ∷ ys)
    (decimal_lacks 32 s.len refl (small s.len left.len)) (decimal_lacks 32 t.len refl (small t.len right.len)) one.after in
    let three = one_split 10 (hexadecimal s.input) xs (hexadecimal t.input) ys
    (hex_lacks 10 s.input refl left.input) (hex_lacks 10 t.input refl right.input) two.after in
    let outs = hex_one s.out t.out left.out right.out one.before in
    let lens = decimal_one s.len t.len (small s.len left.len) (small t.len right.len) two.before in
    let inputs = hex_one s.input t.input left.input right.input three.before in
    record { span = same_span s t outs lens inputs; rest = three.after }
  where
    small : (n : ℕ) → n < 256 → n < 2 ^ 64
    small n fits = omega arith

no_line : (s : Span) (rest : List ℕ) → [] ≡ span_line s ++ rest → ⊥
no_line s rest is = let less = shorter [] rest s is in omega (arith, less)

-- no line begins at the end of a text
pub ended : BeginsWithLine [] → ⊥
ended (s, rest, fits, is) = no_line s rest is

pub record SameReading (ss ts : List Span) (xs ys : List ℕ) : Type 0 where
  pub spans : ss ≡ ts
  pub rest : xs ≡ ys

-- The lines with which a text begins can be read in only one way.
pub one_reading : (ss ts : List Span) (xs ys : List ℕ) → All FitsLine ss → All FitsLine ts → (BeginsWithLine xs → ⊥) →
    (BeginsWithLine ys → ⊥) → map_text ss ++ xs ≡ map_text ts ++ ys → SameReading ss ts xs ys
one_reading [] [] xs ys left right no_x no_y same = record { spans = refl; rest = same }
one_reading [] (t ∷ ts) xs ys left right no_x no_y same =
    absurd (no_x (t, map_text ts ++ ys, All-head FitsLine t ts right, same ∙ append_assoc (span_line t) (map_text ts) ys))
one_reading (s ∷ ss) [] xs ys left right no_x no_y same =
    absurd (no_y (s, map_text ss ++ xs, All-head FitsLine s ss left, sym same ∙ append_assoc (span_line s) (map_text ss) xs))
one_reading (s ∷ ss) (t ∷ ts) xs ys left right no_x no_y same =
    let line = one_line s t (map_text ss ++ xs) (map_text ts ++ ys) (All-head FitsLine s ss left) (All-head FitsLine t ts right)
    (sym (append_assoc (span_line s) (map_text ss) xs) ∙ same ∙ append_assoc (span_line t) (map_text ts) ys) in
    let more = one_reading ss ts xs ys (All-tail FitsLine s ss left) (All-tail FitsLine t ts right) no_x no_y line.rest in
    record { spans = joined s t ss ts line.span more.spans; rest = more.rest }
  where
    joined : (s t : Span) (ss ts : List Span) → s ≡ t → ss ≡ ts → s ∷ ss ≡ t ∷ ts
    joined s t ss ts first more = cc

pub one_map : (text : List ℕ) (ss ts : List Span) → IsMapOfLines text ss → IsMapOfLines text ts → ss ≡ ts
one_map text ss ts left right =
    (one_reading ss ts [] [] left.fit right.fit ended ended
    (append-nil (map_text ss) ∙ sym left.text_is ∙ right.text_is ∙ sym (append-nil (map_text ts)))).spans

-- a map has no bad line
pub no_bad_line : (text : List ℕ) (ss : List Span) (n : ℕ) → IsMapOfLines text ss → IsFirstBadLine text n → ⊥
no_bad_line text ss n is bad =
    bad.goes_on (sym (one_reading ss bad.before [] bad.rest is.fit bad.good ended bad.bad
    (append-nil (map_text ss) ∙ sym is.text_is ∙ bad.text_is)).rest)

pub one_bad_line : (text : List ℕ) (m n : ℕ) → IsFirstBadLine text m → IsFirstBadLine text n → m ≡ n
one_bad_line text m n left right =
    let same = (one_reading left.before right.before left.rest right.rest left.good right.good left.bad right.bad
    (sym left.text_is ∙ right.text_is)).spans in
    left.number_is ∙ ap (λ (ss : List Span). length ss + 1) same ∙ sym right.number_is
