-- The text of a map, one more line at a time.
use Rattle.std.proofs.Common.{◌≡◌, ◌<◌, ◌∙◌, ℕ, List, [], ◌∷◌, ◌++◌, All, length, arith, ap, sym, append_assoc, append-nil}
use Rattle.std.proofs.Common.{length-append, subst}
use Rattle.std.specs.Prelude.{decimal}
use Rattle.rb_bytes.specs.Text.{hexadecimal}
use Rattle.std.proofs.lemmas.Grind.{flat_map-append}
use Rattle.std.proofs.lemmas.List.Elements.{All-push}
use Rattle.addr_map.specs.declared.span.Span.{Span}
use Rattle.addr_map.specs.MapText.{span_line, map_text}
use Rattle.map_check.specs.MapReading.{FitsLine}
use Rattle.map_check.proofs.LineTexts.{line_spelled}

-- the lines read so far, and the text after them
pub record HasRead (text : List ℕ) (spans : List Span) (left : List ℕ) : Type 0 where
  pub text_is : text ≡ map_text spans ++ left
  pub fit : All FitsLine spans

pub read_more : (text left rest : List ℕ) (spans new : List Span) (s : Span) → HasRead text spans left → left ≡ span_line s ++ rest →
    FitsLine s → new ≡ spans ++ s ∷ [] → HasRead text new rest
read_more text left rest spans new s read line fits is = record {
  text_is = read.text_is ∙ ap (λ l. map_text spans ++ l) line ∙ sym (append_assoc (map_text spans) (span_line s) rest)
      ∙ ap (λ l. (map_text spans ++ l) ++ rest) (sym (append-nil (span_line s)))
      ∙ ap (λ l. l ++ rest) (sym (flat_map-append span_line spans (s ∷ [])))
      ∙ ap (λ l. map_text l ++ rest) (sym is);
  fit = subst (All FitsLine) (sym is) (All-push FitsLine spans s read.fit fits);
}

pub shorter : (left rest : List ℕ) (s : Span) → left ≡ span_line s ++ rest → length rest < length left
shorter left rest s line =
    let whole = ap length (line ∙ line_spelled s rest) in
    let one = length-append (hexadecimal s.out) (32 ∷ (decimal s.len ++ 32 ∷ (hexadecimal s.input ++ 10 ∷ rest))) in
    let two = length-append (decimal s.len) (32 ∷ (hexadecimal s.input ++ 10 ∷ rest)) in
    let three = length-append (hexadecimal s.input) (10 ∷ rest) in
    omega (arith, whole, one, two, three)
