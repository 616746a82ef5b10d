-- The text of some lines of a map.
use Rattle.std.proofs.Common.{◌≡◌, ◌+◌, ◌-◌, ◌<◌, ◌≤◌, ◌∙◌, ◌++◌, ℕ, List, ◌∷◌, Option, Some, length, take, drop}
use Rattle.std.proofs.Common.{get_or, arith, sym, ap, suc, add-one, append_assoc, drop-cons, length-drop}
use Rattle.std.specs.Prelude.{slice_get, slice_range}
use Rattle.std.proofs.Math.Seq.{take-add}
use Rattle.std.proofs.lemmas.List.{take_all, take-append-drop}
use Rattle.std.proofs.lemmas.Option.{get_or_from_slice_get}
use Rattle.std.proofs.lemmas.Grind.{flat_map-append}
use Rattle.rb_io.specs.TakenText.{TakesAll, TakesPrefix}
use Rattle.rb_io.proofs.Printing.{TakesAll-append, TakesFront-append, TakesFront-front}
use Rattle.addr_map.specs.MapText.{map_text, span_line}
use Rattle.addr_map.specs.declared.span.Span.{Span}

-- One line before others.
pub text_cons : (lines : List Span) (i last : ℕ) (s : Span) → i < last → last ≤ length lines → slice_get lines i ≡ Some s
    → map_text (slice_range lines i last) ≡ span_line s ++ map_text (slice_range lines (i + 1) last)
text_cons lines i last s lt inside e =
    let here : get_or lines i s ≡ s = get_or_from_slice_get lines i s s e in
    let front : drop i lines ≡ s ∷ drop (suc i) lines
    = drop-cons lines i s (omega arith) ∙ ap (λ x. x ∷ drop (suc i) lines) here in
    let count : last - i ≡ suc (last - (i + 1)) = omega arith in
    ap (λ xs. map_text (take (last - i) xs)) front
    ∙ ap (λ k. map_text (take k (s ∷ drop (suc i) lines))) count
    ∙ ap (λ k. span_line s ++ map_text (take (last - (i + 1)) (drop k lines))) (sym (add-one i))

-- More lines after the first ones.
pub text_more : (lines : List Span) (first last : ℕ) → first ≤ last
    → map_text (take last lines) ≡ map_text (take first lines) ++ map_text (slice_range lines first last)
text_more lines first last le =
    let count : last ≡ first + (last - first) = omega arith in
    ap (λ k. map_text (take k lines)) count
    ∙ ap map_text (take-add first (last - first) lines)
    ∙ flat_map-append span_line (take first lines) (slice_range lines first last)

pub text_rest : (lines : List Span) (last : ℕ) → map_text lines ≡ map_text (take last lines) ++ map_text (drop last lines)
text_rest lines last =
    ap map_text (sym (take-append-drop last lines)) ∙ flat_map-append span_line (take last lines) (drop last lines)

-- The bytes from an index to the end of a buffer.
pub piece_is : (buf : List ℕ) (n start : ℕ) → length buf ≡ n → take (n - start) (drop start buf) ≡ drop start buf
piece_is buf n start long = take_all (n - start) (drop start buf) (omega (arith, length-drop start buf))

-- Pieces that were appended.
pub appended : (old into piece : List ℕ) (lines : List Span) (first last : ℕ) → into ≡ old ++ map_text (take first lines)
    → piece ≡ map_text (slice_range lines first last) → first ≤ last
    → into ++ piece ≡ old ++ map_text (take last lines)
appended old into piece lines first last e f le =
    rw (e, f) (append_assoc old (map_text (take first lines)) (map_text (slice_range lines first last))
    ∙ ap (λ text. old ++ text) (sym (text_more lines first last le)))

-- Pieces that were taken.
pub taken_more : (a b c : Option (List ℕ)) (piece : List ℕ) (lines : List Span) (first last : ℕ)
    → TakesAll a b (map_text (take first lines)) → TakesAll b c piece → piece ≡ map_text (slice_range lines first last)
    → first ≤ last
    → TakesAll a c (map_text (take last lines))
taken_more a b c piece lines first last before more f le =
    rw (text_more lines first last le)
    (TakesAll-append a b c (map_text (take first lines)) (map_text (slice_range lines first last)) before (rw f at more))

pub taken_front : (a b c : Option (List ℕ)) (piece : List ℕ) (lines : List Span) (first last : ℕ)
    → TakesAll a b (map_text (take first lines)) → TakesPrefix b c piece → piece ≡ map_text (slice_range lines first last)
    → first ≤ last
    → TakesPrefix a c (map_text lines)
taken_front a b c piece lines first last before more f le =
    let front : TakesPrefix a c (map_text (take first lines) ++ map_text (slice_range lines first last))
    = TakesFront-append a b c (map_text (take first lines)) (map_text (slice_range lines first last)) before (rw f at more) in
    rw (text_rest lines last)
    (TakesFront-front a c (map_text (take last lines)) (map_text (drop last lines))
    (rw (← text_more lines first last le) at front))
