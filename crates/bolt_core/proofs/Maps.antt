-- Properties of the spans of a map that don't depend on their order.
use Rattle.std.proofs.Common.{◌≡◌, ◌≢◌, ◌∙◌, refl, sym, ℕ, ◌+◌, ◌<◌, Bool, true, false, List, [], ◌∷◌, arith}
use Rattle.std.specs.Prelude.{◌&&◌, Any, Contains, IsPermutation, find, is_some, nat_le, nat_lt, option_map, sum_by}
use Rattle.std.specs.List.{list_any}
use Rattle.std.proofs.lemmas.Bool.{and_parts, leb-true, ltb-true, le-leb, lt-ltb, and_from}
use Rattle.std.proofs.lemmas.List.Folds.{list_any-from_Any}
use Rattle.std.proofs.lemmas.List.Sorted.{All-permutation, Contains-permutation, list_any-IsPermutation, sum_by-IsPermutation}
use Rattle.std.proofs.lemmas.List.Sums.{sum_by-cons}
use Rattle.addr_map.specs.declared.span.Span.{Span}
use Rattle.addr_map.specs.MapText.{AreInLineOrder}
use Rattle.addr_map.specs.Spans.{IsMap, IsPlaced, IsStretch, ShareNoByte, has_byte, is_new_code}
use Rattle.addr_map.proofs.Orders.{disjoint_flip}
use Rattle.rb_bytes.proofs.Permuted.{AllPairs-permutation}
use Rattle.branch_fixup.specs.Pieces.{Piece, end_from, laid_from, length_of}

any_permuted : {X : Type 0} (P : X → Type 0) (xs ys : List X) → IsPermutation xs ys → Any P xs → Any P ys
any_permuted P xs ys p (k, x, within, at, has) =
    let (j, inside, same) = Contains-permutation xs ys x p (k, within, at) in
    (j, x, inside, same, has)

apart_flip : (s t : Span) → s.input ≢ t.input → t.input ≢ s.input
apart_flip s t apart e = apart (sym e)

pub map_in_order : (IsInput IsNamed : ℕ → Type 0) (spans lines : List Span) → AreInLineOrder spans lines →
    IsMap IsInput IsNamed spans → IsMap IsInput IsNamed lines
map_in_order IsInput IsNamed spans lines o m = record {
  each = λ a is. any_permuted (λ s. s.input ≡ a) spans lines o.same (m.each a is);
  only = All-permutation (λ s. IsInput s.input) spans lines o.same m.only;
  once = AllPairs-permutation (λ s t. s.input ≢ t.input) apart_flip spans lines o.same m.once;
  placed = All-permutation IsPlaced spans lines o.same m.placed;
  disjoint = AllPairs-permutation ShareNoByte disjoint_flip spans lines o.same m.disjoint;
  named = λ a is. any_permuted (λ s. (s.input ≡ a) × (0 < s.len)) spans lines o.same (m.named a is);
}

-- The new code.

found_any : (p : Span → Bool) (xs : List Span) → is_some (option_map (λ s. s.input) (find p xs)) ≡ list_any p xs
found_any p [] = refl
found_any p (x ∷ xs) = by (p x) refl (found_any p xs)
  where
    by : (b : Bool) → p x ≡ b → is_some (option_map (λ s. s.input) (find p xs)) ≡ list_any p xs →
        is_some (option_map (λ s. s.input) (find p (x ∷ xs))) ≡ list_any p (x ∷ xs)
    by true e rest = rw e refl
    by false e rest = rw e rest

pub stretch_in_order : (spans lines : List Span) (start end : ℕ) → AreInLineOrder spans lines → IsStretch spans start end →
    IsStretch lines start end
stretch_in_order spans lines start end o is = λ p.
    found_any (has_byte p) lines
    ∙ sym (list_any-IsPermutation (has_byte p) spans lines o.same)
    ∙ sym (found_any (has_byte p) spans) ∙ is p

-- the first byte of a span is new code
starts_new : (spans : List Span) (s : Span) → Contains spans s → 0 < s.len → is_new_code spans s.out ≡ true
starts_new spans s (k, within, at) some =
    found_any (has_byte s.out) spans
    ∙ list_any-from_Any (has_byte s.out) spans (
      k,
      s,
      within,
      at,
      and_from (nat_le s.out s.out) (nat_lt s.out (s.out + s.len)) (le-leb s.out s.out (omega arith))
          (lt-ltb s.out (s.out + s.len) (omega (arith, some))),
    )

pub some_code : (spans : List Span) (start n a : ℕ) → IsStretch spans start (start + n) →
    Any (λ s. (s.input ≡ a) × (0 < s.len)) spans → 0 < n
some_code spans start n a is (k, s, within, at, (of, some)) =
    let there : (nat_le start s.out && nat_lt s.out (start + n)) ≡ true = sym (is s.out) ∙ starts_new spans s (k, within, at)
    some in
    let parts = and_parts (nat_le start s.out) (nat_lt s.out (start + n)) there in
    let low = leb-true start s.out parts.0 in
    let high = ltb-true s.out (start + n) parts.1 in
    omega (arith, low, high)

-- The size of the new code.

laid_sum : (a : ℕ) (ps : List Piece) → a + sum_by (λ s. s.len) (laid_from a ps) ≡ end_from a ps
laid_sum a [] = omega arith
laid_sum a (p ∷ ps) =
    let rest = laid_sum (a + length_of p) ps in
    let more = sum_by-cons (λ (s : Span). s.len) (record { out = a; len = length_of p; input = (p.placed).addr })
    (laid_from (a + length_of p) ps) in
    omega (arith, rest, more)

pub bytes_in_order : (a n : ℕ) (ps : List Piece) (lines : List Span) → AreInLineOrder (laid_from a ps) lines → a + n ≡
    end_from a ps →
    n ≡ sum_by (λ s. s.len) lines
bytes_in_order a n ps lines o is =
    let same = sum_by-IsPermutation (λ (s : Span). s.len) (laid_from a ps) lines o.same in
    let sum = laid_sum a ps in
    omega (arith, is, same, sum)
