-- Spans that share bytes, found by their byte ranges.
use Rattle.std.proofs.Common.{◌≡◌, ◌≢◌, ◌<◌, ◌≤◌, ◌+◌, ◌∙◌, ℕ, List, [], ◌∷◌, ◌++◌, length, get_or, arith, refl, ap, sym, subst}
use Rattle.std.proofs.Common.{inl, inr, ⊎_elim, Option, Some, None, IsSomeAnd, IsTrue, rules}
use Rattle.std.specs.Prelude.{Contains, nat_lt, nat_le}
use Rattle.std.specs.List.Sorted.{IsNonDecreasingBy}
use Rattle.std.proofs.lemmas.Bool.{cases_lt, and_parts, lt-ltb, le-leb, ltb-true, leb-true}
use Rattle.std.proofs.lemmas.List.{get_or_default}
use Rattle.std.proofs.lemmas.List.Elements.{All-push, Contains-append_left, Contains-push, Contains-push_cases, Contains-get_or}
use Rattle.std.proofs.lemmas.List.Quantifiers.{all_pairs_push}
use Rattle.elf_image.specs.declared.extent.Extent.{Extent}
use Rattle.elf_image.specs.faults.LowestPlace.{IsLowest}
use Rattle.elf_image.specs.internal.Extents.{SharesAnother}
use Rattle.addr_map.specs.declared.span.Span.{Span}
use Rattle.addr_map.specs.Spans.{has_byte}
use Rattle.map_check.specs.BadSpans.{IsSharing}
use Rattle.map_check.specs.internal.SpanLists.{AreExtentsOf, extent_of, span_at, no_span}

pub extents_skip : (spans : List Span) (k : ℕ) (es : List Extent) → (span_at spans k).len ≤ 0 → AreExtentsOf spans k es →
    AreExtentsOf spans (k + 1) es
extents_skip spans k es empty are = record {
  only = λ e here. let found = are.only e here in let below : found.0 < k = found.1 in (found.0, omega arith, found.2, found.3);
  each = λ j below some. ⊎_elim
      (λ (before : j < k). are.each j before some)
      (λ (from : k ≤ j).
      let same : j ≡ k = omega arith in
      let len = ap (λ (i : ℕ). (span_at spans i).len) same in
      absurd (omega (arith, len, empty, some)))
      (cases_lt j k);
  apart = are.apart;
  some = are.some;
}

pub extents_push : (spans : List Span) (k : ℕ) (es new : List Extent) (e : Extent) → 0 < (span_at spans k).len →
    e ≡ extent_of k (span_at spans k) → new ≡ es ++ e ∷ [] → AreExtentsOf spans k es → AreExtentsOf spans (k + 1) new
extents_push spans k es new e has is made are = subst (AreExtentsOf spans (k + 1)) (sym made) (record {
  only = λ x here. ⊎_elim
      (λ (old : Contains es x). let found = are.only x old in let below : found.0 < k = found.1 in
      (found.0, omega arith, found.2, found.3))
      (λ (same : e ≡ x). (k, omega arith, has, sym same ∙ is))
      (Contains-push_cases es e x here);
  each = λ j below some. ⊎_elim
      (λ (before : j < k). Contains-append_left es (e ∷ []) (extent_of j (span_at spans j)) (are.each j before some))
      (λ (from : k ≤ j).
      let same : k ≡ j = omega arith in
      let it : e ≡ extent_of j (span_at spans j) = is ∙ ap (λ (i : ℕ). extent_of i (span_at spans i)) same in
      subst (Contains (es ++ e ∷ [])) it (Contains-push es e))
      (cases_lt j k);
  apart = all_pairs_push (λ s t. s.place ≢ t.place) es e are.apart (λ j d within same.
      let found = are.only (get_or es j d) (Contains-get_or es j d within) in
      let below : found.0 < k = found.1 in
      let place = ap (λ (x : Extent). x.place) found.3 in
      let last = ap (λ (x : Extent). x.place) is in
      omega (arith, same, place, last, below));
  some = All-push (λ x. x.start < x.end) es e are.some
      (let start = ap (λ (x : Extent). x.start) is in let end = ap (λ (x : Extent). x.end) is in omega (arith, start, end, has));
})

byte_in : (p : ℕ) (s : Span) → s.out ≤ p → p < s.out + s.len → IsTrue (has_byte p s)
byte_in p s from below = rw (le-leb s.out p from, lt-ltb p (s.out + s.len) below) refl

pub record InSpan (p : ℕ) (s : Span) : Type 0 where
  pub from : s.out ≤ p
  pub below : p < s.out + s.len

in_span : (p : ℕ) (s : Span) → IsTrue (has_byte p s) → InSpan p s
in_span p s is =
    let parts = and_parts (nat_le s.out p) (nat_lt p (s.out + s.len)) is in
    record { from = leb-true s.out p parts.0; below = ltb-true p (s.out + s.len) parts.1 }

module _ (spans : List Span) (n : ℕ) (es : List Extent) (whole : n ≡ length spans) (are : AreExtentsOf spans n es)
    (sorted : IsNonDecreasingBy (λ s. s.input) spans) where
  at_same : (k : ℕ) (d : Span) → k < length spans → get_or spans k d ≡ span_at spans k
  at_same k d within = get_or_default spans k d no_span within

  shared_place : (k : ℕ) → SharesAnother es k → IsSharing spans (span_at spans k).input
  shared_place k (s, t, in_s, in_t, (at, other, (x, x_in_s, x_in_t))) pairs =
      let one = are.only s in_s in
      let two = are.only t in_t in
      let i = one.0 in
      let j = two.0 in
      let i_in : i < n = one.1 in
      let j_in : j < n = two.1 in
      let i_is : i ≡ k = sym (ap (λ (e : Extent). e.place) one.3) ∙ at in
      let j_other : j ≢ k = λ same. other (ap (λ (e : Extent). e.place) two.3 ∙ same) in
      let starts = ap (λ (e : Extent). e.start) one.3 in
      let ends = ap (λ (e : Extent). e.end) one.3 in
      let starts_t = ap (λ (e : Extent). e.start) two.3 in
      let ends_t = ap (λ (e : Extent). e.end) two.3 in
      let from_s = x_in_s.0 in let below_s = x_in_s.1 in let from_t = x_in_t.0 in let below_t = x_in_t.1 in
      let byte_s : IsTrue (has_byte x (span_at spans i)) = byte_in x (span_at spans i) (omega (arith, starts, from_s))
      (omega (arith, ends, below_s)) in
      let byte_t : IsTrue (has_byte x (span_at spans j)) = byte_in x (span_at spans j) (omega (arith, starts_t, from_t))
      (omega (arith, ends_t, below_t)) in
      let input : (span_at spans i).input ≡ (span_at spans k).input = ap (λ (m : ℕ). (span_at spans m).input) i_is in
      ⊎_elim
      (λ (less : i < j). pairs i j no_span less (omega arith) (inl input) x byte_s byte_t)
      (λ (more : j ≤ i).
      let less : j < i = differ j i more (λ same. j_other (same ∙ i_is)) in
      pairs j i no_span less (omega arith) (inr input) x byte_t byte_s)
      (cases_lt i j)
    where
      differ : (j i : ℕ) → j ≤ i → j ≢ i → j < i
      differ j i le ne = ⊎_elim (λ (less : j < i). less) (λ (more : i ≤ j). absurd (ne (omega arith))) (cases_lt j i)

  -- two spans that share a byte are found
  shared_found : (i j p : ℕ) → i ≢ j → i < length spans → j < length spans → IsTrue (has_byte p (span_at spans i)) →
      IsTrue (has_byte p (span_at spans j)) → SharesAnother es i
  shared_found i j p apart i_in j_in in_i in_j =
      let one = in_span p (span_at spans i) in_i in
      let two = in_span p (span_at spans j) in_j in
      let from_i = one.from in let below_i = one.below in let from_j = two.from in let below_j = two.below in (
        extent_of i (span_at spans i),
        extent_of j (span_at spans j),
        are.each i (omega arith) (omega (arith, from_i, below_i)),
        are.each j (omega arith) (omega (arith, from_j, below_j)),
        (refl, (λ same. apart (sym same)), (p, (from_i, below_i), (from_j, below_j))),
      )

  pub sharing_within : (k : ℕ) → IsLowest (SharesAnother es) (Some k) → k < length spans
  sharing_within k is =
      let shares = is.present in
      let one = are.only shares.0 shares.2 in
      let below : one.0 < n = one.1 in
      let place = ap (λ (e : Extent). e.place) one.3 in
      let at : (shares.0).place ≡ k = (shares.4).0 in
      omega (arith, below, place, at)

  above_place : (o : Option ℕ) (i a : ℕ) → i < length spans → (span_at spans i).input ≡ a → IsSomeAnd o (λ k. k ≤ i) →
      IsSomeAnd o (λ k. (span_at spans k).input ≤ a)
  above_place None i a within at below = absurd below
  above_place (Some k) i a within at below =
      let up = sorted k i no_span below within in omega (arith, up, at)

  sharing_least : (o : Option ℕ) (a : ℕ) → IsLowest (SharesAnother es) o → IsSharing spans a →
      (IsSomeAnd o (λ k. (span_at spans k).input ≤ a) → ⊥) → ⊥
  sharing_least o a is sharing above = sharing (λ i j d less within one p in_i in_j.
      let i_in : i < length spans = omega arith in
      let i_at = at_same i d i_in in
      let j_at = at_same j d within in
      let byte_i = subst (λ (s : Span). IsTrue (has_byte p s)) i_at in_i in
      let byte_j = subst (λ (s : Span). IsTrue (has_byte p s)) j_at in_j in
      ⊎_elim
      (λ (first : (get_or spans i d).input ≡ a).
      above (above_place o i a i_in (sym (ap (λ (s : Span). s.input) i_at) ∙ first)
      (is.least i (shared_found i j p (λ same. omega arith) i_in within byte_i byte_j))))
      (λ (second : (get_or spans j d).input ≡ a).
      above (above_place o j a within (sym (ap (λ (s : Span). s.input) j_at) ∙ second)
      (is.least j (shared_found j i p (λ same. omega arith) within i_in byte_j byte_i))))
      one)

  pub sharing_some : (k r : ℕ) → IsLowest (SharesAnother es) (Some k) → r ≡ (span_at spans k).input → IsLowest (IsSharing spans) (Some r)
  sharing_some k r is at = record {
    present = subst (IsSharing spans) (sym at) (shared_place k is.present);
    least = λ a sharing. ⊎_elim
        (λ (above : a < r). absurd (sharing_least (Some k) a is sharing (λ le.
        let less : (span_at spans k).input ≤ a = le in omega (arith, less, at, above))))
        (λ (le : r ≤ a). le)
        (cases_lt a r);
  }

  pub sharing_none : IsLowest (SharesAnother es) None → IsLowest (IsSharing spans) None
  sharing_none is = record {
    present = search rules;
    least = λ a sharing. absurd (sharing_least None a is sharing (λ none. none));
  }
