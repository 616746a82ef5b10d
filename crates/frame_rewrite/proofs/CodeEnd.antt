-- The end of the new code, and the address after it.
use Rattle.std.proofs.Common.{ℕ, ◌+◌, ◌-◌, ◌≤◌, ◌<◌, ◌≡◌, List, [], ◌∷◌, Option, Some, None, true, false, leb, ltb, refl, sym}
use Rattle.std.proofs.Common.{◌∙◌, ap, subst, arith, inl, inr, length, drop, get_or}
use Rattle.std.specs.Prelude.{All, Contains, IsTrue, ◌&&◌, ◌⊎◌, max, nat_le, nat_lt, is_some, option_map, slice_get, IfSome}
use Rattle.std.specs.List.{find, fold}
use Rattle.std.proofs.lemmas.Bool.{and_parts, and_from, cases_lt, leb-true, ltb-true, le-leb, lt-ltb}
use Rattle.std.proofs.lemmas.Bool.Decides.{nat_tests}
use Rattle.std.proofs.lemmas.List.{drop_more}
use Rattle.std.proofs.lemmas.List.Elements.{All-get_or, All-head, All-tail}
use Rattle.std.proofs.lemmas.Option.{get_or_from_slice_get}
use Rattle.rb_bytes.proofs.ListLemmas.{slice_get_found}
use Rattle.rb_bytes.proofs.Members.{Contains-cons_cases, Contains-nil, Contains-there}
use Rattle.rb_bytes.proofs.Searches.{find-found, find-finds}
use Rattle.elf_image.specs.memory.Break.{rounded_up}
use Rattle.addr_map.specs.declared.span.Span.{Span}
use Rattle.addr_map.specs.Spans.{has_byte, is_new_code, IsStretch}
use Rattle.frame_rewrite.proofs.Appends.{past-end}
use Rattle.frame_rewrite.specs.Tables.{end_with, code_end, ComesAfter}

-- A step of the loop over spans.

with-bytes : (end : ℕ) (s : Span) → 0 < s.len → end_with end s ≡ max end (s.out + s.len)
with-bytes end s h = let t : ltb 0 s.len ≡ true = grind (arith, nat_tests) in rw t refl

without : (end : ℕ) (s : Span) → s.len ≤ 0 → end_with end s ≡ end
without end s h = let t : ltb 0 s.len ≡ false = grind (arith, nat_tests) in rw t refl

-- it goes up, and not past a bound
step-up : (end : ℕ) (s : Span) → end ≤ end_with end s
step-up end s = elim (cases_lt 0 s.len) [
  | inl some ↦ let e = with-bytes end s some in omega (arith, e)
  | inr none ↦ let e = without end s none in omega (arith, e)
]

step-low : (end bound : ℕ) (s : Span) → end ≤ bound → s.out + s.len ≤ bound → end_with end s ≤ bound
step-low end bound s h l = elim (cases_lt 0 s.len) [
  | inl some ↦ let e = with-bytes end s some in omega (arith, e, h, l)
  | inr none ↦ let e = without end s none in omega (arith, e, h)
]

goes-up : (end : ℕ) (spans : List Span) → end ≤ fold end_with end spans
goes-up end [] = omega arith
goes-up end (s ∷ ss) =
    let h = step-up end s in
    let more = goes-up (end_with end s) ss in
    omega (arith, h, more)

stays-low : (end bound : ℕ) (spans : List Span) → end ≤ bound → All (λ (s : Span). s.out + s.len ≤ bound) spans
    → fold end_with end spans ≤ bound
stays-low end bound [] h low = h
stays-low end bound (s ∷ ss) h low =
    stays-low (end_with end s) bound ss
    (step-low end bound s h (All-head (λ (s : Span). s.out + s.len ≤ bound) s ss low))
    (All-tail (λ (s : Span). s.out + s.len ≤ bound) s ss low)

pub code-low : (bound : ℕ) (spans : List Span) → All (λ (s : Span). s.out + s.len ≤ bound) spans → code_end spans ≤ bound
code-low bound spans low = stays-low 0 bound spans (omega arith) low

-- Each byte of a span is before it.

holds-byte : (p : ℕ) (s : Span) → has_byte p s ≡ true → (s.out ≤ p) × (p < s.out + s.len)
holds-byte p s h =
    let b = and_parts (nat_le s.out p) (nat_lt p (s.out + s.len)) h in
    (leb-true s.out p b.0, ltb-true p (s.out + s.len) b.1)

past-byte : (end p : ℕ) (s : Span) → has_byte p s ≡ true → p < end_with end s
past-byte end p s h =
    let b = holds-byte p s h in
    let low = b.0 in
    let high = b.1 in
    let e = with-bytes end s (omega (arith, low, high)) in
    omega (arith, e, high)

past-bytes : (end p : ℕ) (spans : List Span) (s : Span) → Contains spans s → has_byte p s ≡ true → p < fold end_with end spans
past-bytes end p [] s c h = absurd (Contains-nil s c)
past-bytes end p (t ∷ ts) s c h = elim (Contains-cons_cases t ts s c) [
  | inl same ↦
      let here = past-byte end p t (subst (λ (x : Span). has_byte p x ≡ true) (sym same) h) in
      let up = goes-up (end_with end t) ts in
      omega (arith, here, up)
  | inr later ↦ past-bytes (end_with end t) p ts s later h
]

pub before-end : (spans : List Span) (p : ℕ) → IsTrue (is_new_code spans p) → p < code_end spans
before-end spans p h = by (find (has_byte p) spans) refl h where
  by : (o : Option Span) → find (has_byte p) spans ≡ o → IsTrue (is_some (option_map (λ (s : Span). s.input) o)) → p < code_end spans
  by None e h = absurd (cc)
  by (Some s) e h =
      let f = find-found (has_byte p) spans s e in
      past-bytes 0 p spans s f.1 f.0

-- It is past a byte of some span.

record Ends (spans : List Span) (p : ℕ) : Type 0 where
  span : Span
  among : Contains spans span
  has : has_byte p span ≡ true

last-byte : (out len end : ℕ) → 0 < len → out + len ≡ end → (leb out (end - 1) && ltb (end - 1) (out + len)) ≡ true
last-byte out len end h e = grind (arith, nat_tests)

ends-here : (end : ℕ) (s : Span) (ss : List Span) → (end_with end s ≡ end) ⊎ Ends (s ∷ ss) (end_with end s - 1)
ends-here end s ss = elim (cases_lt 0 s.len) [
  | inl some ↦ elim (cases_lt end (s.out + s.len)) [
    | inl further ↦
        let e = with-bytes end s some in
        let is : end_with end s ≡ s.out + s.len = omega (arith, e, further) in
        inr (record { span = s; among = (0, omega arith, refl); has = last-byte s.out s.len (end_with end s) some (sym is) })
    | inr short ↦ let e = with-bytes end s some in inl (omega (arith, e, short))
  ]
  | inr none ↦ inl (without end s none)
]

ends-with : (end : ℕ) (spans : List Span) → (fold end_with end spans ≡ end) ⊎ Ends spans (fold end_with end spans - 1)
ends-with end [] = inl refl
ends-with end (s ∷ ss) = elim (ends-with (end_with end s) ss) [
  | inr later ↦ inr (record { span = later.span; among = Contains-there s ss later.span later.among; has = later.has })
  | inl same ↦ elim (ends-here end s ss) [
    | inl still ↦ inl (same ∙ still)
    | inr here ↦ inr (subst (λ (n : ℕ). Ends (s ∷ ss) (n - 1)) (sym same) here)
  ]
]

is-code : (spans : List Span) (p : ℕ) → Ends spans p → IsTrue (is_new_code spans p)
is-code spans p e =
    let f = find-finds (has_byte p) spans e.span e.among e.has in
    ap (λ (o : Option Span). is_some (option_map (λ (s : Span). s.input) o)) f.1

last-code : (spans : List Span) → 0 < code_end spans → IsTrue (is_new_code spans (code_end spans - 1))
last-code spans some = elim (ends-with 0 spans) [
  | inl none ↦ absurd (omega (arith, none, some))
  | inr e ↦ is-code spans (code_end spans - 1) e
]

-- of one stretch
stretch-end : (spans : List Span) (start end : ℕ) → IsStretch spans start end → 0 < code_end spans → code_end spans ≡ end
stretch-end spans start end stretch some =
    let last = sym (stretch (code_end spans - 1)) ∙ last-code spans some in
    let b = and_parts (nat_le start (code_end spans - 1)) (nat_lt (code_end spans - 1) end) last in
    let low = leb-true start (code_end spans - 1) b.0 in
    let high = ltb-true (code_end spans - 1) end b.1 in
    let further = before-end spans (end - 1) (stretch (end - 1)
    ∙ and_from (nat_le start (end - 1)) (nat_lt (end - 1) end) (le-leb start (end - 1) (omega (arith, low, high)))
    (lt-ltb (end - 1) end (omega (arith, low, high)))) in
    omega (arith, some, high, further)

pub comes-after : (spans : List Span) (start end : ℕ) → IsStretch spans start end → ComesAfter spans (rounded_up 8 end)
comes-after spans start end stretch = λ some. ap (rounded_up 8) (sym (stretch-end spans start end stretch some))

-- The loop over spans by their indices.

pub one-later : (spans : List Span) (i end new want : ℕ) (o : Option Span) → i < length spans → o ≡ slice_get spans i
    → IfSome o (λ (s : Span). new ≡ end_with end s) → fold end_with end (drop i spans) ≡ want
    → fold end_with new (drop (i + 1) spans) ≡ want
one-later spans i end new want None less is step e = absurd (none (slice_get_found spans i less)) where
  none : (x : Span) × (slice_get spans i ≡ Some x) → ⊥
  none (x, at) = let f : ◌≡◌ {A = Option Span} None (Some x) = is ∙ at in absurd (cc)
one-later spans i end new want (Some s) less is step e =
    let at : get_or spans i s ≡ s = get_or_from_slice_get spans i s s (sym is) in
    let front : drop i spans ≡ s ∷ drop (i + 1) spans =
    drop_more spans i s less ∙ ap (λ (x : Span). x ∷ drop (i + 1) spans) at in
    ap (λ (n : ℕ). fold end_with n (drop (i + 1) spans)) step
    ∙ ap (λ (l : List Span). fold end_with end l) (sym front) ∙ e

pub step-within : (spans : List Span) (i end new bound : ℕ) (o : Option Span) → i < length spans → o ≡ slice_get spans i
    → IfSome o (λ (s : Span). new ≡ end_with end s) → All (λ (s : Span). s.out + s.len ≤ bound) spans → end ≤ bound → new ≤ bound
step-within spans i end new bound None less is step low h = absurd (none (slice_get_found spans i less)) where
  none : (x : Span) × (slice_get spans i ≡ Some x) → ⊥
  none (x, at) = let f : ◌≡◌ {A = Option Span} None (Some x) = is ∙ at in absurd (cc)
step-within spans i end new bound (Some s) less is step low h =
    let at : get_or spans i s ≡ s = get_or_from_slice_get spans i s s (sym is) in
    let one = subst (λ (x : Span). x.out + x.len ≤ bound) at
    (All-get_or (λ (x : Span). x.out + x.len ≤ bound) spans i s less low) in
    let up = step-low end bound s h one in
    omega (arith, step, up)

pub span-low : (spans : List Span) (i bound : ℕ) (o : Option Span) → i < length spans → o ≡ slice_get spans i
    → All (λ (s : Span). s.out + s.len ≤ bound) spans → IfSome o (λ (s : Span). s.out + s.len ≤ bound)
span-low spans i bound None less is low = tt
span-low spans i bound (Some s) less is low =
    subst (λ (x : Span). x.out + x.len ≤ bound) (get_or_from_slice_get spans i s s (sym is))
    (All-get_or (λ (x : Span). x.out + x.len ≤ bound) spans i s less low)

pub all-seen : (spans : List Span) (i end want : ℕ) → length spans ≤ i → fold end_with end (drop i spans) ≡ want → end ≡ want
all-seen spans i end want past e =
    sym (ap (λ (l : List Span). fold end_with end l) (past-end spans i past)) ∙ e
