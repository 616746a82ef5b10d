-- The spans of blocks are a valid map. A jump that is left out isn't the first instruction of its block, so it isn't named.
use Rattle.std.proofs.Common.{◌≡◌, ◌≢◌, ℕ, zero, suc, ◌+◌, ◌%◌, ◌<◌, List, [], ◌∷◌, ◌++◌, length, Option, Bool, true, false, refl}
use Rattle.std.proofs.Common.{sym, ap, ◌∙◌, subst, arith, inl, inr, All, get_or}
use Rattle.std.specs.Prelude.{Any, Contains, map, not, ◌&&◌, if◌then◌else◌}
use Rattle.std.proofs.lemmas.List.Elements.{All-cons, All-nil}
use Rattle.rb_bytes.proofs.Members.{Contains-cons_cases, Contains-there}
use Rattle.rv_code.specs.declared.action.Action.{Action}
use Rattle.rv_code.specs.declared.action.Action.TheVariants.{Compute, Branch, Jump, JumpTo, Upper, UpperPc, Load, Store}
use Rattle.rv_code.specs.declared.action.Action.TheVariants.{SystemCall, Breakpoint}
use Rattle.rv_code.specs.declared.action.Action.TheVariants as action
use Rattle.rv_code.specs.declared.layout.Form.{Form}
use Rattle.rv_code.specs.declared.layout.Form.TheVariants as form
use Rattle.rv_code.specs.declared.layout.Size.TheVariants.{Half, Full, Long}
use Rattle.rv_code.specs.declared.placed.Placed.{Placed}
use Rattle.rv_code.specs.layout.Flow.{action_at, target_of}
use Rattle.addr_map.specs.declared.span.Span.{Span}
use Rattle.addr_map.specs.Spans.{IsMap}
use Rattle.branch_fixup.specs.Pieces.{Piece, as_it_is, length_of, piece_length, laid_from}
use Rattle.branch_fixup.specs.Endings.{Goes, LeftOut, ending, end_of_form, begins_at}
use Rattle.branch_fixup.specs.Strips.{is_alone, first_in}
use Rattle.branch_fixup.proofs.Laid.{IsFresh, AreOnce, AreEven, once_each, disjoint, are_placed}

-- One block: its first instruction has bytes.

pub form_length : (n : ℕ) (f : Form) → 0 < n → (f ≡ form.Dropped → ⊥) → 0 < piece_length n f
form_length n form.Plain h k = h
form_length n form.Jump h k = omega arith
form_length n (form.Branch inverted Half jump) h k = omega arith
form_length n (form.Branch inverted Full jump) h k = omega arith
form_length n (form.Branch inverted Long jump) h k = omega arith
form_length n (form.Goto true) h k = omega arith
form_length n (form.Goto false) h k = omega arith
form_length n form.Dropped h k = absurd (k refl)

pub record IsLeftOut (whole alone : Bool) : Type 0 where
  pub not_whole : whole ≡ false
  pub not_alone : alone ≡ false

pub left_end : (whole alone : Bool) (x : Action) (fall t next : Option ℕ) → LeftOut ≡ ending whole alone x fall t next →
    IsLeftOut whole alone
left_end true alone x fall t next h = absurd (cc)
left_end false alone (Jump zero imm) fall t next h = record { not_whole = refl; not_alone = by alone (begins_at next t) h }
  where
    by : (a b : Bool) → LeftOut ≡ (if b && not a then LeftOut else Goes) → a ≡ false
    by false b k = refl
    by true true k = absurd (cc)
    by true false k = absurd (cc)
left_end false alone (Branch test wanted rs1 rs2 imm) fall t next h = absurd (cc)
left_end false alone (Jump (suc rd) imm) fall t next h = absurd (cc)
left_end false alone (JumpTo rd rs1 imm) fall t next h = absurd (cc)
left_end false alone (Compute o rd left right) fall t next h = absurd (cc)
left_end false alone (Upper rd imm) fall t next h = absurd (cc)
left_end false alone (UpperPc rd imm) fall t next h = absurd (cc)
left_end false alone (Load x rd rs1 imm) fall t next h = absurd (cc)
left_end false alone (Store n rs1 rs2 imm) fall t next h = absurd (cc)
left_end false alone action.Fence fall t next h = absurd (cc)
left_end false alone SystemCall fall t next h = absurd (cc)
left_end false alone Breakpoint fall t next h = absurd (cc)

last_fresh : (q : Placed) (qs : List Placed) (last : Placed) (f : Form) →
    IsFresh q.addr (map as_it_is qs ++ record { placed = last; form = f } ∷ []) → last.addr ≢ q.addr
last_fresh q [] last f h = h.0
last_fresh q (p ∷ ps) last f h = last_fresh q ps last f h.1

last_bytes : (inner : List Placed) (last : Placed) (f : Form) (whole : Bool) (fall after : Option ℕ) →
    AreOnce (map as_it_is inner ++ record { placed = last; form = f } ∷ []) →
    end_of_form f ≡ ending whole (is_alone inner) (action_at last) fall (target_of last) after → 0 < last.len →
    last.addr ≡ first_in inner last → 0 < piece_length last.len f
last_bytes [] last f whole fall after once table some first =
    form_length last.len f some (λ d. no (left_end whole true (action_at last) fall (target_of last) after
    (sym (ap end_of_form d) ∙ table)).not_alone)
  where
    no : true ≡ false → ⊥
    no k = cc
last_bytes (q ∷ qs) last f whole fall after once table some first = absurd (last_fresh q qs last f once.0 first)

pub first_bytes : (inner : List Placed) (last : Placed) (f : Form) (whole : Bool) (fall after : Option ℕ) →
    AreOnce (map as_it_is inner ++ record { placed = last; form = f } ∷ []) →
    end_of_form f ≡ ending whole (is_alone inner) (action_at last) fall (target_of last) after → 0 < last.len →
    ((q : Placed) → Contains inner q → 0 < q.len) → (p : Piece) → Contains
    (map as_it_is inner ++ record { placed = last; form = f } ∷ []) p → p.placed.addr ≡ first_in inner last →
    0 < length_of p
first_bytes [] last f whole fall after once table some lens p c first =
    elim (Contains-cons_cases (record { placed = last; form = f }) [] p c) [
      | inl same ↦ subst (λ (x : Piece). 0 < length_of x) same (last_bytes [] last f whole fall after once table some refl)
      | inr later ↦ let l = later.1 in absurd (omega (arith, l))
    ]
first_bytes (q ∷ qs) last f whole fall after once table some lens p c first =
    elim (Contains-cons_cases (as_it_is q) (map as_it_is qs ++ record { placed = last; form = f } ∷ []) p c) [
      | inl same ↦ subst (λ (x : Piece). 0 < length_of x) same (lens q (0, omega arith, refl))
      | inr later ↦ absurd (others q.addr (map as_it_is qs ++ record { placed = last; form = f } ∷ []) p once.0 later first)
    ]
  where
    others : (a : ℕ) (ps : List Piece) (p : Piece) → IsFresh a ps → Contains ps p → p.placed.addr ≡ a → ⊥
    others a [] p h c e = let l = c.1 in absurd (omega (arith, l))
    others a (x ∷ xs) p h c e = elim (Contains-cons_cases x xs p c) [
      | inl same ↦ h.0 (ap (λ (y : Piece). y.placed.addr) same ∙ e)
      | inr later ↦ others a xs p h.1 later e
    ]

-- The map.

laid_only : (IsInput : ℕ → Type 0) (a : ℕ) (ps : List Piece) → ((p : Piece) → Contains ps p → IsInput p.placed.addr) →
    All (λ s. IsInput s.input) (laid_from a ps)
laid_only IsInput a [] h = All-nil (λ (s : Span). IsInput s.input)
laid_only IsInput a (p ∷ ps) h = All-cons (λ (s : Span). IsInput s.input)
    (record { out = a; len = length_of p; input = p.placed.addr }) (laid_from (a + length_of p) ps)
    (h p (0, omega arith, refl)) (laid_only IsInput (a + length_of p) ps (λ q c. h q (Contains-there p ps q c)))

span_of : (a : ℕ) (ps : List Piece) (p : Piece) → Contains ps p → Any (λ s.
    (s.input ≡ p.placed.addr) × (s.len ≡ length_of p)) (laid_from a ps)
span_of a [] p c = let l = c.1 in absurd (omega (arith, l))
span_of a (q ∷ qs) p c = elim (Contains-cons_cases q qs p c) [
  | inl same ↦ (
    0,
    record { out = a; len = length_of q; input = q.placed.addr },
    omega arith,
    refl,
    (ap (λ (x : Piece). x.placed.addr) same, ap (λ (x : Piece). length_of x) same),
  )
  | inr later ↦ let (k, s, within, is, h) = span_of (a + length_of q) qs p later in (suc k, s, omega (arith, within), is, h)
]

-- the pieces are exactly the instructions, and pieces with names have bytes
pub record AreAll (IsInput IsNamed : ℕ → Type 0) (ps : List Piece) : Type 0 where
  pub each : (a : ℕ) → IsInput a → (p : Piece) × Contains ps p × (p.placed.addr ≡ a)
  pub only : (p : Piece) → Contains ps p → IsInput p.placed.addr
  pub named : (a : ℕ) → IsNamed a → IsInput a
  pub bytes : (p : Piece) → Contains ps p → IsNamed p.placed.addr → 0 < length_of p

pub is_map : (IsInput IsNamed : ℕ → Type 0) (base : ℕ) (ps : List Piece) → AreAll IsInput IsNamed ps → AreOnce ps →
    AreEven ps → base % 2 ≡ 0 → 0 < base → IsMap IsInput IsNamed (laid_from base ps)
is_map IsInput IsNamed base ps all once even e some = record {
  each = λ a h. let (p, c, is) = all.each a h in let (k, s, within, at, i, l) = flat p (span_of base ps p c) in
      (k, s, within, at, i ∙ is);
  only = laid_only IsInput base ps all.only;
  once = once_each base ps once;
  placed = are_placed base ps e some even;
  disjoint = disjoint base ps;
  named = λ a h.
      let (p, c, is) = all.each a (all.named a h) in
      let (k, s, within, at, i, l) = flat p (span_of base ps p c) in
      let b : 0 < length_of p = all.bytes p c (subst IsNamed (sym is) h) in
      (k, s, within, at, (i ∙ is, omega (arith, b, l)));
}
  where
    flat : (p : Piece) → Any (λ s. (s.input ≡ p.placed.addr) × (s.len ≡ length_of p)) (laid_from base ps) →
        (k : ℕ) × (s : Span) × (k < length (laid_from base ps)) × (get_or (laid_from base ps) k s ≡ s) ×
        (s.input ≡ p.placed.addr) × (s.len ≡ length_of p)
    flat p (k, s, within, at, (i, l)) = (k, s, within, at, i, l)
