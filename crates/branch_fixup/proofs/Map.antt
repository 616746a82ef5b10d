-- The spans are a valid map.
use Rattle.std.proofs.Common.{◌≡◌, ℕ, zero, suc, ◌+◌, ◌%◌, ◌<◌, ◌≤◌, List, [], ◌∷◌, ◌++◌, length, map, Option, Some, None, Bool}
use Rattle.std.proofs.Common.{true, false, refl, sym, ap, ◌∙◌, subst, arith, inl, inr}
use Rattle.std.specs.Prelude.{slice_get, Contains, IsTrue, is_some, nat_le, nat_lt, ◌&&◌, find, option_map}
use Rattle.std.proofs.lemmas.Bool.{and_parts, and_from, leb-true, ltb-true, le-leb, lt-ltb, cases_lt}
use Rattle.std.proofs.lemmas.List.Elements.{All-contains, Contains-append_left, Contains-append_right, Contains-append_cases}
use Rattle.std.proofs.lemmas.Option.{slice_get-get_or}
use Rattle.rv_code.specs.declared.layout.Form.{Form}
use Rattle.rv_code.specs.declared.layout.Form.TheVariants as form
use Rattle.rv_code.specs.declared.layout.Size.TheVariants.{Half, Full, Long}
use Rattle.rv_code.specs.declared.placed.Placed.{Placed}
use Rattle.rv_code.specs.declared.placed.Block.{Block}
use Rattle.rv_code.specs.layout.ProgramCode.{ProgramCode, is_code_address, IsNamed}
use Rattle.rv_code.specs.layout.Blocks.{AreBlocks, Begins, named}
use Rattle.rv_code.specs.layout.FunctionLists.{AreLaidOut, HasLength}
use Rattle.rv_code.specs.layout.Flow.{action_at, target_of}
use Rattle.rv_code.specs.layout.BlockOrders.{HasAllBlocks}
use Rattle.addr_map.specs.declared.span.Span.{Span}
use Rattle.addr_map.specs.Spans.{IsMap, IsStretch, has_byte, is_new_code}
use Rattle.branch_fixup.specs.Endings.{end_of_form}
use Rattle.branch_fixup.specs.Ends.{begins_of}
use Rattle.branch_fixup.specs.Growth.{form_at}
use Rattle.branch_fixup.specs.Pieces.{Piece, as_it_is, end_from, laid_from, piece_length, length_of}
use Rattle.branch_fixup.specs.Strips.{Strip, first_in, insts_in, is_alone, pieces_of, pieces_of_strip, spans_of, strips_of}
use Rattle.rb_bytes.proofs.Tests.{bool_same}
use Rattle.rv_code.proofs.lists.Follows.{follow_up, laid_func, some_length, at_contains}
use Rattle.branch_fixup.proofs.Holders.{Held, held, first_there, last_there}
use Rattle.branch_fixup.proofs.Laid.{AreEven, inside, laid_above, stretch}
use Rattle.branch_fixup.proofs.Lists.{find_found, found_find}
use Rattle.rb_bytes.proofs.Members.{Contains-cons_cases, Contains-nil, Contains-there}
use Rattle.branch_fixup.proofs.Mapped.{AreAll, first_bytes, form_length, is_map, left_end}
use Rattle.branch_fixup.proofs.Placed.{AreStrips, are_strips, once_one, piece_inst, strips_once, upto_last}
use Rattle.branch_fixup.proofs.Planned.{InBlock, Planned, in_block, planned}
use Rattle.branch_fixup.proofs.BlockEndFacts.{IsOfTable}
use Rattle.branch_fixup.proofs.BlockEndsFound.{strip_address}

-- Pieces and their blocks.

pub inst_piece : (inner : List Placed) (last : Placed) (x : Form) (p : Placed) → Contains (inner ++ last ∷ []) p →
    (q : Piece) × Contains (map as_it_is inner ++ record { placed = last; form = x } ∷ []) q × (q.placed ≡ p)
inst_piece [] last x p c = elim (Contains-cons_cases last [] p c) [
  | inl same ↦ (record { placed = last; form = x }, (0, omega arith, refl), same)
  | inr later ↦ absurd (Contains-nil p later)
]
inst_piece (r ∷ rs) last x p c = elim (Contains-cons_cases r (rs ++ last ∷ []) p c) [
  | inl same ↦ (as_it_is r, (0, omega arith, refl), same)
  | inr later ↦ let (q, has, is) = inst_piece rs last x p later in (
    q,
    Contains-there (as_it_is r) (map as_it_is rs ++ record { placed = last; form = x } ∷ []) q has,
    is,
  )
]

piece_there : (ss : List Strip) (fs : List Form) → length fs ≡ length ss → (j : ℕ) (s : Strip) →
    slice_get ss j ≡ Some s → (p : Placed) → Contains (insts_in s) p →
    (q : Piece) × Contains (pieces_of ss fs) q × (q.placed ≡ p)
piece_there [] fs len j s at p has = absurd (cc)
piece_there (t ∷ ss) [] len j s at p has = absurd (omega (arith, len))
piece_there (t ∷ ss) (f ∷ fs) len zero s at p has =
    let same : s ≡ t = (let e : Some t ≡ Some s = at in cc) in
    let (q, c, is) = inst_piece t.inner t.last f p (subst (λ (z : Strip). Contains (insts_in z) p) same has) in
    (q, Contains-append_left (pieces_of_strip t f) (pieces_of ss fs) q c, is)
piece_there (t ∷ ss) (f ∷ fs) len (suc j) s at p has =
    let (q, c, is) = piece_there ss fs (omega (arith, len)) j s at p has in
    (q, Contains-append_right (pieces_of_strip t f) (pieces_of ss fs) q c, is)

record FromStrip (ss : List Strip) (fs : List Form) (q : Piece) : Type 0 where
  j : ℕ
  s : Strip
  at : slice_get ss j ≡ Some s
  has : Contains (pieces_of_strip s (form_at fs j)) q

from_strip : (ss : List Strip) (fs : List Form) (q : Piece) → Contains (pieces_of ss fs) q → FromStrip ss fs q
from_strip [] fs q c = absurd (Contains-nil q c)
from_strip (t ∷ ss) [] q c = absurd (Contains-nil q c)
from_strip (t ∷ ss) (f ∷ fs) q c = elim (Contains-append_cases (pieces_of_strip t f) (pieces_of ss fs) q c) [
  | inl here ↦ record { j = 0; s = t; at = refl; has = here }
  | inr later ↦ let r = from_strip ss fs q later in record { j = suc r.j; s = r.s; at = r.at; has = r.has }
]

-- Lengths are even, and forms that aren't left out don't have the length 0.

pub form_even : (n : ℕ) (f : Form) → n % 2 ≡ 0 → piece_length n f % 2 ≡ 0
form_even n form.Plain h = h
form_even n form.Jump h = omega (arith, h)
form_even n (form.Branch inverted Half true) h = refl
form_even n (form.Branch inverted Half false) h = refl
form_even n (form.Branch inverted Full true) h = refl
form_even n (form.Branch inverted Full false) h = refl
form_even n (form.Branch inverted Long true) h = refl
form_even n (form.Branch inverted Long false) h = refl
form_even n (form.Goto true) h = refl
form_even n (form.Goto false) h = refl
form_even n form.Dropped h = refl

pub length_even : (p : Placed) → HasLength p → p.len % 2 ≡ 0
length_even p (inl two) = omega (arith, two)
length_even p (inr four) = omega (arith, four)

even_append : (ps qs : List Piece) → AreEven ps → AreEven qs → AreEven (ps ++ qs)
even_append [] qs h k = k
even_append (p ∷ ps) qs h k = (h.0, even_append ps qs h.1 k)

even_strip : (inner : List Placed) (last : Placed) (x : Form) → ((p : Placed) → Contains (inner ++ last ∷ []) p →
    HasLength p) → AreEven (map as_it_is inner ++ record { placed = last; form = x } ∷ [])
even_strip [] last x lens = (form_even last.len x (length_even last (lens last (0, omega arith, refl))), tt)
even_strip (p ∷ ps) last x lens = (
  length_even p (lens p (0, omega arith, refl)),
  even_strip ps last x (λ q c. lens q (Contains-there p (ps ++ last ∷ []) q c)),
)

even_pieces : (ss : List Strip) (fs : List Form) → AreStrips ss → AreEven (pieces_of ss fs)
even_pieces [] fs are = tt
even_pieces (s ∷ ss) [] are = tt
even_pieces (s ∷ ss) (f ∷ fs) are =
    even_append (pieces_of_strip s f) (pieces_of ss fs) (even_strip s.inner s.last f (are.each 0 s refl).lengths)
    (even_pieces ss fs (record {
      each = λ k t at. are.each (suc k) t at;
      differ = λ i j t u at_i at_j less. are.differ (suc i) (suc j) t u at_i at_j (omega (arith, less));
    }))

piece_bytes : (inner : List Placed) (last : Placed) (x : Form) → ((p : Placed) → Contains (inner ++ last ∷ []) p →
    HasLength p) → (x ≡ form.Dropped → ⊥) → (q : Piece) → Contains (map as_it_is inner ++
    record { placed = last; form = x } ∷ []) q → 0 < length_of q
piece_bytes [] last x lens there q c = elim (Contains-cons_cases (record { placed = last; form = x }) [] q c) [
  | inl same ↦ subst (λ (z : Piece). 0 < length_of z) same (form_length last.len x
      (let l = (some_length last (lens last (0, omega arith, refl))).0 in omega (arith, l)) there)
  | inr later ↦ absurd (Contains-nil q later)
]
piece_bytes (p ∷ ps) last x lens there q c = elim (Contains-cons_cases (as_it_is p)
    (map as_it_is ps ++ record { placed = last; form = x } ∷ []) q c) [
      | inl same ↦ subst (λ (z : Piece). 0 < length_of z) same (let l = (some_length p (lens p (0, omega arith, refl))).0 in
          omega (arith, l))
      | inr later ↦ piece_bytes ps last x (λ r h. lens r (Contains-there p (ps ++ last ∷ []) r h)) there q later
    ]

-- One unbroken stretch.

new_code_in : (a : ℕ) (ps : List Piece) (x : ℕ) → a ≤ x → x < end_from a ps → is_new_code (laid_from a ps) x ≡ true
new_code_in a ps x low high =
    let (k, s, within, is, has) = stretch a ps x low high in
    some_mapped (find (has_byte x) (laid_from a ps)) (found_find (has_byte x) (laid_from a ps) k s
    (slice_get-get_or (laid_from a ps) k s within ∙ ap Some is) has)
  where
    some_mapped : (o : Option Span) → is_some o ≡ true → is_some (option_map (λ s. s.input) o) ≡ true
    some_mapped None h = h
    some_mapped (Some s) h = refl

new_code_only : (a : ℕ) (ps : List Piece) (x : ℕ) → is_new_code (laid_from a ps) x ≡ true → (a ≤ x) × (x < end_from a ps)
new_code_only a ps x h =
    let r = find_found (has_byte x) (laid_from a ps) (some_unmapped (find (has_byte x) (laid_from a ps)) h) in
    let p = and_parts (nat_le r.x.out x) (nat_lt x (r.x.out + r.x.len)) r.passes in
    let low = leb-true r.x.out x p.0 in
    let high = ltb-true x (r.x.out + r.x.len) p.1 in
    let has = at_contains (laid_from a ps) r.k r.x r.at in
    let above : a ≤ r.x.out = All-contains (λ (s : Span). a ≤ s.out) (laid_from a ps) r.x (laid_above a ps) has in
    let below : r.x.out + r.x.len ≤ end_from a ps = All-contains (λ (s : Span). s.out + s.len ≤ end_from a ps)
    (laid_from a ps) r.x (inside a ps) has in
    (omega (arith, low, above), omega (arith, high, below))
  where
    some_unmapped : (o : Option Span) → is_some (option_map (λ s. s.input) o) ≡ true → is_some o ≡ true
    some_unmapped None h = h
    some_unmapped (Some s) h = refl

pub is_stretch : (a : ℕ) (ps : List Piece) → IsStretch (laid_from a ps) a (end_from a ps)
is_stretch a ps x = bool_same (is_new_code (laid_from a ps) x) (nat_le a x && nat_lt x (end_from a ps))
    (λ h. let b = new_code_only a ps x h in let b0 = b.0 in let b1 = b.1 in
    and_from (nat_le a x) (nat_lt x (end_from a ps)) (le-leb a x b0) (lt-ltb x (end_from a ps) b1))
    (λ h. let p = and_parts (nat_le a x) (nat_lt x (end_from a ps)) h in
    new_code_in a ps x (leb-true a x p.0) (ltb-true x (end_from a ps) p.1))

-- The map.

module _ (code : ProgramCode) (blocks : List Block) (order : List ℕ) (laid : AreLaidOut code.funcs)
    (are : AreBlocks code blocks) (perm : HasAllBlocks blocks order) (fs : List Form) (base : ℕ)
    (len : length fs ≡ length (strips_of code.funcs blocks order)) (table : (k : ℕ) (s : Strip) →
    slice_get (strips_of code.funcs blocks order) k ≡ Some s → IsOfTable s
    (begins_of (strips_of code.funcs blocks order) (k + 1)) (form_at fs k)) where
  abbrev ss : List Strip
  ss = strips_of code.funcs blocks order

  strips : AreStrips ss
  strips = are_strips code blocks order laid are perm

  -- A named address is the first one of its block, or is in a function that moves as one piece.
  named_bytes : (q : Piece) → Contains (pieces_of ss fs) q → IsNamed code q.placed.addr → 0 < length_of q
  named_bytes q c is_named = by r.s.whole refl
    where
      r : FromStrip ss fs q
      r = from_strip ss fs q c

      plan : Planned code blocks order r.j r.s
      plan = planned code blocks are order perm r.j r.s r.at

      has : Contains (insts_in r.s) q.placed
      has = piece_inst r.s.inner r.s.last (form_at fs r.j) q r.has

      i : InBlock plan.of.func plan.b.first plan.b.last q.placed
      i = in_block code plan.b r.s plan.of q.placed has

      lens : (p : Placed) → Contains (insts_in r.s) p → HasLength p
      lens = (strips.each r.j r.s r.at).lengths

      bytes : (p : Placed) → Contains (insts_in r.s) p → 0 < p.len
      bytes p h = let l = (some_length p (lens p h)).0 in omega (arith, l)

      -- the address is the first one of its block
      first : r.s.whole ≡ false → q.placed.addr ≡ first_in r.s.inner r.s.last
      first w =
          let x = plan.of in
          let begins : Begins code x.func i.i = named (sym x.whole_is ∙ w) (rw i.at (inr is_named.held)) in
          let low = i.low in
          let at_first : i.i ≡ plan.b.first = elim (cases_lt plan.b.first i.i) [
            | inl less ↦ absurd (x.is.no_other i.i less i.high begins)
            | inr not_less ↦ omega (arith, low, not_less)
          ] in
          let (p, has_p, first_p) = first_there r.s.inner r.s.last in
          first_addr at_first p has_p first_p
        where
          first_addr : i.i ≡ plan.b.first → (p : Placed) → Contains (insts_in r.s) p →
              p.addr ≡ first_in r.s.inner r.s.last → q.placed.addr ≡ first_in r.s.inner r.s.last
          first_addr e p has_p first_p =
              let low = (upto_last r.s (strips.each r.j r.s r.at) q.placed has).1 in
              let k = in_block code plan.b r.s plan.of p has_p in
              let k_low = k.low in
              let f = laid_func code.funcs plan.b.func plan.of.func laid plan.of.at in
              elim (cases_lt i.i k.i) [
                | inl less ↦ let u = follow_up plan.of.func.start plan.of.func.insts.items plan.of.func.end i.i k.i
                    q.placed p f.follow i.at k.at less in omega (arith, low, u, first_p)
                | inr not_less ↦
                    let same : k.i ≡ i.i = omega (arith, not_less, k_low, e) in
                    let one : p ≡ q.placed = (let g : Some p ≡ Some q.placed = sym k.at
                    ∙ ap (slice_get plan.of.func.insts.items) same ∙ i.at in cc) in
                    sym (ap (λ (z : Placed). z.addr) one) ∙ first_p
              ]

      by : (w : Bool) → r.s.whole ≡ w → 0 < length_of q
      by true w = piece_bytes r.s.inner r.s.last (form_at fs r.j) lens kept q r.has
        where
          kept : form_at fs r.j ≡ form.Dropped → ⊥
          kept d =
              let n = (left_end r.s.whole (is_alone r.s.inner) (action_at r.s.last) r.s.fall (target_of r.s.last)
              (begins_of ss (r.j + 1)) (sym (ap end_of_form d) ∙ table r.j r.s r.at)).not_whole in
              let e : true ≡ false = sym w ∙ n in
              absurd (cc)
      by false w =
          first_bytes r.s.inner r.s.last (form_at fs r.j) r.s.whole r.s.fall (begins_of ss (r.j + 1))
          (once_one r.s (form_at fs r.j) (strips.each r.j r.s r.at)) (table r.j r.s r.at)
          (bytes r.s.last (last_there r.s)) (λ p h. bytes p (Contains-append_left r.s.inner (r.s.last ∷ []) p h)) q
          r.has (first w)

  all_pieces : AreAll (λ a. IsTrue (is_code_address code.funcs a)) (IsNamed code) (pieces_of ss fs)
  all_pieces = record {
    each = λ a is.
        let h : Held code blocks laid are order perm a = held code blocks laid are order perm a is in
        let (q, c, e) = piece_there ss fs len h.j h.s h.at h.p h.has in
        (q, c, ap (λ (z : Placed). z.addr) e ∙ h.addr);
    only = λ q c.
        let r = from_strip ss fs q c in
        let plan = planned code blocks are order perm r.j r.s r.at in
        strip_address code plan.b r.s plan.of q.placed (piece_inst r.s.inner r.s.last (form_at fs r.j) q r.has);
    named = λ a n. n.code_address;
    bytes = named_bytes;
  }

  pub valid_map : base % 2 ≡ 0 → 0 < base → IsMap (λ a. IsTrue (is_code_address code.funcs a)) (IsNamed code)
      (spans_of ss base fs)
  valid_map even some = is_map (λ a. IsTrue (is_code_address code.funcs a)) (IsNamed code) base
      (pieces_of ss fs) all_pieces (strips_once ss strips fs) (even_pieces ss fs strips) even some
