-- The spans of blocks in an order: each non-empty span is the first one of its block, or follows the one before it.
use Rattle.std.proofs.Common.{◌≡◌, ℕ, zero, suc, ◌+◌, ◌-◌, ◌<◌, ◌≤◌, ◌⊎◌, ◌∙◌, inl, inr, List, [], ◌∷◌, ◌++◌, refl, sym, ap, subst}
use Rattle.std.proofs.Common.{arith, Some, map, take, drop}
use Rattle.std.specs.Prelude.{Contains, slice_get, option_map}
use Rattle.std.proofs.lemmas.Bool.{cases_order}
use Rattle.std.proofs.Math.Nat.{eq-zero-or-pos}
use Rattle.std.proofs.lemmas.Option.{get_or_from_slice_get, slice_get-map}
use Rattle.std.proofs.lemmas.List.Elements.{Contains-append_left, Contains-append_right, Contains-append_cases}
use Rattle.rb_bytes.proofs.Members.{Contains-there, Contains-nil, Contains-cons_cases}
use Rattle.rv_code.specs.declared.layout.Form.{Form}
use Rattle.rv_code.specs.declared.placed.Block.{Block}
use Rattle.rv_code.specs.declared.placed.Placed.{Placed}
use Rattle.rv_code.specs.layout.ProgramCode.{ProgramCode}
use Rattle.rv_code.specs.layout.Blocks.{AreBlocks, block_start}
use Rattle.rv_code.specs.layout.BlockOrders.{HasAllBlocks}
use Rattle.rv_code.specs.layout.FunctionLists.{Follow, HasLength, AreLaidOut}
use Rattle.rv_code.proofs.lists.Follows.{some_length, at_contains}
use Rattle.addr_map.specs.declared.span.Span.{Span}
use Rattle.branch_fixup.specs.Pieces.{Piece, as_it_is, length_of, laid_from, end_from}
use Rattle.branch_fixup.specs.Strips.{Strip, strips_of, insts_in, first_in, pieces_of, pieces_of_strip, spans_of}
use Rattle.branch_fixup.proofs.Appended.{laid_append}
use Rattle.branch_fixup.proofs.Placed.{are_strips, piece_inst}
use Rattle.branch_fixup.proofs.Planned.{Planned, planned, StripOf, insts_are, strip_length}
use Rattle.branch_fixup.proofs.Holders.{blocks_up, first_there, start_is}
use Rattle.branch_fixup.proofs.Orders.{order_once}
use Rattle.branch_fixup.proofs.BlockSpans.{Follows, HasInst, Heads, IsLaidByBlocks}

-- Pieces that ascend in the old code, from an address on.
abbrev Ascend : ℕ → List Piece → Type 0
Ascend c [] = Unit {0}
Ascend c (p ∷ ps) = (c ≤ p.placed.addr) × Ascend (suc p.placed.addr) ps

lower : (b c : ℕ) (ps : List Piece) → b ≤ c → Ascend c ps → Ascend b ps
lower b c [] le h = tt
lower b c (p ∷ ps) le h = (let x = h.0 in omega (arith, x, le), h.1)

ascend_strip : (c end : ℕ) (inner : List Placed) (last : Placed) (x : Form) → Follow c (inner ++ last ∷ []) end →
    ((p : Placed) → Contains (inner ++ last ∷ []) p → HasLength p) →
    Ascend c (map as_it_is inner ++ record { placed = last; form = x } ∷ [])
ascend_strip c end [] last x h lens = (let k = h.0 in omega (arith, k), tt)
ascend_strip c end (q ∷ qs) last x h lens =
    let l = (some_length q (lens q (0, omega arith, refl))).0 in
    let k = h.0 in (
      omega (arith, k),
      lower (suc q.addr) (c + q.len) (map as_it_is qs ++ record { placed = last; form = x } ∷ []) (omega (arith, l, k))
          (ascend_strip (c + q.len) end qs last x h.1 (λ p has. lens p (Contains-there q (qs ++ last ∷ []) p has))),
    )

-- a span is the span of a piece
record OfPiece (ps : List Piece) (t : Span) : Type 0 where
  p : Piece
  among : Contains ps p
  is : p.placed.addr ≡ t.input

abbrev span_for : ℕ → Piece → Span
span_for a p = record { out = a; len = length_of p; input = p.placed.addr }

of_piece : (a : ℕ) (ps : List Piece) (t : Span) → Contains (laid_from a ps) t → OfPiece ps t
of_piece a [] t c = absurd (Contains-nil t c)
of_piece a (p ∷ ps) t c = by (of_piece (a + length_of p) ps t) (Contains-cons_cases (span_for a p) (laid_from (a + length_of p) ps) t c)
  where
    by : (Contains (laid_from (a + length_of p) ps) t → OfPiece ps t) → (span_for a p ≡ t) ⊎ Contains (laid_from (a + length_of p) ps) t →
        OfPiece (p ∷ ps) t
    by more (inl e) = record { p = p; among = (zero, omega arith, refl); is = ap (λ (s : Span). s.input) e }
    by more (inr d) = let r = more d in record { p = r.p; among = Contains-there p ps r.p r.among; is = r.is }

from_on : (c a : ℕ) (ps : List Piece) → Ascend c ps → (t : Span) → Contains (laid_from a ps) t → c ≤ t.input
from_on c a [] h t d = absurd (Contains-nil t d)
from_on c a (p ∷ ps) h t d =
    by (from_on (suc p.placed.addr) (a + length_of p) ps h.1 t) (Contains-cons_cases (span_for a p) (laid_from (a + length_of p) ps) t d)
  where
    by : (Contains (laid_from (a + length_of p) ps) t → suc p.placed.addr ≤ t.input) →
        (span_for a p ≡ t) ⊎ Contains (laid_from (a + length_of p) ps) t → c ≤ t.input
    by more (inl e) = subst (λ (s : Span). c ≤ s.input) e h.0
    by more (inr k) = let x = h.0 in let y = more k in omega (arith, x, y)

-- the first non-empty one of some spans, at their start
record Leads (spans : List Span) (a : ℕ) (t : Span) : Type 0 where
  out : t.out ≡ a
  first : (u : Span) → Contains spans u → 0 < u.len → t.input ≤ u.input

one_strip : (c a : ℕ) (ps : List Piece) → Ascend c ps → (t : Span) → Contains (laid_from a ps) t → 0 < t.len →
    Leads (laid_from a ps) a t ⊎ Follows (laid_from a ps) t
one_strip c a [] h t d some = absurd (Contains-nil t d)
one_strip c a (p ∷ ps) h t d some =
    by (λ k. one_strip (suc p.placed.addr) (a + length_of p) ps h.1 t k some)
    (Contains-cons_cases (span_for a p) (laid_from (a + length_of p) ps) t d)
  where
    s : Span
    s = span_for a p

    rest : List Span
    rest = laid_from (a + length_of p) ps

    leads : Leads (span_for a p ∷ laid_from (a + length_of p) ps) a (span_for a p)
    leads = record { out = refl; first = λ u k some. pick u (Contains-cons_cases (span_for a p) (laid_from (a + length_of p) ps) u k) }
      where
        pick : (u : Span) → (span_for a p ≡ u) ⊎ Contains (laid_from (a + length_of p) ps) u → p.placed.addr ≤ u.input
        pick u (inl e) = let x : p.placed.addr ≡ u.input = ap (λ (s : Span). s.input) e in omega (arith, x)
        pick u (inr k) = let x = from_on (suc p.placed.addr) (a + length_of p) ps h.1 u k in omega (arith, x)

    follows : Follows (laid_from (a + length_of p) ps) t → Follows (span_for a p ∷ laid_from (a + length_of p) ps) t
    follows f = record {
      t = f.t;
      among = Contains-there (span_for a p) (laid_from (a + length_of p) ps) f.t f.among;
      bytes = f.bytes;
      touch = f.touch;
      before = f.before;
      last = λ u k some less. pick u some less (Contains-cons_cases (span_for a p) (laid_from (a + length_of p) ps) u k);
    } where
      pick : (u : Span) → 0 < u.len → u.input < t.input → (span_for a p ≡ u) ⊎ Contains (laid_from (a + length_of p) ps) u →
          u.input ≤ f.t.input
      pick u some less (inl e) =
          let x : p.placed.addr ≡ u.input = ap (λ (s : Span). s.input) e in
          let y = from_on (suc p.placed.addr) (a + length_of p) ps h.1 f.t f.among in
          omega (arith, x, y)
      pick u some less (inr k) = f.last u k some less

    -- the first piece is empty, or is followed by the first one of the rest
    after : Contains (laid_from (a + length_of p) ps) t → Leads (laid_from (a + length_of p) ps) (a + length_of p) t →
        (length_of p ≡ zero) ⊎ (zero < length_of p) →
        Leads (span_for a p ∷ laid_from (a + length_of p) ps) a t ⊎ Follows (span_for a p ∷ laid_from (a + length_of p) ps) t
    after k l (inl none) = inl (record {
      out = let x = l.out in omega (arith, x, none);
      first = λ u m some. pick u some (Contains-cons_cases (span_for a p) (laid_from (a + length_of p) ps) u m);
    }) where
      pick : (u : Span) → 0 < u.len → (span_for a p ≡ u) ⊎ Contains (laid_from (a + length_of p) ps) u → t.input ≤ u.input
      pick u some (inl e) = let x : length_of p ≡ u.len = ap (λ (s : Span). s.len) e in absurd (omega (arith, x, some, none))
      pick u some (inr m) = l.first u m some
    after k l (inr bytes) = inr (record {
      t = span_for a p;
      among = (zero, omega arith, refl);
      bytes = bytes;
      touch = sym l.out;
      before = let x = from_on (suc p.placed.addr) (a + length_of p) ps h.1 t k in omega (arith, x);
      last = λ u m some less. pick u some less (Contains-cons_cases (span_for a p) (laid_from (a + length_of p) ps) u m);
    }) where
      pick : (u : Span) → 0 < u.len → u.input < t.input → (span_for a p ≡ u) ⊎ Contains (laid_from (a + length_of p) ps) u →
          u.input ≤ p.placed.addr
      pick u some less (inl e) = let x : p.placed.addr ≡ u.input = ap (λ (s : Span). s.input) e in omega (arith, x)
      pick u some less (inr m) = let x = l.first u m some in absurd (omega (arith, x, less))

    by : (Contains (laid_from (a + length_of p) ps) t → Leads (laid_from (a + length_of p) ps) (a + length_of p) t ⊎
        Follows (laid_from (a + length_of p) ps) t) → (span_for a p ≡ t) ⊎ Contains (laid_from (a + length_of p) ps) t →
        Leads (span_for a p ∷ laid_from (a + length_of p) ps) a t ⊎ Follows (span_for a p ∷ laid_from (a + length_of p) ps) t
    by more (inl e) = inl (subst (λ (u : Span). Leads (span_for a p ∷ laid_from (a + length_of p) ps) a u) e leads)
    by more (inr k) = found (more k) where
      found : Leads (laid_from (a + length_of p) ps) (a + length_of p) t ⊎ Follows (laid_from (a + length_of p) ps) t →
          Leads (span_for a p ∷ laid_from (a + length_of p) ps) a t ⊎ Follows (span_for a p ∷ laid_from (a + length_of p) ps) t
      found (inl l) = after k l (eq-zero-or-pos (length_of p))
      found (inr f) = inr (follows f)

-- The spans of the block with index k.
abbrev part : ℕ → List Strip → List Form → ℕ → List Span
part k [] fs a = []
part k (s ∷ ss) [] a = []
part zero (s ∷ ss) (f ∷ fs) a = laid_from a (pieces_of_strip s f)
part (suc k) (s ∷ ss) (f ∷ fs) a = part k ss fs (end_from a (pieces_of_strip s f))

record InPart (ss : List Strip) (fs : List Form) (a : ℕ) (t : Span) : Type 0 where
  k : ℕ
  among : Contains (part k ss fs a) t

record IsPart (ss : List Strip) (fs : List Form) (a k : ℕ) : Type 0 where
  s : Strip
  at : slice_get ss k ≡ Some s
  form : Form
  from : ℕ
  is : part k ss fs a ≡ laid_from from (pieces_of_strip s form)

in_part : (ss : List Strip) (fs : List Form) (a : ℕ) (t : Span) → Contains (laid_from a (pieces_of ss fs)) t → InPart ss fs a t
in_part [] fs a t c = absurd (Contains-nil t c)
in_part (s ∷ ss) [] a t c = absurd (Contains-nil t c)
in_part (s ∷ ss) (f ∷ fs) a t c =
    by (in_part ss fs (end_from a (pieces_of_strip s f)) t)
    (Contains-append_cases (laid_from a (pieces_of_strip s f)) (laid_from (end_from a (pieces_of_strip s f)) (pieces_of ss fs)) t
    (subst (λ (l : List Span). Contains l t) (laid_append a (pieces_of_strip s f) (pieces_of ss fs)) c))
  where
    by : (Contains (laid_from (end_from a (pieces_of_strip s f)) (pieces_of ss fs)) t → InPart ss fs (end_from a (pieces_of_strip s f)) t) →
        Contains (laid_from a (pieces_of_strip s f)) t ⊎ Contains (laid_from (end_from a (pieces_of_strip s f)) (pieces_of ss fs)) t →
        InPart (s ∷ ss) (f ∷ fs) a t
    by more (inl d) = record { k = zero; among = d }
    by more (inr d) = let r = more d in record { k = suc r.k; among = r.among }

part_in : (k : ℕ) (ss : List Strip) (fs : List Form) (a : ℕ) (t : Span) → Contains (part k ss fs a) t →
    Contains (laid_from a (pieces_of ss fs)) t
part_in k [] fs a t c = absurd (Contains-nil t c)
part_in k (s ∷ ss) [] a t c = absurd (Contains-nil t c)
part_in zero (s ∷ ss) (f ∷ fs) a t c =
    subst (λ (l : List Span). Contains l t) (sym (laid_append a (pieces_of_strip s f) (pieces_of ss fs)))
    (Contains-append_left (laid_from a (pieces_of_strip s f)) (laid_from (end_from a (pieces_of_strip s f)) (pieces_of ss fs)) t c)
part_in (suc k) (s ∷ ss) (f ∷ fs) a t c =
    subst (λ (l : List Span). Contains l t) (sym (laid_append a (pieces_of_strip s f) (pieces_of ss fs)))
    (Contains-append_right (laid_from a (pieces_of_strip s f)) (laid_from (end_from a (pieces_of_strip s f)) (pieces_of ss fs)) t
    (part_in k ss fs (end_from a (pieces_of_strip s f)) t c))

is_part : (k : ℕ) (ss : List Strip) (fs : List Form) (a : ℕ) (t : Span) → Contains (part k ss fs a) t → IsPart ss fs a k
is_part k [] fs a t c = absurd (Contains-nil t c)
is_part k (s ∷ ss) [] a t c = absurd (Contains-nil t c)
is_part zero (s ∷ ss) (f ∷ fs) a t c = record { s = s; at = refl; form = f; from = a; is = refl }
is_part (suc k) (s ∷ ss) (f ∷ fs) a t c =
    let r = is_part k ss fs (end_from a (pieces_of_strip s f)) t c in
    record { s = r.s; at = r.at; form = r.form; from = r.from; is = r.is }

module _ (code : ProgramCode) (blocks : List Block) (order : List ℕ) (laid : AreLaidOut code.funcs) (are : AreBlocks code blocks)
    (perm : HasAllBlocks blocks order) (fs : List Form) (base : ℕ) where
  abbrev ss : List Strip
  ss = strips_of code.funcs blocks order

  -- an instruction of a strip has a span
  inst_of : (k : ℕ) (r : IsPart (strips_of code.funcs blocks order) fs base k) (t : Span) →
      Contains (part k (strips_of code.funcs blocks order) fs base) t → (p : Placed) × (Contains (insts_in r.s) p) × (p.addr ≡ t.input)
  inst_of k r t c =
      let o = of_piece r.from (pieces_of_strip r.s r.form) t (subst (λ (l : List Span). Contains l t) r.is c) in
      (o.p.placed, piece_inst r.s.inner r.s.last r.form o.p o.among, o.is)

  plan : (k : ℕ) (r : IsPart (strips_of code.funcs blocks order) fs base k) → Planned code blocks order k r.s
  plan k r = planned code blocks are order perm k r.s r.at

  begins : (k : ℕ) (r : IsPart (strips_of code.funcs blocks order) fs base k) →
      block_start code.funcs (plan k r).b ≡ first_in r.s.inner r.s.last
  begins k r =
      let x = plan k r in
      let e : slice_get (map (block_start code.funcs) blocks) x.m ≡ Some (block_start code.funcs x.b) =
      slice_get-map (block_start code.funcs) blocks x.m ∙ ap (option_map (block_start code.funcs)) x.block in
      sym (get_or_from_slice_get (map (block_start code.funcs) blocks) x.m (block_start code.funcs x.b) 0 e)
      ∙ start_is code blocks laid are x.m 0 x.b r.s x.block x.of

  -- the instructions of another block all come before, or all come after
  Before : Strip → Strip → Type 0
  Before s t = (p q : Placed) → Contains (insts_in s) p → Contains (insts_in t) q → p.addr < q.addr

  up : (s t : Strip) (m n : ℕ) (b c : Block) → slice_get blocks m ≡ Some b → slice_get blocks n ≡ Some c → StripOf code b s →
      StripOf code c t → m < n → Before s t
  unfolding Before
  up s t m n b c at_m at_n x y less p q has_p has_q =
      let u = blocks_up code blocks m n b c s t laid are x y at_m at_n less p q has_p has_q in
      let l = (some_length p (strip_length code b s laid x p has_p)).0 in
      omega (arith, u, l)

  apart : (k j : ℕ) (r : IsPart (strips_of code.funcs blocks order) fs base k) (q : IsPart (strips_of code.funcs blocks order) fs base j) →
      (k ≡ j → ⊥) → Before r.s q.s ⊎ Before q.s r.s
  apart k j r q other = by (cases_order (plan k r).m (plan j q).m) where
    by : ((plan k r).m ≡ (plan j q).m) ⊎ (((plan k r).m < (plan j q).m) ⊎ ((plan j q).m < (plan k r).m)) → Before r.s q.s ⊎ Before q.s r.s
    by (inl e) = absurd (other (order_once blocks order perm k j (plan k r).m (plan j q).m (plan k r).place (plan j q).place e))
    by (inr (inl less)) = inl (up r.s q.s (plan k r).m (plan j q).m (plan k r).b (plan j q).b (plan k r).block (plan j q).block
        (plan k r).of (plan j q).of less)
    by (inr (inr less)) = inr (up q.s r.s (plan j q).m (plan k r).m (plan j q).b (plan k r).b (plan j q).block (plan k r).block
        (plan j q).of (plan k r).of less)

  abbrev Part : ℕ → Type 0
  Part k = IsPart (strips_of code.funcs blocks order) fs base k

  abbrev spans_at : ℕ → List Span
  spans_at k = part k (strips_of code.funcs blocks order) fs base

  -- where another span is: in the same block, or before or after all of it in the old code
  data Beside (k : ℕ) (r : Part k) (v : Span) : Type 0 where
    Within : Contains (laid_from r.from (pieces_of_strip r.s r.form)) v → Beside k r v
    Below : ((p : Placed) → Contains (insts_in r.s) p → v.input < p.addr) → Beside k r v
    Above : ((p : Placed) → Contains (insts_in r.s) p → p.addr < v.input) → Beside k r v

  beside : (k : ℕ) (r : Part k) (v : Span) → Contains (spans_of (strips_of code.funcs blocks order) base fs) v → Beside k r v
  unfolding Before
  beside k r v c = by (in_part (strips_of code.funcs blocks order) fs base v c) where
    other : (j : ℕ) → Contains (spans_at j) v → (q : Part j) → Before r.s q.s ⊎ Before q.s r.s → Beside k r v
    other j d q (inl b) =
        let (i, has, same) = inst_of j q v d in
        Above (λ p has_p. let x = b p i has_p has in omega (arith, x, same))
    other j d q (inr b) =
        let (i, has, same) = inst_of j q v d in
        Below (λ p has_p. let x = b i p has has_p in omega (arith, x, same))

    at : (j : ℕ) → Contains (spans_at j) v → (k ≡ j) ⊎ ((k < j) ⊎ (j < k)) → Beside k r v
    at j d (inl e) =
        Within (subst (λ (l : List Span). Contains l v) r.is (subst (λ (n : ℕ). Contains (spans_at n) v) (sym e) d))
    at j d (inr (inl less)) =
        let q = is_part j (strips_of code.funcs blocks order) fs base v d in
        other j d q (apart k j r q (λ e. omega (arith, e, less)))
    at j d (inr (inr less)) =
        let q = is_part j (strips_of code.funcs blocks order) fs base v d in
        other j d q (apart k j r q (λ e. omega (arith, e, less)))

    by : InPart (strips_of code.funcs blocks order) fs base v → Beside k r v
    by i = at i.k i.among (cases_order k i.k)

  module _ (k : ℕ) (r : Part k) (t : Span) (c : Contains (spans_at k) t) where
    inside : Contains (laid_from r.from (pieces_of_strip r.s r.form)) t
    inside = subst (λ (l : List Span). Contains l t) r.is c

    ascend : Ascend (first_in r.s.inner r.s.last) (pieces_of_strip r.s r.form)
    ascend =
        let is = (are_strips code blocks order laid are perm).each k r.s r.at in
        ascend_strip (first_in r.s.inner r.s.last) (r.s.last.addr + r.s.last.len) r.s.inner r.s.last r.form is.follow is.lengths

    after_start : block_start code.funcs (plan k r).b ≤ t.input
    after_start =
        let e = begins k r in
        let low = from_on (first_in r.s.inner r.s.last) r.from (pieces_of_strip r.s r.form) ascend t inside in
        omega (arith, e, low)

    held : HasInst code.funcs (plan k r).b t.input
    held =
        let (p, has, same) = inst_of k r t c in
        let x = plan k r in
        let upto = x.of.is.some in
        let count : suc (x.b.last - x.b.first) ≡ x.b.last + 1 - x.b.first = omega (arith, upto) in
        let among = subst (λ (ps : List Placed). Contains ps p) (insts_are code x.b r.s x.of) has in
        record {
          func = x.of.func;
          of = x.of.at;
          p = p;
          among = subst (λ (n : ℕ). Contains (take n (drop x.b.first x.of.func.insts.items)) p) count among;
          addr = same;
        }

    heads : Leads (laid_from r.from (pieces_of_strip r.s r.form)) r.from t →
        Heads blocks (block_start code.funcs) (HasInst code.funcs) (spans_of (strips_of code.funcs blocks order) base fs) t
    heads l = record {
      b = (plan k r).b;
      among = at_contains blocks (plan k r).m (plan k r).b (plan k r).block;
      first = record { after = after_start; first = λ v d some from. by v some from (beside k r v d) };
      holds = held;
    } where
      by : (v : Span) → 0 < v.len → block_start code.funcs (plan k r).b ≤ v.input → Beside k r v → t.input ≤ v.input
      by v some from (Within d) = l.first v d some
      by v some from (Below b) =
          let (p, has, first) = first_there r.s.inner r.s.last in
          let x = b p has in
          let e = begins k r in
          absurd (omega (arith, x, e, first, from))
      by v some from (Above b) =
          let (p, has, same) = inst_of k r t c in
          let x = b p has in
          omega (arith, x, same)

    follows_all : Follows (laid_from r.from (pieces_of_strip r.s r.form)) t →
        Follows (spans_of (strips_of code.funcs blocks order) base fs) t
    follows_all f = record {
      t = f.t;
      among = part_in k (strips_of code.funcs blocks order) fs base f.t (subst (λ (l : List Span). Contains l f.t) (sym r.is) f.among);
      bytes = f.bytes;
      touch = f.touch;
      before = f.before;
      last = λ v d some less. by v some less (beside k r v d);
    } where
      by : (v : Span) → 0 < v.len → v.input < t.input → Beside k r v → v.input ≤ f.t.input
      by v some less (Within d) = f.last v d some less
      by v some less (Below b) =
          let (p, has, same) = inst_of k r f.t (subst (λ (l : List Span). Contains l f.t) (sym r.is) f.among) in
          let x = b p has in
          omega (arith, x, same)
      by v some less (Above b) =
          let (p, has, same) = inst_of k r t c in
          let x = b p has in
          absurd (omega (arith, x, same, less))

    stands : 0 < t.len →
        Heads blocks (block_start code.funcs) (HasInst code.funcs) (spans_of (strips_of code.funcs blocks order) base fs) t
        ⊎ Follows (spans_of (strips_of code.funcs blocks order) base fs) t
    stands some = by (one_strip (first_in r.s.inner r.s.last) r.from (pieces_of_strip r.s r.form) ascend t inside some) where
      by : Leads (laid_from r.from (pieces_of_strip r.s r.form)) r.from t ⊎ Follows (laid_from r.from (pieces_of_strip r.s r.form)) t →
          Heads blocks (block_start code.funcs) (HasInst code.funcs) (spans_of (strips_of code.funcs blocks order) base fs) t
          ⊎ Follows (spans_of (strips_of code.funcs blocks order) base fs) t
      by (inl l) = inl (heads l)
      by (inr f) = inr (follows_all f)

  pub laid_by_blocks :
      IsLaidByBlocks blocks (block_start code.funcs) (HasInst code.funcs) (spans_of (strips_of code.funcs blocks order) base fs)
  laid_by_blocks t c some =
      let i = in_part (strips_of code.funcs blocks order) fs base t c in
      stands i.k (is_part i.k (strips_of code.funcs blocks order) fs base t i.among) t i.among some
