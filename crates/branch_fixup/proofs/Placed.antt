-- The new addresses of the instructions of a plan's blocks.
use Rattle.std.proofs.Common.{◌≡◌, ◌≢◌, ℕ, suc, ◌+◌, ◌<◌, ◌≤◌, List, [], ◌∷◌, ◌++◌, length, map, Option, Some, None, refl, sym}
use Rattle.std.proofs.Common.{ap, subst, arith, inl, inr, All, get_or}
use Rattle.std.specs.Prelude.{slice_get, Contains, Any, IsSomeAnd}
use Rattle.std.proofs.lemmas.Bool.{cases_order}
use Rattle.std.proofs.lemmas.List.Elements.{All-cons, All-nil}
use Rattle.std.proofs.lemmas.Option.{slice_get_within, get_or_from_slice_get}
use Rattle.rv_code.specs.declared.layout.Form.{Form}
use Rattle.rv_code.specs.declared.placed.Placed.{Placed}
use Rattle.rv_code.specs.declared.placed.Block.{Block}
use Rattle.rv_code.specs.layout.ProgramCode.{ProgramCode}
use Rattle.rv_code.specs.layout.Blocks.{AreBlocks}
use Rattle.rv_code.specs.layout.FunctionLists.{Follow, HasLength, AreLaidOut}
use Rattle.rv_code.specs.layout.BlockOrders.{HasAllBlocks}
use Rattle.addr_map.specs.declared.span.Span.{Span}
use Rattle.addr_map.specs.Spans.{new}
use Rattle.branch_fixup.specs.declared.growth.BlockEnd.{BlockEnd}
use Rattle.branch_fixup.specs.Ends.{IsAt}
use Rattle.branch_fixup.specs.Growth.{form_at, block_offset}
use Rattle.branch_fixup.specs.Pieces.{Piece, PlacedFrom, as_it_is, laid_from, length_of}
use Rattle.branch_fixup.specs.Strips.{Strip, strips_of, insts_in, first_in, pieces_of, pieces_of_strip, spans_of}
use Rattle.branch_fixup.proofs.Bridge.{AreBlockEndsOf, block_placed}
use Rattle.rv_code.proofs.lists.Follows.{before_of, some_length}
use Rattle.branch_fixup.proofs.Holders.{blocks_up}
use Rattle.branch_fixup.proofs.Laid.{IsFresh, AreOnce, placed_from}
use Rattle.rb_bytes.proofs.Members.{Contains-cons_cases, Contains-nil, Contains-there}
use Rattle.branch_fixup.proofs.Orders.{order_once}
use Rattle.branch_fixup.proofs.Rounds.{form_length}
use Rattle.branch_fixup.proofs.Planned.{planned, strip_follows, strip_length}

-- Properties of strips, for any origin.
pub record IsStrip (s : Strip) : Type 0 where
  pub follow : Follow (first_in s.inner s.last) (insts_in s) (s.last.addr + s.last.len)
  pub lengths : (p : Placed) → Contains (insts_in s) p → HasLength p

abbrev pub Differ : Strip → Strip → Type 0
Differ s t = (p q : Placed) → Contains (insts_in s) p → Contains (insts_in t) q → p.addr ≢ q.addr

pub record AreStrips (ss : List Strip) : Type 0 where
  pub each : (k : ℕ) (s : Strip) → slice_get ss k ≡ Some s → IsStrip s
  pub differ : (i j : ℕ) (s t : Strip) → slice_get ss i ≡ Some s → slice_get ss j ≡ Some t → i < j → Differ s t

pub are_strips : (code : ProgramCode) (blocks : List Block) (order : List ℕ) → AreLaidOut code.funcs →
    AreBlocks code blocks → HasAllBlocks blocks order → AreStrips (strips_of code.funcs blocks order)
are_strips code blocks order laid are perm = record { each = each; differ = differ }
  where
    each : (k : ℕ) (s : Strip) → slice_get (strips_of code.funcs blocks order) k ≡ Some s → IsStrip s
    each k s at =
        let plan = planned code blocks are order perm k s at in
        record { follow = strip_follows code plan.b s laid plan.of; lengths = strip_length code plan.b s laid plan.of }

    differ : (i j : ℕ) (s t : Strip) → slice_get (strips_of code.funcs blocks order) i ≡ Some s →
        slice_get (strips_of code.funcs blocks order) j ≡ Some t → i < j → Differ s t
    differ i j s t at_i at_j less p q has_p has_q same =
        let x = planned code blocks are order perm i s at_i in
        let y = planned code blocks are order perm j t at_j in
        let lp = (some_length p (strip_length code x.b s laid x.of p has_p)).0 in
        let lq = (some_length q (strip_length code y.b t laid y.of q has_q)).0 in
        elim (cases_order x.m y.m) [
          | inl e ↦ let k = order_once blocks order perm i j x.m y.m x.place y.place e in absurd (omega (arith, k, less))
          | inr apart ↦ elim apart [
            | inl before ↦ let u = blocks_up code blocks x.m y.m x.b y.b s t laid are x.of y.of x.block y.block before p
                q has_p has_q in absurd (omega (arith, u, lp, same))
            | inr after ↦ let u = blocks_up code blocks y.m x.m y.b x.b t s laid are y.of x.of y.block x.block after q p
                has_q has_p in absurd (omega (arith, u, lq, same))
          ]
        ]

-- No instruction occurs twice.

fresh_append : (a : ℕ) (ps qs : List Piece) → IsFresh a ps → IsFresh a qs → IsFresh a (ps ++ qs)
fresh_append a [] qs f g = g
fresh_append a (p ∷ ps) qs f g = (f.0, fresh_append a ps qs f.1 g)

once_append : (ps qs : List Piece) → AreOnce ps → AreOnce qs → ((p : Piece) → Contains ps p →
    IsFresh p.placed.addr qs) → AreOnce (ps ++ qs)
once_append [] qs f g h = g
once_append (p ∷ ps) qs f g h = (
  fresh_append p.placed.addr ps qs f.0 (h p (0, omega arith, refl)),
  once_append ps qs f.1 g (λ q c. h q (Contains-there p ps q c)),
)

pub piece_inst : (inner : List Placed) (last : Placed) (x : Form) (p : Piece) →
    Contains (map as_it_is inner ++ record { placed = last; form = x } ∷ []) p → Contains (inner ++ last ∷ []) p.placed
piece_inst [] last x p c = elim (Contains-cons_cases (record { placed = last; form = x }) [] p c) [
  | inl same ↦ (0, omega arith, ap (λ (z : Piece). z.placed) same)
  | inr later ↦ absurd (Contains-nil p later)
]
piece_inst (q ∷ qs) last x p c = elim (Contains-cons_cases (as_it_is q)
    (map as_it_is qs ++ record { placed = last; form = x } ∷ []) p c) [
      | inl same ↦ (0, omega arith, ap (λ (z : Piece). z.placed) same)
      | inr later ↦ Contains-there q (qs ++ last ∷ []) p.placed (piece_inst qs last x p later)
    ]

fresh_after : (a c end : ℕ) (inner : List Placed) (last : Placed) (x : Form) → a < c →
    Follow c (inner ++ last ∷ []) end → IsFresh a (map as_it_is inner ++ record { placed = last; form = x } ∷ [])
fresh_after a c end [] last x less h = ((λ e. let k = h.0 in absurd (omega (arith, e, k, less))), tt)
fresh_after a c end (q ∷ qs) last x less h = (
  (λ e. let k = h.0 in absurd (omega (arith, e, k, less))),
  fresh_after a (c + q.len) end qs last x (omega (arith, less)) h.1,
)

once_strip : (c end : ℕ) (inner : List Placed) (last : Placed) (x : Form) → Follow c (inner ++ last ∷ []) end →
    ((p : Placed) → Contains (inner ++ last ∷ []) p → HasLength p) → AreOnce
    (map as_it_is inner ++ record { placed = last; form = x } ∷ [])
once_strip c end [] last x h lens = (tt, tt)
once_strip c end (q ∷ qs) last x h lens =
    let l = (some_length q (lens q (0, omega arith, refl))).0 in
    let k = h.0 in (
      fresh_after q.addr (c + q.len) end qs last x (omega (arith, l, k)) h.1,
      once_strip (c + q.len) end qs last x h.1 (λ p has. lens p (Contains-there q (qs ++ last ∷ []) p has)),
    )

pub once_one : (s : Strip) (x : Form) → IsStrip s → AreOnce (pieces_of_strip s x)
once_one s x i = once_strip (first_in s.inner s.last) (s.last.addr + s.last.len) s.inner s.last x i.follow i.lengths

fresh_strips : (s : Strip) (ss : List Strip) (gs : List Form) → ((j : ℕ) (t : Strip) → slice_get ss j ≡ Some t →
    Differ s t) → (p : Placed) → Contains (insts_in s) p → IsFresh p.addr (pieces_of ss gs)
fresh_strips s [] gs h p has = tt
fresh_strips s (t ∷ ss) [] h p has = tt
fresh_strips s (t ∷ ss) (g ∷ gs) h p has = fresh_append p.addr (pieces_of_strip t g) (pieces_of ss gs)
    (in_strip t.inner (λ q c. c)) (fresh_strips s ss gs (λ j u at. h (suc j) u at) p has)
  where
    in_strip : (inner : List Placed) → ((q : Placed) → Contains (inner ++ t.last ∷ []) q → Contains (insts_in t) q) →
        IsFresh p.addr (map as_it_is inner ++ record { placed = t.last; form = g } ∷ [])
    in_strip [] up = ((λ e. h 0 t refl p t.last has (up t.last (0, omega arith, refl)) (sym e)), tt)
    in_strip (q ∷ qs) up = (
      (λ e. h 0 t refl p q has (up q (0, omega arith, refl)) (sym e)),
      in_strip qs (λ r c. up r (Contains-there q (qs ++ t.last ∷ []) r c)),
    )

pub strips_once : (ss : List Strip) → AreStrips ss → (gs : List Form) → AreOnce (pieces_of ss gs)
strips_once [] are gs = tt
strips_once (s ∷ ss) are [] = tt
strips_once (s ∷ ss) are (g ∷ gs) =
    let i = are.each 0 s refl in
    once_append (pieces_of_strip s g) (pieces_of ss gs)
    (once_strip (first_in s.inner s.last) (s.last.addr + s.last.len) s.inner s.last g i.follow i.lengths)
    (strips_once ss (record {
      each = λ k t at. are.each (suc k) t at;
      differ = λ i j t u at_i at_j less. are.differ (suc i) (suc j) t u at_i at_j (omega (arith, less));
    }) gs)
    (λ p c. fresh_strips s ss gs (λ j t at. are.differ 0 (suc j) s t refl at (omega arith)) p.placed
    (piece_inst s.inner s.last g p c))

-- The offset of an instruction in its block is the same as in the input.

place_in : (f : ℕ → ℕ) (a c end : ℕ) (inner : List Placed) (last : Placed) (x : Form) →
    Follow c (inner ++ last ∷ []) end → PlacedFrom f a (map as_it_is inner ++ record { placed = last; form = x } ∷ []) →
    (p : Placed) → Contains (inner ++ last ∷ []) p → f p.addr + c ≡ a + p.addr
place_in f a c end [] last x h k p has = elim (Contains-cons_cases last [] p has) [
  | inl same ↦ let e = k.0 in let g = h.0 in let i = ap (λ (z : Placed). z.addr) same in let j =
      ap (λ (z : Placed). f z.addr) same in omega (arith, e, g, i, j)
  | inr later ↦ absurd (Contains-nil p later)
]
place_in f a c end (q ∷ qs) last x h k p has = elim (Contains-cons_cases q (qs ++ last ∷ []) p has) [
  | inl same ↦ let e = k.0 in let g = h.0 in let i = ap (λ (z : Placed). z.addr) same in let j =
      ap (λ (z : Placed). f z.addr) same in omega (arith, e, g, i, j)
  | inr later ↦ let r = place_in f (a + q.len) (c + q.len) end qs last x h.1 k.1 p later in omega (arith, r)
]

pub strip_place : (f : ℕ → ℕ) (a : ℕ) (s : Strip) (x : Form) → IsStrip s → PlacedFrom f a (pieces_of_strip s x) →
    (p : Placed) → Contains (insts_in s) p → f p.addr + first_in s.inner s.last ≡ a + p.addr
strip_place f a s x is h p has = place_in f a (first_in s.inner s.last)
    (s.last.addr + s.last.len) s.inner s.last x is.follow h p has

-- no instruction of a block comes after its last one
up_to_last : (c end : ℕ) (inner : List Placed) (last : Placed) → Follow c (inner ++ last ∷ []) end → (p : Placed) →
    Contains (inner ++ last ∷ []) p → (p.addr ≤ last.addr) × (c ≤ p.addr)
up_to_last c end [] last h p has = elim (Contains-cons_cases last [] p has) [
  | inl same ↦ let i = ap (λ (z : Placed). z.addr) same in let g = h.0 in (omega (arith, i), omega (arith, i, g))
  | inr later ↦ absurd (Contains-nil p later)
]
up_to_last c end (q ∷ qs) last h p has = elim (Contains-cons_cases q (qs ++ last ∷ []) p has) [
  | inl same ↦
      let i = ap (λ (z : Placed). z.addr) same in
      let g = h.0 in
      let r = (up_to_last (c + q.len) end qs last h.1 last (last_in qs last)).1 in
      (omega (arith, i, g, r), omega (arith, i, g))
  | inr later ↦ let r = up_to_last (c + q.len) end qs last h.1 p later in let x = r.0 in let y = r.1 in (x, omega (arith, y))
]
  where
    last_in : (ps : List Placed) (l : Placed) → Contains (ps ++ l ∷ []) l
    last_in [] l = (0, omega arith, refl)
    last_in (r ∷ rs) l = Contains-there r (rs ++ l ∷ []) l (last_in rs l)

pub upto_last : (s : Strip) → IsStrip s → (p : Placed) → Contains (insts_in s) p →
    (p.addr ≤ s.last.addr) × (first_in s.inner s.last ≤ p.addr)
upto_last s is p has = up_to_last (first_in s.inner s.last) (s.last.addr + s.last.len) s.inner s.last is.follow p has

pub before_is : (c end : ℕ) (inner : List Placed) (last : Placed) → Follow c (inner ++ last ∷ []) end →
    c + before_of inner ≡ last.addr
before_is c end [] last h = let k = h.0 in omega (arith, k)
before_is c end (q ∷ qs) last h = let r = before_is (c + q.len) end qs last h.1 in omega (arith, r)

-- The block and the offset of an address.
pub record AtPlace (ss : List Strip) (j offset a : ℕ) : Type 0 where
  pub s : Strip
  pub p : Placed
  pub at : slice_get ss j ≡ Some s
  pub has : Contains (insts_in s) p
  pub addr : p.addr ≡ a
  pub sum : first_in s.inner s.last + offset ≡ a

pub at_place : (ss : List Strip) (j offset a : ℕ) → IsAt ss j offset a → AtPlace ss j offset a
at_place ss j offset a h = by (slice_get ss j) refl h
  where
    by : (o : Option Strip) → slice_get ss j ≡ o → IsSomeAnd o (λ s. (first_in s.inner s.last + offset ≡ a) × Any
        (λ p. p.addr ≡ a) (insts_in s)) → AtPlace ss j offset a
    by None e k = absurd k
    by (Some s) e (sum, (i, p, within, is, addr)) = record { s = s; p = p; at = e; has = (i, within, is); addr = addr; sum = sum }

pub address_at : (ts : List BlockEnd) (ss : List Strip) (fs : List Form) (base : ℕ) → AreStrips ss → AreBlockEndsOf ts ss →
    length fs ≡ length ss → (j offset a : ℕ) → IsAt ss j offset a → new (spans_of ss base fs) a ≡ base +
    (block_offset ts fs j + offset)
address_at ts ss fs base are block_ends len j offset a is =
    let h = at_place ss j offset a is in
    let within = slice_get_within ss j h.s h.at in
    let f : ℕ → ℕ = new (spans_of ss base fs) in
    let placed = block_placed f ts ss fs base h.s block_ends len (placed_from base (pieces_of ss fs) (strips_once ss are fs))
    j within in
    let same : get_or ss j h.s ≡ h.s = get_or_from_slice_get ss j h.s h.s h.at in
    let here = subst (λ (z : Strip). PlacedFrom f (base + block_offset ts fs j) (pieces_of_strip z (form_at fs j))) same placed in
    let r = strip_place f (base + block_offset ts fs j) h.s (form_at fs j) (are.each j h.s h.at) here h.p h.has in
    let sum = h.sum in
    let addr = h.addr in
    let g : f h.p.addr ≡ f a = ap f h.addr in
    omega (arith, r, sum, addr, g)

-- all spans are short

short_append : (a : ℕ) (ps qs : List Piece) → ((p : Piece) → Contains ps p → length_of p ≤ 12) →
    ((b : ℕ) → All (λ s. s.len ≤ 12) (laid_from b qs)) → All (λ s. s.len ≤ 12) (laid_from a (ps ++ qs))
short_append a [] qs h k = k a
short_append a (p ∷ ps) qs h k =
    All-cons (λ (s : Span). s.len ≤ 12) (record { out = a; len = length_of p; input = p.placed.addr })
    (laid_from (a + length_of p) (ps ++ qs)) (h p (0, omega arith, refl))
    (short_append (a + length_of p) ps qs (λ q c. h q (Contains-there p ps q c)) k)

short_piece : (inner : List Placed) (last : Placed) (x : Form) → ((p : Placed) → Contains (inner ++ last ∷ []) p →
    HasLength p) → (q : Piece) → Contains (map as_it_is inner ++ record { placed = last; form = x } ∷ []) q →
    length_of q ≤ 12
short_piece [] last x lens q c = elim (Contains-cons_cases (record { placed = last; form = x }) [] q c) [
  | inl same ↦ subst (λ (z : Piece). length_of z ≤ 12) same (form_length last.len x
      (some_length last (lens last (0, omega arith, refl))).1)
  | inr later ↦ absurd (Contains-nil q later)
]
short_piece (p ∷ ps) last x lens q c = elim (Contains-cons_cases (as_it_is p)
    (map as_it_is ps ++ record { placed = last; form = x } ∷ []) q c) [
      | inl same ↦ subst (λ (z : Piece). length_of z ≤ 12) same (let l = (some_length p (lens p (0, omega arith, refl))).1
          in omega (arith, l))
      | inr later ↦ short_piece ps last x (λ r h. lens r (Contains-there p (ps ++ last ∷ []) r h)) q later
    ]

pub short_spans : (a : ℕ) (ss : List Strip) (fs : List Form) → AreStrips ss →
    All (λ s. s.len ≤ 12) (laid_from a (pieces_of ss fs))
short_spans a [] fs are = All-nil (λ (s : Span). s.len ≤ 12)
short_spans a (s ∷ ss) [] are = All-nil (λ (s : Span). s.len ≤ 12)
short_spans a (s ∷ ss) (f ∷ fs) are =
    short_append a (pieces_of_strip s f) (pieces_of ss fs) (short_piece s.inner s.last f (are.each 0 s refl).lengths)
    (λ b. short_spans b ss fs (record {
      each = λ k t at. are.each (suc k) t at;
      differ = λ i j t u at_i at_j less. are.differ (suc i) (suc j) t u at_i at_j (omega (arith, less));
    }))
