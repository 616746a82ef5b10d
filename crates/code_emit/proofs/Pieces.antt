-- The pieces of a plan: each is of an instruction, and each instruction has one. Each ends by the table.
use Rattle.std.proofs.Common.{◌≡◌, ℕ, zero, suc, ◌<◌, ◌≤◌, List, [], ◌∷◌, ◌++◌, length, Option, Some, Bool, true, refl, sym}
use Rattle.std.proofs.Common.{ap, ◌∙◌, subst, arith, inl, inr, get_or, take}
use Rattle.std.specs.Prelude.{Contains, map, slice_get}
use Rattle.std.specs.Option.{option_map_or}
use Rattle.std.proofs.lemmas.List.Elements.{Contains-append_cases, Contains-append_left, Contains-append_right}
use Rattle.std.proofs.lemmas.Option.{slice_get_within}
use Rattle.rv_code.specs.declared.layout.Form.{Form}
use Rattle.rv_code.specs.declared.layout.Form.TheVariants as form
use Rattle.rv_code.specs.declared.layout.Size.{Size}
use Rattle.rv_code.specs.declared.layout.Size.TheVariants.{Half}
use Rattle.rv_code.specs.declared.placed.Block.{Block}
use Rattle.rv_code.specs.declared.placed.Func.{Func}
use Rattle.rv_code.specs.declared.placed.Placed.{Placed}
use Rattle.rv_code.specs.layout.Blocks.{AreBlocks}
use Rattle.rv_code.specs.layout.Flow.{insts_of, action_at, is_branch, target_of}
use Rattle.rv_code.specs.layout.ProgramCode.{ProgramCode}
use Rattle.rv_code.specs.layout.BlockOrders.{HasAllBlocks}
use Rattle.branch_fixup.specs.Endings.{end_of_form, ending}
use Rattle.branch_fixup.specs.Ends.{begins_of}
use Rattle.branch_fixup.specs.Forms.{EndByTable, FitsLength}
use Rattle.branch_fixup.specs.Pieces.{Piece, PlacedFrom, as_it_is, end_from}
use Rattle.branch_fixup.specs.Strips.{Strip, first_in, first_of, insts_in, is_alone, pieces_of, pieces_of_strip, strips_of}
use Rattle.branch_fixup.proofs.Appended.{end_append}
use Rattle.branch_fixup.proofs.Bridge.{split_placed}
use Rattle.branch_fixup.proofs.Covered.{Covers, covers}
use Rattle.branch_fixup.proofs.Lists.{at_flat}
use Rattle.rv_code.proofs.lists.Follows.{at_contains}
use Rattle.rb_bytes.proofs.Members.{Contains-cons_cases, Contains-nil}
use Rattle.rb_bytes.proofs.ListLemmas.{contains_at}
use Rattle.branch_fixup.proofs.Lists.{flat_at}
use Rattle.branch_fixup.proofs.Orders.{order_has}
use Rattle.branch_fixup.proofs.Placed.{piece_inst}
use Rattle.branch_fixup.proofs.Planned.{Planned, StripOf, block_in_insts, in_block, planned, planned_at}
use Rattle.branch_fixup.proofs.Map.{inst_piece}
use Rattle.code_emit.specs.Bytes.{AllCanBeEncoded}
use Rattle.code_emit.specs.NewInsts.{made_from}
use Rattle.code_emit.proofs.Keeps.{branch_by}
use Rattle.code_emit.proofs.Parts.{can_parts}

-- By strips.

pub record OfStrip (ss : List Strip) (q : Piece) : Type 0 where
  pub j : ℕ
  pub s : Strip
  pub at : slice_get ss j ≡ Some s
  pub has : Contains (insts_in s) q.placed

pub of_strip : (ss : List Strip) (fs : List Form) (q : Piece) → Contains (pieces_of ss fs) q → OfStrip ss q
of_strip [] fs q c = absurd (Contains-nil q c)
of_strip (t ∷ ss) [] q c = absurd (Contains-nil q c)
of_strip (t ∷ ss) (f ∷ fs) q c = elim (Contains-append_cases (pieces_of_strip t f) (pieces_of ss fs) q c) [
  | inl here ↦ record { j = 0; s = t; at = refl; has = piece_inst t.inner t.last f q here }
  | inr later ↦ let r = of_strip ss fs q later in record { j = suc r.j; s = r.s; at = r.at; has = r.has }
]

piece_there : (ss : List Strip) (fs : List Form) → EndByTable ss fs → (j : ℕ) (s : Strip) → slice_get ss j ≡ Some s →
    (p : Placed) → Contains (insts_in s) p → (q : Piece) × Contains (pieces_of ss fs) q × (q.placed ≡ p)
piece_there [] fs table j s at p has = absurd (cc)
piece_there (t ∷ ss) [] table j s at p has = absurd table
piece_there (t ∷ ss) (f ∷ fs) table zero s at p has =
    let same : s ≡ t = (let e : Some t ≡ Some s = at in cc) in
    let (q, c, is) = inst_piece t.inner t.last f p (subst (λ (z : Strip). Contains (insts_in z) p) same has) in
    (q, Contains-append_left (pieces_of_strip t f) (pieces_of ss fs) q c, is)
piece_there (t ∷ ss) (f ∷ fs) table (suc j) s at p has =
    let (q, c, is) = piece_there ss fs table.2 j s at p has in
    (q, Contains-append_right (pieces_of_strip t f) (pieces_of ss fs) q c, is)

pub one_each : (ss : List Strip) (fs : List Form) → EndByTable ss fs → length fs ≡ length ss
one_each [] [] table = refl
one_each [] (f ∷ fs) table = absurd table
one_each (s ∷ ss) [] table = absurd table
one_each (s ∷ ss) (f ∷ fs) table = ap suc (one_each ss fs table.2)

-- By instructions.

module _ (code : ProgramCode) (blocks : List Block) (order : List ℕ) (are : AreBlocks code blocks)
    (perm : HasAllBlocks blocks order) where
  pub inst_of : (q : Piece) → OfStrip (strips_of code.funcs blocks order) q → Contains (insts_of code.funcs) q.placed
  inst_of q o =
      let plan = planned code blocks are order perm o.j o.s o.at in
      let i = in_block code plan.b o.s plan.of q.placed o.has in
      flat_at (λ (g : Func). g.insts.items) code.funcs plan.b.func plan.of.func q.placed plan.of.at
      (at_contains plan.of.func.insts.items i.i q.placed i.at)

  pub piece_of : (fs : List Form) → EndByTable (strips_of code.funcs blocks order) fs → (p : Placed) →
      Contains (insts_of code.funcs) p → (q : Piece) × Contains (pieces_of (strips_of code.funcs blocks order) fs) q
      × (q.placed ≡ p)
  piece_of fs table p is_in =
      let w = at_flat (λ (g : Func). g.insts.items) code.funcs p is_in in
      let (i, at) = contains_at w.a.insts.items p w.has in
      let v : Covers blocks w.i i = covers code blocks are w.i i w.a w.at (slice_get_within w.a.insts.items i p at) in
      let (k, place) = order_has blocks order perm v.m (slice_get_within blocks v.m v.b v.at) in
      let (s, at_s, plan) = planned_at code blocks are order perm k v.m place in
      let (m, b, here, block, of) = known k s plan in
      let same_place : m ≡ v.m = (let e : Some m ≡ Some v.m = sym here ∙ place in cc) in
      let same_block : b ≡ v.b = (let e : Some b ≡ Some v.b = sym block ∙ ap (slice_get blocks) same_place ∙ v.at in cc) in
      let index : b.func ≡ w.i = ap (λ (z : Block). z.func) same_block ∙ v.func in
      let same : of.func ≡ w.a = some_func of.func w.a (sym of.at ∙ ap (slice_get code.funcs) index ∙ w.at) in
      let low : b.first ≤ i = subst (λ (z : Block). z.first ≤ i) (sym same_block) v.low in
      let high : i ≤ b.last = subst (λ (z : Block). i ≤ z.last) (sym same_block) v.high in
      let here_i : slice_get of.func.insts.items i ≡ Some p = ap (λ (z : Func). slice_get z.insts.items i) same ∙ at in
      piece_there (strips_of code.funcs blocks order) fs table k s at_s p (block_in_insts code b s of p i low high here_i)
    where
      some_func : (f g : Func) → Some f ≡ Some g → f ≡ g
      some_func f g e = cc

      known : (k : ℕ) (s : Strip) → Planned code blocks order k s → (m : ℕ) × (b : Block) × (slice_get order k ≡ Some m)
          × (slice_get blocks m ≡ Some b) × StripOf code b s
      known k s plan = (plan.m, plan.b, plan.place, plan.block, plan.of)

-- By the table.

pub record IsTabled (q : Piece) : Type 0 where
  pub branch : (inverted : Bool) (size : Size) (jump : Bool) → q.form ≡ form.Branch inverted size jump →
      is_branch (action_at q.placed) ≡ true
  pub half : (inverted jump : Bool) → q.form ≡ form.Branch inverted Half jump → q.placed.len ≡ 2

tabled_inner : (p : Placed) → IsTabled (as_it_is p)
tabled_inner p = record { branch = λ i z j e. absurd (cc); half = λ i j e. absurd (cc) }

tabled_last : (s : Strip) (next : Option ℕ) (f : Form) →
    end_of_form f ≡ ending s.whole (is_alone s.inner) (action_at s.last) s.fall (target_of s.last) next →
    FitsLength s.last.len f → IsTabled (record { placed = s.last; form = f })
tabled_last s next f table fits = record { branch = branch; half = λ i j e. subst (FitsLength s.last.len) e fits }
  where
    branch : (inverted : Bool) (size : Size) (jump : Bool) → f ≡ form.Branch inverted size jump →
        is_branch (action_at s.last) ≡ true
    branch inverted size jump e =
        let (test, wanted, rs1, rs2, imm, is) =
        branch_by inverted jump s.whole (is_alone s.inner) (action_at s.last) s.fall (target_of s.last) next
        (sym (ap end_of_form e) ∙ table) in
        ap is_branch is

tabled_strip : (inner : List Placed) (last : Placed) (f : Form) → IsTabled (record { placed = last; form = f }) → (q : Piece) →
    Contains (map as_it_is inner ++ record { placed = last; form = f } ∷ []) q → IsTabled q
tabled_strip [] last f t q c = elim (Contains-cons_cases (record { placed = last; form = f }) [] q c) [
  | inl same ↦ subst IsTabled same t
  | inr later ↦ absurd (Contains-nil q later)
]
tabled_strip (p ∷ ps) last f t q c =
    elim (Contains-cons_cases (as_it_is p) (map as_it_is ps ++ record { placed = last; form = f } ∷ []) q c) [
      | inl same ↦ subst IsTabled same (tabled_inner p)
      | inr later ↦ tabled_strip ps last f t q later
    ]

pub tabled : (ss : List Strip) (fs : List Form) → EndByTable ss fs → (q : Piece) → Contains (pieces_of ss fs) q → IsTabled q
tabled [] fs table q c = absurd (Contains-nil q c)
tabled (s ∷ ss) [] table q c = absurd table
tabled (s ∷ ss) (f ∷ fs) table q c = elim (Contains-append_cases (pieces_of_strip s f) (pieces_of ss fs) q c) [
  | inl here ↦ tabled_strip s.inner s.last f (tabled_last s (first_of ss) f table.0 table.1) q here
  | inr later ↦ tabled ss fs table.2 q later
]

-- Single blocks.

first_placed : (f : ℕ → ℕ) (a : ℕ) (inner : List Placed) (last : Placed) (x : Form) →
    PlacedFrom f a (map as_it_is inner ++ record { placed = last; form = x } ∷ []) → f (first_in inner last) ≡ a
first_placed f a [] last x h = h.0
first_placed f a (p ∷ ps) last x h = h.0

-- the start of the first block
pub start_at : (f : ℕ → ℕ) (a : ℕ) (ss : List Strip) (fs : List Form) → 0 < length ss → 0 < length fs →
    PlacedFrom f a (pieces_of ss fs) → option_map_or f (begins_of ss 0) 0 ≡ a
start_at f a [] fs some forms h = absurd (omega (arith, some))
start_at f a (t ∷ ss) [] some forms h = absurd (omega (arith, forms))
start_at f a (t ∷ ss) (x ∷ fs) some forms h =
    first_placed f a t.inner t.last x (split_placed f a (pieces_of_strip t x) (pieces_of ss fs) h).0

-- the addresses of the pieces of the block with index k
pub block_placed : (f : ℕ → ℕ) (a : ℕ) (ss : List Strip) (fs : List Form) (k : ℕ) (s : Strip) → slice_get ss k ≡ Some s →
    k < length fs → PlacedFrom f a (pieces_of ss fs) →
    PlacedFrom f (end_from a (pieces_of (take k ss) (take k fs))) (pieces_of_strip s (get_or fs k form.Plain))
block_placed f a [] fs k s at less h = absurd (cc)
block_placed f a (t ∷ ss) [] k s at less h = absurd (omega (arith, less))
block_placed f a (t ∷ ss) (x ∷ fs) zero s at less h =
    let same : t ≡ s = (let e : Some t ≡ Some s = at in cc) in
    subst (λ (z : Strip). PlacedFrom f a (pieces_of_strip z x)) same
    (split_placed f a (pieces_of_strip t x) (pieces_of ss fs) h).0
block_placed f a (t ∷ ss) (x ∷ fs) (suc k) s at less h =
    subst (λ (e : ℕ). PlacedFrom f e (pieces_of_strip s (get_or fs k form.Plain)))
    (sym (end_append a (pieces_of_strip t x) (pieces_of (take k ss) (take k fs))))
    (block_placed f (end_from a (pieces_of_strip t x)) ss fs k s at (omega (arith, less))
    (split_placed f a (pieces_of_strip t x) (pieces_of ss fs) h).1)

-- the pieces of the block with index k can be encoded there
pub block_can : (f : ℕ → ℕ) (a : ℕ) (ss : List Strip) (fs : List Form) (k : ℕ) (s : Strip) → slice_get ss k ≡ Some s →
    k < length fs → AllCanBeEncoded (made_from f a (pieces_of ss fs)) →
    AllCanBeEncoded (made_from f (end_from a (pieces_of (take k ss) (take k fs))) (pieces_of_strip s (get_or fs k form.Plain)))
block_can f a [] fs k s at less h = absurd (cc)
block_can f a (t ∷ ss) [] k s at less h = absurd (omega (arith, less))
block_can f a (t ∷ ss) (x ∷ fs) zero s at less h =
    let same : t ≡ s = (let e : Some t ≡ Some s = at in cc) in
    subst (λ (z : Strip). AllCanBeEncoded (made_from f a (pieces_of_strip z x))) same
    (can_parts f a (pieces_of_strip t x) (pieces_of ss fs) h).0
block_can f a (t ∷ ss) (x ∷ fs) (suc k) s at less h =
    subst (λ (e : ℕ). AllCanBeEncoded (made_from f e (pieces_of_strip s (get_or fs k form.Plain))))
    (sym (end_append a (pieces_of_strip t x) (pieces_of (take k ss) (take k fs))))
    (block_can f (end_from a (pieces_of_strip t x)) ss fs k s at (omega (arith, less))
    (can_parts f a (pieces_of_strip t x) (pieces_of ss fs) h).1)
