-- All branches and jumps of the new code reach.
use Rattle.std.proofs.Common.{◌≡◌, ℕ, zero, suc, ◌+◌, ◌<◌, ◌≤◌, ◌^◌, List, [], ◌∷◌, ◌++◌, length, map, drop, Option, Some, None}
use Rattle.std.proofs.Common.{Bool, true, false, refl, sym, ap, ◌∙◌, subst, arith, inl, inr, get_or, drop-cons, zero-add}
use Rattle.std.specs.Prelude.{slice_get, Contains, IsTrue, is_some, ◌==◌, ◌&&◌, not, if◌then◌else◌}
use Rattle.std.specs.Option.{option_map_or}
use Rattle.std.specs.List.{list_all}
use Rattle.std.proofs.lemmas.Bool.{cases_order, eqb-true, ne_eqb}
use Rattle.std.proofs.lemmas.List.Elements.{All-contains, Contains-append_left}
use Rattle.std.proofs.lemmas.Option.{slice_get_within, get_or_from_slice_get}
use Rattle.std.proofs.lemmas.List.{drop_all}
use Rattle.rv_code.specs.declared.action.Action.{Action}
use Rattle.rv_code.specs.declared.action.Action.TheVariants.{Compute, Branch, Jump, JumpTo, Upper, UpperPc, Load, Store}
use Rattle.rv_code.specs.declared.action.Action.TheVariants.{SystemCall, Breakpoint}
use Rattle.rv_code.specs.declared.action.Action.TheVariants as action
use Rattle.rv_code.specs.declared.layout.Form.{Form}
use Rattle.rv_code.specs.declared.layout.Form.TheVariants as form
use Rattle.rv_code.specs.declared.layout.Size.{Size}
use Rattle.rv_code.specs.declared.layout.Size.TheVariants.{Half, Full, Long}
use Rattle.rv_code.specs.declared.placed.Placed.{Placed}
use Rattle.rv_code.specs.declared.placed.Func.{Func}
use Rattle.rv_code.specs.declared.placed.Block.{Block}
use Rattle.rv_code.specs.layout.ProgramCode.{ProgramCode}
use Rattle.rv_code.specs.layout.Blocks.{AreBlocks, Begins, at_start, named, after_end}
use Rattle.rv_code.specs.layout.FunctionLists.{Follow, AreLaidOut}
use Rattle.rv_code.specs.layout.Flow.{action_at, target, target_of, is_branch, is_call, is_plain_jump, insts_of, is_short}
use Rattle.rv_code.specs.layout.BlockOrders.{HasAllBlocks}
use Rattle.addr_map.specs.Spans.{new}
use Rattle.branch_fixup.specs.declared.growth.BlockEnd.{BlockEnd}
use Rattle.branch_fixup.specs.Endings.{Kept, LeftOut, Goes, begins_at, end_of_form, ending}
use Rattle.branch_fixup.specs.Ends.{AreEnds, begins_of, lead_of}
use Rattle.branch_fixup.specs.Growth.{AreEnough, form_at, form_reach, end_at, from_at, to_at, block_offset}
use Rattle.branch_fixup.specs.Inputs.{AreDirect, AreNear, KeepsShort, LeadsToCode, StaysIn}
use Rattle.branch_fixup.specs.Pieces.{Piece, PlacedFrom, as_it_is, piece_length, length_of, end_from, bytes_of_size}
use Rattle.branch_fixup.specs.Distances.{AllLand, Leap, added_leap, new_target, jal, lands, main_leap, reach_of, reaches}
use Rattle.branch_fixup.specs.Strips.{Strip, first_in, insts_in, is_alone, pieces_of, pieces_of_strip, spans_of, strips_of}
use Rattle.branch_fixup.proofs.Appended.{end_append}
use Rattle.branch_fixup.proofs.Bridge.{AreBlockEndsOf, block_placed, end_of_inner, leads_to}
use Rattle.branch_fixup.proofs.Covered.{blocks_apart}
use Rattle.rv_code.proofs.lists.Follows.{follow_at, funcs_apart, laid_func, some_length, at_contains}
use Rattle.branch_fixup.proofs.Holders.{last_there}
use Rattle.branch_fixup.proofs.Laid.{placed_from}
use Rattle.rb_bytes.proofs.Members.{Contains-there}
use Rattle.rb_bytes.proofs.ListLemmas.{slice_get_found}
use Rattle.branch_fixup.proofs.Near.{Found, In, found, near_reach, shift_reach}
use Rattle.branch_fixup.proofs.Orders.{order_once}
use Rattle.branch_fixup.proofs.Placed.{AreStrips, are_strips, before_is, strip_place, strips_once, upto_last}
use Rattle.branch_fixup.proofs.Planned.{Planned, in_block, inner_goes_on, planned}
use Rattle.branch_fixup.proofs.Sizes.{kept_falls}
use Rattle.branch_fixup.proofs.BlockEndFacts.{FallsAfter, IsOfTable, Led, branch_end, led_branch, led_goto, lead_place, block_ends_of}
use Rattle.branch_fixup.proofs.BlockEndsFound.{strip_code, strip_fall, strip_target}

-- Lists of pieces.

land_append : (f : ℕ → ℕ) (a : ℕ) (ps qs : List Piece) → AllLand f a ps → AllLand f (end_from a ps) qs → AllLand f a (ps ++ qs)
land_append f a [] qs h k = k
land_append f a (p ∷ ps) qs h k = (h.0, land_append f (a + length_of p) ps qs h.1 k)

abbrev Lands : (ℕ → ℕ) → ℕ → Placed → Form → Type 0
Lands f a p g = IsTrue (list_all lands (main_leap f a p g ++ added_leap f a p g))

land_strip : (f : ℕ → ℕ) (a c end block_at first : ℕ) (inner : List Placed) (last : Placed) (x : Form) →
    Follow c (inner ++ last ∷ []) end → a + first ≡ block_at + c → ((p : Placed) → Contains inner p → (from : ℕ) →
    from + first ≡ block_at + p.addr → Lands f from p form.Plain) → ((from : ℕ) → from + first ≡ block_at + last.addr →
    Lands f from last x) → AllLand f a (map as_it_is inner ++ record { placed = last; form = x } ∷ [])
land_strip f a c end block_at first [] last x h e each at_last = (at_last a (let k = h.0 in omega (arith, e, k)), tt)
land_strip f a c end block_at first (q ∷ qs) last x h e each at_last = (
  each q (0, omega arith, refl) a (let k = h.0 in omega (arith, e, k)),
  land_strip f (a + q.len) (c + q.len) end block_at first qs last x h.1 (omega (arith, e))
      (λ p has. each p (Contains-there q qs p has)) at_last,
)

-- Instructions of few bytes.

short_branch : (p : Placed) → is_branch (action_at p) ≡ true → is_short p ≡ true
short_branch p h = rw h refl

far_reach : (p : Placed) → is_short p ≡ false → reach_of p.len p ≡ 2 ^ 20
far_reach p h = by (is_branch (action_at p)) (p.len == 2) refl refl
  where
    by : (b c : Bool) → is_branch (action_at p) ≡ b → (p.len == 2) ≡ c → reach_of p.len p ≡ 2 ^ 20
    by true c e k = absurd (let s : true ≡ false = sym (short_branch p e) ∙ h in cc)
    by false true e k = absurd (let s : is_short p ≡ true = rw (e, k) refl in let t : true ≡ false = sym s ∙ h in cc)
    by false false e k = rw (e, k) refl

suc_not_zero : (n : ℕ) → (suc n == 0) ≡ false
suc_not_zero n = ne_eqb (suc n) 0 (λ e. absurd (omega (arith, e)))

-- an action with a target that saves no return address and isn't a branch is a plain jump
plain_by : (a : ℕ) (x : Action) (t : ℕ) → target a x ≡ Some t → is_branch x ≡ false → is_call x ≡ false → is_plain_jump x ≡ true
plain_by a (Branch test wanted rs1 rs2 imm) t h b c = absurd (cc)
plain_by a (Jump zero imm) t h b c = refl
plain_by a (Jump (suc rd) imm) t h b c = absurd (let d : not (suc rd == 0) ≡ true = ap not (suc_not_zero rd) in
    let e : true ≡ false = sym d ∙ c in cc)
plain_by a (JumpTo rd rs1 imm) t h b c = absurd (cc)
plain_by a (Compute o rd left right) t h b c = absurd (cc)
plain_by a (Upper rd imm) t h b c = absurd (cc)
plain_by a (UpperPc rd imm) t h b c = absurd (cc)
plain_by a (Load x rd rs1 imm) t h b c = absurd (cc)
plain_by a (Store n rs1 rs2 imm) t h b c = absurd (cc)
plain_by a action.Fence t h b c = absurd (cc)
plain_by a SystemCall t h b c = absurd (cc)
plain_by a Breakpoint t h b c = absurd (cc)

-- outside functions that move as one piece, an instruction with a target that stays unchanged doesn't end a block
kept_goes_on : (alone : Bool) (x : Action) (fall t next : Option ℕ) (j : Bool) →
    Kept j ≡ ending false alone x fall t next → (a to : ℕ) → target a x ≡ Some to →
    (is_branch x ≡ false) × (is_plain_jump x ≡ false)
kept_goes_on alone (Branch test wanted rs1 rs2 imm) fall t next j h a to is = absurd (cc)
kept_goes_on alone (Jump zero imm) fall t next j h a to is = by (begins_at next t && not alone) h
  where
    by : (c : Bool) → Kept j ≡ (if c then LeftOut else Goes) → (false ≡ false) × (true ≡ false)
    by true h = absurd (cc)
    by false h = absurd (cc)
kept_goes_on alone (Jump (suc rd) imm) fall t next j h a to is = (refl, suc_not_zero rd)
kept_goes_on alone (JumpTo rd rs1 imm) fall t next j h a to is = absurd (cc)
kept_goes_on alone (Compute o rd left right) fall t next j h a to is = absurd (cc)
kept_goes_on alone (Upper rd imm) fall t next j h a to is = absurd (cc)
kept_goes_on alone (UpperPc rd imm) fall t next j h a to is = absurd (cc)
kept_goes_on alone (Load x rd rs1 imm) fall t next j h a to is = absurd (cc)
kept_goes_on alone (Store n rs1 rs2 imm) fall t next j h a to is = absurd (cc)
kept_goes_on alone action.Fence fall t next j h a to is = absurd (cc)
kept_goes_on alone SystemCall fall t next j h a to is = absurd (cc)
kept_goes_on alone Breakpoint fall t next j h a to is = absurd (cc)

pub whole_first : (code : ProgramCode) (func : Func) (i : ℕ) → func.whole ≡ true → Begins code func i → i ≡ 0
whole_first code func i whole (at_start e) = e
whole_first code func i whole (named other h) = absurd (let c : true ≡ false = sym whole ∙ other in cc)
whole_first code func i whole (after_end other j e h) = absurd (let c : true ≡ false = sym whole ∙ other in cc)

one_lands : (l : Leap) → lands l ≡ true → list_all lands (l ∷ []) ≡ true
one_lands l h = rw h refl

two_land : (l m : Leap) → lands l ≡ true → lands m ≡ true → list_all lands (l ∷ m ∷ []) ≡ true
two_land l m h k = rw (h, k) refl

module _ (code : ProgramCode) (blocks : List Block) (order : List ℕ) (laid : AreLaidOut code.funcs)
    (are : AreBlocks code blocks) (perm : HasAllBlocks blocks order) (ts : List BlockEnd) (zs : List Form)
    (ends : AreEnds (strips_of code.funcs blocks order) (length (strips_of code.funcs blocks order)) ts zs)
    (fs : List Form) (base : ℕ) (len : length fs ≡ length (strips_of code.funcs blocks order))
    (same : (k : ℕ) → k < length (strips_of code.funcs blocks order) →
    end_of_form (form_at fs k) ≡ end_of_form (form_at zs k)) (table : (k : ℕ) (s : Strip) →
    slice_get (strips_of code.funcs blocks order) k ≡ Some s → IsOfTable s
    (begins_of (strips_of code.funcs blocks order) (k + 1)) (form_at fs k)) (direct : AreDirect code.funcs)
    (near : AreNear code.funcs blocks order) (enough : AreEnough ts fs) where
  abbrev ss : List Strip
  ss = strips_of code.funcs blocks order

  abbrev f : ℕ → ℕ
  f = new (spans_of ss base fs)

  strips : AreStrips ss
  strips = are_strips code blocks order laid are perm

  block_ends : AreBlockEndsOf ts ss
  block_ends = block_ends_of ss strips ts zs ends

  abbrev IsIn : ℕ → ℕ → Type 0
  IsIn k from = In code blocks order laid are perm ts zs ends fs base len table k from

  placed : (k : ℕ) (s : Strip) → slice_get ss k ≡ Some s → PlacedFrom f (base + block_offset ts fs k)
      (pieces_of_strip s (form_at fs k))
  placed k s at =
      subst (λ (z : Strip). PlacedFrom f (base + block_offset ts fs k) (pieces_of_strip z (form_at fs k)))
      (get_or_from_slice_get ss k s s at)
      (block_placed f ts ss fs base s block_ends len (placed_from base (pieces_of ss fs) (strips_once ss strips fs)) k
      (slice_get_within ss k s at))

  after : (k : ℕ) (s : Strip) → slice_get ss k ≡ Some s → FallsAfter s
  after k s at a is = let plan = planned code blocks are order perm k s at in (strip_fall code plan.b s plan.of a is).1

  before : (k : ℕ) (s : Strip) → slice_get ss k ≡ Some s → first_in s.inner s.last + (end_at ts k).before ≡ s.last.addr
  before k s at = (ends.are_block_ends k s (slice_get_within ss k s at) at).before

  size : (k : ℕ) (s : Strip) → slice_get ss k ≡ Some s → piece_length (end_at ts k).len
      (form_at fs k) ≡ piece_length s.last.len (form_at fs k)
  size k s at = ap (λ (n : ℕ). piece_length n (form_at fs k)) (ends.are_block_ends k s (slice_get_within ss k s at) at).len

  -- an address in the last instruction of the block with index k
  in_last : (k : ℕ) (s : Strip) → slice_get ss k ≡ Some s → (from extra : ℕ) →
      from + first_in s.inner s.last ≡ base + block_offset ts fs k + s.last.addr →
      extra ≤ piece_length s.last.len (form_at fs k) → IsIn k (from + extra)
  in_last k s at from extra e h =
      let b = before k s at in
      let z = size k s at in
      record { within = slice_get_within ss k s at; low = omega (arith, e, b); high = omega (arith, e, b, z, h) }

  in_inner : (k : ℕ) (s : Strip) → slice_get ss k ≡ Some s → (p : Placed) → Contains (insts_in s) p → (from : ℕ) →
      from + first_in s.inner s.last ≡ base + block_offset ts fs k + p.addr → IsIn k from
  in_inner k s at p has from e =
      let u = upto_last s (strips.each k s at) p has in
      let u0 = u.0 in
      let u1 = u.1 in
      let b = before k s at in
      record { within = slice_get_within ss k s at; low = omega (arith, e, u1); high = omega (arith, e, b, u0) }

  -- In a function that moves as one piece, a short branch or jump stays in its block.
  abbrev Goal : ℕ → Type 0
  Goal a = Found code blocks order laid are perm ts zs ends fs base len table a

  stays_here : (k : ℕ) (s : Strip) → slice_get ss k ≡ Some s → s.whole ≡ true → (p : Placed) → Contains (insts_in s) p →
      (t : ℕ) → target_of p ≡ Some t → is_short p ≡ true → (from : ℕ) →
      from + first_in s.inner s.last ≡ base + block_offset ts fs k + p.addr → reaches (reach_of p.len p) from (f t) ≡ true
  stays_here k s at whole p has t is short from e =
      let plan = planned code blocks are order perm k s at in
      let x = plan.of in
      let i = in_block code plan.b s x p has in
      let whole_func : x.func.whole ≡ true = sym x.whole_is ∙ whole in
      let keeps : KeepsShort x.func = All-contains KeepsShort code.funcs x.func direct.stay
      (at_contains code.funcs plan.b.func x.func x.at) in
      let st = All-contains (λ q. IsTrue x.func.whole → IsTrue (is_short q) → StaysIn x.func q) x.func.insts.items p
      keeps (at_contains x.func.insts.items i.i p i.at) whole_func short in
      let to : Goal t = found code blocks order laid are perm ts zs ends fs base len table t
      (strip_target code plan.b s direct x p has t is) in
      let low = st.above t is in
      let high = st.below t is in
      let here = one_block k s plan whole_func t low high to in
      let same_t : to.t ≡ s = (let g : Some to.t ≡ Some s = sym to.at ∙ ap (slice_get ss) here ∙ at in cc) in
      let has_q : Contains (insts_in s) to.q = subst (λ (z : Strip). Contains (insts_in z) to.q) same_t to.has in
      let r = strip_place f (base + block_offset ts fs k) s (form_at fs k) (strips.each k s at) (placed k s at) to.q has_q in
      let r2 : f t + first_in s.inner s.last ≡ base + block_offset ts fs k + t =
      subst (λ (z : ℕ). f z + first_in s.inner s.last ≡ base + block_offset ts fs k + z) to.addr r in
      shift_reach (reach_of p.len p) p.addr t from (f t) (first_in s.inner s.last) (base + block_offset ts fs k) e r2
      (st.reach t is)
    where
      one_block : (k : ℕ) (s : Strip) (plan : Planned code blocks order k s) → plan.of.func.whole ≡ true → (t : ℕ) →
          plan.of.func.start ≤ t → t < plan.of.func.end → (to : Goal t) → to.j ≡ k
      one_block k s plan whole_func t low high to =
          let x = plan.of in
          let y = to.plan.of in
          let j = in_block code to.plan.b to.t y to.q to.has in
          let ly = laid_func code.funcs to.plan.b.func y.func laid y.at in
          let q = follow_at y.func.start y.func.insts.items y.func.end j.i to.q ly.follow j.at in
          let q0 = q.0 in
          let q1 = q.1 in
          let addr = to.addr in
          let long = (some_length to.q ((strips.each to.j to.t to.at).lengths to.q to.has)).0 in
          let one_func : plan.b.func ≡ to.plan.b.func = elim (cases_order plan.b.func to.plan.b.func) [
            | inl e ↦ e
            | inr apart ↦ elim apart [
              | inl less ↦ let d = funcs_apart code.funcs plan.b.func to.plan.b.func x.func y.func laid x.at y.at less
                  in absurd (omega (arith, d, q0, addr, high))
              | inr more ↦ let d = funcs_apart code.funcs to.plan.b.func plan.b.func y.func x.func laid y.at x.at more
                  in absurd (omega (arith, d, q1, addr, low, long))
            ]
          ] in
          let same_func : x.func ≡ y.func = (let g : Some x.func ≡ Some y.func = sym x.at
          ∙ ap (slice_get code.funcs) one_func ∙ y.at in cc) in
          let whole_y : y.func.whole ≡ true = ap (λ (z : Func). z.whole) (sym same_func) ∙ whole_func in
          let fx = whole_first code x.func plan.b.first whole_func x.is.begins in
          let fy = whole_first code y.func to.plan.b.first whole_y y.is.begins in
          let one : plan.m ≡ to.plan.m = elim (cases_order plan.m to.plan.m) [
            | inl e ↦ e
            | inr apart ↦ elim apart [
              | inl less ↦ elim (blocks_apart code blocks plan.m to.plan.m plan.b to.plan.b are plan.block to.plan.block less) [
                | inl func ↦ absurd (omega (arith, func, one_func))
                | inr in_one ↦ let d = in_one.1 in absurd (omega (arith, d, fy))
              ]
              | inr more ↦ elim (blocks_apart code blocks to.plan.m plan.m to.plan.b plan.b are to.plan.block plan.block more) [
                | inl func ↦ absurd (omega (arith, func, one_func))
                | inr in_one ↦ let d = in_one.1 in absurd (omega (arith, d, fx))
              ]
            ]
          ] in
          order_once blocks order perm to.j k to.plan.m plan.m to.plan.place plan.place (sym one)

  -- A branch or jump that keeps its width reaches.
  keeps_reach : (k : ℕ) (s : Strip) → slice_get ss k ≡ Some s → (p : Placed) → Contains (insts_in s) p → (t : ℕ) →
      target_of p ≡ Some t → (s.whole ≡ false → (is_branch (action_at p) ≡ false) ×
      (is_plain_jump (action_at p) ≡ false)) → (from : ℕ) → from + first_in s.inner s.last ≡ base + block_offset ts fs k +
      p.addr → reaches (reach_of p.len p) from (f t) ≡ true
  keeps_reach k s at p has t is goes_on from e = by (is_short p) s.whole refl refl
    where
      far : is_short p ≡ false → reaches (reach_of p.len p) from (f t) ≡ true
      far h =
          let plan = planned code blocks are order perm k s at in
          rw (far_reach p h) (near_reach code blocks order laid are perm ts zs ends fs base len table near k s t from at
          (inr (has.0, p, has.1, has.2, is)) (strip_target code plan.b s direct plan.of p has t is)
          (in_inner k s at p has from e))

      not_two : s.whole ≡ false → is_short p ≡ true → ⊥
      not_two w h = two (p.len == 2) refl
        where
          two : (b : Bool) → (p.len == 2) ≡ b → ⊥
          two true i =
              let plan = planned code blocks are order perm k s at in
              let no_call = (All-contains (LeadsToCode code.funcs) (insts_of code.funcs) p direct.lead
              (strip_code code plan.b s plan.of p has)).short_call t is (eqb-true p.len 2 i) in
              let jump = plain_by p.addr (action_at p) t is (goes_on w).0 no_call in
              let c : true ≡ false = sym jump ∙ (goes_on w).1 in
              absurd (cc)
          two false i =
              let short : is_short p ≡ false = rw ((goes_on w).0, i) refl in
              let c : true ≡ false = sym h ∙ short in
              absurd (cc)

      by : (b w : Bool) → is_short p ≡ b → s.whole ≡ w → reaches (reach_of p.len p) from (f t) ≡ true
      by true true h w = stays_here k s at w p has t is h from e
      by true false h w = absurd (not_two w h)
      by false w h i = far h

  -- Forms.

  kept_lands : (p : Placed) (from : ℕ) → ((t : ℕ) → target_of p ≡ Some t →
      reaches (reach_of p.len p) from (f t) ≡ true) → Lands f from p form.Plain
  kept_lands p from h = by (target_of p) refl
    where
      by : (o : Option ℕ) → target_of p ≡ o → Lands f from p form.Plain
      by None e = rw e refl
      by (Some t) e = rw e (one_lands (record { reach = reach_of p.len p; from = from; to = f t }) (h t e))

  inner_lands : (k : ℕ) (s : Strip) → slice_get ss k ≡ Some s → (p : Placed) → Contains s.inner p → (from : ℕ) →
      from + first_in s.inner s.last ≡ base + block_offset ts fs k + p.addr → Lands f from p form.Plain
  inner_lands k s at p has from e =
      let has_p = Contains-append_left s.inner (s.last ∷ []) p has in
      kept_lands p from (λ t is. keeps_reach k s at p has_p t is (λ w. goes_on w) from e)
    where
      goes_on : s.whole ≡ false → (is_branch (action_at p) ≡ false) × (is_plain_jump (action_at p) ≡ false)
      goes_on w =
          let plan = planned code blocks are order perm k s at in
          inner_goes_on code plan.b s plan.of w p has

  -- a JAL to the block's fall-through address reaches
  fall_lands : (k : ℕ) (s : Strip) → slice_get ss k ≡ Some s → is_some s.fall ≡ true → (from extra : ℕ) →
      from + first_in s.inner s.last ≡ base + block_offset ts fs k + s.last.addr →
      extra ≤ piece_length s.last.len (form_at fs k) → lands (jal (from + extra) (f (s.last.addr + s.last.len))) ≡ true
  fall_lands k s at some from extra e h = by s.fall refl some
    where
      by : (o : Option ℕ) → s.fall ≡ o → is_some o ≡ true → lands (jal (from + extra) (f (s.last.addr + s.last.len))) ≡ true
      by None i j = absurd (cc)
      by (Some a) i j =
          let plan = planned code blocks are order perm k s at in
          let c = strip_fall code plan.b s plan.of a i in
          subst (λ (z : ℕ). reaches (2 ^ 20) (from + extra) (f z) ≡ true) c.1
          (near_reach code blocks order laid are perm ts zs ends fs base len table near k s a (from + extra) at
          (inl i) c.0 (in_last k s at from extra e h))

  -- a JAL to the target of a form reaches
  lead_lands : (k : ℕ) (s : Strip) → slice_get ss k ≡ Some s → (a : ℕ) → lead_of s (form_at fs k) ≡ Some a →
      (from extra : ℕ) → from + first_in s.inner s.last ≡ base + block_offset ts fs k + s.last.addr →
      extra ≤ piece_length s.last.len (form_at fs k) → lands (jal (from + extra) (f a)) ≡ true
  lead_lands k s at a is from extra e h = by (form_at fs k) refl is
    where
      plan : Planned code blocks order k s
      plan = planned code blocks are order perm k s at

      by_target : target_of s.last ≡ Some a → lands (jal (from + extra) (f a)) ≡ true
      by_target i =
          let has = last_there s in
          near_reach code blocks order laid are perm ts zs ends fs base len table near k s a (from + extra) at
          (inr (has.0, s.last, has.1, has.2, i)) (strip_target code plan.b s direct plan.of s.last has a i)
          (in_last k s at from extra e h)

      by : (g : Form) → form_at fs k ≡ g → lead_of s g ≡ Some a → lands (jal (from + extra) (f a)) ≡ true
      by (form.Branch true size jump) g i = near_reach code blocks order laid are perm ts zs ends fs base len table near
          k s a (from + extra) at (inl i) (strip_fall code plan.b s plan.of a i).0 (in_last k s at from extra e h)
      by (form.Branch false size jump) g i = by_target i
      by (form.Goto half) g i = by_target i
      by form.Plain g i = absurd (cc)
      by form.Jump g i = absurd (cc)
      by form.Dropped g i = absurd (cc)

  -- a form that is enough reaches
  enough_lands : (k : ℕ) (s : Strip) → slice_get ss k ≡ Some s → (a reach : ℕ) → lead_of s (form_at fs k) ≡ Some a →
      form_reach (form_at fs k) ≡ Some reach → (from : ℕ) → from + first_in s.inner s.last ≡ base + block_offset ts fs k +
      s.last.addr → reaches reach from (f a) ≡ true
  enough_lands k s at a reach is has from e =
      let within = slice_get_within ss k s at in
      let b = before k s at in
      let to = lead_place ss strips ts zs ends fs base len same after fs len k s (form_at fs k) a at (same k within) is in
      let h : reaches reach (from_at ts fs k) (to_at ts fs k) ≡ true = ap
      (λ (o : Option ℕ). option_map_or (λ n. reaches n (from_at ts fs k) (to_at ts fs k)) o true) (sym has)
      ∙ enough.enough k (omega (arith, within, len)) in
      shift_reach reach (from_at ts fs k) (to_at ts fs k) from (f a) 0 base (omega (arith, e, b)) (omega (arith, to)) h

  last_lands : (k : ℕ) (s : Strip) → slice_get ss k ≡ Some s → (from : ℕ) →
      from + first_in s.inner s.last ≡ base + block_offset ts fs k + s.last.addr → Lands f from s.last (form_at fs k)
  last_lands k s at from e = by (form_at fs k) refl
    where
      next : Option ℕ
      next = begins_of ss (k + 1)

      of_table : (g : Form) → form_at fs k ≡ g → IsOfTable s next g
      of_table g i = subst (λ (x : Form). IsOfTable s next x) i (table k s at)

      kept : (g : Form) (j : Bool) → end_of_form g ≡ Kept j → form_at fs k ≡ g → (t : ℕ) → target_of s.last ≡ Some t →
          reaches (reach_of s.last.len s.last) from (f t) ≡ true
      kept g j kind i t is = keeps_reach k s at s.last (last_there s) t is goes_on from e
        where
          goes_on : s.whole ≡ false → (is_branch (action_at s.last) ≡ false) × (is_plain_jump (action_at s.last) ≡ false)
          goes_on w = kept_goes_on (is_alone s.inner) (action_at s.last) s.fall (target_of s.last) next j
              (sym kind ∙ of_table g i ∙ ap (λ (v : Bool). ending v (is_alone s.inner) (action_at s.last) s.fall
              (target_of s.last) next) w) s.last.addr t is

      by : (g : Form) → form_at fs k ≡ g → Lands f from s.last g
      by form.Plain i = kept_lands s.last from (kept form.Plain false refl i)
      by form.Jump i = jump_lands (target_of s.last) refl
        where
          some : is_some s.fall ≡ true
          some = kept_falls s.whole (is_alone s.inner) (action_at s.last) s.fall (target_of s.last) next (of_table form.Jump i)

          added : lands (jal (from + s.last.len) (f (s.last.addr + s.last.len))) ≡ true
          added = fall_lands k s at some from s.last.len e (let z : piece_length s.last.len
              (form_at fs k) ≡ s.last.len + 4 = ap (piece_length s.last.len) i in omega (arith, z))

          jump_lands : (o : Option ℕ) → target_of s.last ≡ o → Lands f from s.last form.Jump
          jump_lands None j = rw j (one_lands (jal (from + s.last.len) (f (s.last.addr + s.last.len))) added)
          jump_lands (Some t) j = rw j (two_land (record { reach = reach_of s.last.len s.last; from = from; to = f t })
              (jal (from + s.last.len) (f (s.last.addr + s.last.len))) (kept form.Jump true refl i t j) added)
      by (form.Branch inverted size jump) i = branch_lands size jump i
        where
          led_to : (size : Size) (jump : Bool) → form_at fs k ≡ form.Branch inverted size jump →
              Led s (form.Branch inverted size jump)
          led_to size jump i = led_branch s next (after k s at) inverted size jump (of_table (form.Branch inverted size jump) i)

          to_is : (v : Bool) (size : Size) (jump : Bool) (a : ℕ) → leads_to f s.last (form.Branch v size jump) ≡ f a →
              (if v then f (s.last.addr + s.last.len) else new_target f s.last) ≡ f a
          to_is true size jump a h = h
          to_is false size jump a h = h

          enough_at : (size : Size) (jump : Bool) (i : form_at fs k ≡ form.Branch inverted size jump) (reach : ℕ) →
              form_reach (form.Branch inverted size jump) ≡ Some reach → lands
              (record { reach = reach; from = from; to = f (led_to size jump i).a }) ≡ true
          enough_at size jump i reach h = enough_lands k s at (led_to size jump i).a reach
              (ap (lead_of s) i ∙ (led_to size jump i).is) (ap form_reach i ∙ h) from e

          long_at : (jump : Bool) (i : form_at fs k ≡ form.Branch inverted Long jump) →
              lands (jal (from + 4) (f (led_to Long jump i).a)) ≡ true
          long_at jump i = lead_lands k s at (led_to Long jump i).a (ap (lead_of s) i ∙ (led_to Long jump i).is) from 4
              e (let z : piece_length s.last.len (form_at fs k) ≡ piece_length s.last.len (form.Branch inverted Long jump) =
              ap (piece_length s.last.len) i in omega (arith, z))

          added_at : (size : Size) (i : form_at fs k ≡ form.Branch inverted size true) →
              lands (jal (from + bytes_of_size size) (f (s.last.addr + s.last.len))) ≡ true
          added_at size i =
              let some = (branch_end s.whole (is_alone s.inner) (action_at s.last) s.fall
              (target_of s.last) next inverted true (of_table (form.Branch inverted size true) i)).falls_jump refl
              in
              fall_lands k s at some from (bytes_of_size size) e (let z : piece_length s.last.len
              (form_at fs k) ≡ bytes_of_size size + 4 = ap (piece_length s.last.len) i in omega (arith, z))

          main_is : (size : Size) (jump : Bool) (i : form_at fs k ≡ form.Branch inverted size jump) →
              (if inverted then f (s.last.addr + s.last.len) else new_target f s.last) ≡ f (led_to size jump i).a
          main_is size jump i = to_is inverted size jump (led_to size jump i).a ((led_to size jump i).to f)

          branch_lands : (size : Size) (jump : Bool) → form_at fs k ≡ form.Branch inverted size jump →
              Lands f from s.last (form.Branch inverted size jump)
          branch_lands Half false i = subst (λ (z : ℕ). IsTrue (list_all lands
              (record { reach = 2 ^ 8; from = from; to = z } ∷ []))) (sym (main_is Half false i))
              (one_lands (record { reach = 2 ^ 8; from = from; to = f (led_to Half false i).a })
              (enough_at Half false i (2 ^ 8) refl))
          branch_lands Half true i = subst (λ (z : ℕ). IsTrue (list_all lands
              (record { reach = 2 ^ 8; from = from; to = z } ∷ jal (from + bytes_of_size Half)
              (f (s.last.addr + s.last.len)) ∷ []))) (sym (main_is Half true i))
              (two_land (record { reach = 2 ^ 8; from = from; to = f (led_to Half true i).a })
              (jal (from + bytes_of_size Half) (f (s.last.addr + s.last.len))) (enough_at Half true i (2 ^ 8) refl)
              (added_at Half i))
          branch_lands Full false i = subst (λ (z : ℕ). IsTrue (list_all lands
              (record { reach = 2 ^ 12; from = from; to = z } ∷ []))) (sym (main_is Full false i))
              (one_lands (record { reach = 2 ^ 12; from = from; to = f (led_to Full false i).a })
              (enough_at Full false i (2 ^ 12) refl))
          branch_lands Full true i = subst (λ (z : ℕ). IsTrue (list_all lands
              (record { reach = 2 ^ 12; from = from; to = z } ∷ jal (from + bytes_of_size Full)
              (f (s.last.addr + s.last.len)) ∷ []))) (sym (main_is Full true i))
              (two_land (record { reach = 2 ^ 12; from = from; to = f (led_to Full true i).a })
              (jal (from + bytes_of_size Full) (f (s.last.addr + s.last.len))) (enough_at Full true i (2 ^ 12) refl)
              (added_at Full i))
          branch_lands Long false i = subst (λ (z : ℕ). IsTrue (list_all lands (jal (from + 4) z ∷ [])))
              (sym (main_is Long false i)) (one_lands (jal (from + 4) (f (led_to Long false i).a)) (long_at false i))
          branch_lands Long true i = subst (λ (z : ℕ). IsTrue (list_all lands
              (jal (from + 4) z ∷ jal (from + bytes_of_size Long) (f (s.last.addr + s.last.len)) ∷ [])))
              (sym (main_is Long true i)) (two_land (jal (from + 4) (f (led_to Long true i).a))
              (jal (from + bytes_of_size Long) (f (s.last.addr + s.last.len))) (long_at true i) (added_at Long i))
      by (form.Goto half) i = goto_lands half i
        where
          led_to : (half : Bool) → form_at fs k ≡ form.Goto half → Led s (form.Goto half)
          led_to half i = led_goto s next half (of_table (form.Goto half) i)

          goto_lands : (half : Bool) → form_at fs k ≡ form.Goto half → Lands f from s.last (form.Goto half)
          goto_lands true i = subst (λ (z : ℕ). IsTrue (list_all lands
              (record { reach = 2 ^ 11; from = from; to = z } ∷ []))) (sym ((led_to true i).to f))
              (one_lands (record { reach = 2 ^ 11; from = from; to = f (led_to true i).a })
              (enough_lands k s at (led_to true i).a (2 ^ 11) (ap (lead_of s) i ∙ (led_to true i).is)
              (ap form_reach i) from e))
          goto_lands false i =
              let far : lands (jal (from + 0) (f (led_to false i).a)) ≡ true =
              lead_lands k s at (led_to false i).a (ap (lead_of s) i ∙ (led_to false i).is) from 0 e
              (omega arith) in
              subst (λ (z : ℕ). IsTrue (list_all lands (jal from z ∷ []))) (sym ((led_to false i).to f))
              (one_lands (jal from (f (led_to false i).a)) (subst (λ (z : ℕ).
              lands (jal z (f (led_to false i).a)) ≡ true) (let z : from + 0 ≡ from = omega arith in z) far))
      by form.Dropped i = refl

  -- All blocks, from the last one back.

  strip_lands : (k : ℕ) (s : Strip) → slice_get ss k ≡ Some s → AllLand f (base + block_offset ts fs k)
      (pieces_of_strip s (form_at fs k))
  strip_lands k s at =
      let i = strips.each k s at in
      land_strip f (base + block_offset ts fs k) (first_in s.inner s.last) (s.last.addr + s.last.len)
      (base + block_offset ts fs k)
      (first_in s.inner s.last) s.inner s.last (form_at fs k) i.follow refl (inner_lands k s at) (last_lands k s at)

  strip_end : (k : ℕ) (s : Strip) → slice_get ss k ≡ Some s → end_from (base + block_offset ts fs k)
      (pieces_of_strip s (form_at fs k)) ≡ base + block_offset ts fs (suc k)
  strip_end k s at =
      let b = before k s at in
      let z = size k s at in
      let i = strips.each k s at in
      let w = before_is (first_in s.inner s.last) (s.last.addr + s.last.len) s.inner s.last i.follow in
      let ends_at = end_of_inner (base + block_offset ts fs k) s.inner (record { placed = s.last; form = form_at fs k } ∷ []) in
      omega (arith, b, z, w, ends_at)

  pub lands_from : (n k : ℕ) → k + n ≡ length ss → AllLand f (base + block_offset ts fs k)
      (pieces_of (drop k ss) (drop k fs)) × (end_from (base + block_offset ts fs k)
      (pieces_of (drop k ss) (drop k fs)) ≡ base + block_offset ts fs (length ss))
  lands_from zero k sum =
      let e : k ≡ length ss = omega (arith, sum) in
      rw (drop_all k ss (omega (arith, e))) (tt, ap (λ (j : ℕ). base + block_offset ts fs j) e)
  lands_from (suc n) k sum =
      let (s, at) = slice_get_found ss k (omega (arith, sum)) in
      let rest = lands_from n (suc k) (omega (arith, sum)) in
      let end = strip_end k s at in
      let rest_pieces : List Piece = pieces_of (drop (suc k) ss) (drop (suc k) fs) in
      let pieces : pieces_of (drop k ss) (drop k fs) ≡ pieces_of_strip s (form_at fs k) ++ rest_pieces = both k s at in
      rw pieces (
        land_append f (base + block_offset ts fs k) (pieces_of_strip s (form_at fs k)) rest_pieces (strip_lands k s at)
            (subst (λ (a : ℕ). AllLand f a rest_pieces) (sym end) rest.0),
        end_append (base + block_offset ts fs k) (pieces_of_strip s (form_at fs k)) rest_pieces
            ∙ ap (λ (a : ℕ). end_from a rest_pieces) end ∙ rest.1,
      )
    where
      both : (k : ℕ) (s : Strip) → slice_get ss k ≡ Some s → pieces_of (drop k ss) (drop k fs) ≡ pieces_of_strip s
          (form_at fs k) ++ pieces_of (drop (suc k) ss) (drop (suc k) fs)
      both k s at =
          let within = slice_get_within ss k s at in
          let x = drop-cons ss k s within in
          let y = drop-cons fs k form.Plain (omega (arith, within, len)) in
          let g = get_or_from_slice_get ss k s s at in
          ap (λ (l : List Strip). pieces_of l (drop k fs)) x ∙ ap (λ (l : List Form).
          pieces_of (get_or ss k s ∷ drop (suc k) ss) l) y
          ∙ ap (λ (z : Strip). pieces_of_strip z (form_at fs k) ++ pieces_of (drop (suc k) ss) (drop (suc k) fs)) g

  pub all_land : AllLand f base (pieces_of ss fs)
  all_land =
      let r = lands_from (length ss) 0 (zero-add (length ss)) in
      subst (λ (a : ℕ). AllLand f a (pieces_of ss fs)) (let z : base + 0 ≡ base = omega arith in z) r.0

  pub all_end : end_from base (pieces_of ss fs) ≡ base + block_offset ts fs (length ss)
  all_end =
      let r = lands_from (length ss) 0 (zero-add (length ss)) in
      subst (λ (a : ℕ). end_from a (pieces_of ss fs) ≡ base + block_offset ts fs (length ss))
      (let z : base + 0 ≡ base = omega arith in z) r.1
