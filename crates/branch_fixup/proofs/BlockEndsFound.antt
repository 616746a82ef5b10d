-- Block ends, from the addresses that were looked up.
use Rattle.std.proofs.Common.{◌≡◌, ℕ, ◌+◌, ◌-◌, ◌<◌, ◌≤◌, List, [], ◌∷◌, ◌++◌, length, map, Option, Some, None, Bool, true, false}
use Rattle.std.proofs.Common.{refl, sym, ap, ◌∙◌, subst, arith, inl, inr}
use Rattle.std.specs.Prelude.{slice_get, slice_index, Contains, ◌&&◌, if◌then◌else◌, unwrap_or}
use Rattle.std.proofs.lemmas.Bool.{and_parts, cases_lt}
use Rattle.std.proofs.lemmas.List.{get_or_append_left, get_or-append_right, length-append}
use Rattle.std.proofs.lemmas.List.Elements.{All-contains}
use Rattle.std.proofs.lemmas.Option.{slice_get_within, get_or_from_slice_get}
use Rattle.rb_bytes.proofs.ListLemmas.{contains_at}
use Rattle.rv_code.specs.declared.layout.Form.{Form}
use Rattle.rv_code.specs.declared.layout.Form.TheVariants as form
use Rattle.rv_code.specs.declared.placed.Placed.{Placed}
use Rattle.rv_code.specs.declared.placed.Func.{Func}
use Rattle.rv_code.specs.declared.placed.Block.{Block}
use Rattle.rv_code.specs.layout.ProgramCode.{ProgramCode, is_code_address}
use Rattle.rv_code.specs.layout.Blocks.{AreBlocks, block_start}
use Rattle.rv_code.specs.layout.FunctionLists.{AreLaidOut}
use Rattle.rv_code.specs.layout.Flow.{insts_of, target_of, falls_at}
use Rattle.rv_code.specs.layout.BlockOrders.{HasAllBlocks}
use Rattle.rv_code.proofs.lists.Follows.{follow_at, at_contains}
use Rattle.branch_fixup.specs.declared.growth.BlockEnd.{BlockEnd}
use Rattle.branch_fixup.specs.Endings.{fall_of}
use Rattle.branch_fixup.specs.Ends.{IsAt, IsBlockEnd, IsShortest, AreEnds, lead_of, begins_of}
use Rattle.branch_fixup.specs.Growth.{end_at, form_at}
use Rattle.branch_fixup.specs.Inputs.{AreDirect, LeadsToCode}
use Rattle.branch_fixup.specs.Lookup.{ArePlaces, Finds, IsHolder}
use Rattle.branch_fixup.specs.Strips.{Strip, strips_of, insts_in, first_in}
use Rattle.branch_fixup.proofs.Falls.{code_there}
use Rattle.branch_fixup.proofs.Holders.{first_there, last_there, held, Held, holds, start_is}
use Rattle.branch_fixup.proofs.Lists.{flat_at}
use Rattle.branch_fixup.proofs.Planned.{StripOf, in_block, planned, strip_follows}

-- A strip's instructions are code.

pub strip_code : (code : ProgramCode) (b : Block) (s : Strip) → StripOf code b s → (p : Placed) →
    Contains (insts_in s) p → Contains (insts_of code.funcs) p
strip_code code b s x p has =
    let i = in_block code b s x p has in
    flat_at (λ (f : Func). f.insts.items) code.funcs b.func x.func p x.at (at_contains x.func.insts.items i.i p i.at)

pub strip_address : (code : ProgramCode) (b : Block) (s : Strip) → StripOf code b s → (p : Placed) →
    Contains (insts_in s) p → is_code_address code.funcs p.addr ≡ true
strip_address code b s x p has = let i = in_block code b s x p has in code_there code.funcs b.func i.i x.func p x.at i.at

pub fall_code : (funcs : List Func) (func : Func) (i : ℕ) (p : Placed) (a : ℕ) → fall_of funcs func i p ≡ Some a →
    (is_code_address funcs a ≡ true) × (a ≡ p.addr + p.len)
fall_code funcs func i p a h = by (falls_at func i p && is_code_address funcs (p.addr + p.len)) refl h
  where
    by : (b : Bool) → falls_at func i p && is_code_address funcs (p.addr + p.len) ≡ b →
        (if b then Some (p.addr + p.len) else None) ≡ Some a → (is_code_address funcs a ≡ true) × (a ≡ p.addr + p.len)
    by true e k =
        let same : p.addr + p.len ≡ a = cc in (
          subst (λ (x : ℕ). is_code_address funcs x ≡ true) same (and_parts (falls_at func i p)
              (is_code_address funcs (p.addr + p.len)) e).1,
          sym same,
        )
    by false e k = absurd (cc)

pub target_code : (funcs : List Func) → AreDirect funcs → (p : Placed) → Contains (insts_of funcs) p → (a : ℕ) →
    target_of p ≡ Some a → is_code_address funcs a ≡ true
target_code funcs direct p has a is = (All-contains (LeadsToCode funcs) (insts_of funcs) p direct.lead has).to_code a is

pub strip_target : (code : ProgramCode) (b : Block) (s : Strip) → AreDirect code.funcs → StripOf code b s →
    (p : Placed) → Contains (insts_in s) p → (a : ℕ) → target_of p ≡ Some a → is_code_address code.funcs a ≡ true
strip_target code b s direct x p has a is = target_code code.funcs direct p (strip_code code b s x p has) a is

pub strip_fall : (code : ProgramCode) (b : Block) (s : Strip) → StripOf code b s → (a : ℕ) → s.fall ≡ Some a →
    (is_code_address code.funcs a ≡ true) × (a ≡ s.last.addr + s.last.len)
strip_fall code b s x a is = fall_code code.funcs x.func b.last s.last a (sym x.fall_is ∙ is)

pub lead_code : (code : ProgramCode) (b : Block) (s : Strip) → AreDirect code.funcs → StripOf code b s →
    (f : Form) (a : ℕ) → lead_of s f ≡ Some a → is_code_address code.funcs a ≡ true
lead_code code b s direct x (form.Branch true size jump) a is = (strip_fall code b s x a is).0
lead_code code b s direct x (form.Branch false size jump) a is = strip_target code b s direct x s.last (last_there s) a is
lead_code code b s direct x (form.Goto half) a is = strip_target code b s direct x s.last (last_there s) a is
lead_code code b s direct x form.Plain a is = absurd (cc)
lead_code code b s direct x form.Jump a is = absurd (cc)
lead_code code b s direct x form.Dropped a is = absurd (cc)

pub last_after : (code : ProgramCode) (b : Block) (s : Strip) → AreLaidOut code.funcs → StripOf code b s →
    (p : Placed) → Contains (insts_in s) p → (first_in s.inner s.last ≤ p.addr) ×
    (p.addr + p.len ≤ s.last.addr + s.last.len)
last_after code b s laid x p has =
    let (k, at) = contains_at (insts_in s) p has in
    follow_at (first_in s.inner s.last) (insts_in s) (s.last.addr + s.last.len) k p (strip_follows code b s laid x) at

-- The result of a look-up.

pub at_by : (ss : List Strip) (to j offset a : ℕ) (s : Strip) (p : Placed) → slice_get ss j ≡ Some s → to ≡ j →
    first_in s.inner s.last + offset ≡ a → Contains (insts_in s) p → p.addr ≡ a → IsAt ss to offset a
at_by ss to j offset a s p at e sum has addr =
    rw (e, at) (sum, (has.0, p, has.1, has.2, addr))

module _ (code : ProgramCode) (blocks : List Block) (laid : AreLaidOut code.funcs) (are : AreBlocks code blocks)
    (order : List ℕ) (perm : HasAllBlocks blocks order) where
  pub found : (places : List ℕ) → ArePlaces order places → (a to offset : ℕ) →
      Finds (map (block_start code.funcs) blocks) places a to offset → is_code_address code.funcs a ≡ true →
      IsAt (strips_of code.funcs blocks order) to offset a
  found places are_places a to offset finds is =
      let h : Held code blocks laid are order perm a = held code blocks laid are order perm a is in
      let b = h.plan.b in
      let x = h.plan.of in
      let low = (last_after code b h.s laid x h.p h.has).0 in
      let holder : IsHolder (map (block_start code.funcs) blocks) a h.plan.m =
      subst (λ (z : ℕ). IsHolder (map (block_start code.funcs) blocks) z h.plan.m) h.addr
      (holds code blocks laid are h.plan.m b h.s h.plan.block x h.p h.has low) in
      let f = finds h.plan.m holder in
      let within = slice_get_within order h.j h.plan.m h.plan.place in
      let place : slice_index order h.j ≡ h.plan.m = get_or_from_slice_get order h.j h.plan.m 0 h.plan.place in
      let back : slice_index places h.plan.m ≡ h.j = ap (slice_index places) (sym place) ∙ are_places h.j within in
      let start = start_is code blocks laid are h.plan.m 0 b h.s h.plan.block x in
      let offset_is = f.1 in
      let addr = h.addr in
      at_by (strips_of code.funcs blocks order) to h.j offset a h.s h.p h.at (f.0 ∙ back)
      (omega (arith, offset_is, start, low, addr)) h.has h.addr

  -- the block end that `ends` makes
  pub block_end_made : (direct : AreDirect code.funcs) (places : List ℕ) → ArePlaces order places →
      (k : ℕ) (s : Strip) (f : Form) (a start to offset before len : ℕ) →
      slice_get (strips_of code.funcs blocks order) k ≡ Some s → start ≡ first_in s.inner s.last →
      a ≡ unwrap_or (lead_of s f) start → Finds (map (block_start code.funcs) blocks) places a to offset →
      before ≡ s.last.addr - start → len ≡ s.last.len → IsBlockEnd (strips_of code.funcs blocks order) s (lead_of s f)
      (record { before = before; len = len; to = to; offset = offset })
  block_end_made direct places are_places k s f a start to offset before len at start_is a_is finds before_is len_is =
      let plan = planned code blocks are order perm k s at in
      let low = (last_after code plan.b s laid plan.of s.last (last_there s)).0 in
      record {
        before = omega (arith, before_is, low, start_is);
        len = len_is;
        leads = λ t is. found places are_places t to offset (subst (λ (z : ℕ).
            Finds (map (block_start code.funcs) blocks) places z to offset)
            (a_is ∙ ap (λ (o : Option ℕ). unwrap_or o start) is) finds) (lead_code code plan.b s direct plan.of f t is);
        to_itself = λ none.
            let (p, has, first) = first_there s.inner s.last in
            found places are_places (first_in s.inner s.last) to offset
            (subst (λ (z : ℕ). Finds (map (block_start code.funcs) blocks) places z to offset)
            (a_is ∙ ap (λ (o : Option ℕ). unwrap_or o start) none ∙ start_is) finds)
            (subst (λ (z : ℕ). is_code_address code.funcs z ≡ true) first (strip_address code plan.b s plan.of p has));
      }

-- one more block
pub ends_more : (ss : List Strip) (k : ℕ) (ts us : List BlockEnd) (fs gs : List Form) (s : Strip) (t : BlockEnd) (f : Form) →
    AreEnds ss k ts fs → slice_get ss k ≡ Some s → IsShortest s (begins_of ss (k + 1)) f → IsBlockEnd ss s (lead_of s f) t →
    us ≡ ts ++ t ∷ [] → gs ≡ fs ++ f ∷ [] → AreEnds ss (k + 1) us gs
ends_more ss k ts us fs gs s t f old at shortest block_end us_is gs_is =
    let lt = old.block_ends in
    let lf = old.forms in
    let lu = ap length us_is in
    let lg = ap length gs_is in
    record {
      block_ends = omega (arith, lt, lu, length-append ts (t ∷ []));
      forms = omega (arith, lf, lg, length-append fs (f ∷ []));
      shortest = shortest_at;
      are_block_ends = block_end_here;
    }
  where
    form_old : (j : ℕ) → j < k → form_at gs j ≡ form_at fs j
    form_old j less = ap (λ (l : List Form). form_at l j) gs_is ∙ get_or_append_left fs (f ∷ []) form.Plain j
        (let lf = old.forms in omega (arith, lf, less))

    form_new : form_at gs k ≡ f
    form_new =
        let zero_is : k - k ≡ 0 = omega arith in
        ap (λ (l : List Form). form_at l k) gs_is ∙ get_or-append_right fs (f ∷ []) k k form.Plain old.forms
        (omega arith) ∙ ap (λ (j : ℕ). form_at (f ∷ []) j) zero_is

    block_end_old : (j : ℕ) → j < k → end_at us j ≡ end_at ts j
    block_end_old j less = ap (λ (l : List BlockEnd). end_at l j) us_is ∙ get_or_append_left ts (t ∷ [])
        (record { before = 0; len = 0; to = 0; offset = 0 }) j (let lt = old.block_ends in omega (arith, lt, less))

    block_end_new : end_at us k ≡ t
    block_end_new =
        let zero_is : k - k ≡ 0 = omega arith in
        ap (λ (l : List BlockEnd). end_at l k) us_is ∙ get_or-append_right ts (t ∷ []) k k
        (record { before = 0; len = 0; to = 0; offset = 0 }) old.block_ends (omega arith)
        ∙ ap (λ (j : ℕ). end_at (t ∷ []) j) zero_is

    some_strip : (x y : Strip) → Some x ≡ Some y → x ≡ y
    some_strip x y h = cc

    shortest_at : (j : ℕ) (x : Strip) → j < k + 1 → slice_get ss j ≡ Some x → IsShortest x (begins_of ss (j + 1)) (form_at gs j)
    shortest_at j x less at_j = elim (cases_lt j k) [
      | inl before ↦ subst (λ (g : Form). IsShortest x (begins_of ss (j + 1)) g) (sym (form_old j before))
          (old.shortest j x before at_j)
      | inr not_before ↦
          let e : k ≡ j = omega (arith, less, not_before) in
          let same : s ≡ x = some_strip s x (sym at ∙ ap (slice_get ss) e ∙ at_j) in
          subst (λ (i : ℕ). IsShortest x (begins_of ss (i + 1)) (form_at gs i)) e
          (subst (λ (g : Form). IsShortest x (begins_of ss (k + 1)) g) (sym form_new)
          (subst (λ (y : Strip). IsShortest y (begins_of ss (k + 1)) f) same shortest))
    ]

    block_end_here : (j : ℕ) (x : Strip) → j < k + 1 → slice_get ss j ≡ Some x →
        IsBlockEnd ss x (lead_of x (form_at gs j)) (end_at us j)
    block_end_here j x less at_j = elim (cases_lt j k) [
      | inl before ↦ subst (λ (g : Form). IsBlockEnd ss x (lead_of x g) (end_at us j)) (sym (form_old j before))
          (subst (λ (u : BlockEnd). IsBlockEnd ss x (lead_of x (form_at fs j)) u) (sym (block_end_old j before))
          (old.are_block_ends j x before at_j))
      | inr not_before ↦
          let e : k ≡ j = omega (arith, less, not_before) in
          let same : s ≡ x = some_strip s x (sym at ∙ ap (slice_get ss) e ∙ at_j) in
          subst (λ (i : ℕ). IsBlockEnd ss x (lead_of x (form_at gs i)) (end_at us i)) e
          (subst (λ (g : Form). IsBlockEnd ss x (lead_of x g) (end_at us k)) (sym form_new)
          (subst (λ (u : BlockEnd). IsBlockEnd ss x (lead_of x f) u) (sym block_end_new)
          (subst (λ (y : Strip). IsBlockEnd ss y (lead_of y f) t) same block_end)))
    ]
