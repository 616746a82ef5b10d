-- Blocks that are near each other can reach each other.
use Rattle.std.proofs.Common.{◌≡◌, ℕ, zero, suc, ◌+◌, ◌-◌, ◌<◌, ◌≤◌, ◌^◌, List, [], ◌∷◌, ◌++◌, length, take, drop, Option, Some}
use Rattle.std.proofs.Common.{true, refl, sym, ap, ◌∙◌, arith, inl, inr, ◌⊎◌, get_or}
use Rattle.std.specs.Prelude.{slice_get, Contains, Any, IsSomeAnd, sum_by, nat_lt, nat_le}
use Rattle.std.specs.Option.{option_map_or}
use Rattle.std.proofs.lemmas.Bool.{and_parts, leb-true, ltb-true, cases_lt}
use Rattle.std.proofs.lemmas.List.Sums.{sum_by-append, sum_by-cons}
use Rattle.std.proofs.lemmas.Option.{slice_get_within, get_or_from_slice_get}
use Rattle.rv_code.specs.declared.layout.Form.{Form}
use Rattle.rv_code.specs.declared.placed.Placed.{Placed}
use Rattle.rv_code.specs.declared.placed.Block.{Block}
use Rattle.rv_code.specs.layout.ProgramCode.{ProgramCode, is_code_address}
use Rattle.rv_code.specs.layout.Blocks.{AreBlocks}
use Rattle.rv_code.specs.layout.FunctionLists.{AreLaidOut}
use Rattle.rv_code.specs.layout.Flow.{target_of}
use Rattle.rv_code.specs.layout.WorstSizes.{worst_size_of_block}
use Rattle.rv_code.specs.layout.BlockOrders.{HasAllBlocks}
use Rattle.addr_map.specs.Spans.{new}
use Rattle.branch_fixup.specs.declared.growth.BlockEnd.{BlockEnd}
use Rattle.branch_fixup.specs.Ends.{AreEnds, IsAt, begins_of}
use Rattle.branch_fixup.specs.Growth.{form_at, end_at, block_offset}
use Rattle.branch_fixup.specs.Inputs.{AreNear, BlockHolds, BlockLeads, block_in, worst_between, worst_total}
use Rattle.branch_fixup.specs.Pieces.{piece_length}
use Rattle.branch_fixup.specs.Distances.{reaches}
use Rattle.branch_fixup.specs.Strips.{Strip, first_in, insts_in, spans_of, strips_of}
use Rattle.branch_fixup.proofs.Bridge.{AreBlockEndsOf}
use Rattle.rv_code.proofs.lists.Follows.{before_of}
use Rattle.branch_fixup.proofs.Grown.{reach_if}
use Rattle.branch_fixup.proofs.Holders.{Held, held}
use Rattle.branch_fixup.proofs.Lists.{at_drop, take_one_more}
use Rattle.branch_fixup.proofs.Placed.{AreStrips, address_at, are_strips, upto_last}
use Rattle.branch_fixup.proofs.Planned.{Planned, planned, planned_length}
use Rattle.branch_fixup.proofs.Sizes.{strip_within}
use Rattle.branch_fixup.proofs.BlockEndFacts.{IsOfTable, block_ends_of}
use Rattle.branch_fixup.proofs.BlockEndsFound.{at_by}
use Rattle.rb_bytes.proofs.ListLemmas.{slice_get_found}

-- moving both ends by the same distance doesn't change whether it reaches
pub shift_reach : (reach p t from to first a : ℕ) → from + first ≡ a + p → to + first ≡ a + t → reaches reach p t ≡ true →
    reaches reach from to ≡ true
shift_reach reach p t from to first a e f h =
    let x = and_parts (nat_lt t (p + reach)) (nat_le p (t + reach)) h in
    let far = ltb-true t (p + reach) x.0 in
    let back = leb-true p (t + reach) x.1 in
    reach_if reach from to (omega (arith, e, f, far)) (omega (arith, e, f, back))

-- two addresses in a stretch of 1,000,000 bytes
in_stretch : (low high from to : ℕ) → high ≤ low + 1000000 → low ≤ from → from ≤ high → low ≤ to → to ≤ high →
    reaches (2 ^ 20) from to ≡ true
in_stretch low high from to h a b c d = reach_if (2 ^ 20) from to (omega (arith, h, a, b, c, d)) (omega (arith, h, a, b, c, d))

module _ (code : ProgramCode) (blocks : List Block) (order : List ℕ) (laid : AreLaidOut code.funcs)
    (are : AreBlocks code blocks) (perm : HasAllBlocks blocks order) (ts : List BlockEnd) (zs : List Form)
    (ends : AreEnds (strips_of code.funcs blocks order) (length (strips_of code.funcs blocks order)) ts zs)
    (fs : List Form) (base : ℕ) (len : length fs ≡ length (strips_of code.funcs blocks order))
    (table : (k : ℕ) (s : Strip) → slice_get (strips_of code.funcs blocks order) k ≡ Some s →
    IsOfTable s (begins_of (strips_of code.funcs blocks order) (k + 1)) (form_at fs k)) where
  abbrev ss : List Strip
  ss = strips_of code.funcs blocks order

  abbrev f : ℕ → ℕ
  f = new (spans_of ss base fs)

  abbrev worst : ℕ → ℕ
  worst k = option_map_or (worst_size_of_block code.funcs) (slice_get blocks k) 0

  strips : AreStrips ss
  strips = are_strips code blocks order laid are perm

  block_ends : AreBlockEndsOf ts ss
  block_ends = block_ends_of ss strips ts zs ends

  place_step : (k m : ℕ) → slice_get order k ≡ Some m → k < length ss →
      block_offset ts fs (suc k) ≤ block_offset ts fs k + worst m
  place_step k m at_m within =
      let (s, at) = slice_get_found ss k within in
      let plan = planned code blocks are order perm k s at in
      let same_m : plan.m ≡ m = (let e : Some plan.m ≡ Some m = sym plan.place ∙ at_m in cc) in
      let w : worst m ≡ worst_size_of_block code.funcs plan.b = ap worst (sym same_m)
      ∙ ap (λ (o : Option Block). option_map_or (worst_size_of_block code.funcs) o 0) plan.block in
      let size = strip_within code plan.b s laid plan.of (begins_of ss (k + 1)) (form_at fs k) (table k s at) in
      let same : get_or ss k s ≡ s = get_or_from_slice_get ss k s s at in
      let before = block_ends.before k s within ∙ ap (λ (z : Strip). before_of z.inner) same in
      let length_is : piece_length (end_at ts k).len (form_at fs k) ≡ piece_length s.last.len (form_at fs k) =
      ap (λ (n : ℕ). piece_length n (form_at fs k)) (block_ends.len k s within ∙ ap (λ (z : Strip). z.last.len) same) in
      omega (arith, w, size, before, length_is)

  pub places_between : (n i : ℕ) → i + n ≤ length ss → block_offset ts fs (i + n) ≤ block_offset ts fs i + worst_total code.funcs
      blocks (take n (drop i order))
  places_between zero i h = let e : block_offset ts fs (i + 0) ≡ block_offset ts fs i =
      ap (block_offset ts fs) (let z : i + 0 ≡ i = omega arith in z) in omega (arith, e)
  places_between (suc n) i h =
      let olen = planned_length code blocks are order perm in
      let (m, at_m) = slice_get_found order (i + n) (omega (arith, h, olen)) in
      let rest = places_between n i (omega (arith, h)) in
      let step = place_step (i + n) m at_m (omega (arith, h)) in
      let e : block_offset ts fs (i + suc n) ≡ block_offset ts fs (suc (i + n)) = ap (block_offset ts fs)
      (let z : i + suc n ≡ suc (i + n) = omega arith in z) in
      let more : take (suc n) (drop i order) ≡ take n (drop i order) ++ m ∷ [] =
      take_one_more n (drop i order) m (at_drop i order n (i + n) refl ∙ at_m) in
      let sum = ap (sum_by worst) more ∙ sum_by-append worst (take n (drop i order)) (m ∷ []) in
      let one = sum_by-cons worst m [] in
      omega (arith, rest, step, e, sum, one)

  pub between : (i j : ℕ) → i ≤ j → j < length ss → block_offset ts fs (suc j) ≤ block_offset ts fs i + worst_between code.funcs
      blocks order i j
  between i j h within =
      let p = places_between (j + 1 - i) i (omega (arith, h, within)) in
      let e : block_offset ts fs (i + (j + 1 - i)) ≡ block_offset ts fs (suc j) = ap (block_offset ts fs)
      (let z : i + (j + 1 - i) ≡ suc j = omega (arith, h) in z) in
      omega (arith, p, e)

  rising : (n i : ℕ) → block_offset ts fs i ≤ block_offset ts fs (i + n)
  rising zero i = let e : block_offset ts fs (i + 0) ≡ block_offset ts fs i = ap (block_offset ts fs)
      (let z : i + 0 ≡ i = omega arith in z) in omega (arith, e)
  rising (suc n) i =
      let rest = rising n i in
      let e : block_offset ts fs (i + suc n) ≡ block_offset ts fs (suc (i + n)) = ap (block_offset ts fs)
      (let z : i + suc n ≡ suc (i + n) = omega arith in z) in
      omega (arith, rest, e)

  rises : (i j : ℕ) → i ≤ j → block_offset ts fs i ≤ block_offset ts fs j
  rises i j h = let r = rising (j - i) i in let e : block_offset ts fs (i + (j - i)) ≡ block_offset ts fs j =
      ap (block_offset ts fs) (let z : i + (j - i) ≡ j = omega (arith, h) in z) in omega (arith, r, e)

  -- an address of the new code in the k-th block
  pub record In (k from : ℕ) : Type 0 where
    pub within : k < length ss
    pub low : base + block_offset ts fs k ≤ from
    pub high : from ≤ base + block_offset ts fs (suc k)

  -- the block of a code address
  pub record Found (a : ℕ) : Type 0 where
    pub j : ℕ
    pub t : Strip
    pub q : Placed
    pub at : slice_get ss j ≡ Some t
    pub plan : Planned code blocks order j t
    pub has : Contains (insts_in t) q
    pub addr : q.addr ≡ a
    pub inside : In j (f a)

  pub found : (a : ℕ) → is_code_address code.funcs a ≡ true → Found a
  found a is =
      let h : Held code blocks laid are order perm a = held code blocks laid are order perm a is in
      let within = slice_get_within ss h.j h.s h.at in
      let u = upto_last h.s (strips.each h.j h.s h.at) h.p h.has in
      let u0 = u.0 in
      let u1 = u.1 in
      let addr = h.addr in
      let offset : ℕ = a - first_in h.s.inner h.s.last in
      let here : IsAt ss h.j offset a = at_by ss h.j h.j offset a h.s h.p h.at refl (omega (arith, u1, addr)) h.has h.addr in
      let e = address_at ts ss fs base strips block_ends len h.j offset a here in
      let b = (ends.are_block_ends h.j h.s within h.at).before in
      record {
        j = h.j;
        t = h.s;
        q = h.p;
        at = h.at;
        plan = h.plan;
        has = h.has;
        addr = h.addr;
        inside = record { within = within; low = omega (arith, e); high = omega (arith, e, b, u0, addr) };
      }

  module _ (near : AreNear code.funcs blocks order) where
    leads : (k : ℕ) (s : Strip) (a : ℕ) → Planned code blocks order k s →
        ((s.fall ≡ Some a) ⊎ Any (λ p. target_of p ≡ Some a) (insts_in s)) →
        IsSomeAnd (block_in blocks order k) (λ b. BlockLeads code.funcs b a)
    leads k s a plan h = rw (plan.place, plan.block, plan.of.strip_is) h

    holds : (k : ℕ) (s : Strip) (a : ℕ) → Planned code blocks order k s → Any (λ p. p.addr ≡ a) (insts_in s) →
        IsSomeAnd (block_in blocks order k) (λ b. BlockHolds code.funcs b a)
    holds k s a plan h = rw (plan.place, plan.block, plan.of.strip_is) h

    -- A JAL in a block reaches each address to which the block leads.
    pub near_reach : (k : ℕ) (s : Strip) (a from : ℕ) → slice_get ss k ≡ Some s →
        ((s.fall ≡ Some a) ⊎ Any (λ p. target_of p ≡ Some a) (insts_in s)) → is_code_address code.funcs a ≡ true →
        In k from → reaches (2 ^ 20) from (f a) ≡ true
    near_reach k s a from at lead is here =
        let to = found a is in
        let x = leads k s a (planned code blocks are order perm k s at) lead in
        let y = holds to.j to.t a to.plan (to.has.0, to.q, to.has.1, to.has.2, to.addr) in
        let l1 = here.low in
        let h1 = here.high in
        let l2 = to.inside.low in
        let h2 = to.inside.high in
        elim (cases_lt k to.j) [
          | inl less ↦
              let n = near.ahead k to.j a (omega (arith, less)) x y in
              let b = between k to.j (omega (arith, less)) to.inside.within in
              let r = rises k to.j (omega (arith, less)) in
              let r2 = rises (suc k) (suc to.j) (omega (arith, less)) in
              in_stretch (base + block_offset ts fs k) (base + block_offset ts fs (suc to.j)) from (f a) (omega (arith, n, b)) l1
              (omega (arith, h1, r2)) (omega (arith, l2, r)) h2
          | inr more ↦
              let n = near.back k to.j a more x y in
              let b = between to.j k more here.within in
              let r = rises to.j k more in
              let r2 = rises (suc to.j) (suc k) (omega (arith, more)) in
              in_stretch (base + block_offset ts fs to.j) (base + block_offset ts fs (suc k)) from (f a) (omega (arith, n, b))
              (omega (arith, l1, r)) h1 l2 (omega (arith, h2, r2))
        ]
