-- The block of a plan that contains an address.
use Rattle.std.proofs.Common.{◌≡◌, ℕ, ◌+◌, ◌<◌, ◌≤◌, List, [], ◌∷◌, ◌++◌, length, map, Some, None, true, refl, sym, ap, ◌∙◌}
use Rattle.std.proofs.Common.{subst, arith, inl, inr, get_or, zero, suc, ◌-◌, take, drop, Option}
use Rattle.std.specs.Prelude.{slice_get, slice_index, Contains, AllPairs, option_map}
use Rattle.std.specs.Option.{option_map_or}
use Rattle.std.proofs.lemmas.List.{length-map}
use Rattle.std.proofs.lemmas.List.Elements.{Contains-push}
use Rattle.std.proofs.lemmas.Option.{slice_get_within, get_or_from_slice_get, slice_get-get_or, slice_get-map, slice_get_past, same_Some}
use Rattle.rv_code.specs.declared.placed.Placed.{Placed}
use Rattle.rv_code.specs.declared.placed.Func.{Func}
use Rattle.rv_code.specs.declared.placed.Block.{Block}
use Rattle.rv_code.specs.layout.ProgramCode.{ProgramCode, is_code_address, program_code}
use Rattle.rv_code.specs.layout.Blocks.{AreBlocks, block_start}
use Rattle.rv_code.specs.layout.FunctionLists.{AreLaidOut}
use Rattle.rv_code.specs.layout.BlockOrders.{HasAllBlocks}
use Rattle.branch_fixup.specs.Ends.{begins_of}
use Rattle.branch_fixup.specs.Inputs.{AreBlocksOf}
use Rattle.branch_fixup.specs.Lookup.{IsHolder}
use Rattle.branch_fixup.specs.Strips.{Strip, strip_of, strips_of, insts_in, first_in}
use Rattle.branch_fixup.proofs.Covered.{block_of, covers, blocks_apart}
use Rattle.branch_fixup.proofs.Falls.{code_at}
use Rattle.rv_code.proofs.lists.Follows.{follow_at, follow_up, laid_func, some_length, funcs_apart}
use Rattle.branch_fixup.proofs.Orders.{order_within, order_has}
use Rattle.branch_fixup.proofs.Planned.{StripOf, strip_for, in_block, block_in_insts, Planned, planned_length, planned_at, strip_length}
use Rattle.rb_bytes.proofs.ListLemmas.{slice_get_found}

pub first_there : (inner : List Placed) (last : Placed) → (p : Placed) × Contains (inner ++ last ∷ []) p ×
    (p.addr ≡ first_in inner last)
first_there [] last = (last, (0, omega arith, refl), refl)
first_there (p ∷ ps) last = (p, (0, omega arith, refl), refl)

pub last_there : (s : Strip) → Contains (insts_in s) s.last
last_there s = Contains-push s.inner s.last

-- the instructions of a block come before the instructions of later blocks of the list
pub blocks_up : (code : ProgramCode) (blocks : List Block) (m n : ℕ) (b c : Block) (s t : Strip) →
    AreLaidOut code.funcs → AreBlocks code blocks → StripOf code b s → StripOf code c t → slice_get blocks m ≡ Some b →
    slice_get blocks n ≡ Some c → m < n → (p q : Placed) → Contains (insts_in s) p → Contains (insts_in t) q →
    p.addr + p.len ≤ q.addr
blocks_up code blocks m n b c s t laid are x y at_m at_n less p q has_p has_q =
    let i = in_block code b s x p has_p in
    let j = in_block code c t y q has_q in
    let lx = laid_func code.funcs b.func x.func laid x.at in
    let ly = laid_func code.funcs c.func y.func laid y.at in
    elim (blocks_apart code blocks m n b c are at_m at_n less) [
      | inl func ↦
          let d = funcs_apart code.funcs b.func c.func x.func y.func laid x.at y.at func in
          let u = (follow_at x.func.start x.func.insts.items x.func.end i.i p lx.follow i.at).1 in
          let v = (follow_at y.func.start y.func.insts.items y.func.end j.i q ly.follow j.at).0 in
          omega (arith, d, u, v)
      | inr in_one ↦
          let same : y.func ≡ x.func = same_Some y.func x.func (sym y.at ∙ ap (slice_get code.funcs) (sym in_one.0) ∙ x.at) in
          let apart = in_one.1 in
          let high = i.high in
          let low = j.low in
          follow_up x.func.start x.func.insts.items x.func.end i.i j.i p q lx.follow i.at
          (subst (λ (z : Func). slice_get z.insts.items j.i ≡ Some q) same j.at) (omega (arith, apart, high, low))
    ]

-- the first of the instructions from one index to another
first_inst : (ps : List Placed) (i n : ℕ) (last : Placed) → slice_get ps (i + n) ≡ Some last →
    option_map_or (λ p. p.addr) (slice_get ps i) 0 ≡ first_in (take n (drop i ps)) last
first_inst [] i n last at = absurd (nothing last at)
  where
    nothing : (p : Placed) → None ≡ Some p → ⊥
    nothing p h = cc
first_inst (p ∷ ps) zero zero last at = ap (λ (q : Placed). q.addr) (same_Some p last at)
first_inst (p ∷ ps) zero (suc n) last at = refl
first_inst (p ∷ ps) (suc i) n last at =
    let next : suc i + n ≡ suc (i + n) = omega arith in
    first_inst ps i n last (subst (λ (k : ℕ). slice_get (p ∷ ps) k ≡ Some last) next at)

start_in_strip : (code : ProgramCode) (b : Block) (s : Strip) → StripOf code b s →
    block_start code.funcs b ≡ first_in s.inner s.last
start_in_strip code b s x =
    let upto = x.is.some in
    let index : b.first + (b.last - b.first) ≡ b.last = omega (arith, upto) in
    let at = subst (λ (k : ℕ). slice_get x.func.insts.items k ≡ Some s.last) (sym index) x.last_at in
    ap (λ (o : Option Func). option_map_or (λ func. option_map_or (λ p. p.addr) (slice_get func.insts.items b.first) 0) o 0) x.at
    ∙ first_inst x.func.insts.items b.first (b.last - b.first) s.last at
    ∙ ap (λ (inner : List Placed). first_in inner s.last) (sym x.inner_is)

module _ (code : ProgramCode) (blocks : List Block) (laid : AreLaidOut code.funcs) (are : AreBlocks code blocks) where
  abbrev starts : List ℕ
  starts = map (block_start code.funcs) blocks

  pub starts_length : length starts ≡ length blocks
  starts_length = length-map blocks (block_start code.funcs)

  pub start_is : (m d : ℕ) (b : Block) (s : Strip) → slice_get blocks m ≡ Some b → StripOf code b s →
      get_or starts m d ≡ first_in s.inner s.last
  start_is m d b s at x =
      let e : slice_get starts m ≡ Some (block_start code.funcs b) = slice_get-map (block_start code.funcs) blocks m
      ∙ ap (option_map (block_start code.funcs)) at in
      get_or_from_slice_get starts m (block_start code.funcs b) d e ∙ start_in_strip code b s x

  pub starts_up : AllPairs (λ a b. a < b) starts
  starts_up m n d less within =
      let len = starts_length in
      let (b, at_m) = slice_get_found blocks m (omega (arith, less, within, len)) in
      let (c, at_n) = slice_get_found blocks n (omega (arith, within, len)) in
      let (s, x) = strip_for code b (block_of code blocks m b are at_m) in
      let (t, y) = strip_for code c (block_of code blocks n c are at_n) in
      let (p, has_p, first_p) = first_there s.inner s.last in
      let (q, has_q, first_q) = first_there t.inner t.last in
      let u = blocks_up code blocks m n b c s t laid are x y at_m at_n less p q has_p has_q in
      let l = (some_length p (strip_length code b s laid x p has_p)).0 in
      let e = start_is m d b s at_m x in
      let f = start_is n d c t at_n y in
      omega (arith, u, l, e, f, first_p, first_q)

  -- the start of the block with an instruction is the last one at or below its address
  pub holds : (m : ℕ) (b : Block) (s : Strip) → slice_get blocks m ≡ Some b → StripOf code b s → (p : Placed) →
      Contains (insts_in s) p → first_in s.inner s.last ≤ p.addr → IsHolder starts p.addr m
  holds m b s at x p has_p low =
      let len = starts_length in
      let within = slice_get_within blocks m b at in
      let e = start_is m 0 b s at x in
      record { within = omega (arith, within, len); above = omega (arith, e, low); below = below }
    where
      below : (k : ℕ) → m < k → k < length starts → p.addr < slice_index starts k
      below k less inside =
          let len = starts_length in
          let (c, at_c) = slice_get_found blocks k (omega (arith, inside, len)) in
          let (t, y) = strip_for code c (block_of code blocks k c are at_c) in
          let (q, has_q, first_q) = first_there t.inner t.last in
          let u = blocks_up code blocks m k b c s t laid are x y at at_c less p q has_p has_q in
          let l = (some_length p (strip_length code b s laid x p has_p)).0 in
          let f = start_is k 0 c t at_c y in
          omega (arith, u, l, f, first_q)

  module _ (order : List ℕ) (perm : HasAllBlocks blocks order) where
    abbrev strips : List Strip
    strips = strips_of code.funcs blocks order

    -- the block of a code address in the plan
    pub record Held (a : ℕ) : Type 0 where
      pub j : ℕ
      pub s : Strip
      pub p : Placed
      pub at : slice_get strips j ≡ Some s
      pub plan : Planned code blocks order j s
      pub has : Contains (insts_in s) p
      pub addr : p.addr ≡ a

    pub held : (a : ℕ) → is_code_address code.funcs a ≡ true → Held a
    held a is =
        let c = code_at code.funcs a is in
        let v = covers code blocks are c.f c.i c.func c.at_func (slice_get_within c.func.insts.items c.i c.p c.at_inst) in
        let (j, place) = order_has blocks order perm v.m (slice_get_within blocks v.m v.b v.at) in
        let (s, at, plan) = planned_at code blocks are order perm j v.m place in
        let same_m : plan.m ≡ v.m = same_Some plan.m v.m (sym plan.place ∙ place) in
        let same_b : plan.b ≡ v.b = same_Some plan.b v.b (sym plan.block ∙ ap (slice_get blocks) same_m ∙ v.at) in
        let same_f : plan.of.func ≡ c.func = same_Some plan.of.func c.func
        (sym plan.of.at ∙ ap (λ (z : Block). slice_get code.funcs z.func) same_b ∙ ap (slice_get code.funcs) v.func
        ∙ c.at_func) in
        let first : plan.b.first ≡ v.b.first = ap (λ (z : Block). z.first) same_b in
        let last : plan.b.last ≡ v.b.last = ap (λ (z : Block). z.last) same_b in
        let low = v.low in
        let high = v.high in
        record {
          j = j;
          s = s;
          p = c.p;
          at = at;
          plan = plan;
          has = block_in_insts code plan.b s plan.of c.p c.i (omega (arith, first, low)) (omega (arith, last, high))
              (subst (λ (z : Func). slice_get z.insts.items c.i ≡ Some c.p) (sym same_f) c.at_inst);
          addr = c.addr;
        }

-- the block that the code reads at an index of the plan
pub planned_read : (funcs : List Func) (blocks : List Block) (order : List ℕ) → AreBlocksOf funcs blocks →
    HasAllBlocks blocks order → (k : ℕ) (d : Block) → k < length order → slice_get
    (strips_of funcs blocks order) k ≡ strip_of funcs (get_or blocks (get_or order k 0) d)
planned_read funcs blocks order are perm k d within =
    let code : ProgramCode = program_code funcs are.roles are.cells are.entry in
    let (s, at, plan) = planned_at code blocks are.are order perm k (get_or order k 0) (slice_get-get_or order k 0 within) in
    let same_m : plan.m ≡ get_or order k 0 = same_Some plan.m (get_or order k 0)
    (sym plan.place ∙ slice_get-get_or order k 0 within) in
    let block : get_or blocks (get_or order k 0) d ≡ plan.b = ap (λ (m : ℕ). get_or blocks m d) (sym same_m)
    ∙ get_or_from_slice_get blocks plan.m plan.b d plan.block in
    at ∙ sym plan.of.strip_is ∙ ap (strip_of funcs) (sym block)

pub place_within : (blocks : List Block) (order : List ℕ) → HasAllBlocks blocks order → (k : ℕ) → k < length order →
    get_or order k 0 < length blocks
place_within blocks order perm k within = order_within blocks order perm k (get_or order k 0) (slice_get-get_or order k 0 within)

pub begins_nowhere : (funcs : List Func) (blocks : List Block) (order : List ℕ) → AreBlocksOf funcs blocks →
    HasAllBlocks blocks order → (k : ℕ) → length order ≤ k → None ≡ begins_of (strips_of funcs blocks order) k
begins_nowhere funcs blocks order are perm k past =
    let code : ProgramCode = program_code funcs are.roles are.cells are.entry in
    let len = planned_length code blocks are.are order perm in
    rw (slice_get_past (strips_of funcs blocks order) k (omega (arith, len, past))) refl
