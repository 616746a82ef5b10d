-- Blocks as stretches of instructions that are one after another.
use Rattle.std.proofs.Common.{◌≡◌, ◌⊎◌, ℕ, ◌+◌, ◌-◌, ◌<◌, ◌≤◌, ◌∙◌, Bool, true, false, List, [], ◌∷◌, length, get_or, take, drop, map}
use Rattle.std.proofs.Common.{filter, All, AllPairs, Option, Some, None, arith, inl, inr, refl, sym, ap, subst}
use Rattle.std.specs.Prelude.{◌&&◌, nat_lt, nat_le, slice_get, IsSomeAnd}
use Rattle.std.specs.Option.{option_map_or}
use Rattle.std.specs.List.{list_any}
use Rattle.std.proofs.lemmas.Bool.{cases_lt, ltb-false, ltb-true}
use Rattle.std.proofs.lemmas.Grind.{common_steps}
use Rattle.std.specs.List.Sorted.{IsNonDecreasing, IsNonDecreasingBy, IsPartitionPoint}
use Rattle.std.proofs.lemmas.List.{get_or-drop, get_or-map, get_or_default, get_or-take, length-drop, length-map, length-take}
use Rattle.std.proofs.lemmas.List.Sorted.{IsNonDecreasingBy-drop, IsNonDecreasingBy-take}
use Rattle.std.proofs.lemmas.List.Folds.{list_any_at, list_any_none}
use Rattle.std.proofs.lemmas.List.Elements.{Contains-get_or}
use Rattle.std.proofs.lemmas.Option.{slice_get_within, slice_get-get_or}
use Rattle.rv_code.specs.declared.placed.Block.{Block}
use Rattle.rv_code.specs.declared.placed.Func.{Func}
use Rattle.rv_code.specs.declared.placed.Placed.{Placed}
use Rattle.rv_code.specs.layout.Blocks.{AreBlocks, IsBefore, IsBlock, IsBlockOf, block_start, func_of}
use Rattle.rv_code.specs.layout.FunctionLists.{AreLaidOut, IsLaidOut}
use Rattle.rv_code.specs.layout.ProgramCode.{ProgramCode}
use Rattle.rv_code.specs.layout.FunctionMembers.{IsOfFunction}
use Rattle.rv_code.proofs.lists.Blocks.{blocks_of_functions, no_overlap}
use Rattle.rv_code.proofs.lists.Follows.{funcs_apart, inst_bounds, insts_rise, laid_func}
use Rattle.area_room.specs.EntryNeeds.{has_inst_in}
use Rattle.area_room.specs.Need.{AreBlocksOf}
use Rattle.rb_bytes.proofs.RangeCounts.{AreStretches, IsCounted, below, below_up, count, count-length, count-map, counted, one}

-- a block's instructions in its function
pub record IsPart (funcs : List Func) (b : Block) : Type 0 where
  pub func : Func
  pub of : func_of funcs b ≡ Some func
  pub laid : IsLaidOut func
  pub some : b.first ≤ b.last
  pub inside : b.last < length func.insts.items

-- the address of an instruction by its index
abbrev addr_at : Func → ℕ → Placed → ℕ
addr_at func i d = (get_or func.insts.items i d).addr

some_of : (ps : List Placed) → 0 < length ps → Placed
some_of [] less = absurd (omega (arith, less))
some_of (p ∷ ps) less = p

some_inst : (funcs : List Func) (b : Block) → IsPart funcs b → Placed
some_inst funcs b is = some_of is.func.insts.items (let inside = is.inside in omega (arith, inside))

part_at : {X : Type 0} (xs : List X) (first n k : ℕ) (d : X) → k < n → get_or (take n (drop first xs)) k d ≡ get_or xs (first + k) d
part_at xs first n k d less = get_or-take n (drop first xs) k d less ∙ get_or-drop first xs k d

in_range : (low high a : ℕ) → low ≤ a → a < high → (nat_le low a && nat_lt a high) ≡ true
in_range low high a from to = grind (arith, common_steps)

below_range : (low high a : ℕ) → a < low → (nat_le low a && nat_lt a high) ≡ false
below_range low high a less = grind (arith, common_steps)

above_range : (low high a : ℕ) → high ≤ a → (nat_le low a && nat_lt a high) ≡ false
above_range low high a past = grind (arith, common_steps)

module _ (funcs : List Func) (b : Block) (is : IsPart funcs b) where
  abbrev insts : List Placed
  insts = take (b.last + 1 - b.first) (drop b.first is.func.insts.items)

  count_is : length insts ≡ b.last + 1 - b.first
  count_is =
      let some = is.some in
      let inside = is.inside in
      let a = length-take (b.last + 1 - b.first) (drop b.first is.func.insts.items) in
      let c = length-drop b.first is.func.insts.items in
      omega (arith, a, c, some, inside)

  pub start_is : (d : Placed) → block_start funcs b ≡ addr_at is.func b.first d
  start_is d =
      let some = is.some in
      let inside = is.inside in
      let at = slice_get-get_or is.func.insts.items b.first d (omega (arith, some, inside)) in
      rw (is.of, at) refl

  -- an instruction of the block by its index
  at_place : (k : ℕ) (d : Placed) → k < length insts → (get_or insts k d).addr ≡ addr_at is.func (b.first + k) d
  at_place k d less =
      let n = count_is in
      ap (λ (p : Placed). p.addr) (part_at is.func.insts.items b.first (b.last + 1 - b.first) k d (omega (arith, less, n)))

  -- the first instruction is the lowest
  from_start : (k : ℕ) (d : Placed) → k < length insts → block_start funcs b ≤ (get_or insts k d).addr
  from_start k d less = by (cases_lt 0 k) where
    by : (0 < k) ⊎ (k ≤ 0) → block_start funcs b ≤ (get_or insts k d).addr
    by (inl some) =
        let n = count_is in
        let inside = is.inside in
        let s = start_is d in
        let a = at_place k d less in
        let up = insts_rise is.func is.laid b.first (b.first + k) d (omega (arith, some)) (omega (arith, n, less, inside)) in
        omega (arith, s, a, up)
    by (inr none) =
        let s = start_is d in
        let a = at_place k d less in
        let place : b.first + k ≡ b.first = omega (arith, none) in
        let e = ap (λ (i : ℕ). addr_at is.func i d) place in
        omega (arith, s, a, e)

  module _ (low high : ℕ) where
    abbrev test : Placed → Bool
    test p = nat_le low p.addr && nat_lt p.addr high

    has_is : has_inst_in funcs low high b ≡ list_any test insts
    has_is = rw is.of refl

    pub has_first : low ≤ block_start funcs b → block_start funcs b < high → has_inst_in funcs low high b ≡ true
    has_first from to =
        let some = is.some in
        let inside = is.inside in
        let n = count_is in
        let d : Placed = some_inst funcs b is in
        has_is ∙ list_any_at test insts 0 d (omega (arith, n, some))
        (let s = start_is d in let a = at_place 0 d (omega (arith, n, some)) in
        let place : b.first + 0 ≡ b.first = omega arith in
        let e = ap (λ (i : ℕ). addr_at is.func i d) place in
        in_range low high (get_or insts 0 d).addr (omega (arith, from, s, a, e)) (omega (arith, to, s, a, e)))

    pub has_none_above : high ≤ block_start funcs b → has_inst_in funcs low high b ≡ false
    has_none_above past = has_is ∙ list_any_none test insts (λ k d less.
        let from = from_start k d less in above_range low high (get_or insts k d).addr (omega (arith, from, past)))

    -- a block without an instruction in the range: all of its instructions are below it
    pub has_none_below : ((k : ℕ) (d : Placed) → k < length insts → (get_or insts k d).addr < low) →
        has_inst_in funcs low high b ≡ false
    has_none_below before = has_is ∙ list_any_none test insts (λ k d less.
        below_range low high (get_or insts k d).addr (before k d less))

-- The blocks of a program.

part_of : (code : ProgramCode) (b : Block) → AreLaidOut code.funcs → IsBlock code b → IsPart code.funcs b
part_of code b laid is = by (func_of code.funcs b) refl is where
  by : (found : Option Func) → func_of code.funcs b ≡ found → IsSomeAnd found (λ func. IsBlockOf code func b.first b.last) →
      IsPart code.funcs b
  by None e none = absurd none
  by (Some func) e block = record {
    func = func;
    of = e;
    laid = laid_func code.funcs b.func func laid e;
    some = block.some;
    inside = block.inside;
  }

-- each instruction of an earlier block is before the start of a later block
ends_before : (code : ProgramCode) (b c : Block) → AreLaidOut code.funcs → (is : IsPart code.funcs b) (other : IsPart code.funcs c) →
    IsBlock code b → IsBlock code c → IsBefore b c → (k : ℕ) (d : Placed) → k < length (insts code.funcs b is) →
    (get_or (insts code.funcs b is) k d).addr < block_start code.funcs c
ends_before code b c laid is other block next (inl less) k d within =
    let n = count_is code.funcs b is in
    let inside = is.inside in
    let a = at_place code.funcs b is k d within in
    let s = start_is code.funcs c other d in
    let x = inst_bounds is.func is.laid (b.first + k) d (omega (arith, n, within, inside)) in
    let some = other.some in
    let other_inside = other.inside in
    let y = inst_bounds other.func other.laid c.first d (omega (arith, some, other_inside)) in
    let apart = funcs_apart code.funcs b.func c.func is.func other.func laid is.of other.of less in
    let x1 = x.1 in
    let y0 = y.0 in
    omega (arith, a, s, x1, y0, apart)
ends_before code b c laid is other block next (inr (same, less)) k d within =
    let n = count_is code.funcs b is in
    let a = at_place code.funcs b is k d within in
    let s = start_is code.funcs c other d in
    let last = no_overlap code b c (func_of code.funcs b) less block
    (subst (λ (f : ℕ). IsSomeAnd (slice_get code.funcs f) (λ func. IsBlockOf code func c.first c.last)) (sym same) next) in
    let one : is.func ≡ other.func = some_func (sym is.of ∙ ap (slice_get code.funcs) same ∙ other.of) in
    let some = other.some in
    let other_inside = other.inside in
    let long = ap (λ (f : Func). length f.insts.items) one in
    let up = insts_rise is.func is.laid (b.first + k) c.first d (omega (arith, n, within, last))
    (omega (arith, some, other_inside, long)) in
    let there = ap (λ (f : Func). addr_at f c.first d) one in
    omega (arith, a, s, up, there)
  where
    some_func : Some is.func ≡ Some other.func → is.func ≡ other.func
    some_func h = cc

starts_rise : (code : ProgramCode) (b c : Block) → AreLaidOut code.funcs → (is : IsPart code.funcs b) (other : IsPart code.funcs c) →
    IsBlock code b → IsBlock code c → IsBefore b c → block_start code.funcs b < block_start code.funcs c
starts_rise code b c laid is other block next before =
    let d = some_inst code.funcs b is in
    let n = count_is code.funcs b is in
    let some = is.some in
    let up = ends_before code b c laid is other block next before 0 d (omega (arith, n, some)) in
    let low = from_start code.funcs b is 0 d (omega (arith, n, some)) in
    omega (arith, up, low)

pub are_stretches : (code : ProgramCode) (blocks : List Block) → AreLaidOut code.funcs → AreBlocks code blocks →
    (low high : ℕ) (some : low < high) →
    AreStretches (block_start code.funcs) (has_inst_in code.funcs low high) low high some blocks
are_stretches code blocks laid are low high some = record {
  inside = λ k d less. has_first code.funcs (at k d) (part k d less) low high;
  above = λ k d less. has_none_above code.funcs (at k d) (part k d less) low high;
  before = λ i j d less within from.
      has_none_below code.funcs (at i d) (part i d (omega (arith, less, within))) low high
      (λ k e inst. let up = ends i j d less within k e inst in omega (arith, up, from));
  rise = λ i j d less within. starts_rise code (at i d) (at j d) laid (part i d (omega (arith, less, within))) (part j d within)
      (block i d (omega (arith, less, within))) (block j d within) (are.ordered i j d less within);
}
  where
    at : ℕ → Block → Block
    at k d = get_or blocks k d

    block : (k : ℕ) (d : Block) → k < length blocks → IsBlock code (at k d)
    block k d less = are.only (at k d) (Contains-get_or blocks k d less)

    part : (k : ℕ) (d : Block) → k < length blocks → IsPart code.funcs (at k d)
    part k d less = part_of code (at k d) laid (block k d less)

    ends : (i j : ℕ) (d : Block) (less : i < j) (within : j < length blocks) → (k : ℕ) (e : Placed) →
        k < length (insts code.funcs (at i d) (part i d (omega (arith, less, within)))) →
        (get_or (insts code.funcs (at i d) (part i d (omega (arith, less, within)))) k e).addr < block_start code.funcs (at j d)
    ends i j d less within = ends_before code (at i d) (at j d) laid (part i d (omega (arith, less, within))) (part j d within)
        (block i d (omega (arith, less, within))) (block j d within) (are.ordered i j d less within)

-- The blocks of functions.
module _ (funcs : List Func) (blocks : List Block) (laid : AreLaidOut funcs) (of : AreBlocksOf funcs blocks) where
  -- the starts of blocks ascend
  pub starts_ascend : (starts : List ℕ) → starts ≡ map (block_start funcs) blocks → IsNonDecreasing starts
  starts_ascend starts same =
      subst (λ (ns : List ℕ). IsNonDecreasing ns) (sym same) (λ i j d up within. ascend i j d up within (cases_lt i j))
    where
      rise : AllPairs (λ b c. block_start funcs b < block_start funcs c) blocks
      rise =
          subst (λ (fs : List Func). AreLaidOut fs → AllPairs (λ b c. block_start fs b < block_start fs c) blocks) of.1
          (λ l. (are_stretches of.0 blocks l of.2 0 1 (omega arith)).rise) laid

      some_block : (bs : List Block) (j : ℕ) → j < length (map (block_start funcs) bs) → Block
      some_block [] j within = absurd (omega (arith, within))
      some_block (b ∷ bs) j within = b

      ascend : (i j d : ℕ) → i ≤ j → j < length (map (block_start funcs) blocks) → (i < j) ⊎ (j ≤ i) →
          get_or (map (block_start funcs) blocks) i d ≤ get_or (map (block_start funcs) blocks) j d
      ascend i j d up within (inl less) =
          let b : Block = some_block blocks j within in
          let n = length-map blocks (block_start funcs) in
          let x = get_or-map (block_start funcs) blocks i b d (omega (arith, less, within, n)) in
          let y = get_or-map (block_start funcs) blocks j b d (omega (arith, within, n)) in
          let z = rise i j b less (omega (arith, within, n)) in
          omega (arith, x, y, z)
      ascend i j d up within (inr past) =
          let e : i ≡ j = omega (arith, up, past) in
          let f = ap (λ (k : ℕ). get_or (map (block_start funcs) blocks) k d) e in
          omega (arith, f)

  pub blocks_counted : (low high : ℕ) (some : low < high) →
      IsCounted (block_start funcs) (has_inst_in funcs low high) low high some blocks
  blocks_counted low high some =
      subst
      (λ (fs : List Func). AreLaidOut fs → IsCounted (block_start fs) (has_inst_in fs low high) low high some blocks) of.1
      (λ l. counted (block_start of.0.funcs) (has_inst_in of.0.funcs low high) low high some blocks
      (are_stretches of.0 blocks l of.2 low high some)) laid

  pub are_of_functions : All (IsOfFunction funcs) blocks
  are_of_functions = subst (λ (fs : List Func). All (IsOfFunction fs) blocks) of.1 (blocks_of_functions of.0 blocks of.2)

-- no instruction starts in a range without addresses
pub none_in_empty : (funcs : List Func) (low high : ℕ) → high ≤ low → (b : Block) → has_inst_in funcs low high b ≡ false
none_in_empty funcs low high empty b = by (func_of funcs b) where
  none : (a : ℕ) → (nat_le low a && nat_lt a high) ≡ false
  none a = grind (arith, common_steps)

  by : (found : Option Func) → option_map_or
      (λ (func : Func). list_any (λ (p : Placed). nat_le low p.addr && nat_lt p.addr high)
      (take (b.last + 1 - b.first) (drop b.first func.insts.items))) found Bool.false ≡ false
  by None = refl
  by (Some func) = list_any_none _ (take (b.last + 1 - b.first) (drop b.first func.insts.items)) (λ k d less. none _)

-- The blocks that the code counts.

-- the number of blocks in a range: those that start in it, and the last one that starts below it, if it has an instruction in the range
module _ (funcs : List Func) (blocks : List Block) (laid : AreLaidOut funcs) (of : AreBlocksOf funcs blocks) (starts : List ℕ)
    (same : starts ≡ map (block_start funcs) blocks) where
  starts_below : (n : ℕ) →
      length (filter (λ s. nat_lt s n) starts) ≡ count (λ b. nat_lt (block_start funcs b) n) blocks
  starts_below n = ap (λ (ss : List ℕ). count (λ s. nat_lt s n) ss) same ∙ count-map (λ s. nat_lt s n) (block_start funcs) blocks

  pub place_within : (n k : ℕ) → k ≡ length (filter (λ s. nat_lt s n) starts) → k ≤ length blocks
  place_within n k is =
      let a = starts_below n in
      let b = count-length (λ b. nat_lt (block_start funcs b) n) blocks in
      omega (arith, is, a, b)

  pub count_by_starts : (low high : ℕ) → low < high → (k h inside : ℕ) → k ≡ length (filter (λ s. nat_lt s low) starts) →
      h ≡ length (filter (λ s. nat_lt s high) starts) → inside ≡ h - k → (reaches : Bool) (d : Block) →
      (0 < k → has_inst_in funcs low high (get_or blocks (k - 1) d) ≡ reaches) → (k ≡ 0 → reaches ≡ false) →
      inside + one reaches ≡ length (filter (has_inst_in funcs low high) blocks)
  count_by_starts low high some k h inside k_is h_is inside_is reaches d last none = by (cases_lt 0 k) where
    all : IsCounted (block_start funcs) (has_inst_in funcs low high) low high some blocks
    all = blocks_counted funcs blocks laid of low high some

    lows : k ≡ below (block_start funcs) (has_inst_in funcs low high) low high some low blocks
    lows = k_is ∙ starts_below low

    highs : h ≡ below (block_start funcs) (has_inst_in funcs low high) low high some high blocks
    highs = h_is ∙ starts_below high

    by : (0 < k) ⊎ (k ≤ 0) → inside + one reaches ≡ length (filter (has_inst_in funcs low high) blocks)
    by (inl before) =
        let up = below_up (block_start funcs) (has_inst_in funcs low high) low high some blocks in
        let a = all.some_before d (omega (arith, lows, before)) in
        let place = ap (λ (i : ℕ). one (has_inst_in funcs low high (get_or blocks (i - 1) d))) lows in
        let is = ap one (last before) in
        omega (arith, up, a, place, is, lows, highs, inside_is)
    by (inr zero) =
        let a = all.none_before (omega (arith, lows, zero)) in
        let is = ap one (none (omega (arith, zero))) in
        omega (arith, a, is, lows, highs, inside_is, zero)

abbrev in_it : ℕ → ℕ → Placed → Bool
in_it low high p = nat_le low p.addr && nat_lt p.addr high

-- the first instruction at or above the start of the range decides
module _ (low high : ℕ) (ps : List Placed) (rise : IsNonDecreasingBy (λ p. p.addr) ps) (k : ℕ)
    (point : IsPartitionPoint (λ p. nat_lt p.addr low ≡ true) (λ p. nat_lt p.addr low ≡ false) ps k) where
  before_point : (i : ℕ) (d : Placed) → i < k → in_it low high (get_or ps i d) ≡ false
  before_point i d less =
      below_range low high (get_or ps i d).addr (ltb-true (get_or ps i d).addr low (point.0 i d (omega arith) less))

  pub any_at_point : (d : Placed) → k < length ps → list_any (in_it low high) ps ≡ nat_lt (get_or ps k d).addr high
  any_at_point d within = by (nat_lt (get_or ps k d).addr high) refl where
    from : low ≤ (get_or ps k d).addr
    from = ltb-false (get_or ps k d).addr low (point.1 k d (omega arith) within)

    by : (b : Bool) → nat_lt (get_or ps k d).addr high ≡ b → list_any (in_it low high) ps ≡ b
    by true e =
        list_any_at (in_it low high) ps k d within (in_range low high (get_or ps k d).addr from (ltb-true (get_or ps k d).addr high e))
    by false e = list_any_none (in_it low high) ps (λ i f less. at i f less (cases_lt i k)) where
      at : (i : ℕ) (f : Placed) → i < length ps → (i < k) ⊎ (k ≤ i) → in_it low high (get_or ps i f) ≡ false
      at i f less (inl earlier) = before_point i f earlier
      at i f less (inr later) =
          let past = ltb-false (get_or ps k d).addr high e in
          let up = rise k i f later less in
          let same = ap (λ (p : Placed). p.addr) (get_or_default ps k d f within) in
          above_range low high (get_or ps i f).addr (omega (arith, past, up, same))

  pub none_past_end : length ps ≤ k → list_any (in_it low high) ps ≡ false
  none_past_end past = list_any_none (in_it low high) ps (λ i d less. before_point i d (omega (arith, less, past)))

pub insts_ascend : (funcs : List Func) (b : Block) (func : Func) → AreLaidOut funcs → func_of funcs b ≡ Some func →
    IsNonDecreasingBy (λ p. p.addr) (take (b.last + 1 - b.first) (drop b.first func.insts.items))
insts_ascend funcs b func laid of =
    IsNonDecreasingBy-take (λ p. p.addr) (b.last + 1 - b.first) (drop b.first func.insts.items)
    (IsNonDecreasingBy-drop (λ p. p.addr) b.first func.insts.items all)
  where
    is : IsLaidOut func
    is = laid_func funcs b.func func laid of

    by : (i j : ℕ) (d : Placed) → i ≤ j → j < length func.insts.items → (i < j) ⊎ (j ≤ i) →
        (get_or func.insts.items i d).addr ≤ (get_or func.insts.items j d).addr
    by i j d up within (inl less) = let r = insts_rise func is i j d less within in omega (arith, r)
    by i j d up within (inr past) =
        let e : i ≡ j = omega (arith, up, past) in
        let f = ap (λ (k : ℕ). (get_or func.insts.items k d).addr) e in
        omega (arith, f)

    all : IsNonDecreasingBy (λ p. p.addr) func.insts.items
    all i j d up within = by i j d up within (cases_lt i j)

-- The result of a search among the instructions of a block.
pub record IsSearched (funcs : List Func) (low high : ℕ) (b : Block) (ps : List Placed) (k : ℕ) : Type 0 where
  pub at : (d : Placed) → k < length ps → nat_lt (get_or ps k d).addr high ≡ has_inst_in funcs low high b
  pub past : length ps ≤ k → nat_lt k (length ps) ≡ has_inst_in funcs low high b

module _ (funcs : List Func) (low high : ℕ) (b : Block) (laid : AreLaidOut funcs) (is : IsOfFunction funcs b) (d : Func)
    (items : List Placed) (same : items ≡ (get_or funcs b.func d).insts.items) where
  abbrev searched_insts : List Placed → List Placed
  searched_insts ps = take (b.last + 1 - b.first) (drop b.first ps)

  of_func : func_of funcs b ≡ Some (get_or funcs b.func d)
  of_func = slice_get-get_or funcs b.func d (by (func_of funcs b) refl is) where
    by : (found : Option Func) → func_of funcs b ≡ found →
        IsSomeAnd found (λ func. (b.first ≤ b.last) × (b.last < length func.insts.items)) → b.func < length funcs
    by None e none = absurd none
    by (Some func) e some = slice_get_within funcs b.func func e

  has_of_items : has_inst_in funcs low high b ≡ list_any (in_it low high) (searched_insts items)
  has_of_items = rw (of_func, same) refl

  pub searched : (k : ℕ) → (IsNonDecreasingBy (λ p. p.addr) (searched_insts items) →
      IsPartitionPoint (λ p. nat_lt p.addr low ≡ true) (λ p. nat_lt p.addr low ≡ false) (searched_insts items) k) →
      IsSearched funcs low high b (searched_insts items) k
  searched k point = record {
    at = λ e within. sym (has_of_items ∙ any_at_point low high (searched_insts items) rise k (point rise) e within);
    past = λ past.
        not_below k (length (searched_insts items)) past
        ∙ sym (has_of_items ∙ none_past_end low high (searched_insts items) rise k (point rise) past);
  }
    where
      rise : IsNonDecreasingBy (λ p. p.addr) (searched_insts items)
      rise = subst (λ (ps : List Placed). IsNonDecreasingBy (λ p. p.addr) (searched_insts ps)) (sym same)
          (insts_ascend funcs b (get_or funcs b.func d) laid of_func)

      not_below : (i n : ℕ) → n ≤ i → nat_lt i n ≡ false
      not_below i n past = grind (arith, common_steps)
