-- The start and end addresses of blocks that don't overlap: they are addresses of instructions, and ascend.
use Rattle.std.proofs.Common.{◌≡◌, ◌∙◌, ◌<◌, ◌≤◌, ℕ, true, List, Option, Some, None, length, get_or, arith, ap, sym, subst, refl, ⊎_elim}
use Rattle.std.specs.Prelude.{IsSomeAnd, slice_get}
use Rattle.std.specs.Option.{option_map_or}
use Rattle.std.proofs.lemmas.Option.{get_or_from_slice_get, same_Some, slice_get-get_or, slice_get_within}
use Rattle.rv_code.specs.declared.placed.Block.{Block}
use Rattle.rv_code.specs.declared.placed.Func.{Func}
use Rattle.rv_code.specs.declared.placed.Placed.{Placed}
use Rattle.rv_code.specs.layout.Blocks.{inst_address, block_start}
use Rattle.rv_code.specs.layout.FunctionLists.{AreLaidOut, IsLaidOut}
use Rattle.rv_code.specs.layout.FunctionMembers.{IsOfFunction}
use Rattle.rv_code.specs.layout.ProgramCode.{is_code_address}
use Rattle.rv_code.proofs.lists.Follows.{inst_bounds, insts_rise, laid_func}
use Rattle.edge_profile.specs.BlockPlaces.{IsApart}
use Rattle.edge_profile.proofs.LaidOut.{code_address_at}
use Rattle.rb_bytes.proofs.ListLemmas.{slice_get_found}
use Rattle.flow_infer.specs.Links.{block_end}
use Rattle.flow_text.specs.LinkLists.{AreBlocksOf}
use Rattle.flow_text.specs.RepairedCounts.{end_at, start_at}

-- the function of a block
record HasFunc (funcs : List Func) (b : Block) : Type 0 where
  func : Func
  at : slice_get funcs b.func ≡ Some func
  order : b.first ≤ b.last
  inside : b.last < length func.insts.items

func_of_block : (funcs : List Func) (b : Block) → IsOfFunction funcs b → HasFunc funcs b
func_of_block funcs b is = by (slice_get funcs b.func) refl is
  where
    by : (o : Option Func) → slice_get funcs b.func ≡ o →
        IsSomeAnd o (λ func. (b.first ≤ b.last) × (b.last < length func.insts.items)) → HasFunc funcs b
    by None at is = absurd is
    by (Some f) at is = record { func = f; at = at; order = is.0; inside = is.1 }

-- an instruction of this function
record HasInst (funcs : List Func) (b : Block) (func : Func) (i : ℕ) : Type 0 where
  inst : Placed
  at : slice_get func.insts.items i ≡ Some inst
  address_is : inst_address funcs b i ≡ inst.addr

module _ (funcs : List Func) (laid : AreLaidOut funcs) where
  inst_of_block : (b : Block) (h : HasFunc funcs b) (i : ℕ) → i ≤ b.last → HasInst funcs b h.func i
  inst_of_block b h i upto =
      let inside = h.inside in
      let (p, at) = slice_get_found h.func.insts.items i (omega arith) in
      record {
        inst = p;
        at = at;
        address_is =
            ap (λ (o : Option Func). option_map_or (λ f. option_map_or (λ q. q.addr) (slice_get f.insts.items i) 0) o 0) h.at
            ∙ ap (λ (o : Option Placed). option_map_or (λ q. q.addr) o 0) at;
      }

  is_laid : (b : Block) (h : HasFunc funcs b) → IsLaidOut h.func
  is_laid b h = laid_func funcs b.func h.func laid h.at

  in_bounds : (b : Block) (h : HasFunc funcs b) (i : ℕ) (p : Placed) → slice_get h.func.insts.items i ≡ Some p →
      (h.func.start ≤ p.addr) × (p.addr < h.func.end)
  in_bounds b h i p at =
      subst (λ (q : Placed). (h.func.start ≤ q.addr) × (q.addr < h.func.end)) (get_or_from_slice_get h.func.insts.items i p p at)
      (inst_bounds h.func (is_laid b h) i p (slice_get_within h.func.insts.items i p at))

  insts_up : (f : Func) → IsLaidOut f → (i j : ℕ) (p q : Placed) → slice_get f.insts.items i ≡ Some p →
      slice_get f.insts.items j ≡ Some q → i < j → p.addr < q.addr
  insts_up f is i j p q at_i at_j less =
      let up = insts_rise f is i j p less (slice_get_within f.insts.items j q at_j) in
      let first = ap (λ (r : Placed). r.addr) (get_or_from_slice_get f.insts.items i p p at_i) in
      let second = ap (λ (r : Placed). r.addr) (get_or_from_slice_get f.insts.items j q p at_j) in
      omega arith

  -- an instruction of one block has a lower address than each one of a later block
  rises : (b c : Block) → IsOfFunction funcs b → IsOfFunction funcs c → IsApart b c → (i j : ℕ) → i ≤ b.last → c.first ≤ j →
      j ≤ c.last → inst_address funcs b i < inst_address funcs c j
  rises b c is_b is_c apart i j upto from upto' =
      let h = func_of_block funcs b is_b in
      let k = func_of_block funcs c is_c in
      let x = inst_of_block b h i upto in
      let y = inst_of_block c k j upto' in
      let here = x.address_is in
      let there = y.address_is in
      ⊎_elim
      (λ (less : b.func < c.func).
      let before = laid.apart b.func c.func h.func less (slice_get_within funcs c.func k.func k.at) in
      let end = ap (λ (f : Func). f.end) (get_or_from_slice_get funcs b.func h.func h.func h.at) in
      let start = ap (λ (f : Func). f.start) (get_or_from_slice_get funcs c.func k.func h.func k.at) in
      let low = in_bounds b h i x.inst x.at in
      let high = in_bounds c k j y.inst y.at in
      omega (arith, before, end, start, low.1, high.0, here, there))
      (λ (same, less).
      let one : k.func ≡ h.func = same_Some k.func h.func (sym k.at ∙ ap (slice_get funcs) (sym same) ∙ h.at) in
      let at = subst (λ (f : Func). slice_get f.insts.items j ≡ Some y.inst) one y.at in
      let up = insts_up h.func (is_laid b h) i j x.inst y.inst x.at at (omega arith) in
      omega arith)
      apart

  code_at : (b : Block) → IsOfFunction funcs b → (i : ℕ) → i ≤ b.last → is_code_address funcs (inst_address funcs b i) ≡ true
  code_at b is i upto =
      let h = func_of_block funcs b is in
      let x = inst_of_block b h i upto in
      ap (is_code_address funcs) x.address_is
      ∙ code_address_at funcs x.inst.addr b.func i (record {
        func_within = slice_get_within funcs b.func h.func h.at;
        inst_within = λ d. subst (λ (f : Func). i < length f.insts.items) (sym (get_or_from_slice_get funcs b.func h.func d h.at))
            (slice_get_within h.func.insts.items i x.inst x.at);
        starts = λ d e. ap (λ (f : Func). (get_or f.insts.items i e).addr) (get_or_from_slice_get funcs b.func h.func d h.at)
            ∙ ap (λ (q : Placed). q.addr) (get_or_from_slice_get h.func.insts.items i x.inst e x.at);
      })

  module _ (blocks : List Block) (are : AreBlocksOf funcs blocks) where
    pub end_of : (k : ℕ) (d : Block) → k < length blocks → end_at funcs blocks k ≡ block_end funcs (get_or blocks k d)
    end_of k d within = ap (λ (o : Option Block). option_map_or (block_end funcs) o 0) (slice_get-get_or blocks k d within)

    pub start_of : (k : ℕ) (d : Block) → k < length blocks → start_at funcs blocks k ≡ block_start funcs (get_or blocks k d)
    start_of k d within = ap (λ (o : Option Block). option_map_or (block_start funcs) o 0) (slice_get-get_or blocks k d within)

    no_block : Block
    no_block = record { func = 0; first = 0; last = 0 }

    pub ends_rise : (j k : ℕ) → j < k → k < length blocks → end_at funcs blocks j < end_at funcs blocks k
    ends_rise j k less within =
        let b = get_or blocks j no_block in
        let c = get_or blocks k no_block in
        let up = rises b c (are.stretches.each j no_block (omega arith)) (are.stretches.each k no_block within)
        (are.apart.ordered j k no_block less within) b.last c.last (omega arith) (are.apart.some k no_block within) (omega arith) in
        let first = end_of j no_block (omega arith) in
        let second = end_of k no_block within in
        omega arith

    pub starts_rise : (j k : ℕ) → j < k → k < length blocks → start_at funcs blocks j < start_at funcs blocks k
    starts_rise j k less within =
        let b = get_or blocks j no_block in
        let c = get_or blocks k no_block in
        let up = rises b c (are.stretches.each j no_block (omega arith)) (are.stretches.each k no_block within)
        (are.apart.ordered j k no_block less within) b.first c.first (are.apart.some j no_block (omega arith)) (omega arith)
        (are.apart.some k no_block within) in
        let first = start_of j no_block (omega arith) in
        let second = start_of k no_block within in
        omega arith

    pub end_is_code : (k : ℕ) → k < length blocks → is_code_address funcs (end_at funcs blocks k) ≡ true
    end_is_code k within =
        ap (is_code_address funcs) (end_of k no_block within)
        ∙ code_at (get_or blocks k no_block) (are.stretches.each k no_block within) (get_or blocks k no_block).last (omega arith)

    pub start_is_code : (k : ℕ) → k < length blocks → is_code_address funcs (start_at funcs blocks k) ≡ true
    start_is_code k within =
        ap (is_code_address funcs) (start_of k no_block within)
        ∙ code_at (get_or blocks k no_block) (are.stretches.each k no_block within) (get_or blocks k no_block).first
        (are.apart.some k no_block within)
