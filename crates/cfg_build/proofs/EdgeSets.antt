-- The edges of a list of blocks.
use Rattle.std.proofs.Common.{◌≡◌, ◌∙◌, sym, subst, ap, ℕ, ◌<◌, ◌≤◌, ⊎_elim, List, Option, Some, All, map, length, arith}
use Rattle.std.specs.Prelude.{◌↔◌, AllPairs, Contains, IsSomeAnd, slice_get}
use Rattle.std.specs.Option.{option_map, option_map_or}
use Rattle.std.proofs.lemmas.List.Elements.{All-contains}
use Rattle.std.proofs.lemmas.Option.{get_or_from_slice_get, same_Some, slice_get-map, slice_get_within}
use Rattle.rv_code.specs.declared.placed.Placed.{Placed}
use Rattle.rv_code.specs.declared.placed.Func.{Func}
use Rattle.rv_code.specs.declared.placed.Block.{Block}
use Rattle.rv_code.specs.declared.cell.CodeCell.{CodeCell}
use Rattle.rv_code.specs.layout.Blocks.{inst_at, func_of, IsBefore, block_start}
use Rattle.rv_code.specs.layout.Edges.{AreTablePairs, IsPairOf, LeadsTo, jumps, falls_into, by_table, BeginsAt, IsEdge, IsEdgeIn, AreEdges}
use Rattle.rv_code.specs.layout.FunctionLists.{AreLaidOut}
use Rattle.rv_code.specs.layout.FunctionMembers.{IsOfFunction}
use Rattle.rb_bytes.proofs.ListLemmas.{pairs_in, pairs_map, slice_get_found}
use Rattle.rv_code.proofs.lists.Follows.{funcs_apart}
use Rattle.cfg_build.specs.EdgeLists.{AreStretches}
use Rattle.cfg_build.proofs.EdgeRows.{IsEdgeBy, AreEdgesBefore}
use Rattle.rb_bytes.proofs.Options.{of_some, some_and, the_some}
use Rattle.cfg_build.proofs.layout.FunctionInsts.{earlier_below, inst_lies_at}
use Rattle.cfg_build.proofs.layout.InstAddresses.{contains_func, laid_out}

-- Blocks and their start addresses.

-- The function and the first instruction of a block.
pub record IsStretchOf (funcs : List Func) (b : Block) : Type 0 where
  pub func : Func
  pub func_is : func_of funcs b ≡ Some func
  pub inst : Placed
  pub inst_is : inst_at func b.first ≡ Some inst
  pub start_is : block_start funcs b ≡ inst.addr

pub stretch_of : (funcs : List Func) (b : Block) → IsOfFunction funcs b → IsStretchOf funcs b
stretch_of funcs b is =
    let (func, func_is, (upto, inside)) = the_some (λ func. (b.first ≤ b.last)
    × (b.last < length func.insts.items)) (func_of funcs b) is in
    let (inst, inst_is) = slice_get_found func.insts.items b.first (omega arith) in
    record {
      func = func;
      func_is = func_is;
      inst = inst;
      inst_is = inst_is;
      start_is =
          ap (λ (o : Option Func). option_map_or (λ func. option_map_or (λ p. p.addr) (inst_at func b.first) 0) o 0) func_is
          ∙ ap (λ (o : Option Placed). option_map_or (λ p. p.addr) o 0) inst_is;
    }

pub BeginsAt-start : (funcs : List Func) (b : Block) → IsOfFunction funcs b → (a : ℕ) →
    BeginsAt funcs b a ↔ (block_start funcs b ≡ a)
BeginsAt-start funcs b is a =
    let s = stretch_of funcs b is in (
      (λ begins.
          let first = of_some (λ func. IsSomeAnd (inst_at func b.first) (λ p. p.addr ≡ a))
          (func_of funcs b) s.func s.func_is begins in
          s.start_is ∙ of_some (λ p. p.addr ≡ a) (inst_at s.func b.first) s.inst s.inst_is first),
      (λ same.
          some_and (λ func. IsSomeAnd (inst_at func b.first) (λ p. p.addr ≡ a)) (func_of funcs b) s.func s.func_is
          (some_and (λ p. p.addr ≡ a) (inst_at s.func b.first) s.inst s.inst_is (sym s.start_is ∙ same))),
    )

-- Blocks in order have ascending start addresses.
before_below : (funcs : List Func) → AreLaidOut funcs → (b c : Block) → IsOfFunction funcs b →
    IsOfFunction funcs c → IsBefore b c → block_start funcs b < block_start funcs c
before_below funcs are b c is is' before =
    let s = stretch_of funcs b is in
    let t = stretch_of funcs c is' in
    let start = s.start_is in
    let start' = t.start_is in
    let laid = laid_out funcs are s.func (contains_func funcs b.func s.func s.func_is) in
    let laid' = laid_out funcs are t.func (contains_func funcs c.func t.func t.func_is) in
    let lies = inst_lies_at s.func laid b.first s.inst s.inst_is in
    let lies' = inst_lies_at t.func laid' c.first t.inst t.inst_is in
    let to = lies.to in
    let some = lies.some in
    let from = lies'.from in
    ⊎_elim
    (λ (lower : b.func < c.func).
    let apart = funcs_apart funcs b.func c.func s.func t.func are s.func_is t.func_is lower in
    omega arith)
    (λ (same, less).
    let one : t.func ≡ s.func = same_Some t.func s.func (sym t.func_is ∙ ap (slice_get funcs) (sym same) ∙ s.func_is) in
    let below = earlier_below s.func laid b.first c.first s.inst t.inst s.inst_is
    (subst (λ (f : Func). inst_at f c.first ≡ Some t.inst) one t.inst_is) less in
    omega arith)
    before

pub starts_ascend : (funcs : List Func) (blocks : List Block) → AreLaidOut funcs → AreStretches funcs blocks →
    AllPairs (λ a b. a < b) (map (block_start funcs) blocks)
starts_ascend funcs blocks are is =
    pairs_map (λ a b. a < b) (block_start funcs) blocks
    (pairs_in IsBefore (λ b c. block_start funcs b < block_start funcs c) blocks
    (λ b c b_in c_in before. before_below funcs are b c
    (All-contains (IsOfFunction funcs) blocks b is.each b_in) (All-contains (IsOfFunction funcs) blocks c is.each c_in) before)
    is.ordered)

-- Edges.

module _ (funcs : List Func) (cells : List CodeCell) (targets : List (ℕ × ℕ)) (pairs : AreTablePairs funcs cells targets) where
  leads_to : (func : Func) (i : ℕ) (p : Placed) (a : ℕ) → LeadsTo (Contains targets) func i p a →
      LeadsTo (IsPairOf funcs cells) func i p a
  leads_to func i p a (jumps ends goes) = jumps ends goes
  leads_to func i p a (falls_into falls next) = falls_into falls next
  leads_to func i p a (by_table table) = by_table (pairs.only (p.addr, a) table)

  leads_as : (func : Func) (i : ℕ) (p : Placed) (a : ℕ) → LeadsTo (IsPairOf funcs cells) func i p a →
      LeadsTo (Contains targets) func i p a
  leads_as func i p a (jumps ends goes) = jumps ends goes
  leads_as func i p a (falls_into falls next) = falls_into falls next
  leads_as func i p a (by_table table) = by_table (pairs.each (p.addr, a) table)

  module _ (blocks : List Block) (are : All (IsOfFunction funcs) blocks) where
    begins_there : (a t : ℕ) (b : Block) → slice_get blocks t ≡ Some b →
        (slice_get (map (block_start funcs) blocks) t ≡ Some a) ↔ BeginsAt funcs b a
    begins_there a t b at =
        let mapped = slice_get-map (block_start funcs) blocks t ∙ ap (option_map (block_start funcs)) at in
        let (to, from) = BeginsAt-start funcs b (All-contains (IsOfFunction funcs) blocks b are (contains_block t b at)) a in (
          (λ is. from (same_Some (block_start funcs b) a (sym mapped ∙ is))),
          (λ begins. mapped ∙ ap (λ (x : ℕ). Some x) (to begins)),
        )
      where
        contains_block : (t : ℕ) (b : Block) → slice_get blocks t ≡ Some b → Contains blocks b
        contains_block t b at = (t, slice_get_within blocks t b at, get_or_from_slice_get blocks t b b at)

    edge_in : (e : ℕ × ℕ) → IsEdgeBy funcs targets blocks (map (block_start funcs) blocks) e → IsEdgeIn funcs cells blocks e
    edge_in e is =
        let (t, t_is, same) = the_some (λ b. is.block.func ≡ b.func) (slice_get blocks e.1) is.begins.one_function in
        let (p, p_is, goes) = the_some (λ p. LeadsTo (Contains targets) is.func is.block.last p is.to)
        (inst_at is.func is.block.last) is.leads in
        some_and (λ s. IsSomeAnd (slice_get blocks e.1) (λ t. IsEdge funcs cells s t)) (slice_get blocks e.0) is.block is.block_is
        (some_and (λ t. IsEdge funcs cells is.block t) (slice_get blocks e.1) t t_is (record {
          one_function = same;
          to = is.to;
          begins = (begins_there is.to e.1 t t_is).0 is.begins.begins;
          leads = some_and (λ func. IsSomeAnd (inst_at func is.block.last)
              (λ p. LeadsTo (IsPairOf funcs cells) func is.block.last p is.to))
              (func_of funcs is.block) is.func is.func_is
              (some_and (λ p. LeadsTo (IsPairOf funcs cells) is.func is.block.last p is.to) (inst_at is.func is.block.last) p p_is
              (leads_to is.func is.block.last p is.to goes));
        }))

    edge_by : (e : ℕ × ℕ) → IsEdgeIn funcs cells blocks e → IsEdgeBy funcs targets blocks (map (block_start funcs) blocks) e
    edge_by e is =
        let (s, s_is, rest) = the_some (λ s. IsSomeAnd (slice_get blocks e.1) (λ t. IsEdge funcs cells s t))
        (slice_get blocks e.0) is in
        let (t, t_is, edge) = the_some (λ t. IsEdge funcs cells s t) (slice_get blocks e.1) rest in
        let (func, func_is, goes) =
        the_some (λ func. IsSomeAnd (inst_at func s.last) (λ p. LeadsTo (IsPairOf funcs cells) func s.last p edge.to))
        (func_of funcs s) edge.leads in
        let (p, p_is, goes') = the_some (λ p. LeadsTo (IsPairOf funcs cells) func s.last p edge.to) (inst_at func s.last) goes in
        record {
          block = s;
          block_is = s_is;
          func = func;
          func_is = func_is;
          to = edge.to;
          leads = some_and (λ p. LeadsTo (Contains targets) func s.last p edge.to) (inst_at func s.last) p p_is
              (leads_as func s.last p edge.to goes');
          begins = record {
            begins = (begins_there edge.to e.1 t t_is).1 edge.begins;
            one_function = some_and (λ b. s.func ≡ b.func) (slice_get blocks e.1) t t_is edge.one_function;
          };
        }

    pub AreEdges-by : (n : ℕ) (starts : List ℕ) (edges : List (ℕ × ℕ)) → n ≡ length blocks →
        starts ≡ map (block_start funcs) blocks →
        AreEdgesBefore funcs targets blocks starts n edges → AreEdges funcs cells blocks edges
    AreEdges-by n starts edges all starts_are are = record {
      only = λ e is_in. edge_in e (subst (λ (xs : List ℕ). IsEdgeBy funcs targets blocks xs e) starts_are (are.only e is_in).0);
      each = λ e is.
          let by = edge_by e is in
          are.each e (
            subst (λ (xs : List ℕ). IsEdgeBy funcs targets blocks xs e) (sym starts_are) by,
            (let within = slice_get_within blocks e.0 by.block by.block_is in omega arith),
          );
      ordered = are.ordered;
    }
