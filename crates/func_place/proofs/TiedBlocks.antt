-- A function is tied to the function into which one of its instructions leads, by the addresses of instructions. This is for crates that
-- speak of nearness of instructions and not of functions.
use Rattle.std.proofs.Common.{subst, ℕ, ◌≡◌, ◌<◌, ◌≤◌, ◌+◌, Some, List, get_or, arith, ap}
use Rattle.std.specs.Prelude.{slice_get}
use Rattle.std.proofs.lemmas.Option.{slice_get_within, get_or_from_slice_get}
use Rattle.rv_code.specs.declared.placed.Placed.{Placed}
use Rattle.rv_code.specs.declared.placed.Func.{Func}
use Rattle.rv_code.specs.layout.Blocks.{inst_at}
use Rattle.rv_code.specs.layout.FunctionLists.{IsLaidOut, AreLaidOut, HasLength}
use Rattle.rv_code.specs.layout.FunctionMembers.{function_at}
use Rattle.rv_code.proofs.lists.FunctionAt.{IsAbove, ends_rise, function_at-found}
use Rattle.rv_code.proofs.lists.Follows.{follow_bounds}
use Rattle.func_place.proofs.WorstPositive.{has_bytes}

-- the function of an instruction is found by its address
pub function_at-inst : (funcs : List Func) (g y : ℕ) (other : Func) (q : Placed) → AreLaidOut funcs →
    slice_get funcs g ≡ Some other → inst_at other y ≡ Some q → function_at funcs q.addr ≡ Some g
function_at-inst funcs g y other q are is_other is_q =
    let insts = other.insts.items in
    let g_in = slice_get_within funcs g other is_other in
    let y_in = slice_get_within insts y q is_q in
    let at = get_or_from_slice_get funcs g other other is_other in
    let laid : IsLaidOut other = subst IsLaidOut at (are.each g other g_in) in
    let q_is : get_or insts y q ≡ q = get_or_from_slice_get insts y q q is_q in
    let bytes : 0 < q.len = has_bytes q (subst HasLength q_is (laid.lengths y q y_in)) in
    let low : other.start ≤ q.addr =
    subst (λ (p : Placed). other.start ≤ p.addr) q_is (follow_bounds other.start insts other.end laid.follow y q y_in).0 in
    let high : q.addr + q.len ≤ other.end =
    subst (λ (p : Placed). p.addr + p.len ≤ other.end) q_is (follow_bounds other.start insts other.end laid.follow y q y_in).1 in
    let start : (get_or funcs g other).start ≡ other.start = ap (λ (x : Func). x.start) at in
    let end : (get_or funcs g other).end ≡ other.end = ap (λ (x : Func). x.end) at in
    let above : IsAbove funcs q.addr g = record {
      within = omega arith;
      low = λ j d lt. let apart = are.apart j g d lt g_in in
          let s : (get_or funcs g d).start ≡ other.start =
          ap (λ (x : Func). x.start) (get_or_from_slice_get funcs g other d is_other) in omega arith;
      high = λ j d le lt. let up = ends_rise funcs are g j d le lt in
          let e : (get_or funcs g d).end ≡ other.end =
          ap (λ (x : Func). x.end) (get_or_from_slice_get funcs g other d is_other) in omega arith;
    } in
    function_at-found funcs q.addr g other above g_in (omega arith)
