-- Instructions are in their functions, and are in order of their addresses, in a function and from one function to the next.
use Rattle.std.proofs.Common.{◌≡◌, ◌∙◌, sym, ap, subst, ℕ, ◌+◌, ◌<◌, ◌≤◌, ⊎_elim, Some, List, length, get_or, arith}
use Rattle.std.specs.Prelude.{◌^◌, slice_get}
use Rattle.std.proofs.lemmas.Bool.{cases_lt}
use Rattle.std.proofs.lemmas.Option.{get_or_from_slice_get, slice_get_within}
use Rattle.rv_code.specs.declared.placed.Placed.{Placed}
use Rattle.rv_code.specs.declared.placed.Func.{Func}
use Rattle.rv_code.specs.layout.FunctionLists.{AreLaidOut, address_end}
use Rattle.rv_code.proofs.lists.Follows.{follow_at, follow_bounds, follow_up, funcs_apart, laid_func}

pub inst_below : (funcs : List Func) (f i : ℕ) (func : Func) (d : Placed) → AreLaidOut funcs → slice_get funcs f ≡ Some func →
    i < length func.insts.items → (get_or func.insts.items i d).addr + (get_or func.insts.items i d).len < 2 ^ 64
inst_below funcs f i func d are is lt =
    let laid = laid_func funcs f func are is in
    let low : func.end ≤ address_end =
    subst (λ (x : Func). x.end ≤ address_end) (get_or_from_slice_get funcs f func func is)
    (are.low f func (slice_get_within funcs f func is)) in
    let le = (follow_bounds func.start func.insts.items func.end laid.follow i d lt).1 in
    omega arith

pub inst_order : (funcs : List Func) (f g i j : ℕ) (func other : Func) (p q : Placed) → AreLaidOut funcs →
    slice_get funcs f ≡ Some func → slice_get funcs g ≡ Some other → slice_get func.insts.items i ≡ Some p →
    slice_get other.insts.items j ≡ Some q → f < g → p.addr ≤ q.addr
inst_order funcs f g i j func other p q are is_func is_other is_p is_q lt =
    let laid = laid_func funcs f func are is_func in
    let laid' = laid_func funcs g other are is_other in
    let low = (follow_at func.start func.insts.items func.end i p laid.follow is_p).1 in
    let high = (follow_at other.start other.insts.items other.end j q laid'.follow is_q).0 in
    let apart = funcs_apart funcs f g func other are is_func is_other lt in
    omega arith

pub inst_order-within : (funcs : List Func) (f i j : ℕ) (func : Func) (p q : Placed) → AreLaidOut funcs →
    slice_get funcs f ≡ Some func → slice_get func.insts.items i ≡ Some p → slice_get func.insts.items j ≡ Some q → i ≤ j →
    p.addr ≤ q.addr
inst_order-within funcs f i j func p q are is_func is_p is_q le = ⊎_elim
    (λ (less : i < j).
    let laid = laid_func funcs f func are is_func in
    let up = follow_up func.start func.insts.items func.end i j p q laid.follow is_p is_q less in
    omega arith)
    (λ (more : j ≤ i).
    let here : i ≡ j = omega arith in
    let same : Some p ≡ Some q = sym is_p ∙ ap (slice_get func.insts.items) here ∙ is_q in
    let is : p ≡ q = cc in
    let at = ap (λ (x : Placed). x.addr) is in
    omega arith)
    (cases_lt i j)
