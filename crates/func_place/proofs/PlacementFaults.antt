-- The faults of placement, from the first places that were found.
use Rattle.std.proofs.Common.{◌≡◌, ◌≢◌, sym, ap, subst, refl, ℕ, ◌<◌, ◌≤◌, ⊎_elim, Bool, true, false, Some, List, length, get_or}
use Rattle.std.proofs.Common.{arith, ◌∙◌}
use Rattle.std.specs.Prelude.{All, slice_get, slice_index}
use Rattle.std.proofs.lemmas.Bool.{cases_eq, cases_lt}
use Rattle.std.proofs.lemmas.List.{ext_get_or, get_or_past}
use Rattle.std.proofs.lemmas.List.FromFn.{get_or-map-range_with_len}
use Rattle.std.proofs.lemmas.Option.{slice_get_within, get_or_from_slice_get, slice_get-get_or, same_Some}
use Rattle.rb_bytes.specs.Fault.{fault_at, number_of}
use Rattle.rb_bytes.specs.declared.fault.FaultKind.{FaultKind}
use Rattle.rb_bytes.specs.declared.fault.FaultKind.TheVariants.{UnitTooLong, KeptBranch}
use Rattle.rb_bytes.specs.FirstFault.{IsAnswered, IsFree, LacksBelow}
use Rattle.rv_code.specs.declared.placed.Placed.{Placed}
use Rattle.rv_code.specs.declared.placed.Func.{Func}
use Rattle.rv_code.specs.declared.placed.Block.{Block}
use Rattle.rv_code.specs.layout.FunctionLists.{AreLaidOut}
use Rattle.rv_code.specs.layout.WorstSizes.{near_limit}
use Rattle.func_place.specs.Faults.{IsLongUnit, IsKeptBranch, leaves, HasPlacementFault}
use Rattle.func_place.specs.Units.{AreUnits, unit_size, by_unit}
use Rattle.func_place.specs.internal.FirstFaults.{IsFirstLong, IsFirstKept, StaysIn}
use Rattle.func_place.proofs.InstOrder.{inst_order, inst_order-within}
use Rattle.func_place.specs.Clusters.{AreWithinLimit}

-- the list of units is unique
pub one_list : (funcs : List Func) (xs ys : List ℕ) → AreUnits funcs xs → AreUnits funcs ys → xs ≡ ys
one_list funcs xs ys a b = ext_get_or 0 xs ys (a.len ∙ sym b.len) (λ f lt.
    let f_in : f < length funcs = omega (arith, a.len) in
    let one = a.lowest f (slice_index ys f) f_in (b.tied f f_in) in
    let two = b.lowest f (slice_index xs f) f_in (a.tied f f_in) in
    omega arith)

size_of : (funcs : List Func) (blocks : List Block) (units sizes : List ℕ) (u : ℕ) → AreUnits funcs units →
    sizes ≡ by_unit (unit_size funcs units blocks) units → u < length funcs → slice_index sizes u ≡ unit_size funcs units blocks u
size_of funcs blocks units sizes u are is u_in = ap (λ (xs : List ℕ). slice_index xs u) is
    ∙ get_or-map-range_with_len (unit_size funcs units blocks) 0 (length units) u u 0 (omega (arith, are.len)) (omega arith)

-- a unit that is too long, in any list of units
long_size : (funcs : List Func) (blocks : List Block) (units sizes : List ℕ) (place : ℕ) → AreUnits funcs units → sizes
    ≡ by_unit (unit_size funcs units blocks) units → (long : IsLongUnit funcs blocks place) →
    near_limit < slice_index sizes long.unit
long_size funcs blocks units sizes place are is long =
    let inside = slice_get_within funcs long.unit long.func long.first in
    let same_units = one_list funcs long.units units long.are_units are in
    let size = size_of funcs blocks units sizes long.unit are is inside in
    let other : unit_size funcs long.units blocks long.unit ≡ unit_size funcs units blocks long.unit =
    ap (λ (us : List ℕ). unit_size funcs us blocks long.unit) same_units in
    let large = long.long in
    omega arith

pub no_long : (funcs : List Func) (blocks : List Block) (units sizes : List ℕ) → AreUnits funcs units →
    sizes ≡ by_unit (unit_size funcs units blocks) units → AreWithinLimit sizes → (place : ℕ) →
    IsLongUnit funcs blocks place → ⊥
no_long funcs blocks units sizes are is low place long =
    let large = long_size funcs blocks units sizes place are is long in
    ⊎_elim
    (λ (lt : long.unit < length sizes). let small = low long.unit 0 lt in omega arith)
    (λ (ge : length sizes ≤ long.unit). let past = get_or_past sizes long.unit 0 ge in omega arith)
    (cases_lt long.unit (length sizes))

below_long : (funcs : List Func) (blocks : List Block) → LacksBelow (HasPlacementFault funcs blocks) 18
below_long funcs blocks UnitTooLong low place has = absurd (omega arith)
below_long funcs blocks KeptBranch low place has = absurd (omega arith)
below_long funcs blocks _ low place has = has

least_long : (funcs : List Func) (blocks : List Block) (place : ℕ) →
    ((other : ℕ) → IsLongUnit funcs blocks other → place ≤ other) → (kind : FaultKind) (other : ℕ) → number_of kind ≡ 18 →
    HasPlacementFault funcs blocks kind other → place ≤ other
least_long funcs blocks place least UnitTooLong other e has = least other has
least_long funcs blocks place least KeptBranch other e has = absurd (omega arith)
least_long funcs blocks place least _ other e has = absurd has

start_order : (funcs : List Func) (f g : ℕ) (func other : Func) → AreLaidOut funcs → slice_get funcs f ≡ Some func →
    slice_get funcs g ≡ Some other → f ≤ g → func.start ≤ other.start
start_order funcs f g func other are is_func is_other le = ⊎_elim
    (λ (e : f ≡ g).
    let same_func : func ≡ other = same_Some func other (sym is_func ∙ ap (slice_get funcs) e ∙ is_other) in
    let s = ap (λ (x : Func). x.start) same_func in
    omega arith)
    (λ (ne : f ≢ g).
    let g_in = slice_get_within funcs g other is_other in
    let f_in = slice_get_within funcs f func is_func in
    let apart = are.apart f g func (omega arith) g_in in
    let bytes = (are.each f func f_in).has_bytes in
    let start_is : (get_or funcs f func).start ≡ func.start =
    ap (λ (x : Func). x.start) (get_or_from_slice_get funcs f func func is_func) in
    let other_is : (get_or funcs g func).start ≡ other.start =
    ap (λ (x : Func). x.start) (get_or_from_slice_get funcs g other func is_other) in
    omega arith)
    (cases_eq f g)

pub answered_long : (funcs : List Func) (blocks : List Block) (units sizes : List ℕ) (place : ℕ) → AreLaidOut funcs →
    AreUnits funcs units → sizes ≡ by_unit (unit_size funcs units blocks) units → IsFirstLong funcs sizes place →
    IsAnswered (HasPlacementFault funcs blocks) (fault_at UnitTooLong place)
answered_long funcs blocks units sizes place laid are is first =
    let inside = slice_get_within funcs first.unit first.func first.is_func in
    let size = size_of funcs blocks units sizes first.unit are is inside in
    let large = first.long in
    record {
      present = record {
        units = units;
        are_units = are;
        unit = first.unit;
        func = first.func;
        first = first.is_func;
        start = first.start;
        long = omega arith;
      };
      first = below_long funcs blocks;
      lowest = least_long funcs blocks place (λ other long. ⊎_elim
          (λ (before : long.unit < first.unit).
          let small = first.earlier long.unit before in
          let large = long_size funcs blocks units sizes other are is long in
          absurd (omega arith))
          (λ (after : first.unit ≤ long.unit). let order = start_order funcs first.unit long.unit first.func long.func laid
          first.is_func long.first after in let a = first.start in let b = long.start in omega arith)
          (cases_lt long.unit first.unit));
      alone = refl;
    }

-- A branch that leaves its function.

below_kept : (funcs : List Func) (blocks : List Block) → ((place : ℕ) → IsLongUnit funcs blocks place → ⊥) →
    LacksBelow (HasPlacementFault funcs blocks) 19
below_kept funcs blocks none UnitTooLong low place has = none place has
below_kept funcs blocks none KeptBranch low place has = absurd (omega arith)
below_kept funcs blocks none _ low place has = has

least_kept : (funcs : List Func) (blocks : List Block) (place : ℕ) → ((other : ℕ) → IsKeptBranch funcs other → place ≤ other) →
    (kind : FaultKind) (other : ℕ) → number_of kind ≡ 19 → HasPlacementFault funcs blocks kind other → place ≤ other
least_kept funcs blocks place least UnitTooLong other e has = absurd (omega arith)
least_kept funcs blocks place least KeptBranch other e has = least other has
least_kept funcs blocks place least _ other e has = absurd has

-- the indices of a branch that leaves its function
record IsKeptAt (funcs : List Func) (place : ℕ) : Type 0 where
  f : ℕ
  func : Func
  is_func : slice_get funcs f ≡ Some func
  i : ℕ
  inst : Placed
  is_inst : slice_get func.insts.items i ≡ Some inst
  at : inst.addr ≡ place
  leaves_it : leaves func inst ≡ true

kept_at : (funcs : List Func) (place : ℕ) → IsKeptBranch funcs place → IsKeptAt funcs place
kept_at funcs place (f, func, f_in, func_is, (i, inst, i_in, inst_is, (at, leaves_it))) = record {
  f = f;
  func = func;
  is_func = slice_get-get_or funcs f func f_in ∙ ap Some func_is;
  i = i;
  inst = inst;
  is_inst = slice_get-get_or func.insts.items i inst i_in ∙ ap Some inst_is;
  at = at;
  leaves_it = leaves_it;
}

stays_at : (func : Func) (i : ℕ) (inst : Placed) → StaysIn func → slice_get func.insts.items i ≡ Some inst →
    leaves func inst ≡ true → ⊥
stays_at func i inst stays is leaves_it =
    let no_leave = stays i inst (slice_get_within func.insts.items i inst is) in
    let same_inst = get_or_from_slice_get func.insts.items i inst inst is in
    both (leaves func inst) leaves_it (subst (λ (p : Placed). leaves func p ≡ false) same_inst no_leave)
  where
    both : (b : Bool) → b ≡ true → b ≡ false → ⊥
    both b h k = cc

pub no_kept : (funcs : List Func) → All StaysIn funcs → (place : ℕ) → IsKeptBranch funcs place → ⊥
no_kept funcs all place kept =
    let k = kept_at funcs place kept in
    let f_in = slice_get_within funcs k.f k.func k.is_func in
    stays_at k.func k.i k.inst
    (subst StaysIn (get_or_from_slice_get funcs k.f k.func k.func k.is_func) (all k.f k.func f_in)) k.is_inst k.leaves_it

least_place : (funcs : List Func) (place other : ℕ) → AreLaidOut funcs → IsFirstKept funcs place →
    IsKeptAt funcs other → place ≤ other
least_place funcs place other laid first k =
    let l = first.leaving in
    let start = l.start in
    let at = k.at in
    ⊎_elim
    (λ (before : k.f < first.at). absurd
    (stays_at k.func k.i k.inst (first.earlier k.f k.func before k.is_func) k.is_inst k.leaves_it))
    (λ (after : first.at ≤ k.f). ⊎_elim
    (λ (e : first.at ≡ k.f).
    let same_func : k.func ≡ first.func =
    same_Some k.func first.func (sym k.is_func ∙ ap (slice_get funcs) (sym e) ∙ first.is_func) in
    let is_inst : slice_get first.func.insts.items k.i ≡ Some k.inst =
    subst (λ (x : Func). slice_get x.insts.items k.i ≡ Some k.inst) same_func k.is_inst in
    let leaves_it : leaves first.func k.inst ≡ true = subst (λ (x : Func). leaves x k.inst ≡ true) same_func k.leaves_it in
    ⊎_elim
    (λ (early : k.i < l.at). absurd (both (leaves first.func k.inst) leaves_it (l.earlier k.i k.inst early is_inst)))
    (λ (late : l.at ≤ k.i). let order = inst_order-within funcs first.at l.at k.i first.func l.inst k.inst laid first.is_func
    l.is_inst is_inst late in omega arith)
    (cases_lt k.i l.at))
    (λ (ne : first.at ≢ k.f). let order = inst_order funcs first.at k.f l.at k.i first.func k.func l.inst k.inst laid
    first.is_func k.is_func l.is_inst k.is_inst (omega arith) in omega arith)
    (cases_eq first.at k.f))
    (cases_lt k.f first.at)
  where
    both : (b : Bool) → b ≡ true → b ≡ false → ⊥
    both b h k = cc

pub answered_kept : (funcs : List Func) (blocks : List Block) (place : ℕ) → AreLaidOut funcs →
    ((place : ℕ) → IsLongUnit funcs blocks place → ⊥) → IsFirstKept funcs place →
    IsAnswered (HasPlacementFault funcs blocks) (fault_at KeptBranch place)
answered_kept funcs blocks place laid none first =
    let l = first.leaving in
    let f_in = slice_get_within funcs first.at first.func first.is_func in
    let i_in = slice_get_within first.func.insts.items l.at l.inst l.is_inst in
    record {
      present = (
        first.at,
        first.func,
        f_in,
        get_or_from_slice_get funcs first.at first.func first.func first.is_func,
        (l.at, l.inst, i_in, get_or_from_slice_get first.func.insts.items l.at l.inst l.inst l.is_inst, (l.start, l.leaves_it)),
      );
      first = below_kept funcs blocks none;
      lowest = least_kept funcs blocks place (λ other kept. least_place funcs place other laid first (kept_at funcs other kept));
      alone = refl;
    }

pub no_fault : (funcs : List Func) (blocks : List Block) → ((place : ℕ) → IsLongUnit funcs blocks place → ⊥) →
    ((place : ℕ) → IsKeptBranch funcs place → ⊥) → IsFree (HasPlacementFault funcs blocks)
no_fault funcs blocks long kept UnitTooLong place has = long place has
no_fault funcs blocks long kept KeptBranch place has = kept place has
no_fault funcs blocks long kept _ place has = has
