-- Every block has a worst size above 0, so each unit with heat has a size.
use Rattle.std.proofs.Common.{subst, ℕ, ◌≡◌, ◌<◌, ◌≤◌, ◌+◌, ◌-◌, ◌==◌, ⊎_elim, Bool, true, false, Option, Some, None, List, []}
use Rattle.std.proofs.Common.{◌∷◌, length, take, drop, get_or, ◌∙◌, ap, refl, arith}
use Rattle.std.specs.Prelude.{All, IsSomeAnd, if◌then◌else◌, sum_by, slice_index}
use Rattle.std.proofs.lemmas.Bool.{cases_Bool}
use Rattle.std.proofs.lemmas.List.{get_or-take, get_or-drop, length-take, length-drop}
use Rattle.std.proofs.lemmas.List.Elements.{All-head, All-tail}
use Rattle.std.proofs.lemmas.List.Sums.{sum_by-cons, get_or-le-sum_by}
use Rattle.std.proofs.lemmas.Option.{slice_get_within, get_or_from_slice_get}
use Rattle.rv_code.specs.declared.action.Action.{Action}
use Rattle.rv_code.specs.declared.action.Action.TheVariants.{Branch, Jump}
use Rattle.rv_code.specs.declared.placed.Placed.{Placed}
use Rattle.rv_code.specs.declared.placed.Func.{Func}
use Rattle.rv_code.specs.declared.placed.Block.{Block}
use Rattle.rv_code.specs.layout.Blocks.{func_of}
use Rattle.rv_code.specs.layout.Flow.{action_at}
use Rattle.rv_code.specs.layout.FunctionLists.{HasLength, IsLaidOut, AreLaidOut}
use Rattle.rv_code.specs.layout.WorstSizes.{worst_length, worst_block_size, worst_size_of_block}
use Rattle.rv_code.specs.layout.FunctionMembers.{IsOfFunction}
use Rattle.func_place.specs.Units.{unit_sum}

pub has_bytes : (p : Placed) → HasLength p → 0 < p.len
has_bytes p h = ⊎_elim (λ (two : p.len ≡ 2). omega arith) (λ (four : p.len ≡ 4). omega arith) h

some_length : (p : Placed) (a : Action) → action_at p ≡ a → 0 < p.len → 0 < worst_length p
some_length p (Branch test wanted rs1 rs2 imm) e lt = rw e (omega arith)
some_length p (Jump rd imm) e lt = rw e (omega arith)
some_length p _ e lt = rw e lt

pub record IsStretchOf (funcs : List Func) (b : Block) : Type 0 where
  pub func : Func
  pub is_func : func_of funcs b ≡ Some func
  pub ordered : b.first ≤ b.last
  pub within : b.last < length func.insts.items

stretch_from : (funcs : List Func) (b : Block) (o : Option Func) → func_of funcs b ≡ o →
    IsSomeAnd o (λ func. (b.first ≤ b.last) × (b.last < length func.insts.items)) → IsStretchOf funcs b
stretch_from funcs b None is s = absurd s
stretch_from funcs b (Some func) is s = record { func = func; is_func = is; ordered = s.0; within = s.1 }

pub stretch_of : (funcs : List Func) (b : Block) → IsOfFunction funcs b → IsStretchOf funcs b
stretch_of funcs b s = stretch_from funcs b (func_of funcs b) refl s

block_some : (func : Func) (first last : ℕ) → IsLaidOut func → first ≤ last → last < length func.insts.items →
    0 < worst_block_size func first last
block_some func first last laid le lt =
    let insts = func.insts.items in
    let p : Placed = get_or insts first (get_or insts first (no_inst insts lt)) in
    let some =
    some_length p (action_at p) refl (has_bytes p (laid.lengths first (get_or insts first (no_inst insts lt)) (omega arith))) in
    let stretch = take (last + 1 - first) (drop first insts) in
    let dropped = length-drop first insts in
    let count : 0 < length stretch = let l = length-take (last + 1 - first) (drop first insts) in omega arith in
    let d = get_or insts first (no_inst insts lt) in
    let same : get_or stretch 0 d ≡ p = get_or-take (last + 1 - first) (drop first insts) 0 d (omega arith)
    ∙ get_or-drop first insts 0 d ∙ ap (λ (k : ℕ). get_or insts k d) (omega arith) in
    let one : worst_length (get_or stretch 0 d) ≤ sum_by worst_length stretch = get_or-le-sum_by worst_length stretch 0 d count in
    let is : worst_length (get_or stretch 0 d) ≡ worst_length p = ap worst_length same in
    omega arith
  where
    no_inst : (insts : List Placed) → last < length insts → Placed
    no_inst [] l = absurd (omega arith)
    no_inst (q ∷ qs) l = q

pub worst_some : (funcs : List Func) (b : Block) → AreLaidOut funcs → IsOfFunction funcs b → 0 < worst_size_of_block funcs b
worst_some funcs b are s =
    let o = stretch_of funcs b s in
    let func = o.func in
    let f_in = slice_get_within funcs b.func func o.is_func in
    let laid : IsLaidOut func =
    subst IsLaidOut (get_or_from_slice_get funcs b.func func func o.is_func) (are.each b.func func f_in) in
    let bytes = laid.has_bytes in
    rw o.is_func (⊎_elim
    (λ (h : func.whole ≡ true). rw h (omega arith))
    (λ (h : func.whole ≡ false). rw h (block_some func b.first b.last laid o.ordered o.within))
    (cases_Bool func.whole))

-- a unit with heat has a block, and so a size

one_some : (c : Bool) (w s ws ss : ℕ) → 0 < s → (0 < ws → 0 < ss) → 0 < (if c then w else 0) + ws → 0 < (if c then s else 0) + ss
one_some true w s ws ss some rest h = omega arith
one_some false w s ws ss some rest h = let r = rest (omega arith) in omega arith

pub unit_some : (units : List ℕ) (weight size : Block → ℕ) (blocks : List Block) (u : ℕ) → All (λ b. 0 < size b) blocks →
    0 < unit_sum units weight blocks u → 0 < unit_sum units size blocks u
unit_some units weight size [] u all h = h
unit_some units weight size (b ∷ bs) u all h =
    let heats = sum_by-cons (λ (x : Block). if slice_index units x.func == u then weight x else 0) b bs in
    let sizes = sum_by-cons (λ (x : Block). if slice_index units x.func == u then size x else 0) b bs in
    let rest = unit_some units weight size bs u (All-tail (λ (x : Block). 0 < size x) b bs all) in
    rw sizes (one_some (slice_index units b.func == u) (weight b) (size b) (unit_sum units weight bs u) (unit_sum units size bs u)
    (All-head (λ (x : Block). 0 < size x) b bs all) rest (rw heats at h))
