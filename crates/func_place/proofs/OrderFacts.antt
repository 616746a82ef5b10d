-- Properties of the order of blocks: it contains all blocks, and blocks of tied functions are near each other.
use Rattle.std.proofs.Common.{subst, ℕ, zero, suc, ◌≡◌, ◌<◌, ◌≤◌, ◌+◌, ◌*◌, ◌-◌, ⊎_elim, Bool, true, false, cond, Option}
use Rattle.std.proofs.Common.{Some, List, [], ◌∷◌, ◌++◌, length, get_or, take, drop, arith, refl, sym, ◌∙◌, ap, add-one}
use Rattle.std.specs.Prelude.{◌==◌, All, if◌then◌else◌, sum_by, filter, slice_index, slice_get}
use Rattle.std.specs.List.{range_with_len, flat_map}
use Rattle.std.specs.List.Sorted.{IsPermutation}
use Rattle.std.specs.Option.{option_map_or}
use Rattle.std.proofs.lemmas.Grind.{common_steps}
use Rattle.std.proofs.lemmas.Bool.{cases_lt, cases_Bool}
use Rattle.std.proofs.lemmas.List.{get_or_past}
use Rattle.std.proofs.lemmas.List.FromFn.{get_or-map-range_with_len, length-map-range_with_len}
use Rattle.std.proofs.lemmas.List.Sums.{sum_by-cons, sum_by-append}
use Rattle.std.proofs.lemmas.List.Sorted.{sum_by-IsPermutation}
use Rattle.std.proofs.lemmas.Option.{slice_get_within, slice_get-get_or}
use Rattle.rv_code.specs.declared.placed.Func.{Func}
use Rattle.rv_code.specs.declared.placed.Block.{Block}
use Rattle.rv_code.specs.declared.layout.Chains.{Chains}
use Rattle.rv_code.specs.layout.WorstSizes.{worst_size_of_block, worst_at, near_limit}
use Rattle.rv_code.specs.layout.FunctionMembers.{IsOfFunction}
use Rattle.func_place.specs.Bands.{blocks_of}
use Rattle.rv_code.specs.layout.BlockOrders.{func_of_block, blocks_of_function, HaveAllBlocks, HasAllBlocks, hot_of, cold_of}
use Rattle.func_place.specs.Nearness.{AreTiedNear}
use Rattle.func_place.specs.Placement.{IsPlacement}
use Rattle.func_place.specs.Units.{AreTied, itself, onward, backward, AreUnits, unit_size, members, unit_part, by_unit}
use Rattle.func_place.proofs.Times.{times, times-append, times-flat_map, times-filter_in, times-filter_out, times-range_in, times-range_out}
use Rattle.func_place.proofs.Times.{times-IsPermutation, times-get_or, permutation_from_times, sum-agree, sum-zero, sum-plus, sum-at}
use Rattle.func_place.proofs.UnitClasses.{units_inside}
use Rattle.func_place.proofs.UnitLine.{line_of, line_times, flat, cut_of, order_times, AreOwned, sum_some, units_near}
use Rattle.func_place.proofs.UnitSums.{no_block, no_if}
use Rattle.func_place.proofs.WorstPositive.{stretch_of}
use Rattle.func_place.specs.Clusters.{AreWithinLimit}

-- Double sums.

one_more : (weight : ℕ → ℕ) (b : Bool) (k : ℕ) (rest : List ℕ) →
    sum_by weight (cond b (k ∷ rest) rest) ≡ (if b then weight k else 0) + sum_by weight rest
one_more weight true k rest = sum_by-cons weight k rest
one_more weight false k rest = omega arith

-- sums by class, over all classes
swap : (weight class : ℕ → ℕ) (ks fs : List ℕ) →
    sum_by (λ f. sum_by weight (filter (λ k. class k == f) ks)) fs ≡ sum_by (λ k. weight k * times (class k) fs) ks
swap weight class [] fs = sum-zero (λ f. sum_by weight (filter (λ k. class k == f) [])) fs (λ f some. refl)
swap weight class (k ∷ ks) fs =
    let rest : ℕ → ℕ = λ f. sum_by weight (filter (λ j. class j == f) ks) in
    let here : ℕ → ℕ = λ f. if class k == f then weight k else 0 in
    sum-agree (λ f. sum_by weight (filter (λ j. class j == f) (k ∷ ks))) (λ f. here f + rest f) fs
    (λ f some. one_more weight (class k == f) k (filter (λ j. class j == f) ks))
    ∙ sum-plus here rest fs
    ∙ (let a = sum-at (class k) (weight k) fs in let b = swap weight class ks fs in let e : sum_by here fs + sum_by rest fs
    ≡ weight k * times (class k) fs + sum_by (λ j. weight j * times (class j) fs) ks = omega arith in e)
    ∙ sym (sum_by-cons (λ j. weight j * times (class j) fs) k ks)

flat_sum : (weight : ℕ → ℕ) (g : ℕ → List ℕ) (xs : List ℕ) → sum_by weight (flat_map g xs) ≡ sum_by (λ x. sum_by weight (g x)) xs
flat_sum weight g [] = refl
flat_sum weight g (x ∷ xs) = sum_by-append weight (g x) (flat_map g xs)
    ∙ ap (λ (n : ℕ). sum_by weight (g x) + n) (flat_sum weight g xs) ∙ sym (sum_by-cons (λ (y : ℕ). sum_by weight (g y)) x xs)

shift : (f : ℕ → ℕ) (a n : ℕ) → sum_by f (range_with_len (a + 1) n) ≡ sum_by (λ k. f (k + 1)) (range_with_len a n)
shift f a zero = refl
shift f a (suc n) = sum_by-cons f (a + 1) (range_with_len (a + 1 + 1) n) ∙ ap (λ (m : ℕ). f (a + 1) + m) (shift f (a + 1) n)
    ∙ sym (sum_by-cons (λ k. f (k + 1)) a (range_with_len (a + 1) n))

-- a sum over the indices of a list
sum_range : {A : Type 0} (g : Option A → ℕ) (xs : List A) →
    sum_by (λ k. g (slice_get xs k)) (range_with_len 0 (length xs)) ≡ sum_by (λ x. g (Some x)) xs
sum_range g [] = refl
sum_range g (x ∷ xs) =
    sum_by-cons (λ k. g (slice_get (x ∷ xs) k)) 0 (range_with_len 1 (length xs))
    ∙ ap (λ (m : ℕ). g (Some x) + m) (shift (λ k. g (slice_get (x ∷ xs) k)) 0 (length xs)
    ∙ sum-agree (λ k. g (slice_get (x ∷ xs) (k + 1))) (λ k. g (slice_get xs k)) (range_with_len 0 (length xs))
    (λ k some. ap (λ (i : ℕ). g (slice_get (x ∷ xs) i)) (add-one k)) ∙ sum_range g xs)
    ∙ sym (sum_by-cons (λ y. g (Some y)) x xs)

in_range : (n f : ℕ) → 0 < times f (range_with_len 0 n) → f < n
in_range n f some =
    ⊎_elim (λ (lt : f < n). lt) (λ (ge : n ≤ f). let z = times-range_out f n ge in absurd (omega arith)) (cases_lt f n)

in_filter : (p : ℕ → Bool) (x : ℕ) (xs : List ℕ) → 0 < times x (filter p xs) → (p x ≡ true) × (0 < times x xs)
in_filter p x xs some = ⊎_elim
    (λ (h : p x ≡ true). (h, let e = times-filter_in p x xs h in omega arith))
    (λ (h : p x ≡ false). let z = times-filter_out p x xs h in absurd (omega arith))
    (cases_Bool (p x))

equal : (m n : ℕ) → (m == n) ≡ true → m ≡ n
equal m n h = grind (arith, common_steps)

-- Functions that are tied are in the same unit.

tied_on : {funcs : List Func} {f g : ℕ} (h : ℕ) → AreTied funcs f g → AreTied funcs g h → AreTied funcs f h
tied_on h r itself = r
tied_on h r (onward {g = k} s l) = onward (tied_on k r s) l
tied_on h r (backward {g = k} s l) = backward (tied_on k r s) l

tied_back : {funcs : List Func} {f : ℕ} (h : ℕ) → AreTied funcs f h → AreTied funcs h f
tied_back h itself = itself
tied_back {funcs} {f} h (onward {g = g} r l) = tied_on f (backward itself l) (tied_back g r)
tied_back {funcs} {f} h (backward {g = g} r l) = tied_on f (onward itself l) (tied_back g r)

one_unit : (funcs : List Func) (units : List ℕ) (f g : ℕ) → AreUnits funcs units → f < length funcs → g < length funcs →
    AreTied funcs f g → slice_index units f ≡ slice_index units g
one_unit funcs units f g are f_in g_in tied =
    let low = are.lowest f (slice_index units g) f_in (tied_on (slice_index units g) tied (are.tied g g_in)) in
    let high = are.lowest g (slice_index units f) g_in (tied_on (slice_index units f) (tied_back g tied) (are.tied f f_in)) in
    omega arith

-- A program: its blocks are in functions, and the parts contain all blocks.

owner_is : (blocks : List Block) (k : ℕ) → k < length blocks → func_of_block blocks k ≡ (get_or blocks k no_block).func
owner_is blocks k lt = rw (slice_get-get_or blocks k no_block lt) refl

owner_inside : (funcs : List Func) (blocks : List Block) → All (IsOfFunction funcs) blocks → (k : ℕ) → k < length blocks →
    func_of_block blocks k < length funcs
owner_inside funcs blocks are k lt =
    let o = stretch_of funcs (get_or blocks k no_block) (are k no_block lt) in
    let f_in = slice_get_within funcs (get_or blocks k no_block).func o.func o.is_func in
    let is = owner_is blocks k lt in
    omega arith

unit_in : (funcs : List Func) (units : List ℕ) → AreUnits funcs units → (f : ℕ) → f < length funcs →
    slice_index units f < length funcs
unit_in funcs units are f f_in = units_inside funcs units are f 0 (omega (arith, are.len))

-- how often a block is in the parts of a function
part_times : (funcs : List Func) (blocks : List Block) (chains : Chains) → HaveAllBlocks funcs blocks chains → (k f : ℕ) →
    f < length funcs → times k (hot_of chains f) + times k (cold_of chains f)
    ≡ (if func_of_block blocks k == f then times k (range_with_len 0 (length blocks)) else 0)
part_times funcs blocks chains have k f f_in =
    let all = range_with_len 0 (length blocks) in
    let both = times-append k (hot_of chains f) (cold_of chains f) in
    let p = times-IsPermutation k (blocks_of_function blocks f) (hot_of chains f ++ cold_of chains f) (have f f_in) in
    ⊎_elim
    (λ (h : (func_of_block blocks k == f) ≡ true). rw h (let e =
    times-filter_in (λ j. func_of_block blocks j == f) k all h in omega arith))
    (λ (h : (func_of_block blocks k == f) ≡ false). rw h (let z =
    times-filter_out (λ j. func_of_block blocks j == f) k all h in omega arith))
    (cases_Bool (func_of_block blocks k == f))

unit_times : (part other : ℕ → List ℕ) (units : List ℕ) (k u : ℕ) → times k (unit_part part units u) + times k
    (unit_part other units u) ≡ sum_by (λ f. times k (part f) + times k (other f)) (members units u)
unit_times part other units k u =
    let a = times-flat_map k part (members units u) in
    let b = times-flat_map k other (members units u) in
    let c = sum-plus (λ f. times k (part f)) (λ f. times k (other f)) (members units u) in
    omega arith

value_if : (b : Bool) (v t : ℕ) → t ≡ 1 → (if b then v else 0) * t ≡ (if b then v else 0)
value_if true v t e = rw e (omega arith)
value_if false v t e = omega arith

-- how often a block is in the parts of all units
all_times : (funcs : List Func) (blocks : List Block) (chains : Chains) (units : List ℕ) → AreUnits funcs units →
    All (IsOfFunction funcs) blocks → HaveAllBlocks funcs blocks chains → (k : ℕ) →
    sum_by (λ u. times k (unit_part (hot_of chains) units u) + times k (unit_part (cold_of chains) units u))
    (range_with_len 0 (length units)) ≡ times k (range_with_len 0 (length blocks))
all_times funcs blocks chains units are stretches have k =
    let n = length units in
    let all = range_with_len 0 n in
    let v = times k (range_with_len 0 (length blocks)) in
    let t : ℕ → ℕ = λ f. times k (hot_of chains f) + times k (cold_of chains f) in
    sum-agree (λ u. times k (unit_part (hot_of chains) units u) + times k (unit_part (cold_of chains) units u)) (λ u. sum_by t
    (filter (λ f. slice_index units f == u) all)) all (λ u some. unit_times (hot_of chains) (cold_of chains) units k u)
    ∙ swap t (slice_index units) all all
    ∙ sum-agree (λ f. t f * times (slice_index units f) all) (λ f. if func_of_block blocks k == f then v else 0) all (λ f some.
    let f_in : f < length funcs = let l = in_range n f some in omega (arith, are.len) in
    let u_in = unit_in funcs units are f f_in in
    let one = times-range_in (slice_index units f) n (omega (arith, are.len)) in
    ap (λ (m : ℕ). m * times (slice_index units f) all) (part_times funcs blocks chains have k f f_in)
    ∙ value_if (func_of_block blocks k == f) v (times (slice_index units f) all) one)
    ∙ sum-at (func_of_block blocks k) v all
    ∙ ⊎_elim
    (λ (lt : k < length blocks).
    let o_in = owner_inside funcs blocks stretches k lt in
    let one = times-range_in (func_of_block blocks k) n (omega (arith, are.len)) in
    let e : v * times (func_of_block blocks k) all ≡ v = rw one (omega arith) in e)
    (λ (ge : length blocks ≤ k).
    let z = times-range_out k (length blocks) ge in
    let e : v * times (func_of_block blocks k) all ≡ v = rw z (omega arith) in e)
    (cases_lt k (length blocks))

small_at : (sizes : List ℕ) → AreWithinLimit sizes → (u : ℕ) → slice_index sizes u ≤ near_limit
small_at sizes low u = ⊎_elim (λ (lt : u < length sizes). low u 0 lt)
    (λ (ge : length sizes ≤ u). let z = get_or_past sizes u 0 ge in omega arith) (cases_lt u (length sizes))

-- The order contains all blocks.

pub has_all : (funcs : List Func) (blocks : List Block) (chains : Chains) (pairs : List (ℕ × ℕ × ℕ)) (weight : Block → ℕ)
    (order : List ℕ) → All (IsOfFunction funcs) blocks → (p : IsPlacement funcs blocks chains pairs weight order) →
    AreWithinLimit (by_unit (unit_size funcs p.units blocks) p.units) → HaveAllBlocks funcs blocks chains →
    HasAllBlocks blocks order
has_all funcs blocks chains pairs weight order stretches p low have =
    let units = p.units in
    let o = p.ordered in
    let hot = unit_part (hot_of chains) units in
    let cold = unit_part (cold_of chains) units in
    let sizes = by_unit (unit_size funcs units blocks) units in
    let line = line_of o in
    let cut = cut_of sizes hot cold line (small_at sizes low) in
    let count = length-map-range_with_len
    (λ (u : ℕ). sum_by (λ (b : Block). if slice_index units b.func == u then weight b else 0) blocks) 0 (length units) in
    let same_line : IsPermutation (range_with_len 0 (length units)) line = permutation_from_times
    (range_with_len 0 (length units)) line (λ w. sym (line_times o w ∙ ap (λ (m : ℕ). times w (range_with_len 0 m)) count)) in
    permutation_from_times (range_with_len 0 (length blocks)) order (λ k.
    let t : ℕ → ℕ = λ u. times k (hot u) + times k (cold u) in
    sym (ap (times k) (o.order_is ∙ cut.order_is) ∙ order_times hot cold k cut.bands ∙ ap (sum_by t) cut.line_is
    ∙ sum_by-IsPermutation t (range_with_len 0 (length units)) line same_line
    ∙ all_times funcs blocks chains units p.are_units stretches have k))

-- Blocks of tied functions are near each other.

part_owner : (funcs : List Func) (blocks : List Block) (chains : Chains) (units : List ℕ) (part : ℕ → List ℕ) →
    AreUnits funcs units → ((k f : ℕ) → f < length funcs → 0 < times k (part f) → func_of_block blocks k ≡ f) → (u k : ℕ) →
    0 < times k (unit_part part units u) → slice_index units (func_of_block blocks k) ≡ u
part_owner funcs blocks chains units part are own u k some =
    let s = sum_some (λ f. times k (part f)) (members units u)
    (subst (λ (m : ℕ). 0 < m) (times-flat_map k part (members units u)) some) in
    let f = s.0 in
    let m = in_filter (λ g. slice_index units g == u) f (range_with_len 0 (length units)) s.1 in
    let f_in : f < length funcs = let l = in_range (length units) f m.1 in omega (arith, are.len) in
    ap (slice_index units) (own k f f_in s.2) ∙ equal (slice_index units f) u m.0

function_owner : (funcs : List Func) (blocks : List Block) (chains : Chains) → HaveAllBlocks funcs blocks chains → (k f : ℕ) →
    f < length funcs → 0 < times k (hot_of chains f) + times k (cold_of chains f) → func_of_block blocks k ≡ f
function_owner funcs blocks chains have k f f_in some =
    let e = part_times funcs blocks chains have k f f_in in
    ⊎_elim
    (λ (h : (func_of_block blocks k == f) ≡ true). equal (func_of_block blocks k) f h)
    (λ (h : (func_of_block blocks k == f) ≡ false). let z : times k (hot_of chains f) + times k (cold_of chains f) ≡ 0 = e
    ∙ rw h refl in absurd (omega arith))
    (cases_Bool (func_of_block blocks k == f))

-- the worst sizes of a unit's parts
parts_size : (funcs : List Func) (blocks : List Block) (chains : Chains) (units : List ℕ) → AreUnits funcs units →
    All (IsOfFunction funcs) blocks → HaveAllBlocks funcs blocks chains → (u : ℕ) → let weight = worst_at funcs blocks in
    sum_by weight (unit_part (hot_of chains) units u) + sum_by weight (unit_part (cold_of chains) units u)
    ≡ sum_by (λ k. if slice_index units (func_of_block blocks k) == u then weight k else 0) (range_with_len 0 (length blocks))
parts_size funcs blocks chains units are stretches have u =
    let weight = worst_at funcs blocks in
    let all = range_with_len 0 (length blocks) in
    let fs = members units u in
    let a = flat_sum weight (hot_of chains) fs in
    let b = flat_sum weight (cold_of chains) fs in
    let c = sum-plus (λ f. sum_by weight (hot_of chains f)) (λ f. sum_by weight (cold_of chains f)) fs in
    let inside : (f : ℕ) → 0 < times f fs → f < length funcs = λ f some. let m =
    in_filter (λ g. slice_index units g == u) f (range_with_len 0 (length units)) some in
    let l = in_range (length units) f m.1 in
    omega (arith, are.len) in
    let each : (f : ℕ) → 0 < times f fs →
    sum_by weight (hot_of chains f) + sum_by weight (cold_of chains f)
    ≡ sum_by weight (filter (λ k. func_of_block blocks k == f) all) =
    λ f some. sym (sum_by-append weight (hot_of chains f) (cold_of chains f))
    ∙ sum_by-IsPermutation weight (blocks_of_function blocks f) (hot_of chains f ++ cold_of chains f) (have f (inside f some)) in
    (let e : sum_by weight (unit_part (hot_of chains) units u) + sum_by weight (unit_part (cold_of chains) units u)
    ≡ sum_by (λ f. sum_by weight (hot_of chains f) + sum_by weight (cold_of chains f)) fs = omega arith in e)
    ∙ sum-agree (λ f. sum_by weight (hot_of chains f) + sum_by weight (cold_of chains f))
    (λ f. sum_by weight (filter (λ k. func_of_block blocks k == f) all)) fs each
    ∙ swap weight (func_of_block blocks) all fs
    ∙ sum-agree (λ k. weight k * times (func_of_block blocks k) fs)
    (λ k. if slice_index units (func_of_block blocks k) == u then weight k else 0) all (λ k some.
    let o_in = owner_inside funcs blocks stretches k (in_range (length blocks) k some) in
    let one = times-range_in (func_of_block blocks k) (length units) (omega (arith, are.len)) in
    ⊎_elim
    (λ (h : (slice_index units (func_of_block blocks k) == u) ≡ true). rw h (let t =
    times-filter_in (λ g. slice_index units g == u)
    (func_of_block blocks k) (range_with_len 0 (length units)) h ∙ one in rw t (omega arith)))
    (λ (h : (slice_index units (func_of_block blocks k) == u) ≡ false). rw h (let t =
    times-filter_out (λ g. slice_index units g == u)
    (func_of_block blocks k) (range_with_len 0 (length units)) h in rw t (omega arith)))
    (cases_Bool (slice_index units (func_of_block blocks k) == u)))

size_at : (funcs : List Func) (blocks : List Block) (units : List ℕ) → AreUnits funcs units → All (IsOfFunction funcs) blocks →
    (u : ℕ) → sum_by (λ k. if slice_index units (func_of_block blocks k) == u then worst_at funcs blocks k else 0)
    (range_with_len 0 (length blocks)) ≤ slice_index (by_unit (unit_size funcs units blocks) units) u
size_at funcs blocks units are stretches u = ⊎_elim
    (λ (lt : u < length units).
    let is = sum_range (λ (o : Option Block). if slice_index units (option_map_or (λ b. b.func) o 0) == u
    then option_map_or (worst_size_of_block funcs) o 0 else 0) blocks in
    let at = get_or-map-range_with_len (unit_size funcs units blocks) 0 (length units) u u 0 lt (omega arith) in
    rw (at, is) (omega arith))
    (λ (ge : length units ≤ u).
    let z = sum-zero (λ k. if slice_index units (func_of_block blocks k) == u then worst_at funcs blocks k else 0)
    (range_with_len 0 (length blocks)) (λ k some.
    let o_in = owner_inside funcs blocks stretches k (in_range (length blocks) k some) in
    let u_in = unit_in funcs units are (func_of_block blocks k) o_in in
    no_if (slice_index units (func_of_block blocks k)) u (worst_at funcs blocks k) (λ e. absurd (let l =
    are.len in omega arith))) in
    omega arith)
    (cases_lt u (length units))

pub tied_near : (funcs : List Func) (blocks : List Block) (chains : Chains) (pairs : List (ℕ × ℕ × ℕ)) (weight : Block → ℕ)
    (order : List ℕ) → All (IsOfFunction funcs) blocks → (p : IsPlacement funcs blocks chains pairs weight order) →
    AreWithinLimit (by_unit (unit_size funcs p.units blocks) p.units) → HaveAllBlocks funcs blocks chains →
    AreTiedNear funcs blocks order
tied_near funcs blocks chains pairs weight order stretches p low have i j le lt tied =
    let units = p.units in
    let are = p.are_units in
    let o = p.ordered in
    let hot = unit_part (hot_of chains) units in
    let cold = unit_part (cold_of chains) units in
    let sizes = by_unit (unit_size funcs units blocks) units in
    let line = line_of o in
    let cut = cut_of sizes hot cold line (small_at sizes low) in
    let order_is : order ≡ flat_map (blocks_of hot cold) cut.bands = o.order_is ∙ cut.order_is in
    let all = has_all funcs blocks chains pairs weight order stretches p low have in
    let inside : (m : ℕ) → m < length order → func_of_block blocks (slice_index order m) < length funcs = λ m m_lt.
    let stands = times-get_or order m 0 m_lt in
    let e = times-IsPermutation (slice_index order m) (range_with_len 0 (length blocks)) order all in
    owner_inside funcs blocks stretches (slice_index order m) (in_range (length blocks) (slice_index order m) (omega arith)) in
    let count = length-map-range_with_len
    (λ (u : ℕ). sum_by (λ (b : Block). if slice_index units b.func == u then weight b else 0) blocks) 0 (length units) in
    let owned : AreOwned (λ k. slice_index units (func_of_block blocks k)) (worst_at funcs blocks) sizes hot cold = record {
      hot_own = part_owner funcs blocks chains units (hot_of chains) are
          (λ k f f_in some. function_owner funcs blocks chains have k f f_in (omega arith));
      cold_own = part_owner funcs blocks chains units (cold_of chains) are
          (λ k f f_in some. function_owner funcs blocks chains have k f f_in (omega arith));
      size = λ u. let e = parts_size funcs blocks chains units are stretches have u in
          let s = size_at funcs blocks units are stretches u in omega arith;
    } in
    let once : (u : ℕ) → times u (flat cut.bands) ≤ 1 = λ u.
    let e : times u (flat cut.bands) ≡ times u (range_with_len 0 (length units)) =
    ap (times u) cut.line_is ∙ line_times o u ∙ ap (λ (m : ℕ). times u (range_with_len 0 m)) count in
    ⊎_elim (λ (u_lt : u < length units). let t = times-range_in u (length units) u_lt in omega arith)
    (λ (ge : length units ≤ u). let t = times-range_out u (length units) ge in omega arith) (cases_lt u (length units)) in
    let same_unit : slice_index units (func_of_block blocks (slice_index order i))
    ≡ slice_index units (func_of_block blocks (slice_index order j)) =
    one_unit funcs units (func_of_block blocks (slice_index order i))
    (func_of_block blocks (slice_index order j)) are (inside i (omega arith)) (inside j lt) tied in
    let P : List ℕ → Type 0 = λ xs. j < length xs →
    slice_index units (func_of_block blocks (slice_index xs i)) ≡ slice_index units (func_of_block blocks (slice_index xs j)) →
    sum_by (worst_at funcs blocks) (take (j + 1 - i) (drop i xs)) ≤ near_limit in
    subst P (sym order_is) (units_near owned cut.bands cut.low once i j le) lt same_unit
