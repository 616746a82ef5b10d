-- Instructions that follow one another, and functions that ascend without overlap.
use Rattle.std.proofs.Common.{◌≡◌, ℕ, zero, suc, ◌+◌, ◌<◌, ◌≤◌, List, [], ◌∷◌, length, get_or, Some, AllPairs, sym, ap, ◌∙◌}
use Rattle.std.proofs.Common.{subst, arith, inl, inr, take, drop}
use Rattle.std.specs.Prelude.{Contains, slice_get}
use Rattle.std.proofs.lemmas.Bool.{cases_order}
use Rattle.std.proofs.lemmas.List.Elements.{All-contains}
use Rattle.std.proofs.lemmas.List.Kept.{AllPairs-cons}
use Rattle.std.proofs.lemmas.Option.{slice_get_within, get_or_from_slice_get, same_Some}
use Rattle.rv_code.specs.declared.placed.Placed.{Placed}
use Rattle.rv_code.specs.declared.placed.Func.{Func}
use Rattle.rv_code.specs.layout.FunctionLists.{Follow, HasLength, IsLaidOut, AreLaidOut}

-- The total length of instructions.
abbrev pub before_of : List Placed → ℕ
before_of [] = 0
before_of (p ∷ ps) = p.len + before_of ps

pub follow_upto : (a : ℕ) (ps : List Placed) (end : ℕ) → Follow a ps end → a ≤ end
follow_upto a [] end f = omega (arith, f)
follow_upto a (p ∷ ps) end f = let rest = follow_upto (a + p.len) ps end f.1 in omega arith

-- Each instruction is between the two ends.
pub follow_bounds : (a : ℕ) (ps : List Placed) (end : ℕ) → Follow a ps end → (k : ℕ) (d : Placed) → k < length ps →
    (a ≤ (get_or ps k d).addr) × ((get_or ps k d).addr + (get_or ps k d).len ≤ end)
follow_bounds a [] end f k d within = absurd (omega (arith, within))
follow_bounds a (p ∷ ps) end f zero d within =
    let at = f.0 in
    let rest = follow_upto (a + p.len) ps end f.1 in
    (omega arith, omega arith)
follow_bounds a (p ∷ ps) end f (suc k) d within =
    let rest = follow_bounds (a + p.len) ps end f.1 k d (omega (arith, within)) in
    let low = rest.0 in
    (omega arith, rest.1)

-- A later instruction starts at or after the end of an earlier one.
pub follow_order : (a : ℕ) (ps : List Placed) (end : ℕ) → Follow a ps end →
    AllPairs (λ p q. p.addr + p.len ≤ q.addr) ps
follow_order a [] end f = λ i j d less within. absurd (omega (arith, within))
follow_order a (p ∷ ps) end f =
    AllPairs-cons (λ p q. p.addr + p.len ≤ q.addr) p ps
    (λ k d within.
    let start = f.0 in
    let low = (follow_bounds (a + p.len) ps end f.1 k d within).0 in
    omega arith)
    (follow_order (a + p.len) ps end f.1)

pub follow_at : (a : ℕ) (ps : List Placed) (end : ℕ) (i : ℕ) (p : Placed) → Follow a ps end → slice_get ps i ≡ Some p →
    (a ≤ p.addr) × (p.addr + p.len ≤ end)
follow_at a ps end i p f at =
    subst (λ (x : Placed). (a ≤ x.addr) × (x.addr + x.len ≤ end)) (get_or_from_slice_get ps i p p at)
    (follow_bounds a ps end f i p (slice_get_within ps i p at))

pub follow_up : (a : ℕ) (ps : List Placed) (end : ℕ) (i j : ℕ) (p q : Placed) → Follow a ps end →
    slice_get ps i ≡ Some p → slice_get ps j ≡ Some q → i < j → p.addr + p.len ≤ q.addr
follow_up a ps end i j p q f at_i at_j less =
    subst (λ (y : Placed). p.addr + p.len ≤ y.addr) (get_or_from_slice_get ps j q p at_j)
    (subst (λ (x : Placed). x.addr + x.len ≤ (get_or ps j p).addr) (get_or_from_slice_get ps i p p at_i)
    (follow_order a ps end f i j p less (slice_get_within ps j q at_j)))

-- The next instruction, and the last one.
pub follow_next : (a : ℕ) (ps : List Placed) (end : ℕ) (i : ℕ) (p q : Placed) → Follow a ps end →
    slice_get ps i ≡ Some p → slice_get ps (suc i) ≡ Some q → q.addr ≡ p.addr + p.len
follow_next a [] end i p q h at_i at_j = absurd (cc)
follow_next a (x ∷ []) end zero p q h at_i at_j = absurd (cc)
follow_next a (x ∷ (y ∷ ps)) end zero p q h at_i at_j =
    let e = same_Some x p at_i in
    let f = same_Some y q at_j in
    let addr : p.addr ≡ a = ap (λ (z : Placed). z.addr) (sym e) ∙ h.0 in
    let len : x.len ≡ p.len = ap (λ (z : Placed). z.len) e in
    let next : q.addr ≡ a + x.len = ap (λ (z : Placed). z.addr) (sym f) ∙ h.1.0 in
    omega (arith, addr, len, next)
follow_next a (x ∷ ps) end (suc i) p q h at_i at_j = follow_next (a + x.len) ps end i p q h.1 at_i at_j

pub follow_last : (a : ℕ) (ps : List Placed) (end : ℕ) (i : ℕ) (p : Placed) → Follow a ps end →
    slice_get ps i ≡ Some p → suc i ≡ length ps → p.addr + p.len ≡ end
follow_last a [] end i p h at is = absurd (cc)
follow_last a (x ∷ []) end zero p h at is =
    let e = same_Some x p at in
    let addr : p.addr ≡ a = ap (λ (z : Placed). z.addr) (sym e) ∙ h.0 in
    let len : x.len ≡ p.len = ap (λ (z : Placed). z.len) e in
    let all = h.1 in
    omega (arith, addr, len, all)
follow_last a (x ∷ (y ∷ ps)) end zero p h at is = absurd (omega (arith, is))
follow_last a (x ∷ ps) end (suc i) p h at is = follow_last (a + x.len) ps end i p h.1 at (omega (arith, is))

pub follow_drop : (n a : ℕ) (ps : List Placed) (end : ℕ) → Follow a ps end → (b : ℕ) × Follow b (drop n ps) end
follow_drop zero a ps end h = (a, h)
follow_drop (suc n) a [] end h = (a, h)
follow_drop (suc n) a (p ∷ ps) end h = follow_drop n (a + p.len) ps end h.1

pub follow_take : (n a : ℕ) (ps : List Placed) (end : ℕ) → Follow a ps end → Follow a (take n ps) (a + before_of (take n ps))
follow_take zero a ps end h = let e : a ≡ a + 0 = omega arith in e
follow_take (suc n) a [] end h = let e : a ≡ a + 0 = omega arith in e
follow_take (suc n) a (p ∷ ps) end h =
    let e : a + p.len + before_of (take n ps) ≡ a + (p.len + before_of (take n ps)) = omega arith in
    (h.0, subst (λ (x : ℕ). Follow (a + p.len) (take n ps) x) e (follow_take n (a + p.len) ps end h.1))

-- Functions.

pub at_contains : {X : Type 0} (xs : List X) (k : ℕ) (x : X) → slice_get xs k ≡ Some x → Contains xs x
at_contains xs k x at = (k, slice_get_within xs k x at, get_or_from_slice_get xs k x x at)

pub laid_func : (funcs : List Func) (f : ℕ) (func : Func) → AreLaidOut funcs → slice_get funcs f ≡ Some func → IsLaidOut func
laid_func funcs f func laid at = All-contains IsLaidOut funcs func laid.each (at_contains funcs f func at)

pub inst_length : (func : Func) (i : ℕ) (p : Placed) → IsLaidOut func → slice_get func.insts.items i ≡ Some p → HasLength p
inst_length func i p laid at = All-contains HasLength func.insts.items p laid.lengths (at_contains func.insts.items i p at)

pub some_length : (p : Placed) → HasLength p → (2 ≤ p.len) × (p.len ≤ 4)
some_length p (inl two) = (omega (arith, two), omega (arith, two))
some_length p (inr four) = (omega (arith, four), omega (arith, four))

-- The instructions of a function are in it and ascend.
pub inst_bounds : (func : Func) → IsLaidOut func → (k : ℕ) (d : Placed) → k < length func.insts.items →
    (func.start ≤ (get_or func.insts.items k d).addr) × ((get_or func.insts.items k d).addr < func.end)
inst_bounds func laid k d within =
    let bounds = follow_bounds func.start func.insts.items func.end laid.follow k d within in
    let end = bounds.1 in
    let some = (some_length (get_or func.insts.items k d) (laid.lengths k d within)).0 in
    (bounds.0, omega arith)

pub insts_rise : (func : Func) → IsLaidOut func → AllPairs (λ p q. p.addr < q.addr) func.insts.items
insts_rise func laid = λ i j d less within.
    let order = follow_order func.start func.insts.items func.end laid.follow i j d less within in
    let some = (some_length (get_or func.insts.items i d) (laid.lengths i d (omega arith))).0 in
    omega arith

pub funcs_apart : (funcs : List Func) (f g : ℕ) (func other : Func) → AreLaidOut funcs → slice_get funcs f ≡ Some func →
    slice_get funcs g ≡ Some other → f < g → func.end ≤ other.start
funcs_apart funcs f g func other laid at_f at_g less =
    let h = laid.apart f g func less (slice_get_within funcs g other at_g) in
    let e = get_or_from_slice_get funcs f func func at_f in
    let k = get_or_from_slice_get funcs g other func at_g in
    let x = ap (λ (y : Func). y.end) e in
    let z = ap (λ (y : Func). y.start) k in
    omega (arith, h, x, z)

-- No two instructions have the same address.
pub inst_once : (funcs : List Func) (f g i j : ℕ) (func other : Func) (p q : Placed) → AreLaidOut funcs →
    slice_get funcs f ≡ Some func → slice_get funcs g ≡ Some other → slice_get func.insts.items i ≡ Some p →
    slice_get other.insts.items j ≡ Some q → p.addr ≡ q.addr → (f ≡ g) × (i ≡ j)
inst_once funcs f g i j func other p q laid at_f at_g at_i at_j e =
    let l = laid_func funcs f func laid at_f in
    let m = laid_func funcs g other laid at_g in
    let x = follow_at func.start func.insts.items func.end i p l.follow at_i in
    let y = follow_at other.start other.insts.items other.end j q m.follow at_j in
    let x0 = x.0 in
    let x1 = x.1 in
    let y0 = y.0 in
    let y1 = y.1 in
    let lp = (some_length p (inst_length func i p l at_i)).0 in
    let lq = (some_length q (inst_length other j q m at_j)).0 in
    elim (cases_order f g) [
      | inl here ↦
          let fo : func ≡ other = some_func (sym at_f ∙ ap (slice_get funcs) here ∙ at_g) in
          let at_q : slice_get func.insts.items j ≡ Some q = subst (λ (z : Func). slice_get z.insts.items j ≡ Some q)
          (sym fo) at_j in
          elim (cases_order i j) [
            | inl there ↦ (here, there)
            | inr apart ↦ elim apart [
              | inl less ↦ let u = follow_up func.start func.insts.items func.end i j p q l.follow at_i at_q less in
                  absurd (omega (arith, u, lp, e))
              | inr more ↦ let u = follow_up func.start func.insts.items func.end j i q p l.follow at_q at_i more in
                  absurd (omega (arith, u, lq, e))
            ]
          ]
      | inr apart ↦ elim apart [
        | inl less ↦ let d = funcs_apart funcs f g func other laid at_f at_g less in absurd (omega (arith, d, x1, y0, lp, e))
        | inr more ↦ let d = funcs_apart funcs g f other func laid at_g at_f more in absurd (omega (arith, d, x0, y1, lq, e))
      ]
    ]
  where
    some_func : Some func ≡ Some other → func ≡ other
    some_func h = cc
