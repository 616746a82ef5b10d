-- The address to which an instruction falls through.
use Rattle.std.proofs.Common.{◌≡◌, ℕ, suc, ◌+◌, ◌<◌, ◌≤◌, List, [], ◌∷◌, length, Option, Some, None, Bool, true, false, refl, sym}
use Rattle.std.proofs.Common.{ap, ◌∙◌, subst, arith, inl, inr}
use Rattle.std.specs.Prelude.{slice_get, ◌==◌, if◌then◌else◌}
use Rattle.std.specs.Option.{option_map_or}
use Rattle.std.proofs.lemmas.Bool.{cases_order, eqb-true, eq-eqb}
use Rattle.std.proofs.lemmas.List.Elements.{All-contains}
use Rattle.std.proofs.lemmas.Option.{slice_get_within, same_Some}
use Rattle.rv_code.specs.declared.placed.Placed.{Placed}
use Rattle.rv_code.specs.declared.placed.Func.{Func}
use Rattle.rv_code.specs.layout.ProgramCode.{is_code_address}
use Rattle.rv_code.specs.layout.FunctionLists.{Follow, AreLaidOut, address_end}
use Rattle.rv_code.specs.layout.Flow.{insts_of, falls_at, fall_target}
use Rattle.branch_fixup.specs.BlockInsts.{func_starts_at}
use Rattle.branch_fixup.specs.Endings.{fall_of}
use Rattle.rv_code.proofs.lists.Follows.{follow_at, follow_next, follow_last, laid_func, inst_length, some_length, funcs_apart, at_contains}
use Rattle.branch_fixup.proofs.Lists.{at_flat, flat_at, find_found, found_find}
use Rattle.rb_bytes.proofs.Tests.{bool_same}
use Rattle.rb_bytes.proofs.ListLemmas.{slice_get_found, contains_at}

-- An instruction of a function, by its indices.
pub record CodeAt (funcs : List Func) (a : ℕ) : Type 0 where
  pub f : ℕ
  pub func : Func
  pub i : ℕ
  pub p : Placed
  pub at_func : slice_get funcs f ≡ Some func
  pub at_inst : slice_get func.insts.items i ≡ Some p
  pub addr : p.addr ≡ a

pub code_there : (funcs : List Func) (f i : ℕ) (func : Func) (p : Placed) → slice_get funcs f ≡ Some func →
    slice_get func.insts.items i ≡ Some p → is_code_address funcs p.addr ≡ true
code_there funcs f i func p at_f at_i =
    let (k, at) = contains_at (insts_of funcs) p (flat_at (λ (g : Func). g.insts.items) funcs f func p at_f
    (at_contains func.insts.items i p at_i)) in
    found_find (λ (q : Placed). q.addr == p.addr) (insts_of funcs) k p at (eq-eqb p.addr p.addr refl)

pub code_at : (funcs : List Func) (a : ℕ) → is_code_address funcs a ≡ true → CodeAt funcs a
code_at funcs a h =
    let r = find_found (λ (q : Placed). q.addr == a) (insts_of funcs) h in
    let w = at_flat (λ (g : Func). g.insts.items) funcs r.x (at_contains (insts_of funcs) r.k r.x r.at) in
    let (i, at) = contains_at w.a.insts.items r.x w.has in
    record { f = w.i; func = w.a; i = i; p = r.x; at_func = w.at; at_inst = at; addr = eqb-true r.x.addr a r.passes }

-- inside a function the next instruction is at the end of an instruction
pub code_next : (funcs : List Func) (f i : ℕ) (func : Func) (p : Placed) → AreLaidOut funcs →
    slice_get funcs f ≡ Some func → slice_get func.insts.items i ≡ Some p → suc i < length func.insts.items →
    is_code_address funcs (p.addr + p.len) ≡ true
code_next funcs f i func p laid at_f at_i less =
    let (q, at_q) = slice_get_found func.insts.items (suc i) less in
    let l = laid_func funcs f func laid at_f in
    let e = follow_next func.start func.insts.items func.end i p q l.follow at_i at_q in
    subst (λ (a : ℕ). is_code_address funcs a ≡ true) e (code_there funcs f (suc i) func q at_f at_q)

first_inst : (start : ℕ) (ps : List Placed) (end : ℕ) → Follow start ps end → start < end →
    (p : Placed) × (slice_get ps 0 ≡ Some p) × (p.addr ≡ start)
first_inst start [] end h less = absurd (omega (arith, h, less))
first_inst start (p ∷ ps) end h less = (p, refl, h.0)

starts_there : (funcs : List Func) (g a : ℕ) (func : Func) → slice_get funcs g ≡ Some func → func.start ≡ a →
    func_starts_at funcs g a ≡ true
starts_there funcs g a func at e = rw at (eq-eqb func.start a e)

start_has : (funcs : List Func) (g a : ℕ) → func_starts_at funcs g a ≡ true →
    (func : Func) × (slice_get funcs g ≡ Some func) × (func.start ≡ a)
start_has funcs g a h = by (slice_get funcs g) refl h
  where
    by : (o : Option Func) → slice_get funcs g ≡ o → option_map_or (λ f. f.start == a) o false ≡ true →
        (func : Func) × (slice_get funcs g ≡ Some func) × (func.start ≡ a)
    by None e k = absurd (cc)
    by (Some func) e k = (func, e, eqb-true func.start a k)

-- at the end of a function there is an instruction exactly if the next function starts there
pub code_end : (funcs : List Func) (f i : ℕ) (func : Func) (p : Placed) → AreLaidOut funcs →
    slice_get funcs f ≡ Some func → slice_get func.insts.items i ≡ Some p → suc i ≡ length func.insts.items →
    is_code_address funcs (p.addr + p.len) ≡ func_starts_at funcs (f + 1) (p.addr + p.len)
code_end funcs f i func p laid at_f at_i last = bool_same (is_code_address funcs (p.addr + p.len))
    (func_starts_at funcs (f + 1) (p.addr + p.len)) forth back
  where
    end : p.addr + p.len ≡ func.end
    end = follow_last func.start func.insts.items func.end i p (laid_func funcs f func laid at_f).follow at_i last

    back : func_starts_at funcs (f + 1) (p.addr + p.len) ≡ true → is_code_address funcs (p.addr + p.len) ≡ true
    back h =
        let (g, at_g, is) = start_has funcs (f + 1) (p.addr + p.len) h in
        let l = laid_func funcs (f + 1) g laid at_g in
        let (q, at_q, first) = first_inst g.start g.insts.items g.end l.follow l.has_bytes in
        subst (λ (a : ℕ). is_code_address funcs a ≡ true) (first ∙ is) (code_there funcs (f + 1) 0 g q at_g at_q)

    forth : is_code_address funcs (p.addr + p.len) ≡ true → func_starts_at funcs (f + 1) (p.addr + p.len) ≡ true
    forth h =
        let c = code_at funcs (p.addr + p.len) h in
        let l = laid_func funcs c.f c.func laid c.at_func in
        let x = follow_at c.func.start c.func.insts.items c.func.end c.i c.p l.follow c.at_inst in
        let x0 = x.0 in
        let x1 = x.1 in
        let len = (some_length c.p (inst_length c.func c.i c.p l c.at_inst)).0 in
        let addr = c.addr in
        elim (cases_order f c.f) [
          | inl same ↦
              let fo : func ≡ c.func = same_Some func c.func (sym at_f ∙ ap (slice_get funcs) same ∙ c.at_func) in
              let e : func.end ≡ c.func.end = ap (λ (z : Func). z.end) fo in
              absurd (omega (arith, end, e, addr, x1, len))
          | inr apart ↦ elim apart [
            | inl less ↦
                let (g, at_g) = slice_get_found funcs (f + 1) (let w = slice_get_within funcs c.f c.func c.at_func in
                omega (arith, less, w)) in
                let lg = laid_func funcs (f + 1) g laid at_g in
                let bytes = lg.has_bytes in
                let d = funcs_apart funcs f (f + 1) func g laid at_f at_g (omega arith) in
                starts_there funcs (f + 1) (p.addr + p.len) g at_g (elim (cases_order (f + 1) c.f) [
                  | inl here ↦
                      let fo : g ≡ c.func = same_Some g c.func (sym at_g ∙ ap (slice_get funcs) here ∙ c.at_func) in
                      let e : g.start ≡ c.func.start = ap (λ (z : Func). z.start) fo in
                      omega (arith, end, e, addr, x0, d)
                  | inr far ↦ elim far [
                    | inl beyond ↦ let u = funcs_apart funcs (f + 1) c.f g c.func laid at_g c.at_func beyond in
                        absurd (omega (arith, end, addr, x0, d, u, bytes))
                    | inr under ↦ absurd (omega (arith, under, less))
                  ]
                ])
            | inr more ↦
                let d = funcs_apart funcs c.f f c.func func laid c.at_func at_f more in
                let m = follow_at func.start func.insts.items func.end i p (laid_func funcs f func laid at_f).follow at_i in
                let m0 = m.0 in
                absurd (omega (arith, end, addr, x1, len, d, m0))
          ]
        ]

-- The cases of falling through.

-- an instruction falls through to the address of `fall_target`
pub falls_to : (func : Func) (i : ℕ) (p : Placed) (next : ℕ) → Some next ≡ fall_target func i p →
    (falls_at func i p ≡ true) × (next ≡ p.addr + p.len)
falls_to func i p next h = by (falls_at func i p) h
  where
    by : (b : Bool) → Some next ≡ (if b then Some (p.addr + p.len) else None) → (b ≡ true) × (next ≡ p.addr + p.len)
    by true e = (refl, cc)
    by false e = absurd (cc)

pub falls_nowhere : (funcs : List Func) (func : Func) (i : ℕ) (p : Placed) → falls_at func i p ≡ false →
    None ≡ fall_of funcs func i p
falls_nowhere funcs func i p h = rw h refl

pub falls_out : (funcs : List Func) (func : Func) (i : ℕ) (p : Placed) → falls_at func i p ≡ true →
    is_code_address funcs (p.addr + p.len) ≡ false → None ≡ fall_of funcs func i p
falls_out funcs func i p h k = rw (h, k) refl

pub falls_in : (funcs : List Func) (func : Func) (i : ℕ) (p : Placed) → falls_at func i p ≡ true →
    is_code_address funcs (p.addr + p.len) ≡ true → Some (p.addr + p.len) ≡ fall_of funcs func i p
falls_in funcs func i p h k = rw (h, k) refl

pub below_limit : (funcs : List Func) (f i : ℕ) (func : Func) (p : Placed) → AreLaidOut funcs →
    slice_get funcs f ≡ Some func → slice_get func.insts.items i ≡ Some p → p.addr + p.len ≤ address_end
below_limit funcs f i func p laid at_f at_i =
    let low : func.end ≤ address_end = All-contains (λ (g : Func). g.end ≤ address_end) funcs func laid.low
    (at_contains funcs f func at_f) in
    let at = (follow_at func.start func.insts.items func.end i p (laid_func funcs f func laid at_f).follow at_i).1 in
    omega (arith, low, at)
