-- The instruction that follows one that falls through: the one that starts at its end; after a call it is the next one of its function.
use Rattle.std.proofs.Common.{◌≡◌, ℕ, zero, suc, ◌+◌, ◌<◌, List, [], ◌∷◌, length, Option, Some, None, Bool, true, false, refl}
use Rattle.std.proofs.Common.{sym, ap, ◌∙◌, subst, arith, inl, inr}
use Rattle.std.specs.Prelude.{◌==◌, ◌&&◌, ◌||◌, not, if◌then◌else◌, is_some, option_map, slice_get}
use Rattle.std.specs.Option.{option_or}
use Rattle.std.proofs.lemmas.Bool.{cases_lt, eq-eqb, eqb-true, ne_eqb}
use Rattle.std.proofs.lemmas.Option.{slice_get_within, same_Some}
use Rattle.rv_code.specs.declared.placed.Placed.{Placed}
use Rattle.rv_code.specs.declared.placed.Func.{Func}
use Rattle.rv_code.specs.layout.Flow.{action_at, falls_at, is_call, is_plain_jump, placed_at, next_in, next_of}
use Rattle.rv_code.specs.layout.FunctionLists.{AreLaidOut}
use Rattle.rv_code.specs.layout.ProgramCode.{is_code_address}
use Rattle.rv_code.specs.machine.Machine.{plus}
use Rattle.move_law.proofs.code.InstLists.{found_at}
use Rattle.branch_fixup.specs.Endings.{fall_of}
use Rattle.branch_fixup.proofs.Falls.{below_limit, code_next, falls_in, falls_nowhere}
use Rattle.rv_code.proofs.lists.Follows.{follow_next, inst_once, laid_func}
use Rattle.rb_bytes.proofs.ListLemmas.{slice_get_found}

-- `next` of a rewrite with these functions
abbrev pub next_among : List Func → Placed → Option ℕ
next_among funcs p =
    if is_call (action_at p)
    then next_of funcs p.addr
    else option_map (λ q. q.addr) (placed_at funcs (plus p.addr p.len))

-- In one function.

next_in_at : (ps : List Placed) (i x : ℕ) (p q : Placed) → slice_get ps i ≡ Some p → slice_get ps (suc i) ≡ Some q →
    p.addr ≡ x → ((j : ℕ) (r : Placed) → slice_get ps j ≡ Some r → r.addr ≡ x → j ≡ i) → next_in ps x ≡ Some q.addr
next_in_at [] i x p q at_i at_j here once = absurd (cc)
next_in_at (a ∷ []) zero x p q at_i at_j here once = absurd (cc)
next_in_at (a ∷ []) (suc i) x p q at_i at_j here once = absurd (cc)
next_in_at (a ∷ b ∷ ps) zero x p q at_i at_j here once =
    rw (eq-eqb a.addr x (ap (λ (z : Placed). z.addr) (same_Some a p at_i) ∙ here))
    (ap (λ (z : Placed). Some z.addr) (same_Some b q at_j))
next_in_at (a ∷ b ∷ ps) (suc i) x p q at_i at_j here once =
    rw (ne_eqb a.addr x (λ e. absurd (let h = once 0 a refl e in omega (arith, h))))
    (next_in_at (b ∷ ps) i x p q at_i at_j here (λ j r at e. let h = once (suc j) r at e in omega (arith, h)))

next_in_none : (ps : List Placed) (x : ℕ) →
    ((j : ℕ) (r : Placed) → slice_get ps j ≡ Some r → suc j < length ps → r.addr ≡ x → ⊥) → next_in ps x ≡ None
next_in_none [] x none = refl
next_in_none (a ∷ []) x none = refl
next_in_none (a ∷ b ∷ ps) x none =
    rw (ne_eqb a.addr x (none 0 a refl (omega arith)))
    (next_in_none (b ∷ ps) x (λ j r at less e. none (suc j) r at (omega (arith, less)) e))

-- In functions.

next_of_none : (fs : List Func) (x : ℕ) → ((g : ℕ) (h : Func) → slice_get fs g ≡ Some h → next_in h.insts.items x ≡ None) →
    next_of fs x ≡ None
next_of_none [] x none = refl
next_of_none (h ∷ fs) x none = rw (none 0 h refl) (next_of_none fs x (λ g k at. none (suc g) k at))

next_of_at : (fs : List Func) (f : ℕ) (func : Func) (x : ℕ) (o : Option ℕ) → slice_get fs f ≡ Some func →
    next_in func.insts.items x ≡ o →
    ((g : ℕ) (h : Func) → slice_get fs g ≡ Some h → (g ≡ f → ⊥) → next_in h.insts.items x ≡ None) → next_of fs x ≡ o
next_of_at [] f func x o at here other = absurd (cc)
next_of_at (h ∷ fs) zero func x o at here other =
    by o (subst (λ (z : Func). next_in z.insts.items x ≡ o) (sym (same_Some h func at)) here)
  where
    by : (o : Option ℕ) → next_in h.insts.items x ≡ o → option_or (next_in h.insts.items x) (next_of fs x) ≡ o
    by None e = rw e (next_of_none fs x (λ g k at_g. other (suc g) k at_g (λ z. absurd (omega (arith, z)))))
    by (Some b) e = rw e refl
next_of_at (h ∷ fs) (suc f) func x o at here other =
    rw (other 0 h refl (λ z. absurd (omega (arith, z))))
    (next_of_at fs f func x o at here (λ g k at_g apart. other (suc g) k at_g (λ z. apart (omega (arith, z)))))

-- Instructions that start at an address.

placed_is : (funcs : List Func) (a : ℕ) →
    option_map (λ q. q.addr) (placed_at funcs a) ≡ (if is_code_address funcs a then Some a else None)
placed_is funcs a = by (placed_at funcs a) refl
  where
    by : (o : Option Placed) → placed_at funcs a ≡ o → option_map (λ q. q.addr) o ≡ (if is_some o then Some a else None)
    by None e = refl
    by (Some q) e = ap Some (found_at funcs a q e).at

module _ (funcs : List Func) (laid : AreLaidOut funcs) (f i : ℕ) (func : Func) (p : Placed)
    (at_f : slice_get funcs f ≡ Some func) (at_i : slice_get func.insts.items i ≡ Some p) where
  -- no other function has an instruction at this address
  others : (g : ℕ) (h : Func) → slice_get funcs g ≡ Some h → (g ≡ f → ⊥) → next_in h.insts.items p.addr ≡ None
  others g h at_g apart =
      next_in_none h.insts.items p.addr
      (λ j r at_j less e. apart (sym (inst_once funcs f g i j func h p r laid at_f at_g at_i at_j (sym e)).0))

  once : (j : ℕ) (r : Placed) → slice_get func.insts.items j ≡ Some r → r.addr ≡ p.addr → j ≡ i
  once j r at_j e = sym (inst_once funcs f f i j func func p r laid at_f at_f at_i at_j (sym e)).1

  pub next_there : suc i < length func.insts.items → next_of funcs p.addr ≡ Some (p.addr + p.len)
  next_there less =
      let (q, at_q) = slice_get_found func.insts.items (suc i) less in
      let e = follow_next func.start func.insts.items func.end i p q (laid_func funcs f func laid at_f).follow at_i at_q in
      next_of_at funcs f func p.addr (Some (p.addr + p.len)) at_f
      (next_in_at func.insts.items i p.addr p q at_i at_q refl once ∙ ap Some e) others

  next_nowhere : i + 1 ≡ length func.insts.items → next_of funcs p.addr ≡ None
  next_nowhere last =
      next_of_at funcs f func p.addr None at_f
      (next_in_none func.insts.items p.addr
      (λ j r at_j less e. let k = once j r at_j e in absurd (omega (arith, k, less, last)))) others

  -- the address to which it falls through
  pub next_falls : is_plain_jump (action_at p) ≡ false → next_among funcs p ≡ fall_of funcs func i p
  next_falls plain = by (is_call (action_at p)) refl
    where
      falls_if : (c l : Bool) → is_call (action_at p) ≡ c → (i + 1 == length func.insts.items) ≡ l →
          falls_at func i p ≡ not (c && l)
      falls_if c l k e = ap (λ (b : Bool). not (b || (is_call (action_at p) && (i + 1 == length func.insts.items)))) plain
          ∙ ap (λ (b : Bool). not (b && (i + 1 == length func.insts.items))) k ∙ ap (λ (b : Bool). not (c && b)) e

      if_call : (c : Bool) → is_call (action_at p) ≡ c →
          next_among funcs p
          ≡ (if c then next_of funcs p.addr else option_map (λ q. q.addr) (placed_at funcs (plus p.addr p.len)))
      if_call c k =
          ap (λ (b : Bool). if b then next_of funcs p.addr else option_map (λ q. q.addr) (placed_at funcs (plus p.addr p.len))) k

      call : (l : Bool) → (i + 1 == length func.insts.items) ≡ l → is_call (action_at p) ≡ true →
          next_among funcs p ≡ fall_of funcs func i p
      call true e k = if_call true k ∙ next_nowhere (eqb-true (i + 1) (length func.insts.items) e)
          ∙ falls_nowhere funcs func i p (falls_if true true k e)
      call false e k =
          let within = slice_get_within func.insts.items i p at_i in
          let less : suc i < length func.insts.items = not_last (length func.insts.items) e within in
          if_call true k ∙ next_there less
          ∙ falls_in funcs func i p (falls_if true false k e) (code_next funcs f i func p laid at_f at_i less)
        where
          not_last : (n : ℕ) → (i + 1 == n) ≡ false → i < n → suc i < n
          not_last n e h = elim (cases_lt (suc i) n) [
            | inl less ↦ less
            | inr not_less ↦ absurd
                (let s : i + 1 ≡ n = omega (arith, h, not_less) in let t : true ≡ false = sym (eq-eqb (i + 1) n s) ∙ e in cc)
          ]

      by : (c : Bool) → is_call (action_at p) ≡ c → next_among funcs p ≡ fall_of funcs func i p
      by true k = call (i + 1 == length func.insts.items) refl k
      by false k =
          let low = below_limit funcs f i func p laid at_f at_i in
          let sum : plus p.addr p.len ≡ p.addr + p.len = omega (arith, low) in
          let falls : falls_at func i p ≡ true = falls_if false (i + 1 == length func.insts.items) k refl in
          if_call false k ∙ ap (λ (a : ℕ). option_map (λ q. q.addr) (placed_at funcs a)) sum ∙ placed_is funcs (p.addr + p.len)
          ∙ sym (ap (λ (b : Bool). if b && is_code_address funcs (p.addr + p.len) then Some (p.addr + p.len) else None) falls)

  -- before another instruction of its function
  pub falls_before : suc i < length func.insts.items → is_plain_jump (action_at p) ≡ false →
      next_among funcs p ≡ Some (p.addr + p.len)
  falls_before less plain =
      let not_last : (i + 1 == length func.insts.items) ≡ false =
      ne_eqb (i + 1) (length func.insts.items) (λ e. absurd (omega (arith, e, less))) in
      next_falls plain
      ∙ sym (falls_in funcs func i p (always (is_call (action_at p)) not_last)
      (code_next funcs f i func p laid at_f at_i less))
    where
      always : (c : Bool) → (i + 1 == length func.insts.items) ≡ false → falls_at func i p ≡ true
      always c e = ap (λ (b : Bool). not (b || (is_call (action_at p) && (i + 1 == length func.insts.items)))) plain
          ∙ ap (λ (b : Bool). not (is_call (action_at p) && b)) e ∙ never (is_call (action_at p))
        where
          never : (c : Bool) → not (c && false) ≡ true
          never true = refl
          never false = refl

fall_value : (c : Bool) (v n : ℕ) → (if c then Some v else None) ≡ Some n → n ≡ v
fall_value true v n e = (let k : Some v ≡ Some n = e in cc)
fall_value false v n e = absurd (let k : None ≡ Some n = e in cc)

pub fall_address : (funcs : List Func) (func : Func) (i : ℕ) (p : Placed) (n : ℕ) → fall_of funcs func i p ≡ Some n →
    n ≡ p.addr + p.len
fall_address funcs func i p n e = fall_value (falls_at func i p && is_code_address funcs (p.addr + p.len)) (p.addr + p.len) n e
