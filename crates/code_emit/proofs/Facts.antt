-- Properties of a map's new addresses, and that all pieces of a plan can be encoded at their addresses.
use Rattle.std.proofs.Common.{◌≡◌, ℕ, ◌+◌, ◌%◌, ◌^◌, ◌<◌, ◌≤◌, List, [], ◌∷◌, ◌++◌, Option, Some, None, true, false, refl, sym}
use Rattle.std.proofs.Common.{ap, subst, arith, inl, inr}
use Rattle.std.specs.Prelude.{All, Contains, IfSome, find, option_map, unwrap_or, ◌==◌, cond}
use Rattle.std.specs.Option.{option_map_or}
use Rattle.std.specs.List.{list_all}
use Rattle.std.proofs.lemmas.List.Elements.{All-contains}
use Rattle.rv_code.specs.declared.layout.Form.{Form}
use Rattle.rv_code.specs.declared.placed.Block.{Block}
use Rattle.rv_code.specs.declared.placed.Placed.{Placed}
use Rattle.rv_code.specs.declared.placed.Func.{Func}
use Rattle.rv_code.specs.declared.placed.Role.{Role}
use Rattle.rv_code.specs.declared.placed.Role.TheVariants as role
use Rattle.rv_code.specs.layout.Blocks.{AreBlocks}
use Rattle.rv_code.specs.layout.Flow.{insts_of, target_of}
use Rattle.rv_code.specs.layout.FunctionLists.{AreLaidOut, Follow, HasLength, address_end}
use Rattle.rv_code.specs.layout.ProgramCode.{ProgramCode}
use Rattle.rv_code.specs.layout.BlockOrders.{HasAllBlocks}
use Rattle.addr_map.specs.declared.span.Span.{Span}
use Rattle.addr_map.specs.Spans.{is_of, new}
use Rattle.addr_map.proofs.Orders.{lines_apart, moved_permutation}
use Rattle.branch_fixup.specs.Inputs.{LeadsToCode}
use Rattle.branch_fixup.specs.Pieces.{Piece, PlacedFrom, end_from, laid_from, length_of}
use Rattle.branch_fixup.specs.Distances.{AllLand, added_leap, new_target, lands, main_leap}
use Rattle.branch_fixup.specs.Strips.{Strip, pieces_of, spans_of, strips_of}
use Rattle.branch_fixup.proofs.Falls.{below_limit, code_at}
use Rattle.rv_code.proofs.lists.Follows.{laid_func, at_contains}
use Rattle.branch_fixup.proofs.Laid.{AreOnce, inside, once_each, placed_from, even_sum}
use Rattle.branch_fixup.proofs.Lists.{at_flat, flat_at}
use Rattle.rb_bytes.proofs.Members.{Contains-cons_cases, Contains-there}
use Rattle.rb_bytes.proofs.ListLemmas.{contains_at}
use Rattle.branch_fixup.proofs.Placed.{are_strips, strips_once}
use Rattle.branch_fixup.proofs.Map.{form_even, length_even}
use Rattle.code_emit.specs.Bytes.{AllCanBeEncoded}
use Rattle.code_emit.specs.Inputs.{AreLow, AreMapped, CanMove, FitsRole, HasLowTargets, IsLowRole}
use Rattle.code_emit.specs.NewInsts.{Made, made, made_from}
use Rattle.code_emit.proofs.CanStand.{AreLowRole, Fitting, all_can}
use Rattle.code_emit.proofs.Flows.{target_low}
use Rattle.code_emit.proofs.Pieces.{inst_of, of_strip, tabled}

-- New addresses.

-- a property of all spans' addresses and of an address holds for its new address
new_has : (P : ℕ → Type 0) (spans : List Span) (t : ℕ) → ((s : Span) → Contains spans s → P s.out) → P t → P (new spans t)
new_has P [] t each itself = itself
new_has P (s ∷ ss) t each itself =
    elim (s.input == t) as (λ b. P (unwrap_or (option_map (λ s. s.out) (cond b (Some s) (find (is_of t) ss))) t)) [
      | true ↦ each s (0, omega arith, refl)
      | false ↦ new_has P ss t (λ x c. each x (Contains-there s ss x c)) itself
    ]

outs_even : (a : ℕ) (ps : List Piece) → a % 2 ≡ 0 → ((q : Piece) → Contains ps q → q.placed.len % 2 ≡ 0) → (s : Span) →
    Contains (laid_from a ps) s → s.out % 2 ≡ 0
outs_even a [] even lens s c = let l = c.1 in absurd (omega (arith, l))
outs_even a (p ∷ ps) even lens s c =
    elim (Contains-cons_cases (record { out = a; len = length_of p; input = p.placed.addr })
    (laid_from (a + length_of p) ps) s c) [
      | inl same ↦ subst (λ (z : Span). z.out % 2 ≡ 0) same even
      | inr later ↦ outs_even (a + length_of p) ps
          (even_sum a (length_of p) even (form_even p.placed.len p.form (lens p (0, omega arith, refl))))
          (λ q h. lens q (Contains-there p ps q h)) s later
    ]

-- Instructions.

pub record IsIn (funcs : List Func) (p : Placed) : Type 0 where
  pub len : p.len % 2 ≡ 0
  pub low : p.addr + p.len ≤ address_end
  pub even : p.addr % 2 ≡ 0

even_at : (a : ℕ) (ps : List Placed) (end : ℕ) → Follow a ps end → a % 2 ≡ 0 → ((p : Placed) → Contains ps p → p.len % 2 ≡ 0) →
    (p : Placed) → Contains ps p → p.addr % 2 ≡ 0
even_at a [] end follow even lens p c = let l = c.1 in absurd (omega (arith, l))
even_at a (q ∷ qs) end follow even lens p c = elim (Contains-cons_cases q qs p c) [
  | inl same ↦ subst (λ (z : Placed). z.addr % 2 ≡ 0) same (subst (λ (n : ℕ). n % 2 ≡ 0) (sym follow.0) even)
  | inr later ↦ even_at (a + q.len) qs end follow.1 (even_sum a q.len even (lens q (0, omega arith, refl)))
      (λ x h. lens x (Contains-there q qs x h)) p later
]

is_in : (funcs : List Func) (p : Placed) → AreLaidOut funcs → Contains (insts_of funcs) p → IsIn funcs p
is_in funcs p laid c =
    let w = at_flat (λ (g : Func). g.insts.items) funcs p c in
    let (i, at) = contains_at w.a.insts.items p w.has in
    let l = laid_func funcs w.i w.a laid w.at in
    let lens : (q : Placed) → Contains w.a.insts.items q → q.len % 2 ≡ 0 =
    λ q h. length_even q (All-contains HasLength w.a.insts.items q l.lengths h) in
    record {
      len = lens p w.has;
      low = below_limit funcs w.i i w.a p laid w.at at;
      even = even_at w.a.start w.a.insts.items w.a.end l.follow l.even lens p w.has;
    }

low_role : (x : Role) (p : Placed) → FitsRole x p.inst p.len → IsLowRole x
low_role role.Plain p s = tt
low_role (role.CallHi t) p s = let h = s.2 in omega (arith, h)
low_role (role.CallLo hi t) p s = let h = s.2 in let k = s.3 in (omega (arith, k), omega (arith, h))
low_role (role.Hi t) p s = let h = s.2 in omega (arith, h)
low_role (role.Lo hi t) p s = let h = s.2 in let k = s.3 in (omega (arith, k), omega (arith, h))
low_role (role.AbsHi t) p s = let h = s.2 in omega (arith, h)
low_role (role.AbsLo t) p s = let h = s.2 in omega (arith, h)

pub low_targets : (funcs : List Func) (p : Placed) → AreLaidOut funcs → All (LeadsToCode funcs) (insts_of funcs) →
    All CanMove (insts_of funcs) → Contains (insts_of funcs) p → HasLowTargets p
low_targets funcs p laid direct can c =
    let low = (is_in funcs p laid c).low in
    record {
      role = low_role p.role p (All-contains CanMove (insts_of funcs) p can c).role;
      goal = by (target_of p) refl;
      end = omega (arith, low);
    }
  where
    by : (o : Option ℕ) → target_of p ≡ o → IfSome o (λ t. t < 2 ^ 62)
    by None e = tt
    by (Some t) e = let h = target_low funcs p t laid direct c e in omega (arith, h)

target_even : (funcs : List Func) (p : Placed) (t : ℕ) → AreLaidOut funcs → All (LeadsToCode funcs) (insts_of funcs) →
    Contains (insts_of funcs) p → target_of p ≡ Some t → t % 2 ≡ 0
target_even funcs p t laid direct c e =
    let x = code_at funcs t ((All-contains (LeadsToCode funcs) (insts_of funcs) p direct c).to_code t e) in
    let there = flat_at (λ (g : Func). g.insts.items) funcs x.f x.func x.p x.at_func
    (at_contains x.func.insts.items x.i x.p x.at_inst) in
    subst (λ (n : ℕ). n % 2 ≡ 0) x.addr (is_in funcs x.p laid there).even

can_join : (xs ys : List Made) → AllCanBeEncoded xs → AllCanBeEncoded ys → AllCanBeEncoded (xs ++ ys)
can_join [] ys h k = k
can_join (x ∷ xs) ys h k = (h.0, can_join xs ys h.1 k)

-- Pieces.

module _ (code : ProgramCode) (blocks : List Block) (order : List ℕ) (laid : AreLaidOut code.funcs)
    (direct : All (LeadsToCode code.funcs) (insts_of code.funcs)) (are : AreBlocks code blocks) (perm : HasAllBlocks blocks order)
    (can : All CanMove (insts_of code.funcs)) (fs : List Form) (base : ℕ) (lines : List Span)
    (m : AreMapped (strips_of code.funcs blocks order) fs base lines) where
  abbrev ss : List Strip
  ss = strips_of code.funcs blocks order

  abbrev ps : List Piece
  ps = pieces_of ss fs

  pub once : AreOnce ps
  once = strips_once ss (are_strips code blocks order laid are perm) fs

  -- the lines of the map give the same new addresses
  pub same_new : (t : ℕ) → new (spans_of ss base fs) t ≡ new lines t
  same_new t =
      ap (λ (o : Option ℕ). unwrap_or o t)
      (moved_permutation (spans_of ss base fs) lines t m.map_is.same (once_each base ps once)
      (lines_apart m.map_is (once_each base ps once)))

  inst : (q : Piece) → Contains ps q → Contains (insts_of code.funcs) q.placed
  inst q c = inst_of code blocks order are perm q (of_strip ss fs q c)

  pub low_new : (t : ℕ) → t ≤ address_end → new (spans_of ss base fs) t ≤ address_end
  low_new t h = new_has (λ (n : ℕ). n ≤ address_end) (spans_of ss base fs) t low h
    where
      low : (s : Span) → Contains (spans_of ss base fs) s → s.out ≤ address_end
      low s c =
          let below : s.out + s.len ≤ end_from base ps =
          All-contains (λ (z : Span). z.out + z.len ≤ end_from base ps) (laid_from base ps) s (inside base ps) c in
          let end = m.low in
          omega (arith, below, end)

  pub are_low : AreLow lines
  are_low t h = subst (λ (n : ℕ). n < 2 ^ 62) (same_new t) (new_has (λ (n : ℕ). n < 2 ^ 62) (spans_of ss base fs) t low h)
    where
      low : (s : Span) → Contains (spans_of ss base fs) s → s.out < 2 ^ 62
      low s c =
          let below : s.out + s.len ≤ end_from base ps =
          All-contains (λ (z : Span). z.out + z.len ≤ end_from base ps) (laid_from base ps) s (inside base ps) c in
          let end = m.low in
          omega (arith, below, end)

  even_new : (t : ℕ) → t % 2 ≡ 0 → new (spans_of ss base fs) t % 2 ≡ 0
  even_new t h =
      new_has (λ (n : ℕ). n % 2 ≡ 0) (spans_of ss base fs) t
      (outs_even base ps m.even (λ q c. (is_in code.funcs q.placed laid (inst q c)).len)) h

  even_goal : (p : Placed) → Contains (insts_of code.funcs) p → new_target (new (spans_of ss base fs)) p % 2 ≡ 0
  even_goal p c = by (target_of p) refl
    where
      by : (o : Option ℕ) → target_of p ≡ o → option_map_or (new (spans_of ss base fs)) o 0 % 2 ≡ 0
      by None e = refl
      by (Some t) e = even_new t (target_even code.funcs p t laid direct c e)

  low_roles : (x : Role) (p : Placed) → FitsRole x p.inst p.len → AreLowRole (new (spans_of ss base fs)) x
  low_roles role.Plain p s = tt
  low_roles (role.CallHi t) p s = low_new t s.2
  low_roles (role.CallLo hi t) p s = tt
  low_roles (role.Hi t) p s = low_new t s.2
  low_roles (role.Lo hi t) p s = tt
  low_roles (role.AbsHi t) p s = low_new t s.2
  low_roles (role.AbsLo t) p s = tt

  fitting : (a : ℕ) (q : Piece) → Contains ps q → a % 2 ≡ 0 →
      list_all lands
      (main_leap (new (spans_of ss base fs)) a q.placed q.form ++ added_leap (new (spans_of ss base fs)) a q.placed q.form)
      ≡ true → Fitting (new (spans_of ss base fs)) a q.placed q.form
  fitting a q c even land =
      let p = q.placed in
      let i = is_in code.funcs p laid (inst q c) in
      let move = All-contains CanMove (insts_of code.funcs) p can (inst q c) in
      let t = tabled ss fs m.forms.by_table q c in
      let low = i.low in
      record {
        half = move.half;
        next = move.next;
        decodes = move.decodes;
        suits = move.role;
        low_role = low_roles p.role p move.role;
        low = low_new p.addr (omega (arith, low));
        even = even;
        even_len = i.len;
        even_goal = even_goal p (inst q c);
        even_fall = even_new (p.addr + p.len) (even_sum p.addr p.len i.even i.len);
        branch = t.branch;
        half_branch = t.half;
        lands = land;
      }

  can_from : (a : ℕ) (qs : List Piece) → a % 2 ≡ 0 → ((q : Piece) → Contains qs q → Contains ps q) →
      AllLand (new (spans_of ss base fs)) a qs → AllCanBeEncoded (made_from (new (spans_of ss base fs)) a qs)
  can_from a [] even sub land = tt
  can_from a (q ∷ qs) even sub land =
      let here = sub q (0, omega arith, refl) in
      let len = (is_in code.funcs q.placed laid (inst q here)).len in
      can_join (made (new (spans_of ss base fs)) a q.placed q.form) (made_from (new (spans_of ss base fs)) (a + length_of q) qs)
      (all_can (new (spans_of ss base fs)) a q.placed q.form (fitting a q here even land.0))
      (can_from (a + length_of q) qs (even_sum a (length_of q) even (form_even q.placed.len q.form len))
      (λ x h. sub x (Contains-there q qs x h)) land.1)

  pub all_stand : AllCanBeEncoded (made_from (new (spans_of ss base fs)) base ps)
  all_stand = can_from base ps m.even (λ q c. c) m.forms.reach

  pub all_placed : PlacedFrom (new (spans_of ss base fs)) base ps
  all_placed = placed_from base ps once
