-- The roles of accepted code: each fits its instruction, both instructions of a pair have one target, and targets that aren't code have low
-- addresses. All this follows from references without faults.
use Rattle.std.proofs.Common.{◌≡◌, ◌≢◌, ℕ, ◌+◌, ◌*◌, ◌^◌, ◌<◌, ◌≤◌, List, Some, true, false, refl, sym, ap}
use Rattle.std.proofs.Common.{◌∙◌, subst, arith, inl, inr, ◌⊎◌, ℤ, pos}
use Rattle.std.specs.Prelude.{◌==◌, IsTrue, IsSome}
use Rattle.std.specs.List.{Contains, Any}
use Rattle.std.proofs.lemmas.Int.{ints}
use Rattle.std.proofs.lemmas.Bool.{eqb-true, ne_eqb, cases_lt, or_cases}
use Rattle.std.proofs.lemmas.Grind.{common_steps}
use Rattle.rv_code.specs.declared.inst.Inst.{Inst}
use Rattle.rv_code.specs.declared.inst.Inst.TheVariants.{Lui, Auipc, Jalr}
use Rattle.rv_code.specs.declared.cell.CellKind.{CellKind}
use Rattle.rv_code.specs.declared.cell.CellKind.TheVariants as kind
use Rattle.rv_code.specs.declared.placed.Placed.{Placed}
use Rattle.rv_code.specs.declared.placed.Role.{Role}
use Rattle.rv_code.specs.declared.placed.Role.TheVariants as role
use Rattle.rv_code.specs.layout.ProgramCode.{ProgramCode, is_code_address, IsNamed, by_role, by_cell, RoleNames, CellNames, KindNames}
use Rattle.rv_code.specs.layout.Flow.{insts_of, placed_at}
use Rattle.rb_bytes.specs.declared.fault.FaultKind.TheVariants.{RelocMismatch, LoMismatch}
use Rattle.elf_image.specs.declared.elf.Elf.{Elf}
use Rattle.elf_image.specs.declared.relocation.TheConstants.{R_RISCV_CALL, R_RISCV_CALL_PLT}
use Rattle.rb_bytes.specs.FirstFault.{IsFree}
use Rattle.elf_code.specs.CodeFaults.{HasCodeFault}
use Rattle.elf_code.specs.FileCode.{IsCodeOf}
use Rattle.elf_code.specs.Functions as functions
use Rattle.rv_code.specs.layout.FunctionLists.{address_end}
use Rattle.elf_code.specs.Parts.{halfword_at, IsInstAt, IsStart}
use Rattle.elf_code.specs.Relocations.{Relocation, relocations, is_call_pair, is_pcrel_hi}
use Rattle.elf_code.specs.ReferenceFaults.{IsAddress, IsUpper, IsMisfit}
use Rattle.elf_code.specs.ReferenceFaults as faults
use Rattle.elf_code.specs.Roles.{Claims, HasRole, RoleIs, CallPair, CallTo, PcrelLo, PcrelHiTo, PcrelLoTo, lower_immediate}
use Rattle.elf_code.specs.Roles as claims
use Rattle.elf_code.specs.Cells.{IsCell, Content, Difference, Address, Counts, SameContent}
use Rattle.move_law.specs.RelocatedValues.{upper_target}
use Rattle.move_law.specs.SimulationRelation.{HasTarget}
use Rattle.move_law.specs.Laws.{IsAcceptedCode}
use Rattle.move_law.proofs.code.Immediates.{full_at, also_full, auipc_of, lui_of, low_of, low_immediate}
use Rattle.move_law.proofs.code.InstLists.{start_code, code_at, inst_at, role_at}
use Rattle.rv_code.specs.isa.AddressParts.{IsAuipc, IsLui, TakesLower}

-- Facts of the input, whatever the output is.

-- an address that a role or a cell names
pub record Target (code : ProgramCode) (t : ℕ) : Type 0 where
  pub named : is_code_address code.funcs t ≡ true → IsNamed code t
  pub bounded : is_code_address code.funcs t ≡ false → t ≤ address_end

abbrev pub LowerRole : ProgramCode → ℕ → ℕ → Inst → Type 0
LowerRole code hi target inst =
    TakesLower inst × Target code target × ((q : Placed) → placed_at code.funcs hi ≡ Some q → HasTarget q.role →
    upper_target q.role ≡ target)

abbrev pub RoleFits : ProgramCode → Role → Inst → Type 0
RoleFits code role.Plain inst = Unit {0}
RoleFits code (role.Hi target) inst = IsAuipc inst × Target code target
RoleFits code (role.CallHi target) inst = IsAuipc inst × Target code target
RoleFits code (role.Lo hi target) inst = LowerRole code hi target inst
RoleFits code (role.CallLo hi target) inst = LowerRole code hi target inst
RoleFits code (role.AbsHi target) inst =
    IsLui inst × IsNamed code target × Any (λ entry. entry.1 ≡ role.AbsHi target) code.roles
RoleFits code (role.AbsLo target) inst = TakesLower inst × IsNamed code target

pub record CodeFacts (code : ProgramCode) : Type 0 where
  pub roles : (p : Placed) → Contains (insts_of code.funcs) p → RoleFits code p.role p.inst
  pub abs : (t : ℕ) → Any (λ entry. entry.1 ≡ role.AbsHi t) code.roles → IsNamed code t
  pub diffs : (to from : ℕ) → Any (λ cell. cell.kind ≡ kind.Diff to from) code.cells → Target code to × Target code from

-- Numbers.

pub bounded_of : (t : ℕ) → ((IsAddress (pos t) → ⊥) → ⊥) → t ≤ address_end
bounded_of t h = grind (arith, common_steps, cases_lt, ints)

pub same_int : (x y : ℤ) → ((x ≢ y) → ⊥) → x ≡ y
same_int x y h = grind (arith, common_steps)

pub same_pos : (x y : ℕ) → pos x ≡ pos y → x ≡ y
same_pos x y e = cc

-- An instruction is decoded in only one way.

pub same_auipc : (elf : Elf) (a b rd rd' : ℕ) (upper upper' : ℤ) → a ≡ b → IsInstAt elf a (Auipc rd upper) 4 →
    IsInstAt elf b (Auipc rd' upper') 4 → upper ≡ upper'
same_auipc elf a b rd rd' upper upper' same x y = grind (arith, common_steps, full_at)

pub same_jalr : (elf : Elf) (a b rd rd' rs1 rs1' : ℕ) (lower lower' : ℤ) → a ≡ b → IsInstAt elf a (Jalr rd rs1 lower) 4 →
    IsInstAt elf b (Jalr rd' rs1' lower') 4 → (rs1 ≡ rs1') × (lower ≡ lower')
same_jalr elf a b rd rd' rs1 rs1' lower lower' same x y = grind (arith, common_steps, full_at)

-- Call pairs at one place.

pub record SameCall {elf : Elf} {r s : Relocation} (p : CallPair elf r) (q : CallPair elf s) : Type 0 where
  pub uppers : p.upper ≡ q.upper
  pub lowers : p.lower ≡ q.lower
  pub bases : p.base ≡ q.base

pub same_call : (elf : Elf) (r s : Relocation) (p : CallPair elf r) (q : CallPair elf s) → r.place ≡ s.place → SameCall p q
same_call elf r s p q same = grind (arith, common_steps, same_auipc, same_jalr)

-- Types of relocations.

call_kind : (k : ℕ) → ((k == R_RISCV_CALL) ≡ true) ⊎ ((k == R_RISCV_CALL_PLT) ≡ true) → k ≤ 19
call_kind k (inl e) = let h : k ≡ 18 = eqb-true k 18 e in omega (arith, h)
call_kind k (inr e) = let h : k ≡ 19 = eqb-true k 19 e in omega (arith, h)

hi_kind : (k : ℕ) → is_pcrel_hi k ≡ true → 20 ≤ k
hi_kind k e = grind (arith, common_steps, cases_lt, ne_eqb)

kinds_apart : (k k' : ℕ) → is_call_pair k ≡ true → is_pcrel_hi k' ≡ true → k < k'
kinds_apart k k' c h = grind (arith, common_steps, call_kind, or_cases, hi_kind)

module _ (elf : Elf) (tabled : List (ℕ × ℕ)) (code : ProgramCode) (is : IsCodeOf elf tabled code)
    (no_fault : IsFree (HasCodeFault elf tabled)) where
  pub fits : (q : Relocation) → Contains (relocations elf) q → IsMisfit elf q → ⊥
  fits q counts m =
      no_fault RelocMismatch q.place (inl (inl (record { relocation = q; counts = counts; is = m; place_is = refl })))

  -- Targets of roles.

  role_entry : (a : ℕ) (part : Role) → HasRole elf a part → Contains code.roles (a, part)
  role_entry a part has = is.roles.each (a, part) has

  role_named : (a : ℕ) (part : Role) (t : ℕ) → HasRole elf a part → RoleNames part t →
      is_code_address code.funcs t ≡ true → IsNamed code t
  role_named a part t has names there =
      let (k, within, at) = role_entry a part has in
      record { code_address = there; held = by_role (k, (a, part), within, at, names) }

  role_target : (a : ℕ) (part : Role) (t : ℕ) → HasRole elf a part → RoleNames part t →
      (is_code_address code.funcs t ≡ false → t ≤ address_end) → Target code t
  role_target a part t has names low = record { named = role_named a part t has names; bounded = low }

  role_start : (a : ℕ) (part : Role) (t : ℕ) → HasRole elf a part → RoleNames part t → IsStart elf t → IsNamed code t
  role_start a part t has names start =
      role_named a part t has names (start_code elf tabled code is t start (functions.role a part has names))

  -- Calls.

  -- the target of a call's AUIPC, by its role
  call_same : (q : Relocation) (target : ℕ) → CallTo elf q (pos target) → (part : Role) → RoleIs elf q.place part →
      HasTarget part →
      upper_target part ≡ target
  call_same q target call part (inr n) h = absurd (subst HasTarget n.1 h)
  call_same q target call part (inl has) h = by has.claims
    where
      by : Claims elf has.relocation q.place has.key part → upper_target part ≡ target
      by (claims.call_hi t other at k e) =
          let same = same_call elf has.relocation q other.pair call.pair (sym at) in
          let targets : pos t ≡ pos target =
          other.target_is ∙ (rw (sym at, same.uppers, same.lowers) refl) ∙ sym call.target_is in
          ap upper_target e ∙ same_pos t target targets
      by (claims.weak_call pair zero_is at k e) =
          absurd (call.not_zero ((same_call elf q has.relocation call.pair pair at).bases ∙ zero_is))
      by (claims.hi t upper at k e) = absurd (
          let less = kinds_apart q.kind (has.relocation).kind call.pair.is_call upper.is_hi in
          elim (has.first q q.place (role.CallHi target) (claims.call_hi target call refl refl refl)) [
            | inl lower ↦ omega (arith, less, lower)
            | inr (same, _) ↦ omega (arith, less, same)
          ])
      by (claims.call_lo t other at k e) = absurd (subst HasTarget e h)
      by (claims.lo hi' t lower at k e) = absurd (subst HasTarget e h)
      by (claims.abs_hi t part' kind_is rd imm full at k e) = absurd (subst HasTarget e h)
      by (claims.abs_lo t part' low inst full imm at k e) = absurd (subst HasTarget e h)

  call_low : (q : Relocation) (t : ℕ) → CallTo elf q (pos t) → t ≤ address_end
  call_low q t call =
      bounded_of t (λ n. fits q call.pair.counts (IsMisfit.call (faults.IsBadCall.address (pos t) call n)))

  -- Upper and lower parts.

  -- an AUIPC that a lower part names has an upper part, and isn't a call's
  pub has_upper : (q : Relocation) (hi : ℕ) (imm : ℤ) → PcrelLo elf q hi imm → (IsUpper elf hi → ⊥) → ⊥
  has_upper q hi imm part n =
      fits q part.counts (IsMisfit.lower (faults.no_upper part.is_low (λ u. n (subst (IsUpper elf) part.names u))))

  pub same_lower : (q s : Relocation) (hi : ℕ) (x y : ℤ) → PcrelLo elf q hi x → PcrelLo elf s hi y → x ≡ y
  same_lower q s hi x y part part' =
      same_int x y
      (λ n. no_fault LoMismatch hi
      (inl (record { low = q; imm = x; part = part; low' = s; imm' = y; part' = part'; differ = n })))

  -- the pair of a lower part and the upper part of its AUIPC
  upper_to : (q s : Relocation) (hi : ℕ) (target : ℤ) → PcrelLoTo elf q hi target → Contains (relocations elf) s →
      IsTrue (is_pcrel_hi s.kind) → s.place ≡ hi → PcrelHiTo elf s target
  upper_to q s hi target lower counts is_hi at = grind (arith, common_steps)

  pair_low : (q : Relocation) (hi target : ℕ) → PcrelLoTo elf q hi (pos target) → target ≤ address_end
  pair_low q hi target lower = bounded_of target (λ n. has_upper q hi lower.lower lower.part (λ u.
      let s = u.upper.relocation in
      fits s u.upper.counts (IsMisfit.pair (faults.IsBadPair.address (pos target)
      (upper_to q s hi (pos target) lower u.upper.counts u.upper.is u.upper.place_is) n))))

  upper_low : (q : Relocation) (t : ℕ) → PcrelHiTo elf q (pos t) → t ≤ address_end
  upper_low q t upper = bounded_of t (λ n. fits q upper.counts (IsMisfit.pair (faults.IsBadPair.address (pos t) upper n)))

  -- the target of a lower part's AUIPC, by its role
  pair_same : (q : Relocation) (hi target : ℕ) → PcrelLoTo elf q hi (pos target) → (part : Role) → RoleIs elf hi part →
      HasTarget part →
      upper_target part ≡ target
  pair_same q hi target lower part (inr n) h = absurd (subst HasTarget n.1 h)
  pair_same q hi target lower part (inl has) h = by has.claims
    where
      no_call : (is_call_pair (has.relocation).kind ≡ true) → Contains (relocations elf) has.relocation →
          hi ≡ (has.relocation).place → ⊥
      no_call call counts at = has_upper q hi lower.lower lower.part (λ u.
          u.no_call (record { relocation = has.relocation; counts = counts; is = call; place_is = sym at }))

      by : Claims elf has.relocation hi has.key part → upper_target part ≡ target
      by (claims.hi t upper at k e) =
          let uppers = same_auipc elf (has.relocation).place hi upper.rd lower.rd upper.upper lower.upper (sym at)
          upper.auipc.has.is_inst lower.auipc.has.is_inst in
          let part' : PcrelLo elf upper.low hi upper.lower = subst (λ (a : ℕ). PcrelLo elf upper.low a upper.lower)
          (sym at) upper.part in
          let lowers : upper.lower ≡ lower.lower = same_lower upper.low q hi upper.lower lower.lower part' lower.part in
          let targets : pos t ≡ pos target = upper.target_is ∙ (rw (sym at, uppers, lowers) refl) ∙ sym lower.target_is in
          ap upper_target e ∙ same_pos t target targets
      by (claims.call_hi t call at k e) = absurd (no_call call.pair.is_call call.pair.counts at)
      by (claims.weak_call pair zero_is at k e) = absurd (no_call pair.is_call pair.counts at)
      by (claims.call_lo t call at k e) = absurd (subst HasTarget e h)
      by (claims.lo hi' t lower' at k e) = absurd (subst HasTarget e h)
      by (claims.abs_hi t part' kind_is rd imm full at k e) = absurd (subst HasTarget e h)
      by (claims.abs_lo t part' low inst full imm at k e) = absurd (subst HasTarget e h)

  -- Each role fits its instruction.

  auipc_at : (a : ℕ) (inst : Inst) (n : ℕ) → IsInstAt elf a inst n → (rd : ℕ) (upper : ℤ) → IsInstAt elf a (Auipc rd upper) 4 →
      IsAuipc inst
  auipc_at a inst n i rd upper is_inst = grind (arith, common_steps, full_at, also_full, auipc_of)

  low_at : (a : ℕ) (inst : Inst) (n : ℕ) → IsInstAt elf a inst n → (other : Inst) → TakesLower other → IsInstAt elf a other 4 →
      TakesLower inst
  low_at a inst n i other low is_inst = grind (arith, common_steps, full_at, also_full, low_of)

  immediate_low : (kind : ℕ) (inst : Inst) → IsSome (lower_immediate kind inst) → TakesLower inst
  immediate_low kind inst h = grind (arith, common_steps, low_immediate)

  role_fits : (p : Placed) → Contains (insts_of code.funcs) p → RoleFits code p.role p.inst
  role_fits p is_in = by (inst_at elf tabled code is p is_in).role
    where
      -- the instruction at its relocation's place
      at_place : (a : ℕ) → p.addr ≡ a → IsInstAt elf a p.inst p.len
      at_place a at = subst (λ (n : ℕ). IsInstAt elf n p.inst p.len) at (inst_at elf tabled code is p is_in).inst

      target : (part : Role) (t : ℕ) → HasRole elf p.addr part → RoleNames part t →
          (is_code_address code.funcs t ≡ false → t ≤ address_end) →
          Target code t
      target part t has names low = role_target p.addr part t has names low

      of : (part : Role) (has : HasRole elf p.addr part) → Claims elf has.relocation p.addr has.key part →
          RoleFits code part p.inst
      of part has (claims.call_hi t call at k e) =
          let has' : HasRole elf p.addr (role.CallHi t) = subst (HasRole elf p.addr) e has in
          let q = has.relocation in
          subst (λ (x : Role). RoleFits code x p.inst) (sym e) (
            auipc_at q.place p.inst p.len (at_place q.place at) call.pair.rd call.pair.upper call.pair.auipc.is_inst,
            target (role.CallHi t) t has' refl (λ _. call_low q t call),
          )
      of part has (claims.call_lo t call at k e) =
          let q = has.relocation in
          let has' : HasRole elf p.addr (role.CallLo q.place t) = subst (HasRole elf p.addr) e has in
          subst (λ (x : Role). RoleFits code x p.inst) (sym e) (
            low_at (q.place + 4) p.inst p.len (at_place (q.place + 4) at)
                (Jalr call.pair.link call.pair.base call.pair.lower) tt
                call.pair.jalr.is_inst,
            target (role.CallLo q.place t) t has' refl (λ _. call_low q t call),
            (λ s there h. call_same q t call s.role (role_at elf tabled code is q.place s there) h),
          )
      of part has (claims.weak_call pair zero_is at k e) =
          let q = has.relocation in
          let has' : HasRole elf p.addr (role.CallHi q.place) = subst (HasRole elf p.addr) e has in
          let there : is_code_address code.funcs q.place ≡ true = subst (λ (n : ℕ). is_code_address code.funcs n ≡ true) at
          (code_at elf tabled code is p is_in) in
          subst (λ (x : Role). RoleFits code x p.inst) (sym e) (
            auipc_at q.place p.inst p.len (at_place q.place at) pair.rd pair.upper pair.auipc.is_inst,
            target (role.CallHi q.place) q.place has' refl (λ f. absurd (let t : false ≡ true = sym f ∙ there in cc)),
          )
      of part has (claims.hi t upper at k e) =
          let q = has.relocation in
          let has' : HasRole elf p.addr (role.Hi t) = subst (HasRole elf p.addr) e has in
          subst (λ (x : Role). RoleFits code x p.inst) (sym e) (
            auipc_at q.place p.inst p.len (at_place q.place at) upper.rd upper.upper upper.auipc.has.is_inst,
            target (role.Hi t) t has' refl (λ _. upper_low q t upper),
          )
      of part has (claims.lo hi t lower at k e) =
          let q = has.relocation in
          let has' : HasRole elf p.addr (role.Lo hi t) = subst (HasRole elf p.addr) e has in
          subst (λ (x : Role). RoleFits code x p.inst) (sym e) (
            low_at q.place p.inst p.len (at_place q.place at) lower.part.inst
                (low_immediate q.kind lower.part.inst lower.lower lower.part.immediate) lower.part.there.has.is_inst,
            target (role.Lo hi t) t has' refl (λ _. pair_low q hi t lower),
            (λ s there h. pair_same q hi t lower s.role (role_at elf tabled code is hi s there) h),
          )
      of part has (claims.abs_hi t part' kind_is rd imm full at k e) =
          let q = has.relocation in
          let has' : HasRole elf p.addr (role.AbsHi t) = subst (HasRole elf p.addr) e has in
          let f = full_at elf q.place (Lui rd imm) full.has.is_inst in
          let g = also_full elf q.place (Lui rd imm) p.inst p.len f (at_place q.place at) in
          let (n, within, there) = role_entry p.addr (role.AbsHi t) has' in
          subst (λ (x : Role). RoleFits code x p.inst) (sym e) (
            lui_of (halfword_at elf (q.place + 2) * 2 ^ 16 + halfword_at elf q.place) rd imm p.inst f.row g.row,
            role_start p.addr (role.AbsHi t) t has' refl part'.is_code,
            (n, (p.addr, role.AbsHi t), within, there, refl),
          )
      of part has (claims.abs_lo t part' low inst full imm at k e) =
          let q = has.relocation in
          let has' : HasRole elf p.addr (role.AbsLo t) = subst (HasRole elf p.addr) e has in
          subst (λ (x : Role). RoleFits code x p.inst) (sym e) (
            low_at q.place p.inst p.len (at_place q.place at) inst (immediate_low q.kind inst imm) full.has.is_inst,
            role_start p.addr (role.AbsLo t) t has' refl part'.is_code,
          )

      by : RoleIs elf p.addr p.role → RoleFits code p.role p.inst
      by (inr n) = subst (λ (x : Role). RoleFits code x p.inst) (sym n.1) tt
      by (inl has) = of p.role has has.claims

  -- Other named addresses.

  abs_named : (t : ℕ) → Any (λ entry. entry.1 ≡ role.AbsHi t) code.roles → IsNamed code t
  abs_named t (k, entry, within, at, e) = by has.claims
    where
      has : HasRole elf entry.0 (role.AbsHi t)
      has = subst (HasRole elf entry.0) e (is.roles.only entry (k, within, at))

      by : Claims elf has.relocation entry.0 has.key (role.AbsHi t) → IsNamed code t
      by (claims.abs_hi t' part kind_is rd imm full at' k e) =
          let same : t' ≡ t = cc in
          role_start entry.0 (role.AbsHi t) t has refl (subst (IsStart elf) same part.is_code)
      by (claims.call_hi t' call at' k e) = absurd (cc)
      by (claims.call_lo t' call at' k e) = absurd (cc)
      by (claims.weak_call pair zero_is at' k e) = absurd (cc)
      by (claims.hi t' upper at' k e) = absurd (cc)
      by (claims.lo hi t' lower at' k e) = absurd (cc)
      by (claims.abs_lo t' part low inst full imm at' k e) = absurd (cc)

  diff_targets : (to from : ℕ) → Any (λ cell. cell.kind ≡ kind.Diff to from) code.cells → Target code to × Target code from
  diff_targets to from (k, cell, within, at, e) = of_cell (is.cells.only cell (k, within, at))
    where
      named : (a : ℕ) → CellNames cell a → is_code_address code.funcs a ≡ true → IsNamed code a
      named a names there = record { code_address = there; held = by_cell (k, cell, within, at, names) }

      to_named : CellNames cell to
      to_named = subst (λ (x : CellKind). KindNames x to) (sym e) (inl refl)

      from_named : CellNames cell from
      from_named = subst (λ (x : CellKind). KindNames x from) (sym e) (inr refl)

      of_content : (content : Content) →
          Counts elf tabled (record { place = cell.addr; width = cell.width; content = content }) true →
          SameContent content (kind.Diff to from) → Target code to × Target code from
      of_content (Address a) counted same = absurd same
      of_content (Difference z w) counted same =
          let fault : (IsAddress z × IsAddress w → ⊥) → ⊥ = λ n.
          no_fault RelocMismatch cell.addr
          (inl (inr (record { width = cell.width; to = z; from = w; counted = counted; unfit = n }))) in (
            record {
              named = named to to_named;
              bounded = λ _. bounded_of to (λ n. fault (λ a. n (subst IsAddress same.0 a.0)));
            },
            record {
              named = named from from_named;
              bounded = λ _. bounded_of from (λ n. fault (λ a. n (subst IsAddress same.1 a.1)));
            },
          )

      of_cell : IsCell elf tabled cell → Target code to × Target code from
      of_cell c = of_content c.content c.counted (subst (SameContent c.content) e c.same)

  pub code_facts : CodeFacts code
  code_facts = record { roles = role_fits; abs = abs_named; diffs = diff_targets }

pub has_code_facts : (elf : Elf) (code : ProgramCode) → IsAcceptedCode elf code → CodeFacts code
has_code_facts elf code accepted = code_facts elf accepted.tabled code accepted.code_is accepted.no_fault
