-- The code of an accepted file meets the conditions of `emit`.
use Rattle.std.proofs.Common.{◌≡◌, ℕ, ◌+◌, ◌*◌, ◌^◌, ◌≤◌, Some, Bool, true, false, refl, sym, ap, ◌∙◌, subst, arith, inl, inr, ℤ}
use Rattle.std.specs.Prelude.{All, Contains}
use Rattle.rv_code.specs.declared.cell.CellKind.{CellKind}
use Rattle.rv_code.specs.declared.cell.CellKind.TheVariants as kind
use Rattle.rv_code.specs.declared.cell.CodeCell.{CodeCell}
use Rattle.rv_code.specs.declared.inst.Inst.{Inst}
use Rattle.rv_code.specs.declared.inst.Inst.TheVariants.{Lui, Auipc, Jalr}
use Rattle.rv_code.specs.declared.placed.Placed.{Placed}
use Rattle.rv_code.specs.declared.placed.Role.{Role}
use Rattle.rv_code.specs.declared.placed.Role.TheVariants as role
use Rattle.rv_code.specs.isa.Bits.{field}
use Rattle.rv_code.specs.layout.Flow.{insts_of}
use Rattle.rv_code.specs.layout.FunctionLists.{AreLaidOut, address_end}
use Rattle.rv_code.specs.layout.ProgramCode.{CellNames, KindNames, ProgramCode, is_code_address}
use Rattle.elf_image.specs.declared.elf.Elf.{Elf}
use Rattle.elf_code.specs.Cells.{Address, Content, Difference, IsCell, IsField, SameContent, difference, pointer, slot}
use Rattle.elf_code.specs.Functions as functions
use Rattle.elf_code.specs.Functions.{IsNopAt}
use Rattle.elf_code.specs.Parts.{IsInstAt, IsStart, halfword_at}
use Rattle.elf_code.specs.Roles.{Claims, HasRole, RoleIs}
use Rattle.elf_code.specs.Roles as claims
use Rattle.elf_code.proofs.Counts.{can_of}
use Rattle.move_law.specs.Laws.{IsAcceptedCode}
use Rattle.rb_bytes.proofs.ListLemmas.{all_of}
use Rattle.move_law.proofs.code.CellWidths.{field_width, same_address}
use Rattle.move_law.proofs.code.FittingRoles.{RoleFits, Target, has_code_facts}
use Rattle.move_law.proofs.code.Immediates as immediates
use Rattle.move_law.proofs.code.InstLists.{code_at, function_code, inst_at, length_of, start_code}
use Rattle.code_emit.specs.Inputs.{CanMove, FitsRole, IsLowCell, IsLowKind}
use Rattle.code_emit.proofs.Flows.{code_low}

-- An AUIPC isn't a nop.

first_nop : (h : ℕ) → field h 0 2 ≡ 3 → h ≡ 0x0001 → ⊥
first_nop h full e = omega (arith, full, e)

second_nop : (h u : ℕ) → field (u * 2 ^ 16 + h) 0 7 ≡ 0x17 → h ≡ 0x0013 → ⊥
second_nop h u opcode e = omega (arith, opcode, e)

no_nop : (elf : Elf) (a rd : ℕ) (upper : ℤ) → IsInstAt elf a (Auipc rd upper) 4 → IsNopAt elf a → ⊥
no_nop elf a rd upper is nop = by (immediates.full_at elf a (Auipc rd upper) is) nop
  where
    by : immediates.IsFullInst elf a (Auipc rd upper) → IsNopAt elf a → ⊥
    by f (inl e) = first_nop (halfword_at elf a) f.is_full e
    by f (inr e) = second_nop (halfword_at elf a) (halfword_at elf (a + 2)) (f.row).opcode_is e.0

-- the AUIPC of a lower part has a low address
abbrev IsHighLow : Role → Type 0
IsHighLow (role.CallLo hi t) = hi ≤ address_end
IsHighLow (role.Lo hi t) = hi ≤ address_end
IsHighLow _ = Unit {0}

-- A role's instruction has four bytes.

four : (elf : Elf) (a b : ℕ) (i j : Inst) (n : ℕ) → IsInstAt elf a i n → a ≡ b → IsInstAt elf b j 4 → n ≡ 4
four elf a b i j n x same y = sym (length_of elf b i n (subst (λ (z : ℕ). IsInstAt elf z i n) same x)) ∙ length_of elf b j 4 y

module _ (elf : Elf) (code : ProgramCode) (accepted : IsAcceptedCode elf code) (laid : AreLaidOut code.funcs) where
  four_by : (p : Placed) → IsInstAt elf p.addr p.inst p.len → (part : Role) (has : HasRole elf p.addr part) →
      Claims elf has.relocation p.addr has.key part → p.len ≡ 4
  four_by p is part has (claims.call_hi t call at k e) =
      four elf p.addr (has.relocation).place p.inst (Auipc call.pair.rd call.pair.upper) p.len is at call.pair.auipc.is_inst
  four_by p is part has (claims.call_lo t call at k e) =
      four elf p.addr ((has.relocation).place + 4) p.inst
      (Jalr call.pair.link call.pair.base call.pair.lower) p.len is at call.pair.jalr.is_inst
  four_by p is part has (claims.weak_call pair zero_is at k e) =
      four elf p.addr (has.relocation).place p.inst (Auipc pair.rd pair.upper) p.len is at pair.auipc.is_inst
  four_by p is part has (claims.hi t upper at k e) =
      four elf p.addr (has.relocation).place p.inst (Auipc upper.rd upper.upper) p.len is at upper.auipc.has.is_inst
  four_by p is part has (claims.lo hi t lower at k e) =
      four elf p.addr (has.relocation).place p.inst lower.part.inst p.len is at lower.part.there.has.is_inst
  four_by p is part has (claims.abs_hi t part' kind_is rd imm full at k e) =
      four elf p.addr (has.relocation).place p.inst (Lui rd imm) p.len is at full.has.is_inst
  four_by p is part has (claims.abs_lo t part' low inst full imm at k e) =
      four elf p.addr (has.relocation).place p.inst inst p.len is at full.has.is_inst

  target_low : (t : ℕ) → Target code t → t ≤ address_end
  target_low t target = by (is_code_address code.funcs t) refl
    where
      by : (b : Bool) → is_code_address code.funcs t ≡ b → t ≤ address_end
      by true e = code_low code.funcs t laid e
      by false e = target.bounded e

  high_by : (p : Placed) → Contains (insts_of code.funcs) p → (part : Role) (has : HasRole elf p.addr part) →
      Claims elf has.relocation p.addr has.key part → IsHighLow part
  high_by p c part has (claims.call_hi t call at k e) = subst IsHighLow (sym e) tt
  high_by p c part has (claims.call_lo t call at k e) =
      let low = code_low code.funcs p.addr laid (code_at elf accepted.tabled code accepted.code_is p c) in
      subst IsHighLow (sym e) (omega (arith, low, at))
  high_by p c part has (claims.weak_call pair zero_is at k e) = subst IsHighLow (sym e) tt
  high_by p c part has (claims.hi t upper at k e) = subst IsHighLow (sym e) tt
  high_by p c part has (claims.lo hi t lower at k e) =
      let there = lower.auipc.has in
      let part' : functions.IsFunctionPart elf accepted.tabled lower.auipc.start lower.auipc.end =
      functions.code lower.auipc.start lower.auipc.end there.starts.part
      (λ n. no_nop elf hi lower.rd lower.upper there.is_inst (n.nops hi there.starts.starts).0) in
      subst IsHighLow (sym e)
      (code_low code.funcs hi laid
      (function_code elf accepted.tabled code accepted.code_is lower.auipc.start lower.auipc.end hi part' there.starts.starts))
  high_by p c part has (claims.abs_hi t part' kind_is rd imm full at k e) = subst IsHighLow (sym e) tt
  high_by p c part has (claims.abs_lo t part' low inst full imm at k e) = subst IsHighLow (sym e) tt

  role_of : (x : Role) (i : Inst) (n : ℕ) → RoleFits code x i → n ≡ 4 → IsHighLow x → FitsRole x i n
  role_of role.Plain i n r e h = tt
  role_of (role.Hi t) i n r e h = (r.0, e, target_low t r.1)
  role_of (role.CallHi t) i n r e h = (r.0, e, target_low t r.1)
  role_of (role.Lo hi t) i n r e h = (r.0, e, target_low t r.1, h)
  role_of (role.CallLo hi t) i n r e h = (r.0, e, target_low t r.1, h)
  role_of (role.AbsHi t) i n r e h = (r.0, e, code_low code.funcs t laid r.1.code_address)
  role_of (role.AbsLo t) i n r e h = (r.0, e, code_low code.funcs t laid r.1.code_address)

  pub can_move : All CanMove (insts_of code.funcs)
  can_move = all_of CanMove (insts_of code.funcs) (λ p c.
      let x = inst_at elf accepted.tabled code accepted.code_is p c in
      record {
        half = halfword_at elf p.addr;
        next = Some (halfword_at elf (p.addr + 2));
        decodes = x.inst;
        role = by p c x.inst ((has_code_facts elf code accepted).roles p c) x.role;
      })
    where
      by : (p : Placed) → Contains (insts_of code.funcs) p → IsInstAt elf p.addr p.inst p.len → RoleFits code p.role p.inst →
          RoleIs elf p.addr p.role → FitsRole p.role p.inst p.len
      by p c is fits (inr n) = subst (λ (x : Role). FitsRole x p.inst p.len) (sym n.1) tt
      by p c is fits (inl has) =
          role_of p.role p.inst p.len fits (four_by p is p.role has has.claims) (high_by p c p.role has has.claims)

  -- Cells.

  low_kind : (cell : CodeCell) → Contains code.cells cell → (k : CellKind) → cell.kind ≡ k → IsLowKind k
  low_kind cell is_in (kind.Diff to from) e =
      let (k, within, at) = is_in in
      let d = (has_code_facts elf code accepted).diffs to from (k, cell, within, at, e) in
      (target_low to d.0, target_low from d.1)
  low_kind cell is_in (kind.Abs to) e =
      of_field cell_is.content refl (can_of cell_is.counted).is_field (subst (SameContent cell_is.content) e cell_is.same)
    where
      cell_is : IsCell elf accepted.tabled cell
      cell_is = accepted.code_is.cells.only cell is_in

      low : IsStart elf to → to ≤ address_end
      low start =
          let names : CellNames cell to = subst (λ (x : CellKind). KindNames x to) (sym e) refl in
          code_low code.funcs to laid
          (start_code elf accepted.tabled code accepted.code_is to start (functions.cell cell cell_is names))

      of_field : (content : Content) → cell_is.content ≡ content →
          IsField elf accepted.tabled (record { place = cell.addr; width = cell.width; content = cell_is.content }) →
          SameContent content (kind.Abs to) → to ≤ address_end
      of_field (Difference z w) c f same = absurd same
      of_field (Address b) c (pointer q counted address place width to' number start content) same =
          let t : to' ≡ to = same_address to' to (sym content ∙ c ∙ ap Address same) in
          low (subst (IsStart elf) t start)
      of_field (Address b) c (slot q kind_is upper width to' number label start content) same =
          let t : to' ≡ to = same_address to' to (sym content ∙ c ∙ ap Address same) in
          low (subst (IsStart elf) t start)
      of_field (Address b) c (difference q bits to' from' is can whole' whole place width content) same =
          absurd (let t : Difference to' from' ≡ Address b = sym content ∙ c in cc)

  pub low_cells : All IsLowCell code.cells
  low_cells = all_of IsLowCell code.cells (λ cell c.
      let is = accepted.code_is.cells.only cell c in
      record {
        width = field_width elf accepted.tabled (record { place = cell.addr; width = cell.width; content = is.content })
            (can_of is.counted).is_field;
        kind = low_kind cell c cell.kind refl;
      })
