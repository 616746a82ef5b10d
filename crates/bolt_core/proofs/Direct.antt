-- In accepted code, branches and jumps lead to code; and if no branch leaves a whole function, the short ones in it reach their targets.
use Rattle.std.proofs.Common.{◌≡◌, ◌∙◌, refl, sym, subst, ℕ, ◌+◌, ◌<◌, ◌≤◌, ◌⊎◌, inl, inr, Some, Bool, true, false, List, [], ◌∷◌, arith}
use Rattle.std.specs.Prelude.{Contains, IsTrue}
use Rattle.std.proofs.lemmas.List.Elements.{All-contains}
use Rattle.rb_bytes.specs.FirstFault.{IsFree}
use Rattle.rb_bytes.specs.declared.fault.FaultKind.TheVariants.{BadTarget}
use Rattle.rv_code.specs.declared.inst.Inst.{Inst}
use Rattle.rv_code.specs.declared.placed.Block.{Block}
use Rattle.rv_code.specs.declared.placed.Func.{Func}
use Rattle.rv_code.specs.declared.placed.Placed.{Placed}
use Rattle.rv_code.specs.isa.Action.{action_of}
use Rattle.rv_code.specs.isa.HalfRows as rows
use Rattle.rv_code.specs.layout.Flow.{action_at, insts_of, is_call, target, target_of, is_short}
use Rattle.rv_code.specs.layout.FunctionLists.{AreLaidOut, IsLaidOut}
use Rattle.rv_code.specs.layout.ProgramCode.{ProgramCode, is_code_address}
use Rattle.rv_code.proofs.lists.Follows.{inst_bounds}
use Rattle.elf_code.specs.Functions.{AreInsts, IsCodeAddress}
use Rattle.elf_code.specs.Parts.{IsInstAt, StartsIn, after, at_start, halfword_at, length_at}
use Rattle.elf_image.specs.declared.elf.Elf.{Elf}
use Rattle.elf_code.specs.FunctionFaults.{direct}
use Rattle.rb_bytes.proofs.Members.{Contains-cons_cases}
use Rattle.move_law.specs.Laws.{IsAcceptedCode}
use Rattle.rb_bytes.proofs.ListLemmas.{all_of}
use Rattle.move_law.proofs.code.InstLists.{function_code, inst_at, inst_in, length_of}
use Rattle.move_law.proofs.code.InstPlaces.{lies, some_length}
use Rattle.branch_fixup.specs.Inputs.{AreDirect, KeepsShort, LeadsToCode, StaysIn}
use Rattle.func_place.specs.Faults.{HasPlacementFault}
use Rattle.bolt_core.proofs.ShortReach.{stays}

-- A JAL of two bytes saves no return address.

no_call : (row : rows.Row) (half a t : ℕ) → target a (action_of (rows.expansion row half)) ≡ Some t →
    is_call (action_of (rows.expansion row half)) ≡ false
no_call rows.C_ADDI4SPN half a t h = refl
no_call rows.C_LW half a t h = refl
no_call rows.C_LD half a t h = refl
no_call rows.C_SW half a t h = refl
no_call rows.C_SD half a t h = refl
no_call rows.C_ADDI half a t h = refl
no_call rows.C_ADDIW half a t h = refl
no_call rows.C_LI half a t h = refl
no_call rows.C_ADDI16SP half a t h = refl
no_call rows.C_LUI half a t h = refl
no_call rows.C_SRLI half a t h = refl
no_call rows.C_SRAI half a t h = refl
no_call rows.C_ANDI half a t h = refl
no_call rows.C_SUB half a t h = refl
no_call rows.C_XOR half a t h = refl
no_call rows.C_OR half a t h = refl
no_call rows.C_AND half a t h = refl
no_call rows.C_SUBW half a t h = refl
no_call rows.C_ADDW half a t h = refl
no_call rows.C_J half a t h = refl
no_call rows.C_BEQZ half a t h = refl
no_call rows.C_BNEZ half a t h = refl
no_call rows.C_SLLI half a t h = refl
no_call rows.C_LWSP half a t h = refl
no_call rows.C_LDSP half a t h = refl
no_call rows.C_JR half a t h = refl
no_call rows.C_MV half a t h = refl
no_call rows.C_EBREAK half a t h = refl
no_call rows.C_JALR half a t h = absurd (cc)
no_call rows.C_ADD half a t h = refl
no_call rows.C_SWSP half a t h = refl
no_call rows.C_SDSP half a t h = refl

half_row : (half a t : ℕ) (i : Inst) → rows.IsHalf half i → target a (action_of i) ≡ Some t → is_call (action_of i) ≡ false
half_row half a t i (row, matches, same) goes =
    subst (λ (j : Inst). is_call (action_of j) ≡ false) (sym same)
    (no_call row half a t (subst (λ (j : Inst). target a (action_of j) ≡ Some t) same goes))

half_call : (elf : Elf) (p : Placed) → IsInstAt elf p.addr p.inst p.len → (t : ℕ) → target_of p ≡ Some t → p.len ≡ 2 →
    is_call (action_at p) ≡ false
half_call elf p (inl half) t goes two = half_row (halfword_at elf p.addr) p.addr t p.inst half.row goes
half_call elf p (inr full) t goes two = let four = full.four_bytes in absurd (omega (arith, two, four))

-- Instructions of functions start in them.

module _ (elf : Elf) where
  insts_end : (a end : ℕ) (ps : List Placed) → AreInsts elf a ps end → a ≤ end
  insts_end a end [] are = omega (arith, are)
  insts_end a end (p ∷ ps) are = let rest = insts_end (a + p.len) end ps are.3 in omega (arith, rest)

  pub starts_in : (start a end : ℕ) (ps : List Placed) (p : Placed) → AreInsts elf a ps end → (a < end → StartsIn elf start end a) →
      Contains ps p → StartsIn elf start end p.addr
  starts_in start a end [] p are starts is_in = let l = is_in.1 in absurd (omega (arith, l))
  starts_in start a end (q ∷ ps) p are starts is_in =
      by (Contains-cons_cases q ps p is_in) (λ k. starts_in start (a + q.len) end ps p are.3 next k)
    where
      here : StartsIn elf start end a
      here =
          let some = some_length elf a q are.1 in
          let rest = insts_end (a + q.len) end ps are.3 in
          starts (omega (arith, some, rest))

      next : a + q.len < end → StartsIn elf start end (a + q.len)
      next below =
          let len : length_at elf a ≡ q.len = length_of elf a q.inst q.len are.1 in
          subst (λ (n : ℕ). a + n < end → StartsIn elf start end (a + n)) len (λ less. after a here less) below

      by : (q ≡ p) ⊎ Contains ps p → (Contains ps p → StartsIn elf start end p.addr) → StartsIn elf start end p.addr
      by (inl same) rest =
          subst (λ (x : Placed). StartsIn elf start end x.addr) same (subst (StartsIn elf start end) (sym are.0) here)
      by (inr k) rest = rest k

-- an instruction of a function is within it
pub lies_in : (func : Func) → IsLaidOut func → (p : Placed) → Contains func.insts.items p → (func.start ≤ p.addr) × (p.addr < func.end)
lies_in func laid p (k, within, is) =
    subst (λ (q : Placed). (func.start ≤ q.addr) × (q.addr < func.end)) is (inst_bounds func laid k p within)

module _ (elf : Elf) (code : ProgramCode) (accepted : IsAcceptedCode elf code) where
  code_address : (p : Placed) → Contains (insts_of code.funcs) p → IsCodeAddress elf accepted.tabled p.addr
  code_address p is_in =
      let l = lies elf code accepted p is_in in
      let is = accepted.code_is.funcs.only l.func l.contains in
      record {
        start = (l.func).start;
        end = (l.func).end;
        function = is.part;
        starts = starts_in elf (l.func).start (l.func).start (l.func).end (l.func).insts.items p is.insts
            (λ below. at_start below) l.in_func;
      }

  to_code : (p : Placed) → Contains (insts_of code.funcs) p → (t : ℕ) → target_of p ≡ Some t → is_code_address code.funcs t ≡ true
  to_code p is_in t goes = by (is_code_address code.funcs t) refl
    where
      none : is_code_address code.funcs t ≡ false → IsCodeAddress elf accepted.tabled t → ⊥
      none e c =
          let there = function_code elf accepted.tabled code accepted.code_is c.start c.end t c.function c.starts in
          absurd (let both : false ≡ true = sym e ∙ there in cc)

      by : (b : Bool) → is_code_address code.funcs t ≡ b → b ≡ true
      by true e = refl
      by false e = absurd (accepted.no_fault BadTarget p.addr (inr (direct (code_address p is_in) p.inst p.len
          (inst_at elf accepted.tabled code accepted.code_is p is_in).inst t goes (none e))))

  module _ (laid : AreLaidOut code.funcs) (blocks : List Block) (free : IsFree (HasPlacementFault code.funcs blocks)) where
    keeps_short : (func : Func) → Contains code.funcs func → KeepsShort func
    keeps_short func func_in =
        let insts = (accepted.code_is.funcs.only func func_in).insts in
        let between : (p : Placed) → Contains func.insts.items p → (func.start ≤ p.addr) × (p.addr < func.end) =
        λ p p_in. lies_in func (All-contains IsLaidOut code.funcs func laid.each func_in) p p_in in
        all_of (λ p. IsTrue func.whole → IsTrue (is_short p) → StaysIn func p) func.insts.items
        (λ p p_in whole short. stays elf code.funcs blocks laid free func p func_in p_in
        (inst_in elf func.start func.insts.items func.end p insts p_in).inst (between p p_in).0 (between p p_in).1 whole short)

    pub are_direct : AreDirect code.funcs
    are_direct = record {
      lead = all_of (LeadsToCode code.funcs) (insts_of code.funcs) (λ p is_in. record {
        to_code = to_code p is_in;
        short_call = half_call elf p (inst_at elf accepted.tabled code accepted.code_is p is_in).inst;
      });
      stay = all_of KeepsShort code.funcs keeps_short;
    }
