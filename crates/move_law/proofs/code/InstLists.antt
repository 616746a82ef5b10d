-- The lists of instructions of accepted code: each instruction is in its function, and each start that something refers to is in a list.
use Rattle.std.proofs.Common.{◌≡◌, ℕ, zero, ◌+◌, ◌<◌, List, [], ◌∷◌, Option, Some, None, Bool, true, false, refl, sym, ◌∙◌, rules}
use Rattle.std.proofs.Common.{subst, arith, inl, inr, ◌⊎◌}
use Rattle.std.specs.Prelude.{◌==◌, is_some}
use Rattle.std.specs.List.{Contains}
use Rattle.std.proofs.lemmas.Bool.{eq-eqb, eqb-true, ne_eqb}
use Rattle.std.proofs.lemmas.Grind.{common_steps}
use Rattle.rv_code.specs.declared.inst.Inst.{Inst}
use Rattle.rv_code.specs.declared.placed.Placed.{Placed}
use Rattle.rv_code.specs.declared.placed.Func.{Func}
use Rattle.rv_code.specs.layout.ProgramCode.{ProgramCode, is_code_address}
use Rattle.rv_code.specs.layout.Flow.{insts_of, placed_at}
use Rattle.elf_image.specs.declared.elf.Elf.{Elf}
use Rattle.elf_code.specs.FileCode.{IsCodeOf}
use Rattle.elf_code.specs.Functions.{AreInsts, IsFunctionPart, IsNopPart, IsReferred, code, referred}
use Rattle.elf_code.specs.Parts.{length_in, length_at, IsInstIn, IsInstAt, StartsIn, at_start, after, IsStart}
use Rattle.elf_image.specs.memory.LoadedBytes.{byte_at}
use Rattle.elf_code.specs.Roles.{RoleIs}
use Rattle.rb_bytes.proofs.Searches.{find-found}
use Rattle.rb_bytes.proofs.Members.{Contains-there, Contains-cons_cases}
use Rattle.rb_bytes.proofs.ListLemmas.{find_none, from_flat, in_flat}

-- The instruction at an address.

pub record FoundAt (funcs : List Func) (a : ℕ) (p : Placed) : Type 0 where
  pub at : p.addr ≡ a
  pub contains : Contains (insts_of funcs) p

pub found_at : (funcs : List Func) (a : ℕ) (p : Placed) → placed_at funcs a ≡ Some p → FoundAt funcs a p
found_at funcs a p e = grind (arith, common_steps, find-found, eqb-true)

-- Instructions of functions.

pub length_is : (memory : ℕ → Option ℕ) (a : ℕ) (i : Inst) (n : ℕ) → IsInstIn memory a i n → length_in memory a ≡ n
length_is memory a i n (inl d) = grind (arith, common_steps, ne_eqb)
length_is memory a i n (inr d) = grind (arith, common_steps)

pub length_of : (elf : Elf) (a : ℕ) (i : Inst) (n : ℕ) → IsInstAt elf a i n → length_at elf a ≡ n
length_of elf a i n is = length_is (byte_at elf) a i n is

pub record InstIs (elf : Elf) (p : Placed) : Type 0 where
  pub inst : IsInstAt elf p.addr p.inst p.len
  pub role : RoleIs elf p.addr p.role

pub inst_in : (elf : Elf) (a : ℕ) (ps : List Placed) (end : ℕ) (p : Placed) → AreInsts elf a ps end → Contains ps p →
    InstIs elf p
inst_in elf a [] end p are is_in = let l = is_in.1 in absurd (omega (arith, l))
inst_in elf a (q ∷ qs) end p are is_in = by (Contains-cons_cases q qs p is_in) (λ k. inst_in elf (a + q.len) qs end p are.3 k)
  where
    here : InstIs elf q
    here = record {
      inst = subst (λ (n : ℕ). IsInstAt elf n q.inst q.len) (sym are.0) are.1;
      role = subst (λ (n : ℕ). RoleIs elf n q.role) (sym are.0) are.2;
    }

    by : (q ≡ p) ⊎ Contains qs p → (Contains qs p → InstIs elf p) → InstIs elf p
    by (inl same) rest = subst (InstIs elf) same here
    by (inr k) rest = rest k

-- the instructions of a part from a start on: one starts there, and the others follow
record Tail (elf : Elf) (ps : List Placed) (end a : ℕ) : Type 0 where
  first : Placed
  rest : List Placed
  are : AreInsts elf a (first ∷ rest) end
  all : (q : Placed) → Contains (first ∷ rest) q → Contains ps q

tail_at : (elf : Elf) (a : ℕ) (ps : List Placed) (end : ℕ) (all : List Placed) → AreInsts elf a ps end → a < end →
    ((q : Placed) → Contains ps q → Contains all q) → Tail elf all end a
tail_at elf a [] end all are below sub = absurd (omega (arith, are, below))
tail_at elf a (p ∷ ps) end all are below sub = record { first = p; rest = ps; are = are; all = sub }

tail_of : (elf : Elf) (start end : ℕ) (ps : List Placed) → AreInsts elf start ps end → {a : ℕ} → StartsIn elf start end a →
    Tail elf ps end a
tail_of elf start end ps are (at_start below) = tail_at elf start ps end ps are below (λ q k. k)
tail_of elf start end ps are (after a st below) =
    let t = tail_of elf start end ps are st in
    let len : length_at elf a ≡ t.first.len = length_of elf a t.first.inst t.first.len t.are.1 in
    let rest : AreInsts elf (a + length_at elf a) t.rest end = subst (λ (n : ℕ). AreInsts elf (a + n) t.rest end) (sym len)
    t.are.3 in
    tail_at elf (a + length_at elf a) t.rest end ps rest below (λ q k. t.all q (Contains-there t.first t.rest q k))

module _ (elf : Elf) (tabled : List (ℕ × ℕ)) (code' : ProgramCode) (is : IsCodeOf elf tabled code') where
  pub function_code : (start end a : ℕ) → IsFunctionPart elf tabled start end → StartsIn elf start end a →
      is_code_address code'.funcs a ≡ true
  function_code start end a part starts = by (placed_at code'.funcs a) refl
    where
      func : Func
      func = (is.funcs.each start end part).0

      func_in : Contains code'.funcs func
      func_in = (is.funcs.each start end part).1

      insts : AreInsts elf start func.insts.items end
      insts = search (rules, func_in)

      tail : Tail elf func.insts.items end a
      tail = tail_of elf start end func.insts.items insts starts

      there : Contains (insts_of code'.funcs) tail.first
      there = in_flat (λ f. f.insts.items) code'.funcs func tail.first func_in (tail.all tail.first (zero, omega arith, refl))

      by : (o : Option Placed) → placed_at code'.funcs a ≡ o → is_some o ≡ true
      by (Some q) e = refl
      by None e =
          absurd (find_none (λ q. q.addr == a) (insts_of code'.funcs) tail.first e there (eq-eqb tail.first.addr a tail.are.0))

  -- an instruction starts at each start that something refers to
  pub start_code : (a : ℕ) → IsStart elf a → IsReferred elf tabled a → is_code_address code'.funcs a ≡ true
  start_code a start ref = by (is_code_address code'.funcs a) refl
    where
      by : (b : Bool) → is_code_address code'.funcs a ≡ b → b ≡ true
      by true e = refl
      by false e = absurd (not_nops (λ nops. not_function (referred start.start start.end a nops start.is_start.starts ref)))
        where
          not_function : IsFunctionPart elf tabled start.start start.end → ⊥
          not_function part =
              let t = function_code start.start start.end a part start.is_start.starts in
              absurd (let k : false ≡ true = sym e ∙ t in cc)

          not_nops : (IsNopPart elf start.start start.end → ⊥) → ⊥
          not_nops n = not_function (code start.start start.end start.is_start.part n)

  pub code_at : (p : Placed) → Contains (insts_of code'.funcs) p → is_code_address code'.funcs p.addr ≡ true
  code_at p is_in = by (placed_at code'.funcs p.addr) refl
    where
      by : (o : Option Placed) → placed_at code'.funcs p.addr ≡ o → is_some o ≡ true
      by (Some q) e = refl
      by None e = absurd (find_none (λ q. q.addr == p.addr) (insts_of code'.funcs) p e is_in (eq-eqb p.addr p.addr refl))

  pub inst_at : (p : Placed) → Contains (insts_of code'.funcs) p → InstIs elf p
  inst_at p is_in =
      let (func, func_in, p_in) = from_flat (λ f. f.insts.items) code'.funcs p is_in in
      inst_in elf func.start func.insts.items func.end p (is.funcs.only func func_in).insts p_in

  pub role_at : (a : ℕ) (q : Placed) → placed_at code'.funcs a ≡ Some q → RoleIs elf a q.role
  role_at a q e =
      let f = found_at code'.funcs a q e in
      subst (λ (n : ℕ). RoleIs elf n q.role) f.at (inst_at q f.contains).role
