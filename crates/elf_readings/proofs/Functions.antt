-- Functions don't depend on the reading.
use Rattle.std.proofs.Common.{◌∙◌, sym, subst, ℕ, ◌+◌, ◌≤◌, inl, inr, List, [], ◌∷◌, arith}
use Rattle.std.proofs.lemmas.Grind.{common_steps}
use Rattle.rv_code.specs.declared.placed.Func.{Func}
use Rattle.rv_code.specs.declared.placed.Placed.{Placed}
use Rattle.elf_image.specs.declared.elf.Elf.{Elf}
use Rattle.elf_code.specs.Functions.{IsNopAt, IsNopPart, IsReferred, IsFunctionPart, IsCodeAddress, AreInsts, IsFunction, AreFunctions}
use Rattle.elf_readings.proofs.Alike.{Alike, back}
use Rattle.elf_readings.proofs.Parts.{part_of, covered_of, code_part_of, length_of, halfword_of, inst_of, starts_of, valid_of, whole_of}
use Rattle.elf_readings.proofs.Roles.{role_of, role_is_of}
use Rattle.elf_readings.proofs.Cells.{cell_of}

nop_at_of : (e e' : Elf) → Alike e e' → (at : ℕ) → IsNopAt e at → IsNopAt e' at
nop_at_of e e' a at (inl half) = inl (sym (halfword_of e e' a at) ∙ half)
nop_at_of e e' a at (inr (low, high)) = inr (sym (halfword_of e e' a at) ∙ low, sym (halfword_of e e' a (at + 2)) ∙ high)

nop_part_of : (e e' : Elf) → Alike e e' → (start end : ℕ) → IsNopPart e start end → IsNopPart e' start end
nop_part_of e e' a start end p = record {
  part = part_of e e' a start end p.part;
  uncovered = λ is. p.uncovered (covered_of e' e (back e e' a) start end is);
  nops = λ at st. let (nop, inside) = p.nops at (starts_of e' e (back e e' a) start end at st) in
      (nop_at_of e e' a at nop, subst (λ (n : ℕ). at + n ≤ end) (length_of e e' a at) inside);
}

referred_of : (e e' : Elf) → Alike e e' → (tabled : List (ℕ × ℕ)) (at : ℕ) → IsReferred e tabled at → IsReferred e' tabled at
referred_of e e' a tabled at (IsReferred.jump start end from inst bytes v to) =
    IsReferred.jump start end from inst bytes (valid_of e e' a start end from inst bytes v) to
referred_of e e' a tabled at (IsReferred.role place role has names) =
    IsReferred.role place role (role_of e e' a place role has) names
referred_of e e' a tabled at (IsReferred.cell cell is names) = IsReferred.cell cell (cell_of e e' a tabled cell is) names
referred_of e e' a tabled at (IsReferred.entry is) = IsReferred.entry (sym a.entry ∙ is)

pub function_part_of : (e e' : Elf) → Alike e e' → (tabled : List (ℕ × ℕ)) (start end : ℕ) → IsFunctionPart e tabled start end →
    IsFunctionPart e' tabled start end
function_part_of e e' a tabled start end (IsFunctionPart.code s n part some) =
    IsFunctionPart.code s n (code_part_of e e' a s n part) (λ nops. some (nop_part_of e' e (back e e' a) s n nops))
function_part_of e e' a tabled start end (IsFunctionPart.referred s n at nops st is) =
    IsFunctionPart.referred s n at (nop_part_of e e' a s n nops) (starts_of e e' a s n at st) (referred_of e e' a tabled at is)
function_part_of e e' a tabled start end (IsFunctionPart.fallen_into s n before at inst bytes nops first v to falls) =
    IsFunctionPart.fallen_into s n before at inst bytes (nop_part_of e e' a s n nops)
    (function_part_of e e' a tabled before s first) (valid_of e e' a before s at inst bytes v) to falls

pub code_address_of : (e e' : Elf) → Alike e e' → (tabled : List (ℕ × ℕ)) (at : ℕ) → IsCodeAddress e tabled at →
    IsCodeAddress e' tabled at
code_address_of e e' a tabled at c = grind (arith, common_steps, function_part_of, starts_of)

insts_of : (e e' : Elf) → Alike e e' → (at : ℕ) (ps : List Placed) (end : ℕ) → AreInsts e at ps end → AreInsts e' at ps end
insts_of e e' a at [] end is = is
insts_of e e' a at (p ∷ ps) end (place, inst, role, rest) =
    (place, inst_of e e' a at p.inst p.len inst, role_is_of e e' a at p.role role, insts_of e e' a (at + p.len) ps end rest)

function_of : (e e' : Elf) → Alike e e' → (tabled : List (ℕ × ℕ)) (func : Func) → IsFunction e tabled func →
    IsFunction e' tabled func
function_of e e' a tabled func f = record {
  part = function_part_of e e' a tabled func.start func.end f.part;
  whole = (
    λ is. whole_of e e' a tabled func.start func.end (f.whole.0 is),
    λ is. f.whole.1 (whole_of e' e (back e e' a) tabled func.start func.end is),
  );
  insts = insts_of e e' a func.start func.insts.items func.end f.insts;
}

pub functions_of : (e e' : Elf) → Alike e e' → (tabled : List (ℕ × ℕ)) (funcs : List Func) → AreFunctions e tabled funcs →
    AreFunctions e' tabled funcs
functions_of e e' a tabled funcs fs = record {
  only = λ func is_in. function_of e e' a tabled func (fs.only func is_in);
  each = λ start end part. fs.each start end (function_part_of e' e (back e e' a) tabled start end part);
  ordered = fs.ordered;
}
