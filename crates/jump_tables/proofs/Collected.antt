-- Labels and pairs, as the code collects them.
use Rattle.std.proofs.Common.{◌≡◌, sym, subst, ap, ℕ, inr, ⊎_elim, List, [], arith}
use Rattle.std.specs.Prelude.{pos, ◌↔◌, AllPairs, Any, Contains}
use Rattle.rv_code.specs.declared.inst.Inst.TheVariants.{Lui}
use Rattle.rv_code.specs.declared.placed.Placed.{Placed}
use Rattle.rv_code.specs.declared.placed.Func.{Func}
use Rattle.rv_code.specs.declared.placed.Role.TheVariants.{Plain}
use Rattle.rv_code.specs.declared.cell.CodeCell.{CodeCell}
use Rattle.rv_code.specs.layout.Edges.{IsTableJump, AreTablePairs}
use Rattle.rv_code.specs.layout.Lists.{IsPairBefore}
use Rattle.rv_code.specs.layout.ProgramCode.{CellNames}
use Rattle.rb_bytes.specs.Lists.{Gains}
use Rattle.jump_tables.specs.TablePairs.{HasTableJump, IsLabel, IsPairOf}

-- A default for indices past the end of a list of instructions.
abbrev pub no_inst : Placed
no_inst = record { addr = 0; len = 0; inst = Lui 0 (pos 0); role = Plain }

-- A list that was empty has what was appended, also after it is sorted.
pub all_gained : {A : Type 0} (Is : A → Type 0) (empty now last : List A) → empty ≡ [] → Gains empty now Is →
    ((a : A) → Contains last a ↔ Contains now a) → (a : A) → Contains last a ↔ Is a
all_gained {A} Is empty now last none gains same a = (
  (λ listed. ⊎_elim
      (λ was. absurd (let (k, within, there) = subst (λ (xs : List A). Contains xs a) none was in omega arith))
      (λ is. is)
      ((gains a).0 ((same a).0 listed))),
  (λ is. (same a).1 ((gains a).1 (inr is))),
)

pub labels_are : (insts : List Placed) (named : List ℕ) (a : ℕ) →
    Any (λ p. (p.addr ≡ a) × Contains named a) insts ↔ IsLabel insts named a
labels_are insts named a = (
  (λ (k, p, within, is, (at, is_in)). ((k, p, within, is, at), is_in)),
  (λ ((k, p, within, is, at), is_in). (k, p, within, is, (at, is_in))),
)

-- The pairs of a jump.
pub row_is : (jump : ℕ) (labels : List ℕ) (e : ℕ × ℕ) → Any (λ a. (jump, a) ≡ e) labels ↔ ((e.0 ≡ jump) × Contains labels e.1)
row_is jump labels e = (
  (λ (k, a, within, is, same).
      (sym (ap (λ (x : ℕ × ℕ). x.0) same), subst (Contains labels) (ap (λ (x : ℕ × ℕ). x.1) same) (k, within, is))),
  (λ (same, (k, within, is)). (k, e.1, within, is, (λ i. (sym same i, e.1)))),
)

-- The pairs of a function's jumps.
pub pairs_are : (insts : List Placed) (named : List ℕ) (e : ℕ × ℕ) →
    Any (λ p. ((p.addr ≡ e.0) × IsTableJump p) × IsLabel insts named e.1) insts ↔ IsPairOf insts named e
pairs_are insts named e = (
  (λ (k, p, within, is, (jumps, label)). ((k, p, within, is, jumps), label)),
  (λ ((k, p, within, is, jumps), label). (k, p, within, is, (jumps, label))),
)

-- The pairs of one jump.
pub jump_is : (labels named : List ℕ) (p : Placed) (all : List Placed) → IsTableJump p →
    ((a : ℕ) → Contains labels a ↔ IsLabel all named a) → (e : ℕ × ℕ) →
    ((e.0 ≡ p.addr) × Contains labels e.1) ↔ (((p.addr ≡ e.0) × IsTableJump p) × IsLabel all named e.1)
jump_is labels named p all jumps are e = (
  (λ (same, is_in). ((sym same, jumps), (are e.1).0 is_in)),
  (λ ((same, jumps'), label). (sym same, (are e.1).1 label)),
)

-- The pairs of all functions.
pub AreTablePairs-all : (funcs : List Func) (cells : List CodeCell) (named : List ℕ) (pairs : List (ℕ × ℕ)) →
    ((a : ℕ) → Contains named a ↔ Any (λ c. CellNames c a) cells) → AllPairs IsPairBefore pairs →
    ((e : ℕ × ℕ) → Contains pairs e ↔ Any (λ f. IsPairOf f.insts.items named e) funcs) → AreTablePairs funcs cells pairs
AreTablePairs-all funcs cells named pairs names ordered are = record {
  only = λ e is_in.
      let (k, func, within, is, (jumps, (goes, named_in))) = (are e).0 is_in in
      record { func = func; is_func = (k, within, is); jumps = jumps; goes_to = goes; named = (names e.1).0 named_in };
  each = λ e pair.
      let (k, within, is) = pair.is_func in
      (are e).1 (k, pair.func, within, is, (pair.jumps, (pair.goes_to, (names e.1).1 pair.named)));
  ordered = ordered;
}

-- Without a jump through a table there is no pair.
pub AreTablePairs-none : (funcs : List Func) (cells : List CodeCell) (pairs : List (ℕ × ℕ)) → pairs ≡ [] →
    (Any HasTableJump funcs → ⊥) → AreTablePairs funcs cells pairs
AreTablePairs-none funcs cells pairs none no_jump = record {
  only = λ e is_in. absurd (let (k, within, there) = subst (λ (xs : List (ℕ × ℕ)). Contains xs e) none is_in in omega arith);
  each = λ e pair.
      let (k, within, is) = pair.is_func in
      let (j, p, inside, at, (starts, jumps)) = pair.jumps in
      absurd (no_jump (k, pair.func, within, is, record { jumps = (j, p, inside, at, jumps) }));
  ordered = subst (AllPairs IsPairBefore) (sym none) (λ i j d less within. absurd (omega arith));
}
