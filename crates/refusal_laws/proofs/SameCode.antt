-- Two readings of a file have the same program: the same code, wherever its parts are kept in memory, and the same blocks.
use Rattle.std.proofs.Common.{◌≡◌, ◌∙◌, ◌≤◌, ◌<◌, ◌⊎◌, ◌+◌, sym, ap, subst, ℕ, inl, inr, List, [], ◌∷◌, Some}
use Rattle.std.proofs.Common.{Bool, true, false, map, arith, refl}
use Rattle.std.specs.Prelude.{◌↔◌, Contains, length, slice_index_or}
use Rattle.std.proofs.lemmas.Bool.{cases_order}
use Rattle.std.proofs.lemmas.List.{get_or_default}
use Rattle.rv_code.specs.declared.placed.Func.{Func}
use Rattle.rv_code.specs.declared.placed.Placed.{Placed}
use Rattle.rv_code.specs.declared.placed.Role.{Role}
use Rattle.rv_code.specs.layout.ProgramCode.{ProgramCode}
use Rattle.elf_image.specs.declared.elf.Elf.{Elf}
use Rattle.elf_image.specs.file.ParsedFile.{IsElfOf}
use Rattle.elf_code.specs.FileCode.{AreRoles, IsCodeOf}
use Rattle.elf_code.specs.Functions.{AreFunctions, AreInsts}
use Rattle.elf_code.specs.Parts.{IsInstAt, IsWholePart, halfword_at}
use Rattle.elf_code.specs.Roles.{RoleIs}
use Rattle.elf_readings.proofs.OneList.{one_list}
use Rattle.elf_readings.proofs.Readings.{reading_law}
use Rattle.refusal_laws.proofs.OneDecoding.{one_decoding}
use Rattle.refusal_laws.proofs.SameBlocks.{IsSameCode}
use Rattle.refusal_laws.proofs.SameFunctions.{View, view}

-- Roles.

module _ (elf : Elf) (roles : List (ℕ × Role)) (are : AreRoles elf roles) where
  -- of two members with one address the roles are the same
  one_member : (a : ℕ) (r s : Role) → Contains roles (a, r) → Contains roles (a, s) → r ≡ s
  one_member a r s (k, within, is) (l, within', at) = by (cases_order k l)
    where
      key : (i : ℕ) (d e : ℕ × Role) → i < length roles → (slice_index_or roles i d).0 ≡ (slice_index_or roles i e).0
      key i d e inside = ap (λ (p : ℕ × Role). p.0) (get_or_default roles i d e inside)

      by : (k ≡ l) ⊎ ((k < l) ⊎ (l < k)) → r ≡ s
      by (inl same) =
          ap (λ (p : ℕ × Role). p.1)
          (sym is ∙ get_or_default roles k (a, r) (a, s) within ∙ ap (λ (i : ℕ). slice_index_or roles i (a, s)) same ∙ at)
      by (inr (inl less)) =
          let up : (slice_index_or roles k (a, r)).0 < (slice_index_or roles l (a, r)).0 = are.ordered k l (a, r) less within' in
          let one : (slice_index_or roles k (a, r)).0 ≡ a = ap (λ (p : ℕ × Role). p.0) is in
          let other : (slice_index_or roles l (a, r)).0 ≡ a = key l (a, r) (a, s) within' ∙ ap (λ (p : ℕ × Role). p.0) at in
          absurd (omega (arith, up, one, other))
      by (inr (inr more)) =
          let up : (slice_index_or roles l (a, r)).0 < (slice_index_or roles k (a, r)).0 = are.ordered l k (a, r) more within in
          let one : (slice_index_or roles k (a, r)).0 ≡ a = ap (λ (p : ℕ × Role). p.0) is in
          let other : (slice_index_or roles l (a, r)).0 ≡ a = key l (a, r) (a, s) within' ∙ ap (λ (p : ℕ × Role). p.0) at in
          absurd (omega (arith, up, one, other))

  one_role : (a : ℕ) (r s : Role) → RoleIs elf a r → RoleIs elf a s → r ≡ s
  one_role a r s (inl has) (inl has') = one_member a r s (are.each (a, r) has) (are.each (a, s) has')
  one_role a r s (inl has) (inr (none, plain)) = absurd (none has.relocation has.key r has.claims)
  one_role a r s (inr (none, plain)) (inl has) = absurd (none has.relocation has.key s has.claims)
  one_role a r s (inr (none, plain)) (inr (none', plain')) = plain ∙ sym plain'

  -- Instructions.

  some_bytes : (a : ℕ) (p : Placed) → IsInstAt elf a p.inst p.len → 0 < p.len
  some_bytes a p (inl half) = let two = half.two_bytes in omega (arith, two)
  some_bytes a p (inr full) = let four = full.four_bytes in omega (arith, four)

  not_before : (a : ℕ) (ps : List Placed) (end : ℕ) → AreInsts elf a ps end → a ≤ end
  not_before a [] end is = omega (arith, is)
  not_before a (p ∷ ps) end (at, inst, role, rest) = let more = not_before (a + p.len) ps end rest in omega (arith, more)

  one_inst : (a : ℕ) (p q : Placed) → p.addr ≡ a → q.addr ≡ a → IsInstAt elf a p.inst p.len → IsInstAt elf a q.inst q.len →
      RoleIs elf a p.role → RoleIs elf a q.role → p ≡ q
  one_inst a p q at at' inst inst' role role' =
      let one = one_decoding (halfword_at elf a) (Some (halfword_at elf (a + 2))) p.inst q.inst p.len q.len inst inst' in
      let place = at ∙ sym at' in
      let roles_are = one_role a p.role q.role role role' in λ i.
      record { addr = place i; len = one.1 i; inst = one.0 i; role = roles_are i }

  one_insts : (a : ℕ) (ps qs : List Placed) (end : ℕ) → AreInsts elf a ps end → AreInsts elf a qs end → ps ≡ qs
  one_insts a [] [] end is is' = refl
  one_insts a [] (q ∷ qs) end is (at, inst, role, rest) =
      let some = some_bytes a q inst in
      let more = not_before (a + q.len) qs end rest in
      absurd (omega (arith, is, some, more))
  one_insts a (p ∷ ps) [] end (at, inst, role, rest) is =
      let some = some_bytes a p inst in
      let more = not_before (a + p.len) ps end rest in
      absurd (omega (arith, is, some, more))
  one_insts a (p ∷ ps) (q ∷ qs) end (at, inst, role, rest) (at', inst', role', rest') =
      let heads = one_inst a p q at at' inst inst' role role' in
      let tails = one_insts (a + p.len) ps qs end rest
      (subst (λ (x : Placed). AreInsts elf (a + x.len) qs end) (sym heads) rest') in
      (λ i. heads i ∷ tails i)

same_truth : (P : Type 0) (a b : Bool) → (a ≡ true) ↔ P → (b ≡ true) ↔ P → a ≡ b
same_truth P true b is at = sym (at.1 (is.0 refl))
same_truth P false true is at = is.1 (at.0 refl)
same_truth P false false is at = refl

-- Functions.

module _ (elf : Elf) (tabled : List (ℕ × ℕ)) (roles : List (ℕ × Role)) (are : AreRoles elf roles) where
  same_view : (fs gs : List Func) → AreFunctions elf tabled fs → AreFunctions elf tabled gs → (f : Func) → Contains fs f →
      (g : Func) × Contains gs g × (view f ≡ view g)
  same_view fs gs one other f is_in =
      let func = one.only f is_in in
      let (g, g_in, start, end) = other.each f.start f.end func.part in
      let there = other.only g g_in in
      let whole = subst (λ (p : ℕ × ℕ). (g.whole ≡ true) ↔ IsWholePart elf tabled p.0 p.1) (λ i. (start i, end i)) there.whole in
      let insts = subst (λ (p : ℕ × ℕ). AreInsts elf p.0 g.insts.items p.1) (λ i. (start i, end i)) there.insts in
      let same_whole = same_truth (IsWholePart elf tabled f.start f.end) f.whole g.whole func.whole whole in
      let same_insts = one_insts elf roles are f.start f.insts.items g.insts.items f.end func.insts insts in
      let from = sym start in
      let to = sym end in
      (g, g_in, (λ i. (from i, to i, same_whole i, same_insts i)))

  pub one_functions : (fs gs : List Func) → AreFunctions elf tabled fs → AreFunctions elf tabled gs → map view fs ≡ map view gs
  one_functions fs gs one other =
      one_list (λ (f : Func). f.start) view (λ f g. view f ≡ view g) (λ f g same. ap (λ (v : View). v.0) same)
      (λ f g same. same) fs gs one.ordered other.ordered (same_view fs gs one other)
      (λ g is_in. let (f, f_in, same) = same_view gs fs other one g is_in in (f, f_in, sym same))

pub same_code : (file : List ℕ) (e e' : Elf) → IsElfOf file e → IsElfOf file e' → (tabled : List (ℕ × ℕ)) (c d : ProgramCode) →
    IsCodeOf e tabled c → IsCodeOf e' tabled d → IsSameCode c d
same_code file e e' reads reads' tabled c d is at =
    let law = reading_law file e e' reads reads' tabled in record {
      funcs = one_functions e' tabled d.roles at.roles c.funcs d.funcs ((law.0.functions c.funcs).0 is.funcs) at.funcs;
      roles = law.1.roles c.roles d.roles is.roles at.roles;
      cells = law.1.cells c.cells d.cells is.cells at.cells;
      entry = is.entry ∙ reads.entry ∙ sym reads'.entry ∙ sym at.entry;
    }
