-- The addresses that are referred to, as the code collects them.
use Rattle.std.proofs.Common.{◌≡◌, sym, subst, ℕ, zero, suc, inl, inr, ⊎_elim, ◌↔◌, List, [], ◌∷◌, Contains, Any, arith}
use Rattle.rv_code.specs.layout.ProgramCode.{RoleNames, CellNames}
use Rattle.elf_image.specs.declared.elf.Elf.{Elf}
use Rattle.elf_code.specs.Parts.{StartsIn}
use Rattle.elf_code.specs.Functions.{IsReferred, jump, role, cell, entry}
use Rattle.code_starts.specs.declared.parts.Part.{Part}
use Rattle.rv_reloc.specs.declared.refs.Refs.{Refs}
use Rattle.code_starts.specs.Parts.{AreCodeParts}
use Rattle.rv_reloc.specs.Refs.{AreRefs}
use Rattle.rb_bytes.specs.Lists.{Gains}
use Rattle.func_find.specs.Referents.{GoesTo, PartGoesTo, AreReferred}
use Rattle.func_find.proofs.Judged.{HasValidInst-from, HasValidInst-before}

pub part_goes : (elf : Elf) (p : Part) (inside : List ℕ) →
    ((a : ℕ) → Contains inside a ↔ StartsIn elf p.start p.end a) → (a : ℕ) →
    Any (λ from. GoesTo elf p.end from a) inside ↔ PartGoesTo elf p a
part_goes elf p inside are a = (
  (λ (k, from, within, is, goes). record { from = from; starts = (are from).0 (k, within, is); goes = goes }),
  (λ part. let (k, within, is) = (are part.from).1 part.starts in (k, part.from, within, is, part.goes)),
)

pub AreReferred-lists : (elf : Elf) (tabled : List (ℕ × ℕ)) (parts : List Part) (refs : Refs) (one two three four last : List ℕ) →
    AreCodeParts elf parts → AreRefs elf tabled refs → one ≡ elf.entry ∷ [] →
    Gains one two (λ a. Any (λ p. PartGoesTo elf p a) parts) →
    Gains two three (λ a. Any (λ r. RoleNames r.1 a) refs.roles.items) →
    Gains three four (λ a. Any (λ c. CellNames c a) refs.cells.items) → ((a : ℕ) → Contains last a ↔ Contains four a) →
    AreReferred elf tabled last
AreReferred-lists elf tabled parts refs one two three four last are refers first jumps roles cells same a = (
  (λ listed. ⊎_elim
      (λ in_three. ⊎_elim
      (λ in_two. ⊎_elim
      (λ in_one. from_entry (subst (λ (xs : List ℕ). Contains xs a) first in_one))
      from_part ((jumps a).0 in_two))
      from_role ((roles a).0 in_three))
      from_cell ((cells a).0 ((same a).0 listed))),
  listed,
)
  where
    from_entry : Contains (elf.entry ∷ []) a → IsReferred elf tabled a
    from_entry (zero, within, is) = entry is
    from_entry (suc k, within, is) = absurd (omega arith)

    from_part : Any (λ p. PartGoesTo elf p a) parts → IsReferred elf tabled a
    from_part (k, p, within, is, part) =
        jump p.start p.end part.from part.goes.inst part.goes.bytes
        (HasValidInst-from elf p.start p.end part.from part.goes.inst part.goes.bytes
        (are.only p (k, within, is)) part.starts part.goes.valid) part.goes.target_is

    from_role : Any (λ r. RoleNames r.1 a) refs.roles.items → IsReferred elf tabled a
    from_role (k, r, within, is, names) = role r.0 r.1 (refers.roles.only r (k, within, is)) names

    from_cell : Any (λ c. CellNames c a) refs.cells.items → IsReferred elf tabled a
    from_cell (k, c, within, is, names) = cell c (refers.cells.only c (k, within, is)) names

    put_two : Contains two a → Contains last a
    put_two in_two = (same a).1 ((cells a).1 (inl ((roles a).1 (inl in_two))))

    listed : IsReferred elf tabled a → Contains last a
    listed (jump start end from inst bytes has goes) =
        let p : Part = record { start = start; end = end } in
        let (k, within, is) = are.each p has.has.starts.part in
        let part : PartGoesTo elf p a = record {
          from = from;
          starts = has.has.starts.starts;
          goes = record {
            inst = inst;
            bytes = bytes;
            valid = HasValidInst-before elf start end from inst bytes has;
            target_is = goes;
          };
        } in
        put_two ((jumps a).1 (inr (k, p, within, is, part)))
    listed (role at r has names) =
        let (k, within, is) = refers.roles.each (at, r) has in
        (same a).1 ((cells a).1 (inl ((roles a).1 (inr (k, (at, r), within, is, names)))))
    listed (cell c is_cell names) =
        let (k, within, is) = refers.cells.each c is_cell in
        (same a).1 ((cells a).1 (inr (k, c, within, is, names)))
    listed (entry is) = put_two ((jumps a).1 (inl (subst (λ (xs : List ℕ). Contains xs a) (sym first) (0, omega arith, is))))
