-- Cells and the field of the entry point: all hold their new values, or there is a lowest one that doesn't.
use Rattle.std.proofs.Common.{◌≡◌, ◌≢◌, ◌∙◌, ◌%◌, ◌^◌, ◌↔◌, ℕ, All, Bool, IfNone, IfSome, IsTrue, List, None, Option, Some, ap, false, not}
use Rattle.std.proofs.Common.{if◌then◌else◌, refl, rules, subst, sym, true, ⊎_elim}
use Rattle.std.specs.Prelude.{◌==◌}
use Rattle.std.proofs.lemmas.Bool.{cases_eq, eq-eqb, eqb-true}
use Rattle.rv_code.specs.declared.cell.CodeCell.{CodeCell}
use Rattle.rv_code.specs.machine.MemoryNumbers.{number_in}
use Rattle.elf_code.specs.LoadedNumbers.{loaded_number}
use Rattle.elf_image.specs.declared.elf.Elf.{Elf}
use Rattle.elf_image.specs.faults.LowestPlace.{IsLowest, lower}
use Rattle.elf_image.specs.memory.Executables.{Executable, executable_read, memory_of}
use Rattle.elf_image.specs.memory.HiddenFields.{e_entry_field}
use Rattle.elf_image.specs.memory.LoadedBytes.{address_of}
use Rattle.elf_image.proofs.LowestPlaces.{IsLowest-place_not, IsLowest-same}
use Rattle.addr_map.specs.declared.span.Span.{Span}
use Rattle.sym_machine.specs.SymStart.{symbol_of}
use Rattle.move_law.specs.FaithfulRewrite.{KeepsCell, KeepsCells}
use Rattle.move_law.specs.RelocatedValues.{number_of_symbol}
use Rattle.move_law.specs.Rewrite.{Rewrite}
use Rattle.map_check.specs.FirstFalse.{KeepsCellsAt}
use Rattle.map_check.specs.Lacking.{LacksAt}
use Rattle.map_check.specs.internal.InstRows.{IsChecked}
use Rattle.map_check.proofs.JoinedPlaces.{joined_lowest, joined_none}

module _ (r : Rewrite) (output : Elf) (table : List Span) (ch : IsChecked r output table) where
  number_same : (a n : ℕ) → number_in (memory_of r.output) a n ≡ loaded_number output a n
  number_same a n = ap (λ x. number_in (memory_of x) a n) ch.output_is

  pub holds : (cell : CodeCell) (found wanted number : ℕ) → Some found ≡ loaded_number output cell.addr cell.width →
      wanted ≡ number % 256 ^ cell.width → number ≡ number_of_symbol r (symbol_of cell.kind) →
      IsTrue (found == wanted) ↔ KeepsCell r cell
  holds cell found wanted number there cut is = (
    (λ same.
        let equal : found ≡ wanted = eqb-true found wanted same in
        number_same cell.addr cell.width ∙ sym there ∙ ap Some (equal ∙ cut ∙ ap (λ n. n % 256 ^ cell.width) is)),
    λ kept.
        let both : Some found ≡ Some (number_of_symbol r (symbol_of cell.kind) % 256 ^ cell.width) =
        there ∙ sym (number_same cell.addr cell.width) ∙ kept in
        let equal : found ≡ number_of_symbol r (symbol_of cell.kind) % 256 ^ cell.width = cc in
        eq-eqb found wanted (equal ∙ sym (cut ∙ ap (λ n. n % 256 ^ cell.width) is)),
  )

  Holds : ℕ → Type 0
  Holds a = number_in (memory_of r.output) a 8 ≡ Some r.output.entry

  abbrev Each : List CodeCell → ℕ → Type 0
  Each cells a = All (λ c. c.addr ≡ a → KeepsCell r c) cells

  at_place : (a : ℕ) (p : ℕ) → (Holds a → ⊥) × (p ≡ a) → (a ≡ p → Holds a) → ⊥
  at_place a p lacks has = lacks.0 (has (sym lacks.1))

  only_place : (a : ℕ) (p : ℕ) → ((a ≡ p → Holds a) → ⊥) → (Holds a → ⊥) × (p ≡ a)
  only_place a p lacks = ⊎_elim
      (λ (same : p ≡ a). ((λ has. lacks (λ _. has)), same))
      (λ (other : p ≢ a). absurd (lacks (λ same. absurd (other (sym same)))))
      (cases_eq p a)

  module _ (cells : List CodeCell) (same : r.code.cells ≡ cells) (entry : Option ℕ)
      (field : entry ≡ address_of r.input e_entry_field) where
    kept : All (KeepsCell r) cells → IfSome entry Holds → KeepsCells r
    unfolding Holds
    kept each held = record {
      each = subst (All (KeepsCell r)) (sym same) each;
      entry = subst (λ (o : Option ℕ). IfSome o (λ a. number_in (memory_of r.output) a 8 ≡ Some r.output.entry)) field held;
    }

    kept_at : (a : ℕ) → Each cells a → IfSome entry (λ b. b ≡ a → Holds b) → KeepsCellsAt r a
    unfolding Holds
    kept_at a each held = record {
      each = subst (λ (ds : List CodeCell). Each ds a) (sym same) each;
      entry = subst (λ (o : Option ℕ). IfSome o (λ b. b ≡ a → number_in (memory_of r.output) b 8 ≡ Some r.output.entry)) field held;
    }

    each_at : (a : ℕ) → KeepsCellsAt r a → Each cells a
    each_at a is = subst (λ (ds : List CodeCell). Each ds a) same is.each

    held_at : (a : ℕ) → KeepsCellsAt r a → IfSome entry (λ b. b ≡ a → Holds b)
    unfolding Holds
    held_at a is =
        subst (λ (o : Option ℕ). IfSome o (λ b. b ≡ a → number_in (memory_of r.output) b 8 ≡ Some r.output.entry)) (sym field) is.entry

    pub all_without : (o : Option ℕ) → entry ≡ None → IfNone o (All (KeepsCell r) cells) → IfNone o (KeepsCells r)
    all_without None none each = kept each (subst (λ (e : Option ℕ). IfSome e Holds) (sym none) (search rules))
    all_without (Some a) none each = search rules

    pub lowest_without : (o : Option ℕ) → entry ≡ None → IsLowest (LacksAt (KeepsCell r) (λ c. c.addr) cells) o →
        IsLowest (λ a. KeepsCellsAt r a → ⊥) o
    lowest_without o none is = IsLowest-same o
        (λ a lacks at. lacks (each_at a at))
        (λ a lacks each. lacks (kept_at a each (subst (λ (e : Option ℕ). IfSome e (λ b. b ≡ a → Holds b)) (sym none) (search rules))))
        is

    module _ (address : ℕ) (some : entry ≡ Some address) (has : Bool)
        (test : IsTrue has ↔ (number_in (memory_of (executable_read output)) address 8 ≡ Some output.entry))
        (o : Option ℕ) (placed : o ≡ (if not has then Some address else None)) where
      test_here : IsTrue has ↔ Holds address
      unfolding Holds
      test_here =
          subst (λ (x : Executable). IsTrue has ↔ (number_in (memory_of x) address 8 ≡ Some x.entry)) (sym ch.output_is) test

      none_there : IfNone o (Holds address)
      none_there = by has refl o placed
        where
          by : (b : Bool) → has ≡ b → (p : Option ℕ) → p ≡ (if not has then Some address else None) → IfNone p (Holds address)
          by b e (Some a) is = search rules
          by true e None is = test_here.0 e
          by false e None is =
              let never : None ≡ Some address = is ∙ ap (λ (t : Bool). if not t then Some address else None) e in absurd (cc)

      pub all_with : (a l : Option ℕ) → l ≡ lower a o → IfNone a (All (KeepsCell r) cells) → IfNone l (KeepsCells r)
      all_with a l is each =
          joined_none a o l is (λ cs held. kept cs (subst (λ (e : Option ℕ). IfSome e Holds) (sym some) held)) each none_there

      pub lowest_with : (a l : Option ℕ) → l ≡ lower a o → IsLowest (LacksAt (KeepsCell r) (λ c. c.addr) cells) a →
          IsLowest (λ p. KeepsCellsAt r p → ⊥) l
      lowest_with a l is lowest =
          joined_lowest {P = Each cells} {Q = λ p. address ≡ p → Holds address}
          (λ p each held. kept_at p each (subst (λ (e : Option ℕ). IfSome e (λ b. b ≡ p → Holds b)) (sym some) held))
          each_at
          (λ p at. subst (λ (e : Option ℕ). IfSome e (λ b. b ≡ p → Holds b)) some (held_at p at))
          a o l is lowest
          (IsLowest-same o (at_place address) (only_place address)
          (IsLowest-place_not (Holds address) has address address o placed refl test_here))
