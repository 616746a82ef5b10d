-- Remembered states that are kept by the changes since.
use Rattle.std.proofs.Common.{◌≡◌, ◌∙◌, ◌++◌, ℕ, List, [], ◌∷◌, option_map, Option, refl, sym, ap, reverse}
use Rattle.std.proofs.lemmas.List.{reverse-append}
use Rattle.std.specs.Rc.{rc_value}
use Rattle.cfi_rows.specs.declared.row.Cfa.{Cfa}
use Rattle.cfi_rows.specs.declared.rules.Change.{Change}
use Rattle.cfi_rows.specs.declared.machine.Saved.{Saved}
use Rattle.cfi_rows.specs.FrameRows.{Rules, restored, Known, State}
use Rattle.cfi_rows.specs.RowMachines.{remembered}
use Rattle.cfi_rows.specs.RuleChanges.{after_changes}

-- the last one comes first
last-first : {X : Type 0} (xs : List X) (x : X) → reverse (xs ++ x ∷ []) ≡ x ∷ reverse xs
last-first xs x = reverse-append xs (x ∷ [])

abbrev state : ℕ → Option Cfa → Rules → List Known → State
state location cfa rules saved = record { location = location; known = record { cfa = cfa; rules = rules }; saved = saved }

-- after one more change, which can be taken back
one-more : (old new : Rules) (c : Change) (cs : List Change) (ss : List Saved) →
    restored c.register (option_map rc_value c.rule) new ≡ old →
    remembered new (c ∷ cs) ss ≡ remembered old cs ss
one-more old new c cs [] e = refl
one-more old new c cs (s ∷ ss) e =
    ap (λ (rules : Rules). record { cfa = option_map rc_value s.cfa; rules = after_changes rules cs }
    ∷ remembered (after_changes rules cs) (reverse s.changes.items) ss) e

pub changed : (location : ℕ) (cfa : Option Cfa) (old new next : Rules) (before after : List Change) (c : Change) (ss : List Saved)
    → new ≡ next →
    restored c.register (option_map rc_value c.rule) new ≡ old → after ≡ before ++ c ∷ [] →
    state location cfa next (remembered old (reverse before) ss) ≡ state location cfa new (remembered new (reverse after) ss)
changed location cfa old new next before after c ss e f g = λ i. record {
  location = location;
  known = record { cfa = cfa; rules = sym e i };
  saved = sym saved i;
} where
  saved : remembered new (reverse after) ss ≡ remembered old (reverse before) ss
  saved = ap (λ xs. remembered new (reverse xs) ss) g ∙ ap (λ cs. remembered new cs ss) (last-first before c)
      ∙ one-more old new c (reverse before) ss f
