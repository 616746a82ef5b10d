-- Rows as the code keeps them, by the changes of rules that led to each.
use Rattle.std.specs.Prelude.{◌≡◌, ◌≤◌, ◌++◌, ℕ, List, [], All, length, map, take, Option, option_map}
use Rattle.std.specs.Rc.{rc_value}
use Rattle.cfi_rows.specs.declared.rules.Change.{Change}
use Rattle.cfi_rows.specs.declared.row_history.KeptRow.{KeptRow}
use Rattle.cfi_rows.specs.declared.row_history.KeptRules.{KeptRules}
use Rattle.cfi_rows.specs.declared.row_history.RowHistory.{RowHistory}
use Rattle.cfi_rows.specs.FrameRows.{Rules, PlacedRow}
use Rattle.cfi_rows.specs.RuleChanges.{after_changes, over}

-- the rules after n changes
abbrev pub rules_after : List Change → ℕ → Rules
rules_after changes n = after_changes [] (take n changes)

abbrev pub told_row : List Change → KeptRow → PlacedRow
told_row changes r = record {
  start = r.start;
  row = record { cfa = rc_value r.cfa; rules = rules_after changes r.changes };
}

abbrev pub told : RowHistory → List PlacedRow
told h = map (told_row h.changes.items) h.rows.items

-- rows, and more
abbrev pub before : List PlacedRow → Option (List PlacedRow) → Option (List PlacedRow)
before list more = option_map (λ rest. list ++ rest) more

-- kept rules are the rules after their number of changes
pub record IsRight (changes : List Change) (k : KeptRules) : Type 0 where
  pub within : k.changes ≤ length changes
  pub rules : k.rules ≡ rules_after changes k.changes

-- all that is kept is right, and some rules are those after all changes
pub record Keeps (h : RowHistory) (rules : Rules) : Type 0 where
  pub now : after_changes [] h.changes.items ≡ rules
  pub within : All (λ (r : KeptRow). r.changes ≤ length h.changes.items) h.rows.items
  pub right : All (IsRight h.changes.items) h.kept.items

-- after more changes that lead to some rules, the rows are as they were
pub record Goes (old new : RowHistory) (rules : Rules) : Type 0 where
  pub keeps : Keeps new rules
  pub same : told new ≡ told old

-- a row with some rules overridden by its own
abbrev pub row_over : Rules → PlacedRow → PlacedRow
row_over initial r = record { start = r.start; row = record { cfa = r.row.cfa; rules = over initial r.row.rules } }
