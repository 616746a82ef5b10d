-- Rules of registers that follow from others.
use Rattle.std.specs.Prelude.{List, [], ◌∷◌, option_map}
use Rattle.std.specs.Rc.{rc_value}
use Rattle.cfi_rows.specs.declared.rules.Change.{Change}
use Rattle.cfi_rows.specs.FrameRows.{Rules, with_rule, restored}

-- rules after changes, the first change first
abbrev pub after_changes : Rules → List Change → Rules
after_changes rules [] = rules
after_changes rules (c ∷ cs) = after_changes (restored c.register (option_map rc_value c.rule) rules) cs

-- rules, overridden by others
abbrev pub over : Rules → Rules → Rules
over initial [] = initial
over initial (x ∷ xs) = over (with_rule x.0 x.1 initial) xs
