use Rattle.rb_bytes.proofs.TextAt.{text_at-found, text_at-none}
use Rattle.rb_bytes.proofs.cursor.Cursor.text.Goals as goal

pub returns-in_default-clause-gap : goal.returns-in_default-clause-gap
returns-in_default-clause-gap c = rw (← c.self.view_is) (text_at-none _ c.in_default.ensures)

pub returns-clause-read : goal.returns-clause-read
returns-clause-read c =
    rw (← c.self.view_is, c.split_at.ensures.front, c.split_at-2.ensures.back) (text_at-found _ _ c.in-Some.ensures)
