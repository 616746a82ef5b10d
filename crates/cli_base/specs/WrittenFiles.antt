-- The contents of a written file.
use Rattle.std.specs.Prelude.{◌≡◌, ℕ, List, Some, IsTrue}
use Rattle.rb_io.specs.Names.{UnchangedBut}
use Rattle.cli_base.specs.World.{World}

-- the file has this text, if files are transparent, and no other file changed
pub record HoldsFile (out text : List ℕ) (old new : World) : Type 0 where
  pub text_is : IsTrue old.files.told → new.files.content out ≡ Some text
  pub others : UnchangedBut out old.files.content new.files.content
