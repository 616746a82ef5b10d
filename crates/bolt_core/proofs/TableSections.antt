-- A file that is read as a program isn't too long.
use Rattle.std.proofs.Common.{sym, subst, ℕ, ◌≤◌, List, length}
use Rattle.program.specs.Limits.{file_limit}
use Rattle.program.specs.Program.{IsProgramOf, Program}

pub file_fits : {file : List ℕ} {x : Program} → IsProgramOf file x → length x.elf.file.now ≤ file_limit
file_fits is = subst (λ (f : List ℕ). length f ≤ file_limit) (sym is.faultless.read.file_is) is.faultless.plain.fits
