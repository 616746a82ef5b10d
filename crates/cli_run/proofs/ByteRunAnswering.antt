-- The byte machine as a mode of `run`.
use Rattle.std.proofs.Common.{refl, ℕ, List, arith}
use Rattle.rb_bytes.specs.declared.fault.Fault.{Fault}
use Rattle.cli_base.specs.ImageFiles.{IsImageFile, IsNoImage, too_long, unsound, much_code}
use Rattle.cli_run.specs.run.ByteRuns.{byte_mode}
use Rattle.cli_run.proofs.RunAnswering.{IsLawful}

-- a file that can't be run isn't one that can
not_both : (file : List ℕ) (fault : Fault) → IsNoImage file fault → IsImageFile file → ⊥
not_both file fault (too_long long e) image = let fits = image.fits in absurd (omega arith)
not_both file fault (unsound fits present) image = image.sound fault.kind fault.place present.present
not_both file fault (much_code fits sound much e) image = image.code_fits much

pub lawful : IsLawful byte_mode
lawful = record {
  long_cannot = λ file long. too_long long refl;
  not_both = not_both;
  halts = λ program args pc cause. tt;
}
