use Rattle.cli_base.specs.ImageFiles.{much_code}
use Rattle.cli_base.proofs.ImageFiles.{has_much, has_no_more}
use Rattle.cli_base.proofs.images.file_image.Goals as goal

pub returns-then-has_too_much_code-clause-fault : goal.returns-then-has_too_much_code-clause-fault
returns-then-has_too_much_code-clause-fault c =
    much_code c.requires.fits c.in_ok-elf.ensures.sound
    (has_much c.args.file.now c.in_ok-elf.elf c.in_ok-elf.ensures.fields c.has_too_much_code.result c.has_too_much_code.ensures
    c.if-has_too_much_code.true) c.at.ensures

pub returns-clause-image : goal.returns-clause-image
returns-clause-image c = record {
  fits = c.requires.fits;
  sound = c.in_ok-elf.ensures.sound;
  code_fits =
      has_no_more c.args.file.now c.in_ok-elf.elf c.in_ok-elf.ensures.fields c.has_too_much_code.result
      c.has_too_much_code.ensures c.if-has_too_much_code.false;
}
