use Rattle.std.proofs.Common.{subst, sym}
use Rattle.std.proofs.lemmas.Result.{err_from_is_err_and}
use Rattle.program.specs.Limits.{HasTooMuchCode}
use Rattle.cli_look.specs.LookingUp.{IsSoundElf, much_code}
use Rattle.cli_look.proofs.LookingUp.{by_tables, denied}
use Rattle.cli_look.proofs.looking_up.answer_in.Goals as goal

pub returns-in_err-text-clause-fault : goal.returns-in_err-text-clause-fault
returns-in_err-text-clause-fault c =
    let read : IsSoundElf c.args.file.now c.in_ok-elf.elf =
    record { fits = c.requires; sound = c.in_ok-elf.ensures.sound; read = c.in_ok-elf.ensures.fields } in
    let p = err_from_is_err_and c.from_residual-in_err-text.result c.from_residual-in_err-text.ensures.1 in
    rw (p.1, p.2) (by_tables c.args.question c.args.file.now c.in_ok-elf.elf c.in_err-text.field-0.0 read c.in_err-text.ensures.fault)

pub returns-then-has_too_much_code-clause-fault : goal.returns-then-has_too_much_code-clause-fault
returns-then-has_too_much_code-clause-fault c =
    let read : IsSoundElf c.args.file.now c.in_ok-elf.elf =
    record { fits = c.requires; sound = c.in_ok-elf.ensures.sound; read = c.in_ok-elf.ensures.fields } in
    much_code c.in_ok-elf.elf read c.in_ok-text.ensures.sound
    (subst HasTooMuchCode c.in_ok-elf.ensures.fields.file_is (c.has_too_much_code.ensures.0 c.if-has_too_much_code.true))
    c.at.ensures

pub returns-clause-answer : goal.returns-clause-answer
returns-clause-answer c = record {
  elf = c.in_ok-elf.elf;
  read = record { fits = c.requires; sound = c.in_ok-elf.ensures.sound; read = c.in_ok-elf.ensures.fields };
  tables = c.in_ok-text.ensures.sound;
  code_fits =
      denied (HasTooMuchCode c.args.file.now) c.has_too_much_code.result
      (λ much. c.has_too_much_code.ensures.1 (subst HasTooMuchCode (sym c.in_ok-elf.ensures.fields.file_is) much))
      c.if-has_too_much_code.false;
  text_is = c.in_ok-text.ensures.text;
}
