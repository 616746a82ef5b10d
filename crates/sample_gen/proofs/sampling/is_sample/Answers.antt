use Rattle.std.proofs.Common.{sym, subst, ℕ, List}
use Rattle.std.proofs.lemmas.Result.{IfOk-weaker}
use Rattle.rv_code.specs.declared.cell.CodeCell.{CodeCell}
use Rattle.rv_code.specs.declared.placed.Func.{Func}
use Rattle.program.specs.Program.{IsProgramOf, program_seen}
use Rattle.sample_file.specs.FoundCode.{HasSampleCode}
use Rattle.sample_gen.specs.Faultless.{HasNoFault}
use Rattle.sample_gen.proofs.sampling.is_sample.Goals as goal

pub is_faultless-requires : goal.is_faultless-requires
is_faultless-requires c =
    subst (λ (file : List ℕ). IsProgramOf file (program_seen c.in_ok-program.program))
    (sym c.in_ok-program.ensures.program.faultless.read.file_is) c.in_ok-program.ensures.program

pub returns : goal.returns
returns c = IfOk-weaker c.is_faultless.result _ _ (λ b faultless yes. record {
  program = program_seen c.in_ok-program.program;
  faultless =
      subst (λ (file : List ℕ). HasNoFault file c.args.profile.now (program_seen c.in_ok-program.program))
      c.in_ok-program.ensures.program.faultless.read.file_is (faultless yes);
  code =
      subst (λ (funcs : List Func). HasSampleCode c.args.n c.in_ok-program.program.elf funcs c.in_ok-program.program.refs.cells.items)
      c.deref.ensures.value
      (subst (λ (cells : List CodeCell). HasSampleCode c.args.n c.in_ok-program.program.elf c.deref.result.now cells)
      c.deref-2.ensures.value (c.in_ok-has_sample_code.ensures c.if-not-branch.false));
  profile_is = c.requires.profile;
}) c.is_faultless.ensures
