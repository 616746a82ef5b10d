use Rattle.std.proofs.Common.{◌∙◌, ℕ, List, Option, refl, subst, sym, Vec}
use Rattle.std.specs.declared.alloc.Global.{Global}
use Rattle.map_check.specs.FirstFalse.{IsVerdict}
use Rattle.program.specs.Program.{program_seen}
use Rattle.program.specs.Refusals.{IsRefusalFor}
use Rattle.cli_base.specs.ImageFiles.{IsNoImage}
use Rattle.cli_base.specs.WithinLimit.{AreBytesGiven}
use Rattle.cli_check.specs.GivenFiles.{map_limit}
use Rattle.cli_check.specs.VerifiedFiles.{IsOutputFile, by_map, by_output, claim_of}
use Rattle.cli_check.proofs.judging.judge_output.Goals as goal

pub returns-in-Err : goal.returns-in-Err
returns-in-Err c = λ output map given mapped.
    by_output (program_seen c.args.program.now) c.requires.program
    (subst (IsRefusalFor (IsNoImage output)) c.in_ok-fault_of-in-Err.ensures (c.in-Err.ensures.refused output given)) refl

pub returns-in-Some : goal.returns-in-Some
returns-in-Some c = λ output map given mapped.
    let is = subst (λ (m : Option (Vec ℕ Global)). AreBytesGiven map_limit m map) c.in-Some.is mapped in
    record {
      program = program_seen c.args.program.now;
      program_is = c.requires.program;
      elf = c.in-Ok.output;
      output_is = subst (λ (f : List ℕ). IsOutputFile f c.in-Ok.output) (c.in-Ok.ensures.same output given) c.in-Ok.ensures.output;
      fits = is.1;
      verdict =
          subst (λ (m : List ℕ). IsVerdict (claim_of (program_seen c.args.program.now) c.in-Ok.output m) c.in_ok-found-in-Some.found)
          (c.deref.ensures.value ∙ sym is.0) c.in_ok-found-in-Some.ensures;
    }

pub returns : goal.returns
returns c = λ output map given mapped.
    by_map (program_seen c.args.program.now) c.requires.program c.in-Ok.output
    (subst (λ (f : List ℕ). IsOutputFile f c.in-Ok.output) (c.in-Ok.ensures.same output given) c.in-Ok.ensures.output)
    (subst (λ (m : Option (Vec ℕ Global)). AreBytesGiven map_limit m map) c.in-None.is mapped) c.at.ensures refl
