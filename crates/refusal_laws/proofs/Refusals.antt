-- A command refuses its files for at most one fault, and for none if it is done.
use Rattle.block_layout.specs.Laws.{PartsLaw}
use Rattle.refusal_laws.specs.RefusalLaw.{RefusalLaw}
use Rattle.refusal_laws.proofs.OneClaim.{none_judged, none_repaired, one_line, one_refusal, one_repair}
use Rattle.refusal_laws.proofs.OneLook.{none_looked, one_look}
use Rattle.refusal_laws.proofs.OneProgram.{no_image, no_program, one_image, one_program}
use Rattle.refusal_laws.proofs.OneRewrite.{none_rewritten, one_rewrite}

pub refusal_law : PartsLaw → RefusalLaw
refusal_law law = record {
  images = λ file. record { one = one_image file; none = no_image file };
  programs = λ file x. record { one = one_program file; none = λ fault is of. no_program file fault is x of };
  repairs = λ file profile written printed. record {
    one = one_repair file profile;
    none = none_repaired file profile written printed;
  };
  answers = λ question address file text. record {
    one = one_look question file;
    none = none_looked question file address text;
  };
  verdicts = λ input output map v. record {
    one = λ f g is is'. one_refusal input output map f g is.0 is'.0 is.1 is'.1;
    none = λ f is on. none_judged input output map v f is.0 is.1 on;
  };
  verdict_lines = one_line;
  rewrites = λ file profile. one_rewrite file profile law;
  rewritten = λ file profile written spans counts made. none_rewritten made law;
}
