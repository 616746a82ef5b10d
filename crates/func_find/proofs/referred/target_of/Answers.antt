use Rattle.std.proofs.Common.{◌∙◌, sym, ap, ℕ}
use Rattle.std.proofs.lemmas.Option.{same_Some}
use Rattle.rv_code.specs.declared.inst.Inst.{Inst}
use Rattle.rv_code.specs.isa.Action.{action_of}
use Rattle.rv_code.specs.layout.Flow.{target}
use Rattle.func_find.proofs.referred.target_of.Goals as goal

pub returns : goal.returns
returns c = λ a. (
  (λ is. record {
    inst = c.in_ok-inst.inst;
    bytes = c.in_ok-inst.field-0-1;
    valid = c.in_ok-inst.ensures.there;
    target_is = sym c.target.ensures ∙ is;
  }),
  (λ goes.
      let same = same_Some _ (goes.inst, goes.bytes) (c.in_ok-inst.ensures.only goes.inst goes.bytes goes.valid) in
      c.target.ensures ∙ ap (λ (x : Inst × ℕ). target c.args.from (action_of x.0)) same ∙ goes.target_is),
)

pub returns-in_err-inst : goal.returns-in_err-inst
returns-in_err-inst c = rw c.from_residual.ensures (λ a. (
  (λ none. absurd (cc)),
  (λ goes. let none = c.in_err-inst.ensures.only goes.inst goes.bytes goes.valid in absurd (cc)),
))
