use Rattle.std.proofs.Common.{◌≡◌, ◌∙◌, sym, ap, ℕ, true, false, arith}
use Rattle.std.proofs.lemmas.Option.{same_Some}
use Rattle.rv_code.specs.declared.inst.Inst.{Inst}
use Rattle.rv_code.specs.isa.Action.{action_of}
use Rattle.rv_code.specs.layout.Flow.{falls}
use Rattle.func_find.proofs.function_parts.falls_at.Goals as goal

pub returns-then-end-address : goal.returns-then-end-address
returns-then-end-address c = (
  (λ out. record {
    inst = c.in-Some.found.0;
    bytes = c.in-Some.found.1;
    valid = c.in-Some.ensures.there;
    ends = (let is = c.if-end-address.true in let less = c.if-address-end.false in omega arith);
    falls_out = sym c.falls.ensures ∙ out;
  }),
  (λ at.
      let same = same_Some _ (at.inst, at.bytes) (c.in-Some.ensures.only at.inst at.bytes at.valid) in
      c.falls.ensures ∙ ap (λ (x : Inst × ℕ). falls (action_of x.0) true) same ∙ at.falls_out),
)

pub returns-in-None : goal.returns-in-None
returns-in-None c = (
  (λ wrong. let no : false ≡ true = wrong in absurd (cc)),
  (λ at. let none = c.in-None.ensures.only at.inst at.bytes at.valid in absurd (cc)),
)
