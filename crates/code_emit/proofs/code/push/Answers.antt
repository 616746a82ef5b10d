use Rattle.std.proofs.Common.{[], ◌∷◌, List, ℕ, sym, subst}
use Rattle.rv_encode.specs.InstWords.{bytes}
use Rattle.code_emit.specs.Bytes.{Adds}
use Rattle.code_emit.proofs.Coded.{half_wanted}
use Rattle.std.proofs.lemmas.Result.{on_ok_weaker}
use Rattle.code_emit.proofs.code.push.Goals as goal

pub returns-in-Some-Half : goal.returns-in-Some-Half
returns-in-Some-Half c =
    record {
      ok = on_ok_weaker c.push_half.result
          (λ is. subst
          (λ (x : List ℕ). Adds c.args.code.now.items x
          (record { inst = c.args.inst.now; bytes = bytes c.args.want } ∷ [])) (sym is)
          (half_wanted c.args.code.now.items c.in-Some-Half.half c.args.inst.now c.args.want
          (rw c.in-Some-Half.field-0-is at c.in-Some-Half.ensures.found)
          (rw c.in-Some-Half.field-0-is at c.in-Some-Half.ensures.width))) c.push_half.ensures.ok;
    }
