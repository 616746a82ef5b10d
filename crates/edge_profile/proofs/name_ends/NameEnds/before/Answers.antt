use Rattle.std.proofs.Common.{sym, subst, List, ℕ}
use Rattle.edge_profile.specs.NameEnds.{IsEnding}
use Rattle.edge_profile.proofs.TableIndices.{text-ends, text-goes_on}
use Rattle.edge_profile.proofs.name_ends.NameEnds.before.Goals as goal

pub returns-then-byte-eq0 : goal.returns-then-byte-eq0
returns-then-byte-eq0 c = λ end is.
    subst (λ (text : List ℕ). IsEnding c.args.self.now.backward.items text c.all.result)
    (sym (text-ends c.args.byte end c.if-byte-eq0.true)) c.all.ensures

pub returns-else-byte-eq0 : goal.returns-else-byte-eq0
returns-else-byte-eq0 c = λ end is.
    subst (λ (text : List ℕ). IsEnding c.args.self.now.backward.items text c.narrowed.result)
    (sym (text-goes_on c.args.byte end c.if-byte-eq0.false)) (c.narrowed.ensures end is)
