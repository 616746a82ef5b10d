use Rattle.std.proofs.Common.{◌≡◌, ◌%◌, ap, arith, Option, Some, None, refl, ℕ, get_or, rules}
use Rattle.rv_memory.specs.PageIndex.{place_of}
use Rattle.sym_machine.specs.declared.other_bytes.OtherBytes.{OtherBytes}
use Rattle.sym_machine.proofs.other_bytes.OtherBytes.place.Goals as goal

-- no group has this number if `recent` has 0 for its lowest bits
unmarked : (others : OtherBytes) (n : ℕ) → get_or others.recent.items (n % 8192) 0 ≡ 0 → None ≡ place_of others.index n
unmarked others n zero = by (place_of others.index n) refl
  where
    by : (r : Option ℕ) → place_of others.index n ≡ r → None ≡ r
    by None e = refl
    by (Some i) e =
        let mark = others.marked i (others.held n i e) in
        let same = ap (λ (x : ℕ). get_or others.recent.items (x % 8192) 0) (others.numbered n i e) in
        absurd (omega arith)

pub returns-then-recent-eq0 : goal.returns-then-recent-eq0
returns-then-recent-eq0 c = unmarked c.args.self.now c.args.number (search rules)
