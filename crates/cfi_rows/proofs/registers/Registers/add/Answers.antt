use Rattle.std.proofs.Common.{rules, ◌≡◌, ◌||◌, true, false, refl, nat_cmp}
use Rattle.std.proofs.lemmas.Bool.{or_left, or_right}
use Rattle.std.specs.BTreeSet.{contains}
use Rattle.cfi_rows.proofs.RegisterCounts.{added, adds, kept}
use Rattle.cfi_rows.proofs.registers.Registers.add.Goals as goal
use Rattle.cfi_rows.proofs.registers.Registers.add.Goals.{then-contains-via-then-contains, then-contains-via-else-contains+then-contains-2}

pub returns-then-contains-clause-added : goal.returns-then-contains-clause-added
returns-then-contains-clause-added c = λ xs ys a counted.
    let either : (contains nat_cmp c.args.known.now c.args.register || contains nat_cmp c.args.self.now.set c.args.register) ≡ true =
    elim c.then-contains.branch [
      | then-contains-via-then-contains w ↦
          let k : contains nat_cmp c.args.known.now c.args.register ≡ true = search rules in or_left _ _ k
      | then-contains-via-else-contains+then-contains-2 w ↦
          let k : contains nat_cmp c.args.self.now.set c.args.register ≡ true = search rules in or_right _ _ k
    ] in
    kept xs ys c.args.known.now c.args.self.now c.args.self.now c.args.register counted either (λ q. refl) refl

pub returns-clause-added : goal.returns-clause-added
returns-clause-added c = λ xs ys a counted.
    let k : contains nat_cmp c.args.known.now c.args.register ≡ false = search rules in
    let o : contains nat_cmp c.args.self.now.set c.args.register ≡ false = search rules in
    added xs ys c.args.known.now c.args.self.now _ c.args.register counted k o
    (adds c.args.self.now.set c.insert.new.self c.args.register c.in_ok-insert.ensures.updates) refl
