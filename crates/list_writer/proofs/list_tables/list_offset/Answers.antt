use Rattle.std.proofs.Common.{◌≡◌, ◌∙◌, ◌++◌, ℕ, List, Some, nat_cmp, sym, ap, subst, length, cond, rules}
use Rattle.std.specs.BTreeMap.{get, is_at}
use Rattle.list_writer.specs.WrittenTables.{IsListed, bytes_in}
use Rattle.list_writer.proofs.WrittenLists.{list_more}
use Rattle.list_writer.proofs.list_tables.list_offset.Goals as goal

pub returns-clause-listed : goal.returns-clause-listed
returns-clause-listed c =
    let lists = c.args.lists.now in
    let old : List ℕ = c.args.body.now.items in
    let new : List ℕ = c.extend_from_slice.new.self.items in
    let size : c.len-offset.result ≡ length old = search rules in
    let made : new ≡ old ++ bytes_in lists c.args.number =
    c.in_ok-extend_from_slice.ensures.items ∙ ap (λ (l : List ℕ). old ++ l) c.list_in.ensures in
    subst (λ (n : ℕ). IsListed lists c.args.number n old new c.insert.new.self) (sym size)
    (list_more lists old new c.args.known.now c.insert.new.self c.args.number c.requires made
    (λ q. c.in_ok-insert.ensures.updates.0 q ∙ ap (λ (n : ℕ). cond (is_at (nat_cmp c.args.number) q) (Some n)
    (get nat_cmp c.args.known.now q)) size))
