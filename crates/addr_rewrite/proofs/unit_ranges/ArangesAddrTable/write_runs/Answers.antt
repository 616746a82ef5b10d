use Rattle.std.proofs.Common.{◌≡◌, ◌∙◌, ◌<◌, ◌^◌, ◌++◌, ℕ, List, Some, ap, length, subst}
use Rattle.addr_rewrite.specs.Aranges.{unit_at}
use Rattle.addr_rewrite.specs.WrittenAranges.{spelled_tables, tables_of}
use Rattle.addr_rewrite.proofs.ArangesLaw.{few_runs, small_answers, written_law, written_made}
use Rattle.addr_rewrite.proofs.unit_ranges.ArangesAddrTable.write_runs.Goals as goal

pub put_runs-requires-clause-units : goal.put_runs-requires-clause-units
put_runs-requires-clause-units c =
    let small = subst (λ (s : List ℕ). (a u : ℕ) → unit_at s a ≡ Some u → u < 2 ^ 32) c.self.view_is c.self.invariant.small in
    small_answers c.args.self.now small c.args.map.now c.args.runs.now c.requires.within c.requires.answers c.requires.fitting

pub put_runs-requires-clause-few : goal.put_runs-requires-clause-few
put_runs-requires-clause-few c =
    let small = subst (λ (s : List ℕ). (a u : ℕ) → unit_at s a ≡ Some u → u < 2 ^ 32) c.self.view_is c.self.invariant.small in
    few_runs c.args.self.now small c.args.map.now c.args.runs.now c.requires.within c.requires.answers c.requires.fitting

pub returns-clause-law : goal.returns-clause-law
returns-clause-law c = λ i f from stands.
    let small = subst (λ (s : List ℕ). (a u : ℕ) → unit_at s a ≡ Some u → u < 2 ^ 32) c.self.view_is c.self.invariant.small in
    let w = c.in_ok-put_runs.ensures in
    written_law c.args.self.now small c.args.map.now c.args.runs.now c.requires.within c.requires.answers c.requires.fitting
    w.0 w.1 w.2 _ (w.3 ∙ ap (λ (l : List ℕ). l ++ spelled_tables (tables_of (length w.0) w.0)) c.in_ok-bytes.ensures.items) f stands

pub returns-clause-made : goal.returns-clause-made
returns-clause-made c =
    let small = subst (λ (s : List ℕ). (a u : ℕ) → unit_at s a ≡ Some u → u < 2 ^ 32) c.self.view_is c.self.invariant.small in
    let w = c.in_ok-put_runs.ensures in
    written_made c.args.self.now small c.args.map.now c.args.runs.now c.requires.within c.requires.answers c.requires.fitting
    w.0 w.1 w.2 _ (w.3 ∙ ap (λ (l : List ℕ). l ++ spelled_tables (tables_of (length w.0) w.0)) c.in_ok-bytes.ensures.items)
    c.new.ensures.items
