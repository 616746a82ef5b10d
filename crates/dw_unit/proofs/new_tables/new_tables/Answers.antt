use Rattle.std.proofs.Common.{rules, ◌≡◌, ◌∙◌, ◌++◌, ◌∷◌, [], ℕ, List, ap, arith, below_more, sym, length, get_or, nat_lt}
use Rattle.std.proofs.lemmas.Grind.{common_steps}
use Rattle.std.specs.Prelude.{filter, flat_map}
use Rattle.dw_unit.specs.Changes.{declaration_bytes, is_own, table_bytes}
use Rattle.dw_unit.specs.Declarations.{Table, table_at}
use Rattle.dw_unit.specs.MapKeys.{HasKey}
use Rattle.dw_unit.proofs.MapKeys.{key_there, keys_kept}
use Rattle.dw_unit.proofs.SpelledSteps.{below_offset, flat_more, keys_more}
use Rattle.dw_unit.proofs.new_tables.new_tables.Goals as goal

pub loop-offset-preserved : goal.loop-offset-preserved
loop-offset-preserved c =
    let offsets : List ℕ = c.args.offsets.now in
    let i : ℕ = c.loop-offset.offset-index in
    let offset : ℕ = get_or offsets i 0 in
    record {
      bytes = λ s abbrevs own.
          let table : table_at s.abbrevs offset ≡ _ = ap (λ (l : List ℕ). table_at l offset) abbrevs ∙ c.find-table.ensures.table in
          c.in_ok-put_table.ensures s own
          ∙ ap (λ (t : Table). c.loop-offset.bytes.items ++ (flat_map (λ d. declaration_bytes (is_own s d) d) t.list ++ 0 ∷ []))
          (sym table)
          ∙ ap (λ (l : List ℕ). l ++ table_bytes s offset) (c.loop-offset.invariant.bytes s abbrevs own)
          ∙ sym (flat_more (table_bytes s) offsets i 0 c.loop-offset-test.true);
      starts = λ s abbrevs own q n e.
          let f : ℕ → List ℕ = table_bytes s in
          let len_is : c.len.result ≡ length c.loop-offset.bytes.items = search rules in
          let here : c.len.result ≡ length (flat_map f (filter (λ o. nat_lt o offset) offsets)) =
          len_is ∙ ap length (c.loop-offset.invariant.bytes s abbrevs own)
          ∙ sym (ap (λ (l : List ℕ). length (flat_map f l)) (below_offset offsets i 0 c.requires.rising c.loop-offset-test.true)) in
          keys_more (λ (q n : ℕ). n ≡ length (flat_map f (filter (λ o. nat_lt o q) offsets))) c.loop-offset.starts c.insert.new.self
          offset c.len.result
          (λ q n e. c.loop-offset.invariant.starts s abbrevs own q n e) here (λ q. c.in_ok-insert.ensures.updates.0 q) q n e;
      keys = below_more (λ (k : ℕ). HasKey c.insert.new.self (get_or offsets k 0)) i
          (λ k h. keys_kept c.loop-offset.starts c.insert.new.self offset c.len.result (λ q. c.in_ok-insert.ensures.updates.0 q)
          (get_or offsets k 0)
          (c.loop-offset.invariant.keys k h))
          (key_there c.loop-offset.starts c.insert.new.self offset c.len.result (λ q. c.in_ok-insert.ensures.updates.0 q));
    }

pub find-table-requires : goal.find-table-requires
find-table-requires c = c.requires.read c.loop-offset.offset-index c.loop-offset-test.true

pub returns-clause-found : goal.returns-clause-found
returns-clause-found c = λ k h. c.loop-offset.invariant.keys k (omega arith)

pub returns-clause-bytes : goal.returns-clause-bytes
returns-clause-bytes c = grind (arith, common_steps)
