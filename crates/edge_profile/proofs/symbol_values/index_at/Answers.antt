use Rattle.std.proofs.Common.{◌≤◌, ◌-◌, ◌∙◌, ap, sym, length, arith, List, ℕ, Option, None, []}
use Rattle.std.specs.Prelude.{slice_index_or}
use Rattle.edge_profile.specs.NameEnds.{index_of}
use Rattle.edge_profile.proofs.TableIndices.{length-indices_in, indices_in-at, text_of-behind}
use Rattle.edge_profile.proofs.symbol_values.index_at.Goals as goal

pub returns-then-place-indices : goal.returns-then-place-indices
returns-then-place-indices c = λ texts is.
    let names = c.args.names.now.backward.items in
    let count = ap length is in
    let size = length-indices_in names texts in
    ap (λ (l : List (Option ℕ)). slice_index_or l (length c.args.indices.now - 1 - c.args.place) None) is
    ∙ indices_in-at names texts c.args.place (length c.args.indices.now - 1 - c.args.place) None
    (omega (arith, count, size, c.if-place-indices.true))

pub returns-else-place-indices : goal.returns-else-place-indices
returns-else-place-indices c = λ texts is.
    let names = c.args.names.now.backward.items in
    let count = ap length is in
    let size = length-indices_in names texts in
    let past : length texts ≤ c.args.place = omega (arith, count, size, c.if-place-indices.false) in
    c.named.ensures [] c.all.ensures ∙ ap (index_of names) (sym (text_of-behind texts c.args.place past))
