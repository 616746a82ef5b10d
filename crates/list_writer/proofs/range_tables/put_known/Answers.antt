use Rattle.std.proofs.Common.{◌≡◌, ◌∙◌, ◌^◌, ◌<◌, ◌++◌, ◌∷◌, [], Bool, List, Some, None, nat_cmp, rules, sym, ap, length, cond}
use Rattle.std.specs.BTreeMap.{get, is_at}
use Rattle.answer_runs.specs.declared.run.Run.{Run}
use Rattle.cover_lists.specs.EntryOrders.{entry_first}
use Rattle.cover_lists.specs.GroupRuns.{runs_in}
use Rattle.cover_lists.specs.KeptLists.{items_in}
use Rattle.list_writer.specs.WrittenRanges.{key, runs_bytes}
use Rattle.list_writer.proofs.NumberedRanges.{list_known, list_put}
use Rattle.list_writer.proofs.range_tables.put_known.Goals as goal

pub returns-in-Some : goal.returns-in-Some
returns-in-Some c =
    let low : c.args.at < 2 ^ 64 = search rules in
    list_known c.args.groups.now c.args.group c.args.at c.in-Some.field-0 low c.args.lists.now.items c.args.known.now c.requires
    (ap (get nat_cmp c.args.known.now) (sym c.key-key.ensures) ∙ sym c.known_number.ensures ∙ c.in-Some.is)

pub returns : goal.returns
returns c =
    let low : c.args.at < 2 ^ 64 = search rules in
    let olds = c.args.lists.now.items in
    let old = c.args.known.now in
    let fresh : get nat_cmp old (key c.args.group c.args.at) ≡ None =
    ap (get nat_cmp old) (sym c.key-key.ensures) ∙ sym c.known_number.ensures ∙ c.in_default.is in
    let ordered : c.deref.result.now ≡ entry_first c.args.at (runs_in c.args.groups.now c.args.group) =
    c.deref.ensures.value ∙ c.in_ok-ordered.ensures ∙ ap (entry_first c.args.at) c.runs_in.ensures in
    let size : c.len-number.result ≡ length olds = search rules in
    list_put c.args.groups.now c.args.group c.args.at low olds c.put_spelled.new.all.items old c.insert.new.self c.requires fresh
    (c.in_ok-put_spelled.ensures ∙ ap (λ (l : List (Run Bool)). items_in olds ++ runs_bytes l ∷ []) ordered)
    (λ q. c.in_ok-insert.ensures.updates.0 q
    ∙ (λ i. cond (is_at (nat_cmp (c.key-key.ensures i)) q) (Some (size i)) (get nat_cmp old q)))
