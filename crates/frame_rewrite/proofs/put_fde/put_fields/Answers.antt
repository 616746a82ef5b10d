use Rattle.std.proofs.Common.{Bool, List, sym, subst, ap, ◌∙◌, ◌++◌, ◌≡◌, ℕ, ◌-◌, ◌+◌}
use Rattle.std.proofs.lemmas.List.Elements.{All-head, All-tail}
use Rattle.std.proofs.lemmas.Result.{on_ok_weaker}
use Rattle.answer_runs.specs.declared.run.Run.{Run}
use Rattle.frame_rewrite.specs.declared.cie_key.CieKey.{CieKey}
use Rattle.frame_rewrite.specs.declared.form.Form.{Form}
use Rattle.frame_rewrite.specs.FrameAnswers.{FrameAnswer}
use Rattle.frame_rewrite.specs.SpelledFrames.{is_debug, key_of, has_data, spelled_range, spelled_table, first_known, start_of, last_end}
use Rattle.frame_rewrite.specs.SpelledFrames.{spelled_rows}
use Rattle.frame_rewrite.specs.SpelledFits.{RangeFits, RowFits, Near, IsAbove}
use Rattle.frame_rewrite.proofs.Appends.{three-fields}
use Rattle.frame_rewrite.proofs.put_fde.put_fields.Goals as goal

same-less : (a b c d : ℕ) → a ≡ c → b ≡ d → a - b ≡ c - d
same-less a b c d e f = cc

same-range : (o a : List ℕ) (form : Form) (place s n t m : ℕ) → a ≡ o ++ spelled_range form place s n → s ≡ t → n ≡ m
    → a ≡ o ++ spelled_range form place t m
same-range o a form place s n t m w e f = w ∙ (λ i. o ++ spelled_range form place (e i) (f i))

same-fits : (form : Form) (place s n t m : ℕ) → s ≡ t → n ≡ m → RangeFits form place s n → RangeFits form place t m
same-fits form place s n t m e f r = subst (λ (x : ℕ). RangeFits form place t x) f (subst (λ (x : ℕ). RangeFits form place x n) e r)

same-table : (o a : List ℕ) (b d : Bool) (k l : CieKey) (t : ℕ) → a ≡ o ++ spelled_table b k.tabled t → b ≡ d → k ≡ l
    → a ≡ o ++ spelled_table d l.tabled t
same-table o a b d k l t w e f = w ∙ (λ i. o ++ spelled_table (e i) (f i).tabled t)

pub put_rows-requires-clause-follow : goal.put_rows-requires-clause-follow
put_rows-requires-clause-follow c = subst (λ (n : ℕ). IsAbove n c.args.more.now) (sym c.start_of-start.ensures) c.requires.follow

pub returns-clause-written : goal.returns-clause-written
returns-clause-written c =
    let first = c.args.first.now in
    let start = c.start_of-start.ensures in
    let size = same-less _ _ _ _ c.group_end.ensures start in
    let key = key_of c.args.map.now first.answer in
    let key_is = c.key_of-key.ensures.key in
    on_ok_weaker c.put_rows.result (λ e. three-fields c.args.out.now.items c.put_range.new.out.items
    c.put_table.new.out.items c.put_rows.new.out.items
    (spelled_range c.args.form c.args.place (start_of c.args.map.now first)
    (last_end (first.start + first.len) c.args.more.now - start_of c.args.map.now first))
    (spelled_table (has_data (is_debug c.args.form) key) key.tabled first.answer.table)
    (spelled_rows (first_known first.answer.signal) (start_of c.args.map.now first) first.answer.row c.args.more.now)
    (same-range _ _ c.args.form c.args.place _ _ _ _ c.in_ok-put_range.ensures.written start size)
    (same-table _ _ _ _ _ key _ c.in_ok-put_table.ensures.written
    (c.has_data.ensures ∙ (λ i. has_data (c.is_debug.ensures i) (key_is i))) key_is
    ∙ ap (λ (r : Run FrameAnswer). c.put_range.new.out.items
    ++ spelled_table (has_data (is_debug c.args.form) key) key.tabled r.answer.table) c.first.view_is)
    (e ∙ ap (λ (n : ℕ). c.put_table.new.out.items
    ++ spelled_rows (first_known first.answer.signal) n first.answer.row c.args.more.now) start))
    c.put_rows.ensures.written

pub returns-clause-range : goal.returns-clause-range
returns-clause-range c =
    let start = c.start_of-start.ensures in
    let size = same-less _ _ _ _ c.group_end.ensures start in
    let fits = same-fits c.args.form c.args.place _ _ _ _ start size c.in_ok-put_range.ensures.fits in
    on_ok_weaker c.put_rows.result (λ near. fits) c.put_rows.ensures.near

pub returns-clause-near : goal.returns-clause-near
returns-clause-near c = on_ok_weaker c.put_rows.result
    (λ near. subst (λ (n : ℕ). Near n c.args.more.now) c.start_of-start.ensures near) c.put_rows.ensures.near

abbrev Fits : Run FrameAnswer → Type 0
Fits r = RowFits r.answer.row

pub returns-clause-row : goal.returns-clause-row
returns-clause-row c =
    on_ok_weaker c.put_rows.result (λ fit. All-head Fits c.args.first.now c.args.more.now fit) c.put_rows.ensures.fits

pub returns-clause-rows : goal.returns-clause-rows
returns-clause-rows c =
    on_ok_weaker c.put_rows.result (λ fit. All-tail Fits c.args.first.now c.args.more.now fit) c.put_rows.ensures.fits
