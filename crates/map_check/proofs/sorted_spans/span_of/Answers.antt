use Rattle.std.proofs.lemmas.List.{get_or_default}
use Rattle.addr_map.specs.declared.span.Span.{Span}
use Rattle.std.proofs.Common.{sym, ap, ◌∙◌, arith, ◌≡◌, ◌<◌, length}
use Rattle.map_check.specs.internal.SpanLists.{no_span}
use Rattle.map_check.proofs.NamedSpans.{found_at, found_nowhere}
use Rattle.map_check.proofs.sorted_spans.span_of.Goals as goal

pub returns-then-below-sorted : goal.returns-then-below-sorted
returns-then-below-sorted c =
    let end : c.count_below-below.result ≡ length c.args.sorted.now = omega arith in
    sym (found_nowhere c.args.a c.count_below-below.result c.args.sorted.now c.requires c.count_below-below.ensures.below
    (λ d within. absurd (omega (arith, end, within))) (λ d within. absurd (omega (arith, end, within))))

pub returns-then-span-a : goal.returns-then-span-a
returns-then-span-a c =
    let within : c.count_below-below.result < length c.args.sorted.now = omega (arith, c.count_below-below.ensures.bound) in
    sym (found_at c.args.a c.count_below-below.result c.args.sorted.now no_span c.count_below-below.ensures.below within c.if-span-a.true)

pub returns-else-span-a : goal.returns-else-span-a
returns-else-span-a c =
    sym (found_nowhere c.args.a c.count_below-below.result c.args.sorted.now c.requires c.count_below-below.ensures.below
    (λ d within. c.count_below-below.ensures.above c.count_below-below.result d (omega arith) within)
    (λ d within same. c.if-span-a.false
    (ap (λ (s : Span). s.input) (get_or_default c.args.sorted.now c.count_below-below.result no_span d within) ∙ same)))
