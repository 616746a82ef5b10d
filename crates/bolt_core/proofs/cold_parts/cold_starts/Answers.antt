use Rattle.std.proofs.Common.{◌≡◌, ◌∙◌, ap, ℕ, List}
use Rattle.std.specs.Prelude.{Vec}
use Rattle.std.specs.declared.alloc.Global.{Global}
use Rattle.rv_code.specs.layout.BlockOrders.{list_of}
use Rattle.bolt_core.specs.ProfileOrder.{cold_start}
use Rattle.bolt_core.proofs.Ranges.{gathers}
use Rattle.bolt_core.proofs.cold_parts.cold_starts.Goals as goal

pub loop-f-preserved : goal.loop-f-preserved
loop-f-preserved c =
    let hot : c.list_at-hot.result.now ≡ list_of c.args.parts.now.hot.items c.loop-f.f =
    c.list_at-hot.ensures ∙ ap (λ (lists : List (Vec ℕ Global)). list_of lists c.loop-f.f) c.deref.ensures.value in
    let cold : c.list_at-cold.result.now ≡ list_of c.args.parts.now.cold.items c.loop-f.f =
    c.list_at-cold.ensures ∙ ap (λ (lists : List (Vec ℕ Global)). list_of lists c.loop-f.f) c.deref-in-loop-f.ensures.value in
    gathers
    (λ f. cold_start c.args.funcs.now c.args.blocks.now (list_of c.args.parts.now.hot.items f)
    (list_of c.args.parts.now.cold.items f))
    c.loop-f.f c.loop-f.starts.items c.push_some.new.list.items c.cold_start-start.result c.loop-f.invariant
    (c.cold_start-start.ensures
    ∙ ap (λ (part : List ℕ). cold_start c.args.funcs.now c.args.blocks.now part c.list_at-cold.result.now) hot
    ∙ ap (λ (part : List ℕ). cold_start c.args.funcs.now c.args.blocks.now (list_of c.args.parts.now.hot.items c.loop-f.f)
    part) cold)
    c.in_ok-push_some.ensures.is
