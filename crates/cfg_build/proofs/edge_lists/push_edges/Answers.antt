use Rattle.std.proofs.Common.{◌∙◌, ap, refl, sym, subst, ℕ, ◌+◌, take, slice_index_or, arith, Vec, Global}
use Rattle.cfg_build.proofs.EdgeRows.{AreNext, next_none, next_skip, next_push, next_all}
use Rattle.cfg_build.proofs.edge_lists.push_edges.Goals as goal
use Rattle.cfg_build.proofs.edge_lists.push_edges.Goals.{in-Some+in_ok-push, in_default}

pub loop-lead-init : goal.loop-lead-init
loop-lead-init c =
    next_none c.args.blocks.now c.args.starts.now c.args.source c.args.func c.args.edges.now.items c.requires.ordered
    c.args.leads.now

pub loop-lead-preserved : goal.loop-lead-preserved
loop-lead-preserved c =
    let blocks = c.args.blocks.now in
    let starts = c.args.starts.now in
    let leads = c.args.leads.now in
    let old = c.args.edges.now.items in
    let k = c.loop-lead.lead-index in
    elim c.match-block_at.branch [
      | in-Some+in_ok-push w ↦
          next_push blocks starts c.args.source c.args.func old c.loop-lead.edges.items c.match-block_at.edges.items leads k
          (slice_index_or leads k 0) 0 w.in-Some.target c.requires.starts c.requires.leads c.requires.before c.loop-lead-test.true
          refl w.in-Some.ensures
          (ap (λ (v : Vec (ℕ × ℕ) Global). v.items) w.edges-is ∙ w.in_ok-push.ensures.items) c.loop-lead.invariant
      | in_default w ↦
          subst (λ (v : Vec (ℕ × ℕ) Global). AreNext blocks starts c.args.source c.args.func old (take (k + 1) leads) v.items)
          (sym w.edges-is)
          (next_skip blocks starts c.args.source c.args.func old c.loop-lead.edges.items leads k (slice_index_or leads k 0) 0
          c.loop-lead-test.true refl (λ t at. let none = (w.in_default.ensures t).1 at in absurd (cc)) c.loop-lead.invariant)
    ]

pub returns : goal.returns
returns c =
    next_all c.args.blocks.now c.args.starts.now c.args.source c.args.func c.args.edges.now.items c.loop-lead.edges.items
    c.args.leads.now c.loop-lead.lead-index (let upto = c.loop-lead.auto.lead-index-end in omega arith) c.loop-lead.invariant
