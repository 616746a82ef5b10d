use Rattle.std.proofs.Common.{◌≡◌, ◌∙◌, ◌+◌, ◌++◌, ℕ, false, [], ◌∷◌, ap, arith, get_or, subst, sym}
use Rattle.std.specs.Prelude.{◌==◌}
use Rattle.std.proofs.lemmas.Bool.Decides.{nat_tests}
use Rattle.dw_unit.specs.ListedEntries.{ListedEntry}
use Rattle.inline_frames.specs.Links.{listed_link}
use Rattle.inline_frames.specs.declared.link.Link.{Link}
use Rattle.inline_frames.specs.declared.link.OwnSays.{OwnSays}
use Rattle.inline_frames.specs.declared.tag.TheConstants.{DW_TAG_subprogram}
use Rattle.inline_frames.proofs.UnitChains.{AreLinks, links_first, no_entry, pass_last, pass_more, pass_other, pass_outside}
use Rattle.inline_frames.proofs.unit_chain.links_in.Goals as goal

pub loop-number-init : goal.loop-number-init
loop-number-init c =
    let es = c.args.entries.now in
    let covering = c.args.covering.now in
    let texts = c.args.str_offsets.now in
    let n = c.in-Some.inner in
    let depth : c.depth_of-depth.result ≡ (get_or es n no_entry).depth = c.depth_of-depth.ensures.depth no_entry in
    subst (AreLinks covering es texts (c.depth_of-depth.result + 1) (n + 1)) (sym c.new-links.ensures.items)
    (subst (λ (k : ℕ). AreLinks covering es texts (k + 1) (n + 1) []) (sym depth)
    (links_first covering es texts n no_entry c.in-Some.ensures.within c.in-Some.ensures.chain))

pub loop-number-preserved-then-entry-depth : goal.loop-number-preserved-then-entry-depth
loop-number-preserved-then-entry-depth c =
    pass_outside c.args.covering.now c.args.entries.now c.args.str_offsets.now c.loop-number.depth c.loop-number.number c.entry.inside.depth
    c.index-entries-number.result c.loop-number.links.items c.loop-number-test.true
    (omega (arith, c.loop-number.auto.number, c.in-Some.ensures.within)) c.index-entries-number.is
    (ap (λ (x : ListedEntry). x.depth) c.entry.view_is) c.loop-number.invariant c.if-entry-depth.true

pub loop-number-preserved-then-not-is_function : goal.loop-number-preserved-then-not-is_function
loop-number-preserved-then-not-is_function c =
    pass_other c.args.covering.now c.args.entries.now c.args.str_offsets.now c.loop-number.depth c.loop-number.number c.entry.inside.depth
    c.index-entries-number.result c.loop-number.links.items c.loop-number-test.true
    (omega (arith, c.loop-number.auto.number, c.in-Some.ensures.within)) c.index-entries-number.is
    (ap (λ (x : ListedEntry). x.depth) c.entry.view_is) c.loop-number.invariant c.if-entry-depth.false
    (sym c.is_function.ensures ∙ c.if-not-is_function.true)

pub returns-then-entry-eq-DW_TAG_subprogram : goal.returns-then-entry-eq-DW_TAG_subprogram
returns-then-entry-eq-DW_TAG_subprogram c =
    let texts = c.args.str_offsets.now in
    let links = c.loop-number.links.items in
    let e = c.index-entries-number.result in
    pass_last c.args.covering.now c.args.entries.now texts c.loop-number.depth c.loop-number.number c.entry.inside.depth e links
    c.loop-number-test.true (omega (arith, c.loop-number.auto.number, c.in-Some.ensures.within)) c.index-entries-number.is
    (ap (λ (x : ListedEntry). x.depth) c.entry.view_is) c.loop-number.invariant c.if-entry-depth.false
    (sym c.is_function.ensures ∙ c.if-not-is_function.false) c.entry.inside.tag (ap (λ (x : ListedEntry). x.tag) c.entry.view_is)
    c.push.new.self.items
    (c.in_ok-push.ensures.items ∙ ap (λ (l : Link). links ++ l ∷ []) (c.link_of.ensures
    ∙ ap (λ (own : OwnSays). listed_link texts own e) c.own_says-own.ensures)) c.if-entry-eq-DW_TAG_subprogram.true

pub loop-number-preserved : goal.loop-number-preserved
loop-number-preserved c =
    let texts = c.args.str_offsets.now in
    let links = c.loop-number.links.items in
    let e = c.index-entries-number.result in
    let not : (c.entry.inside.tag == DW_TAG_subprogram) ≡ false = grind (arith, nat_tests, c.if-entry-eq-DW_TAG_subprogram.false) in
    pass_more c.args.covering.now c.args.entries.now texts c.loop-number.depth c.loop-number.number c.entry.inside.depth e links
    c.loop-number-test.true (omega (arith, c.loop-number.auto.number, c.in-Some.ensures.within)) c.index-entries-number.is
    (ap (λ (x : ListedEntry). x.depth) c.entry.view_is) c.loop-number.invariant c.if-entry-depth.false
    (sym c.is_function.ensures ∙ c.if-not-is_function.false) c.entry.inside.tag (ap (λ (x : ListedEntry). x.tag) c.entry.view_is)
    c.push.new.self.items
    (c.in_ok-push.ensures.items ∙ ap (λ (l : Link). links ++ l ∷ []) (c.link_of.ensures
    ∙ ap (λ (own : OwnSays). listed_link texts own e) c.own_says-own.ensures)) not
