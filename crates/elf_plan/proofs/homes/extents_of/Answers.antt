use Rattle.std.proofs.Common.{◌≡◌, ◌∙◌, subst, sym, ap, rules, ℕ, List, Some, ◌∷◌, [], ◌++◌, length, length-append, arith}
use Rattle.std.specs.Prelude.{slice_get, unwrap_or}
use Rattle.std.proofs.lemmas.Option.{get_or_from_slice_get}
use Rattle.elf_image.specs.declared.section.Section.{Section}
use Rattle.elf_image.specs.declared.extent.Extent.{Extent}
use Rattle.elf_plan.specs.declared.sections.Contents.{Contents}
use Rattle.elf_plan.specs.declared.sections.Contents.TheVariants.{Dropped}
use Rattle.elf_plan.specs.Homes.{extent_of}
use Rattle.elf_plan.proofs.Pairs.{each-pushed}
use Rattle.elf_plan.proofs.homes.extents_of.Goals as goal

pub loop-index-preserved : goal.loop-index-preserved
loop-index-preserved c =
    let sections = c.args.sections.now in
    let contents = c.args.contents.now in
    let i = c.loop-index.index in
    let e = c.extent_of.result in
    let olds = c.loop-index.extents.items in
    let items : c.push.new.self.items ≡ olds ++ e ∷ [] = search rules in
    let found : c.found_at-found.result ≡ unwrap_or (slice_get contents i) Dropped = c.found_at-found.ensures in
    let more = length-append olds (e ∷ []) in
    let count = c.loop-index.invariant.count in
    record {
      count = ap length items ∙ omega (arith, more, count);
      each = subst
          (λ (es : List Extent). (k : ℕ) (s : Section) (x : Extent) → slice_get sections k ≡ Some s → slice_get es k ≡ Some x →
          x ≡ extent_of k (unwrap_or (slice_get contents k) Dropped) s)
          (sym items)
          (each-pushed (λ k s x. x ≡ extent_of k (unwrap_or (slice_get contents k) Dropped) s) sections olds i e count
          c.loop-index.invariant.each
          (λ s is. c.extent_of.ensures ∙ ap (extent_of i c.found_at-found.result) (get_or_from_slice_get sections i s _ is)
          ∙ ap (λ (f : Contents). extent_of i f s) found));
    }
