use Rattle.std.proofs.Common.{◌≡◌, ◌∙◌, subst, sym, ap, rules, ℕ, List, Some, ◌∷◌, [], ◌++◌, length, length-append, arith}
use Rattle.std.specs.Prelude.{position, slice_get}
use Rattle.std.proofs.lemmas.Option.{get_or_from_slice_get}
use Rattle.elf_image.specs.declared.section.Section.{Section}
use Rattle.elf_plan.specs.declared.sections.Contents.{Contents}
use Rattle.elf_plan.specs.Contents.{contents_by, is_at, own_contents}
use Rattle.elf_plan.proofs.Pairs.{each-pushed}
use Rattle.elf_plan.proofs.sections.Sections.contents.Goals as goal

pub loop-i-preserved : goal.loop-i-preserved
loop-i-preserved c =
    let self = c.args.self.now in
    let sections = self.elf.now.sections.items in
    let i = c.loop-i.i in
    let found = c.contents_of.result in
    let olds = c.loop-i.contents.items in
    let items : c.push.new.self.items ≡ olds ++ found ∷ [] = search rules in
    let more = length-append olds (found ∷ []) in
    let count = c.loop-i.invariant.count in
    record {
      count = ap length items ∙ omega (arith, more, count);
      each = λ segments area shift keeps.
          let by : ℕ → Section → Contents =
          λ k s. contents_by self.own.section_names self.own.symbols self.own.symbol_names
          (position (is_at k) self.replaced.now) (own_contents segments area shift s) k s in
          subst
          (λ (cs : List Contents). (k : ℕ) (s : Section) (x : Contents) → slice_get sections k ≡ Some s →
          slice_get cs k ≡ Some x → x ≡ by k s)
          (sym items)
          (each-pushed (λ k s x. x ≡ by k s) sections olds i found count (c.loop-i.invariant.each segments area shift keeps)
          (λ s is.
          let at : c.index.result.now ≡ s = c.index.ensures ∙ get_or_from_slice_get sections i s _ is in
          c.contents_of.ensures segments area shift keeps ∙ ap (by i) at));
    }

pub returns : goal.returns
returns c = λ segments area shift keeps.
    let whole : c.len-i-end.result ≡ length c.args.self.now.elf.now.sections.items = search rules in
    record {
      count = c.loop-i.invariant.count ∙ omega arith;
      each = c.loop-i.invariant.each segments area shift keeps;
    }
