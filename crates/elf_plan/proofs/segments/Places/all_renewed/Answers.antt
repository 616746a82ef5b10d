use Rattle.std.proofs.Common.{◌≡◌, ◌∙◌, refl, sym, subst, ℕ, ◌+◌, ◌<◌, Option, Some, List, ◌∷◌, [], ◌++◌, length, get_or, take}
use Rattle.std.proofs.Common.{arith, rules}
use Rattle.std.specs.Prelude.{slice_get}
use Rattle.std.proofs.lemmas.List.{get_or_default, take_all}
use Rattle.std.proofs.lemmas.Option.{get_or_from_slice_get, slice_get_read}
use Rattle.elf_image.specs.declared.section.Section.{Section}
use Rattle.elf_image.specs.declared.segment.Segment.{Segment}
use Rattle.elf_plan.specs.HeaderPlaces.{IsNewHeader}
use Rattle.elf_plan.specs.Homes.{AreHomes}
use Rattle.elf_plan.specs.NewSegments.{AreRenewed, IsRenewed, grows_at}
use Rattle.elf_plan.specs.PlacedHeaders.{outline}
use Rattle.elf_plan.proofs.NewSegments.{AreRenewed-more, taken-count}
use Rattle.elf_plan.proofs.Pairs.{each-pushed}
use Rattle.elf_plan.proofs.segments.Places.all_renewed.Goals as goal

pub loop-i-preserved : goal.loop-i-preserved
loop-i-preserved c =
    let self = c.args.self.now in
    let ps : List Segment = self.elf.now.segments.items in
    let i : ℕ = c.loop-i.i in
    let q : Segment = c.in_ok-renewed.renewed in
    let below : i < length ps = search rules in
    let at : (d : Segment) → c.index.result.now ≡ get_or ps i d = λ d. c.index.ensures ∙ get_or_default ps i _ d below in
    let items : c.push.new.self.items ≡ c.loop-i.segments.items ++ q ∷ [] = search rules in
    record {
      renewed = subst (λ (qs : List Segment). AreRenewed self.shift.from self.shift.by self.area.end
          self.area.tight (grows_at self.area.tight c.args.code) (take (i + 1) ps) qs) (sym items)
          (AreRenewed-more _ _ _ _
          (grows_at self.area.tight c.args.code) ps c.loop-i.segments.items i q below c.loop-i.invariant.renewed
          (λ d. subst (λ (p : Segment). IsRenewed self.shift.from self.shift.by self.area.end
          self.area.tight (grows_at self.area.tight c.args.code i) p q) (at d) c.in_ok-renewed.ensures.renewed));
      each = λ contents are.
          let sections = self.elf.now.sections.items in
          let p : Segment = c.index.result.now in
          let home : Option ℕ = c.index-in-loop-i.result.now in
          let homes : AreHomes ps sections self.contents.now c.in_ok-homes.homes.items =
          subst (λ (xs : List Section). AreHomes ps xs self.contents.now c.in_ok-homes.homes.items) c.deref-3.ensures.value
          (subst (λ (xs : List Segment). AreHomes xs c.deref-3.result.now self.contents.now c.in_ok-homes.homes.items)
          c.deref-2.ensures.value c.in_ok-homes.ensures) in
          let inside : i < length c.in_ok-homes.homes.items = let count = homes.count in omega arith in
          let is_p : slice_get ps i ≡ Some p = slice_get_read ps (length ps) i p refl below (at p) in
          let is_home : slice_get c.in_ok-homes.homes.items i ≡ Some home =
          slice_get_read c.in_ok-homes.homes.items (length c.in_ok-homes.homes.items) i home refl inside
          (c.index-in-loop-i.ensures ∙ get_or_default c.in_ok-homes.homes.items i _ home inside) in
          let Follows : ℕ → Segment → Segment → Type 0 =
          λ k x y. IsNewHeader contents ps sections self.sections_at.now (outline self)
          (grows_at self.area.tight c.args.code k) x y in
          subst
          (λ (qs : List Segment). (k : ℕ) (x y : Segment) → slice_get ps k ≡ Some x → slice_get qs k ≡ Some y → Follows k x y)
          (sym items)
          (each-pushed Follows ps c.loop-i.segments.items i q
          (taken-count _ _ _ _ _ ps c.loop-i.segments.items i below c.loop-i.invariant.renewed)
          (c.loop-i.invariant.each contents are)
          (λ x is_x. subst (λ (v : Segment). Follows i v q) (at x ∙ get_or_from_slice_get ps i x x is_x) (record {
            home = home;
            is_home = homes.each contents are i p home is_p is_home;
            is = c.in_ok-renewed.ensures.is;
          })));
    }

pub returns-clause-each : goal.returns-clause-each
returns-clause-each c = c.loop-i.invariant.each

pub returns-clause-renewed : goal.returns-clause-renewed
returns-clause-renewed c =
    let self = c.args.self.now in
    let ps : List Segment = self.elf.now.segments.items in
    let whole : c.len-i-end.result ≡ length ps = search rules in
    subst (λ (xs : List Segment). AreRenewed self.shift.from self.shift.by self.area.end self.area.tight
    (grows_at self.area.tight c.args.code) xs c.loop-i.segments.items)
    (take_all c.loop-i.i ps (omega arith)) c.loop-i.invariant.renewed
