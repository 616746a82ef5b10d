use Rattle.std.proofs.Common.{◌≡◌, ◌∙◌, sym, ap, Option, Some, None, IfSome, rules}
use Rattle.code_starts.specs.declared.parts.Part.{Part}
use Rattle.code_starts.proofs.PartLookup.{AreApart-parts}
use Rattle.code_starts.proofs.FullLookup.{start_held, full_start, full_there, full_before}
use Rattle.code_starts.proofs.code.full_at.Goals as goal

some_map : {A : Type 0} (P Q : A → Type 0) (o : Option A) → ((x : A) → P x → Q x) → IfSome o P → IfSome o Q
some_map P Q None to is = search rules
some_map P Q (Some x) to is = to x is

same_part : (o : Option Part) (p q : Part) → o ≡ Some p → o ≡ Some q → q.end ≡ p.end
same_part o p q is is' = let e : p ≡ q = cc in ap (λ (r : Part). r.end) (sym e)

no_part : (o : Option Part) (q : Part) → o ≡ None → o ≡ Some q → ⊥
no_part o q is is' = let e : None ≡ Some q = sym is ∙ is' in cc

pub part_at-requires : goal.part_at-requires
part_at-requires c = AreApart-parts c.args.elf.now c.args.parts.now c.requires.parts

pub returns-clause-there : goal.returns-clause-there
returns-clause-there c =
    let elf = c.args.elf.now in
    let a = c.args.address in
    let is = c.requires.starts.only a (c.has.ensures.0 c.if-not-has.false) in
    let same = same_part _ _ _ c.in_ok-part.was (c.part_at.ensures.only _ (start_held elf c.args.parts.now a c.requires.parts is)) in
    some_map _ _ c.full_before.result
    (λ inst full. full_there elf a c.in_ok-part.part.end inst is same full) c.full_before.ensures.there

pub returns-clause-only : goal.returns-clause-only
returns-clause-only c = λ inst full.
    let elf = c.args.elf.now in
    let a = c.args.address in
    let same = same_part _ _ _ c.in_ok-part.was
    (c.part_at.ensures.only _ (start_held elf c.args.parts.now a c.requires.parts (full_start elf a inst full))) in
    c.full_before.ensures.only inst (full_before elf a c.in_ok-part.part.end inst full same)

pub returns-in_err-part-clause-only : goal.returns-in_err-part-clause-only
returns-in_err-part-clause-only c = λ inst full.
    absurd (no_part _ _ c.in_err-part.was
    (c.part_at.ensures.only _
    (start_held c.args.elf.now c.args.parts.now c.args.address c.requires.parts
    (full_start c.args.elf.now c.args.address inst full))))

pub returns-then-not-has-clause-only : goal.returns-then-not-has-clause-only
returns-then-not-has-clause-only c = λ inst full.
    let listed = c.requires.starts.each c.args.address (full_start c.args.elf.now c.args.address inst full) in
    let is = c.has.ensures.1 listed in
    let isnt = c.if-not-has.true in
    absurd (cc)
