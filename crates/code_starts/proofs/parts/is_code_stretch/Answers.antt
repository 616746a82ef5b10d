use Rattle.std.proofs.Common.{◌≡◌, ◌∙◌, sym, Bool, true, false}
use Rattle.code_starts.proofs.Cuts.{kept_if}
use Rattle.code_starts.proofs.parts.is_code_stretch.Goals as goal

clash : {A : Type 0} (b : Bool) → b ≡ true → b ≡ false → A
clash b is isnt = let no : true ≡ false = sym is ∙ isnt in absurd (cc)

pub returns-then-not-hold : goal.returns-then-not-hold
returns-then-not-hold c = (
  (λ wrong. let no : false ≡ true = wrong in absurd (cc)),
  λ holds. clash _ (c.hold.ensures.1 ((c.requires.code c.args.start).1 holds.in_code)) c.if-not-hold.true,
)

pub returns-then-hold : goal.returns-then-hold
returns-then-hold c =
    let in_code = (c.requires.code c.args.start).0 (c.hold.ensures.0 c.if-not-hold.false) in (
      (λ _. record {
        in_code = in_code;
        no_padding = λ (uncovered, zeros). uncovered
            ((c.requires.functions c.args.start c.args.end c.requires.stretch).0 (c.hold-2.ensures.0 c.if-hold.true));
      }),
      λ _. c.if-hold.true,
    )

pub returns-else-hold : goal.returns-else-hold
returns-else-hold c =
    let in_code = (c.requires.code c.args.start).0 (c.hold.ensures.0 c.if-not-hold.false) in
    let (from, to) = c.requires.functions c.args.start c.args.end c.requires.stretch in
    kept_if c.args.elf.now c.args.start c.args.end false c.are_zeros.result in_code (
      (λ wrong. let no : false ≡ true = wrong in absurd (cc)),
      λ covered. clash _ (c.hold-2.ensures.1 (to covered)) c.if-hold.false,
    )
    c.are_zeros.ensures
