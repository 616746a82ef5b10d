use Rattle.std.proofs.Common.{◌≡◌, ◌∙◌, Bool, true, false, refl, ap, sym}
use Rattle.std.specs.Prelude.{◌&&◌, ◌||◌}
use Rattle.std.specs.List.{list_any}
use Rattle.edge_profile.specs.Weights.{starts_at}
use Rattle.edge_profile.proofs.LaidOut.{code_address-list_any}
use Rattle.edge_record.specs.AddressSets.{in_set}
use Rattle.edge_record.specs.MoveCounts.{ends_at, is_source, saves_at}
use Rattle.rv_code.specs.layout.ProgramCode.{is_code_address}
use Rattle.edge_record.proofs.watched.Watched.new.Goals as goal

or_false : (b : Bool) → (b || false) ≡ b
or_false true = refl
or_false false = refl

pub returns : goal.returns
returns c = λ m.
    let ends = list_any (λ b. ends_at c.args.funcs.now m.0 b) c.args.blocks.now in
    let saves = list_any (λ f. saves_at f.insts.items m.0) c.args.funcs.now in
    let starts = list_any (λ f. starts_at f.insts.items m.1) c.args.funcs.now in
    let source : in_set c.insert_ends.new.set m.0 ≡ is_source c.args.funcs.now c.args.blocks.now m.0
    = c.insert_ends.ensures m.0 ∙ ap (λ b. ends || b)
    (c.insert_insts.ensures.sources m.0 ∙ ap (λ b. saves || b) (c.in_ok-sources.ensures.none m.0) ∙ or_false saves) in
    let code : in_set c.insert_insts.new.code m.1 ≡ is_code_address c.args.funcs.now m.1
    = c.insert_insts.ensures.code m.1 ∙ ap (λ b. starts || b) (c.in_ok-code.ensures.none m.1) ∙ or_false starts
    ∙ sym (code_address-list_any c.args.funcs.now m.1) in
    (λ i. source i && code i)
