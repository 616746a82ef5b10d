use Rattle.std.proofs.Common.{◌≡◌, ◌∙◌, sym, ap, subst, ℕ, ◌<◌, List, map, length, slice_index_or, arith}
use Rattle.std.proofs.lemmas.List.{map-append, get_or-map, length-map}
use Rattle.elf_code.specs.Cells.{Field}
use Rattle.rv_reloc.specs.CountedFields.{as_field}
use Rattle.rv_reloc.specs.declared.sweep.Candidate.{Candidate}
use Rattle.rv_reloc.proofs.Sweeps.{IsSweptTo, IsSweptTo-begin, IsSweptTo-drops, IsSweptTo-pushed, IsSweptTo-all}
use Rattle.rv_reloc.proofs.sweep.sweep.Goals as goal

item : (xs : List Candidate) (i : ℕ) (d : Candidate) (x : Field) → i < length xs →
    as_field (slice_index_or xs i d) ≡ slice_index_or (map as_field xs) i x
item xs i d x within = sym (get_or-map as_field xs i d x within)

pub loop-candidate-init : goal.loop-candidate-init
loop-candidate-init c = λ elf tabled are.
    subst (λ (kept : List Candidate). IsSweptTo elf tabled (map as_field c.args.candidates.now) 0 (map as_field kept) 0)
    (sym c.new-counted.ensures.items) (IsSweptTo-begin elf tabled (map as_field c.args.candidates.now))

pub loop-candidate-preserved-then-candidate-reach :
    goal.loop-candidate-preserved-then-candidate-reach
loop-candidate-preserved-then-candidate-reach c = λ elf tabled are.
    let xs = c.args.candidates.now in
    let i = c.loop-candidate.candidate-index in
    IsSweptTo-drops elf tabled (map as_field xs) _ i _ _ are (let n = length-map xs as_field in omega arith)
    (item xs i _ _ c.loop-candidate-test.true) c.if-candidate-reach.true (c.loop-candidate.invariant elf tabled are)

pub loop-candidate-preserved : goal.loop-candidate-preserved
loop-candidate-preserved c = λ elf tabled are.
    let xs = c.args.candidates.now in
    let i = c.loop-candidate.candidate-index in
    let pushed = ap (map as_field) c.in_ok-push.ensures.items ∙ map-append as_field c.loop-candidate.counted.items _ in
    IsSweptTo-pushed elf tabled (map as_field xs) _ _ i _ _ pushed are (let n = length-map xs as_field in omega arith)
    (item xs i _ _ c.loop-candidate-test.true) c.if-candidate-reach.false (c.loop-candidate.invariant elf tabled are)

pub returns : goal.returns
returns c = λ elf tabled are.
    IsSweptTo-all elf tabled (map as_field c.args.candidates.now) _ c.loop-candidate.candidate-index _ are
    (let n = length-map c.args.candidates.now as_field in omega arith) (c.loop-candidate.invariant elf tabled are)
