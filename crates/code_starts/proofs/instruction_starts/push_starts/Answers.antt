use Rattle.std.proofs.Common.{◌≡◌, ◌∙◌, sym, ap, refl, ℕ, ◌+◌, ◌*◌, ◌%◌, ◌<◌, ◌≤◌, ◌==◌, Bool, true, false, if◌then◌else◌, List}
use Rattle.std.proofs.Common.{[], ◌∷◌, ◌++◌, length, slice_index, append_assoc, append-nil, rules, arith}
use Rattle.std.specs.Option.{unwrap_or}
use Rattle.rb_lanes.specs.Marks.{ends_in_ones}
use Rattle.elf_image.specs.declared.elf.Elf.{Elf}
use Rattle.elf_code.specs.Parts.{length_at, halfword_at}
use Rattle.elf_image.specs.memory.LoadedBytes.{byte_at}
use Rattle.code_starts.specs.Starts.{starts_from}
use Rattle.code_starts.proofs.StartLists.{starts_from-next, starts_from-past}
use Rattle.code_starts.proofs.instruction_starts.push_starts.Goals as goal

-- One more start.
step : (elf : Elf) (was now : List ℕ) (end a next : ℕ) → now ≡ was ++ a ∷ [] → a < end → next ≡ a + length_at elf a → now
    ++ starts_from elf end next ≡ was ++ starts_from elf end a
step elf was now end a next pushed less is =
    ap (λ (xs : List ℕ). xs ++ starts_from elf end next) pushed
    ∙ append_assoc was (a ∷ []) (starts_from elf end next)
    ∙ ap (λ (n : ℕ). was ++ a ∷ starts_from elf end n) is
    ∙ ap (λ (xs : List ℕ). was ++ xs) (sym (starts_from-next elf end a less))

by_mark : (b : Bool) → 2 * (if b then 2 else 1) ≡ (if b then 4 else 2)
by_mark true = refl
by_mark false = refl

-- The low byte of a halfword determines the length.
taken : (elf : Elf) (a half : ℕ) (b : Bool) → half % 256 ≡ unwrap_or (byte_at elf a) 0 → b ≡ ends_in_ones half →
    2 * (if b then 2 else 1) ≡ length_at elf a
taken elf a half b low marked =
    let same : half % 4 ≡ halfword_at elf a % 4 = omega arith in
    by_mark b ∙ ap (λ (m : Bool). if m then 4 else 2) (marked ∙ ap (λ (r : ℕ). r == 3) same)

done : (elf : Elf) (xs ys : List ℕ) (end a : ℕ) → end ≤ a → xs ++ starts_from elf end a ≡ ys → xs ≡ ys
done elf xs ys end a past is =
    sym (append-nil xs) ∙ ap (λ (rest : List ℕ). xs ++ rest) (sym (starts_from-past elf end a past)) ∙ is

pub loop-index-preserved : goal.loop-index-preserved
loop-index-preserved c = λ elf are.
    let part = c.args.part.now in
    let index = c.loop-index.index in
    let less : index < length c.args.halves.now = search rules in
    let count = c.requires.count in
    let long : 2 * c.halves_taken-index.result ≡ length_at elf (part.start + 2 * index) =
    ap (λ (n : ℕ). 2 * n) c.halves_taken-index.ensures
    ∙ taken elf (part.start + 2 * index) (slice_index c.args.halves.now index) _ (are.each index less) (c.requires.marks index) in
    step elf _ _ part.end (part.start + 2 * index)
    (part.start + 2 * (index + c.halves_taken-index.result)) c.in_ok-push.ensures.items
    (omega arith) (omega arith)
    ∙ c.loop-index.invariant elf are

pub returns : goal.returns
returns c = λ elf are.
    let count = c.requires.count in
    done elf _ _ c.args.part.now.end (c.args.part.now.start + 2 * c.loop-index.index) (omega arith)
    (c.loop-index.invariant elf are)
