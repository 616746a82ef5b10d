-- Whether a program is sound, with one more operation.
use Rattle.std.proofs.Common.{◌≡◌, ◌<◌, ◌≤◌, ◌+◌, ◌&&◌, ℕ, List, [], ◌∷◌, zero, suc, refl, arith, sym, ◌∙◌, ap, Ok, Err, length, Option}
use Rattle.std.proofs.Common.{Some, None, is_none, Bool, true, false, nat_lt, drop, length-drop}
use Rattle.std.proofs.lemmas.Bool.Decides.{nat_tests}
use Rattle.rb_bytes.specs.declared.gap.Gap.{Gap}
use Rattle.line_rewrite.specs.declared.coding.Coding.{Coding}
use Rattle.line_rewrite.specs.declared.registers.Registers.{Registers}
use Rattle.line_rewrite.specs.declared.operation.LineOp.{LineOp}
use Rattle.line_rewrite.specs.declared.effect.Effect.{Effect}
use Rattle.line_rewrite.specs.declared.effect.Effect.TheVariants.{Appends, Ends, Sets}
use Rattle.line_rewrite.specs.SoundPrograms.{is_sound}
use Rattle.line_rewrite.specs.Operations.{op_at, operations, is_whole, whole_within, whole_behind, Found}
use Rattle.line_rewrite.specs.LineMachine.{after_op, after_row, effect_of, start, sound_from, sound_behind, follows}
use Rattle.line_rewrite.proofs.Shortens.{op_shortens}
use Rattle.line_rewrite.proofs.Steps.{operations_step, operations_end}

and_none : (b : Bool) → (b && false) ≡ false
and_none true = refl
and_none false = refl

whole_same : (base n m : ℕ) (lengths bytes : List ℕ) (found : Found) → op_at base lengths bytes ≡ found
    → ((rest : List ℕ) → length rest < length bytes → whole_within n base lengths rest ≡ whole_within m base lengths rest)
    → whole_behind (whole_within n base lengths) found ≡ whole_behind (whole_within m base lengths) found
whole_same base n m lengths bytes (Err gap) e same = refl
whole_same base n m lengths bytes (Ok read) e same =
    let h : length read.1 + 1 ≤ length bytes = (op_shortens base lengths bytes).shorter read.0 read.1 e in
    same read.1 (omega arith)

enough_whole : (base n m : ℕ) (lengths bytes : List ℕ) → length bytes ≤ n → length bytes ≤ m →
    whole_within n base lengths bytes ≡ whole_within m base lengths bytes
unfolding whole_within
enough_whole base n m lengths [] h k = refl
enough_whole base zero m lengths (b ∷ bytes) h k = absurd (omega arith)
enough_whole base (suc n) zero lengths (b ∷ bytes) h k = absurd (omega arith)
enough_whole base (suc n) (suc m) lengths (b ∷ bytes) h k = whole_same base n m lengths (b ∷ bytes) (op_at base lengths (b ∷ bytes)) refl
    (λ rest s. enough_whole base n m lengths rest (omega arith) (omega arith))

pub whole_step : (base : ℕ) (lengths bytes rest : List ℕ) (op : LineOp) → op_at base lengths bytes ≡ Ok (op, rest) →
    is_whole base lengths bytes ≡ is_whole base lengths rest
unfolding is_whole whole_within
whole_step base lengths [] rest op e = let h : length rest + 1 ≤ 0 = (op_shortens base lengths []).shorter op rest e in absurd (omega arith)
whole_step base lengths (b ∷ bytes) rest op e =
    let h : length rest + 1 ≤ length (b ∷ bytes) = (op_shortens base lengths (b ∷ bytes)).shorter op rest e in
    ap (whole_behind (whole_within (length bytes) base lengths)) e
    ∙ enough_whole base (length bytes) (length rest) lengths rest (omega arith) (omega arith)

pub sound_gap : (coding : Coding) (files : ℕ) (last : Option ℕ) (r : Registers) (lengths bytes : List ℕ) (gap : Gap) (w : Bool) →
    op_at coding.opcode_base lengths bytes ≡ Err gap → 0 < length bytes
    → (sound_from coding files last r (operations coding.opcode_base lengths bytes) && is_whole coding.opcode_base lengths bytes) ≡ w →
    false ≡ w
unfolding is_whole whole_within
sound_gap coding files last r lengths [] gap w e h inv = absurd (omega arith)
sound_gap coding files last r lengths (b ∷ bytes) gap w e h inv =
    let n : is_whole coding.opcode_base lengths (b ∷ bytes) ≡ false = ap
    (whole_behind (whole_within (length bytes) coding.opcode_base lengths)) e in
    sym (ap (λ (t : Bool). sound_from coding files last r (operations coding.opcode_base lengths (b ∷ bytes)) && t) n ∙ and_none _) ∙ inv

step : (coding : Coding) (files : ℕ) (last : Option ℕ) (r : Registers) (lengths bytes rest : List ℕ) (op : LineOp) (e : Effect)
    (o : Option Registers) (w : Bool)
    → op_at coding.opcode_base lengths bytes ≡ Ok (op, rest) → e ≡ effect_of op → o ≡ after_op coding op r
    → (sound_from coding files last r (operations coding.opcode_base lengths bytes) && is_whole coding.opcode_base lengths bytes) ≡ w
    → (sound_behind (λ last r. sound_from coding files last r (operations coding.opcode_base lengths rest))
    (sound_from coding files None (start coding) (operations coding.opcode_base lengths rest)) files last e o
    && is_whole coding.opcode_base lengths rest) ≡ w
unfolding sound_from
step coding files last r lengths bytes rest op e o w read is after inv =
    ap (λ (e : Effect). sound_behind (λ last r. sound_from coding files last r (operations coding.opcode_base lengths rest))
    (sound_from coding files None (start coding) (operations coding.opcode_base lengths rest)) files last e o
    && is_whole coding.opcode_base lengths rest) is
    ∙ ap (λ (o : Option Registers). sound_behind (λ last r. sound_from coding files last r (operations coding.opcode_base lengths rest))
    (sound_from coding files None (start coding) (operations coding.opcode_base lengths rest)) files last (effect_of op) o
    && is_whole coding.opcode_base lengths rest) after
    ∙ sym (ap (λ (l : List LineOp). sound_from coding files last r l && is_whole coding.opcode_base lengths rest)
    (operations_step coding.opcode_base lengths bytes rest op read)
    ) ∙ sym (ap (λ (t : Bool). sound_from coding files last r (operations coding.opcode_base lengths bytes) && t)
    (whole_step coding.opcode_base lengths bytes rest op read)) ∙ inv

pub sound_stops : (coding : Coding) (files : ℕ) (last : Option ℕ) (r : Registers) (lengths bytes rest : List ℕ) (op : LineOp) (w : Bool) →
    op_at coding.opcode_base lengths bytes ≡ Ok (op, rest) → None ≡ after_op coding op r
    → (sound_from coding files last r (operations coding.opcode_base lengths bytes) && is_whole coding.opcode_base lengths bytes) ≡ w →
    false ≡ w
sound_stops coding files last r lengths bytes rest op w read after inv = step coding files last r lengths bytes rest op
    (effect_of op) None w read refl after inv

pub sound_sets : (coding : Coding) (files : ℕ) (last : Option ℕ) (r next : Registers) (lengths bytes rest : List ℕ) (op : LineOp)
    (w : Bool) → op_at coding.opcode_base lengths bytes ≡ Ok (op, rest) → Sets ≡ effect_of op → Some next ≡ after_op coding op r
    → (sound_from coding files last r (operations coding.opcode_base lengths bytes) && is_whole coding.opcode_base lengths bytes) ≡ w
    → (sound_from coding files last next (operations coding.opcode_base lengths rest) && is_whole coding.opcode_base lengths rest) ≡ w
sound_sets coding files last r next lengths bytes rest op w read is after inv = step coding files last r lengths bytes rest op Sets
    (Some next) w read is after inv

pub sound_falls : (coding : Coding) (files : ℕ) (last : Option ℕ) (r next : Registers) (lengths bytes rest : List ℕ) (op : LineOp)
    (e : Effect) (w test : Bool) → op_at coding.opcode_base lengths bytes ≡ Ok (op, rest) → e ≡ effect_of op
    → (e ≡ Sets → ⊥) → Some next ≡ after_op coding op r → test ≡ follows last next.address → test ≡ false
    → (sound_from coding files last r (operations coding.opcode_base lengths bytes) && is_whole coding.opcode_base lengths bytes) ≡ w →
    false ≡ w
sound_falls coding files last r next lengths bytes rest op Appends w test read is apart after t f inv =
    let g : follows last next.address ≡ false = sym t ∙ f in
    let more : Bool = sound_from coding files (Some next.address) (after_row next) (operations coding.opcode_base lengths rest) in
    sym (ap (λ (b : Bool). b && nat_lt next.file files && more && is_whole coding.opcode_base lengths rest) g)
    ∙ step coding files last r lengths bytes rest op Appends (Some next) w read is after inv
sound_falls coding files last r next lengths bytes rest op Ends w test read is apart after t f inv =
    let g : follows last next.address ≡ false = sym t ∙ f in
    let more : Bool = sound_from coding files None (start coding) (operations coding.opcode_base lengths rest) in
    sym (ap (λ (b : Bool). b && more && is_whole coding.opcode_base lengths rest) g)
    ∙ step coding files last r lengths bytes rest op Ends (Some next) w read is after inv
sound_falls coding files last r next lengths bytes rest op Sets w test read is apart after t f inv = absurd (apart refl)

pub sound_unfiled : (coding : Coding) (files : ℕ) (last : Option ℕ) (r next : Registers) (lengths bytes rest : List ℕ) (op : LineOp)
    (w : Bool) → op_at coding.opcode_base lengths bytes ≡ Ok (op, rest) → Appends ≡ effect_of op
    → Some next ≡ after_op coding op r → files ≤ next.file
    → (sound_from coding files last r (operations coding.opcode_base lengths bytes) && is_whole coding.opcode_base lengths bytes) ≡ w →
    false ≡ w
sound_unfiled coding files last r next lengths bytes rest op w read is after h inv =
    let g : nat_lt next.file files ≡ false = grind (arith, nat_tests) in
    let more : Bool = sound_from coding files (Some next.address) (after_row next) (operations coding.opcode_base lengths rest) in
    sym (ap (λ (b : Bool). follows last next.address && b && more && is_whole coding.opcode_base lengths rest) g
    ∙ ap (λ (b : Bool). b && more && is_whole coding.opcode_base lengths rest) (and_none (follows last next.address)))
    ∙ step coding files last r lengths bytes rest op Appends (Some next) w read is after inv

pub sound_appends : (coding : Coding) (files : ℕ) (last : Option ℕ) (r next present : Registers) (lengths bytes rest : List ℕ) (op : LineOp)
    (w test : Bool) → op_at coding.opcode_base lengths bytes ≡ Ok (op, rest) → Appends ≡ effect_of op
    → Some next ≡ after_op coding op r → test ≡ follows last next.address → test ≡ true → next.file < files → present ≡ after_row next
    → (sound_from coding files last r (operations coding.opcode_base lengths bytes) && is_whole coding.opcode_base lengths bytes) ≡ w
    → (sound_from coding files (Some next.address) present (operations coding.opcode_base lengths rest)
    && is_whole coding.opcode_base lengths rest) ≡ w
sound_appends coding files last r next present lengths bytes rest op w test read is after t f h p inv =
    let g : follows last next.address ≡ true = sym t ∙ f in
    let k : nat_lt next.file files ≡ true = grind (arith, nat_tests) in
    let more : Registers → Bool = λ q. sound_from coding files (Some next.address) q (operations coding.opcode_base lengths rest) in
    ap (λ (q : Registers). more q && is_whole coding.opcode_base lengths rest) p
    ∙ sym (ap (λ (b : Bool). b && nat_lt next.file files && more (after_row next) && is_whole coding.opcode_base lengths rest) g
    ∙ ap (λ (b : Bool). b && more (after_row next) && is_whole coding.opcode_base lengths rest) k)
    ∙ step coding files last r lengths bytes rest op Appends (Some next) w read is after inv

pub sound_ends : (coding : Coding) (files : ℕ) (last : Option ℕ) (r next present : Registers) (lengths bytes rest : List ℕ) (op : LineOp)
    (w test : Bool) → op_at coding.opcode_base lengths bytes ≡ Ok (op, rest) → Ends ≡ effect_of op
    → Some next ≡ after_op coding op r → test ≡ follows last next.address → test ≡ true → present ≡ start coding
    → (sound_from coding files last r (operations coding.opcode_base lengths bytes) && is_whole coding.opcode_base lengths bytes) ≡ w
    → (sound_from coding files None present (operations coding.opcode_base lengths rest) && is_whole coding.opcode_base lengths rest) ≡ w
sound_ends coding files last r next present lengths bytes rest op w test read is after t f p inv =
    let g : follows last next.address ≡ true = sym t ∙ f in
    let more : Registers → Bool = λ q. sound_from coding files None q (operations coding.opcode_base lengths rest) in
    ap (λ (q : Registers). more q && is_whole coding.opcode_base lengths rest) p
    ∙ sym (ap (λ (b : Bool). b && more (start coding) && is_whole coding.opcode_base lengths rest) g)
    ∙ step coding files last r lengths bytes rest op Ends (Some next) w read is after inv

end_sound : (coding : Coding) (files : ℕ) (last : Option ℕ) (r : Registers) → sound_from coding files last r [] ≡ is_none last
unfolding sound_from
end_sound coding files None r = refl
end_sound coding files (Some a) r = refl

and_true : (b : Bool) → (b && true) ≡ b
and_true true = refl
and_true false = refl

pub sound_out : (coding : Coding) (files : ℕ) (last : Option ℕ) (r : Registers) (lengths bytes : List ℕ) (w : Bool) → length bytes ≡ 0
    → (sound_from coding files last r (operations coding.opcode_base lengths bytes) && is_whole coding.opcode_base lengths bytes) ≡ w →
    is_none last ≡ w
unfolding is_whole whole_within
sound_out coding files last r lengths [] w e inv =
    sym (and_true (sound_from coding files last r (operations coding.opcode_base lengths []))
    ∙ ap (sound_from coding files last r) (operations_end coding.opcode_base lengths [] refl) ∙ end_sound coding files last r) ∙ inv
sound_out coding files last r lengths (b ∷ bytes) w e inv = absurd (omega arith)

and_comm : (a b : Bool) → (a && b) ≡ (b && a)
and_comm true true = refl
and_comm true false = refl
and_comm false true = refl
and_comm false false = refl

-- At the start of a sequence.
pub sound_starts : (coding : Coding) (files : ℕ) (lengths bytes : List ℕ)
    → (sound_from coding files None (start coding) (operations coding.opcode_base lengths bytes)
    && is_whole coding.opcode_base lengths bytes) ≡ is_sound coding files lengths bytes
sound_starts coding files lengths bytes =
    and_comm (sound_from coding files None (start coding) (operations coding.opcode_base lengths bytes))
    (is_whole coding.opcode_base lengths bytes)

pub sound_init : (coding : Coding) (files : ℕ) (lengths bytes left : List ℕ) (present : Registers) → left ≡ bytes → present ≡ start coding
    → (sound_from coding files None present (operations coding.opcode_base lengths left)
    && is_whole coding.opcode_base lengths left) ≡ is_sound coding files lengths bytes
sound_init coding files lengths bytes left present e p =
    (λ i. sound_from coding files None (p i) (operations coding.opcode_base lengths (e i)) && is_whole coding.opcode_base lengths (e i))
    ∙ sound_starts coding files lengths bytes

pub sound_end : (coding : Coding) (files : ℕ) (lengths bytes : List ℕ) (place : ℕ) → length bytes ≤ place →
    is_sound coding files lengths (drop place bytes) ≡ true
sound_end coding files lengths bytes place h =
    let none : length (drop place bytes) ≡ 0 = omega (arith, length-drop place bytes) in
    sym (sound_out coding files None (start coding) lengths (drop place bytes) (is_sound coding files lengths (drop place bytes)) none
    (sound_starts coding files lengths (drop place bytes)))
