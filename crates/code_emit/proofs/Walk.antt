-- Pieces whose instructions are one after another in the output are all kept.
use Rattle.std.proofs.Common.{◌≡◌, ℕ, ◌+◌, ◌^◌, ◌<◌, ◌≤◌, List, [], ◌∷◌, ◌++◌, Option, Some, None, Bool, true, false, refl, sym}
use Rattle.std.proofs.Common.{ap, ◌∙◌, subst, arith, inl, inr}
use Rattle.std.specs.Prelude.{Any, Contains}
use Rattle.rv_code.specs.layout.Flow.{action_at, is_plain_jump, target_of}
use Rattle.rb_bytes.proofs.Members.{Contains-cons_cases, Contains-there}
use Rattle.move_law.specs.Rewrite.{Rewrite, out, Goes}
use Rattle.move_law.specs.FaithfulRewrite.{next, KeepsInst, GoesOn}
use Rattle.rv_code.specs.declared.placed.Placed.{Placed}
use Rattle.rv_code.specs.declared.layout.Form.{Form}
use Rattle.rv_code.specs.declared.layout.Form.TheVariants as form
use Rattle.rv_code.specs.declared.layout.Size.TheVariants.{Half, Full, Long}
use Rattle.branch_fixup.specs.Pieces.{Piece, PlacedFrom, length_of, piece_length, end_from}
use Rattle.branch_fixup.specs.Endings.{end_of_form, ending}
use Rattle.code_emit.specs.NewInsts.{Made, made, made_from}
use Rattle.code_emit.proofs.Standing.{HasAll}
use Rattle.code_emit.proofs.Keeps.{Stands, keeps, keeps_on}
use Rattle.branch_fixup.proofs.Laid.{end_above}

-- the address of the first instruction of pieces
abbrev pub first_of : List Piece → Option ℕ
first_of [] = None
first_of (p ∷ ps) = Some p.placed.addr

-- An instruction's form is by the table, for the instruction that follows.
pub record Ends (r : Rewrite) (p : Piece) (after : Option ℕ) : Type 0 where
  pub whole : Bool
  pub alone : Bool
  pub fall : Option ℕ
  pub fall_is : (n : ℕ) → fall ≡ Some n → n ≡ p.placed.addr + p.placed.len
  pub falls : is_plain_jump (action_at p.placed) ≡ false → next r p.placed ≡ fall
  pub end : p.placed.addr + p.placed.len < 2 ^ 64
  pub small_goal : (t : ℕ) → target_of p.placed ≡ Some t → out r t < 2 ^ 63
  pub small_fall : out r (p.placed.addr + p.placed.len) < 2 ^ 63
  pub table : end_of_form p.form ≡ ending whole alone (action_at p.placed) fall (target_of p.placed) after

abbrev pub AllEnd : Rewrite → List Piece → Type 0
AllEnd r [] = Unit {0}
AllEnd r (p ∷ ps) = Ends r p (first_of ps) × AllEnd r ps

-- an instruction is kept, and control goes on after it
pub record IsKept (r : Rewrite) (p : Piece) : Type 0 where
  pub keeps : KeepsInst r (Goes r.output) p.placed
  pub goes_on : GoesOn r (Goes r.output) p.placed

abbrev after_made : ℕ → List Made → ℕ
after_made a [] = a
after_made a (m ∷ ms) = after_made (a + m.bytes) ms

split_made : (r : Rewrite) (a : ℕ) (xs ys : List Made) → HasAll r.output a (xs ++ ys) → HasAll r.output a xs
    × HasAll r.output (after_made a xs) ys
split_made r a [] ys h = (tt, h)
split_made r a (x ∷ xs) ys h = let k = split_made r (a + x.bytes) xs ys h.1 in ((h.0, k.0), k.1)

after_is : (f : ℕ → ℕ) (a : ℕ) (p : Placed) (x : Form) → after_made a (made f a p x) ≡ a + piece_length p.len x
after_is f a p form.Plain = refl
after_is f a p form.Jump = omega arith
after_is f a p (form.Branch inverted Half true) = omega arith
after_is f a p (form.Branch inverted Half false) = omega arith
after_is f a p (form.Branch inverted Full true) = omega arith
after_is f a p (form.Branch inverted Full false) = omega arith
after_is f a p (form.Branch inverted Long true) = omega arith
after_is f a p (form.Branch inverted Long false) = omega arith
after_is f a p (form.Goto half) = refl
after_is f a p form.Dropped = omega arith

abbrev pub HasSpan : Rewrite → Piece → Type 0
HasSpan r p = Any (λ s. (s.input ≡ p.placed.addr) × (length_of p ≤ s.len)) r.spans

after_first : (r : Rewrite) (a : ℕ) (ps : List Piece) → PlacedFrom (out r) a ps → (n : ℕ) → first_of ps ≡ Some n → out r n ≡ a
after_first r a [] placed n e = absurd (cc)
after_first r a (p ∷ ps) placed n e = let k : p.placed.addr ≡ n = cc in ap (out r) (sym k) ∙ placed.0

pub walk : (r : Rewrite) (a : ℕ) (ps : List Piece) → end_from a ps < 2 ^ 63 → PlacedFrom (out r) a ps →
    ((p : Piece) → Contains ps p → HasSpan r p) → HasAll r.output a (made_from (out r) a ps) → AllEnd r ps → (p : Piece) →
    Contains ps p → IsKept r p
walk r a [] room placed spans has ends p c = let l = c.1 in absurd (omega (arith, l))
walk r a (q ∷ qs) room placed spans has ends p c =
    let parts = split_made r a (made (out r) a q.placed q.form) (made_from (out r) (a + length_of q) qs) has in
    let rest : HasAll r.output (a + length_of q) (made_from (out r) (a + length_of q) qs) =
    subst (λ (e : ℕ). HasAll r.output e (made_from (out r) (a + length_of q) qs))
    (after_is (out r) a q.placed q.form) parts.1 in
    elim (Contains-cons_cases q qs p c) [
      | inl same ↦ subst (λ (x : Piece). IsKept r x) same (first parts.0)
      | inr later ↦ walk r (a + length_of q) qs room placed.1 (λ x h. spans x (Contains-there q qs x h)) rest ends.1 p later
    ]
  where
    first : HasAll r.output a (made (out r) a q.placed q.form) → IsKept r q
    first stands =
        let e = ends.0 in
        let above = end_above (a + length_of q) qs in
        let s : Stands r q.placed q.form e.fall (first_of qs) a = record {
          out_is = placed.0;
          span = spans q (0, omega arith, refl);
          stands = stands;
          room = omega (arith, room, above);
          small_goal = e.small_goal;
          small_fall = e.small_fall;
          end = e.end;
          after_is = after_first r (a + length_of q) qs placed.1;
          fall_is = e.fall_is;
          falls = e.falls;
        } in
        record {
          keeps = keeps r q.placed q.form e.whole e.alone e.fall (first_of qs) a s e.table;
          goes_on = keeps_on r q.placed q.form e.whole e.alone e.fall (first_of qs) a s e.table;
        }
