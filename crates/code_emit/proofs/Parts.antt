-- The new code of pieces, one after another.
use Rattle.std.proofs.Common.{◌≡◌, ℕ, zero, suc, ◌+◌, ◌<◌, List, [], ◌∷◌, ◌++◌, length, refl, sym, ap, ◌∙◌, subst, arith, get_or}
use Rattle.std.proofs.Common.{take, true, false}
use Rattle.std.specs.Prelude.{All, map}
use Rattle.std.proofs.lemmas.List.{append_assoc, append-nil}
use Rattle.std.proofs.lemmas.List.Elements.{All-contains, Contains-append_left}
use Rattle.rb_bytes.proofs.ListLemmas.{all_of}
use Rattle.code_emit.specs.Inputs.{HasLowTargets}
use Rattle.rv_code.specs.declared.placed.Placed.{Placed}
use Rattle.rv_code.specs.declared.layout.Form.{Form}
use Rattle.rv_code.specs.declared.layout.Form.TheVariants as form
use Rattle.rv_code.specs.declared.layout.Size.TheVariants.{Half, Full, Long}
use Rattle.branch_fixup.specs.Pieces.{Piece, PlacedFrom, length_of, piece_length, as_it_is, end_from}
use Rattle.branch_fixup.specs.Strips.{Strip, insts_in, pieces_of_strip}
use Rattle.branch_fixup.proofs.Appended.{map_more}
use Rattle.code_emit.specs.NewInsts.{Made, made, made_from}
use Rattle.code_emit.specs.Bytes.{after_made, Adds, AllCanBeEncoded}
use Rattle.code_emit.proofs.Coded.{adds_both, all_can_front, all_can_back, after-append}

made_from-append : (f : ℕ → ℕ) (a : ℕ) (xs ys : List Piece) → made_from f a (xs ++ ys) ≡ made_from f a xs
    ++ made_from f (end_from a xs) ys
made_from-append f a [] ys = refl
made_from-append f a (x ∷ xs) ys =
    ap (λ (r : List Made). made f a x.placed x.form ++ r) (made_from-append f (a + length_of x) xs ys)
    ∙ sym (append_assoc (made f a x.placed x.form) (made_from f (a + length_of x) xs)
    (made_from f (end_from (a + length_of x) xs) ys))

after_is : (f : ℕ → ℕ) (o a : ℕ) (p : Placed) (x : Form) → after_made o (made f a p x) ≡ o + piece_length p.len x
after_is f o a p form.Plain = refl
after_is f o a p form.Jump = omega arith
after_is f o a p (form.Branch inverted Half true) = omega arith
after_is f o a p (form.Branch inverted Half false) = omega arith
after_is f o a p (form.Branch inverted Full true) = omega arith
after_is f o a p (form.Branch inverted Full false) = omega arith
after_is f o a p (form.Branch inverted Long true) = omega arith
after_is f o a p (form.Branch inverted Long false) = omega arith
after_is f o a p (form.Goto half) = refl
after_is f o a p form.Dropped = omega arith

after_from : (f : ℕ → ℕ) (b o a : ℕ) (ps : List Piece) → a ≡ b + o → b + after_made o (made_from f a ps) ≡ end_from a ps
after_from f b o a [] e = sym e
after_from f b o a (p ∷ ps) e =
    let first = after_is f o a p.placed p.form in
    let parts = after-append o (made f a p.placed p.form) (made_from f (a + length_of p) ps) in
    ap (λ (n : ℕ). b + n) (parts ∙ ap (λ (n : ℕ). after_made n (made_from f (a + length_of p) ps)) first)
    ∙ after_from f b (o + length_of p) (a + length_of p) ps (omega (arith, e))

-- the length of the code of pieces
pub code_length : (f : ℕ → ℕ) (a : ℕ) (code : List ℕ) (ps : List Piece) → Adds [] code (made_from f a ps) →
    a + length code ≡ end_from a ps
code_length f a code ps adds = ap (λ (n : ℕ). a + n) adds.length_is ∙ after_from f a 0 a ps (omega arith)

-- the parts of pieces that can all be encoded
pub can_parts : (f : ℕ → ℕ) (a : ℕ) (ps qs : List Piece) → AllCanBeEncoded (made_from f a (ps ++ qs)) →
    AllCanBeEncoded (made_from f a ps) × AllCanBeEncoded (made_from f (end_from a ps) qs)
can_parts f a ps qs can =
    let c : AllCanBeEncoded (made_from f a ps ++ made_from f (end_from a ps) qs) =
    subst AllCanBeEncoded (made_from-append f a ps qs) can in (
      all_can_front (made_from f a ps) (made_from f (end_from a ps) qs) c,
      all_can_back (made_from f a ps)
          (made_from f (end_from a ps) qs) c,
    )

-- Instructions that keep their widths.

pub inner_at : (f : ℕ → ℕ) (a : ℕ) (ps : List Placed) (i : ℕ) (d : Placed) → i < length ps →
    PlacedFrom f a (map as_it_is ps) → f (get_or ps i d).addr ≡ end_from a (map as_it_is (take i ps))
inner_at f a [] i d h placed = absurd (omega (arith, h))
inner_at f a (p ∷ ps) zero d h placed = placed.0
inner_at f a (p ∷ ps) (suc i) d h placed = inner_at f (a + p.len) ps i d (omega (arith, h)) placed.1

pub inner_can : (f : ℕ → ℕ) (a : ℕ) (ps : List Placed) (i : ℕ) (d : Placed) → i < length ps →
    AllCanBeEncoded (made_from f a (map as_it_is ps)) →
    AllCanBeEncoded (made f (end_from a (map as_it_is (take i ps))) (get_or ps i d) form.Plain)
inner_can f a [] i d h can = absurd (omega (arith, h))
inner_can f a (p ∷ ps) zero d h can = all_can_front (made f a p form.Plain) (made_from f (a + p.len) (map as_it_is ps)) can
inner_can f a (p ∷ ps) (suc i) d h can =
    inner_can f (a + p.len) ps i d (omega (arith, h))
    (all_can_back (made f a p form.Plain) (made_from f (a + p.len) (map as_it_is ps)) can)

-- one more piece
pub one_more : (f : ℕ → ℕ) (a at : ℕ) (x y z : List ℕ) (ps : List Piece) (q : Piece) → at ≡ end_from a ps →
    Adds x y (made_from f a ps) → Adds y z (made f at q.placed q.form) → Adds x z (made_from f a (ps ++ q ∷ []))
one_more f a at x y z ps q here g h =
    let m : List Made = made f (end_from a ps) q.placed q.form in
    let h2 : Adds y z (m ++ []) =
    subst (Adds y z) (sym (append-nil m)) (subst (λ (n : ℕ). Adds y z (made f n q.placed q.form)) here h) in
    subst (Adds x z) (sym (made_from-append f a ps (q ∷ []))) (adds_both x y z (made_from f a ps) (m ++ []) g h2)

pub inner_more : (f : ℕ → ℕ) (a at : ℕ) (x y z : List ℕ) (ps : List Placed) (i : ℕ) (d : Placed) → i < length ps →
    at ≡ end_from a (map as_it_is (take i ps)) → Adds x y (made_from f a (map as_it_is (take i ps))) →
    Adds y z (made f at (get_or ps i d) form.Plain) → Adds x z (made_from f a (map as_it_is (take (i + 1) ps)))
inner_more f a at x y z ps i d within here g h =
    subst (λ (l : List Piece). Adds x z (made_from f a l)) (sym (map_more ps i d within))
    (one_more f a at x y z (map as_it_is (take i ps)) (as_it_is (get_or ps i d)) here g h)

-- the last piece of a block
pub last_can : (f : ℕ → ℕ) (a : ℕ) (s : Strip) (x : Form) → AllCanBeEncoded (made_from f a (pieces_of_strip s x)) →
    AllCanBeEncoded (made f (end_from a (map as_it_is s.inner)) s.last x)
last_can f a s x can =
    let e : ℕ = end_from a (map as_it_is s.inner) in
    let q : Piece = record { placed = s.last; form = x } in
    subst AllCanBeEncoded (append-nil (made f e s.last x)) (can_parts f a (map as_it_is s.inner) (q ∷ []) can).1

pub front_can : (f : ℕ → ℕ) (a : ℕ) (s : Strip) (x : Form) → AllCanBeEncoded (made_from f a (pieces_of_strip s x)) →
    AllCanBeEncoded (made_from f a (map as_it_is s.inner))
front_can f a s x can = (can_parts f a (map as_it_is s.inner) (record { placed = s.last; form = x } ∷ []) can).0

pub more_pieces : (f : ℕ → ℕ) (a at : ℕ) (x y z : List ℕ) (ps qs : List Piece) → at ≡ end_from a ps →
    Adds x y (made_from f a ps) → Adds y z (made_from f at qs) → Adds x z (made_from f a (ps ++ qs))
more_pieces f a at x y z ps qs here g h =
    let h2 : Adds y z (made_from f (end_from a ps) qs) = subst (λ (n : ℕ). Adds y z (made_from f n qs)) here h in
    subst (Adds x z) (sym (made_from-append f a ps qs)) (adds_both x y z (made_from f a ps) (made_from f (end_from a ps) qs) g h2)

pub inner_targets : (s : Strip) → All HasLowTargets (insts_in s) → All HasLowTargets s.inner
inner_targets s h =
    all_of HasLowTargets s.inner
    (λ p c. All-contains HasLowTargets (insts_in s) p h (Contains-append_left s.inner (s.last ∷ []) p c))
