-- The chains of two files whose entries agree.
use Rattle.std.proofs.Common.{◌≡◌, ◌∙◌, ℕ, Bool, true, false, List, [], ◌∷◌, ap}
use Rattle.std.specs.Prelude.{◌==◌, nat_lt, if◌then◌else◌}
use Rattle.std.specs.List.{AllZip}
use Rattle.dw_unit.specs.CompUnits.{Entry, enclosing}
use Rattle.inline_frames.specs.Chains.{outward, chain_in}
use Rattle.inline_frames.specs.declared.tag.TheConstants.{DW_TAG_subprogram}

-- Entries with the same depth and tag, for which two tests give the same result.
pub record IsAlike (s t : Entry → Bool) (K : Entry → Entry → Type 0) (x y : Entry) : Type 0 where
  pub kept : K x y
  pub depth : y.depth ≡ x.depth
  pub tag : y.declaration.tag ≡ x.declaration.tag
  pub test : t y ≡ s x

module _ (s t : Entry → Bool) (K : Entry → Entry → Type 0) where
  pub enclosing_each : (d e : ℕ) → e ≡ d → (xs ys : List Entry) → AllZip (IsAlike s t K) xs ys →
      AllZip (IsAlike s t K) (enclosing d xs) (enclosing e ys)
  enclosing_each d e same [] [] h = tt
  enclosing_each d e same [] (y ∷ ys) h = absurd h
  enclosing_each d e same (x ∷ xs) [] h = absurd h
  enclosing_each d e same (x ∷ xs) (y ∷ ys) h = by (nat_lt x.depth d) (nat_lt y.depth e)
      (ap (λ n. nat_lt n e) h.0.depth ∙ ap (λ n. nat_lt x.depth n) same)
      (enclosing_each x.depth y.depth h.0.depth xs ys h.1) (enclosing_each d e same xs ys h.1)
    where
      by : (b c : Bool) → c ≡ b → AllZip (IsAlike s t K) (enclosing x.depth xs) (enclosing y.depth ys) →
          AllZip (IsAlike s t K) (enclosing d xs) (enclosing e ys) →
          AllZip (IsAlike s t K) (if b then x ∷ enclosing x.depth xs else enclosing d xs)
          (if c then y ∷ enclosing y.depth ys else enclosing e ys)
      by true true q inner outer = (h.0, inner)
      by false false q inner outer = outer
      by true false q inner outer = absurd (cc)
      by false true q inner outer = absurd (cc)

  pub outward_each : (xs ys : List Entry) → AllZip (IsAlike s t K) xs ys → AllZip K (outward s xs) (outward t ys)
  outward_each [] [] h = tt
  outward_each [] (y ∷ ys) h = absurd h
  outward_each (x ∷ xs) [] h = absurd h
  outward_each (x ∷ xs) (y ∷ ys) h = by (s x) (t y) h.0.test (x.declaration.tag == DW_TAG_subprogram)
      (y.declaration.tag == DW_TAG_subprogram) (ap (λ n. n == DW_TAG_subprogram) h.0.tag) (outward_each xs ys h.1)
    where
      by : (b c : Bool) → c ≡ b → (l r : Bool) → r ≡ l → AllZip K (outward s xs) (outward t ys) →
          AllZip K (if b then (if l then x ∷ [] else x ∷ outward s xs) else outward s xs)
          (if c then (if r then y ∷ [] else y ∷ outward t ys) else outward t ys)
      by true true q true true w more = (h.0.kept, tt)
      by true true q false false w more = (h.0.kept, more)
      by true true q true false w more = absurd (cc)
      by true true q false true w more = absurd (cc)
      by false false q l r w more = more
      by true false q l r w more = absurd (cc)
      by false true q l r w more = absurd (cc)

  pub chain_in_each : (found found' : List Entry) → AllZip K found found' → (before before' : List Entry) →
      AllZip (IsAlike s t K) before before' → (xs ys : List Entry) → AllZip (IsAlike s t K) xs ys →
      AllZip K (chain_in s found before xs) (chain_in t found' before' ys)
  chain_in_each found found' hf before before' hb [] [] h = hf
  chain_in_each found found' hf before before' hb [] (y ∷ ys) h = absurd h
  chain_in_each found found' hf before before' hb (x ∷ xs) [] h = absurd h
  chain_in_each found found' hf before before' hb (x ∷ xs) (y ∷ ys) h =
      chain_in_each (if s x then outward s (x ∷ enclosing x.depth before) else found)
      (if t y then outward t (y ∷ enclosing y.depth before') else found')
      (by (s x) (t y) h.0.test
      (outward_each (x ∷ enclosing x.depth before) (y ∷ enclosing y.depth before')
      (h.0, enclosing_each x.depth y.depth h.0.depth before before' hb)))
      (x ∷ before) (y ∷ before') (h.0, hb) xs ys h.1
    where
      by : (b c : Bool) → c ≡ b →
          AllZip K (outward s (x ∷ enclosing x.depth before)) (outward t (y ∷ enclosing y.depth before')) →
          AllZip K (if b then outward s (x ∷ enclosing x.depth before) else found)
          (if c then outward t (y ∷ enclosing y.depth before') else found')
      by true true q new = new
      by false false q new = hf
      by true false q new = absurd (cc)
      by false true q new = absurd (cc)
