-- The line of a pair: its fields and its end.
use Rattle.std.proofs.Common.{◌≡◌, ◌∙◌, ℕ, true, List, [], ◌∷◌, ◌++◌, refl, ap, sym, append_assoc, append-nil}
use Rattle.std.specs.Prelude.{◌==◌}
use Rattle.std.specs.List.{list_all}
use Rattle.std.proofs.lemmas.List.Splits.{slice_split_none, slice_split_at}
use Rattle.rb_bytes.specs.Text.{is_lower_hex_digit}
use Rattle.rb_bytes.proofs.Lacks.{Lacks, lacks_append, lacks_all, digits_lack}
use Rattle.edge_profile.specs.Grammar.{fields, lines}
use Rattle.edge_profile.proofs.LineLists.{lines_at}

-- a line with these texts of numbers, and the text after it
abbrev pub line_with : (a b c d e rest : List ℕ) → List ℕ
line_with a b c d e rest = 49 ∷ 32 ∷ 64 ∷ (a ++ 32 ∷ (b ++ 32 ∷ 49 ∷ 32 ∷ 64 ∷ (c ++ 32 ∷ (d ++ 32 ∷ 48 ∷ 32 ∷ (e ++ rest)))))

after : (xs ys zs rest : List ℕ) → ys ≡ zs ++ rest → xs ++ ys ≡ (xs ++ zs) ++ rest
after xs ys zs rest same = ap (λ l. xs ++ l) same ∙ sym (append_assoc xs zs rest)

line_split : (a b c d e rest : List ℕ) → line_with a b c d e rest ≡ line_with a b c d e [] ++ rest
line_split a b c d e rest =
    let in_e = after e rest [] rest refl in
    let in_d = after d (32 ∷ 48 ∷ 32 ∷ (e ++ rest)) (32 ∷ 48 ∷ 32 ∷ (e ++ [])) rest (ap (λ l. 32 ∷ 48 ∷ 32 ∷ l) in_e) in
    let in_c =
    after c (32 ∷ (d ++ 32 ∷ 48 ∷ 32 ∷ (e ++ rest))) (32 ∷ (d ++ 32 ∷ 48 ∷ 32 ∷ (e ++ []))) rest (ap (λ l. 32 ∷ l) in_d) in
    let in_b = after b (32 ∷ 49 ∷ 32 ∷ 64 ∷ (c ++ 32 ∷ (d ++ 32 ∷ 48 ∷ 32 ∷ (e ++ rest))))
    (32 ∷ 49 ∷ 32 ∷ 64 ∷ (c ++ 32 ∷ (d ++ 32 ∷ 48 ∷ 32 ∷ (e ++ [])))) rest (ap (λ l. 32 ∷ 49 ∷ 32 ∷ 64 ∷ l) in_c) in
    let in_a = after a (32 ∷ (b ++ 32 ∷ 49 ∷ 32 ∷ 64 ∷ (c ++ 32 ∷ (d ++ 32 ∷ 48 ∷ 32 ∷ (e ++ rest)))))
    (32 ∷ (b ++ 32 ∷ 49 ∷ 32 ∷ 64 ∷ (c ++ 32 ∷ (d ++ 32 ∷ 48 ∷ 32 ∷ (e ++ []))))) rest (ap (λ l. 32 ∷ l) in_b) in
    ap (λ l. 49 ∷ 32 ∷ 64 ∷ l) in_a

-- a line as it is written, before another text
pub line_written : (a b c d e rest : List ℕ)
    → (49 ∷ 32 ∷ 64 ∷ ((a ++ 32 ∷ b) ++ 32 ∷ 49 ∷ 32 ∷ 64 ∷ ((c ++ 32 ∷ d) ++ 32 ∷ 48 ∷ 32 ∷ (e ++ 10 ∷ [])))) ++ rest
    ≡ line_with a b c d e [] ++ 10 ∷ rest
line_written a b c d e rest =
    let to = append_assoc c (32 ∷ d) (32 ∷ 48 ∷ 32 ∷ (e ++ 10 ∷ [])) in
    let from = append_assoc a (32 ∷ b) (32 ∷ 49 ∷ 32 ∷ 64 ∷ ((c ++ 32 ∷ d) ++ 32 ∷ 48 ∷ 32 ∷ (e ++ 10 ∷ []))) in
    ap (λ l. (49 ∷ 32 ∷ 64 ∷ l) ++ rest) (from ∙ ap (λ l. a ++ 32 ∷ (b ++ 32 ∷ 49 ∷ 32 ∷ 64 ∷ l)) to)
    ∙ ap (λ l. l ++ rest) (line_split a b c d e (10 ∷ []))
    ∙ append_assoc (line_with a b c d e []) (10 ∷ []) rest

-- The texts of numbers are digits.
module _ (a b c d e : List ℕ) (all_a : list_all is_lower_hex_digit a ≡ true) (all_b : list_all is_lower_hex_digit b ≡ true)
    (all_c : list_all is_lower_hex_digit c ≡ true) (all_d : list_all is_lower_hex_digit d ≡ true)
    (all_e : list_all is_lower_hex_digit e ≡ true) where
  line_lacks : Lacks 10 (line_with a b c d e [])
  line_lacks =
      let lack = λ (ds : List ℕ) (all : list_all is_lower_hex_digit ds ≡ true). digits_lack 10 ds refl all in (
        refl,
        (
          refl,
          (
            refl,
            lacks_append 10 a (32 ∷ (b ++ 32 ∷ 49 ∷ 32 ∷ 64 ∷ (c ++ 32 ∷ (d ++ 32 ∷ 48 ∷ 32 ∷ (e ++ []))))) (lack a all_a) (
              refl,
              lacks_append 10 b (32 ∷ 49 ∷ 32 ∷ 64 ∷ (c ++ 32 ∷ (d ++ 32 ∷ 48 ∷ 32 ∷ (e ++ [])))) (lack b all_b) (
                refl,
                (
                  refl,
                  (
                    refl,
                    (
                      refl,
                      lacks_append 10 c (32 ∷ (d ++ 32 ∷ 48 ∷ 32 ∷ (e ++ []))) (lack c all_c) (
                        refl,
                        lacks_append 10 d (32 ∷ 48 ∷ 32 ∷ (e ++ [])) (lack d all_d)
                            (refl, (refl, (refl, lacks_append 10 e [] (lack e all_e) tt))),
                      ),
                    ),
                  ),
                ),
              ),
            ),
          ),
        ),
      )

  -- the line is the first one of a text that begins with it
  pub first_line : (rest : List ℕ) → lines (line_with a b c d e [] ++ 10 ∷ rest) ≡ line_with a b c d e [] ∷ lines rest
  first_line rest = lines_at (line_with a b c d e []) rest (lacks_all 10 (line_with a b c d e []) line_lacks)

  field : (f rest : List ℕ) → Lacks 32 f → fields (f ++ 32 ∷ rest) ≡ f ∷ fields rest
  field f rest lacks = slice_split_at (λ x. x == 32) f 32 rest (lacks_all 32 f lacks) refl

  number : (ds : List ℕ) → list_all is_lower_hex_digit ds ≡ true → Lacks 32 ds
  number ds all = digits_lack 32 ds refl all

  pub line_fields : fields (line_with a b c d e []) ≡ (49 ∷ []) ∷ (64 ∷ a) ∷ b ∷ (49 ∷ []) ∷ (64 ∷ c) ∷ d ∷ (48 ∷ []) ∷ e ∷ []
  line_fields =
      let last : fields (e ++ []) ≡ e ∷ [] =
      ap fields (append-nil e) ∙ slice_split_none (λ x. x == 32) e (lacks_all 32 e (number e all_e)) in
      let misses = field (48 ∷ []) (e ++ []) (refl, tt) ∙ ap (λ fs. (48 ∷ []) ∷ fs) last in
      let offset = field d (48 ∷ 32 ∷ (e ++ [])) (number d all_d) ∙ ap (λ fs. d ∷ fs) misses in
      let to = field (64 ∷ c) (d ++ 32 ∷ 48 ∷ 32 ∷ (e ++ [])) (refl, number c all_c) ∙ ap (λ fs. (64 ∷ c) ∷ fs) offset in
      let other = field (49 ∷ []) (64 ∷ (c ++ 32 ∷ (d ++ 32 ∷ 48 ∷ 32 ∷ (e ++ [])))) (refl, tt) ∙ ap (λ fs. (49 ∷ []) ∷ fs) to in
      let from_offset =
      field b (49 ∷ 32 ∷ 64 ∷ (c ++ 32 ∷ (d ++ 32 ∷ 48 ∷ 32 ∷ (e ++ [])))) (number b all_b) ∙ ap (λ fs. b ∷ fs) other in
      let from = field (64 ∷ a) (b ++ 32 ∷ 49 ∷ 32 ∷ 64 ∷ (c ++ 32 ∷ (d ++ 32 ∷ 48 ∷ 32 ∷ (e ++ [])))) (refl, number a all_a)
      ∙ ap (λ fs. (64 ∷ a) ∷ fs) from_offset in
      field (49 ∷ []) (64 ∷ (a ++ 32 ∷ (b ++ 32 ∷ 49 ∷ 32 ∷ 64 ∷ (c ++ 32 ∷ (d ++ 32 ∷ 48 ∷ 32 ∷ (e ++ [])))))) (refl, tt)
      ∙ ap (λ fs. (49 ∷ []) ∷ fs) from
