-- One append after another.
use Rattle.std.proofs.Common.{ℕ, suc, ◌+◌, ◌-◌, ◌≤◌, ◌<◌, ◌≡◌, List, [], ◌∷◌, ◌++◌, Bool, true, false, refl, sym, ◌∙◌, ap, subst, arith}
use Rattle.std.proofs.Common.{length, append_assoc, get_or, drop, take, add-one, length-append, flat_map}
use Rattle.std.proofs.lemmas.Grind.{common_steps}
use Rattle.std.proofs.lemmas.List.{append-nil, drop_more}
use Rattle.std.specs.Prelude.{All}
use Rattle.std.specs.List.{position_or_len}
use Rattle.cfi_rows.specs.declared.row.Rule.{Rule}
use Rattle.cfi_rows.specs.FrameRows.{RowValue, Rules, Known, rule_of}
use Rattle.answer_runs.specs.declared.run.Run.{Run}
use Rattle.frame_rewrite.specs.FrameAnswers.{FrameAnswer}
use Rattle.cfi_rows.specs.Entries.{RawEntry}
use Rattle.frame_rewrite.specs.SpelledFrames.{zeros, padding, spelled_entry, spelled_rules, spelled_other, other_rules, other_by}
use Rattle.frame_rewrite.specs.SpelledFrames.{spelled_row_before, spelled_rows, known_behind}
use Rattle.frame_rewrite.proofs.EntriesBack.{spelled-length}

pub past-end : {A : Type 0} (xs : List A) (i : ℕ) → length xs ≤ i → drop i xs ≡ []
past-end xs i h = grind (arith, common_steps)

pub zeros-more : (o new : List ℕ) (n i : ℕ) (want : List ℕ) → i < n → new ≡ o ++ 0 ∷ [] → o ++ zeros (n - i) ≡ want
    → new ++ zeros (n - (i + 1)) ≡ want
zeros-more o new n i want h e w =
    let k : n - i ≡ suc (n - (i + 1)) = omega arith in
    ap (λ (l : List ℕ). l ++ zeros (n - (i + 1))) e ∙ append_assoc o (0 ∷ []) (zeros (n - (i + 1)))
    ∙ ap (λ (m : ℕ). o ++ zeros m) (sym k) ∙ w

-- items that are spelled one after another
pub spelled-more : {A : Type 0} (spelled : A → List ℕ) (xs : List A) (i : ℕ) (x d : A) (o new want : List ℕ)
    → i < length xs → x ≡ get_or xs i d → new ≡ o ++ spelled x
    → o ++ flat_map spelled (drop i xs) ≡ want → new ++ flat_map spelled (drop (i + 1) xs) ≡ want
spelled-more spelled xs i x d o new want h is e w =
    let n = drop_more xs i d h in
    ap (λ (l : List ℕ). l ++ flat_map spelled (drop (i + 1) xs)) e
    ∙ append_assoc o (spelled x) (flat_map spelled (drop (i + 1) xs))
    ∙ ap (λ y. o ++ (spelled y ++ flat_map spelled (drop (i + 1) xs))) is
    ∙ ap (λ l. o ++ flat_map spelled l) (sym n) ∙ w

-- of the rules only new and changed ones are spelled
pub other-more : (old xs : Rules) (i : ℕ) (x d : ℕ × Rule) (o new want : List ℕ)
    → i < length xs → x ≡ get_or xs i d → new ≡ o ++ spelled_other old x.0 x.1
    → o ++ spelled_rules (other_rules old (drop i xs)) ≡ want → new ++ spelled_rules (other_rules old (drop (i + 1) xs)) ≡ want
other-more old xs i x d o new want h is e w =
    let n = drop_more xs i d h in
    ap (λ (l : List ℕ). l ++ spelled_rules (other_rules old (drop (i + 1) xs))) e
    ∙ append_assoc o (spelled_other old x.0 x.1) (spelled_rules (other_rules old (drop (i + 1) xs)))
    ∙ ap (λ (l : List ℕ). o ++ l) (first x (drop (i + 1) xs))
    ∙ ap (λ (y : ℕ × Rule). o ++ spelled_rules (other_rules old (y ∷ drop (i + 1) xs))) is
    ∙ ap (λ l. o ++ spelled_rules (other_rules old l)) (sym n) ∙ w where
      first : (x : ℕ × Rule) (ys : Rules) → spelled_other old x.0 x.1 ++ spelled_rules (other_rules old ys)
          ≡ spelled_rules (other_rules old (x ∷ ys))
      first x ys = by (other_by (rule_of x.0 old) x.1) refl where
        by : (b : Bool) → other_by (rule_of x.0 old) x.1 ≡ b → spelled_other old x.0 x.1 ++ spelled_rules (other_rules old ys)
            ≡ spelled_rules (other_rules old (x ∷ ys))
        by true e = rw e refl
        by false e = rw e refl

-- an item after the first
pub item-behind : {A : Type 0} (x : A) (xs : List A) (i : ℕ) (d : A) → get_or (x ∷ xs) (i + 1) d ≡ get_or xs i d
item-behind x xs i d = rw add-one refl

-- the row before that of a run, and the rows of the run and of those behind it
pub rows-more : (o new want : List ℕ) (known : Known) (at : ℕ) (row : RowValue) (r d : Run FrameAnswer)
    (more : List (Run FrameAnswer)) (i : ℕ) → i < length more → r ≡ get_or more i d
    → new ≡ o ++ spelled_row_before known row (r.start - at) → o ++ spelled_rows known at row (drop i more) ≡ want
    → new ++ spelled_rows (known_behind known row) r.start r.answer.row (drop (i + 1) more) ≡ want
rows-more o new want known at row r d more i h is e w =
    let rest = drop (i + 1) more in
    ap (λ (l : List ℕ). l ++ spelled_rows (known_behind known row) r.start r.answer.row rest) e
    ∙ append_assoc o (spelled_row_before known row (r.start - at))
    (spelled_rows (known_behind known row) r.start r.answer.row rest)
    ∙ ap (λ (q : Run FrameAnswer). o ++ spelled_rows known at row (q ∷ rest)) is
    ∙ ap (λ (l : List (Run FrameAnswer)). o ++ spelled_rows known at row l) (sym (drop_more more i d h)) ∙ w

-- the first of the runs from an index on
pub from-run : (P : List (Run FrameAnswer) → Type 0) (r d : Run FrameAnswer) (more : List (Run FrameAnswer)) (i : ℕ)
    → i < length more → r ≡ get_or more i d → P (drop i more) → P (r ∷ drop (i + 1) more)
from-run P r d more i h is p = subst (λ (q : Run FrameAnswer). P (q ∷ drop (i + 1) more)) (sym is)
    (subst P (drop_more more i d h) p)

pub to-run : (P : List (Run FrameAnswer) → Type 0) (r d : Run FrameAnswer) (more : List (Run FrameAnswer)) (i : ℕ)
    → i < length more → r ≡ get_or more i d → P (r ∷ drop (i + 1) more) → P (drop i more)
to-run P r d more i h is p = subst P (sym (drop_more more i d h)) (subst (λ (q : Run FrameAnswer). P (q ∷ drop (i + 1) more)) is p)

pub three-fields : (o a b c x y z : List ℕ) → a ≡ o ++ x → b ≡ a ++ y → c ≡ b ++ z → c ≡ o ++ (x ++ (y ++ z))
three-fields o a b c x y z p q u = rw (u, q, p) (simp append_assoc)

pub four-fields : (o a b c d x y z t : List ℕ) → a ≡ o ++ x → b ≡ a ++ y → c ≡ b ++ z → d ≡ c ++ t
    → d ≡ o ++ (x ++ (y ++ (z ++ t)))
four-fields o a b c d x y z t p q u v = rw (v, u, q, p) (simp append_assoc)

pub five-fields : (o a b c d e x y z t r : List ℕ) → a ≡ o ++ x → b ≡ a ++ y → c ≡ b ++ z → d ≡ c ++ t → e ≡ d ++ r
    → e ≡ o ++ (x ++ (y ++ (z ++ (t ++ r))))
five-fields o a b c d e x y z t r p q u v w = rw (w, v, u, q, p) (simp append_assoc)

-- a body of some fields, and the entry of it

pub body-put : (debug : Bool) (a b d f : List ℕ) → a ≡ [] → b ≡ a ++ f → d ≡ b ++ zeros (padding debug (length b))
    → d ≡ f ++ zeros (padding debug (length f))
body-put debug a b d f p q r = rw (r, q, p) refl

pub cie-put : (a b d f : List ℕ) → a ≡ [] → b ≡ a ++ f → d ≡ b ++ zeros (24 - length b) → d ≡ f ++ zeros (24 - length f)
cie-put a b d f p q r = rw (r, q, p) refl

pub new-length : (out new : List ℕ) (e : RawEntry) → new ≡ out ++ spelled_entry e
    → length new ≡ length out + 8 + length e.body
new-length out new e w =
    let s : length (spelled_entry e ++ []) ≡ 8 + length e.body + 0 = spelled-length e [] in
    let m : length (spelled_entry e) ≡ 8 + length e.body + 0 = ap length (sym (append-nil (spelled_entry e))) ∙ s in
    let t : length new ≡ length out + length (spelled_entry e) = ap length w ∙ length-append out (spelled_entry e) in
    added (length new) (length out) (length (spelled_entry e)) (length e.body) t m where
      added : (n o s b : ℕ) → n ≡ o + s → s ≡ 8 + b + 0 → n ≡ o + 8 + b
      added n o s b e f = omega arith

-- the place of the first item that passes a test

pub pos-true : {A : Type 0} (p : A → Bool) (x : A) (xs : List A) → p x ≡ true → position_or_len p (x ∷ xs) ≡ 0
pos-true p x xs e = rw e refl

pub pos-false : {A : Type 0} (p : A → Bool) (x : A) (xs : List A) → p x ≡ false
    → position_or_len p (x ∷ xs) ≡ 1 + position_or_len p xs
pos-false p x xs e = rw e refl

pub entry-put : (debug : Bool) (out new a b d g f : List ℕ) (place id want : ℕ)
    → new ≡ out ++ spelled_entry (record { place = place; id = id; body = g }) → g ≡ d → id ≡ want
    → a ≡ [] → b ≡ a ++ f → d ≡ b ++ zeros (padding debug (length b))
    → new ≡ out ++ spelled_entry (record { place = place; id = want; body = f ++ zeros (padding debug (length f)) })
entry-put debug out new a b d g f place id want w u e p q r =
    w ∙ ap (λ (n : ℕ). out ++ spelled_entry (record { place = place; id = n; body = g })) e
    ∙ ap (λ (l : List ℕ). out ++ spelled_entry (record { place = place; id = want; body = l }))
    (u ∙ body-put debug a b d f p q r)

pub all-taken : {A : Type 0} (P : A → Type 0) (xs : List A) (i : ℕ) → length xs ≤ i → All P (take i xs) → All P xs
all-taken P xs i h f = subst (All P) (whole xs i h) f where
  whole : {A : Type 0} (xs : List A) (i : ℕ) → length xs ≤ i → take i xs ≡ xs
  whole xs i h = grind (arith, common_steps)

pub four-puts : (o a b c d x y z t : List ℕ) → o ≡ [] → a ≡ o ++ x → b ≡ a ++ y → c ≡ b ++ z → d ≡ c ++ t
    → d ≡ ((x ++ y) ++ z) ++ t
four-puts o a b c d x y z t n p q r s = rw (s, r, q, p, n) refl
