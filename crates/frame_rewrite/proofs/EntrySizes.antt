-- How many bytes written entries have.
use Rattle.std.proofs.Common.{ℕ, zero, suc, ◌+◌, ◌-◌, ◌*◌, ◌≤◌, ◌≡◌, List, [], ◌∷◌, ◌++◌, Bool, refl, sym, ◌∙◌, ap, subst, arith, length}
use Rattle.std.proofs.Common.{take, drop, length-append}
use Rattle.std.specs.Prelude.{All, Option, Some, None, sum_by, filter, true, false, nat_lt, ◌==◌, ◌<◌, if◌then◌else◌}
use Rattle.std.specs.Ordering.{int_eq}
use Rattle.std.proofs.lemmas.Bool.{and_parts, ltb-true}
use Rattle.std.proofs.lemmas.List.Elements.{All-cons, All-head, All-tail, All-take, All-drop}
use Rattle.std.proofs.lemmas.List.Sums.{sum_by-cons, sum_by-take-drop}
use Rattle.byteorder.specs.Endian.{little_bytes}
use Rattle.rb_bytes.specs.Leb.{uleb}
use Rattle.rb_bytes.proofs.UnsignedLeb.{length-uleb-le}
use Rattle.addr_map.specs.declared.span.Span.{Span}
use Rattle.answer_runs.specs.declared.run.Run.{Run}
use Rattle.cfi_rows.specs.declared.row.Cfa.{Cfa}
use Rattle.cfi_rows.specs.declared.row.Cfa.TheVariants.{Reg, Expr}
use Rattle.cfi_rows.specs.declared.row.Rule.{Rule}
use Rattle.cfi_rows.specs.declared.row.Rule.TheVariants as rule
use Rattle.cfi_rows.specs.EntryCounts.{cfa_bytes, rule_bytes}
use Rattle.cfi_rows.specs.FrameRows.{RowValue, Rules, Known}
use Rattle.cfi_rows.specs.RuleEntries.{Ascend}
use Rattle.frame_rewrite.specs.declared.form.Form.{Form}
use Rattle.frame_rewrite.specs.declared.form.Form.TheVariants.{Debug, Loaded}
use Rattle.frame_rewrite.specs.Index.{distance, distance_bytes}
use Rattle.frame_rewrite.specs.declared.cie_key.CieKey.{CieKey}
use Rattle.frame_rewrite.specs.FrameAnswers.{FrameAnswer}
use Rattle.frame_rewrite.specs.SpelledFits.{RunAscends}
use Rattle.frame_rewrite.specs.SpelledFrames.{up, down, spelled_block, spelled_cfa, spelled_cfa_from, spelled_rule, spelled_rules}
use Rattle.frame_rewrite.specs.SpelledFrames.{spelled_restores, spelled_change, spelled_advance, spelled_rows, spelled_entries}
use Rattle.frame_rewrite.specs.SpelledFrames.{key_of, is_debug, has_data, spelled_range, spelled_table, known_by, known_behind, spelled_row_before, first_known, gone_rules, other_rules, zeros, padding, are_low}
use Rattle.frame_rewrite.specs.SpelledFrames.{start_of, last_end, fde_fields, fde_body, fde_entry, fde_entries, more_count}
use Rattle.frame_rewrite.specs.Tables.{rules_bytes, run_size}
use Rattle.frame_rewrite.proofs.NumbersBack.{length-little, length-zeros}
use Rattle.frame_rewrite.proofs.EntriesBack.{spelled-length}

abbrev Runs : Type 0
Runs = List (Run FrameAnswer)

two-numbers : (a b : List ℕ) → length a ≤ 10 → length b ≤ 10 → length (a ++ b) ≤ 20
two-numbers a b l m = let e : length (a ++ b) ≡ length a + length b = length-append a b in omega arith

block-size : (b : List ℕ) → length (spelled_block b) ≤ 10 + length b
block-size b =
    let e : length (uleb (length b) ++ b) ≡ length (uleb (length b)) + length b = length-append (uleb (length b)) b in
    let l : length (uleb (length b)) ≤ 10 = length-uleb-le (length b) in
    omega arith

register-block : (r : ℕ) (b : List ℕ) → length (uleb r ++ spelled_block b) ≤ 20 + length b
register-block r b =
    let e : length (uleb r ++ spelled_block b) ≡ length (uleb r) + length (spelled_block b) = length-append (uleb r)
    (spelled_block b) in
    let l : length (uleb r) ≤ 10 = length-uleb-le r in
    let m : length (spelled_block b) ≤ 10 + length b = block-size b in
    omega arith

one-more : (n m k : ℕ) → n ≤ m → m + 1 ≤ k → suc n ≤ k
one-more n m k h g = omega arith

cfa-size : (c : Cfa) → length (spelled_cfa c) ≤ 21 + cfa_bytes c
cfa-size (Reg r n) = one-more (length (uleb r ++ uleb (up n))) 20 21
    (two-numbers (uleb r) (uleb (up n)) (length-uleb-le r) (length-uleb-le (up n))) (omega arith)
cfa-size (Expr b) = one-more (length (spelled_block b)) (10 + length b) (21 + length b) (block-size b) (omega arith)

rule-size : (r : ℕ) (v : Rule) → length (spelled_rule r v) ≤ 21 + rule_bytes v
rule-size r rule.Undefined = one-more (length (uleb r)) 10 21 (length-uleb-le r) (omega arith)
rule-size r rule.Same = one-more (length (uleb r)) 10 21 (length-uleb-le r) (omega arith)
rule-size r (rule.Offset n) = by (nat_lt r 64) where
  by : (b : Bool) → length (if b then (128 + r) ∷ uleb (down n) else 0x05 ∷ (uleb r ++ uleb (down n))) ≤ 21 + 0
  by true = one-more (length (uleb (down n))) 10 21 (length-uleb-le (down n)) (omega arith)
  by false = one-more (length (uleb r ++ uleb (down n))) 20 21
      (two-numbers (uleb r) (uleb (down n)) (length-uleb-le r) (length-uleb-le (down n))) (omega arith)
rule-size r (rule.ValOffset n) = one-more (length (uleb r ++ uleb (down n))) 20 21
    (two-numbers (uleb r) (uleb (down n)) (length-uleb-le r) (length-uleb-le (down n))) (omega arith)
rule-size r (rule.Reg q) = one-more (length (uleb r ++ uleb q)) 20 21
    (two-numbers (uleb r) (uleb q) (length-uleb-le r) (length-uleb-le q)) (omega arith)
rule-size r (rule.Expr b) = one-more (length (uleb r ++ spelled_block b)) (20 + length b) (21 + length b)
    (register-block r b) (omega arith)
rule-size r (rule.ValExpr b) = one-more (length (uleb r ++ spelled_block b)) (20 + length b) (21 + length b)
    (register-block r b) (omega arith)

rules-size : (rules : Rules) → length (spelled_rules rules) ≤ 21 * length rules + rules_bytes rules
rules-size [] = omega arith
rules-size (x ∷ xs) =
    let e : length (spelled_rule x.0 x.1 ++ spelled_rules xs)
    ≡ length (spelled_rule x.0 x.1) + length (spelled_rules xs) = length-append (spelled_rule x.0 x.1)
    (spelled_rules xs) in
    sums _ (length (spelled_rule x.0 x.1)) (length (spelled_rules xs)) (rule_bytes x.1) (length xs) (rules_bytes xs) _ e
    (rule-size x.0 x.1) (rules-size xs)
    (sum_by-cons (λ (y : ℕ × Rule). rule_bytes y.1) x xs) where
      sums : (t a b x n r s : ℕ) → t ≡ a + b → a ≤ 21 + x → b ≤ 21 * n + r → s ≡ x + r → t ≤ 21 * suc n + s
      sums t a b x n r s e h g k = omega arith

-- how much is counted for a row
abbrev row_count : RowValue → ℕ
row_count row = 21 * length row.rules + (cfa_bytes row.cfa + rules_bytes row.rules)

behind-eight : (d : ℕ) (xs : List ℕ) → length (little_bytes 8 d ++ xs) ≡ 8 + length xs
behind-eight d xs = length-append (little_bytes 8 d) xs ∙ ap (λ (n : ℕ). n + length xs) (length-little 8 d)

-- a change has a byte for each rule that is gone

cfa-from-size : (o : Option Cfa) (c : Cfa) → length (spelled_cfa_from o c) ≤ 21 + cfa_bytes c
cfa-from-size None c = cfa-size c
cfa-from-size (Some (Expr d)) c = cfa-size c
cfa-from-size (Some (Reg q m)) (Expr b) = cfa-size (Expr b)
cfa-from-size (Some (Reg q m)) (Reg r n) = by (q == r) (int_eq m n) where
  by : (b c : Bool) → length (if b then (if c then [] else 0x0e ∷ uleb (up n)) else spelled_cfa (Reg r n)) ≤ 21 + 0
  by true true = omega arith
  by true false = one-more (length (uleb (up n))) 10 21 (length-uleb-le (up n)) (omega arith)
  by false c = cfa-size (Reg r n)

chosen-rules-size : (P : ℕ × Rule → Bool) (rules : Rules)
    → length (spelled_rules (filter P rules)) ≤ 21 * length rules + rules_bytes rules
chosen-rules-size P [] = omega arith
chosen-rules-size P (x ∷ xs) = by (P x) refl (chosen-rules-size P xs) where
  more : (n r s x a : ℕ) → a ≤ 21 * n + r → s ≡ x + r → a ≤ 21 * suc n + s
  more n r s x a h k = omega arith

  sums : (t a b x n r s : ℕ) → t ≡ a + b → a ≤ 21 + x → b ≤ 21 * n + r → s ≡ x + r → t ≤ 21 * suc n + s
  sums t a b x n r s e h g k = omega arith

  by : (b : Bool) → P x ≡ b → length (spelled_rules (filter P xs)) ≤ 21 * length xs + rules_bytes xs
      → length (spelled_rules (filter P (x ∷ xs))) ≤ 21 * length (x ∷ xs) + rules_bytes (x ∷ xs)
  by true e h =
      rw e (sums _ (length (spelled_rule x.0 x.1)) (length (spelled_rules (filter P xs))) (rule_bytes x.1) (length xs)
      (rules_bytes xs) _ (length-append (spelled_rule x.0 x.1) (spelled_rules (filter P xs))) (rule-size x.0 x.1) h
      (sum_by-cons (λ (y : ℕ × Rule). rule_bytes y.1) x xs))
  by false e h = rw e (more (length xs) (rules_bytes xs) _ (rule_bytes x.1) _ h
      (sum_by-cons (λ (y : ℕ × Rule). rule_bytes y.1) x xs))

chosen-restores-size : (P : ℕ × Rule → Bool) (rules : Rules) → length (spelled_restores (filter P rules)) ≤ length rules
chosen-restores-size P [] = omega arith
chosen-restores-size P (x ∷ xs) = by (P x) refl (chosen-restores-size P xs) where
  by : (b : Bool) → P x ≡ b → length (spelled_restores (filter P xs)) ≤ length xs
      → length (spelled_restores (filter P (x ∷ xs))) ≤ length (x ∷ xs)
  by true e h = rw e (more _ _ h) where
    more : (a b : ℕ) → a ≤ b → suc a ≤ suc b
    more a b h = omega arith
  by false e h = rw e (more _ _ h) where
    more : (a b : ℕ) → a ≤ b → a ≤ suc b
    more a b h = omega arith

change-size : (known : Known) (row : RowValue) → length (spelled_change known row) ≤ 21 + length known.rules + row_count row
change-size known row =
    sums _ (length (spelled_cfa_from known.cfa row.cfa)) _ (length (spelled_restores (gone_rules known.rules row.rules)))
    (length (spelled_rules (other_rules known.rules row.rules))) (cfa_bytes row.cfa) (length known.rules) (length row.rules)
    (rules_bytes row.rules)
    (length-append (spelled_cfa_from known.cfa row.cfa)
    (spelled_restores (gone_rules known.rules row.rules) ++ spelled_rules (other_rules known.rules row.rules)))
    (length-append (spelled_restores (gone_rules known.rules row.rules)) (spelled_rules (other_rules known.rules row.rules)))
    (cfa-from-size known.cfa row.cfa) (chosen-restores-size _ known.rules) (chosen-rules-size _ row.rules) where
      sums : (t c u g s x k n r : ℕ) → t ≡ c + u → u ≡ g + s → c ≤ 21 + x → g ≤ k → s ≤ 21 * n + r
          → t ≤ 21 + k + (21 * n + (x + r))
      sums t c u g s x k n r e f h i j = omega arith

-- there are few low registers
few-low : (lo : ℕ) (rules : Rules) → lo ≤ 32 → Ascend lo rules → are_low rules ≡ true → length rules + lo ≤ 32
few-low lo [] h a low = omega arith
few-low lo (x ∷ xs) h a low =
    let both = and_parts (nat_lt x.0 32) (are_low xs) low in
    let small : x.0 < 32 = ltb-true x.0 32 both.0 in
    sums (length xs) lo x.0 (few-low (x.0 + 1) xs (omega arith) a.1 both.1) a.0 where
      sums : (n l r : ℕ) → n + (r + 1) ≤ 32 → l ≤ r → suc n + l ≤ 32
      sums n l r h k = omega arith

advance-size : (n : ℕ) → length (spelled_advance n) ≤ 5
advance-size n = by (nat_lt n 64) (nat_lt n 256) (nat_lt n 65536) where
  by : (b c d : Bool) → length (if b then (64 + n) ∷ [] else (if c then 0x02 ∷ n ∷ []
      else (if d then 0x03 ∷ little_bytes 2 n else 0x04 ∷ little_bytes 4 n))) ≤ 5
  by true c d = omega arith
  by false true d = omega arith
  by false false true = let l = length-little 2 n in omega arith
  by false false false = let l = length-little 4 n in omega arith

abbrev total : Runs → ℕ
total rs = sum_by (λ (r : Run FrameAnswer). run_size r.answer) rs

total-cons : (r : Run FrameAnswer) (rs : Runs) → total (r ∷ rs) ≡ run_size r.answer + total rs
total-cons r rs = sum_by-cons (λ (x : Run FrameAnswer). run_size x.answer) r rs

counted : (r : Run FrameAnswer) → 88 + row_count r.answer.row ≤ run_size r.answer
counted r = sums (length r.answer.row.rules) (cfa_bytes r.answer.row.cfa + rules_bytes r.answer.row.rules) where
  sums : (n x : ℕ) → 88 + (21 * n + x) ≤ 64 + 24 * (n + 1) + x
  sums n x = omega arith

-- a row behind which the location moves on, with the rules that are known then
before-size : (known : Known) (row : RowValue) (n : ℕ) → length known.rules ≤ 32 → Ascend 0 row.rules
    → (length (spelled_row_before known row n) + length (known_behind known row).rules
    ≤ 60 + length known.rules + row_count row) × (length (known_behind known row).rules ≤ 32)
before-size known row n few a = by (are_low row.rules) refl where
  low_sums : (t c v k x l : ℕ) → t ≡ c + v → c ≤ 21 + k + x → v ≤ 5 → l + 0 ≤ 32 → (t + l ≤ 60 + k + x) × (l ≤ 32)
  low_sums t c v k x l e f g h = (omega arith, omega arith)

  sums : (t c u v k x : ℕ) → t ≡ c + u → u ≡ v + 1 → c ≤ 21 + k + x → v ≤ 5 → k ≤ 32
      → (suc t + k ≤ 60 + k + x) × (k ≤ 32)
  sums t c u v k x e f g h i = (omega arith, omega arith)

  by : (b : Bool) → are_low row.rules ≡ b
      → (length (if b then spelled_change known row ++ spelled_advance n
      else 0x0a ∷ (spelled_change known row ++ (spelled_advance n ++ 0x0b ∷ [])))
      + length (if b then known_by row else known).rules ≤ 60 + length known.rules + row_count row)
      × (length (if b then known_by row else known).rules ≤ 32)
  by true e =
      low_sums _ (length (spelled_change known row)) (length (spelled_advance n)) (length known.rules) (row_count row)
      (length row.rules) (length-append (spelled_change known row) (spelled_advance n)) (change-size known row)
      (advance-size n) (few-low 0 row.rules (omega arith) a e)
  by false e =
      sums _ (length (spelled_change known row)) _ (length (spelled_advance n)) (length known.rules) (row_count row)
      (length-append (spelled_change known row) (spelled_advance n ++ 0x0b ∷ []))
      (length-append (spelled_advance n) (0x0b ∷ [])) (change-size known row) (advance-size n) few

-- what a row needs is counted of its run, but for the rules before it
rows-size : (known : Known) (at : ℕ) (row : RowValue) (rs : Runs) → length known.rules ≤ 32 → Ascend 0 row.rules
    → All RunAscends rs
    → length (spelled_rows known at row rs) + 8 * length rs ≤ 28 + length known.rules + row_count row + total rs
rows-size known at row [] few a ascend = let c = change-size known row in omega arith
rows-size known at row (r ∷ rs) few a ascend =
    let first = before-size known row (r.start - at) few a in
    sums _ (length (spelled_row_before known row (r.start - at)))
    (length (spelled_rows (known_behind known row) r.start r.answer.row rs)) (length known.rules)
    (length (known_behind known row).rules) (row_count row) (row_count r.answer.row) (run_size r.answer) (length rs) (total rs) _
    (length-append (spelled_row_before known row (r.start - at))
    (spelled_rows (known_behind known row) r.start r.answer.row rs))
    first.0
    (rows-size (known_behind known row) r.start r.answer.row rs first.1 (All-head RunAscends r rs ascend)
    (All-tail RunAscends r rs ascend)) (counted r) (total-cons r rs) where
      sums : (t b w k l x y s n m z : ℕ) → t ≡ b + w → b + l ≤ 60 + k + x → w + 8 * n ≤ 28 + l + y + m → 88 + y ≤ s
          → z ≡ s + m → t + 8 * suc n ≤ 28 + k + x + z
      sums t b w k l x y s n m z e f g h i = omega arith

abbrev first_rows : List Span → Run FrameAnswer → Runs → List ℕ
first_rows spans r more = spelled_rows (first_known r.answer.signal) (start_of spans r) r.answer.row more

table-size : (has_data tabled : Bool) (t : ℕ) → length (spelled_table has_data tabled t) ≤ 9
table-size false tabled t = omega arith
table-size true false t = omega arith
table-size true true t = let l = length-little 8 t in omega arith

range-size : (form : Form) (place start size : ℕ) → length (spelled_range form place start size) ≤ 16
range-size Debug place start size =
    both _ (length (little_bytes 8 start)) (length (little_bytes 8 size)) (length-append (little_bytes 8 start) (little_bytes 8 size))
    (length-little 8 start) (length-little 8 size) where
      both : (n a b : ℕ) → n ≡ a + b → a ≡ 8 → b ≡ 8 → n ≤ 16
      both n a b e f g = omega arith
range-size (Loaded at) place start size =
    let from = distance_bytes start (at + place + 8) in
    both _ (length from) (length (little_bytes 4 size)) (length-append from (little_bytes 4 size))
    (length-little 4 (distance start (at + place + 8))) (length-little 4 size) where
      both : (n a b : ℕ) → n ≡ a + b → a ≡ 4 → b ≡ 4 → n ≤ 16
      both n a b e f g = omega arith

fields-size : (form : Form) (place : ℕ) (spans : List Span) (r : Run FrameAnswer) (more : Runs)
    → length (fde_fields form place spans r more) ≤ 25 + length (first_rows spans r more)
fields-size form place spans r more =
    let size = last_end (r.start + r.len) more - start_of spans r in
    let range = spelled_range form place (start_of spans r) size in
    let key = key_of spans r.answer in
    let table = spelled_table (has_data (is_debug form) key) key.tabled r.answer.table in
    sums _ (length range) _ (length table) _ (length-append range (table ++ first_rows spans r more))
    (range-size form place (start_of spans r) size) (length-append table (first_rows spans r more))
    (table-size (has_data (is_debug form) key) key.tabled r.answer.table) where
      sums : (t u v w x : ℕ) → t ≡ u + v → u ≤ 16 → v ≡ w + x → w ≤ 9 → t ≤ 25 + x
      sums t u v w x a b c d = omega arith

body-size : (form : Form) (place : ℕ) (spans : List Span) (r : Run FrameAnswer) (more : Runs) → All RunAscends (r ∷ more)
    → 8 + length (fde_body form place spans r more) + 8 * suc (length more) ≤ run_size r.answer + total more
body-size form place spans r more ascend =
    let fields = fde_fields form place spans r more in
    let pad = padding (is_debug form) (length fields) in
    sums _ (length fields) _ (length (first_rows spans r more)) (row_count r.answer.row)
    (run_size r.answer) (length more) (total more)
    (length-append fields (zeros pad)) (subst (λ (n : ℕ). n ≤ 7) (sym (length-zeros pad)) (padded (is_debug form) (length fields)))
    (fields-size form place spans r more) (counted r)
    (rows-size (first_known r.answer.signal) (start_of spans r) r.answer.row more (omega arith)
    (All-head RunAscends r more ascend) (All-tail RunAscends r more ascend)) where
      padded : (debug : Bool) (n : ℕ) → padding debug n ≤ 7
      padded true n = omega arith
      padded false n = omega arith

      sums : (t f z a x s n u : ℕ) → t ≡ f + z → z ≤ 7 → f ≤ 25 + a → 88 + x ≤ s → a + 8 * n ≤ 28 + 0 + x + u
          → 8 + t + 8 * suc n ≤ s + u
      sums t f z a x s n u e p g c k = omega arith

total-split : (k : ℕ) (rs : Runs) → total rs ≡ total (take k rs) + total (drop k rs)
total-split k rs = sym (sum_by-take-drop (λ (r : Run FrameAnswer). run_size r.answer) rs k)

length-split : (k : ℕ) (rs : Runs) → length rs ≡ length (take k rs) + length (drop k rs)
length-split zero rs = omega arith
length-split (suc k) [] = refl
length-split (suc k) (r ∷ rs) = one (length rs) (length (take k rs)) (length (drop k rs)) (length-split k rs) where
  one : (a b c : ℕ) → a ≡ b + c → suc a ≡ suc b + c
  one a b c e = omega arith

pub least-total : (rs : Runs) → 8 * length rs ≤ total rs
least-total [] = omega arith
least-total (r ∷ rs) = sums (length rs) (run_size r.answer) (total rs) (row_count r.answer.row) _ (counted r)
    (least-total rs) (total-cons r rs) where
      sums : (n s t x u : ℕ) → 88 + x ≤ s → 8 * n ≤ t → u ≡ s + t → 8 * suc n ≤ u
      sums n s t x u c h k = omega arith

nothing-more : (n t : ℕ) → n ≤ t → 0 + n ≤ t
nothing-more n t h = omega arith

pub fdes-size : (form : Form) (spans : List Span) (keys : List CieKey) (n place : ℕ) (rs : Runs)
    → All RunAscends rs → length (spelled_entries (fde_entries form spans keys n place rs)) + 8 * length rs ≤ total rs
unfolding fde_entries
fdes-size form spans keys n place [] ascend = omega arith
fdes-size form spans keys zero place (r ∷ rs) ascend = nothing-more (8 * length (r ∷ rs)) (total (r ∷ rs)) (least-total (r ∷ rs))
fdes-size form spans keys (suc n) place (r ∷ rs) ascend =
    sums _ _ _ (run_size r.answer) _ _ _ _ _ _ _
    (spelled-length (fde_entry form spans keys place r (take (more_count r rs) rs))
    (spelled_entries (fde_entries form spans keys n
    (place + 8 + length (fde_body form place spans r (take (more_count r rs) rs))) (drop (more_count r rs) rs))))
    (body-size form place spans r (take (more_count r rs) rs) (All-cons RunAscends r (take (more_count r rs) rs)
    (All-head RunAscends r rs ascend) (All-take RunAscends (more_count r rs) rs (All-tail RunAscends r rs ascend))))
    (length-split (more_count r rs) rs) (total-split (more_count r rs) rs)
    (fdes-size form spans keys n (place + 8 + length (fde_body form place spans r (take (more_count r rs) rs)))
    (drop (more_count r rs) rs) (All-drop RunAscends (more_count r rs) rs (All-tail RunAscends r rs ascend))) (total-cons r rs) where
      sums : (t b rest s taken left count both front back u : ℕ) → t ≡ 8 + b + rest → 8 + b + 8 * suc taken ≤ s + front
          → count ≡ taken + left → both ≡ front + back → rest + 8 * left ≤ back
          → u ≡ s + both → t + 8 * suc count ≤ u
      sums t b rest s taken left count both front back u e h c d g k = omega arith
