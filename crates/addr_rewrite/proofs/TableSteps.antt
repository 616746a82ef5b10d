-- Steps of the functions that write tables of `.debug_aranges`.
use Rattle.std.proofs.Common.{◌≡◌, ◌∙◌, ◌<◌, ◌≤◌, ◌-◌, ◌+◌, ◌*◌, ◌++◌, ℕ, zero, suc, List, [], ◌∷◌, refl, sym, ap, arith, append_assoc}
use Rattle.std.proofs.Common.{append-nil, drop, get_or, length, take}
use Rattle.std.proofs.lemmas.Grind.{common_steps}
use Rattle.std.proofs.lemmas.List.{drop_more}
use Rattle.byteorder.specs.Endian.{little_bytes}
use Rattle.addr_rewrite.specs.WrittenAranges.{count_of, pairs_bytes, spelled_table, spelled_tables, table_bytes, tables_of}
use Rattle.addr_rewrite.specs.declared.stretch.Stretch.{Stretch}
use Rattle.addr_rewrite.proofs.TablesBack.{table_size}

none_left : (ss : List Stretch) (i : ℕ) → length ss ≤ i → drop i ss ≡ []
none_left ss i h = grind (arith, common_steps)

-- Pairs

pub pairs_more : (ss : List Stretch) (i : ℕ) (d : Stretch) (out new whole : List ℕ) → i < length ss →
    out ++ pairs_bytes (drop i ss) ≡ whole →
    new ≡ out ++ (little_bytes 8 (get_or ss i d).start ++ little_bytes 8 (get_or ss i d).len) →
    new ++ pairs_bytes (drop (i + 1) ss) ≡ whole
unfolding pairs_bytes
pairs_more ss i d out new whole h inv e =
    let s : Stretch = get_or ss i d in
    let rest : List ℕ = pairs_bytes (drop (i + 1) ss) in
    ap (λ (l : List ℕ). l ++ rest) e
    ∙ append_assoc out (little_bytes 8 s.start ++ little_bytes 8 s.len) rest
    ∙ ap (λ (l : List ℕ). out ++ l) (append_assoc (little_bytes 8 s.start) (little_bytes 8 s.len) rest)
    ∙ sym (ap (λ (l : List Stretch). out ++ pairs_bytes l) (drop_more ss i d h)) ∙ inv

pub pairs_end : (ss : List Stretch) (i : ℕ) (out new whole : List ℕ) → length ss ≤ i → out ++ pairs_bytes (drop i ss) ≡ whole →
    new ≡ out ++ (little_bytes 8 0 ++ little_bytes 8 0) → new ≡ whole
unfolding pairs_bytes
pairs_end ss i out new whole h inv e = e ∙ sym (ap (λ (l : List Stretch). out ++ pairs_bytes l) (none_left ss i h)) ∙ inv

-- A table

six_parts : (a b c d e f out o1 o2 o3 o4 o5 new : List ℕ) → o1 ≡ out ++ a → o2 ≡ o1 ++ b → o3 ≡ o2 ++ c → o4 ≡ o3 ++ d → o5 ≡ o4 ++ e →
    new ≡ o5 ++ f → new ≡ out ++ (a ++ (b ++ (c ++ (d ++ (e ++ f)))))
six_parts a b c d e f out o1 o2 o3 o4 o5 new p q r s t u =
    u ∙ ap (λ (l : List ℕ). l ++ f) (t ∙ ap (λ (l : List ℕ). l ++ e) (s ∙ ap (λ (l : List ℕ). l ++ d) (r ∙ ap (λ (l : List ℕ). l ++ c)
    (q ∙ ap (λ (l : List ℕ). l ++ b) p))))
    ∙ simp append_assoc

pub table_parts : (unit size : ℕ) (ss : List Stretch) (out o1 o2 o3 o4 o5 new : List ℕ) → size ≡ 28 + 16 * length ss →
    o1 ≡ out ++ little_bytes 4 size → o2 ≡ o1 ++ little_bytes 2 2 → o3 ≡ o2 ++ little_bytes 4 unit → o4 ≡ o3 ++ little_bytes 2 8 →
    o5 ≡ o4 ++ little_bytes 4 0 → new ≡ o5 ++ pairs_bytes ss → new ≡ out ++ spelled_table (table_bytes unit ss)
unfolding table_bytes
table_parts unit size ss out o1 o2 o3 o4 o5 new is p q r s t u =
    six_parts (little_bytes 4 (length (table_bytes unit ss))) (little_bytes 2 2) (little_bytes 4 unit) (little_bytes 2 8) (little_bytes 4 0)
    (pairs_bytes ss) out o1 o2 o3 o4 o5 new
    (p ∙ ap (λ (n : ℕ). out ++ little_bytes 4 n) (is ∙ sym (table_size unit ss))) q r s t u

-- Tables

pub no_tables : (n : ℕ) (rest : List Stretch) (out whole : List ℕ) → length rest ≡ 0 → out ++ spelled_tables (tables_of n rest) ≡ whole →
    out ≡ whole
unfolding tables_of
no_tables n rest out whole e inv =
    sym (append-nil out) ∙ sym (ap (λ (l : List ℕ). out ++ l) (none n rest e)) ∙ inv where
      none : (n : ℕ) (rest : List Stretch) → length rest ≡ 0 → spelled_tables (tables_of n rest) ≡ []
      none zero [] e = refl
      none (suc n) [] e = refl
      none n (s ∷ rest) e = absurd (omega arith)

pub tables_end : (n count : ℕ) (rest : List Stretch) (out whole : List ℕ) → n ≤ count →
    out ++ spelled_tables (tables_of (n - count) rest) ≡ whole → out ≡ whole
unfolding tables_of
tables_end n count rest out whole h inv =
    let done : n - count ≡ 0 = omega arith in
    sym (append-nil out) ∙ sym (ap (λ (m : ℕ). out ++ spelled_tables (tables_of m rest)) done ∙ ap (λ (l : List ℕ). out ++ l) (none rest))
    ∙ inv where
      none : (rest : List Stretch) → spelled_tables (tables_of 0 rest) ≡ []
      none [] = refl
      none (s ∷ rest) = refl

pub tables_more : (n count : ℕ) (s : Stretch) (others rest : List Stretch) (out new whole : List ℕ) → count < n → rest ≡ s ∷ others →
    new ≡ out ++ spelled_table (table_bytes s.unit (s ∷ take (count_of s.unit others) others)) →
    out ++ spelled_tables (tables_of (n - count) rest) ≡ whole →
    new ++ spelled_tables (tables_of (n - (count + 1)) (drop (count_of s.unit others) others)) ≡ whole
unfolding tables_of
tables_more n count s others rest out new whole h is e inv =
    let k : ℕ = count_of s.unit others in
    let more : List ℕ = spelled_tables (tables_of (n - (count + 1)) (drop k others)) in
    let left : n - count ≡ suc (n - (count + 1)) = omega arith in
    ap (λ (l : List ℕ). l ++ more) e
    ∙ append_assoc out (spelled_table (table_bytes s.unit (s ∷ take k others))) more
    ∙ sym ((λ i. out ++ spelled_tables (tables_of (left i) (is i)))) ∙ inv

-- The first of the stretches, with those after it that are of its unit.
pub taken : (k : ℕ) (s : Stretch) (others rest : List Stretch) → rest ≡ s ∷ others → take (k + 1) rest ≡ s ∷ take k others
taken k s others rest e = let n : k + 1 ≡ suc k = omega arith in (λ i. take (n i) (e i))

pub dropped : (k : ℕ) (s : Stretch) (others rest : List Stretch) → rest ≡ s ∷ others → drop (k + 1) rest ≡ drop k others
dropped k s others rest e = let n : k + 1 ≡ suc k = omega arith in (λ i. drop (n i) (e i))
