-- The size of written units in bytes, and how they are written part by part.
use Rattle.std.proofs.Common.{◌≡◌, ◌≤◌, ◌<◌, ◌+◌, ◌-◌, ◌^◌, ◌++◌, ℕ, List, [], ◌∷◌, refl, sym, ◌∙◌, ap, arith, append_assoc, length}
use Rattle.std.proofs.Common.{length-append, length-drop, length-set, drop, get_or, zero, suc, append-nil, subst, Option, Some, None}
use Rattle.std.specs.Prelude.{All}
use Rattle.std.proofs.lemmas.List.{at_drop_more}
use Rattle.std.proofs.lemmas.List.Elements.{All-head, All-tail}
use Rattle.byteorder.specs.Endian.{little_bytes}
use Rattle.byteorder.specs.Numbers.{length-bytes_low_first}
use Rattle.answer_runs.specs.AnswerRuns.{IsWithin}
use Rattle.answer_runs.specs.declared.run.Run.{Run}
use Rattle.line_rewrite.specs.declared.header.Header.{Header}
use Rattle.line_rewrite.specs.declared.unit.Unit as kept
use Rattle.line_rewrite.specs.LineAnswers.{LineSaid}
use Rattle.line_rewrite.specs.Written.{written_coding}
use Rattle.line_rewrite.specs.WrittenPrograms.{Begun, nothing_begun, with_piece, closed}
use Rattle.line_rewrite.specs.WrittenRuns.{Placed, with_placed, begun}
use Rattle.line_rewrite.specs.WrittenUnits.{flag_byte, operand_counts, header_fields, unit_bytes, written_units, spelled_unit}
use Rattle.line_rewrite.specs.WrittenUnits.{spelled_units}

pub fields_length : (h : Header) → length (header_fields h) ≡ 18 + length h.rest.items
fields_length h = length-append (1 ∷ 1 ∷ flag_byte h.coding.default_is_stmt ∷ 251 ∷ 14 ∷ 13 ∷ operand_counts) h.rest.items

pub unit_length : (h : Header) (program : List ℕ) → length (unit_bytes h program) ≡ 26 + length h.rest.items + length program
unfolding unit_bytes
unit_length h program =
    let fields = fields_length h in
    let a = length-append (little_bytes 4 (length (header_fields h))) (header_fields h ++ program) in
    let b = length-append (header_fields h) program in
    let c : length (little_bytes 4 (length (header_fields h))) ≡ 4 = length-bytes_low_first 0 4 (length (header_fields h)) in
    omega (arith, fields, a, b, c)

-- Bytes that grew by one part after another.
pub three_parts : (a b c out o1 o2 new : List ℕ) → o1 ≡ out ++ a → o2 ≡ o1 ++ b → new ≡ o2 ++ c → new ≡ out ++ ((a ++ b) ++ c)
three_parts a b c out o1 o2 new e f g =
    g ∙ ap (λ (l : List ℕ). l ++ c) (f ∙ ap (λ (l : List ℕ). l ++ b) e ∙ append_assoc out a b) ∙ append_assoc out (a ++ b) c

five_parts : (a b c d e out o1 o2 o3 o4 new : List ℕ) → o1 ≡ out ++ a → o2 ≡ o1 ++ b → o3 ≡ o2 ++ c → o4 ≡ o3 ++ d → new ≡ o4 ++ e
    → new ≡ out ++ (a ++ (b ++ (c ++ (d ++ e))))
five_parts a b c d e out o1 o2 o3 o4 new f g h i j =
    j ∙ ap (λ (l : List ℕ). l ++ e) (i ∙ ap (λ (l : List ℕ). l ++ d) (h ∙ ap (λ (l : List ℕ). l ++ c) (g ∙ ap (λ (l : List ℕ). l ++ b) f)))
    ∙ simp append_assoc

pub unit_parts : (h : Header) (program out o1 o2 o3 o4 new : List ℕ) (size fields : ℕ) → size ≡ 26 + length h.rest.items + length program
    → fields ≡ 18 + length h.rest.items
    → o1 ≡ out ++ little_bytes 4 size → o2 ≡ o1 ++ (5 ∷ 0 ∷ 8 ∷ 0 ∷ []) → o3 ≡ o2 ++ little_bytes 4 fields → o4 ≡ o3 ++ header_fields h
    → new ≡ o4 ++ program
    → new ≡ out ++ spelled_unit (unit_bytes h program)
unfolding unit_bytes
unit_parts h program out o1 o2 o3 o4 new size fields s f e1 e2 e3 e4 e5 =
    let a : size ≡ length (unit_bytes h program) = s ∙ sym (unit_length h program) in
    let b : fields ≡ length (header_fields h) = f ∙ sym (fields_length h) in
    five_parts (little_bytes 4 (length (unit_bytes h program))) (5 ∷ 0 ∷ 8 ∷ 0 ∷ []) (little_bytes 4 (length (header_fields h)))
    (header_fields h) program out o1 o2 o3 o4 new
    (e1 ∙ ap (λ (n : ℕ). out ++ little_bytes 4 n) a) e2 (e3 ∙ ap (λ (n : ℕ). o2 ++ little_bytes 4 n) b) e4 e5

-- One more program

pub begun_count : (us : List kept.Unit) → length (begun us) ≡ length us
begun_count [] = refl
begun_count (u ∷ us) = ap suc (begun_count us)

-- One more unit

module _ (units : List kept.Unit) (rest behind : List Begun) (i : ℕ) (u : kept.Unit) (p : Begun) (bytes : List ℕ) (h : i < length units)
    (is : u ≡ get_or units i u)
    (e : rest ≡ p ∷ behind) (b : bytes ≡ closed p) where
  next_units : written_units (drop i units) rest ≡ unit_bytes u.header bytes ∷ written_units (drop (i + 1) units) behind
  unfolding written_units
  next_units =
      at_drop_more (λ (us : List kept.Unit). written_units us rest) units i u h
      ∙ ap (λ (r : List Begun). written_units (get_or units i u ∷ drop (i + 1) units) r) e
      ∙ ap (λ (v : kept.Unit). unit_bytes v.header (closed p) ∷ written_units (drop (i + 1) units) behind) (sym is)
      ∙ ap (λ (l : List ℕ). unit_bytes u.header l ∷ written_units (drop (i + 1) units) behind) (sym b)

  pub small_here : All (λ b. length b < 2 ^ 32 - 1) (written_units (drop i units) rest) → length (unit_bytes u.header bytes) < 2 ^ 32 - 1
  small_here all =
      All-head (λ (b : List ℕ). length b < 2 ^ 32 - 1) (unit_bytes u.header bytes) (written_units (drop (i + 1) units) behind)
      (subst (All (λ (b : List ℕ). length b < 2 ^ 32 - 1)) next_units all)

  pub small_behind : All (λ b. length b < 2 ^ 32 - 1) (written_units (drop i units) rest)
      → All (λ b. length b < 2 ^ 32 - 1) (written_units (drop (i + 1) units) behind)
  small_behind all =
      All-tail (λ (b : List ℕ). length b < 2 ^ 32 - 1) (unit_bytes u.header bytes) (written_units (drop (i + 1) units) behind)
      (subst (All (λ (b : List ℕ). length b < 2 ^ 32 - 1)) next_units all)

  pub units_next : (out new want : List ℕ) → new ≡ out ++ spelled_unit (unit_bytes u.header bytes)
      → out ++ spelled_units (written_units (drop i units) rest) ≡ want
      → new ++ spelled_units (written_units (drop (i + 1) units) behind) ≡ want
  units_next out new want n inv =
      ap (λ (l : List ℕ). l ++ spelled_units (written_units (drop (i + 1) units) behind)) n
      ∙ append_assoc out (spelled_unit (unit_bytes u.header bytes)) (spelled_units (written_units (drop (i + 1) units) behind))
      ∙ sym (ap (λ (bs : List (List ℕ)). out ++ spelled_units bs) next_units) ∙ inv

none_left : (units : List kept.Unit) (rest : List Begun) → length rest ≡ 0 → written_units units rest ≡ []
unfolding written_units
none_left [] rest e = refl
none_left (u ∷ units) [] e = refl
none_left (u ∷ units) (p ∷ rest) e = absurd (omega arith)

no_unit : (units : List kept.Unit) (rest : List Begun) → length units ≡ 0 → written_units units rest ≡ []
unfolding written_units
no_unit [] rest e = refl
no_unit (u ∷ units) rest e = absurd (omega arith)

done : (out want : List ℕ) (bs : List (List ℕ)) → bs ≡ [] → out ++ spelled_units bs ≡ want → out ≡ want
done out want bs e inv = sym (append-nil out) ∙ sym (ap (λ (l : List (List ℕ)). out ++ spelled_units l) e) ∙ inv

pub programs_end : (units : List kept.Unit) (rest : List Begun) (out want : List ℕ) → length rest ≡ 0
    → out ++ spelled_units (written_units units rest) ≡ want → out ≡ want
programs_end units rest out want e inv = done out want (written_units units rest) (none_left units rest e) inv

pub units_end : (units : List kept.Unit) (i : ℕ) (rest : List Begun) (out want : List ℕ) → length units ≤ i
    → out ++ spelled_units (written_units (drop i units) rest) ≡ want → out ≡ want
units_end units i rest out want h inv =
    let none : length (drop i units) ≡ 0 = omega (arith, length-drop i units) in
    done out want (written_units (drop i units) rest) (no_unit (drop i units) rest none) inv

-- One more run

pub placed_count : (programs : List Begun) (o : Option Placed) → length (with_placed programs o) ≡ length programs
placed_count programs None = refl
placed_count programs (Some q) =
    length-set programs q.unit (with_piece (written_coding q.stmt) (get_or programs q.unit nothing_begun) q.piece)

module _ (runs : List (Run LineSaid)) (i : ℕ) (r d : Run LineSaid) (h : i < length runs) (is : r ≡ get_or runs i d) where
  pub end_there : (lo hi : ℕ) → IsWithin lo runs hi → r.start + r.len ≤ hi
  end_there lo hi w = subst (λ (x : Run LineSaid). x.start + x.len ≤ hi) (sym is) (ends lo hi runs i h w)
    where
      last : (lo hi : ℕ) (rs : List (Run LineSaid)) → IsWithin lo rs hi → lo ≤ hi
      last lo hi [] w = w
      last lo hi (x ∷ rs) w =
          let a : lo ≤ x.start = w.0 in
          let b : x.start + x.len ≤ hi = last (x.start + x.len) hi rs w.2 in
          omega arith

      ends : (lo hi : ℕ) (rs : List (Run LineSaid)) (i : ℕ) → i < length rs → IsWithin lo rs hi
          → (get_or rs i d).start + (get_or rs i d).len ≤ hi
      ends lo hi [] i h w = absurd (omega arith)
      ends lo hi (x ∷ rs) zero h w = last (x.start + x.len) hi rs w.2
      ends lo hi (x ∷ rs) (suc i) h w = ends (x.start + x.len) hi rs i (omega arith) w.2
