-- The effect of written operations.
use Rattle.std.proofs.Common.{◌≡◌, ◌<◌, ◌≤◌, ◌-◌, ◌+◌, ◌*◌, ◌/◌, ◌%◌, ◌^◌, ◌==◌, ◌++◌, ◌&&◌, ℕ, pos, List, [], ◌∷◌, refl}
use Rattle.std.specs.Bool.{beq}
use Rattle.std.proofs.Common.{arith, sym, ◌∙◌, ap, subst, append_assoc, Bool, true, false, not, cond, nat_lt, nat_le, Option, Some, None}
use Rattle.std.proofs.lemmas.Bool.Decides.{nat_tests}
use Rattle.std.proofs.lemmas.Int.{ints, of_z-to_z}
use Rattle.std.proofs.lemmas.Bool.{not-true, not-false}
use Rattle.std.specs.Prelude.{◌+ℤ◌, negsuc}
use Rattle.std.specs.Int.{w64, cast_unsigned}
use Rattle.rb_bytes.proofs.Tests.{bool_is}
use Rattle.line_rewrite.specs.declared.coding.Coding.{Coding}
use Rattle.line_rewrite.specs.declared.registers.Registers.{Registers}
use Rattle.line_rewrite.specs.declared.operation.LineOp.{LineOp}
use Rattle.line_rewrite.specs.declared.operation.LineOp.TheVariants.{Special, Copy, AdvancePc, AdvanceLine, SetFile, SetColumn}
use Rattle.line_rewrite.specs.declared.operation.LineOp.TheVariants.{NegateStmt, SetBasicBlock, SetPrologueEnd, SetEpilogueBegin, SetIsa}
use Rattle.line_rewrite.specs.declared.operation.LineOp.TheVariants.{SetDiscriminator}
use Rattle.line_rewrite.specs.declared.effect.Effect.{Effect}
use Rattle.line_rewrite.specs.declared.effect.Effect.TheVariants.{Appends, Sets}
use Rattle.line_rewrite.specs.LineMachine.{rows_from, rows_behind, sequences_from, sequences_behind, sequences, sound_from, sound_behind}
use Rattle.line_rewrite.specs.LineMachine.{after_op, after_row, effect_of, start, advanced}
use Rattle.line_rewrite.specs.WrittenPrograms.{after_rows}
use Rattle.line_rewrite.proofs.Ascending.{Follow}
use Rattle.line_rewrite.specs.Written.{IsRow, written_coding, unless, line_distance, above_base, step_ops, row_ops, rows_ops}

-- Operations that append `rows` and change the registers from `r` to `t`.
pub data Does (coding : Coding) : Registers → List LineOp → List Registers → Registers → Type 0 where
  stays : {r : Registers} → Does coding r [] [] r
  sets : {r s t : Registers} {op : LineOp} {ops : List LineOp} {rows : List Registers} → effect_of op ≡ Sets → after_op coding op r ≡ Some s
      → Does coding s ops rows t → Does coding r (op ∷ ops) rows t
  appends : {r s t : Registers} {op : LineOp} {ops : List LineOp} {rows : List Registers} → effect_of op ≡ Appends
      → after_op coding op r ≡ Some s
      → Does coding (after_row s) ops rows t → Does coding r (op ∷ ops) (s ∷ rows) t

pub does_append : (coding : Coding) (r s t : Registers) (xs ys : List LineOp) (rows more : List Registers) → Does coding r xs rows s
    → Does coding s ys more t
    → Does coding r (xs ++ ys) (rows ++ more) t
does_append coding r _ t _ ys _ more stays b = b
does_append coding r s t (op ∷ xs) ys rows more (sets {s = q} is after rest) b =
    sets is after (does_append coding q s t xs ys rows more rest b)
does_append coding r s t (op ∷ xs) ys (x ∷ rows) more (appends is after rest) b =
    appends is after (does_append coding (after_row x) s t xs ys rows more rest b)

pub does_rows : (coding : Coding) (r : Registers) (ops : List LineOp) (rows : List Registers) (t : Registers) (more : List LineOp)
    → Does coding r ops rows t
    → rows_from coding r (ops ++ more) ≡ rows ++ rows_from coding t more
unfolding rows_from
does_rows coding r _ _ _ more stays = refl
does_rows coding r (op ∷ ops) rows t more (sets {s = s} is after rest) =
    ap (λ (e : Effect). rows_behind (λ r. rows_from coding r (ops ++ more)) e (after_op coding op r)) is
    ∙ ap (λ (o : Option Registers). rows_behind (λ r. rows_from coding r (ops ++ more)) Sets o) after
    ∙ does_rows coding s ops rows t more rest
does_rows coding r (op ∷ ops) (x ∷ rows) t more (appends is after rest) =
    ap (λ (e : Effect). rows_behind (λ r. rows_from coding r (ops ++ more)) e (after_op coding op r)) is
    ∙ ap (λ (o : Option Registers). rows_behind (λ r. rows_from coding r (ops ++ more)) Appends o) after
    ∙ ap (λ (l : List Registers). x ∷ l) (does_rows coding (after_row x) ops rows t more rest)

pub does_sequences : (coding : Coding) (whole : List Registers) (r : Registers) (ops : List LineOp) (rows : List Registers) (t : Registers)
    (more : List LineOp)
    → Does coding r ops rows t → sequences_from coding whole r (ops ++ more) ≡ sequences_from coding whole t more
unfolding sequences_from
does_sequences coding whole r _ _ _ more stays = refl
does_sequences coding whole r (op ∷ ops) rows t more (sets {s = s} is after rest) =
    ap (λ (e : Effect). sequences_behind (λ r. sequences_from coding whole r (ops ++ more)) (sequences coding (ops ++ more)) whole e
    (after_op coding op r)) is
    ∙ ap (λ (o : Option Registers). sequences_behind (λ r. sequences_from coding whole r (ops ++ more))
    (sequences coding (ops ++ more)) whole Sets o) after
    ∙ does_sequences coding whole s ops rows t more rest
does_sequences coding whole r (op ∷ ops) (x ∷ rows) t more (appends is after rest) =
    ap (λ (e : Effect). sequences_behind (λ r. sequences_from coding whole r (ops ++ more)) (sequences coding (ops ++ more)) whole e
    (after_op coding op r)) is
    ∙ ap (λ (o : Option Registers). sequences_behind (λ r. sequences_from coding whole r (ops ++ more))
    (sequences coding (ops ++ more)) whole Appends o) after
    ∙ does_sequences coding whole (after_row x) ops rows t more rest

abbrev pub last_after : Option ℕ → List Registers → Option ℕ
last_after last [] = last
last_after last (r ∷ rows) = last_after (Some r.address) rows

pub does_sound : (coding : Coding) (files : ℕ) (last : Option ℕ) (r : Registers) (ops : List LineOp) (rows : List Registers) (t : Registers)
    (more : List LineOp)
    → Does coding r ops rows t → Follow files last rows
    → sound_from coding files last r (ops ++ more) ≡ sound_from coding files (last_after last rows) t more
unfolding sound_from
does_sound coding files last r _ _ _ more stays f = refl
does_sound coding files last r (op ∷ ops) rows t more (sets {s = s} is after rest) f =
    ap (λ (e : Effect). sound_behind (λ last r. sound_from coding files last r (ops ++ more))
    (sound_from coding files None (start coding) (ops ++ more)) files last e (after_op coding op r)) is
    ∙ ap (λ (o : Option Registers). sound_behind (λ last r. sound_from coding files last r (ops ++ more))
    (sound_from coding files None (start coding) (ops ++ more)) files last Sets o) after
    ∙ does_sound coding files last s ops rows t more rest f
does_sound coding files last r (op ∷ ops) (x ∷ rows) t more (appends is after rest) f =
    ap (λ (e : Effect). sound_behind (λ last r. sound_from coding files last r (ops ++ more))
    (sound_from coding files None (start coding) (ops ++ more)) files last e (after_op coding op r)) is
    ∙ ap (λ (o : Option Registers). sound_behind (λ last r. sound_from coding files last r (ops ++ more))
    (sound_from coding files None (start coding) (ops ++ more)) files last Appends o) after
    ∙ rw (f.0, f.1) (does_sound coding files (Some x.address) (after_row x) ops rows t more rest f.2)

-- The operations of a row

-- Registers at the start of a sequence, or after a row.
pub record IsFresh (r : Registers) : Type 0 where
  pub block : r.basic_block ≡ false
  pub prologue : r.prologue_end ≡ false
  pub epilogue : r.epilogue_begin ≡ false
  pub discriminator : r.discriminator ≡ 0
  pub line : r.line < 2 ^ 64

pub after_fresh : (row : Registers) → IsRow row → IsFresh (after_row row)
after_fresh row fits = record { block = refl; prologue = refl; epilogue = refl; discriminator = refl; line = fits.line }

-- One register set, if it differs.
unless_does : (coding : Coding) (same : Bool) (op : LineOp) (r s : Registers) → effect_of op ≡ Sets
    → (same ≡ false → after_op coding op r ≡ Some s)
    → (same ≡ true → r ≡ s) → Does coding r (unless same op) [] s
unless_does coding true op r s is after e = subst (λ (q : Registers). Does coding r [] [] q) (e refl) stays
unless_does coding false op r s is after e = sets is (after refl) stays

number_same : (a b : ℕ) (set : ℕ → Registers) → (a == b) ≡ true → set a ≡ set b
number_same a b set t = let e : a ≡ b = grind (arith, nat_tests) in ap set e

flag_same : (a b : Bool) (set : Bool → Registers) → beq a b ≡ true → set a ≡ set b
flag_same a b set t = ap set (bool_is a b t)

not_same : (a b : Bool) → beq a b ≡ false → not a ≡ b
not_same true true t = absurd (cc)
not_same false false t = absurd (cc)
not_same true false t = refl
not_same false true t = refl

line_there : (from to : ℕ) → from < 2 ^ 64 → to < 2 ^ 64 → (from + cast_unsigned w64 (line_distance from to)) % 2 ^ 64 ≡ to
line_there from to h k =
    let m : (to + (2 ^ 64 - from)) % 2 ^ 64 < 2 ^ 64 = omega arith in
    let e : cast_unsigned w64 (line_distance from to) ≡ (to + (2 ^ 64 - from)) % 2 ^ 64 =
    of_z-to_z w64 ((to + (2 ^ 64 - from)) % 2 ^ 64) m in
    rw e (omega arith)

special_line : (from to : ℕ) → from < 2 ^ 64 → to < 2 ^ 64 → above_base from to < 14
    → (from + cast_unsigned w64 (negsuc 4 +ℤ pos (above_base from to))) % 2 ^ 64 ≡ to
special_line from to h k small = omega (arith, ints)

-- The registers set before the row is appended.
abbrev settings : Registers → Registers → List LineOp
settings r row =
    unless (r.file == row.file) (SetFile row.file)
    ++ (unless (r.column == row.column) (SetColumn row.column)
    ++ (unless (beq r.is_stmt row.is_stmt) NegateStmt
    ++ (unless (not row.basic_block) SetBasicBlock
    ++ (unless (not row.prologue_end) SetPrologueEnd
    ++ (unless (not row.epilogue_begin) SetEpilogueBegin
    ++ (unless (r.isa == row.isa) (SetIsa row.isa)
    ++ unless (row.discriminator == 0) (SetDiscriminator row.discriminator)))))))

-- The row, at the line and address of `r`.
abbrev placed : Registers → Registers → Registers
placed r row = record row { line = r.line; address = r.address }

settings_do : (coding : Coding) (r row : Registers) → IsFresh r → Does coding r (settings r row) [] (placed r row)
settings_do coding r row fresh =
    let s1 : Registers = record r { file = row.file } in
    let s2 : Registers = record s1 { column = row.column } in
    let s3 : Registers = record s2 { is_stmt = row.is_stmt } in
    let s4 : Registers = record s3 { basic_block = row.basic_block } in
    let s5 : Registers = record s4 { prologue_end = row.prologue_end } in
    let s6 : Registers = record s5 { epilogue_begin = row.epilogue_begin } in
    let s7 : Registers = record s6 { isa = row.isa } in
    let s8 : Registers = record s7 { discriminator = row.discriminator } in
    let f1 : ℕ → Registers = λ n. record r { file = n } in
    let f2 : ℕ → Registers = λ n. record s1 { column = n } in
    let f3 : Bool → Registers = λ b. record s2 { is_stmt = b } in
    let f4 : Bool → Registers = λ b. record s3 { basic_block = b } in
    let f5 : Bool → Registers = λ b. record s4 { prologue_end = b } in
    let f6 : Bool → Registers = λ b. record s5 { epilogue_begin = b } in
    let f7 : ℕ → Registers = λ n. record s6 { isa = n } in
    let f8 : ℕ → Registers = λ n. record s7 { discriminator = n } in
    let some : (Bool → Registers) → Bool → Option Registers = λ f b. Some (f b) in
    does_append coding r s1 s8 _ _ [] []
    (unless_does coding (r.file == row.file) (SetFile row.file) r s1 refl (λ _. refl) (number_same r.file row.file f1))
    (does_append coding s1 s2 s8 _ _ [] []
    (unless_does coding (r.column == row.column) (SetColumn row.column) s1 s2 refl (λ _. refl) (number_same r.column row.column f2))
    (does_append coding s2 s3 s8 _ _ [] [] (unless_does coding (beq r.is_stmt row.is_stmt) NegateStmt s2 s3 refl
    (λ t. ap (some f3) (not_same r.is_stmt row.is_stmt t)) (flag_same r.is_stmt row.is_stmt f3))
    (does_append coding s3 s4 s8 _ _ [] [] (unless_does coding (not row.basic_block) SetBasicBlock s3 s4 refl
    (λ t. sym (ap (some f4) (not-false row.basic_block t))) (λ t. ap f4 (fresh.block ∙ sym (not-true row.basic_block t))))
    (does_append coding s4 s5 s8 _ _ [] [] (unless_does coding (not row.prologue_end) SetPrologueEnd s4 s5 refl
    (λ t. sym (ap (some f5) (not-false row.prologue_end t))) (λ t. ap f5 (fresh.prologue ∙ sym (not-true row.prologue_end t))))
    (does_append coding s5 s6 s8 _ _ [] [] (unless_does coding (not row.epilogue_begin) SetEpilogueBegin s5 s6 refl
    (λ t. sym (ap (some f6) (not-false row.epilogue_begin t))) (λ t. ap f6 (fresh.epilogue ∙ sym (not-true row.epilogue_begin t))))
    (does_append coding s6 s7 s8 _ _ [] []
    (unless_does coding (r.isa == row.isa) (SetIsa row.isa) s6 s7 refl (λ _. refl) (number_same r.isa row.isa f7))
    (unless_does coding (row.discriminator == 0) (SetDiscriminator row.discriminator) s7 s8 refl (λ _. refl)
    (λ t. let z : row.discriminator ≡ 0 = grind (arith, nat_tests) in ap f8 (fresh.discriminator ∙ sym z)))))))))

-- An address advanced to the row's.
there : (n : ℕ) (s row : Registers) → s.address + n ≡ row.address → row.address < 2 ^ 64
    → advanced n s ≡ Some (record s { address = row.address })
there n s row e h =
    let t : nat_lt (s.address + n) (2 ^ 64) ≡ true = grind (arith, nat_tests) in
    rw (t, e) refl

special_does : (stmt : Bool) (r row : Registers) → IsFresh r → IsRow row → above_base r.line row.line < 14 → r.address ≤ row.address
    → Does (written_coding stmt) (placed r row) (Special (above_base r.line row.line + 14 * (row.address - r.address)) ∷ []) (row ∷ [])
    (after_row row)
special_does stmt r row fresh fits small up =
    let above : ℕ = above_base r.line row.line in
    let n : ℕ = row.address - r.address in
    let steps : (above + 14 * n) / 14 * 1 ≡ n = omega arith in
    let lines : (above + 14 * n) % 14 ≡ above = omega arith in
    let line : (r.line + cast_unsigned w64 (negsuc 4 +ℤ pos above)) % 2 ^ 64 ≡ row.line =
    special_line r.line row.line fresh.line fits.line small in
    let moved : Registers = record row { address = r.address } in
    appends refl
    (rw (steps, lines) (ap (λ (l : ℕ). advanced n (record row { line = l; address = r.address })) line
    ∙ there n moved row (omega arith) fits.address))
    stays

plain_does : (stmt : Bool) (r row : Registers) → IsFresh r → IsRow row → r.address ≤ row.address
    → Does (written_coding stmt) (placed r row)
    (unless (r.line == row.line) (AdvanceLine (line_distance r.line row.line)) ++ unless (r.address == row.address)
    (AdvancePc (row.address - r.address)) ++ Copy ∷ [])
    (row ∷ []) (after_row row)
plain_does stmt r row fresh fits up =
    let coding : Coding = written_coding stmt in
    let moved : Registers = record row { address = r.address } in
    let f1 : ℕ → Registers = λ n. record row { line = n; address = r.address } in
    let f2 : ℕ → Registers = λ n. record row { address = n } in
    let some : ℕ → Option Registers = λ n. Some (f1 n) in
    let one : (row.address - r.address) * 1 ≡ row.address - r.address = omega arith in
    subst (λ (l : List LineOp). Does coding (placed r row) l (row ∷ []) (after_row row)) (sym (append_assoc _ _ (Copy ∷ [])))
    (does_append coding (placed r row) moved (after_row row) _ _ [] (row ∷ [])
    (unless_does coding (r.line == row.line) (AdvanceLine (line_distance r.line row.line)) (placed r row) moved refl
    (λ _. ap some (line_there r.line row.line fresh.line fits.line)) (number_same r.line row.line f1))
    (does_append coding moved row (after_row row) _ _ [] (row ∷ [])
    (unless_does coding (r.address == row.address) (AdvancePc (row.address - r.address)) moved row refl
    (λ _. rw one (there (row.address - r.address) moved row (omega arith) fits.address)) (number_same r.address row.address f2))
    (appends refl refl stays)))

step_by : (stmt : Bool) (r row : Registers) (low near : Bool) → nat_lt (above_base r.line row.line) 14 ≡ low → IsFresh r → IsRow row
    → r.address ≤ row.address
    → Does (written_coding stmt) (placed r row)
    (cond (low && near) (Special (above_base r.line row.line + 14 * (row.address - r.address)) ∷ [])
    (unless (r.line == row.line) (AdvanceLine (line_distance r.line row.line)) ++ unless (r.address == row.address)
    (AdvancePc (row.address - r.address)) ++ Copy ∷ []))
    (row ∷ []) (after_row row)
step_by stmt r row true true t fresh fits up = let small : above_base r.line row.line < 14 =
    grind (arith, nat_tests) in special_does stmt r row fresh fits small up
step_by stmt r row true false t fresh fits up = plain_does stmt r row fresh fits up
step_by stmt r row false near t fresh fits up = plain_does stmt r row fresh fits up

pub row_does : (stmt : Bool) (r row : Registers) → IsFresh r → IsRow row → r.address ≤ row.address
    → Does (written_coding stmt) r (row_ops r row) (row ∷ []) (after_row row)
row_does stmt r row fresh fits up =
    subst (λ (l : List LineOp). Does (written_coding stmt) r l (row ∷ []) (after_row row)) (simp append_assoc)
    (does_append (written_coding stmt) r (placed r row) (after_row row) (settings r row) (step_ops r row) [] (row ∷ [])
    (settings_do (written_coding stmt) r row fresh)
    (step_by stmt r row (nat_lt (above_base r.line row.line) 14) (nat_le (row.address - r.address) 16) refl fresh fits up))

-- Rows that ascend.
abbrev pub AreRows : ℕ → List Registers → Type 0
AreRows from [] = Unit {0}
AreRows from (row ∷ rows) = IsRow row × (from ≤ row.address) × AreRows row.address rows

pub rows_do : (stmt : Bool) (r : Registers) (rows : List Registers) → IsFresh r → AreRows r.address rows
    → Does (written_coding stmt) r (rows_ops r rows) rows (after_rows r rows)
rows_do stmt r [] fresh are = stays
rows_do stmt r (row ∷ rows) fresh are =
    does_append (written_coding stmt) r (after_row row) (after_rows (after_row row) rows) (row_ops r row) (rows_ops (after_row row) rows)
    (row ∷ []) rows
    (row_does stmt r row fresh are.0 are.1) (rows_do stmt (after_row row) rows (after_fresh row are.0) are.2)
