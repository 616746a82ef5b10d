-- How a frame table is written: one CIE for each kind of frame, and then the FDEs. Addresses of code are absolute in
-- `.debug_frame`; in `.eh_frame` they are distances from their fields, so its bytes depend on its address. LSB, "The
-- .eh_frame section"; DWARF 5, sections 6.4.1, 6.4.2 and 7.24.
use Rattle.std.specs.Prelude.{ℕ, zero, suc, ℤ, pos, ◌+◌, ◌-◌, ◌*◌, ◌%◌, ◌==◌, ◌&&◌, ◌||◌, ◌++◌, Bool, true, false, not, cond, List}
use Rattle.std.specs.Prelude.{[], ◌∷◌, Option, Some, None, is_some}
use Rattle.std.specs.Bool.{beq}
use Rattle.std.specs.Int.{w64, cast_unsigned, int_wrapping_neg}
use Rattle.std.specs.Ordering.{int_eq}
use Rattle.std.specs.Str.{bytes_eq}
use Rattle.std.specs.Prelude.{length, take, drop, filter, flat_map, map, nat_lt, if◌then◌else◌}
use Rattle.std.specs.List.{position_or_len, list_all}
use Rattle.byteorder.specs.Endian.{little_bytes}
use Rattle.rb_bytes.specs.Leb.{uleb}
use Rattle.addr_map.specs.declared.span.Span.{Span}
use Rattle.addr_map.specs.Spans.{new}
use Rattle.answer_runs.specs.declared.run.Run.{Run}
use Rattle.cfi_rows.specs.declared.encoding.TheConstants.{DW_EH_PE_absptr, DW_EH_PE_indirect_absptr}
use Rattle.cfi_rows.specs.declared.encoding.TheConstants.{DW_EH_PE_pcrel_sdata4}
use Rattle.cfi_rows.specs.declared.row.Cfa.{Cfa}
use Rattle.cfi_rows.specs.declared.row.Cfa.TheVariants.{Reg, Expr}
use Rattle.cfi_rows.specs.declared.row.Rule.{Rule}
use Rattle.cfi_rows.specs.declared.row.Rule.TheVariants as rule
use Rattle.cfi_rows.specs.declared.instruction.TheConstants.{DW_CFA_advance_loc, DW_CFA_advance_loc1, DW_CFA_advance_loc2}
use Rattle.cfi_rows.specs.declared.instruction.TheConstants.{DW_CFA_advance_loc4, DW_CFA_undefined, DW_CFA_same_value}
use Rattle.cfi_rows.specs.declared.instruction.TheConstants.{DW_CFA_register, DW_CFA_remember_state, DW_CFA_restore}
use Rattle.cfi_rows.specs.declared.instruction.TheConstants.{DW_CFA_restore_state, DW_CFA_def_cfa, DW_CFA_def_cfa_offset}
use Rattle.cfi_rows.specs.declared.instruction.TheConstants.{DW_CFA_def_cfa_expression, DW_CFA_expression, DW_CFA_offset}
use Rattle.cfi_rows.specs.declared.instruction.TheConstants.{DW_CFA_offset_extended, DW_CFA_val_offset, DW_CFA_val_expression}
use Rattle.cfi_rows.specs.FrameRows.{RowValue, Rules, Known, rule_of}
use Rattle.cfi_rows.specs.Entries.{RawEntry, cie_id, letter_z, letter_R, letter_P, letter_L, letter_S}
use Rattle.frame_rewrite.specs.declared.cie_key.CieKey.{CieKey}
use Rattle.frame_rewrite.specs.declared.form.Form.{Form}
use Rattle.frame_rewrite.specs.declared.form.Form.TheVariants.{Debug, Loaded}
use Rattle.frame_rewrite.specs.FrameAnswers.{FrameAnswer}
use Rattle.frame_rewrite.specs.Index.{distance_bytes}

-- Rows. The code factor is 1, and the data factor -1: registers are saved below the frame address.

abbrev pub spelled_block : List ℕ → List ℕ
spelled_block b = uleb (length b) ++ b

-- an offset as an operand, of 64 bits, and one that is counted down from the frame address
abbrev pub up : ℤ → ℕ
up n = cast_unsigned w64 n

abbrev pub down : ℤ → ℕ
down n = cast_unsigned w64 (int_wrapping_neg w64 n)

abbrev pub spelled_cfa : Cfa → List ℕ
spelled_cfa (Reg r n) = DW_CFA_def_cfa ∷ (uleb r ++ uleb (up n))
spelled_cfa (Expr b) = DW_CFA_def_cfa_expression ∷ spelled_block b

-- the frame address after another one, if that is known: if the register stays, only the offset is said
abbrev pub spelled_cfa_from : Option Cfa → Cfa → List ℕ
spelled_cfa_from None cfa = spelled_cfa cfa
spelled_cfa_from (Some (Expr c)) cfa = spelled_cfa cfa
spelled_cfa_from (Some (Reg q m)) (Expr b) = spelled_cfa (Expr b)
spelled_cfa_from (Some (Reg q m)) (Reg r n) =
    if q == r then (if int_eq m n then [] else DW_CFA_def_cfa_offset ∷ uleb (up n)) else spelled_cfa (Reg r n)

-- a register is saved at an offset; one of the first 64 is a part of the opcode
abbrev pub spelled_saved : ℕ → ℕ → List ℕ
spelled_saved r n =
    if nat_lt r 64 then (DW_CFA_offset * 64 + r) ∷ uleb n else DW_CFA_offset_extended ∷ (uleb r ++ uleb n)

abbrev pub spelled_rule : ℕ → Rule → List ℕ
spelled_rule r rule.Undefined = DW_CFA_undefined ∷ uleb r
spelled_rule r rule.Same = DW_CFA_same_value ∷ uleb r
spelled_rule r (rule.Offset n) = spelled_saved r (down n)
spelled_rule r (rule.ValOffset n) = DW_CFA_val_offset ∷ (uleb r ++ uleb (down n))
spelled_rule r (rule.Reg q) = DW_CFA_register ∷ (uleb r ++ uleb q)
spelled_rule r (rule.Expr b) = DW_CFA_expression ∷ (uleb r ++ spelled_block b)
spelled_rule r (rule.ValExpr b) = DW_CFA_val_expression ∷ (uleb r ++ spelled_block b)

abbrev pub spelled_rules : Rules → List ℕ
spelled_rules rules = flat_map (λ x. spelled_rule x.0 x.1) rules

-- all rules are of the integer registers
abbrev pub are_low : Rules → Bool
are_low rules = list_all (λ x. nat_lt x.0 32) rules

-- each register gets back the rule that it had first, which is none
abbrev pub spelled_restores : Rules → List ℕ
spelled_restores rules = map (λ x. DW_CFA_restore * 64 + x.0) rules

abbrev pub same_rule : Rule → Rule → Bool
same_rule rule.Undefined rule.Undefined = true
same_rule rule.Same rule.Same = true
same_rule (rule.Offset a) (rule.Offset b) = int_eq a b
same_rule (rule.ValOffset a) (rule.ValOffset b) = int_eq a b
same_rule (rule.Reg a) (rule.Reg b) = a == b
same_rule (rule.Expr a) (rule.Expr b) = bytes_eq a b
same_rule (rule.ValExpr a) (rule.ValExpr b) = bytes_eq a b
same_rule _ _ = false

-- a register's rule is gone if it has none in the new row, and is changed if it differs from the one before, if any

abbrev pub gone_by : Option Rule → Bool
gone_by new = not (is_some new)

abbrev pub other_by : Option Rule → Rule → Bool
other_by None v = true
other_by (Some old) v = not (same_rule old v)

abbrev pub gone_rules : (old new : Rules) → Rules
gone_rules old new = filter (λ x. gone_by (rule_of x.0 new)) old

abbrev pub other_rules : (old new : Rules) → Rules
other_rules old new = filter (λ x. other_by (rule_of x.0 old) x.1) new

abbrev pub spelled_other : (old : Rules) → ℕ → Rule → List ℕ
spelled_other old r v = if other_by (rule_of r old) v then spelled_rule r v else []

-- the change from the known state to a row
abbrev pub spelled_change : Known → RowValue → List ℕ
spelled_change known row =
    spelled_cfa_from known.cfa row.cfa
    ++ (spelled_restores (gone_rules known.rules row.rules) ++ spelled_rules (other_rules known.rules row.rules))

-- the location moves on, by the shortest instruction
abbrev pub spelled_advance : ℕ → List ℕ
spelled_advance n =
    if nat_lt n 64 then (DW_CFA_advance_loc * 64 + n) ∷ []
    else (if nat_lt n 256 then DW_CFA_advance_loc1 ∷ n ∷ []
    else (if nat_lt n 65536 then DW_CFA_advance_loc2 ∷ little_bytes 2 n else DW_CFA_advance_loc4 ∷ little_bytes 4 n))

abbrev pub known_by : RowValue → Known
known_by row = record { cfa = Some row.cfa; rules = row.rules }

-- a row after which the location moves on, and the state known then: the one known before, if the row has a rule of
-- a register that isn't low, so that each known rule is always taken back by one byte

abbrev pub spelled_row_before : Known → RowValue → ℕ → List ℕ
spelled_row_before known row n =
    if are_low row.rules then spelled_change known row ++ spelled_advance n
    else DW_CFA_remember_state ∷ (spelled_change known row ++ (spelled_advance n ++ DW_CFA_restore_state ∷ []))

abbrev pub known_behind : Known → RowValue → Known
known_behind known row = if are_low row.rules then known_by row else known

-- the rows of an entry, from the known state at a location on: the first row, and the rows of the runs after the first
abbrev pub spelled_rows : Known → ℕ → RowValue → List (Run FrameAnswer) → List ℕ
spelled_rows known at row [] = spelled_change known row
spelled_rows known at row (r ∷ rs) =
    spelled_row_before known row (r.start - at) ++ spelled_rows (known_behind known row) r.start r.answer.row rs

-- Entries, each after its length and its id

abbrev pub spelled_entry : RawEntry → List ℕ
spelled_entry e = little_bytes 4 (length e.body + 4) ++ (little_bytes 4 e.id ++ e.body)

abbrev pub spelled_entries : List RawEntry → List ℕ
spelled_entries es = flat_map spelled_entry es

-- n times DW_CFA_nop
abbrev pub zeros : ℕ → List ℕ
zeros zero = []
zeros (suc n) = 0 ∷ zeros n

-- CIEs, each of 32 bytes

-- the kind of frame that an answer needs: what its CIE says
abbrev pub key_of : List Span → FrameAnswer → CieKey
key_of spans x = record {
  ra = x.ra;
  handler = new spans x.handler;
  indirect = x.indirect;
  signal = x.signal;
  tabled = not (x.table == 0);
}

abbrev pub handler_encoding : Bool → ℕ
handler_encoding true = DW_EH_PE_indirect_absptr
handler_encoding false = DW_EH_PE_absptr

abbrev pub is_debug : Form → Bool
is_debug Debug = true
is_debug (Loaded at) = false

-- bytes that are written only if they are needed
abbrev pub bytes_if : Bool → List ℕ → List ℕ
bytes_if true bytes = bytes
bytes_if false bytes = []

abbrev pub has_handler : CieKey → Bool
has_handler k = not (k.handler == 0) || k.indirect

-- An augmentation has to be written if addresses aren't absolute, and for a handler, an exception table or a frame of
-- a signal handler.
abbrev pub has_data : (debug : Bool) → CieKey → Bool
has_data debug k = not debug || has_handler k || k.tabled || k.signal

-- the letters that are needed, in the assemblers' order
abbrev pub cie_letters : (debug : Bool) → CieKey → List ℕ
cie_letters debug k =
    bytes_if (has_handler k) (letter_P ∷ [])
    ++ (bytes_if k.tabled (letter_L ∷ []) ++ (bytes_if (not debug) (letter_R ∷ []) ++ bytes_if k.signal (letter_S ∷ [])))

abbrev pub handler_data : CieKey → List ℕ
handler_data k = bytes_if (has_handler k) (handler_encoding k.indirect ∷ little_bytes 8 k.handler)

-- their data: the encoding of the handler and its address, and the encodings of exception tables and of addresses
abbrev pub letter_data : (debug : Bool) → CieKey → List ℕ
letter_data debug k =
    handler_data k
    ++ (bytes_if k.tabled (DW_EH_PE_absptr ∷ []) ++ bytes_if (not debug) (DW_EH_PE_pcrel_sdata4 ∷ []))

abbrev pub cie_text : (debug : Bool) → CieKey → List ℕ
cie_text debug k = bytes_if (has_data debug k) (letter_z ∷ cie_letters debug k) ++ 0 ∷ []

abbrev pub cie_data : (debug : Bool) → CieKey → List ℕ
cie_data debug k = bytes_if (has_data debug k) (length (letter_data debug k) ∷ letter_data debug k)

-- At the start of a function the frame address is the stack pointer. The frame of a signal handler isn't found so.
abbrev pub first_cfa : (signal : Bool) → Option Cfa
first_cfa false = Some (Reg 2 (pos 0))
first_cfa true = None

abbrev pub first_known : (signal : Bool) → Known
first_known signal = record { cfa = first_cfa signal; rules = [] }

-- the state known after a row, if there was one
abbrev pub known_of : (signal : Bool) → Option RowValue → Known
known_of signal None = first_known signal
known_of signal (Some row) = known_by row

-- the instructions that say so
abbrev pub cie_code : (signal : Bool) → List ℕ
cie_code false = DW_CFA_def_cfa ∷ 2 ∷ 0 ∷ []
cie_code true = []

-- version 1, the text, the factors 1 and -1, the register, the data of the augmentation, and the instructions
abbrev pub cie_fields : (debug : Bool) → CieKey → List ℕ
cie_fields debug k = 1 ∷ (cie_text debug k ++ (1 ∷ 0x7f ∷ k.ra ∷ (cie_data debug k ++ cie_code k.signal)))

abbrev pub cie_body : (debug : Bool) → CieKey → List ℕ
cie_body debug k = let fields = cie_fields debug k in fields ++ zeros (24 - length fields)

abbrev pub cie_size : ℕ
cie_size = 32

abbrev pub cie_entry : (debug : Bool) → ℕ → CieKey → RawEntry
cie_entry debug i k = record { place = cie_size * i; id = cie_id debug; body = cie_body debug k }

abbrev pub cie_entries : (debug : Bool) → ℕ → List CieKey → List RawEntry
cie_entries debug i [] = []
cie_entries debug i (k ∷ ks) = cie_entry debug i k ∷ cie_entries debug (i + 1) ks

-- FDEs, each of a group of runs: a first run, and the runs after it that touch one another and are answered by the
-- same entry. The range of a marked entry begins at the new address of its start.

abbrev pub is_alike : Run FrameAnswer → Run FrameAnswer → Bool
is_alike r q =
    beq r.answer.marked q.answer.marked && (r.answer.start == q.answer.start) && (r.answer.table == q.answer.table)
    && (r.answer.ra == q.answer.ra) && (r.answer.handler == q.answer.handler)
    && beq r.answer.indirect q.answer.indirect && beq r.answer.signal q.answer.signal

-- how many of the runs after one are of its group, if the group's runs so far end at an address
abbrev pub count_on : ℕ → Run FrameAnswer → List (Run FrameAnswer) → ℕ
count_on end r [] = 0
count_on end r (q ∷ qs) = cond ((q.start == end) && is_alike r q) (suc (count_on (q.start + q.len) r qs)) 0

abbrev pub more_count : Run FrameAnswer → List (Run FrameAnswer) → ℕ
more_count r rs = count_on (r.start + r.len) r rs

abbrev pub start_of : List Span → Run FrameAnswer → ℕ
start_of spans r = cond r.answer.marked (new spans r.answer.start) r.start

-- the end of the last of some runs, or a given address if there are none
abbrev pub last_end : ℕ → List (Run FrameAnswer) → ℕ
last_end end [] = end
last_end end (r ∷ rs) = last_end (r.start + r.len) rs

-- how many zero bytes make of n bytes a multiple of 8, or of 4 in `.eh_frame`
abbrev pub padding : (debug : Bool) → ℕ → ℕ
padding true n = 7 - (n % 8 + 7) % 8
padding false n = 3 - (n % 4 + 3) % 4

-- the start and the size of a range, of an entry at an offset: absolute, or the distance to the start from its own
-- field, after the length and the id
abbrev pub spelled_range : Form → (place start size : ℕ) → List ℕ
spelled_range Debug place start size = little_bytes 8 start ++ little_bytes 8 size
spelled_range (Loaded at) place start size = distance_bytes start (at + place + 8) ++ little_bytes 4 size

-- what an entry has of its exception table, if there is an augmentation
abbrev pub spelled_table : (has_data tabled : Bool) → ℕ → List ℕ
spelled_table false tabled table = []
spelled_table true false table = 0 ∷ []
spelled_table true true table = 8 ∷ little_bytes 8 table

abbrev pub fde_fields : Form → (place : ℕ) → List Span → Run FrameAnswer → List (Run FrameAnswer) → List ℕ
fde_fields form place spans r more =
    spelled_range form place (start_of spans r) (last_end (r.start + r.len) more - start_of spans r)
    ++ (spelled_table (has_data (is_debug form) (key_of spans r.answer)) (key_of spans r.answer).tabled r.answer.table
    ++ spelled_rows (first_known r.answer.signal) (start_of spans r) r.answer.row more)

abbrev pub fde_body : Form → (place : ℕ) → List Span → Run FrameAnswer → List (Run FrameAnswer) → List ℕ
fde_body form place spans r more =
    let fields = fde_fields form place spans r more in fields ++ zeros (padding (is_debug form) (length fields))

abbrev pub is_key : CieKey → CieKey → Bool
is_key a b = (a.ra == b.ra) && (a.handler == b.handler) && beq a.indirect b.indirect && beq a.signal b.signal
    && beq a.tabled b.tabled

abbrev pub key_index : List Span → List CieKey → Run FrameAnswer → ℕ
key_index spans keys r = position_or_len (is_key (key_of spans r.answer)) keys

-- the id of an FDE at an offset, by the index of its CIE
abbrev pub fde_id : (debug : Bool) → ℕ → ℕ → ℕ
fde_id true place i = cie_size * i
fde_id false place i = place + 4 - cie_size * i

abbrev pub fde_entry : Form → List Span → List CieKey → ℕ → Run FrameAnswer → List (Run FrameAnswer) → RawEntry
fde_entry form spans keys place r more = record {
  place = place;
  id = fde_id (is_debug form) place (key_index spans keys r);
  body = fde_body form place spans r more;
}

-- the entries of at most n runs, from an offset on
unfoldable pub fde_entries : Form → List Span → List CieKey → ℕ → ℕ → List (Run FrameAnswer) → List RawEntry
fde_entries form spans keys n place [] = []
fde_entries form spans keys zero place (r ∷ rs) = []
fde_entries form spans keys (suc n) place (r ∷ rs) =
    fde_entry form spans keys place r (take (more_count r rs) rs)
    ∷ fde_entries form spans keys n (place + 8 + length (fde_body form place spans r (take (more_count r rs) rs)))
    (drop (more_count r rs) rs)

-- In `.eh_frame` an entry of length 0 comes last.
abbrev pub end_mark : (debug : Bool) → List ℕ
end_mark true = []
end_mark false = 0 ∷ 0 ∷ 0 ∷ 0 ∷ []

abbrev pub table_entries : Form → List Span → List CieKey → List (Run FrameAnswer) → List RawEntry
table_entries form spans keys runs =
    cie_entries (is_debug form) 0 keys ++ fde_entries form spans keys (length runs) (cie_size * length keys) runs
