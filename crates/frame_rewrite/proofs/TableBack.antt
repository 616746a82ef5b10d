-- The entries of a table that is written are read back.
use Rattle.std.proofs.Common.{ℕ, zero, suc, zero-add, ◌+◌, ◌-◌, ◌*◌, ◌^◌, ◌≤◌, ◌<◌, ◌≡◌, ◌==◌, List, [], ◌∷◌, ◌++◌, Option, Some, None}
use Rattle.std.proofs.Common.{Result, Ok, leb, Bool, true, false, refl, sym, ◌∙◌, ap, subst, arith, length, take, drop}
use Rattle.std.specs.Prelude.{All, slice_get}
use Rattle.std.specs.List.{find}
use Rattle.std.proofs.lemmas.Bool.Decides.{nat_tests}
use Rattle.std.proofs.lemmas.List.Elements.{All-head, All-tail, All-drop}
use Rattle.std.proofs.lemmas.Option.{same_Some, slice_get_within}
use Rattle.addr_map.specs.declared.span.Span.{Span}
use Rattle.answer_runs.specs.declared.run.Run.{Run}
use Rattle.answer_runs.specs.AnswerRuns.{IsWithin}
use Rattle.table_core.specs.ReadSteps.{and_so}
use Rattle.cfi_rows.specs.declared.instruction.Malformed.{Malformed}
use Rattle.cfi_rows.specs.Entries.{RawEntry, Cie, Fde, is_cie, cie_id, cie_place, is_named, cie_in, cie_at, fde_at, end_of, sound_if}
use Rattle.cfi_rows.specs.Entries.{frames_from, frames, WalkedEntries}
use Rattle.frame_rewrite.specs.declared.cie_key.CieKey.{CieKey}
use Rattle.frame_rewrite.specs.declared.form.Form.{Form}
use Rattle.frame_rewrite.specs.FrameAnswers.{FrameAnswer}
use Rattle.frame_rewrite.specs.SpelledFits.{KeyFits, Writes, WritesAll}
use Rattle.frame_rewrite.specs.SpelledFrames.{is_debug, key_of, cie_body, cie_size, cie_entry, cie_entries, fde_body}
use Rattle.frame_rewrite.specs.SpelledFrames.{fde_id, fde_entry, fde_entries, table_entries}
use Rattle.frame_rewrite.specs.SpelledFrames.{spelled_entries, end_mark, start_of, last_end, more_count, key_index}
use Rattle.frame_rewrite.proofs.EntriesBack.{EntryFits, AreFrom, walked-back}
use Rattle.frame_rewrite.proofs.CieBack.{cie_of, cie-back, cie-length}
use Rattle.frame_rewrite.proofs.FdeBack.{IsAt, fde_of, fde-back}
use Rattle.frame_rewrite.proofs.RunGroups.{within-take, within-drop, last-le, le-last, follow}

abbrev Runs : Type 0
Runs = List (Run FrameAnswer)

-- The entries follow one another.

cie-id-fits : (debug : Bool) → cie_id debug < 2 ^ 32
cie-id-fits true = omega arith
cie-id-fits false = omega arith

cie-fits : (debug : Bool) (i : ℕ) (k : CieKey) → EntryFits (cie_entry debug i k)
cie-fits debug i k = let l : length (cie_body debug k) ≡ 24 = cie-length debug k in record
    { id = cie-id-fits debug; size = small (length (cie_body debug k)) l } where
      small : (n : ℕ) → n ≡ 24 → n + 4 < 0xffffffff
      small n e = omega arith

-- after the CIEs, the entries that follow
cies-from : (debug : Bool) (i place : ℕ) (ks : List CieKey) (es : List RawEntry) → place ≡ cie_size * i
    → AreFrom (cie_size * (i + length ks)) es → AreFrom place (cie_entries debug i ks ++ es)
cies-from debug i place [] es e a = let z : cie_size * (i + 0) ≡ place = omega arith in subst (λ (p : ℕ). AreFrom p es) z a
cies-from debug i place (k ∷ ks) es e a =
    let l : length (cie_body debug k) ≡ 24 = cie-length debug k in
    let n : cie_size * (i + suc (length ks)) ≡ cie_size * (i + 1 + length ks) = omega arith in (
      sym e,
      cie-fits debug i k,
      cies-from debug (i + 1) (place + 8 + length (cie_body debug k)) ks es
          (next place i (length (cie_body debug k)) e l) (subst (λ (p : ℕ). AreFrom p es) n a),
    ) where
      next : (place i n : ℕ) → place ≡ 32 * i → n ≡ 24 → place + 8 + n ≡ 32 * (i + 1)
      next place i n e l = omega arith

fde-id-fits : (debug : Bool) (place i n : ℕ) → i < n → cie_size * n ≤ place → place + 4 < 2 ^ 32
    → fde_id debug place i < 2 ^ 32
fde-id-fits true place i n h l f = omega arith
fde-id-fits false place i n h l f = omega arith

further : (a place n : ℕ) → a ≤ place → a ≤ place + 8 + n
further a place n h = omega arith

fdes-from : (form : Form) (spans : List Span) (keys : List CieKey) (n place : ℕ) (rs : Runs)
    → cie_size * length keys ≤ place → WritesAll form spans keys n place rs
    → AreFrom place (fde_entries form spans keys n place rs)
unfolding fde_entries WritesAll
fdes-from form spans keys n place [] h w = tt
fdes-from form spans keys zero place (r ∷ rs) h w = tt
fdes-from form spans keys (suc n) place (r ∷ rs) h w = (
  refl,
  record {
    id = fde-id-fits (is_debug form) place (key_index spans keys r) (length keys)
        (slice_get_within keys (key_index spans keys r) (key_of spans r.answer) w.0.key) h w.0.low;
    size = w.0.size;
  },
  fdes-from form spans keys n (place + 8 + length (fde_body form place spans r (take (more_count r rs) rs)))
      (drop (more_count r rs) rs) (further _ place _ h) w.1,
)

pub table-from : (form : Form) (spans : List Span) (keys : List CieKey) (rs : Runs)
    → WritesAll form spans keys (length rs) (cie_size * length keys) rs → AreFrom 0 (table_entries form spans keys rs)
table-from form spans keys rs w =
    let z : 0 + length keys ≡ length keys = omega arith in
    let es : List RawEntry = fde_entries form spans keys (length rs) (cie_size * length keys) rs in
    cies-from (is_debug form) 0 0 keys es refl
    (subst (λ (n : ℕ). AreFrom (cie_size * n) (fde_entries form spans keys (length rs) (cie_size * length keys) rs))
    (sym z) (fdes-from form spans keys (length rs) (cie_size * length keys) rs (omega arith) w))

-- Each FDE finds its CIE.

cie-tells : (debug : Bool) → (cie_id debug == cie_id debug) ≡ true
cie-tells true = refl
cie-tells false = refl

named-here : (debug : Bool) (j place : ℕ) (k : CieKey) → place ≡ cie_size * j
    → is_named debug place (cie_entry debug j k) ≡ true
named-here debug j place k e =
    let a : (cie_size * j == place) ≡ true = grind (arith, nat_tests) in
    rw (a, cie-tells debug) refl

named-past : (debug : Bool) (j place : ℕ) (k : CieKey) → cie_size * j < place
    → is_named debug place (cie_entry debug j k) ≡ false
named-past debug j place k e =
    let a : (cie_size * j == place) ≡ false = grind (arith, nat_tests) in
    rw a refl

same_entry : (debug : Bool) (y k : CieKey) (j m : ℕ) → y ≡ k → j ≡ m
    → Some (cie_entry debug j y) ≡ Some (cie_entry debug m k)
same_entry debug y k j m e f = cc

found : (debug : Bool) (j i place : ℕ) (k : CieKey) (ks : List CieKey) (es : List RawEntry) → slice_get ks i ≡ Some k
    → place ≡ cie_size * (j + i)
    → find (is_named debug place) (cie_entries debug j ks ++ es) ≡ Some (cie_entry debug (j + i) k)
found debug j i place k [] es s e = absurd (cc)
found debug j zero place k (y ∷ ys) es s e =
    let z : j ≡ j + 0 = omega arith in
    rw (named-here debug j place y (e ∙ ap (λ (m : ℕ). cie_size * m) (sym z)))
    (same_entry debug y k j (j + 0) (same_Some y k s) z)
found debug j (suc i) place k (y ∷ ys) es s e =
    let z : j + 1 + i ≡ j + suc i = omega arith in
    rw (named-past debug j place y (past j i place e))
    (found debug (j + 1) i place k ys es s (e ∙ ap (λ (m : ℕ). cie_size * m) (sym z))
    ∙ ap (λ (m : ℕ). Some (cie_entry debug m k)) z) where
      past : (j i place : ℕ) → place ≡ 32 * (j + suc i) → 32 * j < place
      past j i place e = omega arith

place-named : (debug : Bool) (place i n : ℕ) (body : List ℕ) → i < n → cie_size * n ≤ place
    → cie_place debug (record { place = place; id = fde_id debug place i; body = body }) ≡ Some (cie_size * i)
place-named true place i n body h l = refl
place-named false place i n body h l =
    let t : leb (place + 4 - cie_size * i) (place + 4) ≡ true = grind (arith, nat_tests) in
    let v : place + 4 - (place + 4 - cie_size * i) ≡ cie_size * i = omega arith in
    rw (t, v) refl

pub not-cie : (debug : Bool) (place i n : ℕ) → i < n → cie_size * n ≤ place → place + 4 < 2 ^ 32
    → (fde_id debug place i == cie_id debug) ≡ false
not-cie true place i n h l f = let m : cie_size * i < 2 ^ 32 - 4 = omega arith in grind (arith, nat_tests)
not-cie false place i n h l f = let m : 0 < place + 4 - cie_size * i = omega arith in grind (arith, nat_tests)

key-fits : (keys : List CieKey) (i : ℕ) (k : CieKey) → All KeyFits keys → slice_get keys i ≡ Some k → KeyFits k
key-fits [] i k f e = absurd (cc)
key-fits (y ∷ ys) zero k f e = subst KeyFits (same_Some y k e) (All-head KeyFits y ys f)
key-fits (y ∷ ys) (suc i) k f e = key-fits ys i k (All-tail KeyFits y ys f) e

-- The entries that are read.

unfoldable pub made : Form → List Span → ℕ → ℕ → Runs → List Fde
made form spans n place [] = []
made form spans zero place (r ∷ rs) = []
made form spans (suc n) place (r ∷ rs) =
    fde_of form spans (key_of spans r.answer) place r (take (more_count r rs) rs)
    ∷ made form spans n (place + 8 + length (fde_body form place spans r (take (more_count r rs) rs))) (drop (more_count r rs) rs)

abbrev pub Before : List Span → Run FrameAnswer → Type 0
Before spans r = start_of spans r ≤ r.start

fde-found : (form : Form) (address : ℕ) (all : List RawEntry) (keys : List CieKey) (spans : List Span) (place lo hi : ℕ)
    (r : Run FrameAnswer) (more : Runs)
    → ((i : ℕ) (k : CieKey) → slice_get keys i ≡ Some k
    → find (is_named (is_debug form) (cie_size * i)) all ≡ Some (cie_entry (is_debug form) i k))
    → All KeyFits keys → IsAt form address → cie_size * length keys ≤ place → Writes form spans keys place r more
    → hi < 2 ^ 64 → IsWithin lo (r ∷ more) hi → Before spans r
    → and_so (cie_in (is_debug form) address all (cie_place (is_debug form) (fde_entry form spans keys place r more)))
    (λ cie. fde_at cie (end_of address (fde_entry form spans keys place r more))
    (fde_entry form spans keys place r more))
    ≡ Ok (fde_of form spans (key_of spans r.answer) place r more)
fde-found form address all keys spans place lo hi r more h f here l w low within before =
    let n = place-named (is_debug form) place (key_index spans keys r) (length keys) (fde_body form place spans r more)
    (slice_get_within keys (key_index spans keys r) (key_of spans r.answer) w.key) l in
    let c : cie_in (is_debug form) address all (cie_place (is_debug form) (fde_entry form spans keys place r more))
    ≡ Ok (cie_of (is_debug form) (key_of spans r.answer)) =
    ap (cie_in (is_debug form) address all) n
    ∙ ap (λ (o : Option RawEntry). and_so (sound_if o) (λ y. cie_at (end_of address y) y.body))
    (h (key_index spans keys r) (key_of spans r.answer) w.key)
    ∙ cie-back (end_of address (cie_entry (is_debug form) (key_index spans keys r) (key_of spans r.answer)))
    (is_debug form) (key_of spans r.answer)
    (key-fits keys (key_index spans keys r) (key_of spans r.answer) f w.key) in
    let later : r.start + r.len ≤ last_end (r.start + r.len) more = le-last (r.start + r.len) more hi within.2 in
    let ended : last_end (r.start + r.len) more ≤ hi = last-le (r.start + r.len) more hi within.2 in
    ap (λ (x : Result Cie Malformed). and_so x (λ cie. fde_at cie
    (end_of address (fde_entry form spans keys place r more)) (fde_entry form spans keys place r more))) c
    ∙ fde-back form spans address place (fde_id (is_debug form) place (key_index spans keys r)) r more here
    (least _ _ _ _ before later) (lower _ _ ended low) w.range w.table w.row
    (follow (start_of spans r) (r.start + r.len) more hi (near _ _ _ before) low within.2 w.rows) w.near w.rows where
      least : (s a n e : ℕ) → s ≤ a → a + n ≤ e → s ≤ e
      least s a n e h l = omega arith

      lower : (e hi : ℕ) → e ≤ hi → hi < 2 ^ 64 → e < 2 ^ 64
      lower e hi l h = omega arith

      near : (s a n : ℕ) → s ≤ a → s ≤ a + n
      near s a n h = omega arith

one-more : (debug : Bool) (address : ℕ) (all : List RawEntry) (e : RawEntry) (es : List RawEntry) (fde : Fde)
    (list : List Fde) → is_cie debug e ≡ false
    → and_so (cie_in debug address all (cie_place debug e)) (λ cie. fde_at cie (end_of address e) e) ≡ Ok fde
    → frames_from debug address all None es ≡ record { cies = 0; list = list; bad = None }
    → frames_from debug address all None (e ∷ es) ≡ record { cies = 0; list = fde ∷ list; bad = None }
one-more debug address all e es fde list t m r = rw (t, m, r) refl

frames-fdes : (form : Form) (address : ℕ) (all : List RawEntry) (keys : List CieKey) (spans : List Span)
    (n place lo hi : ℕ) (rs : Runs)
    → ((i : ℕ) (k : CieKey) → slice_get keys i ≡ Some k
    → find (is_named (is_debug form) (cie_size * i)) all ≡ Some (cie_entry (is_debug form) i k))
    → All KeyFits keys → IsAt form address → cie_size * length keys ≤ place → WritesAll form spans keys n place rs
    → hi < 2 ^ 64 → IsWithin lo rs hi → All (Before spans) rs
    → frames_from (is_debug form) address all None (fde_entries form spans keys n place rs)
    ≡ record { cies = 0; list = made form spans n place rs; bad = None }
unfolding fde_entries WritesAll made
frames-fdes form address all keys spans n place lo hi [] h f here l w low within before = refl
frames-fdes form address all keys spans zero place lo hi (r ∷ rs) h f here l w low within before = refl
frames-fdes form address all keys spans (suc n) place lo hi (r ∷ rs) h f here l w low within before =
    let t : is_cie (is_debug form) (fde_entry form spans keys place r (take (more_count r rs) rs)) ≡ false
    = not-cie (is_debug form) place (key_index spans keys r) (length keys)
    (slice_get_within keys (key_index spans keys r) (key_of spans r.answer) w.0.key) l w.0.low in
    let rest = frames-fdes form address all keys spans n
    (place + 8 + length (fde_body form place spans r (take (more_count r rs) rs)))
    (last_end (r.start + r.len) (take (more_count r rs) rs)) hi
    (drop (more_count r rs) rs) h f here (further _ place _ l) w.1 low
    (within-drop (more_count r rs) (r.start + r.len) rs hi within.2)
    (All-drop (Before spans) (more_count r rs) rs (All-tail (Before spans) r rs before)) in
    one-more (is_debug form) address all (fde_entry form spans keys place r (take (more_count r rs) rs))
    (fde_entries form spans keys n (place + 8 + length (fde_body form place spans r (take (more_count r rs) rs)))
    (drop (more_count r rs) rs))
    _ _ t
    (fde-found form address all keys spans place lo hi r (take (more_count r rs) rs) h f here l w.0 low
    (within.0, within.1, within-take (more_count r rs) (r.start + r.len) rs hi within.2)
    (All-head (Before spans) r rs before)) rest

frames-cies : (debug : Bool) (address i n : ℕ) (all : List RawEntry) (ks : List CieKey) (es : List RawEntry)
    (list : List Fde) → All KeyFits ks
    → frames_from debug address all None es ≡ record { cies = n; list = list; bad = None }
    → frames_from debug address all None (cie_entries debug i ks ++ es)
    ≡ record { cies = n + length ks; list = list; bad = None }
frames-cies debug address i n all [] es list f r = r
    ∙ ap (λ (m : ℕ). record { cies = m; list = list; bad = None }) (omega arith)
frames-cies debug address i n all (k ∷ ks) es list f r =
    let c = cie-back (end_of address (cie_entry debug i k)) debug k (All-head KeyFits k ks f) in
    let m = frames-cies debug address (i + 1) n all ks es list (All-tail KeyFits k ks f) r in
    let s : n + length ks + 1 ≡ n + suc (length ks) = omega arith in
    rw (cie-tells debug, c, m, s) refl

-- a whole table
pub frames-back : (form : Form) (address : ℕ) (keys : List CieKey) (spans : List Span) (lo hi : ℕ) (rs : Runs)
    → All KeyFits keys → IsAt form address
    → WritesAll form spans keys (length rs) (cie_size * length keys) rs → hi < 2 ^ 64 → IsWithin lo rs hi → All (Before spans) rs
    → frames (is_debug form) address (spelled_entries (table_entries form spans keys rs) ++ end_mark (is_debug form))
    ≡ record { cies = length keys; list = made form spans (length rs) (cie_size * length keys) rs; bad = None }
frames-back form address keys spans lo hi rs f here w low within before =
    let s = walked-back (is_debug form) (table_entries form spans keys rs) (table-from form spans keys rs w) in
    let r = frames-fdes form address (table_entries form spans keys rs) keys spans (length rs) (cie_size * length keys)
    lo hi rs
    (λ i k e. found (is_debug form) 0 i (cie_size * i) k keys _ e (ap (λ (m : ℕ). cie_size * m) (sym (zero-add i)))
    ∙ ap (λ (m : ℕ). Some (cie_entry (is_debug form) m k)) (zero-add i)) f here (omega arith) w low within before in
    ap (λ (x : WalkedEntries). frames_from (is_debug form) address x.entries x.broken x.entries) s
    ∙ frames-cies (is_debug form) address 0 0 (table_entries form spans keys rs) keys _ _ f r
    ∙ ap (λ (m : ℕ). record { cies = m; list = made form spans (length rs) (cie_size * length keys) rs; bad = None })
    (zero-add (length keys))
