-- The clauses on a table that was written, besides its answers.
use Rattle.std.proofs.Common.{ℕ, zero, suc, ◌+◌, ◌-◌, ◌*◌, ◌^◌, ◌≤◌, ◌<◌, ◌≡◌, List, [], ◌∷◌, ◌++◌, Option, Some, None, true, false, refl, sym, inl, inr}
use Rattle.std.proofs.Common.{◌∙◌, ap, subst, arith, length, take, drop, length-append}
use Rattle.std.specs.Prelude.{All, IsTrue, IsSome, is_some, option_and_then, sum_by}
use Rattle.std.proofs.lemmas.Bool.{cases_lt}
use Rattle.std.proofs.lemmas.Grind.{common_steps, flat_map-append}
use Rattle.std.proofs.lemmas.List.Elements.{All-nil, All-cons, All-head, All-tail, All-drop}
use Rattle.addr_map.specs.declared.span.Span.{Span}
use Rattle.addr_map.specs.Spans.{owner, is_new_code}
use Rattle.answer_runs.specs.declared.run.Run.{Run}
use Rattle.answer_runs.specs.AnswerRuns.{IsWithin, run_at, carried}
use Rattle.cfi_rows.specs.Entries.{Fde, Frames, WalkedEntries, frames}
use Rattle.frame_rewrite.specs.declared.cie_key.CieKey.{CieKey}
use Rattle.frame_rewrite.specs.declared.form.Form.{Form}
use Rattle.frame_rewrite.specs.declared.form.Form.TheVariants.{Loaded}
use Rattle.frame_rewrite.specs.FrameAnswers.{FrameAnswer}
use Rattle.frame_rewrite.specs.SpelledFits.{KeyFits, IsReached, IsSpelled, RunAscends, WritesAll}
use Rattle.frame_rewrite.specs.SpelledFrames.{start_of, fde_body, fde_entries, more_count, cie_size, cie_entries, table_entries}
use Rattle.frame_rewrite.specs.SpelledFrames.{spelled_entry, spelled_entries}
use Rattle.frame_rewrite.specs.Tables.{ComesAfter, EndsWithMark, code_end, frames_address, run_size}
use Rattle.frame_rewrite.proofs.CodeEnd.{before-end}
use Rattle.frame_rewrite.proofs.EntriesBack.{walked-alone}
use Rattle.frame_rewrite.proofs.EntrySizes.{fdes-size}
use Rattle.frame_rewrite.proofs.EntrySteps.{cies-long}
use Rattle.frame_rewrite.proofs.Law.{reads-as}
use Rattle.frame_rewrite.proofs.TableBack.{made, table-from}

abbrev Runs : Type 0
Runs = List (Run FrameAnswer)

made-count : (form : Form) (spans : List Span) (n place : ℕ) (rs : Runs) → length (made form spans n place rs) ≤ length rs
unfolding made
made-count form spans n place [] = omega arith
made-count form spans zero place (r ∷ rs) = omega arith
made-count form spans (suc n) place (r ∷ rs) =
    fewer _ _ _ (made-count form spans n (place + 8 + length (fde_body form place spans r (take (more_count r rs) rs)))
    (drop (more_count r rs) rs)) (dropped (more_count r rs) rs) where
      fewer : (a b c : ℕ) → a ≤ b → b ≤ c → suc a ≤ suc c
      fewer a b c h g = omega arith

      dropped : (k : ℕ) (xs : Runs) → length (drop k xs) ≤ length xs
      dropped k xs = grind (arith, common_steps)

made-starts : (form : Form) (P : ℕ → Type 0) (spans : List Span) (n place : ℕ) (rs : Runs)
    → All (λ (r : Run FrameAnswer). P (start_of spans r)) rs → All (λ (f : Fde). P f.start) (made form spans n place rs)
unfolding made
made-starts form P spans n place [] h = All-nil (λ (f : Fde). P f.start)
made-starts form P spans zero place (r ∷ rs) h = All-nil (λ (f : Fde). P f.start)
made-starts form P spans (suc n) place (r ∷ rs) h =
    All-cons (λ (f : Fde). P f.start) _ _ (All-head (λ (r : Run FrameAnswer). P (start_of spans r)) r rs h)
    (made-starts form P spans n (place + 8 + length (fde_body form place spans r (take (more_count r rs) rs))) (drop (more_count r rs) rs)
    (All-drop (λ (r : Run FrameAnswer). P (start_of spans r)) (more_count r rs) rs
    (All-tail (λ (r : Run FrameAnswer). P (start_of spans r)) r rs h)))

-- a run is new code
some-owned : (says : ℕ → Option FrameAnswer) (spans : List Span) (p : ℕ) (o : Option FrameAnswer) → IsSome o
    → o ≡ carried says spans p → IsTrue (is_new_code spans p)
some-owned says spans p o s e = owned (owner spans p) (subst IsSome e s) where
  owned : (x : Option ℕ) → IsSome (option_and_then says x) → IsTrue (is_some x)
  owned None s = s
  owned (Some a) s = refl

start-in : (says : ℕ → Option FrameAnswer) (spans : List Span) (all : Runs) (lo hi : ℕ) (rs : Runs) → IsWithin lo rs hi
    → ((p : ℕ) → run_at all p ≡ carried says spans p)
    → All (IsReached spans all) rs → All (λ (r : Run FrameAnswer). IsTrue (is_new_code spans (start_of spans r))) rs
start-in says spans all lo hi [] w a f = All-nil (λ (r : Run FrameAnswer). IsTrue (is_new_code spans (start_of spans r)))
start-in says spans all lo hi (r ∷ rs) w a f =
    let one = All-head (IsReached spans all) r rs f in
    All-cons (λ (r : Run FrameAnswer). IsTrue (is_new_code spans (start_of spans r))) r rs
    (some-owned says spans (start_of spans r) (run_at all (start_of spans r))
    (one.filled (start_of spans r) (same (start_of spans r)) (inside (start_of spans r) r.start r.len one.before w.1))
    (a (start_of spans r)))
    (start-in says spans all (r.start + r.len) hi rs w.2 a (All-tail (IsReached spans all) r rs f)) where
      same : (n : ℕ) → n ≤ n
      same n = omega arith

      inside : (s a n : ℕ) → s ≤ a → 0 < n → s < a + n
      inside s a n h l = omega arith

pub starts-in : (says : ℕ → Option FrameAnswer) (spans : List Span) (keys : List CieKey) (runs : Runs) (bytes : List ℕ)
    (at : ℕ) → All KeyFits keys → IsWithin 0 runs (2 ^ 64 - 1)
    → ((p : ℕ) → run_at runs p ≡ carried says spans p) → All (IsReached spans runs) runs
    → IsSpelled (Loaded at) spans keys runs bytes
    → All (λ (f : Fde). IsTrue (is_new_code spans f.start)) (frames false at bytes).list
starts-in says spans keys runs bytes at f w a r s =
    let read = ap (λ (t : Frames). t.list) (reads-as (Loaded at) spans keys runs bytes at f refl w r s) in
    subst (All (λ (f : Fde). IsTrue (is_new_code spans f.start))) (sym read)
    (made-starts (Loaded at) (λ (n : ℕ). IsTrue (is_new_code spans n)) spans (length runs) (cie_size * length keys) runs
    (start-in says spans runs 0 (2 ^ 64 - 1) runs w a r))

pub count-of : (spans : List Span) (keys : List CieKey) (runs : Runs) (bytes : List ℕ) (at : ℕ) → All KeyFits keys
    → IsWithin 0 runs (2 ^ 64 - 1)
    → All (IsReached spans runs) runs → IsSpelled (Loaded at) spans keys runs bytes
    → length (frames false at bytes).list ≤ length runs
count-of spans keys runs bytes at f w r s =
    let read = ap (λ (t : Frames). length t.list) (reads-as (Loaded at) spans keys runs bytes at f refl w r s) in
    subst (λ (n : ℕ). n ≤ length runs) (sym read) (made-count (Loaded at) spans (length runs) (cie_size * length keys) runs)

-- without new code there are no runs, and the table is the same at each address

no-runs : (says : ℕ → Option FrameAnswer) (spans : List Span) (runs : Runs) (hi : ℕ) → IsWithin 0 runs hi
    → ((p : ℕ) → run_at runs p ≡ carried says spans p) → All (IsReached spans runs) runs → code_end spans ≤ 0 → runs ≡ []
no-runs says spans runs hi w a r none = by runs refl where
  by : (rs : Runs) → runs ≡ rs → runs ≡ []
  by [] e = e
  by (q ∷ qs) e =
      let starts = subst (All (λ (r : Run FrameAnswer). IsTrue (is_new_code spans (start_of spans r)))) e
      (start-in says spans runs 0 hi runs w a r) in
      let less = before-end spans (start_of spans q)
      (All-head (λ (r : Run FrameAnswer). IsTrue (is_new_code spans (start_of spans r))) q qs starts) in
      absurd (omega (arith, less, none))

moved : (at address : ℕ) (spans : List Span) (keys : List CieKey) (bytes : List ℕ) → IsSpelled (Loaded at) spans keys [] bytes
    → IsSpelled (Loaded address) spans keys [] bytes
unfolding fde_entries WritesAll
moved at address spans keys bytes s = record { writes = tt; bytes_are = s.bytes_are }

pub spelled-at : (says : ℕ → Option FrameAnswer) (spans : List Span) (keys : List CieKey) (runs : Runs) (bytes : List ℕ)
    (address : ℕ) → IsWithin 0 runs (2 ^ 64 - 1) → ((p : ℕ) → run_at runs p ≡ carried says spans p)
    → All (IsReached spans runs) runs → ComesAfter spans address
    → IsSpelled (Loaded (frames_address spans)) spans keys runs bytes → IsSpelled (Loaded address) spans keys runs bytes
spelled-at says spans keys runs bytes address w a r after s = elim (cases_lt 0 (code_end spans)) [
  | inl some ↦ subst (λ (n : ℕ). IsSpelled (Loaded n) spans keys runs bytes) (sym (after some)) s
  | inr none ↦
      let e = no-runs says spans runs (2 ^ 64 - 1) w a r none in
      subst (λ (rs : Runs). IsSpelled (Loaded address) spans keys rs bytes) (sym e)
      (moved (frames_address spans) address spans keys bytes
      (subst (λ (rs : Runs). IsSpelled (Loaded (frames_address spans)) spans keys rs bytes) e s))
]

-- the whole table, and its index
pub size-of : (at : ℕ) (spans : List Span) (keys : List CieKey) (runs : Runs) (bytes : List ℕ) (cies : ℕ) → length keys ≤ 2 * cies
    → All RunAscends runs → IsSpelled (Loaded at) spans keys runs bytes
    → length bytes + 8 * length runs ≤ 16 + 64 * cies + sum_by (λ (r : Run FrameAnswer). run_size r.answer) runs
size-of at spans keys runs bytes cies few ascend s =
    let whole = s.bytes_are ∙ ap (λ (l : List ℕ). l ++ (0 ∷ 0 ∷ 0 ∷ 0 ∷ []))
    (flat_map-append spelled_entry (cie_entries false 0 keys)
    (fde_entries (Loaded at) spans keys (length runs) (cie_size * length keys) runs)) in
    sums (length bytes) _ _ _ _ (length keys) cies (length runs) _
    (ap length whole ∙ length-append (spelled_entries (cie_entries false 0 keys) ++ spelled_entries
    (fde_entries (Loaded at) spans keys (length runs) (cie_size * length keys) runs)) (0 ∷ 0 ∷ 0 ∷ 0 ∷ []))
    (length-append (spelled_entries (cie_entries false 0 keys))
    (spelled_entries (fde_entries (Loaded at) spans keys (length runs) (cie_size * length keys) runs)))
    (cies-long false 0 keys) refl few (fdes-size (Loaded at) spans keys (length runs) (cie_size * length keys) runs ascend) where
      sums : (t u c f four k cies n total : ℕ) → t ≡ u + four → u ≡ c + f → c ≡ 32 * k → four ≡ 4 → k ≤ 2 * cies
          → f + 8 * n ≤ total → t + 8 * n ≤ 16 + 64 * cies + total
      sums t u c f four k cies n total a b d e h g = omega arith

pub ends-with : (at : ℕ) (spans : List Span) (keys : List CieKey) (runs : Runs) (bytes : List ℕ)
    → IsSpelled (Loaded at) spans keys runs bytes → EndsWithMark bytes
ends-with at spans keys runs bytes s = record {
  front = spelled_entries (table_entries (Loaded at) spans keys runs);
  whole = ap (λ (w : WalkedEntries). w.broken) (walked-alone true (table_entries (Loaded at) spans keys runs)
      (table-from (Loaded at) spans keys runs s.writes));
  are = s.bytes_are;
}
