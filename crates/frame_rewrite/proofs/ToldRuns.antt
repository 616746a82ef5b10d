-- The answers of runs come from entries that were read.
use Rattle.std.proofs.Common.{ℕ, suc, ◌-◌, ◌*◌, ◌^◌, ◌≤◌, ◌<◌, ◌≡◌, ◌==◌, ◌⊎◌, inl, inr, List, [], ◌∷◌, length, Bool, true, false, None, refl, sym, subst, arith}
use Rattle.std.specs.Prelude.{All, Contains, not}
use Rattle.std.specs.List.{IsDistinct}
use Rattle.std.proofs.lemmas.List.Elements.{All-contains}
use Rattle.rb_bytes.proofs.ListLemmas.{all_of}
use Rattle.rb_bytes.proofs.Members.{Contains-nil, Contains-cons_cases, Contains-there}
use Rattle.addr_map.specs.declared.span.Span.{Span}
use Rattle.addr_map.specs.Spans.{new}
use Rattle.answer_runs.specs.declared.run.Run.{Run}
use Rattle.answer_runs.specs.AnswerRuns.{IsWithin, run_at, carried}
use Rattle.table_core.specs.Sections.{Held}
use Rattle.cfi_rows.specs.Entries.{Cie, Fde, walked_entries}
use Rattle.cfi_rows.specs.Frames.{frames_of}
use Rattle.frame_rewrite.specs.declared.cie_key.CieKey.{CieKey}
use Rattle.frame_rewrite.specs.FrameAnswers.{FrameAnswer, answer_at}
use Rattle.frame_rewrite.specs.SpelledFits.{RunAscends, RunReturns}
use Rattle.frame_rewrite.specs.SpelledFrames.{is_key, key_of}
use Rattle.frame_rewrite.proofs.AscendingRows.{FdeAscends, frames-ascend, row-ascends}
use Rattle.frame_rewrite.proofs.KeyLists.{key-itself}
use Rattle.frame_rewrite.proofs.KindCounts.{cies_of, HasCie, read-cies, count-cies, few-keys}
use Rattle.frame_rewrite.proofs.Reached.{Answered, answered-first}
use Rattle.frame_rewrite.proofs.ReturnRegisters.{Bytes, FdeReturns, frames-return}

abbrev Runs : Type 0
Runs = List (Run FrameAnswer)

-- the kind of frame of a CIE's entries
abbrev kind_of : List Span → Bool → Cie → CieKey
kind_of spans tabled c =
    record {
      ra = c.ra;
      handler = new spans c.augmentation.handler;
      indirect = c.augmentation.indirect;
      signal = c.augmentation.signal;
      tabled = tabled;
    }

-- kinds with an exception table, and without
abbrev both_kinds : List Span → List Cie → List CieKey
both_kinds spans [] = []
both_kinds spans (c ∷ cs) = kind_of spans true c ∷ kind_of spans false c ∷ both_kinds spans cs

in-kinds : (spans : List Span) (b : Bool) (cs : List Cie) (c : Cie) → Contains cs c → Contains (both_kinds spans cs) (kind_of spans b c)
in-kinds spans b [] c h = absurd (Contains-nil c h)
in-kinds spans b (x ∷ xs) c h = either (Contains-cons_cases x xs c h) (λ g. in-kinds spans b xs c g) where
  here : (b : Bool) → Contains (both_kinds spans (x ∷ xs)) (kind_of spans b x)
  here true = (0, omega arith, refl)
  here false = (1, omega arith, refl)

  either : (x ≡ c) ⊎ Contains xs c → (Contains xs c → Contains (both_kinds spans xs) (kind_of spans b c))
      → Contains (both_kinds spans (x ∷ xs)) (kind_of spans b c)
  either (inl same) later = subst (λ (y : Cie). Contains (both_kinds spans (x ∷ xs)) (kind_of spans b y)) same (here b)
  either (inr there) later = Contains-there (kind_of spans true x) (kind_of spans false x ∷ both_kinds spans xs) (kind_of spans b c)
      (Contains-there (kind_of spans false x) (both_kinds spans xs) (kind_of spans b c) (later there))

length-kinds : (spans : List Span) (cs : List Cie) → length (both_kinds spans cs) ≡ 2 * length cs
length-kinds spans [] = refl
length-kinds spans (c ∷ cs) = more _ _ (length-kinds spans cs) where
  more : (n m : ℕ) → n ≡ 2 * m → suc (suc n) ≡ 2 * suc m
  more n m e = omega arith

module _ (debug : Bool) (is_marked : Fde → Bool) (section : Held) (spans : List Span) (runs : Runs)
    (within : IsWithin 0 runs (2 ^ 64 - 1))
    (answers : (p : ℕ) → run_at runs p ≡ carried (answer_at is_marked (frames_of debug section).list) spans p) where
  told : (r : Run FrameAnswer) → Contains runs r → Answered is_marked (frames_of debug section).list spans r.start r.answer
  told r c = answered-first is_marked (frames_of debug section).list spans runs (2 ^ 64 - 1) within answers r c

  pub all-ascend : All RunAscends runs
  all-ascend = all_of RunAscends runs (λ r c. let t = told r c in
      row-ascends t.span.input t.fde.rows None r.answer.row
      (All-contains FdeAscends (frames_of debug section).list t.fde (frames-ascend debug section.address section.bytes) t.in_list) tt
      t.row)

  pub all-return : Bytes section.bytes → All RunReturns runs
  all-return h = all_of RunReturns runs (λ r c. let t = told r c in
      subst (λ (n : ℕ). n < 256) (sym t.ra)
      (All-contains FdeReturns (frames_of debug section).list t.fde (frames-return debug section.address section.bytes h) t.in_list))

  abbrev kinds : List CieKey
  kinds = both_kinds spans (cies_of debug section.address (walked_entries debug section.bytes).entries)

  same-kind : (p : ℕ) (a : FrameAnswer) → (t : Answered is_marked (frames_of debug section).list spans p a) →
      key_of spans a ≡ kind_of spans (not (a.table == 0)) t.fde.cie
  same-kind p a t =
      λ i. record {
        ra = t.ra i;
        handler = new spans (t.handler i);
        indirect = t.indirect i;
        signal = t.signal i;
        tabled = not (a.table == 0);
      }

  all-kinds : All (λ (r : Run FrameAnswer). Contains kinds (key_of spans r.answer)) runs
  all-kinds = all_of (λ (r : Run FrameAnswer). Contains kinds (key_of spans r.answer)) runs (λ r c. let t = told r c in
      subst (Contains kinds) (sym (same-kind r.start r.answer t))
      (in-kinds spans (not (r.answer.table == 0)) (cies_of debug section.address (walked_entries debug section.bytes).entries) t.fde.cie
      (All-contains (HasCie debug section.address (walked_entries debug section.bytes).entries) (frames_of debug section).list t.fde
      (read-cies debug section.address section.bytes) t.in_list)))

  -- two kinds for each CIE serve
  pub few-kinds : (frames_of debug section).bad ≡ None → (keys : List CieKey)
      → IsDistinct is_key keys
      → ((ks : List CieKey) → All (λ (r : Run FrameAnswer). Contains ks (key_of spans r.answer)) runs → All (Contains ks) keys)
      → length keys ≤ 2 * (frames_of debug section).cies
  few-kinds sound keys distinct needed =
      let n = few-keys is_key key-itself kinds keys (needed kinds all-kinds) distinct in
      let l = length-kinds spans (cies_of debug section.address (walked_entries debug section.bytes).entries) in
      let m = count-cies debug section.address section.bytes sound in
      omega (arith, n, l, m)
