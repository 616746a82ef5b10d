-- A `.debug_frame` whose answers need no augmentation is written without one.
use Rattle.std.proofs.Common.{ℕ, zero, suc, ◌+◌, ◌-◌, ◌*◌, ◌^◌, ◌≤◌, ◌<◌, ◌≡◌, ◌==◌, ◌||◌, ◌⊎◌, inl, inr, List, [], ◌∷◌, ◌++◌, Option, Some, None, Bool, true, false}
use Rattle.std.proofs.Common.{refl, sym, ◌∙◌, ap, subst, arith, length, map, take, drop}
use Rattle.std.specs.Prelude.{All, Contains, IfSome, not, slice_get}
use Rattle.std.proofs.lemmas.List.Elements.{All-append, All-cons, All-contains, All-head, All-map, All-nil, All-tail}
use Rattle.rb_bytes.proofs.ListLemmas.{all_of}
use Rattle.rb_bytes.proofs.Members.{Contains-cons_cases, Contains-nil, Contains-there}
use Rattle.std.proofs.lemmas.Option.{slice_get_within}
use Rattle.rb_bytes.proofs.Tests.{clash}
use Rattle.addr_map.specs.declared.span.Span.{Span}
use Rattle.addr_map.specs.Spans.{new}
use Rattle.answer_runs.specs.declared.run.Run.{Run}
use Rattle.answer_runs.specs.AnswerRuns.{IsWithin}
use Rattle.answer_runs.specs.CarriedAnswers.{Agree}
use Rattle.cfi_rows.specs.Entries.{letter_z, RawEntry, Fde, Frames, WalkedEntries, frames, is_cie, walked_entries}
use Rattle.frame_rewrite.specs.declared.cie_key.CieKey.{CieKey}
use Rattle.frame_rewrite.specs.declared.form.Form.TheVariants.{Debug}
use Rattle.frame_rewrite.specs.CarriedFrames.{IsCarriedFrame}
use Rattle.frame_rewrite.specs.FrameAnswers.{FrameAnswer, answer_at, is_never_marked}
use Rattle.frame_rewrite.specs.PlainFrames.{HasNoText, HasNoTexts, IsPlain}
use Rattle.frame_rewrite.specs.SpelledFits.{IsReached, IsSpelled, KeyFits, WritesAll}
use Rattle.frame_rewrite.specs.SpelledFrames.{bytes_if, cie_code, cie_data, cie_entries, cie_fields, cie_letters, cie_size, fde_body}
use Rattle.frame_rewrite.specs.SpelledFrames.{fde_entries, has_data, key_index, key_of, more_count, table_entries, zeros}
use Rattle.frame_rewrite.proofs.AnswersBack.{reached-before, some-made}
use Rattle.frame_rewrite.proofs.EntriesBack.{walked-back}
use Rattle.frame_rewrite.proofs.Law.{reads-as}
use Rattle.frame_rewrite.proofs.Reached.{run-has, run-some}
use Rattle.frame_rewrite.proofs.TableBack.{made, not-cie, table-from}

abbrev Runs : Type 0
Runs = List (Run FrameAnswer)

-- Kinds of plain answers are plain.

plain-so : (h t : ℕ) (i s : Bool) → h ≡ 0 → i ≡ false → s ≡ false → t ≡ 0
    → (not true || (not (h == 0) || i) || not (t == 0) || s) ≡ false
plain-so h t i s a b c d = rw (a, b, c, d) refl

plain-run : (spans : List Span) (a : FrameAnswer) (o : Option FrameAnswer) → Agree (IsCarriedFrame spans) (Some a) o
    → IfSome o IsPlain → has_data true (key_of spans a) ≡ false
plain-run spans a None x p = absurd x
plain-run spans a (Some y) x p =
    plain-so (new spans a.handler) a.table a.indirect a.signal (sym x.handler ∙ p.handler)
    (sym x.indirect ∙ p.indirect) (sym x.signal ∙ p.signal) (sym x.table ∙ p.table)

module _ (spans : List Span) (keys : List CieKey) (runs : Runs) (place : ℕ) (within : IsWithin 0 runs (2 ^ 64 - 1))
    (reach : All (IsReached spans runs) runs)
    (plain : (a : ℕ) → IfSome (answer_at is_never_marked (made Debug spans (length runs) place runs) a) IsPlain) where
  plain-runs : All (λ (r : Run FrameAnswer). has_data true (key_of spans r.answer) ≡ false) runs
  plain-runs = all_of (λ (r : Run FrameAnswer). has_data true (key_of spans r.answer) ≡ false) runs (λ r c.
      plain-run spans r.answer (answer_at is_never_marked (made Debug spans (length runs) place runs) r.start)
      (some-made Debug is_never_marked spans (length runs) place 0 (2 ^ 64 - 1) runs r.start r.answer (full (length runs)) within
      (reached-before spans runs runs reach)
      (run-has 0 runs (2 ^ 64 - 1) r r.start within c (full r.start)
      (more r.start r.len (run-some 0 runs (2 ^ 64 - 1) r within c))).1)
      (plain r.start)) where
        full : (n : ℕ) → n ≤ n
        full n = omega arith

        more : (n k : ℕ) → 0 < k → n < n + k
        more n k h = omega arith

mapped : {X Y : Type 0} (f : X → Y) (xs : List X) (x : X) → Contains xs x → Contains (map f xs) (f x)
mapped f [] x c = absurd (Contains-nil x c)
mapped f (y ∷ ys) x c = either (Contains-cons_cases y ys x c) (mapped f ys x) where
  first : (n : ℕ) → 0 < suc n
  first n = omega arith

  either : (y ≡ x) ⊎ Contains ys x → (Contains ys x → Contains (map f ys) (f x)) → Contains (map f (y ∷ ys)) (f x)
  either (inl same) later = (0, first (length (map f ys)), ap f same)
  either (inr there) later = Contains-there (f y) (map f ys) (f x) (later there)

plain-keys : (spans : List Span) (keys : List CieKey) (runs : Runs)
    → ((among : List CieKey) → All (λ (r : Run FrameAnswer). Contains among (key_of spans r.answer)) runs → All (Contains among) keys)
    → All (λ (r : Run FrameAnswer). has_data true (key_of spans r.answer) ≡ false) runs → All (λ k. has_data true k ≡ false) keys
plain-keys spans keys runs needed plain =
    let kinds : List CieKey = map (λ (r : Run FrameAnswer). key_of spans r.answer) runs in
    let there = needed kinds (all_of (λ (r : Run FrameAnswer). Contains kinds (key_of spans r.answer)) runs
    (λ r c. mapped (λ (r : Run FrameAnswer). key_of spans r.answer) runs r c)) in
    let all = All-map (λ k. has_data true k ≡ false) (λ (r : Run FrameAnswer). key_of spans r.answer) runs plain in
    all_of (λ k. has_data true k ≡ false) keys
    (λ k c. All-contains (λ k. has_data true k ≡ false) kinds k all (All-contains (Contains kinds) keys k there c))

-- Their CIEs have no text.

abbrev NoText : RawEntry → Type 0
NoText e = is_cie true e ≡ true → HasNoText e

no-text : (b : Bool) (xs ys zs : List ℕ) → b ≡ false → slice_get ((1 ∷ ((bytes_if b xs ++ 0 ∷ []) ++ ys)) ++ zs) 1 ≡ Some 0
no-text true xs ys zs e = absurd (cc)
no-text false xs ys zs e = refl

cies-plain : (i : ℕ) (ks : List CieKey) → All (λ k. has_data true k ≡ false) ks → All NoText (cie_entries true i ks)
cies-plain i [] f = All-nil NoText
cies-plain i (k ∷ ks) f =
    let t : has_data true k ≡ false = All-head (λ k. has_data true k ≡ false) k ks f in
    All-cons NoText _ (cie_entries true (i + 1) ks)
    (λ _. no-text (has_data true k) (letter_z ∷ cie_letters true k) (1 ∷ 0x7f ∷ k.ra ∷ (cie_data true k ++ cie_code k.signal))
    (zeros (24 - length (cie_fields true k))) t)
    (cies-plain (i + 1) ks (All-tail (λ k. has_data true k ≡ false) k ks f))

fdes-none : (spans : List Span) (keys : List CieKey) (n place : ℕ) (rs : Runs) → cie_size * length keys ≤ place
    → WritesAll Debug spans keys n place rs → All NoText (fde_entries Debug spans keys n place rs)
unfolding fde_entries WritesAll
fdes-none spans keys n place [] h w = All-nil NoText
fdes-none spans keys zero place (r ∷ rs) h w = All-nil NoText
fdes-none spans keys (suc n) place (r ∷ rs) h w =
    All-cons NoText _ _
    (λ t. absurd (clash _ t (not-cie true place (key_index spans keys r) (length keys)
    (slice_get_within keys (key_index spans keys r) (key_of spans r.answer) w.0.key) h w.0.low)))
    (fdes-none spans keys n (place + 8 + length (fde_body Debug place spans r (take (more_count r rs) rs))) (drop (more_count r rs) rs)
    (further (cie_size * length keys) place (length (fde_body Debug place spans r (take (more_count r rs) rs))) h) w.1) where
      further : (a p n : ℕ) → a ≤ p → a ≤ p + 8 + n
      further a p n h = omega arith

pub texts-none : (spans : List Span) (keys : List CieKey) (runs : Runs) (bytes : List ℕ) (address : ℕ) → All KeyFits keys
    → IsWithin 0 runs (2 ^ 64 - 1) → All (IsReached spans runs) runs → IsSpelled Debug spans keys runs bytes
    → ((among : List CieKey) → All (λ (r : Run FrameAnswer). Contains among (key_of spans r.answer)) runs → All (Contains among) keys)
    → ((a : ℕ) → IfSome (answer_at is_never_marked (frames true address bytes).list a) IsPlain) → HasNoTexts bytes
texts-none spans keys runs bytes address f w r s needed plain =
    let read = ap (λ (t : Frames). t.list) (reads-as Debug spans keys runs bytes address f tt w r s) in
    let all = plain-keys spans keys runs needed (plain-runs spans keys runs (cie_size * length keys) w r
    (λ a. subst (λ (l : List Fde). IfSome (answer_at is_never_marked l a) IsPlain) read (plain a))) in
    let walked : (walked_entries true bytes).entries ≡ table_entries Debug spans keys runs =
    ap (λ (l : List ℕ). (walked_entries true l).entries) s.bytes_are
    ∙ ap (λ (x : WalkedEntries). x.entries)
    (walked-back true (table_entries Debug spans keys runs) (table-from Debug spans keys runs s.writes)) in
    subst (λ (es : List RawEntry). All NoText es) (sym walked)
    (All-append NoText (cie_entries true 0 keys) (fde_entries Debug spans keys (length runs) (cie_size * length keys) runs)
    (cies-plain 0 keys all)
    (fdes-none spans keys (length runs) (cie_size * length keys) runs (least (cie_size * length keys)) s.writes)) where
      least : (n : ℕ) → n ≤ n
      least n = omega arith
