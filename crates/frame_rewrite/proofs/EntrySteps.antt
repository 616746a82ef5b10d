-- Steps of the loops that write entries.
use Rattle.std.proofs.Common.{ℕ, suc, ◌+◌, ◌-◌, ◌*◌, ◌≤◌, ◌<◌, ◌≡◌, ◌^◌, List, [], ◌∷◌, ◌++◌, Bool, refl, sym, ◌∙◌, ap, subst, arith}
use Rattle.std.proofs.Common.{length, append_assoc, get_or, drop, take}
use Rattle.std.specs.Prelude.{All}
use Rattle.std.proofs.lemmas.Grind.{flat_map-append}
use Rattle.std.proofs.lemmas.List.{append-nil, drop_more}
use Rattle.std.proofs.lemmas.List.Elements.{All-cons, All-head, All-tail, All-take, All-drop}
use Rattle.addr_map.specs.declared.span.Span.{Span}
use Rattle.answer_runs.specs.declared.run.Run.{Run}
use Rattle.answer_runs.specs.AnswerRuns.{IsWithin}
use Rattle.cfi_rows.specs.declared.row.Rule.{Rule}
use Rattle.cfi_rows.specs.Entries.{RawEntry}
use Rattle.cfi_rows.specs.FrameRows.{Rules}
use Rattle.cfi_rows.specs.RuleEntries.{Ascend}
use Rattle.frame_rewrite.specs.declared.cie_key.CieKey.{CieKey}
use Rattle.frame_rewrite.specs.declared.form.Form.{Form}
use Rattle.frame_rewrite.specs.FrameAnswers.{FrameAnswer}
use Rattle.frame_rewrite.specs.SpelledFits.{RuleFits, RulesFit, RunAscends, Writes, WritesAll, EndFits, IsAbove, IsSpelled}
use Rattle.frame_rewrite.specs.SpelledFrames.{spelled_entry, spelled_entries, cie_entry, cie_entries, fde_entry, fde_entries, fde_body}
use Rattle.frame_rewrite.specs.SpelledFrames.{is_debug, more_count, start_of, last_end, cie_size, cie_body, end_mark}
use Rattle.frame_rewrite.proofs.Appends.{past-end, new-length}
use Rattle.frame_rewrite.proofs.EntriesBack.{spelled-length}
use Rattle.frame_rewrite.proofs.RunGroups.{within-take, within-drop, within-low, le-last, ends-fit}
use Rattle.frame_rewrite.proofs.CieBack.{cie-length}
use Rattle.frame_rewrite.proofs.TableBack.{Before}

abbrev Runs : Type 0
Runs = List (Run FrameAnswer)

-- rules that fit and ascend
abbrev pub EntryFits : ℕ × Rule → Type 0
EntryFits x = (x.0 < 2 ^ 64) × RuleFits x.1

pub rules-fit : (lo : ℕ) (xs : Rules) → Ascend lo xs → All EntryFits xs → RulesFit lo xs
rules-fit lo [] a f = tt
rules-fit lo (x ∷ xs) a f =
    let h = All-head EntryFits x xs f in (a.0, h.0, h.1, rules-fit (x.0 + 1) xs a.1 (All-tail EntryFits x xs f))

-- one CIE more
pub cie-more : (debug : Bool) (ks : List CieKey) (i : ℕ) (d : CieKey) (o new want : List ℕ) → i < length ks
    → new ≡ o ++ spelled_entry (cie_entry debug i (get_or ks i d))
    → o ++ spelled_entries (cie_entries debug i (drop i ks)) ≡ want
    → new ++ spelled_entries (cie_entries debug (i + 1) (drop (i + 1) ks)) ≡ want
cie-more debug ks i d o new want h e w =
    ap (λ (l : List ℕ). l ++ spelled_entries (cie_entries debug (i + 1) (drop (i + 1) ks))) e
    ∙ append_assoc o (spelled_entry (cie_entry debug i (get_or ks i d)))
    (spelled_entries (cie_entries debug (i + 1) (drop (i + 1) ks)))
    ∙ ap (λ (l : List CieKey). o ++ spelled_entries (cie_entries debug i l)) (sym (drop_more ks i d h)) ∙ w

pub cies-end : (debug : Bool) (ks : List CieKey) (i : ℕ) (o want : List ℕ) → length ks ≤ i
    → o ++ spelled_entries (cie_entries debug i (drop i ks)) ≡ want → o ≡ want
cies-end debug ks i o want h w = sym (append-nil o)
    ∙ ap (λ (l : List CieKey). o ++ spelled_entries (cie_entries debug i l)) (sym (past-end ks i h)) ∙ w

pub cies-long : (debug : Bool) (i : ℕ) (ks : List CieKey)
    → length (spelled_entries (cie_entries debug i ks)) ≡ cie_size * length ks
cies-long debug i [] = refl
cies-long debug i (k ∷ ks) =
    sums _ (length (cie_body debug k)) (length (spelled_entries (cie_entries debug (i + 1) ks))) (length ks)
    (spelled-length (cie_entry debug i k) (spelled_entries (cie_entries debug (i + 1) ks))) (cie-length debug k)
    (cies-long debug (i + 1) ks) where
      sums : (a b c n : ℕ) → a ≡ 8 + b + c → b ≡ 24 → c ≡ 32 * n → a ≡ 32 * suc n
      sums a b c n e f g = omega arith

-- one group more

abbrev spelled_from : (form : Form) → List Span → List CieKey → ℕ → ℕ → Runs → List ℕ
spelled_from form spans keys n place rs = spelled_entries (fde_entries form spans keys n place rs)

entries-next : (form : Form) (spans : List Span) (keys : List CieKey) (n place : ℕ) (r : Run FrameAnswer) (rs : Runs)
    → spelled_from form spans keys (suc n) place (r ∷ rs)
    ≡ spelled_entry (fde_entry form spans keys place r (take (more_count r rs) rs))
    ++ spelled_from form spans keys n (place + 8 + length (fde_body form place spans r (take (more_count r rs) rs)))
    (drop (more_count r rs) rs)
unfolding fde_entries
entries-next form spans keys n place r rs = refl

pub group-more : (form : Form) (spans : List Span) (keys : List CieKey) (n count : ℕ) (r : Run FrameAnswer)
    (rs rest : Runs) (o new want : List ℕ) → count < n → rest ≡ r ∷ rs
    → new ≡ o ++ spelled_entry (fde_entry form spans keys (length o) r (take (more_count r rs) rs))
    → o ++ spelled_entries (fde_entries form spans keys (n - count) (length o) rest) ≡ want
    → new ++ spelled_entries (fde_entries form spans keys (n - (count + 1)) (length new) (drop (more_count r rs) rs)) ≡ want
group-more form spans keys n count r rs rest o new want h is e w =
    let l : length new ≡ length o + 8 + length (fde_body form (length o) spans r (take (more_count r rs) rs)) = new-length o new
    (fde_entry form spans keys (length o) r (take (more_count r rs) rs)) e in
    let k : n - count ≡ suc (n - (count + 1)) = omega arith in
    ap (λ (m : ℕ). new ++ spelled_from form spans keys (n - (count + 1)) m (drop (more_count r rs) rs)) l
    ∙ ap (λ (x : List ℕ). x ++ spelled_from form spans keys (n - (count + 1))
    (length o + 8 + length (fde_body form (length o) spans r (take (more_count r rs) rs))) (drop (more_count r rs) rs)) e
    ∙ append_assoc o (spelled_entry (fde_entry form spans keys (length o) r (take (more_count r rs) rs)))
    (spelled_from form spans keys (n - (count + 1))
    (length o + 8 + length (fde_body form (length o) spans r (take (more_count r rs) rs))) (drop (more_count r rs) rs))
    ∙ ap (λ (x : List ℕ). o ++ x) (sym (entries-next form spans keys (n - (count + 1)) (length o) r rs))
    ∙ ap (λ (m : ℕ). o ++ spelled_from form spans keys m (length o) (r ∷ rs)) (sym k)
    ∙ ap (λ (x : Runs). o ++ spelled_from form spans keys (n - count) (length o) x) (sym is) ∙ w

writes-next : (form : Form) (spans : List Span) (keys : List CieKey) (n place : ℕ) (r : Run FrameAnswer) (rs : Runs)
    → Writes form spans keys place r (take (more_count r rs) rs)
    → WritesAll form spans keys n (place + 8 + length (fde_body form place spans r (take (more_count r rs) rs)))
    (drop (more_count r rs) rs) → WritesAll form spans keys (suc n) place (r ∷ rs)
unfolding WritesAll
writes-next form spans keys n place r rs w more = (w, more)

pub writes-more : (form : Form) (spans : List Span) (keys : List CieKey) (n count : ℕ) (r : Run FrameAnswer)
    (rs rest : Runs) (o new : List ℕ) (W : Type 0) → count < n → rest ≡ r ∷ rs
    → new ≡ o ++ spelled_entry (fde_entry form spans keys (length o) r (take (more_count r rs) rs))
    → Writes form spans keys (length o) r (take (more_count r rs) rs)
    → (WritesAll form spans keys (n - count) (length o) rest → W)
    → WritesAll form spans keys (n - (count + 1)) (length new) (drop (more_count r rs) rs) → W
writes-more form spans keys n count r rs rest o new W h is e w all more =
    let l : length new ≡ length o + 8 + length (fde_body form (length o) spans r (take (more_count r rs) rs)) = new-length o new
    (fde_entry form spans keys (length o) r (take (more_count r rs) rs)) e in
    let k : n - count ≡ suc (n - (count + 1)) = omega arith in
    all (subst (WritesAll form spans keys (n - count) (length o)) (sym is)
    (subst (λ (m : ℕ). WritesAll form spans keys m (length o) (r ∷ rs)) (sym k)
    (writes-next form spans keys (n - (count + 1)) (length o) r rs w
    (subst (λ (m : ℕ). WritesAll form spans keys (n - (count + 1)) m (drop (more_count r rs) rs)) l more))))

pub no-entries : (form : Form) (spans : List Span) (keys : List CieKey) (n place : ℕ) (rest : Runs) (o want : List ℕ)
    → rest ≡ []
    → o ++ spelled_entries (fde_entries form spans keys n place rest) ≡ want → o ≡ want
unfolding fde_entries
no-entries form spans keys n place rest o want e w = sym (append-nil o)
    ∙ ap (λ (x : Runs). o ++ spelled_from form spans keys n place x) (sym e) ∙ w

no-fuel : (form : Form) (spans : List Span) (keys : List CieKey) (place : ℕ) (rest : Runs)
    → fde_entries form spans keys 0 place rest ≡ []
unfolding fde_entries
no-fuel form spans keys place [] = refl
no-fuel form spans keys place (r ∷ rs) = refl

pub out-of-fuel : (form : Form) (spans : List Span) (keys : List CieKey) (n count place : ℕ) (rest : Runs)
    (o want : List ℕ) → n ≤ count
    → o ++ spelled_entries (fde_entries form spans keys (n - count) place rest) ≡ want → o ≡ want
out-of-fuel form spans keys n count place rest o want h w =
    let z : n - count ≡ 0 = omega arith in
    sym (append-nil o) ∙ ap (λ (x : List RawEntry). o ++ spelled_entries x) (sym (no-fuel form spans keys place rest))
    ∙ ap (λ (m : ℕ). o ++ spelled_from form spans keys m place rest) (sym z) ∙ w

pub no-writes : (form : Form) (spans : List Span) (keys : List CieKey) (n place : ℕ) (rest : Runs) (W : Type 0) → rest ≡ []
    → (WritesAll form spans keys n place rest → W) → W
unfolding WritesAll
no-writes form spans keys n place rest W e w = w (subst (WritesAll form spans keys n place) (sym e) tt)

unfuelled : (form : Form) (spans : List Span) (keys : List CieKey) (place : ℕ) (rest : Runs) → WritesAll form spans keys 0 place rest
unfolding WritesAll
unfuelled form spans keys place [] = tt
unfuelled form spans keys place (r ∷ rs) = tt

pub out-of-writes : (form : Form) (spans : List Span) (keys : List CieKey) (n count place : ℕ) (rest : Runs) (W : Type 0) → n ≤ count
    → (WritesAll form spans keys (n - count) place rest → W) → W
out-of-writes form spans keys n count place rest W h w =
    let z : n - count ≡ 0 = omega arith in
    w (subst (λ (m : ℕ). WritesAll form spans keys m place rest) (sym z) (unfuelled form spans keys place rest))

pub longer : (out new : List ℕ) (n : ℕ) (e : RawEntry) → new ≡ out ++ spelled_entry e → n ≤ length out → n ≤ length new
longer out new n e w h = let l : length new ≡ length out + 8 + length e.body = new-length out new e w in omega arith

-- the runs after a group still have these properties
pub within-behind : (k : ℕ) (r : Run FrameAnswer) (rs rest : Runs) (hi : ℕ) → rest ≡ r ∷ rs → IsWithin 0 rest hi
    → IsWithin 0 (drop k rs) hi
within-behind k r rs rest hi e w =
    let v : IsWithin 0 (r ∷ rs) hi = subst (λ (x : Runs). IsWithin 0 x hi) e w in
    within-low (last_end (r.start + r.len) (take k rs)) 0 (drop k rs) hi (least (last_end (r.start + r.len) (take k rs)))
    (within-drop k (r.start + r.len) rs hi v.2) where
      least : (n : ℕ) → 0 ≤ n
      least n = omega arith

pub before-behind : (spans : List Span) (k : ℕ) (r : Run FrameAnswer) (rs rest : Runs) → rest ≡ r ∷ rs
    → All (Before spans) rest → All (Before spans) (drop k rs)
before-behind spans k r rs rest e f = All-drop (Before spans) k rs
    (All-tail (Before spans) r rs (subst (All (Before spans)) e f))

pub ascend-behind : (k : ℕ) (r : Run FrameAnswer) (rs rest : Runs) → rest ≡ r ∷ rs → All RunAscends rest → All RunAscends (drop k rs)
ascend-behind k r rs rest e f = All-drop RunAscends k rs (All-tail RunAscends r rs (subst (All RunAscends) e f))

-- the requirements on a group

pub group-ascends : (k : ℕ) (r : Run FrameAnswer) (rs rest : Runs) → rest ≡ r ∷ rs → All RunAscends rest
    → All RunAscends (r ∷ take k rs)
group-ascends k r rs rest e f =
    let g = subst (All RunAscends) e f in
    All-cons RunAscends r (take k rs) (All-head RunAscends r rs g) (All-take RunAscends k rs (All-tail RunAscends r rs g))

pub group-ends : (k : ℕ) (r : Run FrameAnswer) (rs rest : Runs) (hi : ℕ) → rest ≡ r ∷ rs → hi < 2 ^ 64
    → IsWithin 0 rest hi → All EndFits (r ∷ take k rs)
group-ends k r rs rest hi e h w =
    let v : IsWithin 0 (r ∷ rs) hi = subst (λ (x : Runs). IsWithin 0 x hi) e w in
    ends-fit 0 (r ∷ take k rs) hi h (v.0, v.1, within-take k (r.start + r.len) rs hi v.2)

pub group-start : (spans : List Span) (k : ℕ) (r : Run FrameAnswer) (rs rest : Runs) (hi : ℕ) → rest ≡ r ∷ rs
    → IsWithin 0 rest hi → All (Before spans) rest
    → start_of spans r ≤ last_end (r.start + r.len) (take k rs)
group-start spans k r rs rest hi e w f =
    let v : IsWithin 0 (r ∷ rs) hi = subst (λ (x : Runs). IsWithin 0 x hi) e w in
    let before : start_of spans r ≤ r.start = All-head (Before spans) r rs (subst (All (Before spans)) e f) in
    let later : r.start + r.len ≤ last_end (r.start + r.len) (take k rs) = le-last (r.start + r.len) (take k rs) hi
    (within-take k (r.start + r.len) rs hi v.2) in
    least _ _ _ _ before later where
      least : (s a n e : ℕ) → s ≤ a → a + n ≤ e → s ≤ e
      least s a n e h l = omega arith

-- a whole table

pub cies-put : (debug : Bool) (ks : List CieKey) (start a : List ℕ) → start ≡ []
    → a ≡ start ++ spelled_entries (cie_entries debug 0 ks) → a ≡ spelled_entries (cie_entries debug 0 ks)
cies-put debug ks start a z e = e ∙ ap (λ (l : List ℕ). l ++ spelled_entries (cie_entries debug 0 ks)) z

pub cies-room : (debug : Bool) (ks : List CieKey) (a : List ℕ) → a ≡ spelled_entries (cie_entries debug 0 ks)
    → length a ≡ cie_size * length ks
cies-room debug ks a e = ap length e ∙ cies-long debug 0 ks

pub spelled-table : (form : Form) (spans : List Span) (keys : List CieKey) (runs : Runs) (a b c : List ℕ)
    → a ≡ spelled_entries (cie_entries (is_debug form) 0 keys)
    → b ≡ a ++ spelled_entries (fde_entries form spans keys (length runs) (length a) runs) → c ≡ b ++ end_mark (is_debug form)
    → WritesAll form spans keys (length runs) (length a) runs → IsSpelled form spans keys runs c
spelled-table form spans keys runs a b c e f g w =
    let n : length a ≡ cie_size * length keys = cies-room (is_debug form) keys a e in
    record {
      writes = subst (λ (m : ℕ). WritesAll form spans keys (length runs) m runs) n w;
      bytes_are = g ∙ ap (λ (l : List ℕ). l ++ end_mark (is_debug form))
          (f ∙ ap (λ (m : ℕ). a ++ spelled_from form spans keys (length runs) m runs) n
          ∙ ap (λ (l : List ℕ). l ++ spelled_from form spans keys (length runs) (cie_size * length keys) runs) e
          ∙ sym (flat_map-append spelled_entry (cie_entries (is_debug form) 0 keys)
          (fde_entries form spans keys (length runs) (cie_size * length keys) runs)));
    }

-- runs are in order, from an address on
above-of : (at lo : ℕ) (rs : Runs) (hi : ℕ) → at ≤ lo → IsWithin lo rs hi → IsAbove at rs
above-of at lo [] hi l w = tt
above-of at lo (r ∷ rs) hi l w = (far at lo r.start l w.0, above-of r.start (r.start + r.len) rs hi (near r.start r.len) w.2) where
  far : (a b c : ℕ) → a ≤ b → b ≤ c → a ≤ c
  far a b c h k = omega arith

  near : (a b : ℕ) → a ≤ a + b
  near a b = omega arith

pub group-above : (spans : List Span) (k : ℕ) (r : Run FrameAnswer) (rs rest : Runs) (hi : ℕ) → rest ≡ r ∷ rs
    → IsWithin 0 rest hi → All (Before spans) rest → IsAbove (start_of spans r) (take k rs)
group-above spans k r rs rest hi is w before =
    let both : IsWithin 0 (r ∷ rs) hi = subst (λ (l : Runs). IsWithin 0 l hi) is w in
    above-of (start_of spans r) (r.start + r.len) (take k rs) hi
    (least (start_of spans r) r.start r.len (All-head (Before spans) r rs (subst (All (Before spans)) is before)))
    (within-take k (r.start + r.len) rs hi both.2) where
      least : (s a n : ℕ) → s ≤ a → s ≤ a + n
      least s a n h = omega arith

pub all-end : (r : Run FrameAnswer) (rs rest : Runs) (hi : ℕ) → rest ≡ r ∷ rs → hi < 2 ^ 64 → IsWithin 0 rest hi
    → All EndFits (r ∷ rs)
all-end r rs rest hi is h w = ends-fit 0 (r ∷ rs) hi h (subst (λ (l : Runs). IsWithin 0 l hi) is w)
