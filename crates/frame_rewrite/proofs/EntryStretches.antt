-- The entries of a written table are the longest stretches of new code of the entries that were read, if no instruction is
-- in two of these.
use Rattle.std.proofs.Common.{ℕ, ◌+◌, ◌-◌, ◌≤◌, ◌<◌, ◌≡◌, ◌&&◌, List, Option, Some, None, leb, ltb, Bool, true, false}
use Rattle.std.proofs.Common.{refl, sym, ◌∙◌, ap, subst, arith, length, ⊎_elim}
use Rattle.std.specs.Prelude.{All, Contains, IsSome, IsTrue, option_and_then}
use Rattle.std.specs.List.{find}
use Rattle.std.proofs.lemmas.Bool.{cases_lt}
use Rattle.std.proofs.lemmas.Bool.Decides.{nat_tests}
use Rattle.std.proofs.lemmas.List.Elements.{All-contains}
use Rattle.std.proofs.lemmas.Option.{same_Some}
use Rattle.rb_bytes.proofs.ListLemmas.{all_of}
use Rattle.rb_bytes.proofs.Searches.{find-found}
use Rattle.addr_map.specs.declared.span.Span.{Span}
use Rattle.addr_map.specs.Spans.{new}
use Rattle.answer_runs.specs.declared.range.Range.{Range}
use Rattle.answer_runs.specs.declared.run.Run.{Run}
use Rattle.answer_runs.specs.AnswerRuns.{IsWithin, run_at, carried}
use Rattle.answer_runs.specs.CarriedAnswers.{Agree}
use Rattle.cfi_rows.specs.Entries.{Fde, is_in_range, range_of}
use Rattle.frame_rewrite.specs.declared.form.Form.{Form}
use Rattle.frame_rewrite.specs.CarriedFrames.{IsCarriedFrame}
use Rattle.frame_rewrite.specs.FrameAnswers.{FrameAnswer, answer_of, answer_at}
use Rattle.frame_rewrite.specs.SpelledFits.{IsReached}
use Rattle.frame_rewrite.specs.SpelledFrames.{start_of}
use Rattle.frame_rewrite.specs.Stretches.{AreApartAt, IsOf, IsStretchOf}
use Rattle.frame_rewrite.specs.Tables.{MovesWhole}
use Rattle.frame_rewrite.proofs.AnswersBack.{Continues, ranged, reached-before, some-made}
use Rattle.frame_rewrite.proofs.FirstRows.{Begins}
use Rattle.frame_rewrite.proofs.Reached.{AreWhole, Answered, answered-first, holds-answer, owned-answer, then-found}
use Rattle.frame_rewrite.proofs.RunStretches.{IsGroup, groups-made, first-cut}
use Rattle.frame_rewrite.proofs.TableBack.{made}

abbrev Runs : Type 0
Runs = List (Run FrameAnswer)

some-of : {A : Type 0} (o : Option A) → IsSome o → (a : A) × (o ≡ Some a)
some-of None s = absurd (cc)
some-of (Some a) s = (a, refl)

-- two longest stretches of an entry that share an address are one
one-stretch : (spans : List Span) (f : Fde) (r s : Range) (p : ℕ) → IsStretchOf spans f r → IsStretchOf spans f s
    → (leb r.low p && ltb p r.high) ≡ true → (leb s.low p && ltb p s.high) ≡ true → r ≡ s
one-stretch spans f r s p x y a b =
    let l : r.low ≡ s.low = equal r.low s.low (starts r s x y a b) (starts s r y x b a) in
    let h : r.high ≡ s.high = equal r.high s.high (ends r s x y a b) (ends s r y x b a) in
    λ i. record { low = l i; high = h i } where
      equal : (m n : ℕ) → (m < n → ⊥) → (n < m → ⊥) → m ≡ n
      equal m n u v = ⊎_elim (λ (z : m < n). absurd (u z))
          (λ (z : n ≤ m). ⊎_elim (λ (k : n < m). absurd (v k)) (λ (k : m ≤ n). omega arith) (cases_lt n m)) (cases_lt m n)

      inside : (l q h : ℕ) → l ≤ q → q < h → (leb l q && ltb q h) ≡ true
      inside l q h u v = grind (arith, nat_tests)

      starts : (r s : Range) → IsStretchOf spans f r → IsStretchOf spans f s → (leb r.low p && ltb p r.high) ≡ true
          → (leb s.low p && ltb p s.high) ≡ true → r.low < s.low → ⊥
      starts r s x y a b less =
          let u = ranged r.low p r.high a in
          let v = ranged s.low p s.high b in
          let up : s.low - 1 + 1 ≡ s.low = omega arith in
          y.before (s.low - 1) up (x.all (s.low - 1) (inside r.low (s.low - 1) r.high (omega arith) (last s.low r.high v.0 u.1))) where
            last : (n h : ℕ) → n ≤ p → p < h → n - 1 < h
            last n h k m = omega arith

      ends : (r s : Range) → IsStretchOf spans f r → IsStretchOf spans f s → (leb r.low p && ltb p r.high) ≡ true
          → (leb s.low p && ltb p s.high) ≡ true → r.high < s.high → ⊥
      ends r s x y a b less =
          let u = ranged r.low p r.high a in
          let v = ranged s.low p s.high b in
          x.after (y.all r.high (inside s.low r.high s.high (from s.low r.high v.0 u.1) less)) where
            from : (n h : ℕ) → n ≤ p → p < h → n ≤ h
            from n h k m = omega arith

module _ (marks : Fde → Bool) (list : List Fde) (spans : List Span) (runs : Runs) (hi : ℕ) (within : IsWithin 0 runs hi)
    (answers : (p : ℕ) → run_at runs p ≡ carried (answer_at marks list) spans p) (whole : AreWhole marks list spans)
    (begins : All Begins list) (reach : All (IsReached spans runs) runs) (once : AreApartAt spans list) where
  -- a range is a longest stretch of an entry
  abbrev pub IsStretch : ℕ → ℕ → Type 0
  IsStretch low high = (f : Fde) × Contains list f × IsStretchOf spans f (record { low = low; high = high })

  -- the facts about a byte that an entry is asked for
  record Said (f : Fde) (p : ℕ) : Type 0 where
    pub run : Run FrameAnswer
    pub at : run_at runs p ≡ Some run.answer
    pub answer : Answered marks list spans p run.answer
    pub is : answer.fde ≡ f

  said : (f : Fde) (p : ℕ) → Contains list f → IsOf spans f p → Said f p
  said f p c (o, owned, inside) =
      let (a, e) = some-of (answer_at marks list o) (holds-answer marks list o f begins c inside) in
      let at : carried (answer_at marks list) spans p ≡ Some a = ap (option_and_then (answer_at marks list)) owned ∙ e in
      let x = owned-answer marks list spans p a at in
      let same : x.span.input ≡ o = same_Some x.span.input o (sym x.owned ∙ owned) in
      record {
        run = record { start = p; len = 1; answer = a };
        at = answers p ∙ at;
        answer = x;
        is = once x.span x.fde f x.in_map x.in_list c x.in_range (subst (λ (n : ℕ). is_in_range f n ≡ true) (sym same) inside);
      }

  -- answers of entries with one start are of one entry
  same-entry : (p q : ℕ) (a b : FrameAnswer) (x : Answered marks list spans p a) (y : Answered marks list spans q b)
      → a.start ≡ b.start → y.fde ≡ x.fde
  same-entry p q a b x y e =
      let s : x.fde.start ≡ y.fde.start = sym x.start ∙ e ∙ y.start in
      ⊎_elim
      (λ (l : y.fde.end < x.fde.end). sym (once y.span x.fde y.fde y.in_map x.in_list y.in_list
      (wider y.fde.start y.fde.end x.fde.start x.fde.end y.span.input y.in_range s (below y.fde.end x.fde.end l)) y.in_range))
      (λ (l : x.fde.end ≤ y.fde.end). sym (once x.span x.fde y.fde x.in_map x.in_list y.in_list x.in_range
      (wider x.fde.start x.fde.end y.fde.start y.fde.end x.span.input x.in_range (sym s) l)))
      (cases_lt y.fde.end x.fde.end) where
        below : (m n : ℕ) → m < n → m ≤ n
        below m n l = omega arith

        wider : (s e t u o : ℕ) → (leb s o && ltb o e) ≡ true → t ≡ s → e ≤ u → (leb t o && ltb o u) ≡ true
        wider s e t u o h k l =
            let z = ranged s o e h in
            inside t o u (low t s z.0 k) (high o e u z.1 l) where
              low : (t s : ℕ) → s ≤ o → t ≡ s → t ≤ o
              low t s a b = omega arith

              high : (o e u : ℕ) → o < e → e ≤ u → o < u
              high o e u a b = omega arith

              inside : (t o u : ℕ) → t ≤ o → o < u → (leb t o && ltb o u) ≡ true
              inside t o u a b = grind (arith, nat_tests)

  -- answers of one entry go on in one another's
  like : (p q : ℕ) (r s : Run FrameAnswer) (x : Answered marks list spans p r.answer)
      (y : Answered marks list spans q s.answer) → x.fde ≡ y.fde → Continues r s
  like p q r s x y e = record {
    marked = x.marked ∙ ap marks e ∙ sym y.marked;
    start = x.start ∙ ap (λ (f : Fde). f.start) e ∙ sym y.start;
    table = x.table ∙ ap (λ (f : Fde). f.table) e ∙ sym y.table;
    ra = x.ra ∙ ap (λ (f : Fde). f.cie.ra) e ∙ sym y.ra;
    handler = x.handler ∙ ap (λ (f : Fde). f.cie.augmentation.handler) e ∙ sym y.handler;
    indirect = x.indirect ∙ ap (λ (f : Fde). f.cie.augmentation.indirect) e ∙ sym y.indirect;
    signal = x.signal ∙ ap (λ (f : Fde). f.cie.augmentation.signal) e ∙ sym y.signal;
  }

  module _ (h : Run FrameAnswer) (end : ℕ) (c : Contains runs h) (g : IsGroup runs h end) where
    first : Answered marks list spans h.start h.answer
    first = answered-first marks list spans runs hi within answers h c

    plain-start : h.answer.marked ≡ false → start_of spans h ≡ h.start
    plain-start m = rw m refl

    new-start : h.answer.marked ≡ true → start_of spans h ≡ new spans h.answer.start
    new-start m = rw m refl

    marked-start : h.answer.marked ≡ true → start_of spans h ≡ new spans (first).fde.start
    marked-start m = new-start m ∙ ap (new spans) (first).start

    moves : h.answer.marked ≡ true → MovesWhole spans (first).fde
    moves m = All-contains (λ f. IsTrue (marks f) → MovesWhole spans f) list (first).fde whole (first).in_list
        (sym (first).marked ∙ m)

    -- the bytes of its runs
    own-byte : (p : ℕ) → h.start ≤ p → p < end → IsOf spans (first).fde p
    own-byte p a b =
        let z = g.bytes p a b in
        let y = owned-answer marks list spans p z.0.answer (sym (answers p) ∙ z.1) in
        let same : y.fde ≡ (first).fde = same-entry h.start p h.answer z.0.answer first y z.2.start in
        (y.span.input, y.owned, subst (λ (f : Fde). is_in_range f y.span.input ≡ true) same y.in_range)

    -- those before them, if its entry is marked
    own-before : (p : ℕ) → (b : Bool) → h.answer.marked ≡ b → start_of spans h ≤ p → p < h.start → IsOf spans (first).fde p
    own-before p true m a b = (moves m).no_gap (first).span p (first).in_map (first).in_range
        (subst (λ (n : ℕ). n ≤ p) (marked-start m) a) (held (first).span.out (first).span.len h.start b (first).has) where
          held : (o n s : ℕ) → p < s → (leb o s && ltb s (o + n)) ≡ true → p < o + n
          held o n s l t = let e = (ranged o s (o + n) t).1 in omega arith
    own-before p false m a b = absurd (none (start_of spans h) h.start (plain-start m) a b) where
      none : (s n : ℕ) → s ≡ n → s ≤ p → p < n → ⊥
      none s n e x y = omega arith

    none-before : (p : ℕ) → (b : Bool) → h.answer.marked ≡ b → p + 1 ≡ start_of spans h → IsOf spans (first).fde p → ⊥
    none-before p true m is o =
        let z = said (first).fde p (first).in_list o in
        let low = (moves m).from_start z.answer.span z.answer.in_map
        (subst (λ (f : Fde). is_in_range f z.answer.span.input ≡ true) z.is z.answer.in_range) in
        far (start_of spans h) (new spans (first).fde.start) z.answer.span.out z.answer.span.len is (marked-start m) low
        z.answer.has where
          far : (s n o l : ℕ) → p + 1 ≡ s → s ≡ n → n ≤ o → (leb o p && ltb p (o + l)) ≡ true → ⊥
          far s n o l a b d t = let e = (ranged o p (o + l) t).0 in omega arith
    none-before p false m is o =
        let z = said (first).fde p (first).in_list o in
        g.before z.run p (is ∙ plain-start m) z.at (like p h.start z.run h z.answer first z.is)

    pub group-stretch : start_of spans h ≤ h.start → IsStretch (start_of spans h) end
    group-stretch before = (
      (first).fde,
      (first).in_list,
      record {
        some = less (start_of spans h) h.start before g.some;
        all = λ p t. let z = ranged (start_of spans h) p end t in
            ⊎_elim (λ (l : p < h.start). own-before p h.answer.marked refl z.0 l) (λ (l : h.start ≤ p). own-byte p l z.1)
            (cases_lt p h.start);
        before = λ p is o. none-before p h.answer.marked refl is o;
        after = λ o. let z = said (first).fde end (first).in_list o in
            g.behind z.run z.at (like h.start end h z.run first z.answer (sym z.is));
      },
    ) where
      less : (s n : ℕ) → s ≤ n → n < end → s < end
      less s n x y = omega arith

  -- each entry that is made is a longest stretch
  pub each-made : (form : Form) (n place : ℕ) → All (λ (f : Fde). IsStretch f.start f.end) (made form spans n place runs)
  each-made form n place =
      groups-made IsStretch spans runs
      (λ h end c g. group-stretch h end c g (All-contains (IsReached spans runs) runs h reach c).before)
      form n place 0 hi runs within (λ p le. refl) (all_of (Contains runs) runs (λ r c. c)) (first-cut runs hi within)

  -- and each of these is made
  pub every-made : (form : Form) (place : ℕ) (f : Fde) (r : Range) → Contains list f → IsStretchOf spans f r
      → (g : Fde) × Contains (made form spans (length runs) place runs) g × (range_of g ≡ r)
  every-made form place f r c x =
      let z = said f r.low c (x.all r.low (start r.low r.high x.some)) in
      let agree = some-made form marks spans (length runs) place 0 hi runs r.low z.run.answer (full (length runs)) within
      (reached-before spans runs runs reach) z.at in
      let (a, e) = agreed (Some z.run.answer) (answer_at marks (made form spans (length runs) place runs) r.low) agree refl in
      let (g, found, told) = then-found (λ k. answer_of marks k r.low)
      (find (λ k. is_in_range k r.low) (made form spans (length runs) place runs)) a e in
      let (holds, there) = find-found (λ k. is_in_range k r.low) (made form spans (length runs) place runs) g found in
      let (k, in_list, y) = All-contains (λ (f : Fde). IsStretch f.start f.end) (made form spans (length runs) place runs) g
      (each-made form (length runs) place) there in
      let (o, owned, inside) = y.all r.low holds in
      let same : z.answer.span.input ≡ o = same_Some z.answer.span.input o (sym z.answer.owned ∙ owned) in
      let one : z.answer.fde ≡ k = once z.answer.span z.answer.fde k z.answer.in_map z.answer.in_list in_list z.answer.in_range
      (subst (λ (n : ℕ). is_in_range k n ≡ true) (sym same) inside) in (
        g,
        there,
        one-stretch spans f (range_of g) r r.low
            (subst (λ (x : Fde). IsStretchOf spans x (range_of g)) (sym one ∙ z.is) y) x holds (start r.low r.high x.some),
      ) where
        full : (n : ℕ) → n ≤ n
        full n = omega arith

        start : (l h : ℕ) → l < h → (leb l l && ltb l h) ≡ true
        start l h x = grind (arith, nat_tests)

        agreed : (o q : Option FrameAnswer) → Agree (IsCarriedFrame spans) o q → {b : FrameAnswer} → o ≡ Some b
            → (a : FrameAnswer) × (q ≡ Some a)
        agreed (Some b) (Some a) x e = (a, refl)
        agreed (Some b) None x e = absurd x
        agreed None q x e = absurd (cc)
