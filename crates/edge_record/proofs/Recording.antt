-- The result of a recorded run, from the watched run and its text.
use Rattle.std.proofs.Common.{◌≡◌, ◌∙◌, ◌<◌, ℕ, Bool, true, false, List, [], ◌∷◌, Option, Some, None, refl, ap, sym, subst, arith}
use Rattle.std.specs.Prelude.{◌==◌, ◌&&◌, ◌||◌, if◌then◌else◌, option_and_then, slice_get}
use Rattle.std.specs.Io.KnownBytes.{append_known}
use Rattle.std.specs.List.{list_any}
use Rattle.std.specs.Option.{option_map_or}
use Rattle.std.proofs.lemmas.Bool.{eqb-true, and_parts}
use Rattle.std.proofs.lemmas.Map.Keys.{any_passes_from_place}
use Rattle.run_core.specs.Answers.{Answer}
use Rattle.run_core.specs.Answers as answer
use Rattle.run_core.specs.Inputs.{Outside, as_told}
use Rattle.run_core.proofs.Told.{append_known-nil, none_told, told, told_is}
use Rattle.run_core.proofs.Walking.{output-nil}
use Rattle.rv_code.specs.declared.cause.Cause.{Cause}
use Rattle.rv_code.specs.declared.placed.Func.{Func}
use Rattle.rv_code.specs.declared.placed.Block.{Block}
use Rattle.rv_code.specs.declared.placed.Placed.{Placed}
use Rattle.rv_code.specs.layout.FunctionLists.{AreLaidOut}
use Rattle.rv_code.specs.layout.Blocks.{inst_at}
use Rattle.rv_code.specs.layout.Flow.{action_at, is_call}
use Rattle.rv_code.specs.layout.ProgramCode.{is_code_address}
use Rattle.rv_code.specs.machine.Machine.{starts}
use Rattle.rv_code.specs.machine.Step.{ByteState}
use Rattle.rv_machine.specs.State.{state_of}
use Rattle.rv_machine.specs.declared.machine.Machine.{Machine}
use Rattle.elf_image.specs.declared.elf.Elf.{Elf}
use Rattle.edge_profile.specs.PairCounts.{Counted, count_among}
use Rattle.edge_profile.specs.Weights.{starts_at}
use Rattle.edge_profile.proofs.AscendingPairs.{are_pairs, ascending_pairs, positive_term}
use Rattle.edge_profile.proofs.LaidOut.{code_address-list_any}
use Rattle.edge_text.specs.EdgeText.{HasCodeEnds, IsEdgeText}
use Rattle.edge_text.proofs.SaidPairs.{says_pairs}
use Rattle.edge_record.specs.Moves.{Move}
use Rattle.edge_record.specs.RecordedRuns.{ByteMoves, IsRecorded, Records, RecordStops, steps_gone}
use Rattle.edge_record.specs.MoveCounts.{ends_at, is_counted, is_source, saves_at, taken, taken_by}
use Rattle.edge_record.specs.Texts.{HasText, IsFinished, IsTextOf, ran_out, told as text_told, untold}
use Rattle.edge_record.specs.WatchedRuns.{IsWatched, WatchesRun}
use Rattle.edge_record.proofs.Watching.{once}

-- Memory.

-- no step was done
pub nothing_done : (start : List ℕ → ByteState) (limit : ℕ) (outside : Outside) →
    ((input : List ℕ) → (start input).input ≡ input) → RecordStops start limit outside outside
nothing_done start limit outside reads = record {
  input = told outside.input.left;
  input_is = told_is outside.input.left;
  input_bytes = none_told outside.input.left;
  steps = 0;
  within = omega arith;
  trace = [];
  state = start (told outside.input.left);
  so_far = starts;
  left_is = told_is outside.input.left ∙ ap (as_told outside.input.left) (sym (reads (told outside.input.left)));
  taken_is = append_known-nil outside.output.taken ∙ ap (append_known outside.output.taken) (sym output-nil);
}

-- Sources are instructions.

any_weaker : {X : Type 0} (p q : X → Bool) (xs : List X) → ((x : X) → p x ≡ true → q x ≡ true) →
    list_any p xs ≡ true → list_any q xs ≡ true
any_weaker p q [] weaker any = any
any_weaker p q (x ∷ xs) weaker any = at (p x) refl any (any_weaker p q xs weaker)
  where
    at : (b : Bool) → p x ≡ b → (b || list_any p xs) ≡ true → (list_any p xs ≡ true → list_any q xs ≡ true) →
        (q x || list_any q xs) ≡ true
    at true here has later = rw (weaker x here) refl
    at false here has later = or_true (q x) (later has)
      where
        or_true : (b : Bool) {c : Bool} → c ≡ true → (b || c) ≡ true
        or_true true is = refl
        or_true false is = is

module _ (funcs : List Func) (a : ℕ) where
  last_is_code : (b : Block) → ends_at funcs a b ≡ true → list_any (λ f. starts_at f.insts.items a) funcs ≡ true
  last_is_code b ends = by_func (slice_get funcs b.func) refl
    where
      by_inst : (f : Func) → slice_get funcs b.func ≡ Some f → (o : Option Placed) → slice_get f.insts.items b.last ≡ o
          → option_map_or (λ p. p.addr == a) o false ≡ true → list_any (λ g. starts_at g.insts.items a) funcs ≡ true
      by_inst f is None none has = absurd (cc)
      by_inst f is (Some p) some has =
          any_passes_from_place (λ g. starts_at g.insts.items a) funcs b.func f is
          (any_passes_from_place (λ q. q.addr == a) f.insts.items b.last p some has)

      by_func : (o : Option Func) → slice_get funcs b.func ≡ o → list_any (λ f. starts_at f.insts.items a) funcs ≡ true
      by_func None is =
          let none : ends_at funcs a b ≡ false =
          ap (λ (o : Option Func). option_map_or (λ p. p.addr == a) (option_and_then (λ f. inst_at f b.last) o) false) is in
          absurd (cc)
      by_func (Some f) is =
          let here : ends_at funcs a b ≡ option_map_or (λ p. p.addr == a) (slice_get f.insts.items b.last) false
          = ap (λ (o : Option Func). option_map_or (λ p. p.addr == a) (option_and_then (λ g. inst_at g b.last) o) false) is in
          by_inst f is (slice_get f.insts.items b.last) refl (sym here ∙ ends)

  ends_are_code : (blocks : List Block) → list_any (λ b. ends_at funcs a b) blocks ≡ true →
      list_any (λ f. starts_at f.insts.items a) funcs ≡ true
  ends_are_code [] any = absurd (cc)
  ends_are_code (b ∷ blocks) any = at (ends_at funcs a b) refl any (ends_are_code blocks)
    where
      at : (t : Bool) → ends_at funcs a b ≡ t → (t || list_any (λ b. ends_at funcs a b) blocks) ≡ true
          → (list_any (λ b. ends_at funcs a b) blocks ≡ true → list_any (λ f. starts_at f.insts.items a) funcs ≡ true)
          → list_any (λ f. starts_at f.insts.items a) funcs ≡ true
      at true here has later = last_is_code b here
      at false here has later = later has

  saved : (f : Func) → saves_at f.insts.items a ≡ true → starts_at f.insts.items a ≡ true
  saved f saves =
      any_weaker (λ p. p.addr == a && is_call (action_at p)) (λ p. p.addr == a) f.insts.items
      (λ p both. (and_parts (p.addr == a) (is_call (action_at p)) both).0) saves

  source_is_code : (blocks : List Block) → is_source funcs blocks a ≡ true → is_code_address funcs a ≡ true
  source_is_code blocks source = code_address-list_any funcs a ∙ at (list_any (λ b. ends_at funcs a b) blocks) refl source
    where
      at : (t : Bool) → list_any (λ b. ends_at funcs a b) blocks ≡ t
          → (t || list_any (λ f. saves_at f.insts.items a) funcs) ≡ true → list_any (λ f. starts_at f.insts.items a) funcs ≡ true
      at true ends has = ends_are_code blocks ends
      at false ends has = any_weaker (λ f. saves_at f.insts.items a) (λ f. starts_at f.insts.items a) funcs saved has

-- The text.

all_hold : (b c d : Bool) → 0 < (if b && (c && d) then 1 else 0) → (b ≡ true) × ((c ≡ true) × (d ≡ true))
all_hold true true true some = (refl, (refl, refl))
all_hold true true false some = absurd (omega arith)
all_hold true false d some = absurd (omega arith)
all_hold false c d some = absurd (omega arith)

module _ (funcs : List Func) (blocks : List Block) (moves : List Move) where
  ends_of : (p : Counted) → 0 < taken funcs blocks moves p.0 p.1 → HasCodeEnds funcs p
  ends_of p some =
      let term = positive_term (once (is_counted funcs blocks) p.0 p.1) moves some in
      let m = term.item in
      let holds = all_hold (is_counted funcs blocks m) (m.0 == p.0) (m.1 == p.1) term.positive in
      let counted = and_parts (is_source funcs blocks m.0) (is_code_address funcs m.1) holds.0 in
      let from : m.0 ≡ p.0 = eqb-true m.0 p.0 holds.1.0 in
      let to : m.1 ≡ p.1 = eqb-true m.1 p.1 holds.1.1 in
      record {
        from = ap (is_code_address funcs) (sym from) ∙ source_is_code funcs m.0 blocks counted.0;
        to = ap (is_code_address funcs) (sym to) ∙ counted.1;
      }

  edge_text_is : (elf : Elf) → AreLaidOut funcs → (said : List Counted) (text : List ℕ)
      → ((from to : ℕ) → count_among from to said ≡ taken funcs blocks moves from to) → IsTextOf funcs said text
      → IsEdgeText elf funcs (taken funcs blocks moves) text
  edge_text_is elf laid said text counts is =
      let pairs = is.0 in
      let merged = is.1 in
      let same : (from to : ℕ) → count_among from to pairs ≡ taken funcs blocks moves from to =
      λ from to. merged.counts from to ∙ counts from to in
      let all = are_pairs pairs (ascending_pairs pairs merged.ordered) merged.positive in
      says_pairs funcs elf laid (taken funcs blocks moves) pairs text same merged.positive merged.ordered
      (λ p contained. let count = all.only p contained in
      ends_of p (let is = same p.0 p.1 in omega (arith, count.0, count.1, is)))
      is.2

-- The whole.

module _ (start : List ℕ → ByteState) (limit : ℕ) (before after : Outside) (elf : Elf) (funcs : List Func)
    (laid : AreLaidOut funcs)
    (blocks : List Block) (m now : Machine) (from : (input : List ℕ) → state_of m input ≡ start input) (counts : Move → Bool)
    (same : (x : Move) → counts x ≡ is_counted funcs blocks x) (said : List Counted) where
  stops_from : RecordStops (state_of m) limit before after → RecordStops start limit before after
  stops_from stops = subst (λ (s : List ℕ → ByteState). RecordStops s limit before after) (λ i input. from input i) stops

  recorded : (came : Answer Cause) (n : ℕ) (text : List ℕ) → IsWatched counts m now limit n before after said came
      → IsTextOf funcs said text → IsRecorded start limit before after elf funcs blocks n text came
  recorded came n text w is = record {
    run = record { machine = m; ends_as = now; starts = from; runs = w.runs };
    moves = w.moves;
    state = w.state;
    gone = subst (λ (s : ByteState). ByteMoves s (steps_gone came n) w.moves w.state) (from w.runs.input) w.gone;
    text_is = edge_text_is funcs blocks w.moves elf laid said text
        (λ x y. w.counts_are x y ∙ ap (λ (c : Move → Bool). taken_by c w.moves x y) (λ i move. same move i)) is;
  }

  by_text : (came : Answer Cause) (n : ℕ) (text : List ℕ) → WatchesRun counts m now limit n before after said came → HasText came
      → IsTextOf funcs said text → Records start limit before after elf funcs blocks n text came
  by_text answer.Going n text w comes is = recorded answer.Going n text w is
  by_text (answer.Ended status) n text w comes is = recorded (answer.Ended status) n text w is
  by_text (answer.Halted pc cause) n text w comes is = recorded (answer.Halted pc cause) n text w is
  by_text answer.ReadFault n text w comes is = absurd comes
  by_text answer.WriteFault n text w comes is = absurd comes
  by_text answer.Memory n text w comes is = absurd comes

  by_fault : (came : Answer Cause) (n : ℕ) (text : List ℕ) → WatchesRun counts m now limit n before after said came
      → (HasText came → ⊥) → text ≡ [] → Records start limit before after elf funcs blocks n text came
  by_fault answer.Going n text w comes empty = absurd (comes tt)
  by_fault (answer.Ended status) n text w comes empty = absurd (comes tt)
  by_fault (answer.Halted pc cause) n text w comes empty = absurd (comes tt)
  by_fault answer.ReadFault n text w comes empty = (record { machine = m; ends_as = now; starts = from; runs = w }, empty)
  by_fault answer.WriteFault n text w comes empty = (record { machine = m; ends_as = now; starts = from; runs = w }, empty)
  by_fault answer.Memory n text w comes empty = (stops_from w, empty)

  stops : (came : Answer Cause) (n : ℕ) → WatchesRun counts m now limit n before after said came → HasText came →
      RecordStops (state_of m) limit before after
  stops answer.Going n w comes =
      let ran = w.runs.answers.1 in
      record {
        input = w.runs.input;
        input_is = w.runs.input_is;
        input_bytes = w.runs.input_bytes;
        steps = n;
        within = omega (arith, w.runs.answers.0);
        trace = ran.trace;
        state = state_of now ran.rest;
        so_far = ran.so_far;
        left_is = ran.left_is;
        taken_is = ran.taken_is;
      }
  stops (answer.Ended status) n w comes =
      let ran = w.runs.answers.1 in
      record {
        input = w.runs.input;
        input_is = w.runs.input_is;
        input_bytes = w.runs.input_bytes;
        steps = ran.run.before;
        within = omega (arith, w.runs.answers.0, ran.run.last);
        trace = ran.trace;
        state = ran.run.state;
        so_far = ran.run.so_far;
        left_is = ran.left_is ∙ ap (λ (s : ByteState). as_told before.input.left s.input) (sym ran.state_is);
        taken_is = ran.taken_is;
      }
  stops (answer.Halted pc cause) n w comes =
      let ran = w.runs.answers.1 in
      record {
        input = w.runs.input;
        input_is = w.runs.input_is;
        input_bytes = w.runs.input_bytes;
        steps = n;
        within = omega (arith, w.runs.answers.0);
        trace = ran.trace;
        state = ran.halts.state;
        so_far = ran.halts.so_far;
        left_is = ran.left_is ∙ ap (λ (s : ByteState). as_told before.input.left s.input) (sym ran.state_is);
        taken_is = ran.taken_is;
      }
  stops answer.ReadFault n w comes = absurd comes
  stops answer.WriteFault n w comes = absurd comes
  stops answer.Memory n w comes = absurd comes

  pub finished : (came : Answer Cause) (n : ℕ) (given : Answer Cause) (k : ℕ) (text : List ℕ)
      → WatchesRun counts m now limit n before after said came
      → IsFinished funcs said came n given k text → Records start limit before after elf funcs blocks k text given
  finished came n given k text w (text_told comes is steps text_is) =
      subst (λ (a : Answer Cause). Records start limit before after elf funcs blocks k text a) is
      (subst (λ (j : ℕ). Records start limit before after elf funcs blocks j text came) steps
      (by_text came n text w comes text_is))
  finished came n given k text w (untold comes is steps empty) =
      subst (λ (a : Answer Cause). Records start limit before after elf funcs blocks k text a) is
      (subst (λ (j : ℕ). Records start limit before after elf funcs blocks j text came) steps
      (by_fault came n text w comes empty))
  finished came n given k text w (ran_out comes is empty) =
      subst (λ (a : Answer Cause). Records start limit before after elf funcs blocks k text a) (sym is)
      (stops_from (stops came n w comes), empty)

-- memory ran out before the first step
pub unrecorded : (start : List ℕ → ByteState) (limit : ℕ) (outside : Outside) (elf : Elf) (funcs : List Func)
    (blocks : List Block) (n : ℕ) (text : List ℕ)
    (given : Answer Cause) → ((input : List ℕ) → (start input).input ≡ input) → given ≡ answer.Memory → text ≡ []
    → Records start limit outside outside elf funcs blocks n text given
unrecorded start limit outside elf funcs blocks n text given reads is empty =
    subst (λ (a : Answer Cause). Records start limit outside outside elf funcs blocks n text a) (sym is)
    (nothing_done start limit outside reads, empty)
