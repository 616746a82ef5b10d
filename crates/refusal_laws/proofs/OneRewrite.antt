-- A file is refused with a profile for at most one fault, and for none if it is rewritten.
use Rattle.std.proofs.Common.{◌≡◌, ◌∙◌, ◌<◌, ◌≤◌, refl, sym, subst, ℕ, List, [], Some, None, arith}
use Rattle.std.specs.List.{filter_map, range_with_len}
use Rattle.std.specs.Prelude.{length, slice_index_or}
use Rattle.rb_bytes.specs.Fault.{fault_at}
use Rattle.rb_bytes.specs.FirstFault.{IsAnswered, IsFree}
use Rattle.rb_bytes.specs.declared.fault.Fault.{Fault}
use Rattle.rb_bytes.specs.declared.fault.FaultKind.{FaultKind}
use Rattle.rb_bytes.specs.declared.fault.FaultKind.TheVariants as fault
use Rattle.rb_bytes.specs.declared.fault.Refusal.TheVariants as refusal
use Rattle.rb_bytes.specs.declared.limit.TheConstants.{FILE_BYTES, PROFILE_BYTES, WEIGHTS}
use Rattle.rv_code.specs.declared.layout.Chains.{Chains}
use Rattle.rv_code.specs.layout.Edges.{AreEdges, IsEdgeIn}
use Rattle.addr_map.specs.declared.span.Span.{Span}
use Rattle.edge_profile.specs.PairCounts.{ArePairs, Counted, IsCountOf, IsCountedBefore}
use Rattle.block_layout.specs.Laws.{PartsLaw}
use Rattle.block_layout.specs.Parts.{AreChains}
use Rattle.func_place.specs.Faults.{HasPlacementFault}
use Rattle.program.specs.Limits.{IsCodeTooLarge, IsLimitFault, file_limit}
use Rattle.program.specs.Program.{Program}
use Rattle.program.specs.Refusals.{IsUnreadable}
use Rattle.program.specs.Room.{no_program_room}
use Rattle.table_set.specs.TableLimits.{IsTooHeavy}
use Rattle.bolt_core.specs.Limits.{IsTooLarge, large_code as code_too_large}
use Rattle.bolt_core.proofs.PassedLimits.{at_code}
use Rattle.bolt_core.specs.ProfileOrder.{ArePartsBy, cold_start, cold_starts, counts_of}
use Rattle.bolt_core.specs.Refusals.{CanMove, CanStand, Fit, IsInput, IsRefused, large_code, long_file, long_profile, misplaced}
use Rattle.bolt_core.specs.Refusals.{no_place, not_carried, too_heavy, too_large, unreadable}
use Rattle.bolt_core.specs.RewriteCounts.{RewriteCounts}
use Rattle.bolt_core.specs.RewrittenFile.{IsRewritten}
use Rattle.bolt_core.specs.TableFaults.{HasCarryingFault}
use Rattle.cli_run.proofs.SymbolRunAnswering.{readable}
use Rattle.refusal_laws.specs.RefusalLaw.{IsOfLayout}
use Rattle.refusal_laws.proofs.OneFault.{AreApart, none_answered, one_answered, one_limit}
use Rattle.refusal_laws.proofs.OneLook.{no_place as nowhere}
use Rattle.refusal_laws.proofs.OneOrder.{one_listing, one_pair_list, pair_strict}
use Rattle.refusal_laws.proofs.OneProgram.{one_unreadable}
use Rattle.refusal_laws.proofs.SameLimits.{same_weights}
use Rattle.refusal_laws.proofs.SamePrograms.{IsSameProgram, answered_by, can_move, can_stand, carrying_by, exchanged, free_by, large_by}
use Rattle.refusal_laws.proofs.SamePrograms.{parts_by, placing_by, same_cold, same_program, same_room, too_large_by}

-- The lists that a profile and a program make are one.

same_pairs : (counts : ℕ → ℕ → ℕ) (xs ys : List Counted) → ArePairs counts xs → ArePairs counts ys → xs ≡ ys
same_pairs counts = one_listing IsCountedBefore (λ p q. pair_strict (p.0, p.1) (q.0, q.1)) (IsCountOf counts)

module _ (x : Program) (profile : List ℕ) where
  same_edges : (xs ys : List (ℕ × ℕ)) → AreEdges x.code.funcs x.code.cells x.blocks xs →
      AreEdges x.code.funcs x.code.cells x.blocks ys → xs ≡ ys
  same_edges = one_pair_list (IsEdgeIn x.code.funcs x.code.cells x.blocks)

  -- the cold parts of the functions, and where they start
  record IsColdBy (cold : List ℕ) : Type 0 where
    pub pairs : List Counted
    pub parts : Chains
    pub are : ArePartsBy x profile pairs parts
    pub cold_is : cold ≡ cold_starts x.code.funcs x.blocks parts

  one_cold : PartsLaw → (cold cold' : List ℕ) → IsColdBy cold → IsColdBy cold' → cold ≡ cold'
  one_cold law cold cold' one other =
      let counts = counts_of x profile in
      let pairs = same_pairs counts one.pairs other.pairs one.are.pairs_are other.are.pairs_are in
      let edges = same_edges one.are.edges other.are.edges one.are.edges_are other.are.edges_are in
      let moved = subst (λ (es : List (ℕ × ℕ)). AreChains counts other.pairs x.code.funcs x.blocks es one.parts) edges
      (subst (λ (ps : List Counted). AreChains counts ps x.code.funcs x.blocks one.are.edges one.parts) pairs one.are.chains) in
      let same = law counts other.pairs x.code.funcs x.blocks other.are.edges one.parts other.parts moved other.are.chains in
      let starts : cold_starts x.code.funcs x.blocks one.parts ≡ cold_starts x.code.funcs x.blocks other.parts =
      λ i. filter_map (λ f. cold_start x.code.funcs x.blocks (slice_index_or (same.0 i) f []) (slice_index_or (same.1 i) f []))
      (range_with_len 0 (length x.code.funcs)) in
      one.cold_is ∙ starts ∙ sym other.cold_is

  abbrev PassesCode : ℕ → Type 0
  PassesCode = IsCodeTooLarge x.elf.file.now x.code.funcs

  abbrev Passes : List ℕ → ℕ → Type 0
  Passes cold = IsTooLarge x.elf x.code.funcs cold

  -- the limit for which it is refused: one on its code, another one, or one on the weight of a table
  data Limit (f : Fault) : Type 0 where
    code : IsLimitFault PassesCode f → Limit f
    other : (cold : List ℕ) → IsColdBy cold → IsLimitFault (Passes cold) f → Limit f
    weight : (cold : List ℕ) → IsColdBy cold → ((place : ℕ) → Passes cold place → ⊥) → f ≡ fault_at fault.TooLarge WEIGHTS → Limit f

  code_and_other : (f g : Fault) (cold : List ℕ) → IsLimitFault PassesCode f → IsLimitFault (Passes cold) g → f ≡ g
  code_and_other f g cold one more =
      one_limit (Passes cold) (Passes cold) (λ p at. at) (λ p at. at) f g
      (at_code x.elf x.code.funcs cold (refusal.Fault f) one) more

  passes_by : PartsLaw → (cold cold' : List ℕ) → IsColdBy cold → IsColdBy cold' → (p : ℕ) → Passes cold p → Passes cold' p
  passes_by law cold cold' is is' p = subst (λ (c : List ℕ). Passes c p) (one_cold law cold cold' is is')

  one_limit_of : PartsLaw → (f g : Fault) → Limit f → Limit g → f ≡ g
  one_limit_of law f g (code is) (code is') = one_limit PassesCode PassesCode (λ p at. at) (λ p at. at) f g is is'
  one_limit_of law f g (code is) (other cold of is') = code_and_other f g cold is is'
  one_limit_of law f g (code is) (weight cold of fits is') = absurd (fits is.place (code_too_large is.first.present))
  one_limit_of law f g (other cold of is) (code is') = sym (code_and_other g f cold is' is)
  one_limit_of law f g (other cold of is) (other cold' of' is') =
      one_limit (Passes cold) (Passes cold') (passes_by law cold cold' of of') (passes_by law cold' cold of' of) f g is is'
  one_limit_of law f g (other cold of is) (weight cold' of' fits is') =
      absurd (fits is.place (passes_by law cold cold' of of' is.place is.first.present))
  one_limit_of law f g (weight cold of fits is) (code is') = absurd (fits is'.place (code_too_large is'.first.present))
  one_limit_of law f g (weight cold of fits is) (other cold' of' is') =
      absurd (fits is'.place (passes_by law cold' cold of' of is'.place is'.first.present))
  one_limit_of law f g (weight cold of fits is) (weight cold' of' fits' is') = is ∙ sym is'

  abbrev Placing : FaultKind → ℕ → Type 0
  Placing = HasPlacementFault x.code.funcs x.blocks

  abbrev Carrying : FaultKind → ℕ → Type 0
  Carrying = HasCarryingFault x.elf

  placing_apart : AreApart Placing
  placing_apart place bad bare = bad

  carrying_apart : AreApart Carrying
  carrying_apart place bad bare = nowhere place bad

  -- why a file that was read as this program is refused
  data Stage (f : Fault) : Type 0 where
    placing : IsAnswered Placing f → Stage f
    carrying : IsFree Placing → IsAnswered Carrying f → Stage f
    room : CanMove x → no_program_room x ≡ Some f → Stage f
    limit : CanStand x → Limit f → Stage f

  some_none : (f : Fault) → no_program_room x ≡ Some f → no_program_room x ≡ None → ⊥
  some_none f is none = absurd (cc)

  some_some : (f g : Fault) → no_program_room x ≡ Some f → no_program_room x ≡ Some g → f ≡ g
  some_some f g is is' = cc

  one_stage : PartsLaw → (f g : Fault) → Stage f → Stage g → f ≡ g
  one_stage law f g (placing is) (placing is') = one_answered Placing placing_apart f g is is'
  one_stage law f g (placing is) (carrying free is') = absurd (none_answered Placing f is free)
  one_stage law f g (placing is) (room moves is') = absurd (none_answered Placing f is moves.placed)
  one_stage law f g (placing is) (limit stands is') = absurd (none_answered Placing f is stands.moves.placed)
  one_stage law f g (carrying free is) (placing is') = absurd (none_answered Placing g is' free)
  one_stage law f g (carrying free is) (carrying free' is') = one_answered Carrying carrying_apart f g is is'
  one_stage law f g (carrying free is) (room moves is') = absurd (none_answered Carrying f is moves.carried)
  one_stage law f g (carrying free is) (limit stands is') = absurd (none_answered Carrying f is stands.moves.carried)
  one_stage law f g (room moves is) (placing is') = absurd (none_answered Placing g is' moves.placed)
  one_stage law f g (room moves is) (carrying free is') = absurd (none_answered Carrying g is' moves.carried)
  one_stage law f g (room moves is) (room moves' is') = some_some f g is is'
  one_stage law f g (room moves is) (limit stands is') = absurd (some_none f is stands.room)
  one_stage law f g (limit stands is) (placing is') = absurd (none_answered Placing g is' stands.moves.placed)
  one_stage law f g (limit stands is) (carrying free is') = absurd (none_answered Carrying g is' stands.moves.carried)
  one_stage law f g (limit stands is) (room moves is') = absurd (some_none g is' stands.room)
  one_stage law f g (limit stands is) (limit stands' is') = one_limit_of law f g is is'

-- A reason is one for each reading of the file.

limit_fault_by : (P Q : ℕ → Type 0) → ((p : ℕ) → P p → Q p) → ((p : ℕ) → Q p → P p) → (f : Fault) → IsLimitFault P f → IsLimitFault Q f
limit_fault_by P Q to from f is = record {
  place = is.place;
  first = record { present = to is.place is.first.present; least = λ place has. is.first.least place (from place has) };
  fault_is = is.fault_is;
}

module _ (x y : Program) (s : IsSameProgram x y) (profile : List ℕ) where
  abbrev backward : IsSameProgram y x
  backward = exchanged x y s

  cold_by : (cold : List ℕ) → IsColdBy x profile cold → IsColdBy y profile cold
  cold_by cold is = record {
    pairs = is.pairs;
    parts = is.parts;
    are = parts_by x y s profile is.pairs is.parts is.are;
    cold_is = is.cold_is ∙ same_cold x y s is.parts;
  }

  limit_by : (f : Fault) → Limit x profile f → Limit y profile f
  limit_by f (code is) =
      code (limit_fault_by (PassesCode x profile) (PassesCode y profile) (large_by x y s) (large_by y x backward) f is)
  limit_by f (other cold of is) =
      other cold (cold_by cold of)
      (limit_fault_by (Passes x profile cold) (Passes y profile cold) (too_large_by x y s cold) (too_large_by y x backward cold) f is)
  limit_by f (weight cold of fits is) =
      weight cold (cold_by cold of) (λ place passes. fits place (too_large_by y x backward cold place passes)) is

  stage_by : (f : Fault) → Stage x profile f → Stage y profile f
  stage_by f (placing is) =
      placing (answered_by (Placing x profile) (Placing y profile) (placing_by x y s) (placing_by y x backward) f is)
  stage_by f (carrying free is) =
      carrying (free_by (Placing x profile) (Placing y profile) (placing_by x y s) (placing_by y x backward) free)
      (answered_by (Carrying x profile) (Carrying y profile) (carrying_by x y s) (carrying_by y x backward) f is)
  stage_by f (room moves is) = room (can_move x y s moves) (sym (same_room x y s) ∙ is)
  stage_by f (limit stands is) = limit (can_stand x y s stands) (limit_by f is)

-- Why a file is refused.
data Reason (file profile : List ℕ) (f : Fault) : Type 0 where
  file_long : file_limit < length file → f ≡ fault_at fault.TooLarge FILE_BYTES → Reason file profile f
  profile_long : length file ≤ file_limit → file_limit < length profile → f ≡ fault_at fault.TooLarge PROFILE_BYTES →
      Reason file profile f
  not_read : Fit file profile → IsUnreadable file f → Reason file profile f
  staged : (x : Program) → IsInput file profile x → Stage x profile f → Reason file profile f

module _ (file profile : List ℕ) where
  reason_of : (f : Fault) → IsRefused file profile f → Reason file profile f
  reason_of f (long_file long is) = file_long long is
  reason_of f (long_profile fits long is) = profile_long fits long is
  reason_of f (unreadable fit is) = not_read fit is
  reason_of f (misplaced x input has) = staged x input (placing has)
  reason_of f (not_carried x input placed has) = staged x input (carrying placed has)
  reason_of f (no_place x input moves is) = staged x input (room moves is)
  reason_of f (large_code x input stands is) = staged x input (limit stands (code is))
  reason_of f (too_large x input stands pairs parts are is) =
      staged x input (limit stands
      (other (cold_starts x.code.funcs x.blocks parts) (record { pairs = pairs; parts = parts; are = are; cold_is = refl }) is))
  reason_of f (too_heavy x input stands pairs parts fits order ordered laid made are heavy is) =
      staged x input (limit stands
      (weight (cold_starts x.code.funcs x.blocks parts)
      (record { pairs = pairs; parts = parts; are = ordered.parts_are; cold_is = refl }) fits is))

  read : (f : Fault) → IsUnreadable file f → (x : Program) → IsInput file profile x → ⊥
  read f is x input = readable file f is x.elf input.program.faultless

  one_reason : PartsLaw → (f g : Fault) → Reason file profile f → Reason file profile g → f ≡ g
  one_reason law f g (file_long long is) (file_long long' is') = is ∙ sym is'
  one_reason law f g (file_long long is) (profile_long fits long' is') = absurd (omega (arith, long, fits))
  one_reason law f g (file_long long is) (not_read fit is') = let fits = fit.file_fits in absurd (omega (arith, long, fits))
  one_reason law f g (file_long long is) (staged x input is') =
      let fits = input.program.faultless.plain.fits in absurd (omega (arith, long, fits))
  one_reason law f g (profile_long fits long is) (file_long long' is') = absurd (omega (arith, long', fits))
  one_reason law f g (profile_long fits long is) (profile_long fits' long' is') = is ∙ sym is'
  one_reason law f g (profile_long fits long is) (not_read fit is') = let fits' = fit.profile_fits in absurd (omega (arith, long, fits'))
  one_reason law f g (profile_long fits long is) (staged x input is') =
      let fits' = input.profile_fits in absurd (omega (arith, long, fits'))
  one_reason law f g (not_read fit is) (file_long long is') = let fits = fit.file_fits in absurd (omega (arith, long, fits))
  one_reason law f g (not_read fit is) (profile_long fits long is') = let fits' = fit.profile_fits in absurd (omega (arith, long, fits'))
  one_reason law f g (not_read fit is) (not_read fit' is') = one_unreadable file f g is is'
  one_reason law f g (not_read fit is) (staged x input is') = absurd (read f is x input)
  one_reason law f g (staged x input is) (file_long long is') =
      let fits = input.program.faultless.plain.fits in absurd (omega (arith, long, fits))
  one_reason law f g (staged x input is) (profile_long fits long is') =
      let fits' = input.profile_fits in absurd (omega (arith, long, fits'))
  one_reason law f g (staged x input is) (not_read fit is') = absurd (read g is' x input)
  one_reason law f g (staged x input is) (staged y input' is') =
      let same = same_program file y x input'.program input.program in
      one_stage x profile law f g is (stage_by y x same profile g is')

  pub one_rewrite : PartsLaw → (f g : Fault) → IsRefused file profile f → IsRefused file profile g → f ≡ g
  one_rewrite law f g r q = one_reason law f g (reason_of f r) (reason_of g q)

module _ {file profile written : List ℕ} {spans : List Span} {counts : RewriteCounts}
    (made : IsRewritten file profile written spans counts) where
  abbrev x : Program
  x = made.program

  of_made : (y : Program) → IsInput file profile y → IsSameProgram y x
  of_made y input = same_program file y x input.program made.accepted.program

  made_cold : IsColdBy x profile (cold_starts x.code.funcs x.blocks made.parts)
  made_cold = record { pairs = made.pairs; parts = made.parts; are = made.ordered.parts_are; cold_is = refl }

  pub none_rewritten : PartsLaw → (f : Fault) (r : IsRefused file profile f) → IsOfLayout spans r → ⊥
  none_rewritten law f (long_file long is) of = let fits = made.accepted.program.faultless.plain.fits in absurd (omega (arith, long, fits))
  none_rewritten law f (long_profile fits long is) of = let fits' = made.accepted.profile_fits in absurd (omega (arith, long, fits'))
  none_rewritten law f (unreadable fit is) of = read file profile f is x made.accepted
  none_rewritten law f (misplaced y input has) of =
      let same = of_made y input in
      none_answered (Placing x profile) f
      (answered_by (Placing y profile) (Placing x profile) (placing_by y x same) (placing_by x y (exchanged y x same)) f has)
      made.stands.moves.placed
  none_rewritten law f (not_carried y input placed has) of =
      let same = of_made y input in
      none_answered (Carrying x profile) f
      (answered_by (Carrying y profile) (Carrying x profile) (carrying_by y x same) (carrying_by x y (exchanged y x same)) f has)
      made.stands.moves.carried
  none_rewritten law f (no_place y input moves is) of =
      some_none x profile f (sym (same_room y x (of_made y input)) ∙ is) made.stands.room
  none_rewritten law f (large_code y input stands is) of =
      made.fits is.place (code_too_large (large_by y x (of_made y input) is.place is.first.present))
  none_rewritten law f (too_large y input stands pairs parts are is) of =
      let same = of_made y input in
      let cold = cold_starts y.code.funcs y.blocks parts in
      let there = cold_by y x same profile cold (record { pairs = pairs; parts = parts; are = are; cold_is = refl }) in
      made.fits is.place
      (passes_by x profile law cold (cold_starts x.code.funcs x.blocks made.parts) there made_cold is.place
      (too_large_by y x same cold is.place is.first.present))
  none_rewritten law f (too_heavy y input stands pairs parts fits order ordered laid bytes are heavy is) of =
      made.light (same_weights y.elf x.elf (of_made y input).alike spans (subst (λ (ss : List Span). IsTooHeavy y.elf ss) of heavy))
