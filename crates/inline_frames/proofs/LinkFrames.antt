-- The frames of links, one after another.
use Rattle.std.proofs.Common.{◌≡◌, ◌∙◌, ◌<◌, ◌≤◌, ◌+◌, ◌++◌, ℕ, List, [], ◌∷◌, sym, ap, subst, arith, append_assoc, drop, get_or, length}
use Rattle.std.proofs.lemmas.Grind.{common_steps}
use Rattle.std.proofs.lemmas.List.{append-nil, drop_more}
use Rattle.line_rewrite.specs.Tables.{LineSections}
use Rattle.inline_frames.specs.Frames.{Frame}
use Rattle.inline_frames.specs.Names.{NameSections}
use Rattle.inline_frames.specs.Positions.{Position, call_position, frame_at, link_frames}
use Rattle.inline_frames.specs.declared.link.Link.{Link}
use Rattle.inline_frames.specs.declared.naming.Naming.{Naming}

module _ (lines : LineSections) (s : NameSections) (links : List Link) (namings : List Naming) (all : List Frame) where
  -- The frames made so far, and those of the links from a number on.
  abbrev pub AreFramed : ℕ → Position → List Frame → Type 0
  AreFramed n p frames = frames ++ link_frames lines s p (drop n links) (drop n namings) ≡ all

  pub framed_more : (n : ℕ) (p : Position) (l : Link) (x : Naming) (f : Frame) (frames new : List Frame) → n < length links →
      length namings ≡ length links → AreFramed n p frames → f ≡ frame_at s p (get_or namings n x) → new ≡ frames ++ f ∷ [] →
      AreFramed (n + 1) (call_position lines (get_or links n l)) new
  framed_more n p l x f frames new h same inv e g =
      let within : n < length namings = omega (arith, h, same) in
      ap (λ (fs : List Frame). fs ++ link_frames lines s (call_position lines (get_or links n l)) (drop (n + 1) links)
      (drop (n + 1) namings))
      (g ∙ ap (λ (y : Frame). frames ++ y ∷ []) e)
      ∙ append_assoc frames (frame_at s p (get_or namings n x) ∷ [])
      (link_frames lines s (call_position lines (get_or links n l)) (drop (n + 1) links) (drop (n + 1) namings))
      ∙ sym (λ i. frames ++ link_frames lines s p (drop_more links n l h i) (drop_more namings n x within i)) ∙ inv

  pub framed_next : (n : ℕ) (p : Position) (l : Link) (x : Naming) (f : Frame) (next : Position) (frames new : List Frame) →
      n < length links →
      length namings ≡ length links → AreFramed n p frames → f ≡ frame_at s p (get_or namings n x) →
      next ≡ call_position lines (get_or links n l) → new ≡ frames ++ f ∷ [] → AreFramed (n + 1) next new
  framed_next n p l x f next frames new h same inv e to g =
      subst (λ (q : Position). AreFramed (n + 1) q new) (sym to) (framed_more n p l x f frames new h same inv e g)

  pub framed_end : (n : ℕ) (p : Position) (frames : List Frame) → length links ≤ n → AreFramed n p frames → frames ≡ all
  framed_end n p frames h inv =
      let none : drop n links ≡ [] = grind (arith, common_steps) in
      sym (append-nil frames) ∙ sym (ap (λ (ls : List Link). frames ++ link_frames lines s p ls (drop n namings)) none) ∙ inv
