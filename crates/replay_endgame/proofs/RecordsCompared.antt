-- The numbers of an analysis and of moves, compared one after the other.
use mathlib.Core.Path.{◌≡◌, sym, ap, ◌∙◌}
use mathlib.Core.Bool.{Bool}
use mathlib.Core.List.{List, [], ◌∷◌}
use Prim.Native.Nat.{ℕ}
use lib.ListN.{length}
use Rattle.base.specs.Lists.{concat_map}
use Rattle.rules.specs.Position.{Position}
use Rattle.rules.specs.Status.{as_byte}
use Rattle.rules.specs.Endgame.{EndgameStats as Counts, analysis, evaluate_move}
use Rattle.rules.specs.Refusal.{answer_number}
use Rattle.std.specs.Prelude.{Option, Some, Result}
use Rattle.status.specs.declared.Status.{Status}
use Rattle.boards.specs.declared.moves.Move.{Move}
use Rattle.game.specs.declared.Game.{Game}
use Rattle.game.specs.Meaning.{position_of}
use Rattle.endgame.specs.declared.Analysis.{Analysis}
use Rattle.endgame.specs.declared.Unsound.{Unsound}
use Rattle.endgame.specs.declared.MoveStatusError.{MoveStatusError}
use Rattle.endgame.specs.Means.{unsound_number, move_status_number, analysis_status, analysis_stats, move_status, Analyses, Judges}
use Rattle.replay.specs.Agreement.{same_numbers, compared, compared_all, wholly_agrees}
use Rattle.replay.proofs.AgreementCompared.{compared_append, compared_is_same}
use Rattle.replay_endgame.specs.Records.{
  listed_moves,
  expected_moves,
  stats_numbers,
  analysis_numbers,
  move_numbers,
  record_of,
}
use Rattle.replay_endgame.proofs.RecordsMoves.{first_expected, some_expected}

-- ---- the analysis
analysis_said : (g : Game) (r : Result Analysis Unsound) → Analyses g r →
    answer_number unsound_number r ∷ (analysis_status r).bits ∷ stats_numbers (analysis_stats r)
    ≡ analysis_numbers (analysis (position_of g))
analysis_said g r h =
    let a = analysis (position_of g) in
    ap (λ (n : ℕ). n ∷ (analysis_status r).bits ∷ stats_numbers (analysis_stats r)) h.refusal ∙
    ap (λ (s : Status). a.refusal ∷ s.bits ∷ stats_numbers (analysis_stats r)) h.status ∙
    ap (λ (s : Counts). a.refusal ∷ as_byte a.status ∷ stats_numbers s) h.stats

module _ (a : Option (List ℕ)) where
  -- whether it is refused, the set that is reported, and the six counts
  pub analysis_compared : (g : Game) (r : Result Analysis Unsound) → Analyses g r → {n b : ℕ} {s : Status}
      {a₁ a₂ a₃ : Option (List ℕ)} → n ≡ answer_number unsound_number r → s ≡ analysis_status r → b ≡ s.bits →
      a₁ ≡ compared a n → a₂ ≡ compared a₁ b → a₃ ≡ compared_all a₂ (stats_numbers (analysis_stats r)) →
      a₃ ≡ compared_all a (analysis_numbers (analysis (position_of g)))
  analysis_compared g r h {n} {b} {s} en es eb e₁ e₂ e₃ =
      let counts = stats_numbers (analysis_stats r) in
      e₃ ∙ ap (λ (x : Option (List ℕ)). compared_all x counts) (e₂ ∙ ap (λ (x : Option (List ℕ)). compared x b) e₁) ∙
      ap (λ (m : ℕ). compared_all a (m ∷ b ∷ counts)) en ∙
      ap (λ (m : ℕ). compared_all a (answer_number unsound_number r ∷ m ∷ counts)) (eb ∙ ap (λ (t : Status). t.bits) es) ∙
      ap (compared_all a) (analysis_said g r h)

  -- ---- a move
  pub move_compared : (g : Game) (m : Move) (r : Result Status MoveStatusError) → Judges g m r → {n b : ℕ}
      {a₁ a₂ a₃ : Option (List ℕ)} → n ≡ answer_number move_status_number r → b ≡ (move_status r).bits →
      a₁ ≡ compared a m.bits → a₂ ≡ compared a₁ n → a₃ ≡ compared a₂ b →
      a₃ ≡ compared_all a (move_numbers (position_of g) m.bits)
  move_compared g m r h {n} {b} en eb e₁ e₂ e₃ =
      e₃ ∙ ap (λ (x : Option (List ℕ)). compared x b) (e₂ ∙ ap (λ (x : Option (List ℕ)). compared x n) e₁) ∙
      ap (λ (k : ℕ). compared_all a (m.bits ∷ k ∷ b ∷ [])) (en ∙ h.number) ∙
      ap (λ (k : ℕ). compared_all a (m.bits ∷ (evaluate_move (position_of g) m.bits).refusal ∷ k ∷ []))
      (eb ∙ ap (λ (t : Status). t.bits) h.status)

-- ---- the listed moves
module _ (p : Position) (a : Option (List ℕ)) where
  pub moves_go_on : (m : ℕ) {ms rest : List ℕ} → ms ≡ m ∷ rest → {r : Option (List ℕ)} → r ≡ compared_all a (move_numbers p m) →
      compared_all r (concat_map (move_numbers p) rest) ≡ compared_all a (concat_map (move_numbers p) ms)
  unfolding concat_map
  moves_go_on m {ms} {rest} e f =
      let others = concat_map (move_numbers p) rest in
      ap (λ (x : Option (List ℕ)). compared_all x others) f ∙ sym (compared_append a (move_numbers p m) others) ∙
      ap (λ (l : List ℕ). compared_all a (concat_map (move_numbers p) l)) (sym e)

  pub moves_end : {ms : List ℕ} → ms ≡ [] → compared_all a (concat_map (move_numbers p) ms) ≡ a
  unfolding concat_map
  moves_end e = ap (λ (l : List ℕ). compared_all a (concat_map (move_numbers p) l)) e

  pub first_compared : length (listed_moves p) ≡ 0 → {r : Option (List ℕ)} → r ≡ compared_all a (move_numbers p 0) →
      r ≡ compared_all a (concat_map (move_numbers p) (expected_moves p))
  unfolding concat_map
  first_compared h f =
      f ∙ ap (λ (l : List ℕ). compared_all a (concat_map (move_numbers p) l)) (sym (first_expected p h))

  pub some_compared : (length (listed_moves p) ≡ 0 → ⊥) → {ms : List ℕ} → ms ≡ listed_moves p → {r : Option (List ℕ)} →
      r ≡ compared_all a (concat_map (move_numbers p) ms) →
      r ≡ compared_all a (concat_map (move_numbers p) (expected_moves p))
  some_compared h e f =
      f ∙ ap (λ (l : List ℕ). compared_all a (concat_map (move_numbers p) l)) (e ∙ sym (some_expected p h))

-- ---- the whole record
pub whole_is_record : (ns : List ℕ) (p : Position) {a₀ a₁ a₂ : Option (List ℕ)} {r : Bool} →
    a₀ ≡ Some ns → a₁ ≡ compared_all a₀ (analysis_numbers (analysis p)) →
    a₂ ≡ compared_all a₁ (concat_map (move_numbers p) (expected_moves p)) →
    r ≡ wholly_agrees a₂ → r ≡ same_numbers ns (record_of p)
whole_is_record ns p e₀ e₁ e₂ e =
    let numbers = analysis_numbers (analysis p) in
    let moves = concat_map (move_numbers p) (expected_moves p) in
    e ∙ ap wholly_agrees (e₂ ∙ ap (λ (x : Option (List ℕ)). compared_all x moves)
    (e₁ ∙ ap (λ (x : Option (List ℕ)). compared_all x numbers) e₀) ∙ sym (compared_append (Some ns) numbers moves)) ∙
    compared_is_same ns (record_of p)
