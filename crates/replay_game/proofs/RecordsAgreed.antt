-- A line agrees only where it is a list of numbers, and these are the record of a question of one of five kinds.
use Rattle.std.specs.Prelude.{Option, None, Some}
use mathlib.Core.Path.{◌≡◌, refl}
use mathlib.Core.Bool.{Bool, true, false, not}
use mathlib.Core.List.{List, [], ◌∷◌, ◌++◌}
use Prim.Native.Nat.{ℕ, ◌%◌}
use lib.Dec.{eqb}
use lib.ListN.{get_or}
use Rattle.base.specs.Branch.{when◌then◌else◌}
use Rattle.rules.specs.Position.{unfinished}
use Rattle.game.specs.declared.Game.{Game}
use Rattle.game.specs.Meaning.{position_of}
use Rattle.game.specs.After.{games_after}
use Rattle.game.specs.Built.{new_game}
use Rattle.decimals.specs.Lists.{list_of}
use Rattle.replay.specs.declared.totals.Comparison.{Comparison}
use Rattle.replay.specs.declared.totals.Comparison.TheVariants.{Differs}
use Rattle.replay.proofs.TotalsComparison.{numbers_found}
use Rattle.replay_game.specs.Records.{game_in, moves_in, position_numbers, play_numbers, looked_numbers, equivalence_record}
use Rattle.replay_game.specs.Records.{coordinates_record, of_play, of_record, comparison_of, comparison_for, outcome_of}

-- the numbers are the record of the question that they hold: a play from the empty board, a play from a position, two positions
-- compared, a position looked at, or a move of a board and a cell
pub data Recorded (ns : List ℕ) : Type 0 where
  play : ns ≡ 1 ∷ play_numbers new_game (moves_in ns 1) → Recorded ns
  play_on : ns ≡ (2 ∷ position_numbers (game_in ns 1)) ++ play_numbers (game_in ns 1) (moves_in ns 12) → Recorded ns
  equivalence : ns ≡ equivalence_record (game_in ns 1) (game_in ns 12) → Recorded ns
  look : ns ≡ 10 ∷ looked_numbers (game_in ns 1) → Recorded ns
  coordinates : ns ≡ coordinates_record (get_or ns 1 0 % 9) (get_or ns 2 0 % 9) → Recorded ns

module _ (ns : List ℕ) where
  play_said : (first : List ℕ) (g : Game) (i : ℕ) → (of_play ns first g i ≡ Differs → ⊥) → ns ≡ first ++ play_numbers g (moves_in ns i)
  unfolding of_play
  play_said first g i h =
      let ms = moves_in ns i in
      numbers_found ns (first ++ play_numbers g ms) (not (unfinished (position_of (games_after g ms)))) h

  record_said : (expected : List ℕ) → (of_record ns expected ≡ Differs → ⊥) → ns ≡ expected
  unfolding of_record
  record_said expected h = numbers_found ns expected false h

  by_kind : (kind : Bool) (found other : Comparison) → ((found ≡ Differs → ⊥) → Recorded ns) → ((other ≡ Differs → ⊥) → Recorded ns) →
      ((when kind then (λ _. found) else λ _. other) ≡ Differs → ⊥) → Recorded ns
  unfolding when◌then◌else◌
  by_kind true found other f g h = f h
  by_kind false found other f g h = g h

  kinds_said : (comparison_of ns ≡ Differs → ⊥) → Recorded ns
  unfolding comparison_of
  kinds_said =
      let kind = get_or ns 0 0 in
      by_kind (eqb kind 1) _ _ (λ h. play (play_said (1 ∷ []) new_game 1 h))
      (by_kind (eqb kind 2) _ _ (λ h. play_on (play_said (2 ∷ position_numbers (game_in ns 1)) (game_in ns 1) 12 h))
      (by_kind (eqb kind 3) _ _ (λ h. equivalence (record_said (equivalence_record (game_in ns 1) (game_in ns 12)) h))
      (by_kind (eqb kind 10) _ _ (λ h. look (record_said (10 ∷ looked_numbers (game_in ns 1)) h))
      (by_kind (eqb kind 11) _ _ (λ h. coordinates (record_said (coordinates_record (get_or ns 1 0 % 9) (get_or ns 2 0 % 9)) h))
      (λ h. absurd (h refl))))))

numbers_said : (o : Option (List ℕ)) → (comparison_for o ≡ Differs → ⊥) → (ns : List ℕ) × (o ≡ Some ns) × Recorded ns
numbers_said None h = absurd (h refl)
numbers_said (Some ns) h = (ns, refl, kinds_said ns h)

-- a line that does not differ is a list of numbers, which are those that the definitions give for its question
pub agreed_means : (line : List ℕ) → (outcome_of line ≡ Differs → ⊥) → (ns : List ℕ) × (list_of 1024 line ≡ Some ns) × Recorded ns
agreed_means line h = numbers_said (list_of 1024 line) h
