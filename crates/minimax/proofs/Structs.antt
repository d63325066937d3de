-- The engine's games are searched as the written ones: a neat game whose hash is the fresh one shows what its position shows, and play
-- keeps both.
use mathlib.Core.Path.{◌≡◌, refl, ap, ◌∙◌}
use mathlib.Core.Bool.{not}
use mathlib.Core.List.{List}
use Prim.Native.Nat.{ℕ}
use lib.Dec.{T, eqb}
use lib.ListN.{length}
use Rattle.base.specs.Branch.{when◌then◌else◌}
use Rattle.rules.specs.Position.{Position, unfinished}
use Rattle.rules.specs.Play.{accepts, tried}
use Rattle.rules.specs.Moves.{moves}
use Rattle.rules.specs.Hash.{zobrist}
use Rattle.rules.specs.Evaluation.{Scoring, evaluate}
use Rattle.theory.specs.Memory.{Responses, fresh_memory}
use Rattle.theory.specs.OrderedSearch.{at_most}
use Rattle.theory.specs.Deepening.{SearchAnswer, analyze}
use Rattle.theory.specs.Reported.{Settings, entry_refusal, report, refused_entry, reported}
use Rattle.theory.proofs.GameAlike.{Alike, alike_analyze}
use Rattle.rules_game.specs.RulesGame.{game}
use Rattle.game.specs.declared.Game.{Game}
use Rattle.game.specs.Meaning.{position_of}
use Rattle.game.specs.Neat.{neat}
use Rattle.game.proofs.Neat.{neat→, game_after_neat}
use Rattle.game.proofs.Meaning.{game_after_means}
use Rattle.game.proofs.AfterHash.{Fresh, game_after_hash, zobrist_fresh}
use Rattle.minimax.specs.Structs.{structs}

unfoldable structs_alike : (sc : Scoring) → Alike (structs sc) (game sc)
structs_alike sc = record {
  R = λ g p. (position_of g ≡ p) × Fresh g × T (neat g);
  same_turn = λ g p h. ap (λ (q : Position). q.turn) h.0;
  same_over = λ g p h. ap (λ (q : Position). not (unfinished q)) h.0;
  same_moves = λ g p h. ap moves h.0;
  same_accepts = λ g p h m. ap (λ (q : Position). accepts q m) h.0;
  same_value = λ g p h. ap (evaluate sc) h.0;
  same_key = λ g p h. zobrist_fresh g h.1 ∙ ap zobrist h.0;
  same_play = λ g p h _ m _. (
    game_after_means g m (neat→ g h.2).three ∙ ap (λ (q : Position). tried q m) h.0,
    game_after_hash g m (neat→ g h.2).three h.1,
    game_after_neat g m h.2,
  );
}

module _ (sc : Scoring) (c : Settings) (g : Game) (n : T (neat g)) (f : Fresh g) (rs : Responses) (words : List ℕ) where
  answer_rules : analyze (structs sc) (at_most c.allowance) c.max_depth g (fresh_memory rs words)
      ≡ analyze (game sc) (at_most c.allowance) c.max_depth (position_of g) (fresh_memory rs words)
  unfolding structs_alike
  answer_rules =
      alike_analyze (structs sc) (game sc) (structs_alike sc) (at_most c.allowance) c.max_depth g (position_of g) (refl, f, n)
      (fresh_memory rs words)

  -- what is reported is the written rules' search of the position, with the key worked out afresh
  pub reported_rules : reported (structs sc) c g rs words ≡ reported (game sc) c (position_of g) rs words
  unfolding reported
  reported_rules =
      ap (λ (x : SearchAnswer). when eqb (entry_refusal c (length words)) 0 then (λ _. report (game sc) (position_of g) x)
      else λ _. refused_entry (entry_refusal c (length words)) rs words) answer_rules
