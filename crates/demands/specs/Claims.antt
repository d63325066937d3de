-- Demand 3: what is claimed of a search with the table off, and of the endgame status, at an unfinished position.
use Rattle.std.specs.Prelude.{◌≡◌, not, [], ◌⊎◌, ◌-◌, ◌≤◌, T, neg_ℤ, get_or, Option, None}
use Rattle.rules.specs.declared.Player.{Player}
use Rattle.rules.specs.Position.{Position}
use Rattle.rules.specs.Play.{no_move, accepts, tried}
use Rattle.rules.specs.Status.{Status, allows, alone}
use Rattle.rules.specs.Evaluation.{Scoring, scoring_with}
use Rattle.theory.specs.Memory.{Responses, fresh_memory}
use Rattle.theory.specs.Deepening.{decided}
use Rattle.theory.specs.Reported.{Settings, entry_refusal, Reported}
use Rattle.theory.specs.Variation.{play_out, ends_on}
use Rattle.rules_game.specs.RulesGame.{game, plain_minimax, win_for}
use Rattle.rules_game.specs.Answers.{entries}

module _ (draws : Option Player) (c : Settings) (rs : Responses) (p : Position) where
  -- how positions are scored: under the weights of the settings
  abbrev pub sc : Scoring
  sc = scoring_with draws c.weights

  -- what is asked for a search to run to its end: its entry passes, and the allowance covers all that the ordered search would enter
  pub record NotStopped : Type 0 where
    pub accepted : entry_refusal c 0 ≡ 0
    pub enough : entries sc c.max_depth p (fresh_memory rs []) ≤ c.allowance

  -- x is what is reported of a search of p
  module _ (x : Reported) where
    -- the answer's own mark says exactly this
    pub record MarkSays : Type 0 where
      pub number_none : NotStopped → x.number ≡ 0
      pub not_marked : NotStopped → T (not x.is_stopped)
      pub only_then : x.number ≡ 0 → T (not x.is_stopped) → NotStopped

    -- of a search that is not stopped
    pub record ReportsMinimax : Type 0 where
      -- the score is plain minimax's to the limit, scored the same way
      pub score : x.score ≡ plain_minimax sc c.max_depth p
      -- the first move may be played, and what plain minimax gives after it, one depth less and with the other sign, is the score
      pub first_legal : T (accepts p (get_or x.pv 0 no_move))
      pub first_attains : neg_ℤ (plain_minimax sc (c.max_depth - 1) (tried p (get_or x.pv 0 no_move))) ≡ x.score
      -- the variation's depth is the last completed depth, which is the limit unless the score ended the search sooner
      pub some_depth : 1 ≤ x.depth
      pub no_deeper : x.depth ≤ c.max_depth
      pub deep : (x.depth ≡ c.max_depth) ⊎ T (decided x.score)
      -- played out to that depth, or until the game is over, each of its moves is accepted; where it ends, the value, with the sign of the
      -- root's side, is the score
      pub line_legal : T (play_out (game sc) x.depth p x.pv).accepted
      pub line_ends : x.score ≡ ends_on (game sc) x.depth p x.pv

-- with no draw winner, s being the endgame status
module _ (c : Settings) (rs : Responses) (p : Position) (x : Reported) (s : Status) where
  pub record StatusHolds : Type 0 where
    -- it leaves w alone, and no draw: a search that runs to its end, three deep or deeper, has w's win for its score
    pub alone_wins : (w : Player) → T (alone s w) → NotStopped None c rs p → 3 ≤ c.max_depth → x.score ≡ win_for w p
    -- it leaves w out: w's win is the score of no search at all
    pub left_out_never : (w : Player) → T (not (allows s w)) → x.score ≡ win_for w p → ⊥
