-- Demand 2: of a text and of all play from it, each function answers what the rules, the hash and the search are defined to give.
use Rattle.std.specs.Prelude.{◌≡◌, not, List, ℕ, ltb, length, Result, Ok}
use Rattle.std.specs.Result.{result_unwrap_or}
use Rattle.rules.specs.Position.{Position, start, unfinished}
use Rattle.rules.specs.Play.{no_move, play, tried, reached}
use Rattle.rules.specs.Moves.{moves}
use Rattle.rules.specs.Hash.{hash, zobrist}
use Rattle.rules.specs.Evaluation.{evaluated}
use Rattle.rules.specs.Endgame.{analysis, evaluate_move}
use Rattle.rules.specs.Compare.{bound_depth, open_boards, equivalent}
use Rattle.theory.specs.Reported.{filled, reported}
use Rattle.rules_game.specs.RulesGame.{game}
use Rattle.text.specs.Reading.{Reading, reads, refuses, read}
use Rattle.text.specs.Writing.{text_of}
use Rattle.text.specs.MoveText.{read_move, move_text}
use Rattle.status.specs.Sets.{status_of}
use Rattle.boards.specs.declared.moves.Move.{Move}
use Rattle.boards.specs.Answers.{in_range, within, move_error_number}
use Rattle.game.specs.declared.Game.{Game}
use Rattle.game.specs.Meaning.{position_of}
use Rattle.game.specs.Built.{new_game}
use Rattle.game.specs.After.{refusal, games_after, game_left}
use Rattle.game.specs.Neat.{game_of}
use Rattle.notation.specs.Parsed.{reading_of, game_for, move_reading_of}
use Rattle.endgame.specs.Means.{move_status_number, unsound_number, analysis_status, analysis_stats, move_status}
use Rattle.minimax.specs.declared.Minimax.{Minimax}
use Rattle.minimax.specs.declared.Config.{Config}
use Rattle.minimax.specs.Report.{bytes_of, responses_of, scoring_of, settings_of, report_of}
use Rattle.demands.specs.declared.GameAnswers.{GameAnswers}
use Rattle.rules.specs.Refusal.{answer_number}
use Rattle.evaluation.specs.Values.{bad_weight_number, value_or_0}
use Rattle.notation.specs.declared.ParseError.{ParseError}

-- where play begins: at the position that was read, or, where the text is refused, on the empty board
abbrev pub begins_at : Reading → Position
begins_at (reads p) = p
begins_at (refuses n offset size) = start

-- what is asked beside the position: a move, a board and a cell, another game, response tables, settings, and the lent words; words' are
-- these at the end
module _ (m : Move) (board cell : ℕ) (other : Game) (memory : Minimax) (c : Config) (words words' : List ℕ) where
  -- on the left what a function answered, on the right the definition at the position p
  pub record SameAs (r : GameAnswers) (p : Position) : Type 0 where
    -- `parse` and `play_all`: the position, the hash as if worked out afresh, and no stray bit in the struct
    pub position_is : position_of r.game ≡ p
    pub hash_is : r.game.hash ≡ hash p
    pub game_is : r.game ≡ game_of p (hash p)
    -- `player`, `board_to_play`, `game_state` and `game_over`
    pub turn_is : r.player ≡ p.turn
    pub next_board_is : r.board_to_play ≡ p.next_board
    pub state_is : r.game_state ≡ p.state
    pub over_is : r.game_over ≡ not (unfinished p)
    -- `at` and `board_state`: over 8 the refusal 9
    pub cell_is : r.cell ≡ within (in_range board cell) (p.cells board cell)
    pub board_state_is : r.board_state ≡ within (ltb board 9) (p.states board)
    -- `render`
    pub text_is : r.text ≡ text_of p
    -- `all_moves` and its cursor: the moves in their order, then empty places
    pub moves_are : bytes_of r.moves ≡ filled no_move (moves p)
    -- `legal_moves`
    pub legal_are : r.legal_moves ≡ length (moves p)
    -- `make_move`, of one move more: its number, and the game that it leaves
    pub refusal_is : answer_number move_error_number r.played ≡ refusal (play p m.bits)
    pub after_is : position_of (game_left r.game r.played) ≡ tried p m.bits
    pub after_game_is : game_left r.game r.played ≡ game_of (tried p m.bits) (hash (tried p m.bits))
    -- `zobrist`, which is the search's key
    pub key_is : r.key ≡ zobrist p
    -- `evaluate`: number and value
    pub evaluation_refusal_is : answer_number bad_weight_number r.evaluation ≡ (evaluated (scoring_of c) p).refusal
    pub value_is : value_or_0 r.evaluation ≡ (evaluated (scoring_of c) p).value
    -- `Analysis::new`: number, set and counts; `status` is the set
    pub endgame_refusal_is : answer_number unsound_number r.analysis ≡ (analysis p).refusal
    pub proven_is : analysis_status r.analysis ≡ status_of (analysis p).status
    pub status_is : r.status ≡ status_of (analysis p).status
    pub counts_are : analysis_stats r.analysis ≡ (analysis p).stats
    -- `evaluate_move`: number and set
    pub move_refusal_is : answer_number move_status_number r.move_status ≡ (evaluate_move p m.bits).refusal
    pub move_status_is : move_status r.move_status ≡ status_of (evaluate_move p m.bits).status
    -- `analyze`: the ordered search of the written rules, with what it leaves in the response tables and in the words
    pub report_is : report_of r.report words'
        ≡ reported (game (scoring_of c)) (settings_of c) p (responses_of memory.responses) words
    -- `bound_depth` and `open_boards`
    pub bound_depth_is : r.bound_depth ≡ bound_depth p
    pub open_boards_are : r.open_boards ≡ open_boards p
    -- `equivalent`, as the first game and as the second
    pub equivalent_first_is : r.equivalent_first ≡ equivalent p (position_of other)
    pub equivalent_second_is : r.equivalent_second ≡ equivalent (position_of other) p

-- of every text, and every list of moves tried from where it begins, refused ones included
module _ (text ms : List ℕ) (m : Move) (board cell : ℕ) (other : Game) (memory : Minimax) (c : Config) (words words' : List ℕ)
    (r : GameAnswers) where
  pub record Demand2 : Type 0 where
    -- `parse`: the position, or number, offset and length of the refusal
    pub reading_is : reading_of r.read ≡ read text
    pub read_game_is : result_unwrap_or r.read new_game ≡ game_for (read text)
    -- `parse_move`, of the same text: the move, or the refusal
    pub move_reading_is : move_reading_of r.read_move ≡ read_move text
    -- `render_move`
    pub move_text_is : r.move_text ≡ move_text m.bits
    pub same : SameAs m board cell other memory c words words' r (reached (begins_at (read text)) ms)

-- a game played from the empty board, rendered and read again: that struct, hash and all
abbrev pub ReadAgain : List ℕ → Result Game ParseError → Type 0
ReadAgain ms r = r ≡ Ok (games_after new_game ms)
