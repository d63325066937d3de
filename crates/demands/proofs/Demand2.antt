-- What reads is the neat game of its position with the fresh hash, play keeps both, and of such a game each promise says what the rules say
-- there.
use mathlib.Core.Path.{◌≡◌, refl, sym, ap, ◌∙◌, subst}
use mathlib.Core.Bool.{not}
use mathlib.Core.List.{List, [], ◌∷◌}
use Prim.Native.Nat.{ℕ}
use native.Mathlib.Omega.{arith}
use lib.Dec.{T, ltb}
use lib.ListN.{length}
use Rattle.std.specs.Prelude.{Result, Ok, Err, IfOk}
use Rattle.std.specs.Result.{result_unwrap_or}
use Rattle.rules.specs.Position.{Position, unfinished}
use Rattle.rules.specs.Play.{no_move, play, tried, reached}
use Rattle.rules.specs.Moves.{moves}
use Rattle.rules.specs.Hash.{hash, with_turn, zobrist}
use Rattle.rules.specs.Evaluation.{evaluated}
use Rattle.rules.specs.Endgame.{analysis, evaluate_move}
use Rattle.rules.specs.Compare.{bound_depth, open_boards, equivalent}
use Rattle.theory.specs.Memory.{Responses}
use Rattle.theory.specs.Reported.{filled, reported}
use Rattle.rules_game.specs.RulesGame.{game}
use Rattle.text.specs.Reading.{Reading, reads, refuses, read}
use Rattle.text.specs.Writing.{text_of}
use Rattle.text.specs.MoveText.{move_text}
use Rattle.status.specs.Sets.{status_of}
use Rattle.boards.specs.declared.moves.Move.{Move}
use Rattle.boards.specs.declared.moves.MoveIterator.{MoveIterator}
use Rattle.boards.specs.Cursor.{moves_left, cursor_over}
use Rattle.game.specs.declared.Game.{Game}
use Rattle.game.specs.Meaning.{position_of}
use Rattle.game.specs.Built.{new_game}
use Rattle.game.specs.After.{refusal, game_after, games_after, Plays}
use Rattle.game.specs.Neat.{neat, game_of}
use Rattle.game.proofs.AfterHash.{Fresh, zobrist_fresh}
use Rattle.game.proofs.AfterList.{played_neat, played_means, played_hash, new_played_neat, new_played_means, new_played_hash}
use Rattle.game.proofs.MeaningMoves.{all_moves_listed}
use Rattle.game.proofs.Neat.{neat_is_fixed}
use Rattle.notation.specs.Parsed.{reading_of, game_for, Parses, ParsesMove}
use Rattle.notation.proofs.ParsedAnswers.{game_or_new}
use Rattle.notation.proofs.ParsedGames.{read_gives_a_game}
use Rattle.notation.proofs.ParsedRoundTrip.{render_reads_back}
use Rattle.evaluation.specs.Values.{Evaluates}
use Rattle.endgame.specs.Means.{Analyses, Judges, analysis_status}
use Rattle.minimax.specs.declared.Minimax.{Minimax}
use Rattle.minimax.specs.declared.Config.{Config}
use Rattle.minimax.specs.Report.{bytes_of, responses_of, scoring_of, settings_of, report_of, reported_of}
use Rattle.minimax.proofs.Structs.{reported_rules}
use Rattle.demands.specs.declared.GameAnswers.{GameAnswers}
use Rattle.demands.specs.Demand2.{begins_at, SameAs, Demand2, ReadAgain}
use Rattle.boards.specs.Answers.{within, in_range}
use Rattle.notation.specs.declared.ParseError.{ParseError}

-- ---- a struct that means a position, is neat and has the fresh hash
record Means (g : Game) (p : Position) : Type 0 where
  means : position_of g ≡ p
  is_neat : T (neat g)
  fresh : Fresh g

-- is that position's neat struct
fixed : (g : Game) (p : Position) → Means g p → g ≡ game_of p (hash p)
fixed g p h = sym (neat_is_fixed g h.is_neat) ∙ ap (game_of (position_of g)) h.fresh
    ∙ ap (λ (q : Position). game_of q (hash q)) h.means

played_on : (g : Game) (p : Position) (ms : List ℕ) → Means g p → Means (games_after g ms) (reached p ms)
played_on g p ms h = record {
  means = played_means g ms h.is_neat ∙ ap (λ (q : Position). reached q ms) h.means;
  is_neat = played_neat g ms h.is_neat;
  fresh = played_hash g ms h.is_neat h.fresh;
}

one_move : (g : Game) (p : Position) (m : ℕ) → Means g p → Means (game_after g m) (tried p m)
unfolding games_after reached
one_move g p m h = played_on g p (m ∷ []) h

begun : (text : List ℕ) (x : Reading) → read text ≡ x → Means (game_for x) (begins_at x)
unfolding games_after reached
begun text (reads p) e = let k = read_gives_a_game text p e in record { means = k.means; is_neat = k.is_neat; fresh = k.fresh }
begun text (refuses n o l) e = record { means = new_played_means []; is_neat = new_played_neat []; fresh = new_played_hash [] }

-- ---- the promises of the functions that are called, of what they gave
module _ (text ms : List ℕ) (m : Move) (board cell : ℕ) (other : Game) (memory : Minimax) (c : Config) (words words' : List ℕ)
    (r : GameAnswers) where
  pub record Promised : Type 0 where
    pub parsed : Parses text r.read
    pub move_parsed : ParsesMove text r.read_move
    pub move_rendered : r.move_text ≡ move_text m.bits
    pub played : r.game ≡ games_after (result_unwrap_or r.read new_game) ms
    pub turn : r.player ≡ r.game.next_player
    pub next_board : r.board_to_play ≡ r.game.next_board
    pub state : r.game_state ≡ r.game.game_state
    pub over : r.game_over ≡ not (unfinished (position_of r.game))
    pub looked_cell : r.cell ≡ within (in_range board cell) ((position_of r.game).cells board cell)
    pub looked_board : r.board_state ≡ within (ltb board 9) ((position_of r.game).states board)
    pub rendered : r.text ≡ text_of (position_of r.game)
    pub cursor : MoveIterator
    pub cursor_is : cursor ≡ cursor_over (moves (position_of r.game))
    pub listed : bytes_of r.moves ≡ filled no_move (moves_left cursor)
    pub counted : r.legal_moves ≡ length (moves (position_of r.game))
    pub tried_one : Plays r.game m r.played
    pub keyed : r.key ≡ with_turn (position_of r.game) r.game.hash
    pub valued : Evaluates (scoring_of c) r.game r.evaluation
    pub analysed : Analyses r.game r.analysis
    pub status_given : r.status ≡ analysis_status r.analysis
    pub judged : Judges r.game m r.move_status
    pub searched : report_of r.report words' ≡ reported_of memory r.game c words
    pub bounded : r.bound_depth ≡ bound_depth (position_of r.game)
    pub opened : r.open_boards ≡ open_boards (position_of r.game)
    pub compared_first : r.equivalent_first ≡ equivalent (position_of r.game) (position_of other)
    pub compared_second : r.equivalent_second ≡ equivalent (position_of other) (position_of r.game)

  module _ (h : Promised) where
    abbrev rs : Responses
    rs = responses_of memory.responses

    same_as : (p : Position) → Means r.game p → SameAs m board cell other memory c words words' r p
    same_as p k = let e = k.means in record {
      position_is = e;
      hash_is = k.fresh ∙ ap hash e;
      game_is = fixed r.game p k;
      turn_is = h.turn ∙ ap (λ (q : Position). q.turn) e;
      next_board_is = h.next_board ∙ ap (λ (q : Position). q.next_board) e;
      state_is = h.state ∙ ap (λ (q : Position). q.state) e;
      over_is = h.over ∙ ap (λ (q : Position). not (unfinished q)) e;
      cell_is = h.looked_cell ∙ ap (λ (q : Position). within (in_range board cell) (q.cells board cell)) e;
      board_state_is = h.looked_board ∙ ap (λ (q : Position). within (ltb board 9) (q.states board)) e;
      text_is = h.rendered ∙ ap text_of e;
      moves_are =
          h.listed ∙ ap (λ (it : MoveIterator). filled no_move (moves_left it)) h.cursor_is
          ∙ ap (filled no_move) (all_moves_listed r.game) ∙ ap (λ (q : Position). filled no_move (moves q)) e;
      legal_are = h.counted ∙ ap (λ (q : Position). length (moves q)) e;
      refusal_is = h.tried_one.number ∙ ap (λ (q : Position). refusal (play q m.bits)) e;
      after_is = h.tried_one.position ∙ ap (λ (q : Position). tried q m.bits) e;
      after_game_is = h.tried_one.exact ∙ fixed (game_after r.game m.bits) (tried p m.bits) (one_move r.game p m.bits k);
      key_is = h.keyed ∙ zobrist_fresh r.game k.fresh ∙ ap zobrist e;
      evaluation_refusal_is = h.valued.refusal ∙ ap (λ (q : Position). (evaluated (scoring_of c) q).refusal) e;
      value_is = h.valued.value ∙ ap (λ (q : Position). (evaluated (scoring_of c) q).value) e;
      endgame_refusal_is = h.analysed.refusal ∙ ap (λ (q : Position). (analysis q).refusal) e;
      proven_is = h.analysed.status ∙ ap (λ (q : Position). status_of (analysis q).status) e;
      status_is = h.status_given ∙ h.analysed.status ∙ ap (λ (q : Position). status_of (analysis q).status) e;
      counts_are = h.analysed.stats ∙ ap (λ (q : Position). (analysis q).stats) e;
      move_refusal_is = h.judged.number ∙ ap (λ (q : Position). (evaluate_move q m.bits).refusal) e;
      move_status_is = h.judged.status ∙ ap (λ (q : Position). status_of (evaluate_move q m.bits).status) e;
      report_is =
          h.searched ∙ reported_rules (scoring_of c) (settings_of c) r.game k.is_neat k.fresh rs words
          ∙ ap (λ (q : Position). reported (game (scoring_of c)) (settings_of c) q rs words) e;
      bound_depth_is = h.bounded ∙ ap bound_depth e;
      open_boards_are = h.opened ∙ ap open_boards e;
      equivalent_first_is = h.compared_first ∙ ap (λ (q : Position). equivalent q (position_of other)) e;
      equivalent_second_is = h.compared_second ∙ ap (equivalent (position_of other)) e;
    }

    pub demand_2 : Demand2 text ms m board cell other memory c words words' r
    demand_2 =
        let p = begins_at (read text) in
        let k = played_on (game_for (read text)) p ms (begun text (read text) refl) in
        let begun_is = game_or_new text r.read h.parsed in
        let e = h.played ∙ ap (λ (g : Game). games_after g ms) begun_is in
        record {
          reading_is = h.parsed.says;
          read_game_is = begun_is;
          move_reading_is = h.move_parsed;
          move_text_is = h.move_rendered;
          same = same_as (reached p ms) (subst (λ (g : Game). Means g (reached p ms)) (sym e) k);
        }

-- ---- rendered and read again
accepted_game : (r : Result Game ParseError) (p : Position) (k : Game) → reading_of r ≡ reads p → IfOk r (λ g. g ≡ k) → r ≡ Ok k
accepted_game (Ok g) p k e h = ap Ok h
accepted_game (Err why) p k e h = absurd (let z : ◌≡◌ {A = ℕ} 0 1 = cc in omega arith)

pub reads_again : (ms : List ℕ) (g : Game) (text : List ℕ) (r : Result Game ParseError) → g ≡ games_after new_game ms →
    text ≡ text_of (position_of g) → Parses text r → ReadAgain ms r
reads_again ms g text r g_is text_is h =
    let q = games_after new_game ms in
    let e : read text ≡ read (text_of (position_of q)) = ap read (text_is ∙ ap (λ (x : Game). text_of (position_of x)) g_is) in
    accepted_game r (position_of q) q (h.says ∙ e ∙ (render_reads_back ms).0)
    (subst (λ (k : Game). IfOk r (λ x. x ≡ k)) (ap game_for e ∙ (render_reads_back ms).1) h.game_is)
