-- Demand 1, part by part.
use mathlib.Core.List.{List}
use Prim.Native.Nat.{ℕ}
use Rattle.boards.specs.declared.moves.Move.{Move}
use Rattle.game.specs.declared.Game.{Game}
use Rattle.minimax.specs.declared.Minimax.{Minimax}
use Rattle.minimax.specs.declared.Config.{Config}
use Rattle.demands.specs.declared.EntryAnswers.{EntryAnswers}
use Rattle.demands.specs.Demand1.{Demand1, EachCall}
use Rattle.demands.proofs.Demand1Calls.{looking_cell_holds, looking_board_holds, playing_holds, building_holds}
use Rattle.demands.proofs.Demand1Calls.{evaluating_holds, analysing_holds, judging_holds, searching_holds}
use Rattle.demands.proofs.Demand1Texts.{reading_move_holds, reading_position_holds}
use Rattle.demands.proofs.Demand1Lines.{answering_line_holds}

module _ (text line : List ℕ) (g : Game) (m : Move) (b c : ℕ) (memory : Minimax) (config : Config) (words words' : List ℕ)
    (r : EntryAnswers) where
  pub demand_1 : EachCall text line g m b c memory config words words' r → Demand1 text line g m b c memory config words words' r
  demand_1 h = record {
    position_text = reading_position_holds text r.read h.parsed;
    move_text = reading_move_holds text r.read_move h.move_parsed;
    play = playing_holds g m r.played h.tried;
    cell = looking_cell_holds b c _ r.cell h.looked_cell;
    board = looking_board_holds b _ r.board_state h.looked_board;
    build = building_holds b c r.built h.built;
    evaluation = evaluating_holds g config.draw_winner config.weights r.evaluation h.valued;
    endgame = analysing_holds g r.analysis h.analysed;
    move_status = judging_holds g m r.move_status h.judged;
    search = searching_holds memory g config words r.report words' h.searched;
    program_line = answering_line_holds line r.line h.answered;
  }
