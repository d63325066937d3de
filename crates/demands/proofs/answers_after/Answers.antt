-- Each call's promise, of what it gave.
use mathlib.Core.Path.{ap, ◌∙◌}
use Rattle.std.specs.Result.{result_unwrap_or}
use Rattle.game.specs.declared.Game.{Game}
use Rattle.game.specs.After.{games_after}
use Rattle.demands.proofs.Demand2.{demand_2}
use Rattle.demands.proofs.answers_after.Goals as goal

pub returns : goal.returns
returns c =
    let a = c.args in
    demand_2 a.text.now a.moves.now a.m a.board a.cell a.other a.memory a.config a.words.now
    c.analyze-report.new.words _ (record {
      parsed = c.parse-read.ensures;
      move_parsed = c.parse_move.ensures;
      move_rendered = c.render_move.ensures;
      played = c.play_all-game.ensures ∙ ap (λ (g : Game). games_after g a.moves.now)
          (c.unwrap_or-begun.ensures ∙ ap (result_unwrap_or c.parse-read.result) c.new.ensures);
      turn = c.player.ensures;
      next_board = c.board_to_play.ensures;
      state = c.game_state.ensures;
      over = c.game_over.ensures;
      looked_cell = c.at.ensures;
      looked_board = c.board_state.ensures;
      rendered = c.render.ensures;
      cursor = c.all_moves.result;
      cursor_is = c.all_moves.ensures;
      listed = c.list_moves.ensures;
      counted = c.legal_moves.ensures;
      tried_one = c.make_move.ensures;
      keyed = c.zobrist.ensures;
      valued = c.evaluate.ensures;
      analysed = c.new-analysis.ensures;
      status_given = c.reported_status.ensures;
      judged = c.evaluate_move.ensures;
      searched = c.analyze-report.ensures;
      bounded = c.bound_depth.ensures;
      opened = c.open_boards.ensures;
      compared_first = c.equivalent.ensures;
      compared_second = c.equivalent-2.ensures;
    })
