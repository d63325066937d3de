-- Each call's promise, of what it gave.
use mathlib.Core.Path.{ap, ◌∙◌}
use Rattle.line_buffer.specs.declared.LineBuffer.{LineBuffer}
use Rattle.line_buffer.specs.Buffer.{buffer_asks, pushed_all}
use Rattle.answer_text.specs.AnswerBytes.{text_of_bytes}
use Rattle.program_line.specs.Answered.{asked_text}
use Rattle.demands.specs.Demand1.{EachCall}
use Rattle.demands.proofs.Demand1.{demand_1}
use Rattle.demands.proofs.entry_answers.Goals as goal

pub returns : goal.returns
returns c =
    let a = c.args in
    let calls : EachCall a.text.now a.line.now a.game a.m a.board a.cell a.memory a.config a.words.now c.analyze.new.words _ = record {
      parsed = c.parse.ensures;
      move_parsed = c.parse_move.ensures;
      tried = c.make_move.ensures;
      looked_cell = c.at.ensures;
      looked_board = c.board_state.ensures;
      built = c.from_coords.ensures;
      valued = c.evaluate.ensures;
      analysed = c.new.ensures;
      judged = c.evaluate_move.ensures;
      searched = c.analyze.ensures;
      answered =
          c.answer.ensures ∙ ap (λ (x : LineBuffer). text_of_bytes (asked_text (buffer_asks x)))
          (c.push_all.ensures ∙ ap (λ (x : LineBuffer). pushed_all x a.line.now) c.new-held.ensures);
    } in
    record {
      demand = demand_1 a.text.now a.line.now a.game a.m a.board a.cell a.memory a.config a.words.now c.analyze.new.words _ calls;
      calls = calls;
    }
