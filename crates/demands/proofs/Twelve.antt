-- The definitions, run.
use mathlib.Core.Path.{◌≡◌, refl, ap, ◌∙◌}
use mathlib.Core.List.{◌++◌}
use Rattle.rules.specs.Position.{start}
use Rattle.text.proofs.Examples.{empty_text_reads, empty_text as text_of_101, e9 as cells_of_101}
use Rattle.base.specs.Branch.{when◌then◌else◌}
use Rattle.base.specs.Lists.{any, all, filter, elem, concat_map}
use Rattle.base.specs.Update.{update}
use Rattle.base.specs.Integers.{sum}
use Rattle.rules.specs.Board.{has_line, result_of}
use Rattle.base.specs.Checks.{all_pass, first_failed}
use Rattle.rules.specs.Play.{accepts, after, play, left_by, tried}
use Rattle.rules.specs.Moves.{places, moves}
use Rattle.rules.specs.Sound.{sound, proper}
use Rattle.rules.specs.Hash.{cell_key, board_key, next_board_key, xors, cells_hash, board_hash, hash, with_turn, zobrist, hash_after}
use Rattle.rules.specs.Evaluation.{accepted_weights, places_in, unless_both, board_line, board_score, overall_line, score, evaluate}
use Rattle.rules.specs.Endgame.{completes, winning, critical, has_critical, suits, all_suit, lure, attack, prove_attacker, forced}
use Rattle.rules.specs.Endgame.{forced_loss, winnable, proven, narrow, combine, merged, endgame_stats, or_unproven, analysis}
use Rattle.rules.specs.Status.{from_byte, merge}
use Rattle.text.specs.Reading.{Reading, reads, side_of, overall_mark, cell_mark, sections, first_bad, last_at, fault_at, first_fault}
use Rattle.text.specs.Reading.{cell_in, state_in, said, read_cells, read_overall, read}
use Rattle.text.specs.ProgramLine.{parted, depth_of, in_places, decimal, signed, move_letters}
use Rattle.text.specs.MoveText.{read_letters}
use Rattle.theory.specs.Table.{from_word, entry_of, off, begins, look_up, store, suffices, bound_of}
use Rattle.theory.specs.Memory.{begin, enter, leaf, hit, answered, cut, some_move, hints}
use Rattle.theory.specs.OrderedSearch.{unless_stopped, entering, probed, on_probe, with_stored, set_first, fresh, candidates, over_moves}
use Rattle.theory.specs.OrderedSearch.{search}
use Rattle.theory.specs.Deepening.{on_outcome, deepen, analyze}
use Rattle.theory.specs.Reported.{entry_refusal, reported}
use Rattle.program_line.specs.Answered.{reading_text, answer_line, report_text, position_text}
use Rattle.text.specs.Bytes.{quoted}
use Rattle.demands.specs.Twelve.{e9, c9, empty_position, Twelve}

-- what the facts compute with
asking : Unit {0}
unfolding parted depth_of quoted e9 empty_position when◌then◌else◌
asking = tt

computing : Unit {0}
unfolding when◌then◌else◌ any all filter elem concat_map update sum has_line result_of first_failed accepts all_pass after play left_by
    tried
    places moves sound proper cell_key board_key next_board_key xors cells_hash board_hash hash with_turn zobrist hash_after places_in
    accepted_weights unless_both board_line board_score overall_line score evaluate completes winning critical has_critical suits
    all_suit lure attack
    prove_attacker forced forced_loss winnable proven narrow combine merged endgame_stats or_unproven analysis from_byte merge side_of
    overall_mark cell_mark sections first_bad last_at fault_at first_fault cell_in state_in said read_cells read_overall read parted
    depth_of in_places decimal signed move_letters read_letters from_word entry_of off begins look_up store suffices bound_of begin enter
    leaf hit answered cut some_move hints unless_stopped entering probed on_probe with_stored set_first fresh candidates over_moves search
    on_outcome deepen analyze entry_refusal reported report_text position_text quoted e9 c9 empty_position
computing = tt

-- the empty board's text, as the worked examples have it
same_text : empty_position ≡ text_of_101
unfolding computing text_of_101 cells_of_101
same_text = refl

empty_reads : read empty_position ≡ reads start
empty_reads = ap read same_text ∙ empty_text_reads

first_asks : answer_line (empty_position ++ quoted " 1") ≡ reading_text (read empty_position) 1
unfolding asking
first_asks = refl

first_answers : reading_text (reads start) 1 ≡ quoted "XOD 81 1 16 82 ee"
unfolding computing
first_answers = refl

pub twelve : Twelve
unfolding computing
twelve = record {
  first = first_asks ∙ ap (λ (r : Reading). reading_text r 1) empty_reads ∙ first_answers;
  second = refl;
  third = refl;
  fourth = refl;
  empty_text = refl;
  one_short = (refl, refl);
  longest = (refl, refl);
  too_long = (refl, refl);
  last_move = refl;
  no_move_text = refl;
  empty_key = refl;
  centre = refl;
}
