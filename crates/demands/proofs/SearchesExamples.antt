-- An unfinished game in which no move is legal: the next board is in play, and full.
use mathlib.Core.Path.{refl}
use mathlib.Core.List.{List, []}
use Prim.Native.Nat.{ℕ}
use Rattle.base.specs.Branch.{when◌then◌else◌}
use Rattle.base.specs.Lists.{any, all, filter, elem, concat_map}
use Rattle.base.specs.Bits.{bit, digits}
use Rattle.base.specs.Checks.{all_pass, first_failed}
use Rattle.rules.specs.Board.{has_line, result_of}
use Rattle.rules.specs.Play.{accepts}
use Rattle.rules.specs.Moves.{places, moves}
use Rattle.rules.specs.Hash.{with_turn}
use Rattle.rules.specs.Evaluation.{accepted_weights}
use Rattle.text.specs.Bytes.{quoted}
use Rattle.text.specs.Reading.{side_of, overall_mark, cell_mark, sections, first_bad, last_at, fault_at, first_fault, cell_in, state_in}
use Rattle.text.specs.Reading.{said, read_cells, read_overall, read}
use Rattle.theory.specs.Table.{off, look_up}
use Rattle.theory.specs.Reported.{entry_refusal}
use Rattle.boards.specs.Packed.{cell_at, state_at}
use Rattle.game.specs.Neat.{row_bits, state_bits}
use Rattle.notation.specs.Parsed.{game_for}
use Rattle.minimax.specs.Report.{empty_responses}
use Rattle.demands.specs.Demand1.{program_config}
use Rattle.demands.specs.Searches.{NoLegalMove}

abbrev full_board : List ℕ
full_board = quoted "X;@........;XOXXOOOXX/........./........./........./........./........./........./........./........."

pub no_legal_move_occurs : NoLegalMove empty_responses (game_for (read full_board)) (program_config 3) []
unfolding quoted when◌then◌else◌ any all filter elem concat_map bit digits all_pass first_failed has_line result_of accepts places moves
    accepted_weights with_turn side_of overall_mark cell_mark sections first_bad last_at fault_at first_fault cell_in state_in said
    read_cells read_overall read off look_up entry_refusal cell_at state_at row_bits state_bits
no_legal_move_occurs = record { accepted = refl; goes_on = tt; none_listed = refl; no_entry = refl }
