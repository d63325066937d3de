-- Document 01's twelve examples, over the definitions: one fact.
use Rattle.std.specs.Prelude.{◌≡◌, List, [], ◌++◌, ℕ, negsuc, take, replicate, length}
use Rattle.rules.specs.Position.{start}
use Rattle.rules.specs.Play.{tried}
use Rattle.rules.specs.Hash.{zobrist}
use Rattle.rules.specs.Evaluation.{default_weights, no_draw_winner, evaluate}
use Rattle.text.specs.Bytes.{quoted}
use Rattle.text.specs.Reading.{text_refusal, read}
use Rattle.text.specs.MoveText.{reads_move, move_refusal, read_move}
use Rattle.program_line.specs.Answered.{answer_line}

-- nine empty boards, and three with eight of X's cells and six empty ones
unfoldable pub e9 : List ℕ
e9 = quoted "........./........./........./........./........./........./........./........./........."

unfoldable pub c9 : List ℕ
c9 = quoted "XXX....../XXX....../XX......./........./........./........./........./........./........."

unfoldable pub empty_position : List ℕ
empty_position = quoted "X;.........;" ++ e9

pub record Twelve : Type 0 where
  pub first : answer_line (empty_position ++ quoted " 1") ≡ quoted "XOD 81 1 16 82 ee"
  pub second : answer_line (quoted "X;XX@......;" ++ (c9 ++ quoted " 3")) ≡ quoted "X 7 1 1152921504606846976 8 cc"
  pub third : answer_line (quoted "O;XXX......;" ++ (e9 ++ quoted " 5")) ≡ quoted "XOD 0 1 -1152921504606846976 1 -"
  pub fourth : answer_line (quoted "X 3") ≡ quoted "E 2"
  pub empty_text : text_refusal (read []) ≡ 2
  pub one_short : (length (take 100 empty_position) ≡ 100) × (text_refusal (read (take 100 empty_position)) ≡ 6)
  pub longest : (length (empty_position ++ replicate 155 0x2e) ≡ 256) ×
      (text_refusal (read (empty_position ++ replicate 155 0x2e)) ≡ 0)
  pub too_long : (length (empty_position ++ replicate 156 0x2e) ≡ 257) ×
      (text_refusal (read (empty_position ++ replicate 156 0x2e)) ≡ 1)
  pub last_move : read_move (quoted "ii") ≡ reads_move 0x88
  pub no_move_text : move_refusal (read_move (quoted "ij")) ≡ 8
  pub empty_key : zobrist start ≡ 5407203028010692663
  pub centre : evaluate (no_draw_winner default_weights) (tried start 0x44) ≡ negsuc 15
