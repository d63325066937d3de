-- What an analysis and a judged move mean: the numbers of document 01, and the rules' status and counts.
use Rattle.std.specs.Prelude.{◌≡◌, Bool, ℕ, Option, Some, option_map, Result, Ok, Err}
use Rattle.rules.specs.Status.{Status as Set, unproven}
use Rattle.rules.specs.Endgame.{EndgameStats as Counts, no_endgame_stats, narrow, analysis, evaluate_move}
use Rattle.rules.specs.Refusal.{answer_number}
use Rattle.status.specs.declared.Status.{Status}
use Rattle.status.specs.Sets.{status_of}
use Rattle.boards.specs.declared.moves.Move.{Move}
use Rattle.boards.specs.Answers.{move_error_number}
use Rattle.game.specs.declared.Game.{Game}
use Rattle.game.specs.Meaning.{position_of}
use Rattle.endgame.specs.declared.EndgameStats.{EndgameStats}
use Rattle.endgame.specs.declared.Unsound.{Unsound}
use Rattle.endgame.specs.declared.Analysis.{Analysis}
use Rattle.endgame.specs.declared.MoveStatusError.{MoveStatusError}
use Rattle.endgame.specs.declared.MoveStatusError.TheVariants.{Unsound as NotSound, Refused}

abbrev pub unsound_number : Unsound → ℕ
unsound_number why = 14

abbrev pub move_status_number : MoveStatusError → ℕ
move_status_number NotSound = 14
move_status_number (Refused why) = move_error_number why

abbrev pub endgame_stats_of : EndgameStats → Counts
endgame_stats_of s = record {
  attacker_critical = s.attacker_critical;
  defender_critical = s.defender_critical;
  both_critical = s.both_critical;
  unwinnable = s.unwinnable;
  prove_attacker = s.prove_attacker;
  prove_defender = s.prove_defender;
}

-- what is reported of an analysis: refused, the full set and no counts
abbrev pub analysis_status : Result Analysis Unsound → Status
analysis_status (Ok a) = a.proven
analysis_status (Err why) = status_of unproven

abbrev pub analysis_stats : Result Analysis Unsound → Counts
analysis_stats (Ok a) = endgame_stats_of a.stats
analysis_stats (Err why) = no_endgame_stats

-- and of a judged move: refused, the full set
abbrev pub move_status : Result Status MoveStatusError → Status
move_status (Ok s) = s
move_status (Err why) = status_of unproven

-- what `Analysis::new` gives
pub record Analyses (g : Game) (r : Result Analysis Unsound) : Type 0 where
  pub refusal : answer_number unsound_number r ≡ (analysis (position_of g)).refusal
  pub status : analysis_status r ≡ status_of (analysis (position_of g)).status
  pub stats : analysis_stats r ≡ (analysis (position_of g)).stats

-- what `evaluate_move` gives
pub record Judges (g : Game) (m : Move) (r : Result Status MoveStatusError) : Type 0 where
  pub number : answer_number move_status_number r ≡ (evaluate_move (position_of g) m.bits).refusal
  pub status : move_status r ≡ status_of (evaluate_move (position_of g) m.bits).status

-- what `limited` gives: of a set, or of none, what `narrow` leaves
pub record Narrows (can : Bool) (left : Status) (proven r : Option Status) : Type 0 where
  pub narrowed : (t : Set) (s : Option Set) → left ≡ status_of t → proven ≡ option_map status_of s
      → r ≡ option_map status_of (narrow can t s)

-- the sets are not in conflict: one is left
abbrev pub Agrees : Option Set → Type 0
Agrees s = (t : Set) × (s ≡ Some t)
