-- The endgame analysis: critical boards, what they prove, and what can still be won.
use Rattle.std.specs.Prelude.{Bool, true, false, not, cond, ◌||◌, ◌&&◌, List, [], ◌∷◌, ◌++◌, ℕ, ◌+◌, eqb, Option, None, Some}
use Rattle.rules.specs.declared.Player.{Player}
use Rattle.rules.specs.declared.Player.TheVariants.{X, O}
use Rattle.rules.specs.declared.CellState.{CellState}
use Rattle.base.specs.Branch.{when◌then◌else◌}
use Rattle.base.specs.Lists.{any, all}
use Rattle.base.specs.Checks.{all_pass, first_failed}
use Rattle.base.specs.Update.{update}
use Rattle.rules.specs.Board.{other, blank, mine, nine, has_line}
use Rattle.rules.specs.Position.{Position, unfinished, open_board, won_boards, free_cell}
use Rattle.rules.specs.Play.{board_of, cell_of, checks}
use Rattle.rules.specs.Sound.{sound}
use Rattle.rules.specs.Status.{Status, unproven, for_player, draw_or_other, merge}

-- ---- critical boards
-- with place i besides, own has a line
unfoldable pub completes : (ℕ → Bool) → ℕ → Bool
completes own i = has_line (update own i true)

-- w wins the board by cell c
unfoldable pub winning : Player → (ℕ → CellState) → ℕ → Bool
winning w row c = blank (row c) && completes (λ i. mine w (row i)) c

-- board b is in play, wins w the game, and can be won by w with one cell
unfoldable pub critical : Position → Player → ℕ → Bool
critical p w b = open_board p b && (completes (won_boards p w) b && any (winning w (p.cells b)) nine)

unfoldable pub has_critical : Position → Player → Bool
has_critical p w = any (critical p w) nine

-- where w has a critical board: sent to board b, w may play in one
unfoldable pub suits : Position → Player → ℕ → Bool
suits p w b = not (open_board p b) || critical p w b

-- every empty cell of board b sends w where it suits
unfoldable pub all_suit : Position → Player → ℕ → Bool
all_suit p w b = all (λ c. not (free_cell p b c) || suits p w c) nine

-- ---- the side to move, w, wins: at once, or by sending the other side from board b to board i, which then must send w where it suits
unfoldable pub lure : Position → Player → ℕ → ℕ → Bool
lure p w b i =
    free_cell p b i && (open_board p i &&
    (not (critical p w i) && (not (critical p (other w) i) && (not (eqb i b) && all_suit p w i))))

unfoldable pub attack : Position → Player → Option ℕ → Bool
attack p w None = true
attack p w (Some b) = critical p w b || any (lure p w b) nine

unfoldable pub prove_attacker : Position → Bool
prove_attacker p = has_critical p p.turn && attack p p.turn p.next_board

-- ---- the side to move loses: every cell of the board that is due sends the other side, v, where it suits, and v's critical boards are
-- elsewhere
unfoldable pub forced : Position → Player → Option ℕ → Bool
forced p v None = false
forced p v (Some b) = not (critical p v b) && all_suit p v b

unfoldable pub forced_loss : Position → Bool
forced_loss p = has_critical p (other p.turn) && forced p (other p.turn) p.next_board

-- ---- w's boards and the open ones still hold a line
unfoldable pub winnable : Position → Player → Bool
winnable p w = has_line (λ b. won_boards p w b || open_board p b)

-- ---- the status of an unfinished position; none stands for the Rust's panic at a merge
unfoldable pub proven : Player → Bool → Bool → Status
proven t wins loses = when wins then (λ _. for_player t) else λ _. when loses then (λ _. for_player (other t)) else λ _. unproven

unfoldable pub narrow : Bool → Status → Option Status → Option Status
narrow can t None = None
narrow can t (Some s) = when can then (λ _. Some s) else λ _. merge s t

unfoldable pub combine : Player → Bool → Bool → Bool → Bool → Option Status
combine t wins loses x o = narrow o (draw_or_other O) (narrow x (draw_or_other X) (Some (proven t wins loses)))

unfoldable pub merged : Position → Option Status
merged p = combine p.turn (prove_attacker p) (forced_loss p) (winnable p X) (winnable p O)

-- ---- the six counts of one analysis
pub record EndgameStats : Type 0 where
  pub attacker_critical : ℕ
  pub defender_critical : ℕ
  pub both_critical : ℕ
  pub unwinnable : ℕ
  pub prove_attacker : ℕ
  pub prove_defender : ℕ

abbrev pub no_endgame_stats : EndgameStats
no_endgame_stats =
    record { attacker_critical = 0; defender_critical = 0; both_critical = 0; unwinnable = 0; prove_attacker = 0; prove_defender = 0 }

unfoldable pub endgame_stats : Position → EndgameStats
endgame_stats p =
    let a = has_critical p p.turn in
    let d = has_critical p (other p.turn) in
    let wins = prove_attacker p in
    record {
      attacker_critical = cond a 1 0;
      defender_critical = cond d 1 0;
      both_critical = cond (a && d) 1 0;
      unwinnable = cond (winnable p X) 0 1 + cond (winnable p O) 0 1;
      prove_attacker = cond wins 1 0;
      prove_defender = cond (not wins && forced_loss p) 1 0;
    }

-- ---- the analysis: a finished game gives the full set, an unfinished unsound one is refused
pub record Analysis : Type 0 where
  -- 14, or 0 where it is not refused
  pub refusal : ℕ
  pub status : Status
  pub stats : EndgameStats

unfoldable pub or_unproven : Option Status → Status
or_unproven None = unproven
or_unproven (Some s) = s

-- what is asked of a position: that it is not unfinished and unsound
abbrev pub analysis_checks : Position → List (Bool × ℕ)
analysis_checks p = (not (unfinished p && not (sound p)), 14) ∷ []

unfoldable pub analysis : Position → Analysis
analysis p =
    when unfinished p && sound p then (λ _. record { refusal = 0; status = or_unproven (merged p); stats = endgame_stats p }) else
    λ _. record { refusal = first_failed (analysis_checks p); status = unproven; stats = no_endgame_stats }

-- ---- a move, judged: 14 first, then what play refuses. The Rust's answer, which calls some moves lost that win at once
pub record Judged : Type 0 where
  -- 14, 9 to 13, or 0 where it is not refused
  pub refusal : ℕ
  pub status : Status

unfoldable pub judge : Position → ℕ → Status
judge p m =
    let v = other p.turn in
    when has_critical p v && (not (critical p v (board_of m)) && suits p v (cell_of m)) then (λ _. for_player v) else λ _. unproven

abbrev pub judging_checks : Position → ℕ → List (Bool × ℕ)
judging_checks p m = analysis_checks p ++ checks p (board_of m) (cell_of m)

unfoldable pub evaluate_move : Position → ℕ → Judged
evaluate_move p m = record {
  refusal = first_failed (judging_checks p m);
  status = when all_pass (judging_checks p m) then (λ _. judge p m) else λ _. unproven;
}
