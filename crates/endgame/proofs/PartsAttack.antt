-- The proofs of the side to move's win and loss: a critical set holds no board over 8, as no side of a sound position has a line yet, and
-- the sets of boards say what the written tests say of each board.
use Rattle.std.specs.Prelude.{None, Some}
use mathlib.Core.Path.{◌≡◌, refl, sym, ap, ap₂, ◌∙◌}
use mathlib.Core.Bool.{Bool, true, false, not, ◌||◌, ◌&&◌}
use Prim.Native.Nat.{ℕ, ◌≤◌, ◌<◌}
use native.Mathlib.Omega.{arith}
use lib.Bits.{bit_or}
use lib.Dec.{T, eqb, T_not}
use borrow.Author.Tests.{eq-eqb, ne_eqb}
use Rattle.base.specs.Bits.{bit, digits}
use Rattle.base.specs.Branch.{when◌then◌else◌}
use Rattle.base.specs.Update.{update}
use Rattle.base.specs.Lists.{any, all}
use Rattle.base.proofs.ListsAgree.{any_same, all_same, false_by}
use Rattle.base.proofs.Bool.{always}
use Rattle.base.proofs.ListsEvery.{same_b, same_b_eq}
use Rattle.rules.specs.declared.Player.{Player}
use Rattle.rules.specs.Board.{other, nine, has_line}
use Rattle.rules.specs.Position.{Position, open_board, won_boards, free_cell}
use Rattle.rules.specs.Play.{board_of, cell_of}
use Rattle.rules.specs.Sound.{sound}
use Rattle.rules.specs.Status.{unproven, for_player}
use Rattle.rules.specs.Endgame.{completes, critical, has_critical, suits, all_suit, lure, attack, prove_attacker, forced, forced_loss}
use Rattle.rules.specs.Endgame.{judge}
use Rattle.rules.proofs.Board.{nine_in}
use Rattle.rules.proofs.Endgame.{crit→}
use Rattle.rules.proofs.Sound.{sound→}
use Rattle.lines.proofs.Masks.{line_same}
use Rattle.endgame.proofs.PartsSets.{set_bit, set_bit_all, none_in, joined_bit}

-- ---- critical sets
update_else : (own : ℕ → Bool) (b k : ℕ) → (b ≡ k → ⊥) → update own b true k ≡ own k
unfolding update when◌then◌else◌
update_else own b k q = rw (ne_eqb b k q)

pub critical_past : (p : Position) → T (sound p) → (w : Player) (b : ℕ) → 9 ≤ b → critical p w b ≡ false
unfolding completes
critical_past p s w b h = false_by (critical p w b) (λ t.
    T_not (has_line (won_boards p w)) ((sound→ p s).no_line w)
    (rw (line_same (update (won_boards p w) b true) (won_boards p w) (λ k l. update_else (won_boards p w) b k (λ e. omega arith))) at
    (crit→ p w b t).boards))

module _ (p : Position) (w : Player) (n : ℕ) (e : n ≡ digits (critical p w) 9) where
  pub set_critical : T (sound p) → (b : ℕ) → bit n b ≡ critical p w b
  set_critical s = set_bit_all (critical p w) n e (critical_past p s w)

  pub known_critical : T (sound p) → (b : ℕ) (r : Bool) → r ≡ bit n b → critical p w b ≡ r
  known_critical s b r f = sym (set_critical s b) ∙ sym f

  pub some_critical : (r : Bool) → eqb n 0 ≡ r → has_critical p w ≡ not r
  unfolding has_critical
  some_critical r f = turned (any (critical p w) nine) r (sym (none_in (critical p w) n e) ∙ f)
    where
      turned : (a b : Bool) → not a ≡ b → a ≡ not b
      turned true b q = ap not q
      turned false b q = ap not q

  pub none_critical : n ≡ 0 → has_critical p w ≡ false
  none_critical z = some_critical true (eq-eqb n 0 z)

  pub any_critical : (n ≡ 0 → ⊥) → has_critical p w ≡ true
  any_critical z = some_critical false (ne_eqb n 0 z)

  -- the closed and the critical boards are those that suit
  module _ (done : ℕ) (d : done ≡ digits (λ b. not (open_board p b)) 9) where
    pub set_suits : (b : ℕ) → b < 9 → bit (bit_or done n) b ≡ suits p w b
    unfolding suits
    set_suits = joined_bit (λ b. not (open_board p b)) (critical p w) done n d e

    pub sends_suit : (b : ℕ) → all (λ c. not (free_cell p b c) || bit (bit_or done n) c) nine ≡ all_suit p w b
    unfolding all_suit
    sends_suit b = all_same (λ c. not (free_cell p b c) || bit (bit_or done n) c) (λ c. not (free_cell p b c) || suits p w c) nine
        (λ c i. ap (λ (x : Bool). not (free_cell p b c) || x) (set_suits c (nine_in c i)))

-- ---- the side to move wins
module _ (p : Position) where
  pub no_attack : has_critical p p.turn ≡ false → false ≡ prove_attacker p
  unfolding prove_attacker
  no_attack e = rw e

  module _ (e : has_critical p p.turn ≡ true) where
    pub attack_free : p.next_board ≡ None → true ≡ prove_attacker p
    unfolding prove_attacker attack
    attack_free d = rw (e, d)

    module _ (b : ℕ) (d : p.next_board ≡ Some b) where
      attack_at : (r : Bool) → critical p p.turn b ≡ r → (r || any (lure p p.turn b) nine) ≡ prove_attacker p
      unfolding prove_attacker attack
      attack_at r c = sym (rw e (ap (attack p p.turn) d) ∙ ap (λ (x : Bool). x || any (lure p p.turn b) nine) c)

      pub attack_here : critical p p.turn b ≡ true → true ≡ prove_attacker p
      attack_here = attack_at true

      pub attack_by_lure : critical p p.turn b ≡ false → any (lure p p.turn b) nine ≡ prove_attacker p
      attack_by_lure = attack_at false

-- the boards to which the code would send the other side are those that lure it
regrouped : Bool → Bool → Bool → Bool → Bool → Bool → Bool
regrouped a b c d e f = same_b ((a && (b && (not (c || d) && not e))) && f) (a && (b && (not c && (not d && (not e && f)))))

regroup : (a b c d e f : Bool) → ((a && (b && (not (c || d) && not e))) && f) ≡ (a && (b && (not c && (not d && (not e && f)))))
unfolding regrouped
regroup a b c d e f = same_b_eq _ _ (always 6 regrouped tt a b c d e f)

module _ (p : Position) (w : Player) (mine others done dests b : ℕ)
    (e : mine ≡ digits (critical p w) 9) (d : others ≡ digits (critical p (other w)) 9)
    (c : done ≡ digits (λ b. not (open_board p b)) 9)
    (g : dests ≡ digits (λ i. free_cell p b i && (open_board p i && (not (bit (bit_or mine others) i) && not (eqb i b)))) 9) where
  pub lures : any (λ i. bit dests i && all (λ k. not (free_cell p i k) || bit (bit_or done mine) k) nine) nine ≡ any (lure p w b) nine
  unfolding lure
  lures =
      any_same (λ i. bit dests i && all (λ k. not (free_cell p i k) || bit (bit_or done mine) k) nine) (lure p w b) nine
      (λ i m. let h = nine_in i m in
      ap₂ ◌&&◌ (set_bit _ dests g i h ∙ ap (λ (x : Bool). free_cell p b i && (open_board p i && (not x && not (eqb i b))))
      (joined_bit (critical p w) (critical p (other w)) mine others e d i h))
      (sends_suit p w mine e done c i)
      ∙ regroup (free_cell p b i) (open_board p i) (critical p w i) (critical p (other w) i) (eqb i b) (all_suit p w i))

-- ---- the side to move loses
module _ (p : Position) where
  pub no_threat : has_critical p (other p.turn) ≡ false → false ≡ forced_loss p
  unfolding forced_loss
  no_threat e = rw e

  module _ (e : has_critical p (other p.turn) ≡ true) where
    pub not_forced : p.next_board ≡ None → false ≡ forced_loss p
    unfolding forced_loss forced
    not_forced d = rw (e, d)

    module _ (b : ℕ) (d : p.next_board ≡ Some b) where
      forced_at : (r : Bool) → critical p (other p.turn) b ≡ r → (not r && all_suit p (other p.turn) b) ≡ forced_loss p
      unfolding forced_loss forced
      forced_at r c = sym (rw e (ap (forced p (other p.turn)) d) ∙ ap (λ (x : Bool). not x && all_suit p (other p.turn) b) c)

      pub blockable : critical p (other p.turn) b ≡ true → false ≡ forced_loss p
      blockable = forced_at true

      pub all_lose : critical p (other p.turn) b ≡ false → all_suit p (other p.turn) b ≡ forced_loss p
      all_lose = forced_at false

-- ---- a move, judged
module _ (p : Position) (m : ℕ) where
  abbrev v : Player
  v = other p.turn

  pub judged_safe : has_critical p v ≡ false → unproven ≡ judge p m
  unfolding judge when◌then◌else◌
  judged_safe e = rw e

  pub judged_blocking : critical p v (board_of m) ≡ true → unproven ≡ judge p m
  unfolding judge when◌then◌else◌
  judged_blocking c = go (has_critical p v)
    where
      go : (a : Bool) → unproven ≡ (when a && (not (critical p v (board_of m)) && suits p v (cell_of m)) then (λ _. for_player v)
          else λ _. unproven)
      go true = rw c
      go false = refl

  module _ (e : has_critical p v ≡ true) (c : critical p v (board_of m) ≡ false) where
    pub judged_lost : suits p v (cell_of m) ≡ true → for_player v ≡ judge p m
    unfolding judge when◌then◌else◌
    judged_lost s = rw (e, c, s)

    pub judged_open : suits p v (cell_of m) ≡ false → unproven ≡ judge p m
    unfolding judge when◌then◌else◌
    judged_open s = rw (e, c, s)

-- ---- what `search` takes of these, in the functions that cite them
pub ruleset critical_sets = (none_critical, any_critical)

pub ruleset attacks = (critical_sets, no_attack, attack_free)

pub ruleset losses = (critical_sets, no_threat, not_forced)
