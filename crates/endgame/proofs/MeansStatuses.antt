-- Statuses: the code's sets are the written ones. At no position are they in conflict, as `merged_is_a_set` of the rules shows.
use Rattle.std.specs.Prelude.{Option, None, Some, option_map, IsSome}
use mathlib.Core.Path.{◌≡◌, refl, ap, ap₂, ◌∙◌}
use mathlib.Core.Bool.{Bool, true, false, not, cond, ◌&&◌}
use Prim.Native.Nat.{ℕ, ◌+◌}
use native.Mathlib.Omega.{arith}
use lib.Bits.{bit_and}
use mir.Val.{bool_byte}
use Rattle.base.specs.Branch.{when◌then◌else◌}
use Rattle.rules.specs.declared.Player.{Player}
use Rattle.rules.specs.declared.Player.TheVariants.{X, O}
use Rattle.rules.specs.Board.{other}
use Rattle.rules.specs.Status.{Status as Set, unproven, for_player, from_byte}
use Rattle.rules.specs.Position.{Position}
use Rattle.rules.specs.Endgame.{has_critical, prove_attacker, forced_loss, winnable, proven, narrow, combine, merged, endgame_stats}
use Rattle.rules.specs.Endgame.{or_unproven}
use Rattle.rules.proofs.Endgame.{merged_is_a_set}
use Rattle.status.specs.declared.Status.{Status}
use Rattle.status.specs.Sets.{status_of}
use Rattle.status.proofs.Sets.{merge_is_common}
use Rattle.endgame.specs.declared.EndgameStats.{EndgameStats}
use Rattle.endgame.specs.Means.{endgame_stats_of, Agrees}

-- ---- what is proved
module _ (t : Player) (wins loses : Bool) where
  pub proven_won : wins ≡ true → for_player t ≡ proven t wins loses
  unfolding proven when◌then◌else◌
  proven_won e = rw e

  pub proven_lost : wins ≡ false → loses ≡ true → for_player (other t) ≡ proven t wins loses
  unfolding proven when◌then◌else◌
  proven_lost e d = rw (e, d)

  pub proven_open : wins ≡ false → loses ≡ false → unproven ≡ proven t wins loses
  unfolding proven when◌then◌else◌
  proven_open e d = rw (e, d)

pub ruleset proofs_of_a_side = (proven_won, proven_lost, proven_open)

-- a loss is looked for only without a win
pub loss_after_win : (t : Player) (wins loses x o : Bool) → combine t wins (not wins && loses) x o ≡ combine t wins loses x o
unfolding combine proven when◌then◌else◌
loss_after_win t true loses x o = refl
loss_after_win t false loses x o = refl

-- ---- what is left of it
module _ (can : Bool) (t : Set) (s : Option Set) where
  pub narrow_can : can ≡ true → s ≡ narrow can t s
  unfolding narrow when◌then◌else◌
  narrow_can e = rw e (go s)
    where
      go : (s : Option Set) → s ≡ narrow true t s
      go None = refl
      go (Some s) = refl

module _ (can : Bool) (left : Status) (t : Set) (s : Option Set) (l : left ≡ status_of t) where
  pub narrow_set : can ≡ false → (a : Status) → Some a ≡ option_map status_of s →
      option_map status_of (from_byte (bit_and a.bits left.bits))
      ≡ option_map status_of (narrow can t s)
  unfolding narrow when◌then◌else◌
  narrow_set e a q = rw (e, l) (go s q)
    where
      go : (s : Option Set) → Some a ≡ option_map status_of s → option_map status_of (from_byte (bit_and a.bits (status_of t).bits))
          ≡ option_map status_of (narrow false t s)
      go None q = absurd (let z : ◌≡◌ {A = ℕ} 0 1 = cc in omega arith)
      go (Some s) q = let h : a ≡ status_of s = cc in rw (h, merge_is_common s t)

  pub narrow_none : None ≡ option_map status_of s → None ≡ option_map status_of (narrow can t s)
  unfolding narrow
  narrow_none q = go s q
    where
      go : (s : Option Set) → None ≡ option_map status_of s → None ≡ option_map status_of (narrow can t s)
      go None q = refl
      go (Some s) q = absurd (let z : ◌≡◌ {A = ℕ} 0 1 = cc in omega arith)

-- the set that is left, if there is one
pub set_left : (s : Option Set) (a : Status) → Some a ≡ option_map status_of s → a ≡ status_of (or_unproven s)
unfolding or_unproven
set_left None a q = absurd (let z : ◌≡◌ {A = ℕ} 0 1 = cc in omega arith)
set_left (Some s) a q = cc

-- and there is one where the sets agree
pub some_left : (s : Option Set) → Agrees s → (r : Option Status) → r ≡ option_map status_of s → IsSome r
some_left s a r q = rw (q, a.1) refl

-- as they do at every position: the rules' law of the merges
module _ (p : Position) (t : Player) (wins loses x o : Bool)
    (et : t ≡ p.turn) (ew : wins ≡ prove_attacker p) (el : loses ≡ (not (prove_attacker p) && forced_loss p))
    (ex : x ≡ winnable p X) (eo : o ≡ winnable p O) where
  pub combined_is_merged : combine t wins loses x o ≡ merged p
  unfolding merged
  combined_is_merged =
      (λ i. combine (et i) (ew i) (el i) (ex i) (eo i)) ∙ loss_after_win p.turn (prove_attacker p) (forced_loss p) (winnable p X)
      (winnable p O)

  pub sets_agree : Agrees (combine t wins loses x o)
  sets_agree = let r = merged_is_a_set p in (r.0, combined_is_merged ∙ r.1)

-- ---- the counts
one_if : (b : Bool) → bool_byte b ≡ cond b 1 0
one_if true = refl
one_if false = refl

one_if_not : (b : Bool) → bool_byte (not b) ≡ cond b 0 1
one_if_not true = refl
one_if_not false = refl

pub counts : (p : Position) (s : EndgameStats) (a d wins loses x o : Bool) → a ≡ has_critical p p.turn →
    d ≡ has_critical p (other p.turn) →
    wins ≡ prove_attacker p → loses ≡ (not (prove_attacker p) && forced_loss p) → x ≡ winnable p X → o ≡ winnable p O →
    s.attacker_critical ≡ bool_byte a → s.defender_critical ≡ bool_byte d → s.both_critical ≡ bool_byte (a && d) →
    s.unwinnable ≡ bool_byte (not x) + bool_byte (not o) → s.prove_attacker ≡ bool_byte wins → s.prove_defender ≡ bool_byte loses →
    endgame_stats_of s ≡ endgame_stats p
unfolding endgame_stats
counts p s a d wins loses x o ea ed ew el ex eo sa sd sb su sw sl = λ i. record {
  attacker_critical = (sa ∙ one_if a ∙ ap (λ (b : Bool). cond b 1 0) ea) i;
  defender_critical = (sd ∙ one_if d ∙ ap (λ (b : Bool). cond b 1 0) ed) i;
  both_critical = (sb ∙ one_if (a && d) ∙ ap₂ (λ (a d : Bool). cond (a && d) 1 0) ea ed) i;
  unwinnable = (su ∙ ap₂ ◌+◌ (one_if_not x ∙ ap (λ (b : Bool). cond b 0 1) ex) (one_if_not o ∙ ap (λ (b : Bool). cond b 0 1) eo)) i;
  prove_attacker = (sw ∙ one_if wins ∙ ap (λ (b : Bool). cond b 1 0) ew) i;
  prove_defender = (sl ∙ one_if loses ∙ ap (λ (b : Bool). cond b 1 0) el) i;
}
