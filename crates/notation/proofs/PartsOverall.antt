-- The first i overall marks, read: the states of their boards, and what is due.
use Rattle.std.specs.Prelude.{Option, None, Some}
use mathlib.Core.Path.{◌≡◌, refl, sym, ap, ◌∙◌, fun_ext}
use mathlib.Core.List.{List, []}
use Prim.Native.Nat.{ℕ, ◌+◌, ◌^◌, ◌≤◌, ◌<◌}
use native.Mathlib.Decide.{ℕ_discrete, dec_lt}
use native.Mathlib.Numerals.{add-one}
use native.Mathlib.Omega.{arith}
use lib.Dec.{lit<, eqb}
use lib.ListN.{length, get_or, drop}
use lib.Seq.{drop-length}
use Rattle.base.specs.Branch.{when◌then◌else◌}
use Rattle.base.specs.Update.{update}
use Rattle.base.proofs.Update.{update_at, update_off}
use Rattle.rules.specs.declared.Player.TheVariants.{X}
use Rattle.rules.specs.declared.GameState.{GameState}
use Rattle.rules.specs.declared.GameState.TheVariants.{InPlay}
use Rattle.rules.specs.Position.{Position}
use Rattle.text.specs.Bytes.{at_mark}
use Rattle.text.specs.Reading.{overall_mark, first_bad, last_at, state_in}
use Rattle.text.proofs.ReadingScan.{Known, →first_bad, →none_bad, last_at_steps}
use Rattle.text.proofs.Reading.{state_in_at, said_fills}
use Rattle.boards.specs.declared.states.GlobalStates.{GlobalStates}
use Rattle.boards.specs.Packed.{state_at}
use Rattle.boards.specs.With.{with_state}
use Rattle.boards.proofs.With.{state_after}
use Rattle.game.specs.Built.{no_states}
use Rattle.game.proofs.Meaning.{new_game_means}
use Rattle.game.proofs.Neat.{with_state_neat}
use Rattle.notation.specs.Parts.{MarksSay}

-- what is due by the marks from i on, and what was due before them, is what all marks say
pub record MarksUpTo (os : List ℕ) (s : GlobalStates) (n : Option ℕ) (i : ℕ) : Type 0 where
  pub known : (k : ℕ) → k < i → Known os k
  pub read : (b : ℕ) → b < i → state_at s b ≡ state_in os b
  pub unread : (b : ℕ) → i ≤ b → state_at s b ≡ InPlay
  pub x_fits : s.x < 2 ^ 9
  pub o_fits : s.o < 2 ^ 9
  pub due_is : last_at i (drop i os) n ≡ last_at 0 os None

pub none_marked : (os : List ℕ) → MarksUpTo os no_states None 0
none_marked os = record {
  known = λ k h. absurd (omega arith);
  read = λ k h. absurd (omega arith);
  unread = λ b _. ap (λ (p : Position). p.states b) new_game_means;
  x_fits = lit< tt;
  o_fits = lit< tt;
  due_is = refl;
}

module _ (os : List ℕ) (s : GlobalStates) (n : Option ℕ) (i : ℕ) (nine : length os ≡ 9) (m : MarksUpTo os s n i) where
  -- a bad mark is the first
  pub bad_found : i < 9 → overall_mark (get_or os i 0) ≡ None → first_bad os ≡ Some i
  bad_found h e = →first_bad os i (record { inside = omega arith; before = m.known; bad = λ t. rw e at t })

  -- one mark more
  module _ (h : i < 9) (g : GameState) (e : overall_mark (get_or os i 0) ≡ Some g)
      (n' : Option ℕ) (d : n' ≡ (when eqb (get_or os i 0) at_mark then (λ _. Some i) else λ _. n)) where
    said : state_in os i ≡ g
    said = state_in_at os i h (omega arith) ∙ rw e

    changed : state_at (with_state s i g) ≡ update (state_at s) i g
    changed = state_after s i g h (rw (m.unread i (omega arith)) tt)

    state_of : (b : ℕ) → state_at (with_state s i g) b ≡ update (state_at s) i g b
    state_of b = ap (λ (f : ℕ → GameState). f b) changed

    pub one_marked : MarksUpTo os (with_state s i g) n' (i + 1)
    one_marked = record {
      known = λ k l. elim (ℕ_discrete k i) [ yes q ↦ rw (q, e) tt | no q ↦ m.known k (omega arith) ];
      read = λ b l. elim (ℕ_discrete b i) [
        | yes q ↦ rw q (state_of i ∙ update_at (λ (z : GameState). z ≡ state_in os i) (state_at s) i g (sym said))
        | no q ↦ state_of b ∙ update_off (λ (z : GameState). z ≡ state_in os b) (state_at s) i g b (λ p. q (sym p))
            (m.read b (omega arith))
      ];
      unread =
          λ b l. state_of b ∙ update_off (λ (z : GameState). z ≡ InPlay) (state_at s) i g b (λ p. omega arith)
          (m.unread b (omega arith));
      x_fits = (with_state_neat s i h m.x_fits m.o_fits g).0;
      o_fits = (with_state_neat s i h m.x_fits m.o_fits g).1;
      due_is = rw (add-one i, d) (sym (last_at_steps i os n (omega arith)) ∙ m.due_is);
    }

-- all nine
pub all_marked : (os : List ℕ) (s : GlobalStates) (n : Option ℕ) → length os ≡ 9 → MarksUpTo os s n 9 → MarksSay os s n
unfolding last_at Rattle.text.specs.Reading.said
all_marked os s n nine m = record {
  none_bad = →none_bad os (λ k h. m.known k (omega arith));
  states_are = fun_ext (λ b. elim (dec_lt b 9) [
    | yes h ↦ m.read b h
    | no h ↦ m.unread b (omega (arith, h)) ∙ sym ((said_fills X os [] nine).state_over b (omega (arith, h)))
  ]);
  x_fits = m.x_fits;
  o_fits = m.o_fits;
  due_is = sym (ap (λ (t : List ℕ). last_at 9 t n) (ap (λ (k : ℕ). drop k os) (sym nine) ∙ drop-length os)) ∙ m.due_is;
}
