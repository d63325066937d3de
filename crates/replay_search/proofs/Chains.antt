-- A record's responses at the start, its searches, and its line.
use Rattle.std.specs.Prelude.{Option, None, Some}
use mathlib.Core.Path.{◌≡◌, refl, sym, ap, ◌∙◌}
use mathlib.Core.List.{List, [], ◌∷◌, ◌++◌}
use Prim.Native.Nat.{ℕ, ◌%◌, ◌<◌}
use native.Mathlib.Omega.{arith}
use lib.ListN.{length, get_or, take, set}
use lib.Seq.{length-take-le}
use borrow.Author.Tests.{eq-eqb, ne_eqb}
use Rattle.rules.specs.declared.Player.{Player}
use Rattle.rules.specs.declared.Player.TheVariants.{X, O}
use Rattle.rules.specs.Board.{side_from}
use Rattle.base.specs.Branch.{when◌then◌else◌}
use Rattle.theory.specs.Memory.{Responses, no_responses, with_response}
use Rattle.minimax.specs.declared.ResponseTables.{ResponseTables}
use Rattle.minimax.specs.declared.Minimax.{Minimax}
use Rattle.minimax.specs.Report.{bytes_of, responses_of, empty_responses}
use Rattle.minimax.proofs.ReportPlaces.{bytes_set}
use Rattle.decimals.specs.Lists.{list_of, ListRead}
use Rattle.decimals.proofs.ListsHeld.{read_fits}
use Rattle.replay_search.specs.Chains.{most_numbers, with_responses, from_triples, start_of, begun_of}

-- ---- one response more
module _ (t : ResponseTables) (who : Player) (prev m : ℕ) where
  pub with_x : who ≡ X → responses_of (record { x = set t.x prev (record { bits = m }); o = t.o })
      ≡ with_response (responses_of t) who prev m
  with_x h = rw h (ap (λ (ns : List ℕ). record { to_x = ns; to_o = bytes_of t.o }) (bytes_set t.x prev (record { bits = m })))

  pub with_o : who ≡ O → responses_of (record { x = t.x; o = set t.o prev (record { bits = m }) })
      ≡ with_response (responses_of t) who prev m
  with_o h = rw h (ap (λ (ns : List ℕ). record { to_x = bytes_of t.x; to_o = ns }) (bytes_set t.o prev (record { bits = m })))

-- ---- responses of triples
pub empty_is : responses_of empty_responses.responses ≡ no_responses
empty_is = refl

pub triple_next : (ns triple rest : List ℕ) (rs r : Responses) → ns ≡ triple ++ rest → length triple ≡ 3 →
    r ≡ with_response rs (side_from (get_or triple 0 0)) (get_or triple 1 0 % 256) (get_or triple 2 0 % 256) →
    with_responses r rest ≡ with_responses rs ns
unfolding with_responses
triple_next ns [] rest rs r e h f = absurd (omega arith)
triple_next ns (a ∷ []) rest rs r e h f = absurd (omega arith)
triple_next ns (a ∷ b ∷ []) rest rs r e h f = absurd (omega arith)
triple_next ns (a ∷ b ∷ d ∷ []) rest rs r e h f = rw (e, f)
triple_next ns (a ∷ b ∷ d ∷ x ∷ xs) rest rs r e h f = absurd (omega arith)

pub triples_end : (rs : Responses) (ns : List ℕ) → length ns < 3 → with_responses rs ns ≡ rs
unfolding with_responses
triples_end rs [] h = refl
triples_end rs (a ∷ []) h = refl
triples_end rs (a ∷ b ∷ []) h = refl
triples_end rs (a ∷ b ∷ d ∷ ns) h = absurd (omega arith)

-- ---- a list that was read is the first words, as many as were counted
pub first_counted : (text words after : List ℕ) (r : Option ℕ) → ListRead text words r after → length after ≡ length words →
    (n : ℕ) → r ≡ Some n → n ≡ length (take n after)
first_counted text words after r h l n e = sym (length-take-le n after (omega (arith, read_fits text words after r h n e, l)))

-- ---- the responses at the start
start_read : (text : List ℕ) → 0 < length text → start_of text ≡ from_triples (list_of most_numbers text)
unfolding start_of
start_read [] h = absurd (omega arith)
start_read (b ∷ bs) h = refl

pub begun_none : (text : List ℕ) (m : Minimax) → length text ≡ 0 → m ≡ empty_responses → begun_of (Some m) ≡ start_of text
unfolding start_of
begun_none [] m h e = ap (λ (q : Minimax). Some (responses_of q.responses)) e ∙ ap Some empty_is
begun_none (b ∷ bs) m h e = absurd (omega arith)

module _ (text : List ℕ) (h : 0 < length text) where
  pub begun_bad : list_of most_numbers text ≡ None → begun_of None ≡ start_of text
  begun_bad e = sym (start_read text h ∙ ap from_triples e)

  module _ (ns : List ℕ) (e : list_of most_numbers text ≡ Some ns) (n : ℕ) (l : n ≡ length ns) where
    pub begun_uneven : (n % 3 ≡ 0 → ⊥) → begun_of None ≡ start_of text
    unfolding when◌then◌else◌
    begun_uneven t = sym (start_read text h ∙ ap from_triples e ∙ rw (← l, ne_eqb (n % 3) 0 t))

    pub begun_read : (m : Minimax) → n % 3 ≡ 0 → responses_of m.responses ≡ with_responses no_responses ns →
        begun_of (Some m) ≡ start_of text
    unfolding when◌then◌else◌
    begun_read m t f = ap Some f ∙ sym (start_read text h ∙ ap from_triples e ∙ rw (← l, eq-eqb (n % 3) 0 t))
