-- The steps on the search's state are those on the memory that it means.
use mathlib.Core.Path.{◌≡◌, refl, sym, ap, ◌∙◌}
use mathlib.Core.List.{List}
use Prim.Native.Nat.{ℕ, suc, ◌+◌, ◌<◌}
use native.Mathlib.Numerals.{unary_clauses, add-one}
use lib.ListN.{length, get_or, set}
use Rattle.std.proofs.lemmas.List.{get_or-map, map-set}
use Rattle.rules.specs.declared.Player.{Player}
use Rattle.rules.specs.declared.Player.TheVariants.{X, O}
use Rattle.rules.specs.Board.{other}
use Rattle.rules.specs.Play.{no_move}
use Rattle.theory.specs.Memory.{Responses, Memory, leaf, hit, answered, responses_to, cut}
use Rattle.boards.specs.declared.moves.Move.{Move}
use Rattle.minimax.specs.declared.ResponseTables.{ResponseTables}
use Rattle.minimax.specs.declared.search.SearchState.{SearchState}
use Rattle.minimax.specs.Report.{byte_of, bytes_of, responses_of}
use Rattle.minimax.specs.State.{memory_of}

-- the state with other counts
abbrev with_counts : SearchState → ℕ → ℕ → ℕ → SearchState
with_counts s terminal hits suffice = record {
  responses = s.responses;
  count = s.count;
  stats =
      record {
        depth = s.stats.depth;
        score = s.stats.score;
        visited = s.stats.visited;
        terminal = terminal;
        cuts = s.stats.cuts;
        tt_hit = hits;
        tt_suffice = suffice;
      };
}

abbrev pub with_hit : SearchState → SearchState
with_hit s = with_counts s s.stats.terminal (s.stats.tt_hit + 1) s.stats.tt_suffice

module _ (s : SearchState) (words : List ℕ) where
  pub leaf_reached : memory_of (with_counts s (s.stats.terminal + 1) s.stats.tt_hit s.stats.tt_suffice) words ≡ leaf (memory_of s words)
  unfolding leaf
  leaf_reached = simp unary_clauses refl

  pub was_hit : memory_of (with_hit s) words ≡ hit (memory_of s words)
  unfolding hit
  was_hit = simp unary_clauses refl

  pub sufficed : memory_of (with_counts s s.stats.terminal s.stats.tt_hit (s.stats.tt_suffice + 1)) words ≡ answered (memory_of s words)
  unfolding answered
  sufficed = simp unary_clauses refl

-- ---- moves as bytes
pub get_or_bytes : (l : List Move) (i : ℕ) (d : Move) (n : ℕ) → i < length l → byte_of (get_or l i d) ≡ get_or (bytes_of l) i n
get_or_bytes l i d n h = sym (get_or-map byte_of l i d n h)

-- ---- response tables
module _ (s : SearchState) (words : List ℕ) (prev : Move) where
  pub response_by : (l : List Move) (w : Player) → responses_to (memory_of s words) (other w) ≡ bytes_of l → prev.bits < length l →
      (d : Move) → byte_of (get_or l prev.bits d) ≡ get_or (responses_to (memory_of s words) (other w)) prev.bits no_move
  response_by l w e h d = sym (get_or-map byte_of l prev.bits d no_move h) ∙ ap (λ (bs : List ℕ). get_or bs prev.bits no_move) (sym e)

module _ (s : SearchState) (words : List ℕ) (prev m : Move) where
  -- one more cut, and other tables
  abbrev after_cut : ResponseTables → SearchState
  after_cut tables = record {
    responses = tables;
    count = s.count;
    stats =
        record {
          depth = s.stats.depth;
          score = s.stats.score;
          visited = s.stats.visited;
          terminal = s.stats.terminal;
          cuts = s.stats.cuts + 1;
          tt_hit = s.stats.tt_hit;
          tt_suffice = s.stats.tt_suffice;
        };
  }

  abbrev cut_means : Responses → Memory
  cut_means rs = record {
    count = s.count;
    tally =
        record {
          visited = s.stats.visited;
          terminal = s.stats.terminal;
          cuts = suc s.stats.cuts;
          tt_hit = s.stats.tt_hit;
          tt_suffice = s.stats.tt_suffice;
        };
    responses = rs;
    table = words;
  }

  cut_with : (tables : ResponseTables) (rs : Responses) → responses_of tables ≡ rs →
      memory_of (after_cut tables) words ≡ cut_means rs
  cut_with tables rs e = λ i. record {
    count = s.count;
    tally =
        record {
          visited = s.stats.visited;
          terminal = s.stats.terminal;
          cuts = add-one s.stats.cuts i;
          tt_hit = s.stats.tt_hit;
          tt_suffice = s.stats.tt_suffice;
        };
    responses = e i;
    table = words;
  }

  pub cut_x : (w : Player) → w ≡ X
      → memory_of (after_cut (record { x = s.responses.x; o = set s.responses.o prev.bits m })) words
      ≡ cut w (memory_of s words) prev.bits m.bits
  unfolding cut
  cut_x w e = cut_with (record { x = s.responses.x; o = set s.responses.o prev.bits m }) _
      (λ i. record { to_x = bytes_of s.responses.x; to_o = map-set byte_of s.responses.o prev.bits m i })
      ∙ ap (λ (v : Player). cut v (memory_of s words) prev.bits m.bits) (sym e)

  pub cut_o : (w : Player) → w ≡ O
      → memory_of (after_cut (record { x = set s.responses.x prev.bits m; o = s.responses.o })) words
      ≡ cut w (memory_of s words) prev.bits m.bits
  unfolding cut
  cut_o w e = cut_with (record { x = set s.responses.x prev.bits m; o = s.responses.o }) _
      (λ i. record { to_x = map-set byte_of s.responses.x prev.bits m i; to_o = bytes_of s.responses.o })
      ∙ ap (λ (v : Player). cut v (memory_of s words) prev.bits m.bits) (sym e)
