-- What a search carries along: the count of positions entered, the counts of its depth, the response tables, and the table.
use Rattle.std.specs.Prelude.{List, [], ◌∷◌, ℕ, suc, eqb, get_or, set, replicate}
use Rattle.rules.specs.declared.Player.{Player}
use Rattle.rules.specs.declared.Player.TheVariants.{X, O}
use Rattle.base.specs.Branch.{when◌then◌else◌}
use Rattle.rules.specs.Board.{other}
use Rattle.rules.specs.Play.{no_move}

-- the counts of one depth
pub record Tally : Type 0 where
  pub visited : ℕ
  pub terminal : ℕ
  pub cuts : ℕ
  pub tt_hit : ℕ
  pub tt_suffice : ℕ

abbrev pub counts : ℕ → ℕ → ℕ → ℕ → ℕ → Tally
counts v t c h f = record { visited = v; terminal = t; cuts = c; tt_hit = h; tt_suffice = f }

abbrev pub no_tally : Tally
no_tally = counts 0 0 0 0 0

-- the response tables, one for moves of X and one for moves of O: at the move's byte, the empty move where there is none
pub record Responses : Type 0 where
  pub to_x : List ℕ
  pub to_o : List ℕ

abbrev pub no_responses : Responses
no_responses = record { to_x = replicate 256 no_move; to_o = replicate 256 no_move }

pub record Memory : Type 0 where
  -- positions entered, over all depths
  pub count : ℕ
  pub tally : Tally
  pub responses : Responses
  pub table : List ℕ

abbrev pub fresh_memory : Responses → List ℕ → Memory
fresh_memory rs words = record { count = 0; tally = no_tally; responses = rs; table = words }

abbrev pub with_tally : Memory → Tally → Memory
with_tally s t = record { count = s.count; tally = t; responses = s.responses; table = s.table }

abbrev pub with_table : Memory → List ℕ → Memory
with_table s words = record { count = s.count; tally = s.tally; responses = s.responses; table = words }

-- ---- what is counted
-- a depth begins
unfoldable pub begin : Memory → Memory
begin s = with_tally s no_tally

-- a position is entered
unfoldable pub enter : Memory → Memory
enter s = let t = s.tally in record {
  count = suc s.count;
  tally = counts (suc t.visited) t.terminal t.cuts t.tt_hit t.tt_suffice;
  responses = s.responses;
  table = s.table;
}

-- it is not searched further
unfoldable pub leaf : Memory → Memory
leaf s = let t = s.tally in with_tally s (counts t.visited (suc t.terminal) t.cuts t.tt_hit t.tt_suffice)

-- the table has an entry for it
unfoldable pub hit : Memory → Memory
hit s = let t = s.tally in with_tally s (counts t.visited t.terminal t.cuts (suc t.tt_hit) t.tt_suffice)

-- which suffices
unfoldable pub answered : Memory → Memory
answered s = let t = s.tally in with_tally s (counts t.visited t.terminal t.cuts t.tt_hit (suc t.tt_suffice))

-- ---- response tables
abbrev pub responses_to : Memory → Player → List ℕ
responses_to s X = s.responses.to_x
responses_to s O = s.responses.to_o

-- m becomes the response to a side's move
abbrev pub with_response : Responses → Player → ℕ → ℕ → Responses
with_response rs X prev m = record { to_x = set rs.to_x prev m; to_o = rs.to_o }
with_response rs O prev m = record { to_x = rs.to_x; to_o = set rs.to_o prev m }

-- a cut by move m, with w to move: it becomes the response to the previous move, which the other side made
unfoldable pub cut : Player → Memory → ℕ → ℕ → Memory
cut w s prev m = let t = s.tally in record {
  count = s.count;
  tally = counts t.visited t.terminal (suc t.cuts) t.tt_hit t.tt_suffice;
  responses = with_response s.responses (other w) prev m;
  table = s.table;
}

-- the move, unless it is the empty one
unfoldable pub some_move : ℕ → List ℕ
some_move m = when eqb m no_move then (λ _. []) else λ _. m ∷ []

-- what is tried before the list of moves, with w to move: the response to the previous move, or lacking one the variation's move
unfoldable pub hints : Player → Memory → ℕ → List ℕ → List ℕ
hints w s prev pv =
    let response = get_or (responses_to s (other w)) prev no_move in
    when eqb response no_move then (λ _. some_move (get_or pv 0 no_move)) else λ _. response ∷ []
