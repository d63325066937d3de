-- The structs inside `analyze`: what a refusal reports, and what the completed depths mean.
use Rattle.std.specs.Prelude.{List, map, ℕ, pos, take, replicate}
use Rattle.rules.specs.Play.{no_move}
use Rattle.theory.specs.Limits.{console}
use Rattle.theory.specs.Memory.{Responses}
use Rattle.theory.specs.Deepening.{Completed}
use Rattle.theory.specs.Reported.{Reported, no_stats}
use Rattle.minimax.specs.declared.SearchError.{SearchError}
use Rattle.minimax.specs.declared.CompletedDepths.{CompletedDepths}
use Rattle.minimax.specs.Report.{search_error_number, is_spent, stats_of}
use Rattle.minimax.specs.State.{pv_of}

-- refused at the entry
abbrev pub refused_with : SearchError → Responses → List ℕ → Reported
refused_with e rs words = record {
  number = search_error_number e;
  is_stopped = is_spent e;
  depth = 0;
  score = pos 0;
  pv = replicate console.deepest no_move;
  stats = replicate console.deepest no_stats;
  count = 0;
  responses = rs;
  table = words;
}

-- ---- the completed depths
abbrev pub completed_of : CompletedDepths → Completed
completed_of d = record {
  depth = d.depth;
  score = d.score;
  pv = pv_of d.pv d.depth;
  stats = take d.depth (map stats_of d.stats);
}
