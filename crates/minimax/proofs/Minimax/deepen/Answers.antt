-- Each turn is one depth of the definition's.
use mathlib.Core.Path.{ap, ◌∙◌}
use native.Mathlib.Omega.{arith}
use Rattle.theory.specs.Deepening.{SearchAnswer}
use Rattle.theory.specs.Reported.{Reported, report}
use Rattle.minimax.specs.Structs.{structs}
use Rattle.minimax.specs.Report.{scoring_of}
use Rattle.minimax.proofs.StateScores.{told}
use Rattle.minimax.proofs.ReportDeepening.{Begun, going_first, going_done, Turn, root_asked, root_counted, going_stopped}
use Rattle.minimax.proofs.ReportDeepening.{going_decided, going_on}
use Rattle.minimax.proofs.Minimax.deepen.Goals as goal
use Rattle.minimax.proofs.Minimax.deepen.Goals.{After-new-state, After-root}

-- where the depths begin
abbrev begun : After-new-state → Begun
begun c = record {
  m = c.args.self;
  g = c.args.game;
  c = c.args.config;
  words = c.args.words.now;
  limits = c.requires;
  values = c.new-values.result;
  values_are = c.new-values.ensures;
  whole = c.none-completed.result;
  s = c.new-state.result;
  none = c.none-completed.ensures;
  fresh = c.new-state.ensures;
}

pub loop-completed-init : goal.loop-completed-init
loop-completed-init c = going_first (begun (goal.at.loop-completed-init c).After-new-state)

-- what a turn asks of the search
abbrev turn : After-root → Turn
turn c = record {
  begun = record {
    m = c.args.self;
    g = c.args.game;
    c = c.args.config;
    words = c.args.words.now;
    limits = c.requires;
    values = c.new-values.result;
    values_are = c.new-values.ensures;
    whole = c.none-completed.result;
    s = c.new-state.result;
    none = c.none-completed.ensures;
    fresh = c.new-state.ensures;
  };
  words = c.loop-completed.words;
  whole = c.loop-completed.completed;
  s = c.loop-completed.state;
  going = c.loop-completed.invariant;
  more = c.loop-completed-test.true;
  root = c.root.result;
  root_is = c.root.ensures;
  t = c.begin.new.self;
  begins = c.begin.ensures;
}

pub minimax-requires : goal.minimax-requires
minimax-requires c = let x = turn (goal.at.minimax-requires c).After-root in (root_asked x, root_counted x)

-- what is reported of an answer
abbrev reports : Begun → SearchAnswer → Reported
reports b a = report (structs (scoring_of b.c)) b.g a

pub returns-in_default : goal.returns-in_default
returns-in_default c =
    let x = turn (goal.at.returns-in_default c).After-root in
    c.report.ensures (scoring_of x.begun.c) x.begun.g _ ∙ ap (reports x.begun) (going_stopped x c.in_default.ensures)

pub returns-then-is_decided : goal.returns-then-is_decided
returns-then-is_decided c =
    let x = turn (goal.at.returns-then-is_decided c).After-root in
    c.report-then-is_decided.ensures (scoring_of x.begun.c) x.begun.g _
    ∙ ap (reports x.begun) (going_decided x c.in-Some.ensures c.minimax.auto.words (told c.in-Some.score (omega arith))
    c.deeper-completed.result c.deeper-completed.ensures c.is_decided.ensures c.if-is_decided.true)

pub loop-completed-preserved : goal.loop-completed-preserved
loop-completed-preserved c =
    going_on (turn (goal.at.loop-completed-preserved c).After-root) c.in-Some.ensures c.minimax.auto.words
    (told c.in-Some.score (omega arith)) c.deeper-completed.result c.deeper-completed.ensures c.is_decided.ensures c.if-is_decided.false

pub returns : goal.returns
returns c =
    let b = begun (goal.at.returns c).After-new-state in
    c.report-2.ensures (scoring_of b.c) b.g _ ∙ ap (reports b) (going_done b c.loop-completed.invariant c.loop-completed-test.false)
